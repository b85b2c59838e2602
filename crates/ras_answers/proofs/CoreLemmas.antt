-- The documents of a core, and what is printed of them.
use Rattle.std.proofs.Common.{ℕ, ◌+◌, ◌<◌, ◌≡◌, ◌∙◌, sym, ap, ap₂, ◌≤◌, subst, arith, List, [], ◌∷◌, ◌++◌, length, take, get_or, All, Option, Some, None, Ok, append_assoc, codes, inl, inr}
use Rattle.std.specs.Prelude.{flat_map}
use Rattle.std.specs.List.{enumerate_from, remove}
use Rattle.std.proofs.lemmas.List.{append-nil, get_or-map, length-map, take_all, take_more}
use Rattle.std.proofs.lemmas.List.Concat.{flat_map-append}
use Rattle.std.proofs.lemmas.List.Elements.{All-append, All-cons, All-from_get_or, All-get_or, All-head, All-nil, All-tail, All-weaker}
use Rattle.std.proofs.lemmas.List.FromFn.{get_or-enumerate_from, length-enumerate_from}
use Rattle.ras_inventory.specs.RegionRule.{server_names}
use Rattle.ras_requests.specs.declared.all.Requests.{Requests}
use Rattle.ras_requests.specs.declared.requests.Moves.{Moves}
use Rattle.ras_requests.specs.declared.requests.Reservation.{Reservation}
use Rattle.ras_requests.specs.Requested.{Requested}
use Rattle.ras_requests.specs.RequestsRule.{reservation_names}
use Rattle.program_rows.specs.declared.fault.SizeFault.{SizeFault}
use Rattle.program_rows.specs.declared.fault.SizeFault.TheVariants.{Columns, Rows, Memory}
use Rattle.plan_document.specs.declared.document.Document.{Document}
use Rattle.plan_document.specs.Documents.{document_of, seen_document}
use Rattle.plan_document.specs.Writable.{CanBeWritten}
use Rattle.plan_document.specs.Written.{document_text}
use Rattle.conflict_core.specs.declared.answer.CoreAnswer.{CoreAnswer}
use Rattle.conflict_core.specs.declared.answer.CoreAnswer.TheVariants.{Core, Fits, Limit}
use Rattle.conflict_core.specs.Kept.{AreMembers, all_members, kept_list}
use Rattle.conflict_core.specs.Answers.{ArePlans, IsCoreAnswer, IsDocumentOf}
use Rattle.conflict_core.proofs.Fewer.{all-members, kept-all, members-but}
use Rattle.ras_texts.specs.Sets.{names_line}
use Rattle.ras_answers.specs.declared.all.CaseFiles.{CaseFiles}
use Rattle.ras_answers.specs.Answered.{Printed}
use Rattle.ras_answers.specs.ByCase.{ByCaseNote, CaseAnswers}
use Rattle.ras_answers.specs.Cores.{AddsShown, CanBePrinted, CanBeShown, CoreIsChecked, HasPlanForEach, IsChecked, IsCheckedCore, IsCoreOf, IsCorePrinted, IsCoreText, IsReadAgain, Shown, core_ending, names_in, shown_of, shown_text, without_each}
use Rattle.ras_answers.specs.Inputs.{AreCaseFiles, case_read, note_in}
use Rattle.ras_answers.specs.Solve.{size_answer}
use Rattle.ras_answers.proofs.JoinLemmas.{places-many, wants-many}
use Rattle.ras_answers.proofs.SolveLemmas.{printed-text, solution-checked}

-- ---- each plan with its set

pub plans-many : (members : List ℕ) (plans : List Document) → length (without_each members plans) ≡ length plans
plans-many members plans = length-map (enumerate_from 0 plans) (λ plan. (remove members plan.0, plan.1)) ∙ length-enumerate_from 0 plans

pub plan-at : (members : List ℕ) (plans : List Document) (n : ℕ) (d : Shown) → n < length plans
    → get_or (without_each members plans) n d ≡ (remove members n, get_or plans n d.1)
plan-at members plans n d h =
    let there : n < length (enumerate_from 0 plans) = omega (arith, length-enumerate_from 0 plans) in
    let first : 0 + n ≡ n = omega arith in
    get_or-map (λ plan. (remove members plan.0, plan.1)) (enumerate_from 0 plans) n (0, d.1) d there
    ∙ (ap (λ (plan : ℕ × Document). (remove members plan.0, plan.1)) (get_or-enumerate_from 0 plans n (0, d.1) h)
    ∙ ap (λ k. (remove members k, get_or plans n d.1)) first)

-- ---- each document of an answer solves the case of its set

abbrev pub IsOne : CaseFiles → ℕ → Shown → Type 0
IsOne files nodes shown = AreMembers (length files.requests.list) shown.0 × IsDocumentOf files.region files.requests files.bindings shown.0 nodes shown.1

each-one : (files : CaseFiles) (nodes : ℕ) (members : List ℕ) (plans : List Document) (d : Shown) → AreMembers (length files.requests.list) members
    → ArePlans files.region files.requests files.bindings members nodes (length members) plans → All (IsOne files nodes) (without_each members plans)
each-one files nodes members plans d those are =
    All-from_get_or (IsOne files nodes) (without_each members plans) d (λ n h.
    let there : n < length plans = omega (arith, h, plans-many members plans) in
    let inside : n < length members = omega (arith, there, are.many) in
    subst (IsOne files nodes) (sym (plan-at members plans n d there)) (members-but members n (length files.requests.list) those, (are.each n d.1 inside).is))

pub answers-are : (files : CaseFiles) (nodes : ℕ) (answer : CoreAnswer) → IsCoreAnswer files.region files.requests files.bindings nodes answer
    → All (IsOne files nodes) (shown_of files.requests answer)
answers-are files nodes (Core members refutation plans) h =
    All-cons (IsOne files nodes) (members, refutation) (without_each members plans) (h.0.those, h.1.is) (each-one files nodes members plans (members, refutation) h.0.those h.2)
answers-are files nodes (Fits plan) h =
    All-cons (IsOne files nodes) (all_members files.requests, plan) [] (all-members (length files.requests.list), h.is) (All-nil (IsOne files nodes))
answers-are files nodes (Limit over document) h =
    All-cons (IsOne files nodes) (over, document) [] (h.0, h.1.is) (All-nil (IsOne files nodes))

-- ---- so it can be printed

can-show : (files : CaseFiles) (nodes : ℕ) (shown : Shown) → length files.bindings.of ≡ length files.region.servers → IsOne files nodes shown → CanBeShown files shown
can-show files nodes shown each one =
    let d = one.1 in
    record {
      those = one.0;
      writable = d.solution.writable (server_names files.region.servers) (names_in files shown.0)
          (places-many files.region d.is_case.kept files.bindings d.case each d.is_case.joined)
          (ap (λ (list : List Reservation). length (reservation_names list)) (sym d.is_case.is_kept.list) ∙ wants-many files.region d.is_case.kept files.bindings d.case d.is_case.joined);
    }

plan-for-each : (files : CaseFiles) (nodes : ℕ) (answer : CoreAnswer) → IsCoreAnswer files.region files.requests files.bindings nodes answer → HasPlanForEach answer
plan-for-each files nodes (Core members refutation plans) h = h.2.many
plan-for-each files nodes (Fits plan) h = tt
plan-for-each files nodes (Limit over document) h = tt

pub can-print : (files : CaseFiles) (nodes : ℕ) (answer : CoreAnswer) → length files.bindings.of ≡ length files.region.servers
    → IsCoreAnswer files.region files.requests files.bindings nodes answer → CanBePrinted files answer
can-print files nodes answer each h = record {
  shown = All-weaker (IsOne files nodes) (CanBeShown files) (λ s one. can-show files nodes s each one) (shown_of files.requests answer) (answers-are files nodes answer h);
  many = plan-for-each files nodes answer h;
}

-- ---- texts that grow

pub adds-both : (files : CaseFiles) (some more : List Shown) (before text after : List ℕ) → AddsShown files some before text → AddsShown files more text after
    → AddsShown files (some ++ more) before after
adds-both files some more before text after one two = record {
  text = two.text ∙ (ap (λ t. t ++ flat_map (shown_text files) more) one.text
      ∙ (append_assoc before (flat_map (shown_text files) some) (flat_map (shown_text files) more)
      ∙ ap (λ t. before ++ t) (sym (flat_map-append (shown_text files) some more))));
  again = All-append (IsReadAgain files) some more one.again two.again;
}

-- one plan more
pub adds-plan : (files : CaseFiles) (members : List ℕ) (plans : List Document) (n : ℕ) (fewer : List ℕ) (plan : Document) (before text after : List ℕ)
    → n < length plans → fewer ≡ remove members n → plan ≡ get_or plans n plan
    → AddsShown files (take n (without_each members plans)) before text → AddsShown files ((fewer, plan) ∷ []) text after
    → AddsShown files (take (n + 1) (without_each members plans)) before after
adds-plan files members plans n fewer plan before text after h without is one two =
    let there : n < length (without_each members plans) = omega (arith, h, plans-many members plans) in
    let same : get_or (without_each members plans) n (fewer, plan) ≡ (fewer, plan) =
    plan-at members plans n (fewer, plan) h ∙ ap₂ (λ (s : List ℕ) (d : Document). (s, d)) (sym without) (sym is) in
    let next : take (n + 1) (without_each members plans) ≡ take n (without_each members plans) ++ (fewer, plan) ∷ [] =
    take_more (without_each members plans) n (fewer, plan) there ∙ ap (λ s. take n (without_each members plans) ++ s ∷ []) same in
    subst (λ (list : List Shown). AddsShown files list before after) (sym next)
    (adds-both files (take n (without_each members plans)) ((fewer, plan) ∷ []) before text after one two)

-- all plans
pub adds-all : (files : CaseFiles) (members : List ℕ) (plans : List Document) (n : ℕ) (before text : List ℕ) → length plans ≤ n
    → AddsShown files (take n (without_each members plans)) before text → AddsShown files (without_each members plans) before text
adds-all files members plans n before text past grown =
    subst (λ (list : List Shown). AddsShown files list before text) (take_all n (without_each members plans) (omega (arith, past, plans-many members plans))) grown

-- the n-th plan can be shown
pub can-show-plan : (files : CaseFiles) (members : List ℕ) (plans : List Document) (n : ℕ) (fewer : List ℕ) (plan : Document) → n < length plans
    → fewer ≡ remove members n → plan ≡ get_or plans n plan → All (CanBeShown files) (without_each members plans) → CanBeShown files (fewer, plan)
can-show-plan files members plans n fewer plan h without is all =
    let there : n < length (without_each members plans) = omega (arith, h, plans-many members plans) in
    let same : get_or (without_each members plans) n (fewer, plan) ≡ (fewer, plan) =
    plan-at members plans n (fewer, plan) h ∙ ap₂ (λ (s : List ℕ) (d : Document). (s, d)) (sym without) (sym is) in
    subst (CanBeShown files) same (All-get_or (CanBeShown files) (without_each members plans) n (fewer, plan) there all)

-- ---- whole texts

-- a line, a refutation and plans
pub clash-text : (files : CaseFiles) (members : List ℕ) (refutation : Document) (plans : List Document) (kept : List Reservation) (empty line one after : List ℕ)
    → empty ≡ [] → kept ≡ kept_list files.requests.list members → line ≡ empty ++ names_line (codes "core") (reservation_names kept)
    → AddsShown files ((members, refutation) ∷ []) line one → AddsShown files (without_each members plans) one after → IsCoreText files (Core members refutation plans) after
clash-text files members refutation plans kept empty line one after none is line_is first rest =
    let both = adds-both files ((members, refutation) ∷ []) (without_each members plans) line one after first rest in
    let whole : line ≡ names_line (codes "core") (names_in files members) =
    line_is ∙ ap₂ (λ (t : List ℕ) (list : List Reservation). t ++ names_line (codes "core") (reservation_names list)) none is in
    record {
      is = both.text ∙ ap (λ t. t ++ flat_map (shown_text files) ((members, refutation) ∷ without_each members plans)) whole;
      again = both.again;
    }

-- a plan over all requests
pub whole-writable : (files : CaseFiles) (plan : Document) → CanBePrinted files (Fits plan)
    → CanBeWritten (server_names files.region.servers) (reservation_names files.requests.list) plan
whole-writable files plan can =
    subst (λ (list : List Reservation). CanBeWritten (server_names files.region.servers) (reservation_names list) plan) (kept-all files.requests.list)
    (All-head (CanBeShown files) (all_members files.requests, plan) [] can.shown).writable

pub whole-text : (files : CaseFiles) (plan : Document) (text : List ℕ)
    → text ≡ document_text (server_names files.region.servers) (reservation_names files.requests.list) (seen_document plan)
    → document_of (server_names files.region.servers) (reservation_names files.requests.list) text ≡ Ok (seen_document plan) → IsCoreText files (Fits plan) text
whole-text files plan text written again =
    let shown : Shown = (all_members files.requests, plan) in
    let servers = server_names files.region.servers in
    let whole = sym (kept-all files.requests.list) in
    let same : text ≡ shown_text files shown = written ∙ ap (λ (list : List Reservation). document_text servers (reservation_names list) (seen_document plan)) whole in
    record {
      is = same ∙ sym (append-nil (shown_text files shown));
      again = All-cons (IsReadAgain files) shown [] (subst (λ (t : List ℕ). document_of servers (names_in files shown.0) t ≡ Ok (seen_document plan)) same
          (subst (λ (list : List Reservation). document_of servers (reservation_names list) text ≡ Ok (seen_document plan)) whole again)) (All-nil (IsReadAgain files));
    }

-- ---- what is printed is checked

-- both are true of each
both-all : {X : Type 0} (P Q R : X → Type 0) → ((x : X) → P x → Q x → R x) → (xs : List X) → All P xs → All Q xs → All R xs
both-all P Q R f [] p q = All-nil R
both-all P Q R f (x ∷ xs) p q =
    All-cons R x xs (f x (All-head P x xs p) (All-head Q x xs q)) (both-all P Q R f xs (All-tail P x xs p) (All-tail Q x xs q))

abbrev seen-with : Moves → List Reservation → Requested
seen-with moves list = record { moves = moves; list = list }

checked-one : (i r b : List ℕ) (files : CaseFiles) (nodes : ℕ) (shown : Shown) → AreCaseFiles i r b files → IsOne files nodes shown → IsReadAgain files shown
    → IsChecked i b files shown
checked-one i r b files nodes shown read one again = λ bytes says.
    let d = one.1 in
    let kept : Requests = d.is_case.kept in
    let is_kept = d.is_case.is_kept in
    let those : CaseFiles = record { region = files.region; requests = kept; bindings = files.bindings } in
    let same = ap₂ (λ (moves : Moves) (list : List Reservation). seen-with moves list) (sym is_kept.moves) (sym is_kept.list) in
    solution-checked i bytes b (shown_text files shown) those d.case 1000000000000 nodes 0 shown.1
    (record { region_is = read.region_is; requests_are = says ∙ ap Ok same; bindings_are = read.bindings_are })
    d.is_case.joined d.solution
    (subst (λ (list : List Reservation). document_of (server_names files.region.servers) (reservation_names list) (shown_text files shown) ≡ Ok (seen_document shown.1)) (sym is_kept.list) again)

pub core-is-checked : CoreIsChecked
unfolding CaseAnswers
core-is-checked i r b nodes end text h = by-note (note_in (case_read i r b)) h
  where
    found : (files : CaseFiles) → AreCaseFiles i r b files → IsCorePrinted files nodes (Printed end text) → IsCheckedCore i r b text
    found files read p = record {
      files = files;
      read = read;
      answer = p.answer;
      is = printed-text end (core_ending p.answer) text p.print.text p.print.printed ∙ p.print.is_text.is;
      checked = both-all (IsOne files nodes) (IsReadAgain files) (IsChecked i b files) (λ s one again. checked-one i r b files nodes s read one again)
          (shown_of files.requests p.answer) (answers-are files nodes p.answer p.found) p.print.is_text.again;
    }

    large : (fault : SizeFault) → size_answer fault ≡ Some (Printed end text) → IsCheckedCore i r b text
    large (Columns n) told = absurd cc
    large (Rows n) told = absurd cc
    large Memory told = absurd cc

    by-answer : (files : CaseFiles) → AreCaseFiles i r b files → IsCoreOf files nodes (Printed end text) → IsCheckedCore i r b text
    by-answer files read h = elim h [
      | inl p ↦ found files read p
      | inr large_one ↦ large large_one.fault large_one.noted
    ]

    by-note : (o : Option (List ℕ)) → ByCaseNote (λ files. IsCoreOf files nodes) i r b o (Printed end text) → IsCheckedCore i r b text
    by-note (Some note) told = absurd cc
    by-note None on = by-answer on.files on.read on.answered
