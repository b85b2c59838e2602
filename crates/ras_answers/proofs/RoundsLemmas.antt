-- What `rounds` answers, by what was read and run.
use Rattle.std.proofs.Common.{ℕ, ◌≡◌, ◌+◌, ◌<◌, ◌≤◌, ◌∙◌, Bool, true, false, List, [], ◌∷◌, ◌++◌, length, length-append, arith, sym, ap, subst, refl, Option, Some, None, IfSome, Result, Ok, Err}
use Rattle.std.specs.Prelude.{◌&&◌, ◌||◌, nat_lt, is_some}
use Rattle.std.proofs.lemmas.Bool.Decides.{nat_tests}
use Rattle.ras_inventory.specs.RegionRule.{server_names}
use Rattle.plan_model.specs.declared.cases.Case.{Case}
use Rattle.program_rows.specs.declared.fault.SizeFault.{SizeFault}
use Rattle.program_rows.specs.declared.fault.SizeFault.TheVariants.{Columns, Rows, Memory}
use Rattle.program_rows.specs.Sizes.{IsFault}
use Rattle.ras_rounds.specs.Scripts.{script_of}
use Rattle.ras_rounds.specs.declared.entries.Entry.{Entry}
use Rattle.rounds_text.specs.declared.options.RoundOptions.{RoundOptions}
use Rattle.rounds_text.specs.declared.done.Round.{Round}
use Rattle.rounds_text.specs.Scripts.{rounds_of}
use Rattle.rounds_text.specs.Rounds.{Agenda, DoneRound, IsRound}
use Rattle.rounds_text.specs.Runs.{AreFirstRounds, IsNext, IsOver, Run}
use Rattle.rounds_text.proofs.EventFacts.{some-round}
use Rattle.rounds_text.proofs.RunFacts.{first-more}
use Rattle.ras_answers.specs.declared.all.CaseFiles.{CaseFiles}
use Rattle.ras_answers.specs.declared.inputs.InputFault.{InputFault}
use Rattle.ras_answers.specs.declared.answer.Ending.{Ending}
use Rattle.ras_answers.specs.declared.rounds.RoundsRun.{RoundsRun}
use Rattle.ras_answers.specs.declared.rounds.RoundAnswer.TheVariants as given
use Rattle.ras_answers.specs.Answered.{Invalid}
use Rattle.ras_answers.specs.Inputs.{AreCaseFiles, SeenCase, case_read, note_in, or_note, script_line, script_read, told, with_note}
use Rattle.ras_answers.specs.Solve.{region_size, size_answer}
use Rattle.ras_answers.specs.Rounds.{AreRoundsFiles, AreTexts, ByRoundsNote, Ended, IsBegun, IsTooLarge, Noted, GivesRound, RoundsAnswers, RoundsEnd, StandsAfter, end_with, ending_with, is_limit, last_answer, rounds_ending, rounds_note, some_spent, texts_of}
use Rattle.ras_answers.proofs.InputLemmas.{files-read, first-note, in-note, later-note, seen-files}

-- ---- lists of rounds, one round on

or-assoc : (a b c : Bool) → (a || (b || c)) ≡ ((a || b) || c)
or-assoc true b c = refl
or-assoc false b c = refl

or-false : (a : Bool) → (a || false) ≡ a
or-false true = refl
or-false false = refl

spent-more : (rounds : List DoneRound) (round : DoneRound) → some_spent (rounds ++ round ∷ []) ≡ (some_spent rounds || is_limit round.document.answer)
spent-more [] round = or-false (is_limit round.document.answer)
spent-more (first ∷ rounds) round =
    ap (λ b. is_limit first.document.answer || b) (spent-more rounds round)
    ∙ or-assoc (is_limit first.document.answer) (some_spent rounds) (is_limit round.document.answer)

last-more : (rounds : List DoneRound) (round : DoneRound) → last_answer (rounds ++ round ∷ []) ≡ round.document.answer
last-more [] round = refl
last-more (first ∷ []) round = refl
last-more (first ∷ (next ∷ rounds)) round = last-more (next ∷ rounds) round

texts-more : (rounds : List DoneRound) (round : DoneRound) → texts_of (rounds ++ round ∷ []) ≡ texts_of rounds ++ round.text ∷ []
texts-more [] round = refl
texts-more (first ∷ rounds) round = ap (λ (xs : List (List ℕ)). first.text ∷ xs) (texts-more rounds round)

-- ---- files

abbrev script-with : List ℕ → SeenCase → Result (List Entry) (List ℕ)
script-with s files = script_read (server_names files.region.servers) s

-- the note on the first file of a case
pub case-note : (f : InputFault) (i r b s : List ℕ) → IfSome (told f) (λ n. case_read i r b ≡ Err n) → IfSome (told f) (λ n. rounds_note i r b s ≡ Some n)
case-note f i r b s h = in-note f (or_note (case_read i r b) (script-with s)) (first-note f (case_read i r b) (script-with s) h)

-- the note on the script
pub script-note : (f : InputFault) (i r b s : List ℕ) (files : CaseFiles) → AreCaseFiles i r b files
    → IfSome (told f) (λ n. script_read (server_names files.region.servers) s ≡ Err n) → IfSome (told f) (λ n. rounds_note i r b s ≡ Some n)
script-note f i r b s files read last =
    in-note f (or_note (case_read i r b) (script-with s)) (later-note f (case_read i r b) (seen-files files) (script-with s) (files-read i r b files read) last)

-- no file is refused where each is read
all-valid : (i r b s : List ℕ) (files : CaseFiles) (entries : List Entry) → AreCaseFiles i r b files → script_of (server_names files.region.servers) s ≡ Ok entries → rounds_note i r b s ≡ None
all-valid i r b s files entries read last =
    ap (λ x. note_in (or_note x (script-with s))) (files-read i r b files read) ∙ ap (λ x. note_in (with_note script_line x)) last

pub answers-texts : (i r b s : List ℕ) (options : RoundOptions) (texts : List (List ℕ)) (end : RoundsEnd) → AreTexts i r b s options texts end → RoundsAnswers i r b s options texts end
unfolding RoundsAnswers
answers-texts i r b s options texts end are =
    let read = are.firsts.read in
    subst (λ (o : Option (List ℕ)). ByRoundsNote i r b s options o texts end) (sym (all-valid i r b s read.files read.entries read.read read.script_is)) are

pub answers-noted : (i r b s : List ℕ) (options : RoundOptions) (note : List ℕ) → rounds_note i r b s ≡ Some note → RoundsAnswers i r b s options [] (Noted note)
unfolding RoundsAnswers
answers-noted i r b s options note some =
    subst (λ (o : Option (List ℕ)). ByRoundsNote i r b s options o [] (Noted note)) (sym some) (refl, refl)

-- ---- a run begins

pub begun-stands : (i r b s : List ℕ) (options : RoundOptions) (files : CaseFiles) (entries : List Entry) (run : RoundsRun) → AreCaseFiles i r b files
    → script_of (server_names files.region.servers) s ≡ Ok entries → IsBegun files entries options run → StandsAfter i r b s options [] run
begun-stands i r b s options files entries run read script_is begun =
    let few : 1 ≤ rounds_of run.rounds.agenda.entries = some-round run.rounds.agenda.entries in
    record {
      first = run.rounds.case;
      read = record { files = files; read = read; entries = entries; script_is = script_is; over = begun.over; joined = begun.joined };
      rounds = [];
      are = record { are = refl; few = omega arith };
      texts_are = refl;
      done = begun.done;
      more = omega (arith, few, begun.done);
      spent = begun.spent;
    }

-- ---- and goes on

module _ (i r b s : List ℕ) (options : RoundOptions) (texts : List (List ℕ)) (run : RoundsRun) (stands : StandsAfter i r b s options texts run) where
  firsts : (round : Round) (next : Run) (is : IsNext run.rounds round next)
      → AreFirstRounds run.rounds.agenda stands.first (stands.rounds ++ record { document = is.document; text = round.text.items; after = is.left } ∷ []) is.left
  firsts round next is =
      let done : DoneRound = record { document = is.document; text = round.text.items; after = is.left } in
      first-more run.rounds.agenda stands.first stands.rounds run.rounds.case done stands.are (omega (arith, stands.more, stands.done))
      (subst (λ (n : ℕ). IsRound run.rounds.agenda (n + 1) run.rounds.case done) stands.done is.is_round)

  grown : (text : List ℕ) (done : DoneRound) → done.text ≡ text → texts ++ text ∷ [] ≡ texts_of (stands.rounds ++ done ∷ [])
  grown text done same =
      ap (λ (xs : List (List ℕ)). xs ++ text ∷ []) stands.texts_are ∙ ap (λ (t : List ℕ). texts_of stands.rounds ++ t ∷ []) (sym same) ∙ sym (texts-more stands.rounds done)

  -- a further round follows
  pub goes-on : (round : Round) (after : RoundsRun) → IsNext run.rounds round after.rounds → after.spent ≡ (run.spent || is_limit round.answer) → round.goes_on ≡ true
      → StandsAfter i r b s options (texts ++ round.text.items ∷ []) after
  goes-on round after is spent goes = by is.left refl is.case
    where
      by : (left : Option Case) → is.left ≡ left → IfSome left (λ c. after.rounds.case ≡ c) → StandsAfter i r b s options (texts ++ round.text.items ∷ []) after
      by None e same = let never : false ≡ true = ap (λ o. is_some o && nat_lt (run.rounds.done + 1) (rounds_of run.rounds.agenda.entries)) (sym e) ∙ sym is.goes_on ∙ goes in absurd cc
      by (Some c) e same =
          let done : DoneRound = record { document = is.document; text = round.text.items; after = is.left } in
          let more : nat_lt (run.rounds.done + 1) (rounds_of run.rounds.agenda.entries) ≡ true =
          ap (λ o. is_some o && nat_lt (run.rounds.done + 1) (rounds_of run.rounds.agenda.entries)) (sym e) ∙ sym is.goes_on ∙ goes in
          let below : run.rounds.done + 1 < rounds_of run.rounds.agenda.entries = grind (arith, nat_tests, more) in
          let entries_same : rounds_of after.rounds.agenda.entries ≡ rounds_of run.rounds.agenda.entries = ap (λ (a : Agenda). rounds_of a.entries) is.agenda in
          record {
            first = stands.first;
            read = subst (λ (a : Agenda). AreRoundsFiles i r b s options a stands.first) (sym is.agenda) stands.read;
            rounds = stands.rounds ++ done ∷ [];
            are = subst (λ (a : Agenda). AreFirstRounds a stands.first (stands.rounds ++ done ∷ []) (Some after.rounds.case)) (sym is.agenda)
                (subst (λ (o : Option Case). AreFirstRounds run.rounds.agenda stands.first (stands.rounds ++ done ∷ []) o) (e ∙ ap Some (sym same)) (firsts round after.rounds is));
            texts_are = grown round.text.items done refl;
            done = omega (arith, is.done, stands.done, length-append stands.rounds (done ∷ []));
            more = omega (arith, is.done, below, entries_same);
            spent = spent ∙ ap (λ a. run.spent || is_limit a) is.answer ∙ ap (λ x. x || is_limit is.document.answer) stands.spent ∙ sym (spent-more stands.rounds done);
          }

  -- or the run has ended
  pub ends : (round : Round) (after : RoundsRun) → IsNext run.rounds round after.rounds → after.spent ≡ (run.spent || is_limit round.answer) → round.goes_on ≡ false
      → RoundsAnswers i r b s options (texts ++ round.text.items ∷ []) (Ended (ending_with after.spent round.answer))
  ends round after is spent goes =
      answers-texts i r b s options (texts ++ round.text.items ∷ []) (Ended (ending_with after.spent round.answer))
      (record {
        firsts = record {
          agenda = run.rounds.agenda;
          first = stands.first;
          read = stands.read;
          rounds = stands.rounds ++ done ∷ [];
          left = is.left;
          are = firsts round after.rounds is;
          texts_are = grown round.text.items done refl;
        };
        ends = (over is.left goes-not, spent-right ∙ answer-right);
      })
    where
      done : DoneRound
      done = record { document = is.document; text = round.text.items; after = is.left }

      goes-not : (is_some is.left && nat_lt (run.rounds.done + 1) (rounds_of run.rounds.agenda.entries)) ≡ false
      goes-not = sym is.goes_on ∙ goes

      all-spent : after.spent ≡ some_spent (stands.rounds ++ done ∷ [])
      all-spent = spent ∙ ap (λ a. run.spent || is_limit a) is.answer ∙ ap (λ x. x || is_limit is.document.answer) stands.spent ∙ sym (spent-more stands.rounds done)

      spent-right : ending_with after.spent round.answer ≡ ending_with (some_spent (stands.rounds ++ done ∷ [])) round.answer
      spent-right = ap (λ x. ending_with x round.answer) all-spent

      answer-right : ending_with (some_spent (stands.rounds ++ done ∷ [])) round.answer ≡ rounds_ending (stands.rounds ++ done ∷ [])
      answer-right = ap (ending_with (some_spent (stands.rounds ++ done ∷ []))) (is.answer ∙ sym (last-more stands.rounds done))

      over : (left : Option Case) → (is_some left && nat_lt (run.rounds.done + 1) (rounds_of run.rounds.agenda.entries)) ≡ false
          → IsOver run.rounds.agenda (length (stands.rounds ++ done ∷ [])) left
      over None e = tt
      over (Some c) e =
          let not-below : nat_lt (run.rounds.done + 1) (rounds_of run.rounds.agenda.entries) ≡ false = e in
          grind (arith, nat_tests, not-below, stands.more, stands.done, length-append stands.rounds (done ∷ []))

  -- or the program of the next round is too large
  pub too-large : (fault : SizeFault) (note : List ℕ) → IsFault (region_size run.rounds.case) fault → size_answer fault ≡ Some (Invalid note) → RoundsAnswers i r b s options texts (Noted note)
  too-large fault note is noted =
      answers-texts i r b s options texts (Noted note)
      (record {
        firsts = record {
          agenda = run.rounds.agenda;
          first = stands.first;
          read = stands.read;
          rounds = stands.rounds;
          left = Some run.rounds.case;
          are = stands.are;
          texts_are = stands.texts_are;
        };
        ends = (omega (arith, stands.more, stands.done), sized fault is noted);
      })
    where
      sized : (f : SizeFault) → IsFault (region_size run.rounds.case) f → size_answer f ≡ Some (Invalid note) → IsTooLarge run.rounds.case note
      sized (Columns n) e told = (Columns n, (e, told))
      sized (Rows n) e told = (Rows n, (e, told))
      sized Memory e told = absurd cc

  -- what a round gives
  pub gives-round : (round : Round) (after : RoundsRun) (end : Option Ending) → IsNext run.rounds round after.rounds → after.spent ≡ (run.spent || is_limit round.answer)
      → end ≡ end_with round.goes_on after.spent round.answer → GivesRound i r b s options texts after (given.Printed round.text end)
  gives-round round after end is spent same = by round.goes_on refl
    where
      by : (flag : Bool) → round.goes_on ≡ flag → GivesRound i r b s options texts after (given.Printed round.text end)
      by true e =
          subst (λ (o : Option Ending). GivesRound i r b s options texts after (given.Printed round.text o)) (sym (same ∙ ap (λ x. end_with x after.spent round.answer) e))
          (goes-on round after is spent e)
      by false e =
          subst (λ (o : Option Ending). GivesRound i r b s options texts after (given.Printed round.text o)) (sym (same ∙ ap (λ x. end_with x after.spent round.answer) e))
          (ends round after is spent e)
