-- The region of regular servers keeps its rule.
use Rattle.std.proofs.Common.{ℕ, ◌+◌, ◌<◌, ◌≤◌, ◌≡◌, ◌∙◌, sym, ap, refl, Bool, true, false, cond, not, ◌&&◌, ◌||◌, ◌==◌, nat_lt, nat_le, List, [], ◌∷◌, ◌++◌, length, map, take, get_or, Option, Some, is_some, arith}
use Rattle.std.proofs.Common.{subst}
use Rattle.std.specs.Bool.{⊤}
use Rattle.std.specs.List.{list_any, list_all}
use Rattle.std.specs.Str.{bytes_eq}
use Rattle.std.proofs.lemmas.Bool.Decides.{nat_tests}
use Rattle.std.proofs.lemmas.List.{map-append, take_more, length-map, length-take, length-append}
use Rattle.std.proofs.lemmas.List.Folds.{list_any-append}
use Rattle.ras_table.specs.Numbered.{after_number}
use Rattle.ras_table.specs.Names.{number_of, names_differ}
use Rattle.ras_table.proofs.NamesLemmas.{number-there, number-below, number-tells, same-bytes, bytes-same}
use Rattle.ras_inventory.specs.Lines.{distinct, distinct_from}
use Rattle.ras_inventory.proofs.LinesLemmas.{length-after}
use Rattle.ras_inventory.specs.HomeWords.{home_of}
use Rattle.ras_inventory.specs.Registers.{AreRegular, AreHomed, racks_on_boards, boards_in_centers}
use Rattle.ras_inventory.specs.Regions.{server_of, place_in, AreLabelsOf}
use Rattle.ras_inventory.specs.declared.labels.Labels.{Labels}
use Rattle.ras_inventory.specs.RegionRule.{region_rule, server_in_range, stand_together, server_names}
use Rattle.ras_inventory.specs.declared.line.Line.{Line}
use Rattle.ras_inventory.specs.declared.server.Server.{Server}

-- a server, by the numbers of its names
pub server-is : (lines : List Line) (l : Line) (name : List ℕ) (kind rack board center : ℕ) (types racks boards centers : List (List ℕ))
    → types ≡ distinct (map (λ l. l.kind) lines) → racks ≡ distinct (map (λ l. l.rack) lines) → boards ≡ distinct (map (λ l. l.board) lines) → centers ≡ distinct (map (λ l. l.center) lines)
    → name ≡ l.name → kind ≡ place_in types l.kind → rack ≡ place_in racks l.rack → board ≡ place_in boards l.board → center ≡ place_in centers l.center
    → record { name = name; kind = kind; rack = rack; board = board; center = center } ≡ server_of lines l
server-is lines l name kind rack board center types racks boards centers t r b c n e1 e2 e3 e4 = rw (n, e1, e2, e3, e4, t, r, b, c) refl

-- the servers of the lines up to the next
pub servers-next : (i : ℕ) (lines : List Line) (d l : Line) (servers : List Server) (s : Server) → i < length lines → servers ≡ map (server_of lines) (take i lines)
    → l ≡ get_or lines i d → s ≡ server_of lines l → servers ++ s ∷ [] ≡ map (server_of lines) (take (i + 1) lines)
servers-next i lines d l servers s within so at is =
    ap (λ (x : List Server). x ++ s ∷ []) so ∙ ap (λ (x : Server). map (server_of lines) (take i lines) ++ x ∷ []) (is ∙ ap (server_of lines) at)
    ∙ sym (ap (map (server_of lines)) (take_more lines i d within) ∙ map-append (server_of lines) (take i lines) (get_or lines i d ∷ []))

pub few-servers : (i : ℕ) (lines : List Line) → length (map (server_of lines) (take i lines)) ≤ i
few-servers i lines = omega (arith, length-map (take i lines) (server_of lines), length-take i lines)

-- each of these is so
abbrev pub Each : {X : Type 0} → (X → Type 0) → List X → Type 0
Each P [] = ⊤
Each P (x ∷ xs) = P x × Each P xs

each-map : {X Y : Type 0} (P : Y → Type 0) (f : X → Y) (xs : List X) → Each P (map f xs) → Each (λ x. P (f x)) xs
each-map P f [] e = e
each-map P f (x ∷ xs) e = (e.0, each-map P f xs e.1)

each-homed : (home : List ℕ → Option (List ℕ)) (f g : Line → List ℕ) (ls : List Line) → AreHomed home (map (λ l. (f l, g l)) ls) → Each (λ l. home (f l) ≡ Some (g l)) ls
each-homed home f g [] h = h
each-homed home f g (l ∷ ls) h = (h.0, each-homed home f g ls h.1)

is-there : List (List ℕ) → List ℕ → Type 0
is-there names q = list_any (bytes_eq q) names ≡ true

or-true : (b : Bool) → (b || true) ≡ true
or-true true = refl
or-true false = refl

-- names stay, and the one that is given is there
stays-named : (q : List ℕ) (names : List (List ℕ)) (x : List ℕ) → is-there names q → is-there (after_number names x) q
unfolding is-there
stays-named q names x there = by (is_some (number_of names x))
  where
    by : (b : Bool) → list_any (bytes_eq q) (cond b names (names ++ x ∷ [])) ≡ true
    by true = there
    by false = list_any-append (bytes_eq q) names (x ∷ []) ∙ ap (λ b. b || (bytes_eq q x || false)) there

given-named : (names : List (List ℕ)) (x : List ℕ) → is-there (after_number names x) x
unfolding is-there
given-named names x = by (is_some (number_of names x)) refl
  where
    by : (b : Bool) → is_some (number_of names x) ≡ b → list_any (bytes_eq x) (cond b names (names ++ x ∷ [])) ≡ true
    by true e = sym (number-there x names) ∙ e
    by false e = list_any-append (bytes_eq x) names (x ∷ []) ∙ rw (same-bytes x x refl) (or-true (list_any (bytes_eq x) names))

stays-distinct : (q : List ℕ) (found xs : List (List ℕ)) → is-there found q → is-there (distinct_from found xs) q
stays-distinct q found [] there = there
stays-distinct q found (x ∷ xs) there = stays-distinct q (after_number found x) xs (stays-named q found x there)

-- each name is among the names, each once
all-distinct : (found xs : List (List ℕ)) → Each (is-there (distinct_from found xs)) xs
all-distinct found [] = tt
all-distinct found (x ∷ xs) = (stays-distinct x (after_number found x) xs (given-named found x), all-distinct (after_number found x) xs)

-- what is known of one line among lines
record Stands (lines : List Line) (l : Line) : Type 0 where
  kind : list_any (bytes_eq l.kind) (distinct (map (λ l. l.kind) lines)) ≡ true
  rack : list_any (bytes_eq l.rack) (distinct (map (λ l. l.rack) lines)) ≡ true
  board : list_any (bytes_eq l.board) (distinct (map (λ l. l.board) lines)) ≡ true
  center : list_any (bytes_eq l.center) (distinct (map (λ l. l.center) lines)) ≡ true
  rack_home : home_of (racks_on_boards lines) l.rack ≡ Some l.board
  board_home : home_of (boards_in_centers lines) l.board ≡ Some l.center

each-stands : (lines ls : List Line) → Each (λ l. is-there (distinct (map (λ l. l.kind) lines)) l.kind) ls → Each (λ l. is-there (distinct (map (λ l. l.rack) lines)) l.rack) ls
    → Each (λ l. is-there (distinct (map (λ l. l.board) lines)) l.board) ls → Each (λ l. is-there (distinct (map (λ l. l.center) lines)) l.center) ls
    → Each (λ l. home_of (racks_on_boards lines) l.rack ≡ Some l.board) ls → Each (λ l. home_of (boards_in_centers lines) l.board ≡ Some l.center) ls → Each (Stands lines) ls
unfolding is-there
each-stands lines [] k r b c rh bh = tt
each-stands lines (l ∷ ls) k r b c rh bh =
    (record { kind = k.0; rack = r.0; board = b.0; center = c.0; rack_home = rh.0; board_home = bh.0 }, each-stands lines ls k.1 r.1 b.1 c.1 rh.1 bh.1)

named-each : (f : Line → List ℕ) (lines : List Line) → Each (λ l. is-there (distinct (map f lines)) (f l)) lines
named-each f lines = each-map (is-there (distinct (map f lines))) f lines (all-distinct [] (map f lines))

all-stand : (lines : List Line) → AreRegular lines → Each (Stands lines) lines
all-stand lines regular = each-stands lines lines (named-each (λ l. l.kind) lines) (named-each (λ l. l.rack) lines) (named-each (λ l. l.board) lines) (named-each (λ l. l.center) lines)
    (each-homed (home_of (racks_on_boards lines)) (λ l. l.rack) (λ l. l.board) lines regular.racks)
    (each-homed (home_of (boards_in_centers lines)) (λ l. l.board) (λ l. l.center) lines regular.centers)

below-true : (a b : ℕ) → a < b → nat_lt a b ≡ true
below-true a b h = grind (arith, nat_tests)

most-true : (a b : ℕ) → a ≤ b → nat_le a b ≡ true
most-true a b h = grind (arith, nat_tests)

and-true : (a b : Bool) → a ≡ true → b ≡ true → (a && b) ≡ true
and-true a b x y = rw (x, y) refl

place-below : (names : List (List ℕ)) (q : List ℕ) → list_any (bytes_eq q) names ≡ true → nat_lt (place_in names q) (length names) ≡ true
place-below names q there = below-true (place_in names q) (length names) (number-below q names there)

-- a server's numbers name what is there
in-range : (lines ls : List Line) → Each (Stands lines) ls
    → list_all (server_in_range (length (distinct (map (λ l. l.kind) lines))) (length (distinct (map (λ l. l.rack) lines))) (length (distinct (map (λ l. l.board) lines))) (length (distinct (map (λ l. l.center) lines))))
    (map (server_of lines) ls) ≡ true
in-range lines [] s = refl
in-range lines (l ∷ ls) s =
    rw (
      place-below (distinct (map (λ l. l.kind) lines)) l.kind s.0.kind,
      place-below (distinct (map (λ l. l.rack) lines)) l.rack s.0.rack,
      place-below (distinct (map (λ l. l.board) lines)) l.board s.0.board,
      place-below (distinct (map (λ l. l.center) lines)) l.center s.0.center,
    ) (in-range lines ls s.1)

eq-same : (a b : ℕ) → a ≡ b → (a == b) ≡ true
eq-same a b h = grind (arith, nat_tests)

same-eq : (a b : ℕ) → (a == b) ≡ true → a ≡ b
same-eq a b h = grind (arith, nat_tests)

-- names of one number have one home
one-home : (inner outer : List (List ℕ)) (homes : List (List ℕ × List ℕ)) (a b x y : List ℕ) → list_any (bytes_eq a) inner ≡ true → list_any (bytes_eq b) inner ≡ true
    → home_of homes a ≡ Some x → home_of homes b ≡ Some y → (not (place_in inner a == place_in inner b) || (place_in outer x == place_in outer y)) ≡ true
one-home inner outer homes a b x y at bt ax by_ = by (place_in inner a == place_in inner b) refl
  where
    by : (c : Bool) → (place_in inner a == place_in inner b) ≡ c → (not c || (place_in outer x == place_in outer y)) ≡ true
    by false e = refl
    by true e =
        let same : a ≡ b = number-tells a b inner at bt (same-eq (place_in inner a) (place_in inner b) e) in
        let some : Some x ≡ Some y = sym ax ∙ ap (home_of homes) same ∙ by_ in
        let home : x ≡ y = cc in
        eq-same (place_in outer x) (place_in outer y) (ap (place_in outer) home)

together : (lines : List Line) (l m : Line) → Stands lines l → Stands lines m → stand_together (server_of lines l) (server_of lines m) ≡ true
together lines l m s t =
    and-true _ _
    (one-home (distinct (map (λ l. l.rack) lines)) (distinct (map (λ l. l.board) lines)) (racks_on_boards lines) l.rack m.rack l.board m.board s.rack t.rack s.rack_home t.rack_home)
    (one-home (distinct (map (λ l. l.board) lines)) (distinct (map (λ l. l.center) lines)) (boards_in_centers lines) l.board m.board l.center m.center s.board t.board s.board_home t.board_home)

all-with : (lines ms : List Line) (l : Line) → Stands lines l → Each (Stands lines) ms → list_all (stand_together (server_of lines l)) (map (server_of lines) ms) ≡ true
all-with lines [] l s t = refl
all-with lines (m ∷ ms) l s t = and-true _ _ (together lines l m s t.0) (all-with lines ms l s t.1)

all-together : (lines ls ms : List Line) → Each (Stands lines) ls → Each (Stands lines) ms → list_all (λ s. list_all (stand_together s) (map (server_of lines) ms)) (map (server_of lines) ls) ≡ true
all-together lines [] ms s t = refl
all-together lines (l ∷ ls) ms s t = and-true _ _ (all-with lines ms l s.0 t) (all-together lines ls ms s.1 t)

-- the servers' names are those of the lines
pub names-of-servers : (lines ls : List Line) → server_names (map (server_of lines) ls) ≡ map (λ l. l.name) ls
names-of-servers lines [] = refl
names-of-servers lines (l ∷ ls) = ap (λ n. l.name ∷ n) (names-of-servers lines ls)

-- a switchboard has one datacenter: so there are no more datacenters than switchboards
no-more-homes : (home : List ℕ → Option (List ℕ)) (inner outer : List (List ℕ)) (ls : List Line) → Each (λ l. home l.board ≡ Some l.center) ls
    → ((q x : List ℕ) → list_any (bytes_eq q) inner ≡ true → home q ≡ Some x → list_any (bytes_eq x) outer ≡ true) → length outer ≤ length inner
    → length (distinct_from outer (map (λ l. l.center) ls)) ≤ length (distinct_from inner (map (λ l. l.board) ls))
unfolding is-there
no-more-homes home inner outer [] at known fewer = fewer
no-more-homes home inner outer (l ∷ ls) at known fewer =
    no-more-homes home (after_number inner l.board) (after_number outer l.center) ls at.1 known-then (fewer-then (is_some (number_of inner l.board)) refl)
  where
    home-of-same : (q x : List ℕ) → q ≡ l.board → home q ≡ Some x → x ≡ l.center
    home-of-same q x same is =
        let some : Some x ≡ Some l.center = sym is ∙ ap home same ∙ at.0 in
        cc

    known-in : (q x : List ℕ) → home q ≡ Some x → (b c : Bool) → list_any (bytes_eq q) inner ≡ b → bytes_eq q l.board ≡ c → (b || (c || false)) ≡ true
        → list_any (bytes_eq x) (after_number outer l.center) ≡ true
    known-in q x is true c there same either = stays-named x outer l.center (known q x there is)
    known-in q x is false true there same either =
        subst (λ (y : List ℕ). list_any (bytes_eq y) (after_number outer l.center) ≡ true) (sym (home-of-same q x (bytes-same q l.board same) is)) (given-named outer l.center)
    known-in q x is false false there same either = cc

    known-then : (q x : List ℕ) → list_any (bytes_eq q) (after_number inner l.board) ≡ true → home q ≡ Some x → list_any (bytes_eq x) (after_number outer l.center) ≡ true
    known-then q x there is = by (is_some (number_of inner l.board)) there
      where
        by : (b : Bool) → list_any (bytes_eq q) (cond b inner (inner ++ l.board ∷ [])) ≡ true → list_any (bytes_eq x) (after_number outer l.center) ≡ true
        by true told = stays-named x outer l.center (known q x told is)
        by false told =
            known-in q x is (list_any (bytes_eq q) inner) (bytes_eq q l.board) refl refl (sym (list_any-append (bytes_eq q) inner (l.board ∷ [])) ∙ told)

    fewer-then : (b : Bool) → is_some (number_of inner l.board) ≡ b → length (after_number outer l.center) ≤ length (after_number inner l.board)
    fewer-then true there =
        let outer-there : is_some (number_of outer l.center) ≡ true = number-there l.center outer ∙ known l.board l.center (sym (number-there l.board inner) ∙ there) at.0 in
        let same-inner : after_number inner l.board ≡ inner = rw there refl in
        let same-outer : after_number outer l.center ≡ outer = rw outer-there refl in
        rw (same-inner, same-outer) fewer
    fewer-then false there =
        let more : after_number inner l.board ≡ inner ++ l.board ∷ [] = rw there refl in
        omega (arith, length-after outer l.center, ap length more, length-append inner (l.board ∷ []), fewer)

six : (a b c d e f : Bool) → a ≡ true → b ≡ true → c ≡ true → d ≡ true → e ≡ true → f ≡ true → (a && b && c && d && e && f) ≡ true
six a b c d e f p q r s t u = rw (p, q, r, s, t, u) refl

pub region-kept : (lines : List Line) → AreRegular lines
    → region_rule (map (server_of lines) lines) (distinct (map (λ l. l.kind) lines)) (distinct (map (λ l. l.rack) lines)) (distinct (map (λ l. l.board) lines)) (distinct (map (λ l. l.center) lines)) ≡ true
region-kept lines regular =
    let stand = all-stand lines regular in
    let homes = each-homed (home_of (boards_in_centers lines)) (λ l. l.board) (λ l. l.center) lines regular.centers in
    let fewer = no-more-homes (home_of (boards_in_centers lines)) [] [] lines homes (λ q x there is. absurd cc) (omega arith) in
    six (nat_le (length (map (server_of lines) lines)) 20000) (nat_le (length (distinct (map (λ l. l.board) lines))) 64) (nat_le (length (distinct (map (λ l. l.center) lines))) 64) _ _ _
    (most-true (length (map (server_of lines) lines)) 20000 (omega (arith, length-map lines (server_of lines), regular.few)))
    (most-true (length (distinct (map (λ l. l.board) lines))) 64 regular.boards)
    (most-true (length (distinct (map (λ l. l.center) lines))) 64 (omega (arith, fewer, regular.boards)))
    (in-range lines lines stand) (all-together lines lines lines stand stand)
    (ap names_differ (names-of-servers lines lines) ∙ regular.names)

-- what is made of the lines of a register keeps the rule of a region, and its names are those of the servers
pub region-ruled : (lines one two : List Line) (labels : Labels) (servers : List Server) → AreRegular lines → one ≡ lines → two ≡ lines → AreLabelsOf one labels → servers ≡ map (server_of two) two
    → region_rule servers labels.types labels.racks labels.boards labels.centers ≡ true
region-ruled lines one two labels servers regular a b are is =
    let same = is ∙ ap (λ (l : List Line). map (server_of l) l) b in
    let are : AreLabelsOf lines labels = subst (λ (l : List Line). AreLabelsOf l labels) a are in
    rw (same, are.types, are.racks, are.boards, are.centers) (region-kept lines regular)

pub region-indexed : (lines two : List Line) (names given : List (List ℕ)) (servers : List Server) → given ≡ names → names ≡ map (λ l. l.name) lines → two ≡ lines → servers ≡ map (server_of two) two
    → given ≡ server_names servers
region-indexed lines two names given servers a b c is =
    a ∙ b ∙ sym (ap server_names (is ∙ ap (λ (l : List Line). map (server_of l) l) c) ∙ names-of-servers lines lines)
