-- What the loops over the lines of bindings keep.
use Rattle.std.proofs.Common.{ℕ, ◌+◌, ◌<◌, ◌≤◌, ◌≡◌, ◌∙◌, sym, ap, refl, Bool, true, false, cond, List, [], ◌∷◌, ◌++◌, length, map, drop, get_or, Some, None, is_some, is_none, Result, Ok, Err, IfSome, arith, drop-cons, add-one, slice_get, if◌then◌else◌}
use Rattle.std.proofs.Common.{◌&&◌, nat_le}
use Rattle.std.proofs.lemmas.Bool.Decides.{nat_tests}
use Rattle.ras_table.specs.Records.{records_of}
use Rattle.ras_inventory.specs.declared.region.Region.{Region}
use Rattle.std.proofs.lemmas.List.{map-append, length-map}
use Rattle.ras_table.specs.Names.{number_of}
use Rattle.ras_table.specs.Numbered.{after_number}
use Rattle.ras_table.specs.Rows.{are_of_kinds}
use Rattle.ras_table.specs.declared.rows.Kind.TheVariants as kind
use Rattle.ras_table.specs.declared.rows.Cell.{Cell}
use Rattle.ras_table.proofs.NamesLemmas.{number-there, any-name}
use Rattle.ras_table.proofs.RowsLemmas.{first-of-kind}
use Rattle.ras_inventory.specs.Cells.{is_name_cell}
use Rattle.ras_inventory.specs.RegionRule.{server_names}
use Rattle.ras_inventory.specs.Bounds.{kinds, stands_twice, broken_rule, bound_at, bounds_from, and_then, told, binding_for, bounds_of, bindings_of}
use Rattle.ras_inventory.specs.declared.bindings.Binding.{Binding}
use Rattle.ras_inventory.specs.declared.bound.Bound.{Bound}
use Rattle.ras_inventory.specs.declared.server.Server.{Server}
use Rattle.ras_inventory.specs.declared.fault.BindingsFault.{BindingsFault}
use Rattle.ras_inventory.specs.declared.fault.BindingsFault.TheVariants.{At, Memory}
use Rattle.ras_inventory.specs.declared.fault.BindingsWhy.TheVariants as why
use Rattle.ras_inventory.proofs.LinesLemmas.{is-name}

-- the first cell of a row is a name
pub first-name : (cells : List Cell) → are_of_kinds kinds cells ≡ true → is_name_cell (slice_get cells 0) ≡ true
first-name cells h =
    let a = first-of-kind kind.Name (kind.NameOrNone ∷ kind.Flag ∷ kind.Flag ∷ []) cells h in
    rw a.2 (is-name a.0 a.3)

-- a server stands twice exactly where its name has a number
pub bound-found : (names : List (List ℕ)) (before : List Bound) (bound : Bound) → names ≡ map (λ b. b.server) before → is_some (number_of names bound.server) ≡ stands_twice before bound
bound-found names before bound is =
    ap (λ (n : List (List ℕ)). is_some (number_of n bound.server)) is ∙ number-there bound.server (map (λ (b : Bound). b.server) before) ∙ any-name (λ (b : Bound). b.server) bound.server before

-- a line that breaks no rule stands once
fresh-bound : (servers : List (List ℕ)) (before : List Bound) (bound : Bound) → broken_rule servers before bound ≡ None → stands_twice before bound ≡ false
fresh-bound servers before bound none = by (is_none (number_of servers bound.server)) (stands_twice before bound) refl none
  where
    by : (a b : Bool) → stands_twice before bound ≡ b → (if a then Some why.Unknown else if b then Some why.Twice else None) ≡ None → stands_twice before bound ≡ false
    by false false y e = y
    by false true y e = absurd cc
    by true b y e = absurd cc

-- the names of one more line
pub bound-names : (servers names new : List (List ℕ)) (before : List Bound) (bound : Bound) → names ≡ map (λ b. b.server) before → broken_rule servers before bound ≡ None → new ≡ after_number names bound.server
    → new ≡ map (λ b. b.server) (before ++ bound ∷ [])
bound-names servers names new before bound is none made =
    let fresh : is_some (number_of names bound.server) ≡ false = bound-found names before bound is ∙ fresh-bound servers before bound none in
    made ∙ ap (λ b. cond b names (names ++ bound.server ∷ [])) fresh ∙ ap (λ (n : List (List ℕ)). n ++ bound.server ∷ []) is ∙ sym (map-append (λ (b : Bound). b.server) before (bound ∷ []))

bounds-split : (servers : List (List ℕ)) (i : ℕ) (list : List Bound) (records : List (List (List ℕ))) (r : List (List ℕ)) → i < length records
    → bounds_from servers (i + 1) list (drop i records) ≡ and_then (bound_at servers (i + 1) list (get_or records i r)) (λ b. bounds_from servers (i + 1 + 1) (list ++ b ∷ []) (drop (i + 1) records))
bounds-split servers i list records r within =
    let split : drop i records ≡ get_or records i r ∷ drop (i + 1) records = drop-cons records i r within ∙ rw add-one refl in
    ap (bounds_from servers (i + 1) list) split

-- the loop over the records goes on by one line
pub bounds-go : (servers : List (List ℕ)) (i : ℕ) (list : List Bound) (records : List (List (List ℕ))) (r : List (List ℕ)) (bound : Bound) (all : Result (List Bound) BindingsFault) → i < length records
    → bounds_from servers (i + 1) list (drop i records) ≡ all → bound_at servers (i + 1) list (get_or records i r) ≡ Ok bound
    → bounds_from servers (i + 1 + 1) (list ++ bound ∷ []) (drop (i + 1) records) ≡ all
bounds-go servers i list records r bound all within so is =
    sym (ap (λ o. and_then o (λ b. bounds_from servers (i + 1 + 1) (list ++ b ∷ []) (drop (i + 1) records))) is) ∙ sym (bounds-split servers i list records r within) ∙ so

-- and stops at its first fault
pub bounds-stop : (servers : List (List ℕ)) (i : ℕ) (list : List Bound) (records : List (List (List ℕ))) (r : List (List ℕ)) (e : BindingsFault) (all : Result (List Bound) BindingsFault) → i < length records
    → bounds_from servers (i + 1) list (drop i records) ≡ all → IfSome (told e) (λ f. bound_at servers (i + 1) list (get_or records i r) ≡ Err f) → IfSome (told e) (λ f. all ≡ Err f)
bounds-stop servers i list records r Memory all within so is = tt
bounds-stop servers i list records r (At n w) all within so is =
    sym so ∙ bounds-split servers i list records r within ∙ ap (λ o. and_then o (λ b. bounds_from servers (i + 1 + 1) (list ++ b ∷ []) (drop (i + 1) records))) is

-- bindings by servers and by their names
bindings-mapped : (bounds : List Bound) (servers : List Server) → map (λ s. binding_for bounds s.name) servers ≡ map (binding_for bounds) (server_names servers)
bindings-mapped bounds [] = refl
bindings-mapped bounds (s ∷ servers) = ap (λ l. binding_for bounds s.name ∷ l) (bindings-mapped bounds servers)

pub bindings-are : (bounds : List Bound) (servers given : List Server) (list : List Binding) → given ≡ servers → list ≡ map (λ s. binding_for bounds s.name) given → list ≡ map (binding_for bounds) (server_names servers)
bindings-are bounds servers given list same is = is ∙ ap (map (λ (s : Server). binding_for bounds s.name)) same ∙ bindings-mapped bounds servers

pub bindings-each : (bounds : List Bound) (servers given : List Server) (list : List Binding) → given ≡ servers → list ≡ map (λ s. binding_for bounds s.name) given → length list ≡ length servers
bindings-each bounds servers given list same is = ap length is ∙ length-map given (λ s. binding_for bounds s.name) ∙ ap length same

-- what bindings the lines give
pub bindings-given : (servers : List (List ℕ)) (bytes : List ℕ) (bounds : List Bound) (list : List Binding) → bounds_of servers (records_of bytes) ≡ Ok bounds → list ≡ map (binding_for bounds) servers
    → bindings_of servers bytes ≡ Ok list
bindings-given servers bytes bounds list read is = ap (λ o. and_then o (λ b. Ok (map (binding_for b) servers))) read ∙ ap Ok (sym is)

pub region-few : (region : Region) → length region.servers ≤ 20000
region-few region = most-of (nat_le (length region.servers) 20000) _ _ _ _ _ region.kept (λ e. most-is (length region.servers) 20000 e)
  where
    most-is : (a b : ℕ) → nat_le a b ≡ true → a ≤ b
    most-is a b h = grind (arith, nat_tests)

    most-of : (a b c d e f : Bool) → (a && b && c && d && e && f) ≡ true → (a ≡ true → length region.servers ≤ 20000) → length region.servers ≤ 20000
    most-of true b c d e f h k = k refl
    most-of false b c d e f h k = absurd cc
