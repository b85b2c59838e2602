-- Lists that are made one after the other, and what values give the types of a region.
use Rattle.std.proofs.Common.{◌≡◌, ℕ, zero, suc, ◌+◌, ◌<◌, Bool, true, false, cond, List, [], ◌∷◌, ◌++◌, length, take, get_or, arith, ap, sym, ◌∙◌, refl}
use Rattle.std.specs.Prelude.{map, zip, Some, None, not, ◌&&◌, ◌||◌, Result, Ok, Err, OnOk, is_err, is_some, slice_get}
use Rattle.std.proofs.lemmas.Option.{get_or_from_slice_get}
use Rattle.ras_table.specs.Numbered.{after_number}
use Rattle.std.specs.List.{list_any, position_or_len}
use Rattle.std.specs.Str.{bytes_eq}
use Rattle.std.proofs.lemmas.List.{take_more, map-append, get_or-take, length-map, length-take, get_or-map, take-map}
use Rattle.std.proofs.lemmas.List.Recursion.{found_at, found_nowhere}
use Rattle.std.proofs.lemmas.List.Quantifiers.{position-Some}
use Rattle.std.proofs.lemmas.List.Sums.{fails_before_first}
use Rattle.ras_table.proofs.NamesLemmas.{at_end}
use Rattle.std.proofs.lemmas.Cmp.{nat_list_eq_equiv}
use Rattle.std.proofs.lemmas.Slice.Zip.{get_or-zip, length-zip}
use Rattle.ras_table.specs.Names.{number_of, names_differ}
use Rattle.ras_requests.specs.declared.requests.Value.{Value}
use Rattle.ras_requests.specs.RequestsRule.{kind_names}
use Rattle.plan_model.specs.Joined.{units_for}
use Rattle.plan_model.proofs.NumberLemmas.{position_none}
use Rattle.plan_model.proofs.CaseFacts.{and-right}

-- one element more of a list that is mapped
pub map_more : {X Y : Type 0} (f : X → Y) (xs : List X) (i : ℕ) (x : X) → i < length xs → x ≡ get_or xs i x
    → map f (take (i + 1) xs) ≡ map f (take i xs) ++ f x ∷ []
map_more f xs i x within read =
    ap (map f) (take_more xs i x within)
    ∙ map-append f (take i xs) (get_or xs i x ∷ [])
    ∙ ap (λ y. map f (take i xs) ++ f y ∷ []) (sym read)

-- and of two lists side by side
pub map-zip_more : {X Y Z : Type 0} (f : X × Y → Z) (xs : List X) (ys : List Y) (i : ℕ) (x : X) (y : Y) → i < length xs → i < length ys
    → x ≡ get_or xs i x → y ≡ get_or ys i y → map f (take (i + 1) (zip xs ys)) ≡ map f (take i (zip xs ys)) ++ f (x, y) ∷ []
map-zip_more f xs ys i x y p q read other =
    let both : (x, y) ≡ (get_or xs i x, get_or ys i y) = ap (λ a. (a, y)) read ∙ ap (λ b. (get_or xs i x, b)) other in
    map_more f (zip xs ys) i (x, y) (omega (arith, length-zip xs ys)) (both ∙ sym (get_or-zip xs ys i (x, y) p q))

not-any : (a b : Bool) → (not a && b) ≡ true → a ≡ false
not-any true b h = cc
not-any false b h = refl

none-at : {X : Type 0} (test : X → Bool) (xs : List X) (k : ℕ) (d : X) → list_any test xs ≡ false → k < length xs → test (get_or xs k d) ≡ false
none-at test [] k d none within = absurd (omega arith)
none-at test (x ∷ xs) zero d none within = or-left (test x) (list_any test xs) none
  where
    or-left : (a b : Bool) → (a || b) ≡ false → a ≡ false
    or-left true b h = h
    or-left false b h = refl
none-at test (x ∷ xs) (suc k) d none within = none-at test xs k d (or-right (test x) (list_any test xs) none) (omega arith)
  where
    or-right : (a b : Bool) → (a || b) ≡ false → b ≡ false
    or-right true b h = cc
    or-right false b h = h

-- where names differ, a name is not among those before it
pub differ-at : (names : List (List ℕ)) (k j : ℕ) → names_differ names ≡ true → k < j → j < length names → bytes_eq (get_or names k []) (get_or names j []) ≡ false
differ-at [] k j differ before within = absurd (omega arith)
differ-at (name ∷ names) k zero differ before within = absurd (omega arith)
differ-at (name ∷ names) zero (suc j) differ before within = none-at (bytes_eq name) names j [] (not-any _ _ differ) (omega arith)
differ-at (name ∷ names) (suc k) (suc j) differ before within = differ-at names k j (and-right _ _ differ) (omega arith) (omega arith)

pub new-name : (names : List (List ℕ)) (j : ℕ) → names_differ names ≡ true → j < length names → number_of (take j names) (get_or names j []) ≡ None
new-name names j differ within =
    position_none (bytes_eq (get_or names j [])) (take j names) []
    (λ k inside. let before : k < j = omega (arith, length-take j names) in
    ap (bytes_eq (get_or names j [])) (get_or-take j names k [] before) ∙ nat_list_eq_equiv.symm (get_or names j []) (get_or names k []) ∙ differ-at names k j differ before within)

no_value : Value
no_value = record { kind = []; units = 0 }

-- the value at the number of a name is what the name is worth
pub units-found : (values : List Value) (name : List ℕ) (at : ℕ) (d : Value) → number_of (kind_names values) name ≡ Some at
    → (get_or values at d).units ≡ units_for values name
units-found values name at d found =
    let there = position-Some (bytes_eq name) (kind_names values) at [] found in
    let many : length (kind_names values) ≡ length values = length-map values (λ v. v.kind) in
    let kind-at : (k : ℕ) → k < length values → get_or (kind_names values) k [] ≡ (get_or values k d).kind = λ k within. get_or-map (λ (v : Value). v.kind) values k d [] within in
    let within : at < length values = omega (arith, many, there.0) in
    sym (found_at (λ (vs : List Value). units_for vs name) (λ v. bytes_eq name v.kind) (λ v. v.units) 0 refl (λ _ _. refl) values at d within
    (λ k before. let inside : k < length values = omega (arith, within) in sym (ap (bytes_eq name) (kind-at k inside)) ∙ there.2 k before)
    (sym (ap (bytes_eq name) (kind-at at within)) ∙ there.1))

-- and where the name has no number it is worth nothing
pub units-none : (values : List Value) (name : List ℕ) → number_of (kind_names values) name ≡ None → 0 ≡ units_for values name
units-none values name none =
    let many : length (kind_names values) ≡ length values = length-map values (λ v. v.kind) in
    let end : position_or_len (bytes_eq name) (kind_names values) ≡ length (kind_names values) = at_end name (kind_names values) none in
    sym (found_nowhere (λ (vs : List Value). units_for vs name) (λ v. bytes_eq name v.kind) (λ v. v.units) 0 refl (λ _ _. refl) values no_value
    (λ k within.
    sym (ap (bytes_eq name) (get_or-map (λ (v : Value). v.kind) values k no_value [] within))
    ∙ fails_before_first (bytes_eq name) (kind_names values) k [] (omega (arith, end, many))))

-- what holds after a push that was not refused
pub pushed : {T E : Type 0} (r : Result T E) (b : Bool) (P : Type 0) → b ≡ is_err r → b ≡ false → OnOk r P → P
pushed (Ok x) b P is fine h = h
pushed (Err e) b P is fine h = cc

-- the kinds of some values, one value on
pub kinds-more : (values : List Value) (i : ℕ) (v : Value) → names_differ (kind_names values) ≡ true → i < length values → v ≡ get_or values i v
    → after_number (kind_names (take i values)) v.kind ≡ kind_names (take (i + 1) values)
kinds-more values i v differ within read =
    let many : length (kind_names values) ≡ length values = length-map values (λ v. v.kind) in
    let kind : get_or (kind_names values) i [] ≡ v.kind =
    get_or-map (λ (w : Value). w.kind) values i v [] within ∙ ap (λ (w : Value). w.kind) (sym read) in
    let new : number_of (kind_names (take i values)) v.kind ≡ None =
    ap (λ names. number_of names v.kind) (sym (take-map (λ (w : Value). w.kind) i values))
    ∙ ap (number_of (take i (kind_names values))) (sym kind)
    ∙ new-name (kind_names values) i differ (omega (arith, many)) in
    ap (λ o. cond (is_some o) (kind_names (take i values)) (kind_names (take i values) ++ v.kind ∷ [])) new
    ∙ sym (map_more (λ (w : Value). w.kind) values i v within read)

-- the units of the types of a region, one type on
pub units-more : (values : List Value) (types : List (List ℕ)) (k : ℕ) (name : List ℕ) → slice_get types k ≡ Some name → k < length types
    → map (units_for values) (take (k + 1) types) ≡ map (units_for values) (take k types) ++ units_for values name ∷ []
units-more values types k name read within = map_more (units_for values) types k name within (sym (get_or_from_slice_get types k name name read))
