-- What the loops over the members of an object keep.
use Rattle.std.proofs.Common.{ℕ, ◌+◌, ◌<◌, ◌≡◌, ◌∙◌, sym, ap, refl, Bool, true, false, List, [], ◌∷◌, ◌++◌, map, drop, length, get_or, Option, Some, None, append_assoc, append-nil, option_map, if◌then◌else◌, Vec, String, string_bytes, add-one, drop-cons}
use Rattle.std.proofs.Common.{string_cmp, Less, is_eq, Bor, option_and_then}
use Rattle.std.specs.Cmp.Lexicographic.{texts_ties}
use Rattle.std.specs.declared.alloc.Global.{Global}
use Rattle.std.specs.List.{list_any, AllByRecursion}
use Rattle.std.specs.List.Sorted.{IsStrictlySortedBy}
use Rattle.std.specs.Map.{keys_of}
use Rattle.std.specs.Str.{bytes_eq}
use Rattle.std.proofs.lemmas.List.{map-append}
use Rattle.serde_json.specs.Data.{Data, Members, member}
use Rattle.serde_json.specs.Find.{as_array}
use Rattle.serde_json.specs.View.{view, members_view, items_view, items_of}
use Rattle.serde_json.specs.declared.value.Value.{Value as Json}
use Rattle.ras_table.specs.Names.{is_name, names_differ}
use Rattle.ras_requests.specs.declared.requests.Value.{Value}
use Rattle.ras_requests.specs.declared.requests.Near.{Near}
use Rattle.ras_requests.specs.declared.draft.Units.{Units}
use Rattle.ras_requests.specs.declared.draft.Aim.{Aim}
use Rattle.ras_requests.specs.Members.{whole, member_names, items_list}
use Rattle.ras_requests.specs.RequestsRule.{kind_names}
use Rattle.ras_requests.specs.Shapes.{values_in, with_value, near_at, nears_in, near_of, with_near}
use Rattle.ras_requests.specs.Drafts.{seen_units, seen_aim}

-- the values so far, before those to come
abbrev pub with_front : {X : Type 0} → List X → Option (List X) → Option (List X)
with_front found (Some more) = Some (found ++ more)
with_front found None = None

pub with_front-none : (found : List Value) (k : Option (List ℕ)) (rest : Option (List Value)) → with_front found (with_value k None rest) ≡ None
with_front-none found (Some k) rest = refl
with_front-none found None rest = refl

with_front-one : (found : List Value) (v : Value) (rest : Option (List Value)) → with_front found (with_value (Some v.kind) (Some v.units) rest) ≡ with_front (found ++ v ∷ []) rest
with_front-one found v (Some more) = ap Some (sym (append_assoc found (v ∷ []) more))
with_front-one found v None = refl

-- the loop's fact goes on by one member
pub values-go : (found : List Units) (u : Units) (k : List ℕ) (d : Data) (rest : Members) (all : Option (List Value))
    → with_front (map seen_units found) (values_in (member k d rest)) ≡ all → u.kind ≡ k → is_name k ≡ true → Some u.units ≡ whole d
    → with_front (map seen_units (found ++ u ∷ [])) (values_in rest) ≡ all
values-go found u k d rest all so kind named is =
    let one = ap (λ (b : Bool). with_front (map seen_units found) (with_value (if b then Some k else None) (whole d) (values_in rest))) named in
    let two = ap (λ (o : Option ℕ). with_front (map seen_units found) (with_value (Some k) o (values_in rest))) (sym is) in
    let three = ap (λ (n : List ℕ). with_front (map seen_units found) (with_value (Some n) (Some u.units) (values_in rest))) (sym kind) in
    ap (λ f. with_front f (values_in rest)) (map-append seen_units found (u ∷ []))
    ∙ sym (with_front-one (map seen_units found) (seen_units u) (values_in rest)) ∙ sym three ∙ sym two ∙ sym one ∙ so

-- and stops at a member of another shape
pub values-stop : (found : List Units) (k : List ℕ) (d : Data) (rest : Members) (all : Option (List Value)) → with_front (map seen_units found) (values_in (member k d rest)) ≡ all → None ≡ whole d → None ≡ all
values-stop found k d rest all so is =
    sym (with_front-none (map seen_units found) (if is_name k then Some k else None) (values_in rest))
    ∙ ap (λ (o : Option ℕ). with_front (map seen_units found) (with_value (if is_name k then Some k else None) o (values_in rest))) is ∙ so

pub values-misnamed : (found : List Units) (k : List ℕ) (d : Data) (rest : Members) (all : Option (List Value)) → with_front (map seen_units found) (values_in (member k d rest)) ≡ all → is_name k ≡ false → None ≡ all
values-misnamed found k d rest all so is =
    sym (ap (λ (b : Bool). with_front (map seen_units found) (with_value (if b then Some k else None) (whole d) (values_in rest))) is) ∙ so

-- the names of the values so far, and of the members to come
pub kinds-go : (found : List Units) (u : Units) (k : List ℕ) (rest all : List (List ℕ)) → kind_names (map seen_units found) ++ k ∷ rest ≡ all → u.kind ≡ k
    → kind_names (map seen_units (found ++ u ∷ [])) ++ rest ≡ all
kinds-go found u k rest all so is =
    ap (λ f. kind_names f ++ rest) (map-append seen_units found (u ∷ []))
    ∙ ap (λ n. n ++ rest) (map-append (λ (v : Value). v.kind) (map seen_units found) (seen_units u ∷ []))
    ∙ append_assoc (kind_names (map seen_units found)) (u.kind ∷ []) rest ∙ ap (λ n. kind_names (map seen_units found) ++ n ∷ rest) is ∙ so

-- the loop over the wishes goes on by one
with_front-near : (found : List Near) (n : Near) (rest : Option (List Near)) → with_front found (with_near (Some n) rest) ≡ with_front (found ++ n ∷ []) rest
with_front-near found n (Some more) = ap Some (sym (append_assoc found (n ∷ []) more))
with_front-near found n None = refl

nears-split : (items : List Json) (i : ℕ) (d : Json) → i < length items
    → nears_in (map view (drop i items)) ≡ with_near (near_at (view (get_or items i d))) (nears_in (map view (drop (i + 1) items)))
nears-split items i d within = ap (λ l. nears_in (map view l)) (drop-cons items i d within) ∙ rw (add-one i) refl

pub aims-go : (found : List Aim) (a : Aim) (items : List Json) (i : ℕ) (d : Json) (all : Option (List Near)) → i < length items
    → with_front (map seen_aim found) (nears_in (map view (drop i items))) ≡ all → Some (seen_aim a) ≡ near_at (view (get_or items i d))
    → with_front (map seen_aim (found ++ a ∷ [])) (nears_in (map view (drop (i + 1) items))) ≡ all
aims-go found a items i d all within so is =
    ap (λ f. with_front f (nears_in (map view (drop (i + 1) items)))) (map-append seen_aim found (a ∷ []))
    ∙ sym (with_front-near (map seen_aim found) (seen_aim a) (nears_in (map view (drop (i + 1) items))))
    ∙ ap (λ o. with_front (map seen_aim found) (with_near o (nears_in (map view (drop (i + 1) items))))) is
    ∙ sym (ap (with_front (map seen_aim found)) (nears-split items i d within)) ∙ so

pub aims-stop : (found : List Aim) (items : List Json) (i : ℕ) (d : Json) (all : Option (List Near)) → i < length items
    → with_front (map seen_aim found) (nears_in (map view (drop i items))) ≡ all → None ≡ near_at (view (get_or items i d)) → None ≡ all
aims-stop found items i d all within so is =
    ap (λ o. with_front (map seen_aim found) (with_near o (nears_in (map view (drop (i + 1) items))))) is
    ∙ sym (ap (with_front (map seen_aim found)) (nears-split items i d within)) ∙ so

-- an object's names rise, so they differ
sorted-head : (k : String Global) (es : List (String Global × Json)) → AllByRecursion (λ y. string_cmp k y ≡ Less) (keys_of es) → list_any (bytes_eq (string_bytes k)) (member_names (members_view es)) ≡ false
sorted-head k [] above = refl
sorted-head k (e ∷ es) above =
    let apart : bytes_eq (string_bytes k) (string_bytes e.0) ≡ false = texts_ties (string_bytes k) (string_bytes e.0) ∙ ap is_eq above.0 in
    rw apart (sorted-head k es above.1)

sorted-differ : (es : List (String Global × Json)) → IsStrictlySortedBy string_cmp (keys_of es) → names_differ (member_names (members_view es)) ≡ true
unfolding IsStrictlySortedBy
sorted-differ [] rise = refl
sorted-differ (e ∷ es) rise = rw (sorted-head e.0 es rise.0) (sorted-differ es rise.1)

pub kinds-differ : (found : List Units) (left es : List (String Global × Json)) → left ≡ [] → kind_names (map seen_units found) ++ member_names (members_view left) ≡ member_names (members_view es)
    → IsStrictlySortedBy string_cmp (keys_of es) → names_differ (kind_names (map seen_units found)) ≡ true
kinds-differ found left es none so rise =
    let all : kind_names (map seen_units found) ≡ member_names (members_view es) =
    sym (append-nil (kind_names (map seen_units found))) ∙ ap (λ l. kind_names (map seen_units found) ++ member_names (members_view l)) (sym none) ∙ so in
    ap names_differ all ∙ sorted-differ es rise

items-of : (ds : List Data) → items_list (items_of ds) ≡ ds
items-of [] = refl
items-of (d ∷ ds) = ap (λ l. d ∷ l) (items-of ds)

-- the wishes of an array are those of its values
pub near-items : (d : Data) (vs : List Json) → Some (items_view vs) ≡ as_array d → nears_in (map view vs) ≡ near_of (Some d)
near-items d vs is = ap nears_in (sym (items-of (map view vs))) ∙ ap (option_and_then (λ ds. nears_in (items_list ds))) is

-- the entries of an array
pub entries-are : (r : Option (Bor (Vec Json Global))) → option_map items_list (option_map (λ (v : Bor (Vec Json Global)). items_view v.now.items) r) ≡ option_map (λ (v : Bor (Vec Json Global)). map view v.now.items) r
entries-are None = refl
entries-are (Some v) = ap Some (items-of (map view v.now.items))
