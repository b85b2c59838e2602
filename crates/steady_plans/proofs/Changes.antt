-- One server changes: the units of the reservations, and the tables of them.
use Rattle.std.proofs.Common.{◌≡◌, ℕ, set, ◌+◌, ◌-◌, ◌*◌, ◌<◌, ◌==◌, Bool, true, false, cond, List, length, get_or, arith, ap, sym, ◌∙◌, refl, Some, None}
use Rattle.std.specs.Prelude.{sum_by, Option}
use Rattle.std.proofs.lemmas.List.{set-set, set-get_or, length-set}
use Rattle.std.proofs.lemmas.Bool.{eqb-true}
use Rattle.plan_model.specs.declared.cases.Place.{Place}
use Rattle.plan_model.specs.declared.cases.Case.{Case}
use Rattle.plan_model.specs.declared.cases.Assignment.{Assignment}
use Rattle.plan_model.specs.Units.{share_of, units, units_where, servers_with_places, server_with, place_of, no_place, value_for}
use Rattle.plan_model.proofs.SumLemmas.{sum_by-filter}
use Rattle.steady_plans.specs.Steady.{replaced}
use Rattle.steady_plans.specs.Tables.{IsTable, one_part}
use Rattle.steady_plans.proofs.Lists.{sum_by-zip_set, filter-all, table-adds, table-takes}

-- ---- changes of changes

pub replaced-twice : (a : Assignment) (s : ℕ) (first second : Option ℕ) → replaced (replaced a s first) s second ≡ replaced a s second
replaced-twice a s first second = ap (λ (os : List (Option ℕ)). let b : Assignment = record { of = os } in b) (set-set a.of s first second)

pub replaced-same : (a : Assignment) (s : ℕ) (to : Option ℕ) → get_or a.of s None ≡ to → replaced a s to ≡ a
replaced-same a s to is = ap (λ (os : List (Option ℕ)). let b : Assignment = record { of = os } in b) (ap (λ o. set a.of s o) (sym is) ∙ set-get_or a.of s None)

-- ---- units

-- what a server gives reservation r, where it stands in a part
abbrev pub share_where : (Place → Bool) → Case → ℕ → Place × Option ℕ → ℕ
share_where test case r s = cond (test s.0) (share_of case r s) 0

pub changed-sum : (case : Case) (f : Place × Option ℕ → ℕ) (a : Assignment) (s : ℕ) (to : Option ℕ) → length a.of ≡ length case.places → s < length case.places
    → sum_by f (servers_with_places case (replaced a s to)) + f (server_with case a s) ≡ sum_by f (servers_with_places case a) + f (place_of case s, to)
changed-sum case f a s to size within = sum_by-zip_set f case.places a.of s to no_place None size within

pub changed-units : (test : Place → Bool) (case : Case) (a : Assignment) (s : ℕ) (to : Option ℕ) (r : ℕ) → length a.of ≡ length case.places → s < length case.places
    → units_where test case (replaced a s to) r + share_where test case r (server_with case a s) ≡ units_where test case a r + share_where test case r (place_of case s, to)
changed-units test case a s to r size within =
    omega (
      arith,
      sum_by-filter (λ t. test t.0) (share_of case r) (servers_with_places case (replaced a s to)),
      sum_by-filter (λ t. test t.0) (share_of case r) (servers_with_places case a),
      changed-sum case (share_where test case r) a s to size within,
    )

nothing : (b : Bool) → ◌≡◌ {A = ℕ} (cond b 0 0) 0
nothing true = refl
nothing false = refl

share-by : (case : Case) (r q kind : ℕ) (b c : Bool) → (r == q) ≡ c → cond b (cond c (value_for case q kind) 0) 0 ≡ cond b (cond c (value_for case r kind) 0) 0
share-by case r q kind b true f = ap (λ z. cond b (value_for case z kind) 0) (sym (eqb-true r q f))
share-by case r q kind b false f = refl

-- a server that gets reservation r, in place of none
pub gets-units : (test : Place → Bool) (case : Case) (a : Assignment) (s r q : ℕ) → length a.of ≡ length case.places → s < length case.places → get_or a.of s None ≡ None
    → units_where test case (replaced a s (Some r)) q ≡ units_where test case a q + cond (test (place_of case s)) (cond (r == q) (value_for case r (place_of case s).kind) 0) 0
gets-units test case a s r q size within none =
    let p = place_of case s in
    let change = changed-units test case a s (Some r) q size within in
    let was : share_where test case q (server_with case a s) ≡ 0 = ap (λ o. share_where test case q (p, o)) none ∙ nothing (test p) in
    let now = share-by case r q p.kind (test p) (r == q) refl in
    omega (arith, change, was, now)

-- a server that gets none, in place of reservation r
pub loses-units : (test : Place → Bool) (case : Case) (a : Assignment) (s r q : ℕ) → length a.of ≡ length case.places → s < length case.places → get_or a.of s None ≡ Some r
    → units_where test case (replaced a s None) q + cond (test (place_of case s)) (cond (r == q) (value_for case r (place_of case s).kind) 0) 0 ≡ units_where test case a q
loses-units test case a s r q size within some =
    let p = place_of case s in
    let change = changed-units test case a s None q size within in
    let was : share_where test case q (server_with case a s) ≡ cond (test p) (cond (r == q) (value_for case q p.kind) 0) 0 = ap (λ o. share_where test case q (p, o)) some in
    let same = share-by case r q p.kind (test p) (r == q) refl in
    let now : share_where test case q (p, None) ≡ 0 = nothing (test p) in
    omega (arith, change, was, same, now)

-- the units in the one part of a whole region
pub units-of_all : (case : Case) (a : Assignment) (r : ℕ) → units_where (λ s. one_part s == 0) case a r ≡ units case a r
units-of_all case a r = ap (sum_by (share_of case r)) (filter-all (servers_with_places case a))

-- ---- tables

module _ (case : Case) (a : Assignment) (number : Place → ℕ) (count : ℕ) (cells : List ℕ) (s r : ℕ) (table : IsTable case a number count cells)
    (size : length a.of ≡ length case.places) (within : s < length case.places) (there : number (place_of case s) < count) (small : r < 64) where
  abbrev part : ℕ
  part = number (place_of case s)

  abbrev value : ℕ
  value = value_for case r (place_of case s).kind

  pub gets-table : get_or a.of s None ≡ None → IsTable case (replaced a s (Some r)) number count (set cells (part * 64 + r) (get_or cells (part * 64 + r) 0 + value))
  gets-table none = record {
    size = length-set cells (part * 64 + r) (get_or cells (part * 64 + r) 0 + value) ∙ table.size;
    counted = table-adds cells count part r value (λ n q. units_where (λ t. number t == n) case a q) (λ n q. units_where (λ t. number t == n) case (replaced a s (Some r)) q)
        table.size there small table.counted (λ n q. gets-units (λ t. number t == n) case a s r q size within none);
  }

  pub loses-table : get_or a.of s None ≡ Some r → IsTable case (replaced a s None) number count (set cells (part * 64 + r) (get_or cells (part * 64 + r) 0 - value))
  loses-table some = record {
    size = length-set cells (part * 64 + r) (get_or cells (part * 64 + r) 0 - value) ∙ table.size;
    counted = table-takes cells count part r value (λ n q. units_where (λ t. number t == n) case a q) (λ n q. units_where (λ t. number t == n) case (replaced a s None) q)
        table.size there small table.counted (λ n q. loses-units (λ t. number t == n) case a s r q size within some);
  }
