-- What homes are found, and where no name has moved.
use Rattle.std.proofs.Common.{ℕ, ◌≡◌, ◌∙◌, sym, ap, refl, Bool, true, false, cond, not, ◌&&◌, ◌||◌, List, [], ◌∷◌, ◌++◌, Option, Some, None, is_some, Vec, if◌then◌else◌}
use Rattle.std.specs.Map.{lookup}
use Rattle.std.specs.List.{list_any}
use Rattle.std.specs.Option.{option_or, option_map_or}
use Rattle.std.specs.Str.{bytes_eq}
use Rattle.ras_table.proofs.NamesLemmas.{bytes-same, same-bytes}
use Rattle.std.specs.declared.alloc.Global.{Global}
use Rattle.indexmap.specs.IndexMap.{insert_entry}
use Rattle.std.proofs.lemmas.List.{map-append}
use Rattle.ras_inventory.specs.HomeWords.{pairs_of, home_of, after_home, has_left}
use Rattle.ras_inventory.specs.Registers.{AreHomed}

-- what a map finds is the home of the name
pub found-home : (q : List ℕ) (es : List (Vec ℕ Global × List ℕ)) → lookup (λ (k : Vec ℕ Global). bytes_eq q k.items) es ≡ home_of (pairs_of es) q
found-home q [] = refl
found-home q (e ∷ es) = ap (λ o. cond (bytes_eq q e.0.items) (Some e.1) o) (found-home q es)

-- a map of names without a name, once that name is put in with its home
entry-appended : (k : Vec ℕ Global) (v : List ℕ) (es : List (Vec ℕ Global × List ℕ)) → home_of (pairs_of es) k.items ≡ None
    → insert_entry (λ a b. bytes_eq a.items b.items) es k v ≡ es ++ (k, v) ∷ []
entry-appended k v [] none = refl
entry-appended k v (e ∷ es) none = by (bytes_eq k.items e.0.items) none (entry-appended k v es)
  where
    by : (b : Bool) → cond b (Some e.1) (home_of (pairs_of es) k.items) ≡ None
        → (home_of (pairs_of es) k.items ≡ None → insert_entry (λ a b. bytes_eq a.items b.items) es k v ≡ es ++ (k, v) ∷ [])
        → (if b then (e.0, v) ∷ es else e ∷ insert_entry (λ a b. bytes_eq a.items b.items) es k v) ≡ e ∷ (es ++ (k, v) ∷ [])
    by true n rest = absurd cc
    by false n rest = ap (λ l. e ∷ l) (rest n)

pub home-settled : (k : Vec ℕ Global) (name home v : List ℕ) (es new : List (Vec ℕ Global × List ℕ)) → k.items ≡ name → v ≡ home → is_some (home_of (pairs_of es) name) ≡ false
    → new ≡ insert_entry (λ a b. bytes_eq a.items b.items) es k v → pairs_of new ≡ after_home (pairs_of es) name home
home-settled k name home v es new key value fresh is =
    let none : home_of (pairs_of es) k.items ≡ None = ap (home_of (pairs_of es)) key ∙ no-home (home_of (pairs_of es) name) fresh in
    ap pairs_of (is ∙ entry-appended k v es none) ∙ map-append (λ e. (e.0.items, e.1)) es ((k, v) ∷ []) ∙ rw (fresh, key, value) refl
  where
    no-home : (o : Option (List ℕ)) → is_some o ≡ false → o ≡ None
    no-home None e = refl
    no-home (Some h) e = absurd cc

option_or-none : {X : Type 0} (o : Option X) → option_or o None ≡ o
option_or-none None = refl
option_or-none (Some x) = refl

option_or-some : {X : Type 0} (o p : Option X) → is_some o ≡ true → option_or o p ≡ o
option_or-some None p h = absurd cc
option_or-some (Some x) p h = refl

one_home : List ℕ → List ℕ → List ℕ → Option (List ℕ)
one_home k h q = cond (bytes_eq q k) (Some h) None

home-push : (ps : List (List ℕ × List ℕ)) (k h q : List ℕ) → home_of (ps ++ (k, h) ∷ []) q ≡ option_or (home_of ps q) (one_home k h q)
unfolding one_home
home-push [] k h q = refl
home-push (p ∷ ps) k h q = by (bytes_eq q p.0) (home-push ps k h q)
  where
    by : (b : Bool) → home_of (ps ++ (k, h) ∷ []) q ≡ option_or (home_of ps q) (one_home k h q) → cond b (Some p.1) (home_of (ps ++ (k, h) ∷ []) q) ≡ option_or (cond b (Some p.1) (home_of ps q)) (one_home k h q)
    by true rest = refl
    by false rest = rest

-- a name with a home keeps it when another is given
home-kept : (ps : List (List ℕ × List ℕ)) (k h q : List ℕ) → is_some (home_of ps k) ≡ true → home_of (ps ++ (k, h) ∷ []) q ≡ home_of ps q
unfolding one_home
home-kept ps k h q there = home-push ps k h q ∙ by (bytes_eq q k) refl
  where
    by : (b : Bool) → bytes_eq q k ≡ b → option_or (home_of ps q) (cond b (Some h) None) ≡ home_of ps q
    by true e = option_or-some (home_of ps q) (Some h) (ap (λ n. is_some (home_of ps n)) (bytes-same q k e) ∙ there)
    by false e = option_or-none (home_of ps q)

-- the homes that are looked up stay those of the list when one more is given to both
pub home-after : (found ps : List (List ℕ × List ℕ)) (k h : List ℕ) → ((q : List ℕ) → home_of found q ≡ home_of ps q) → (q : List ℕ) → home_of (after_home found k h) q ≡ home_of (ps ++ (k, h) ∷ []) q
home-after found ps k h same q = by (is_some (home_of found k)) refl
  where
    by : (b : Bool) → is_some (home_of found k) ≡ b → home_of (if b then found else found ++ (k, h) ∷ []) q ≡ home_of (ps ++ (k, h) ∷ []) q
    by true e = same q ∙ sym (home-kept ps k h q (ap is_some (sym (same k)) ∙ e))
    by false e = home-push found k h q ∙ ap (λ o. option_or o (one_home k h q)) (same q) ∙ sym (home-push ps k h q)

-- whether a name stood before with another home
abbrev pub moved : List ℕ → List ℕ → List (List ℕ × List ℕ) → Bool
moved q v ps = list_any (λ p. bytes_eq p.0 q && not (bytes_eq p.1 v)) ps

moved-none : (q v : List ℕ) (ps : List (List ℕ × List ℕ)) → home_of ps q ≡ None → moved q v ps ≡ false
moved-none q v [] e = refl
moved-none q v (p ∷ ps) e = by (bytes_eq p.0 q) refl (bytes_eq q p.0) refl e (moved-none q v ps)
  where
    by : (b : Bool) → bytes_eq p.0 q ≡ b → (c : Bool) → bytes_eq q p.0 ≡ c → cond c (Some p.1) (home_of ps q) ≡ None → (home_of ps q ≡ None → moved q v ps ≡ false)
        → ((b && not (bytes_eq p.1 v)) || moved q v ps) ≡ false
    by b x true y n rest = absurd cc
    by true x false y n rest = absurd (let same = same-bytes q p.0 (sym (bytes-same p.0 q x)) in cc)
    by false x false y n rest = rest n

moved-here : (h : List ℕ → Option (List ℕ)) (q v : List ℕ) (ps : List (List ℕ × List ℕ)) → AreHomed h ps → h q ≡ Some v → moved q v ps ≡ false
moved-here h q v [] homed is = refl
moved-here h q v (p ∷ ps) homed is = by (bytes_eq p.0 q) refl (moved-here h q v ps homed.1 is)
  where
    by : (b : Bool) → bytes_eq p.0 q ≡ b → moved q v ps ≡ false → ((b && not (bytes_eq p.1 v)) || moved q v ps) ≡ false
    by true x rest =
        let at : h p.0 ≡ h q = ap h (bytes-same p.0 q x) in
        let same : p.1 ≡ v = (let e : Some p.1 ≡ Some v = sym homed.0 ∙ at ∙ is in cc) in
        rw (same-bytes p.1 v same) rest
    by false x rest = rest

moved-other : (q v b : List ℕ) (ps : List (List ℕ × List ℕ)) → home_of ps q ≡ Some b → bytes_eq b v ≡ false → moved q v ps ≡ true
moved-other q v b [] e other = absurd cc
moved-other q v b (p ∷ ps) e other = by (bytes_eq q p.0) refl e (λ is. moved-other q v b ps is other)
  where
    or-true : (b : Bool) → (b || true) ≡ true
    or-true true = refl
    or-true false = refl

    by : (c : Bool) → bytes_eq q p.0 ≡ c → cond c (Some p.1) (home_of ps q) ≡ Some b → (home_of ps q ≡ Some b → moved q v ps ≡ true) → moved q v (p ∷ ps) ≡ true
    by true x is rest =
        let same : p.1 ≡ b = cc in
        let there : bytes_eq p.0 q ≡ true = same-bytes p.0 q (sym (bytes-same q p.0 x)) in
        let away : bytes_eq p.1 v ≡ false = ap (λ n. bytes_eq n v) same ∙ other in
        rw (there, away) refl
    by false x is rest = ap (λ m. (bytes_eq p.0 q && not (bytes_eq p.1 v)) || m) (rest is) ∙ or-true (bytes_eq p.0 q && not (bytes_eq p.1 v))

-- a name has moved exactly where its home is another
pub moved-is : (q v : List ℕ) (ps : List (List ℕ × List ℕ)) → AreHomed (home_of ps) ps → moved q v ps ≡ has_left ps q v
moved-is q v ps homed = by (home_of ps q) refl
  where
    some : (b : List ℕ) → home_of ps q ≡ Some b → (c : Bool) → bytes_eq b v ≡ c → moved q v ps ≡ not c
    some b e true x = moved-here (home_of ps) q v ps homed (e ∙ ap Some (bytes-same b v x))
    some b e false x = moved-other q v b ps e x

    by : (o : Option (List ℕ)) → home_of ps q ≡ o → moved q v ps ≡ option_map_or (λ b. not (bytes_eq b v)) o false
    by None e = moved-none q v ps e
    by (Some b) e = some b e (bytes_eq b v) refl

homed-change : (g h : List ℕ → Option (List ℕ)) (ps : List (List ℕ × List ℕ)) → ((q w : List ℕ) → g q ≡ Some w → h q ≡ Some w) → AreHomed g ps → AreHomed h ps
homed-change g h [] change homed = tt
homed-change g h (p ∷ ps) change homed = (change p.0 p.1 homed.0, homed-change g h ps change homed.1)

homed-append : (h : List ℕ → Option (List ℕ)) (ps : List (List ℕ × List ℕ)) (k v : List ℕ) → AreHomed h ps → h k ≡ Some v → AreHomed h (ps ++ (k, v) ∷ [])
homed-append h [] k v homed is = (is, tt)
homed-append h (p ∷ ps) k v homed is = (homed.0, homed-append h ps k v homed.1 is)

-- one more name that has not moved
pub homed-push : (ps : List (List ℕ × List ℕ)) (k v : List ℕ) → AreHomed (home_of ps) ps → moved k v ps ≡ false → AreHomed (home_of (ps ++ (k, v) ∷ [])) (ps ++ (k, v) ∷ [])
unfolding one_home
homed-push ps k v homed stays =
    homed-append (home_of (ps ++ (k, v) ∷ [])) ps k v (homed-change (home_of ps) (home_of (ps ++ (k, v) ∷ [])) ps change homed) (home-push ps k v k ∙ by (home_of ps k) refl)
  where
    change : (q w : List ℕ) → home_of ps q ≡ Some w → home_of (ps ++ (k, v) ∷ []) q ≡ Some w
    change q w e = home-push ps k v q ∙ ap (λ o. option_or o (one_home k v q)) e

    some : (b : List ℕ) → home_of ps k ≡ Some b → (c : Bool) → bytes_eq b v ≡ c → ◌≡◌ {A = Option (List ℕ)} (Some b) (Some v)
    some b e true x = ap Some (bytes-same b v x)
    some b e false x = absurd (let m = moved-other k v b ps e x in cc)

    by : (o : Option (List ℕ)) → home_of ps k ≡ o → option_or o (cond (bytes_eq k k) (Some v) None) ≡ Some v
    by None e = rw (same-bytes k k refl) refl
    by (Some b) e = some b e (bytes_eq b v) refl
