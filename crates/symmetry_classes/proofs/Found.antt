-- The classes of some servers and one more.
use Rattle.std.proofs.Common.{◌≡◌, ℕ, suc, ◌+◌, ◌<◌, ◌≤◌, Bool, true, false, cond, List, [], ◌∷◌, ◌++◌, set, take, get_or, length, arith, ap, sym, ◌∙◌, refl, subst, append-nil}
use Rattle.std.specs.Prelude.{filter, map, Result, Ok, Err, Option, OnOk, IfSome, slice_get}
use Rattle.std.proofs.lemmas.Option.{slice_get-get_or}
use Rattle.std.specs.List.{list_any, position_or_len, enumerate_from}
use Rattle.std.proofs.lemmas.List.{take_more, length-take, length-map, map-append, get_or-map}
use Rattle.std.proofs.lemmas.List.Elements.{filter-append}
use Rattle.std.proofs.lemmas.List.Sums.{length-filter, count_by-le-length}
use Rattle.std.proofs.lemmas.List.FromFn.{length-enumerate_from}
use Rattle.plan_model.specs.declared.cases.Grouping.{Grouping}
use Rattle.plan_model.specs.declared.cases.Case.{Case}
use Rattle.plan_model.specs.Units.{place_of}
use Rattle.symmetry_classes.specs.declared.groups.Class.{Class as Group}
use Rattle.symmetry_classes.specs.Groups.{first_of_each, same_class, class_of, classes_of, flagged_servers}
use Rattle.symmetry_classes.specs.Keys.{key_of, keys_of, IsFound}
use Rattle.symmetry_classes.specs.declared.keys.Key.{Key}
use Rattle.symmetry_classes.specs.contracts.keys.KeyPartialEq.TheImpl.{ghosts as keys}
use Rattle.indexmap.specs.IndexSet.{insert_key}
use Rattle.symmetry_classes.proofs.KeyLaws.{same-key}
use Rattle.symmetry_classes.proofs.SameClass.{same_class-equivalence}
use Rattle.symmetry_classes.proofs.FirstOfEach.{is_like, is_like-first, first-push, first-once, filter-push, none-passes, map-changes, map-others, none-pass, length-first, any-same, any-map, position-map, Changes}

-- the numbers of the flags that are set, one flag on
enumerate-push : {X : Type 0} (n : ℕ) (xs : List X) (x : X) → enumerate_from n (xs ++ x ∷ []) ≡ enumerate_from n xs ++ (n + length xs, x) ∷ []
enumerate-push n [] x = let here : n ≡ n + 0 = omega arith in ap (λ k. (k, x) ∷ []) here
enumerate-push n (y ∷ xs) x =
    let next : n + 1 + length xs ≡ n + suc (length xs) = omega arith in
    ap (λ es. (n, y) ∷ es) (enumerate-push (n + 1) xs x ∙ ap (λ k. enumerate_from (n + 1) xs ++ (k, x) ∷ []) next)

flag-more : (b : Bool) (n : ℕ) → map (λ (e : ℕ × Bool). e.0) (cond b ((n, b) ∷ []) []) ≡ cond b (n ∷ []) []
flag-more true n = refl
flag-more false n = refl

pub flagged_more : (flags : List Bool) (i : ℕ) → i < length flags → flagged_servers (take (i + 1) flags) ≡ flagged_servers (take i flags) ++ cond (get_or flags i false) (i ∷ []) []
flagged_more flags i within =
    let here : 0 + length (take i flags) ≡ i = omega (arith, length-take i flags) in
    ap flagged_servers (take_more flags i false within)
    ∙ ap (λ es. map (λ (e : ℕ × Bool). e.0) (filter (λ e. e.1) es)) (enumerate-push 0 (take i flags) (get_or flags i false))
    ∙ ap (map (λ (e : ℕ × Bool). e.0)) (filter-append (λ e. e.1) (enumerate_from 0 (take i flags)) ((0 + length (take i flags), get_or flags i false) ∷ []))
    ∙ map-append (λ (e : ℕ × Bool). e.0) (filter (λ e. e.1) (enumerate_from 0 (take i flags))) (cond (get_or flags i false) ((0 + length (take i flags), get_or flags i false) ∷ []) [])
    ∙ ap (λ xs. flagged_servers (take i flags) ++ xs) (flag-more (get_or flags i false) (0 + length (take i flags)))
    ∙ ap (λ n. flagged_servers (take i flags) ++ cond (get_or flags i false) (n ∷ []) []) here

pub length-flagged : (flags : List Bool) → length (flagged_servers flags) ≤ length flags
length-flagged flags =
    omega (arith, length-map (filter (λ (e : ℕ × Bool). e.1) (enumerate_from 0 flags)) (λ (e : ℕ × Bool). e.0), length-filter (λ e. e.1) (enumerate_from 0 flags), count_by-le-length (λ e. e.1) (enumerate_from 0 flags), length-enumerate_from 0 flags)

module _ (how : Grouping) (racks : Bool) (case : Case) (done : List ℕ) (s : ℕ) where
  abbrev firsts : List ℕ
  firsts = first_of_each (same_class how racks case) done

  -- the class of the server alone
  abbrev pub alone : Group
  alone = record (class_of how racks case [] s) { members = s ∷ [] }

  abbrev pub joined_by : Group → Group
  joined_by class = record class { members = class.members ++ s ∷ [] }

  class-more : (f : ℕ) → class_of how racks case (done ++ s ∷ []) f
      ≡ record (class_of how racks case done f) { members = filter (same_class how racks case f) done ++ cond (same_class how racks case f s) (s ∷ []) [] }
  class-more f = ap (λ ms. record (class_of how racks case done f) { members = ms }) (filter-push (same_class how racks case f) done s)

  changes : Changes (λ f. same_class how racks case f s) (class_of how racks case done) (class_of how racks case (done ++ s ∷ [])) joined_by
  changes = record {
    here = λ f e. class-more f ∙ ap (λ b. record (class_of how racks case done f) { members = filter (same_class how racks case f) done ++ cond b (s ∷ []) [] }) e;
    others = λ f e. class-more f ∙ ap (λ b. record (class_of how racks case done f) { members = filter (same_class how racks case f) done ++ cond b (s ∷ []) [] }) e
        ∙ ap (λ ms. record (class_of how racks case done f) { members = ms }) (append-nil (filter (same_class how racks case f) done));
  }

  -- a server like one that stands there joins its class
  pub joins : (d : Group) → is_like (same_class how racks case) s firsts ≡ true
      → (position_or_len (λ f. same_class how racks case f s) firsts < length firsts)
      × (classes_of how racks case (done ++ s ∷ [])
      ≡ set (classes_of how racks case done) (position_or_len (λ f. same_class how racks case f s) firsts)
      (joined_by (get_or (classes_of how racks case done) (position_or_len (λ f. same_class how racks case f s) firsts) d)))
  joins d like =
      let stay : first_of_each (same_class how racks case) (done ++ s ∷ []) ≡ firsts =
      first-push (same_class how racks case) (same_class-equivalence how racks case) done s ∙ ap (λ b. cond b firsts (firsts ++ s ∷ [])) like in
      let changed = map-changes (λ f. same_class how racks case f s) (class_of how racks case done) (class_of how racks case (done ++ s ∷ [])) joined_by changes firsts d
      (first-once (same_class how racks case) (same_class-equivalence how racks case) s done) like in
      (changed.0, ap (map (class_of how racks case (done ++ s ∷ []))) stay ∙ changed.1)

  pub joins-keys : is_like (same_class how racks case) s firsts ≡ true → keys_of how racks case (done ++ s ∷ []) ≡ keys_of how racks case done
  joins-keys like =
      ap (map (λ t. key_of how racks t (place_of case t)))
      (first-push (same_class how racks case) (same_class-equivalence how racks case) done s ∙ ap (λ b. cond b firsts (firsts ++ s ∷ [])) like)

  -- another one begins a class
  pub begins-keys : is_like (same_class how racks case) s firsts ≡ false
      → keys_of how racks case (done ++ s ∷ []) ≡ keys_of how racks case done ++ key_of how racks s (place_of case s) ∷ []
  begins-keys far =
      ap (map (λ t. key_of how racks t (place_of case t)))
      (first-push (same_class how racks case) (same_class-equivalence how racks case) done s ∙ ap (λ b. cond b firsts (firsts ++ s ∷ [])) far)
      ∙ map-append (λ t. key_of how racks t (place_of case t)) firsts (s ∷ [])

  pub begins : is_like (same_class how racks case) s firsts ≡ false → classes_of how racks case (done ++ s ∷ []) ≡ classes_of how racks case done ++ alone ∷ []
  begins far =
      let same = same_class how racks case in
      let eqv = same_class-equivalence how racks case in
      let none : list_any (same s) done ≡ false = any-same (same s) (λ x. same x s) (λ x. eqv.symm s x) done ∙ sym (is_like-first same eqv s done) ∙ far in
      let only : filter (same s) (done ++ s ∷ []) ≡ s ∷ [] =
      filter-push (same s) done s ∙ ap (λ ms. ms ++ cond (same s s) (s ∷ []) []) (none-passes (same s) done none) ∙ ap (λ b. cond b (s ∷ []) []) (eqv.refl s) in
      ap (map (class_of how racks case (done ++ s ∷ []))) (first-push same eqv done s ∙ ap (λ b. cond b firsts (firsts ++ s ∷ [])) far)
      ∙ map-append (class_of how racks case (done ++ s ∷ [])) firsts (s ∷ [])
      ∙ ap (λ cs. cs ++ class_of how racks case (done ++ s ∷ []) s ∷ []) (map-others (λ f. same f s) (class_of how racks case done) (class_of how racks case (done ++ s ∷ [])) joined_by changes firsts (none-pass (λ f. same f s) firsts far))
      ∙ ap (λ ms. classes_of how racks case done ++ record (class_of how racks case [] s) { members = ms } ∷ []) only

  same-key_as : (key : Key) → key ≡ key_of how racks s (place_of case s) → (t : ℕ) → keys.eq key (key_of how racks t (place_of case t)) ≡ same_class how racks case t s
  same-key_as key e t = ap (λ k. keys.eq k (key_of how racks t (place_of case t))) e ∙ same-key how racks case s t ∙ (same_class-equivalence how racks case).symm s t

  key-like : (key : Key) (found : List Key) → key ≡ key_of how racks s (place_of case s) → found ≡ keys_of how racks case done
      → list_any (keys.eq key) found ≡ is_like (same_class how racks case) s firsts
  key-like key found e k =
      ap (list_any (keys.eq key)) k
      ∙ any-map (keys.eq key) (λ t. same_class how racks case t s) (λ t. key_of how racks t (place_of case t)) (same-key_as key e) firsts

  key-place : (key : Key) (found : List Key) → key ≡ key_of how racks s (place_of case s) → found ≡ keys_of how racks case done
      → position_or_len (keys.eq key) found ≡ position_or_len (λ t. same_class how racks case t s) firsts
  key-place key found e k =
      ap (position_or_len (keys.eq key)) k
      ∙ position-map (keys.eq key) (λ t. same_class how racks case t s) (λ t. key_of how racks t (place_of case t)) (same-key_as key e) firsts

  -- the classes after a server whose key is new, and after one whose key is found
  pub begun : (key : Key) (found : List Key) (classes : List Group) → key ≡ key_of how racks s (place_of case s) → IsFound how racks case done found classes
      → list_any (keys.eq key) found ≡ false → IsFound how racks case (done ++ s ∷ []) (insert_key keys.eq found key) (classes ++ alone ∷ [])
  begun key found classes e is new =
      let far : is_like (same_class how racks case) s firsts ≡ false = sym (key-like key found e is.keys_found) ∙ new in
      record {
        keys_found =
            ap (λ b. cond b found (found ++ key ∷ [])) new
            ∙ ap (λ ks. ks ++ key ∷ []) is.keys_found
            ∙ ap (λ k. keys_of how racks case done ++ k ∷ []) e
            ∙ sym (begins-keys far);
        classes_found = ap (λ cs. cs ++ alone ∷ []) is.classes_found ∙ sym (begins far);
      }

  pub joined : (key : Key) (found : List Key) (classes : List Group) → key ≡ key_of how racks s (place_of case s) → IsFound how racks case done found classes
      → list_any (keys.eq key) found ≡ true
      → (position_or_len (keys.eq key) found < length classes)
      × IsFound how racks case (done ++ s ∷ []) (insert_key keys.eq found key)
      (set classes (position_or_len (keys.eq key) found) (joined_by (get_or classes (position_or_len (keys.eq key) found) alone)))
  joined key found classes e is old =
      let like : is_like (same_class how racks case) s firsts ≡ true = sym (key-like key found e is.keys_found) ∙ old in
      let at = key-place key found e is.keys_found in
      let changed = joins alone like in
      let many : length classes ≡ length firsts = ap length is.classes_found ∙ length-map firsts (class_of how racks case done) in (
        omega (arith, at, many, changed.0),
        record {
          keys_found = ap (λ b. cond b found (found ++ key ∷ [])) old ∙ is.keys_found ∙ sym (joins-keys like);
          classes_found =
              ap (λ n. set classes n (joined_by (get_or classes n alone))) at
              ∙ ap (λ cs. set cs (position_or_len (λ t. same_class how racks case t s) firsts) (joined_by (get_or cs (position_or_len (λ t. same_class how racks case t s) firsts) alone))) is.classes_found
              ∙ sym changed.1;
        },
      )

  -- a class has no more members than there are servers
  pub members-few : (found : List Key) (classes : List Group) (k : ℕ) → IsFound how racks case done found classes → k < length classes
      → length (get_or classes k alone).members ≤ length done
  members-few found classes k is within =
      let many : k < length firsts = omega (arith, ap length is.classes_found, length-map firsts (class_of how racks case done)) in
      let here : get_or classes k alone ≡ class_of how racks case done (get_or firsts k 0) =
      ap (λ cs. get_or cs k alone) is.classes_found ∙ get_or-map (class_of how racks case done) firsts k 0 alone many in
      let same = same_class how racks case (get_or firsts k 0) in
      omega (arith, ap (λ (class : Group). length class.members) here, length-filter same done, count_by-le-length same done)

  -- and there are no more classes than servers
  pub classes-few : (found : List Key) (classes : List Group) → IsFound how racks case done found classes → length classes ≤ length done
  classes-few found classes is =
      omega (arith, ap length is.classes_found, length-map firsts (class_of how racks case done), length-first (same_class how racks case) (same_class-equivalence how racks case) done)

  -- the write of a joined class
  pub joined-write : {T E : Type 0} (result : Result T E) (classes after : List Group) (at : ℕ) (Q : Type 0) → at < length classes
      → (after ≡ set classes at (joined_by (get_or classes at alone)) → Q)
      → OnOk result (IfSome (slice_get classes at) (λ class. after ≡ set classes at (joined_by class))) → OnOk result Q
  joined-write (Ok x) classes after at Q within gives h =
      let P : Option Group → Type 0 = λ o. IfSome o (λ class. after ≡ set classes at (joined_by class)) in
      gives (subst P (slice_get-get_or classes at alone within) h)
  joined-write (Err e) classes after at Q within gives h = tt
