-- Which reads were made, in which order.
use Rattle.std.proofs.Common.{ℕ, ◌+◌, zero, suc, ◌≡◌, ◌<◌, sym, refl, subst, arith, List, [], ◌∷◌, ◌++◌, length, map, take, get_or, Result, Ok, Err, Vec, Global, inl, inr}
use Rattle.ras_outside.specs.declared.shelf.ShelfFault.{ShelfFault}
use Rattle.ras_outside.specs.declared.shelf.ShelfFault.TheVariants as fault
use Rattle.ras_cli.specs.Named.{limited}
use Rattle.ras_cli.specs.Reads.{AllRead, EndsAt, SomeRead, ReadsInOrder}
use Rattle.ras_cli.specs.declared.files.Named.{Named}

module _ {S : Type 0} (R : S → List ℕ → ℕ → Result (Vec ℕ Global) ShelfFault → S → Type 0) where
  -- one more file
  more : (named : List Named) (i : ℕ) (d : Named) (s t u : S) (files : List (Vec ℕ Global)) (f : Vec ℕ Global) → i < length named → AllRead R s (map limited (take i named)) files t
      → R t (get_or named i d).name.now (get_or named i d).most (Ok f) u → AllRead R s (map limited (take (suc i) named)) (files ++ f ∷ []) u
  more [] i d s t u files f h all r = absurd (omega arith)
  more (n ∷ named) zero d s t u [] f h all r = (u, subst (λ (x : S). R x n.name.now n.most (Ok f) u) all r, refl)
  more (n ∷ named) zero d s t u (g ∷ files) f h all r = absurd all
  more (n ∷ named) (suc i) d s t u [] f h all r = absurd all
  more (n ∷ named) (suc i) d s t u (g ∷ files) f h all r = (all.0, all.1, more named i d all.0 t u files f (omega arith) all.2 r)

  pub all-more-read : (named : List Named) (i : ℕ) (d : Named) (s t u : S) (files new : List (Vec ℕ Global)) (f : Vec ℕ Global) → i < length named → new ≡ files ++ f ∷ []
      → AllRead R s (map limited (take i named)) files t → R t (get_or named i d).name.now (get_or named i d).most (Ok f) u → AllRead R s (map limited (take (i + 1) named)) new u
  all-more-read named i d s t u files new f h e all r =
      let next : suc i ≡ i + 1 = omega arith in
      subst (λ (k : ℕ). AllRead R s (map limited (take k named)) new u) next
      (subst (λ (l : List (Vec ℕ Global)). AllRead R s (map limited (take (suc i) named)) l u) (sym e) (more named i d s t u files f h all r))

  -- nothing was read
  pub none-read : (names : List (List ℕ × ℕ)) (s : S) → SomeRead R s names s
  none-read [] s = refl
  none-read (n ∷ names) s = inl refl

  -- all was read
  pub all-some : (names : List (List ℕ × ℕ)) (s t : S) (files : List (Vec ℕ Global)) → AllRead R s names files t → SomeRead R s names t
  all-some [] s t [] all = all
  all-some [] s t (f ∷ files) all = absurd all
  all-some (n ∷ names) s t [] all = absurd all
  all-some (n ∷ names) s t (f ∷ files) all = inr (all.0, Ok f, all.1, all-some names all.0 t files all.2)

  -- a front was read, and one more
  some-more : (named : List Named) (i : ℕ) (d : Named) (s t u : S) (files : List (Vec ℕ Global)) (answer : Result (Vec ℕ Global) ShelfFault) → i < length named
      → AllRead R s (map limited (take i named)) files t → R t (get_or named i d).name.now (get_or named i d).most answer u → SomeRead R s (map limited named) u
  some-more [] i d s t u files answer h all r = absurd (omega arith)
  some-more (n ∷ named) zero d s t u [] answer h all r = inr (u, answer, subst (λ (x : S). R x n.name.now n.most answer u) all r, none-read (map limited named) u)
  some-more (n ∷ named) zero d s t u (g ∷ files) answer h all r = absurd all
  some-more (n ∷ named) (suc i) d s t u [] answer h all r = absurd all
  some-more (n ∷ named) (suc i) d s t u (g ∷ files) answer h all r = inr (all.0, Ok g, all.1, some-more named i d all.0 t u files answer (omega arith) all.2 r)

  ends : (named : List Named) (i : ℕ) (d : Named) (s t u : S) (files : List (Vec ℕ Global)) (e : ShelfFault) → i < length named
      → AllRead R s (map limited (take i named)) files t → R t (get_or named i d).name.now (get_or named i d).most (Err e) u → EndsAt R s (map limited named) e u
  ends [] i d s t u files e h all r = absurd (omega arith)
  ends (n ∷ named) zero d s t u [] e h all r = inl (subst (λ (x : S). R x n.name.now n.most (Err e) u) all r)
  ends (n ∷ named) zero d s t u (g ∷ files) e h all r = absurd all
  ends (n ∷ named) (suc i) d s t u [] e h all r = absurd all
  ends (n ∷ named) (suc i) d s t u (g ∷ files) e h all r = inr (all.0, g, all.1, ends named i d all.0 t u files e (omega arith) all.2 r)

  -- a read gave nothing
  pub stops-read : (named : List Named) (i : ℕ) (d : Named) (s t u : S) (files : List (Vec ℕ Global)) (e : ShelfFault) → i < length named
      → AllRead R s (map limited (take i named)) files t → R t (get_or named i d).name.now (get_or named i d).most (Err e) u → ReadsInOrder R s (map limited named) (Err e) u
  stops-read named i d s t u files fault.Memory h all r = some-more named i d s t u files (Err fault.Memory) h all r
  stops-read named i d s t u files fault.Failed h all r = ends named i d s t u files fault.Failed h all r
  stops-read named i d s t u files fault.Long h all r = ends named i d s t u files fault.Long h all r

  -- a read gave bytes that found no room
  pub last-unkept : (named : List Named) (i : ℕ) (d : Named) (s t u : S) (files : List (Vec ℕ Global)) (f : Vec ℕ Global) → i < length named
      → AllRead R s (map limited (take i named)) files t → R t (get_or named i d).name.now (get_or named i d).most (Ok f) u → SomeRead R s (map limited named) u
  last-unkept named i d s t u files f h all r = some-more named i d s t u files (Ok f) h all r

  -- in each case some front was read
  ends-some : (names : List (List ℕ × ℕ)) (s t : S) (e : ShelfFault) → EndsAt R s names e t → SomeRead R s names t
  ends-some [] s t e h = absurd h
  ends-some (n ∷ names) s t e h = elim h [
    | inl r ↦ inr (t, Err e, r, none-read names t)
    | inr rest ↦ inr (rest.0, Ok rest.1, rest.2, ends-some names rest.0 t e rest.3)
  ]

  pub in-order-some : (names : List (List ℕ × ℕ)) (s t : S) (result : Result (Vec (Vec ℕ Global) Global) ShelfFault) → ReadsInOrder R s names result t → SomeRead R s names t
  in-order-some names s t (Ok files) h = all-some names s t files.items h
  in-order-some names s t (Err fault.Memory) h = h
  in-order-some names s t (Err fault.Failed) h = ends-some names s t fault.Failed h
  in-order-some names s t (Err fault.Long) h = ends-some names s t fault.Long h
