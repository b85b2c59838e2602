-- Pieces that are put one after another.
use Rattle.std.proofs.Common.{ℕ, zero, suc, ◌+◌, ◌-◌, ◌<◌, ◌≤◌, ◌≡◌, ◌∙◌, sym, ap, refl, subst, arith, min, true, false, List, [], ◌∷◌, ◌++◌, length, take, drop, append_assoc, Result, Ok, Err, inl, inr}
use Rattle.std.specs.Bool.{⊤}
use Rattle.std.specs.Result.{is_err}
use Rattle.std.proofs.lemmas.List.{append-nil, drop-drop, drop_all, drop_min, length-drop, take_min}
use Rattle.ras_outside.specs.declared.sink.SinkFailed.{SinkFailed}
use Rattle.ras_cli.specs.Puts.{AllPut, StopsAt, cut, pieces_of}

-- ---- the pieces of a text

cut-enough : (k j n : ℕ) (text : List ℕ) → 0 < n → length text ≤ k → length text ≤ j → cut k n text ≡ cut j n text
cut-enough zero zero n [] p h i = refl
cut-enough zero (suc j) n [] p h i = refl
cut-enough (suc k) zero n [] p h i = refl
cut-enough (suc k) (suc j) n [] p h i = refl
cut-enough zero j n (x ∷ text) p h i = absurd (omega arith)
cut-enough (suc k) zero n (x ∷ text) p h i = absurd (omega arith)
cut-enough (suc k) (suc j) n (x ∷ text) p h i =
    let left = length-drop n (x ∷ text) in
    ap (λ l. take n (x ∷ text) ∷ l) (cut-enough k j n (drop n (x ∷ text)) p (omega (arith, left)) (omega (arith, left)))

pub pieces-none : (n : ℕ) → pieces_of n [] ≡ []
unfolding pieces_of
pieces-none n = refl

pub pieces-step : (n : ℕ) (text : List ℕ) → 0 < n → 0 < length text → pieces_of n text ≡ take n text ∷ pieces_of n (drop n text)
unfolding pieces_of
pieces-step n [] p h = absurd (omega arith)
pieces-step n (x ∷ text) p h =
    let left = length-drop n (x ∷ text) in
    ap (λ l. take n (x ∷ text) ∷ l) (cut-enough (length text) (length (drop n (x ∷ text))) n (drop n (x ∷ text)) p (omega (arith, left)) (omega arith))

-- the piece at a place of a text, and the text behind it
piece-at : (n i m : ℕ) (text : List ℕ) → 0 < n → i < length text → m ≡ min (length text - i) n
    → pieces_of n (drop i text) ≡ take (i + m - i) (drop i text) ∷ pieces_of n (drop (i + m) text)
piece-at n i m text p h e =
    let left : length (drop i text) ≡ length text - i = length-drop i text in
    let some : 0 < length (drop i text) = omega (arith, left) in
    let same : m ≡ min n (length (drop i text)) = omega (arith, left, e) in
    let most : i + m - i ≡ min n (length (drop i text)) = omega (arith, same) in
    let piece : take (i + m - i) (drop i text) ≡ take n (drop i text) = ap (λ k. take k (drop i text)) most ∙ take_min n (drop i text) in
    let behind : drop (i + m) text ≡ drop n (drop i text) = sym (drop-drop m i text) ∙ ap (λ k. drop k (drop i text)) same ∙ drop_min n (drop i text) in
    pieces-step n (drop i text) p some ∙ ap (λ l. l ∷ pieces_of n (drop n (drop i text))) (sym piece) ∙ ap (λ l. take (i + m - i) (drop i text) ∷ pieces_of n l) (sym behind)

-- ---- one more put

-- what a put says where its answer is known by a test
taken : (P : Result ⊤ SinkFailed → Type 0) (r : Result ⊤ SinkFailed) → false ≡ is_err r → P r → P (Ok tt)
taken P (Ok x) e p = p
taken P (Err x) e p = absurd cc

refused : (P : Result ⊤ SinkFailed → Type 0) (r : Result ⊤ SinkFailed) → true ≡ is_err r → P r → (e : SinkFailed) × P (Err e)
refused P (Ok x) e p = absurd cc
refused P (Err x) e p = (x, p)

-- The pieces that were put so far are those before a place of the text.
abbrev pub PutUpTo : {K : Type 0} → (K → List ℕ → Result ⊤ SinkFailed → K → Type 0) → ℕ → K → List ℕ → ℕ → K → Type 0
PutUpTo puts n s text i t = (done : List (List ℕ)) × (pieces_of n text ≡ done ++ pieces_of n (drop i text)) × AllPut puts s done t

module _ {K : Type 0} (P : K → List ℕ → Result ⊤ SinkFailed → K → Type 0) where
  more : (done : List (List ℕ)) (p : List ℕ) (s t u : K) → AllPut P s done t → P t p (Ok tt) u → AllPut P s (done ++ p ∷ []) u
  more [] p s t u all r = (u, subst (λ (x : K). P x p (Ok tt) u) all r, refl)
  more (d ∷ done) p s t u all r = (all.0, all.1, more done p all.0 t u all.2 r)

  stops : (done : List (List ℕ)) (p : List ℕ) (rest : List (List ℕ)) (s t u : K) → AllPut P s done t → ((e : SinkFailed) × P t p (Err e) u) → StopsAt P s (done ++ p ∷ rest) u
  stops [] p rest s t u all r = inl (subst (λ (x : K). (e : SinkFailed) × P x p (Err e) u) all r)
  stops (d ∷ done) p rest s t u all r = inr (all.0, all.1, stops done p rest all.0 t u all.2 r)

  -- nothing was put
  pub put-none : (n : ℕ) (s : K) (text : List ℕ) → PutUpTo P n s text 0 s
  put-none n s text = ([], refl, refl)

  -- all was put
  pub put-all : (n i : ℕ) (s t : K) (text : List ℕ) → length text ≤ i → PutUpTo P n s text i t → AllPut P s (pieces_of n text) t
  put-all n i s t text h (done, split, all) =
      let none : pieces_of n text ≡ done = split ∙ ap (λ l. done ++ pieces_of n l) (drop_all i text h) ∙ ap (λ l. done ++ l) (pieces-none n) ∙ append-nil done in
      subst (λ (l : List (List ℕ)). AllPut P s l t) (sym none) all

  -- the next piece was put
  pub put-more : (n i m : ℕ) (s t u : K) (text : List ℕ) (r : Result ⊤ SinkFailed) → 0 < n → i < length text → m ≡ min (length text - i) n → false ≡ is_err r
      → PutUpTo P n s text i t → P t (take (i + m - i) (drop i text)) r u → PutUpTo P n s text (i + m) u
  put-more n i m s t u text r p h e ok (done, split, all) put =
      let piece = take (i + m - i) (drop i text) in
      let rest = pieces_of n (drop (i + m) text) in (
        done ++ piece ∷ [],
        split ∙ ap (λ l. done ++ l) (piece-at n i m text p h e) ∙ sym (append_assoc done (piece ∷ []) rest),
        more done piece s t u all (taken (λ (a : Result ⊤ SinkFailed). P t piece a u) r ok put),
      )

  -- the next piece was refused
  pub put-stops : (n i m : ℕ) (s t u : K) (text : List ℕ) (r : Result ⊤ SinkFailed) → 0 < n → i < length text → m ≡ min (length text - i) n → true ≡ is_err r
      → PutUpTo P n s text i t → P t (take (i + m - i) (drop i text)) r u → StopsAt P s (pieces_of n text) u
  put-stops n i m s t u text r p h e bad (done, split, all) put =
      let piece = take (i + m - i) (drop i text) in
      let rest = pieces_of n (drop (i + m) text) in
      let parts : pieces_of n text ≡ done ++ piece ∷ rest = split ∙ ap (λ l. done ++ l) (piece-at n i m text p h e) in
      subst (λ (l : List (List ℕ)). StopsAt P s l u) (sym parts) (stops done piece rest s t u all (refused (λ (a : Result ⊤ SinkFailed). P t piece a u) r bad put))
