-- Which puts to a sink were made, in which order. `puts` is the sink's word for one put.
use Rattle.std.specs.Prelude.{ℕ, zero, suc, ◌≡◌, ◌⊎◌, ⊤, List, [], ◌∷◌, length, take, drop, Result, Ok, Err}
use Rattle.ras_outside.specs.declared.sink.SinkFailed.{SinkFailed}

-- a text cut into at most so many pieces
abbrev pub cut : ℕ → ℕ → List ℕ → List (List ℕ)
cut zero size text = []
cut (suc most) size [] = []
cut (suc most) size (x ∷ text) = take size (x ∷ text) ∷ cut most size (drop size (x ∷ text))

-- a text cut into pieces of so many bytes, of which the last may be shorter and none is empty
unfoldable pub pieces_of : ℕ → List ℕ → List (List ℕ)
pieces_of size text = cut (length text) size text

-- each piece was put once, in this order, and was taken whole
abbrev pub AllPut : {K : Type 0} → (K → List ℕ → Result ⊤ SinkFailed → K → Type 0) → K → List (List ℕ) → K → Type 0
AllPut puts s [] t = t ≡ s
AllPut {K} puts s (p ∷ pieces) t = (m : K) × puts s p (Ok tt) m × AllPut puts m pieces t

-- the pieces were put in this order, up to the first that was not taken whole
abbrev pub StopsAt : {K : Type 0} → (K → List ℕ → Result ⊤ SinkFailed → K → Type 0) → K → List (List ℕ) → K → Type 0
StopsAt puts s [] t = ⊥
StopsAt {K} puts s (p ∷ pieces) t = ((e : SinkFailed) × puts s p (Err e) t) ⊎ ((m : K) × puts s p (Ok tt) m × StopsAt puts m pieces t)

-- a message was put once, and nothing else
unfoldable pub PutOnce : {E : Type 0} → (E → List ℕ → Result ⊤ SinkFailed → E → Type 0) → E → List ℕ → E → Type 0
PutOnce puts s message t = (answer : Result ⊤ SinkFailed) × puts s message answer t
