use Rattle.std.proofs.Common.{◌≡◌, ◌≤◌, ℕ, ◌+◌, ◌-◌, List, [], ◌++◌, arith, length, take, drop, sym, ap, ◌∙◌, subst, append_assoc, append-nil, take-append-drop, length-append, length-take-le}
use Rattle.std.proofs.lemmas.List.{take_rest}
use Rattle.std.specs.Io.KnownBytes.{Appends}
use Rattle.std.proofs.KnownBytes.{Appends-trans, Appends-kept}
use lib.Seq.{take-append_seam}
use Rattle.ras_outside.proofs.writer.write_whole.Goals as goal

moves_front : (all done rest : List ℕ) (n : ℕ) → all ≡ done ++ rest → all ≡ (done ++ take n rest) ++ take (length rest - n) (drop n rest)
moves_front all done rest n e =
    e ∙ ap (λ l. done ++ l) (sym (take-append-drop n rest)) ∙ sym (append_assoc done (take n rest) (drop n rest)) ∙ ap (λ l. (done ++ take n rest) ++ l) (sym (take_rest rest n))

front_of : (all done rest : List ℕ) → all ≡ done ++ rest → done ≡ take (length done) all
front_of all done rest e = sym (ap (take (length done)) e ∙ take-append_seam done rest)

pub returns-in_default-clause-front : goal.returns-in_default-clause-front
returns-in_default-clause-front g c =
    let (done, split, count, appended) = c.loop.invariant in
    let rest = c.loop.rest.now in
    let zero : c.in-Ok.n ≡ 0 = omega (arith, c.if-n-gt0.false) in
    let none = ap (λ k. done ++ take k rest) zero ∙ append-nil done in
    (length done, subst (Appends _ _) (none ∙ front_of _ done rest split) (Appends-trans _ _ _ _ _ appended c.in-Ok.ensures.bytes))

pub returns-in_default-2-clause-front : goal.returns-in_default-2-clause-front
returns-in_default-2-clause-front g c =
    let (done, split, count, appended) = c.loop.invariant in
    (length done, subst (Appends _ _) (front_of _ done c.loop.rest.now split) (Appends-kept _ _ _ _ appended c.in_default.ensures.bytes))

pub loop-preserved : goal.loop-preserved
loop-preserved g c =
    let (done, split, count, appended) = c.loop.invariant in
    let rest = c.loop.rest.now in
    let n = c.in-Ok.n in (
      done ++ take n rest,
      moves_front _ done rest n split,
      omega (arith, c.if-n-gt0.true, length-append done (take n rest), length-take-le n rest c.in-Ok.ensures.bound),
      Appends-trans _ _ _ _ _ appended c.in-Ok.ensures.bytes,
    )
