use Rattle.std.proofs.Common.{ℕ, List, ◌++◌, ◌∙◌, ap, sym}
use Rattle.rounds_text.proofs.StartFacts.{adds-none, adds-some}
use Rattle.rounds_text.proofs.moves.put_moves.Goals as goal

pub returns-in_ok-extend_from_slice-in-Some-clause-moved : goal.returns-in_ok-extend_from_slice-in-Some-clause-moved
returns-in_ok-extend_from_slice-in-Some-clause-moved c =
    adds-some _ _ _ _ _ _ _ _ _ (sym c.in-Some.ensures) c.in_ok-moves-in-Some.ensures.moved
    (c.in_ok-extend_from_slice-in-Some.ensures.items ∙ ap (λ (xs : List ℕ). c.args.text.now.items ++ xs) c.as_slice.ensures.value)

pub returns-in-None-clause-moved : goal.returns-in-None-clause-moved
returns-in-None-clause-moved c = adds-none _ _ _ _ _ (sym c.in-None.ensures)
