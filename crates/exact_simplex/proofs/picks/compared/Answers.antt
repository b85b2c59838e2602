use Rattle.std.proofs.Common.{add-one, subst, ap, ◌∙◌, Some}
use Rattle.exact_simplex.specs.Choices.{NextGives}
use Rattle.exact_simplex.proofs.HeldSteps.{next_gives, next_of}
use Rattle.exact_simplex.proofs.picks.compared.Goals as goal

pub returns-in_default-clause-gives : goal.returns-in_default-clause-gives
returns-in_default-clause-gives c = λ n t h within held.
    subst (λ f. NextGives (next_of f c.args.held c.args.other) n c.args.cells.now t c.args.place c.args.other) c.in_default.is
    (next_gives c.comes_before-found.result n c.args.cells.now t c.args.place c.args.held c.args.other h c.requires.place within held c.requires.other_candidate (simp add-one at c.comes_before-found.ensures))

pub returns-then-before-clause-gives : goal.returns-then-before-clause-gives
returns-then-before-clause-gives c = λ n t h within held.
    subst (λ f. NextGives (next_of f c.args.held c.args.other) n c.args.cells.now t c.args.place c.args.other) (c.in-Some.is ∙ ap Some c.if-before.true)
    (next_gives c.comes_before-found.result n c.args.cells.now t c.args.place c.args.held c.args.other h c.requires.place within held c.requires.other_candidate (simp add-one at c.comes_before-found.ensures))

pub returns-else-before-clause-gives : goal.returns-else-before-clause-gives
returns-else-before-clause-gives c = λ n t h within held.
    subst (λ f. NextGives (next_of f c.args.held c.args.other) n c.args.cells.now t c.args.place c.args.other) (c.in-Some.is ∙ ap Some c.if-before.false)
    (next_gives c.comes_before-found.result n c.args.cells.now t c.args.place c.args.held c.args.other h c.requires.place within held c.requires.other_candidate (simp add-one at c.comes_before-found.ensures))
