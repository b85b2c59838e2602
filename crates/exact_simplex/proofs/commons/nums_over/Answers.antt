use Rattle.std.proofs.Common.{subst, sym, unsigned_abs}
use Rattle.std.proofs.lemmas.List.{get_or_read}
use Rattle.std.specs.Int.{◌∣◌}
use Rattle.exact_fraction.specs.declared.fraction.Fraction.{Fraction}
use Rattle.exact_simplex.specs.Cells.{no_fraction}
use Rattle.exact_simplex.proofs.commons.nums_over.Goals as goal

pub num_over-requires-clause-over : goal.num_over-requires-clause-over
num_over-requires-clause-over c = subst (λ (f : Fraction). unsigned_abs f.den ∣ c.args.den) (sym (get_or_read c.args.numbers.now c.loop-number.number-index c.number-item.result c.loop-number-test.true c.number-item.is no_fraction)) (c.requires.over c.loop-number.number-index c.loop-number-test.true)
