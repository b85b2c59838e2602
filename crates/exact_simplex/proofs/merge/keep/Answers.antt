use Rattle.std.proofs.Common.{◌≡◌, ◌≢◌, ap, arith, rules, pos}
use Rattle.exact_fraction.specs.declared.fraction.Fraction.{Fraction}
use Rattle.exact_simplex.proofs.KeptFacts.{none_den, none_num, rising_pushed, value_pushed_here, value_pushed_other}
use Rattle.exact_simplex.proofs.merge.keep.Goals as goal

pub returns-in_ok-push-clause-rising : goal.returns-in_ok-push-clause-rising
returns-in_ok-push-clause-rising c =
    let some : c.args.value.num ≢ pos 0 = search rules in
    rw c.in_ok-push.ensures.items (rising_pushed 0 c.args.kept.now.items (record { column = c.args.column; value = c.args.value }) c.requires.rising c.requires.below (omega arith) some)

pub returns-in_ok-push-clause-num : goal.returns-in_ok-push-clause-num
returns-in_ok-push-clause-num c = rw c.in_ok-push.ensures.items (ap (λ (f : Fraction). f.num) (value_pushed_here c.args.kept.now.items (record { column = c.args.column; value = c.args.value }) c.requires.below))

pub returns-in_ok-push-clause-den : goal.returns-in_ok-push-clause-den
returns-in_ok-push-clause-den c = rw c.in_ok-push.ensures.items (ap (λ (f : Fraction). f.den) (value_pushed_here c.args.kept.now.items (record { column = c.args.column; value = c.args.value }) c.requires.below))

pub returns-in_ok-push-clause-others : goal.returns-in_ok-push-clause-others
returns-in_ok-push-clause-others c = rw c.in_ok-push.ensures.items (λ k other. value_pushed_other c.args.kept.now.items (record { column = c.args.column; value = c.args.value }) k other)

pub returns-else-not-is_none-clause-num : goal.returns-else-not-is_none-clause-num
returns-else-not-is_none-clause-num c =
    let none : c.args.value.num ≡ pos 0 = search rules in
    none_num c.args.column c.args.kept.now.items c.args.value c.requires.below none

pub returns-else-not-is_none-clause-den : goal.returns-else-not-is_none-clause-den
returns-else-not-is_none-clause-den c =
    let none : c.args.value.num ≡ pos 0 = search rules in
    none_den c.args.column c.args.kept.now.items c.args.value c.requires.below none
