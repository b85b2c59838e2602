use Rattle.std.proofs.Common.{arith, rules, tests, length, true}
use Rattle.std.specs.Prelude.{nat_lt}
use Rattle.std.specs.Option.{option_map_or}
use Rattle.std.proofs.lemmas.Iterator.{YieldsList-from_slice}
use Rattle.std.proofs.lemmas.Iterator.Search.{all_from_yields_List}
use Rattle.std.proofs.lemmas.Bool.Decides.{nat_tests}
use Rattle.plan_model.proofs.allowed.fits.Goals as goal

pub returns-then-len : goal.returns-then-len
returns-then-len c =
    let named = all_from_yields_List (λ to. option_map_or (λ r. nat_lt r (length c.args.case.now.wants)) to true) _ _ c.all.result c.all.ensures.ran (YieldsList-from_slice c.as_slice.result.now cc) (λ x b q k. search (rules, tests)) in
    grind (arith, nat_tests, named)
