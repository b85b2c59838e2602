use Rattle.std.proofs.Common.{rules, FitsSigned, to_z-of_z, arith, ◌≡◌, ◌<ℤ◌, ◌∙◌, ap, unsigned_abs}
use Rattle.std.proofs.lemmas.Int.{ints}
use Rattle.std.specs.Int.{w128, int_rem_euclid}
use Rattle.exact_fraction.proofs.SignedCompares.{found_of, when_less, when_greater, by_rests, four_same}
use Rattle.exact_fraction.proofs.fraction.Fraction.cmp_apart.Goals as goal

pub returns-then-own-their : goal.returns-then-own-their
returns-then-own-their c =
    let a : FitsSigned w128 c.args.self.num = search rules in
    let b : FitsSigned w128 c.args.self.den = search rules in
    let n : FitsSigned w128 c.args.other.num = search rules in
    let d : FitsSigned w128 c.args.other.den = search rules in
    let x : FitsSigned w128 c.div_euclid-own.result = search rules in
    let y : FitsSigned w128 c.div_euclid-their.result = search rules in
    let own = found_of c.args.self.num c.args.self.den c.div_euclid-own.result c.args.self.lowest.den_is c.args.self.lowest.den_above_none (simp to_z-of_z at c.div_euclid-own.ensures) in
    let their = found_of c.args.other.num c.args.other.den c.div_euclid-their.result c.args.other.lowest.den_is c.args.other.lowest.den_above_none (simp to_z-of_z at c.div_euclid-their.ensures) in
    let less : c.div_euclid-own.result <ℤ c.div_euclid-their.result = (let t = simp to_z-of_z at c.if-own-their.true in grind (arith, ints)) in
    when_less _ _ _ _ _ _ _ _ own their less

pub returns-then-their-own : goal.returns-then-their-own
returns-then-their-own c =
    let a : FitsSigned w128 c.args.self.num = search rules in
    let b : FitsSigned w128 c.args.self.den = search rules in
    let n : FitsSigned w128 c.args.other.num = search rules in
    let d : FitsSigned w128 c.args.other.den = search rules in
    let x : FitsSigned w128 c.div_euclid-own.result = search rules in
    let y : FitsSigned w128 c.div_euclid-their.result = search rules in
    let own = found_of c.args.self.num c.args.self.den c.div_euclid-own.result c.args.self.lowest.den_is c.args.self.lowest.den_above_none (simp to_z-of_z at c.div_euclid-own.ensures) in
    let their = found_of c.args.other.num c.args.other.den c.div_euclid-their.result c.args.other.lowest.den_is c.args.other.lowest.den_above_none (simp to_z-of_z at c.div_euclid-their.ensures) in
    let less : c.div_euclid-their.result <ℤ c.div_euclid-own.result = (let t = simp to_z-of_z at c.if-their-own.true in grind (arith, ints)) in
    when_greater _ _ _ _ _ _ _ _ own their less

pub returns-else-their-own : goal.returns-else-their-own
returns-else-their-own c =
    let a : FitsSigned w128 c.args.self.num = search rules in
    let b : FitsSigned w128 c.args.self.den = search rules in
    let n : FitsSigned w128 c.args.other.num = search rules in
    let d : FitsSigned w128 c.args.other.den = search rules in
    let x : FitsSigned w128 c.div_euclid-own.result = search rules in
    let y : FitsSigned w128 c.div_euclid-their.result = search rules in
    let own = found_of c.args.self.num c.args.self.den c.div_euclid-own.result c.args.self.lowest.den_is c.args.self.lowest.den_above_none (simp to_z-of_z at c.div_euclid-own.ensures) in
    let their = found_of c.args.other.num c.args.other.den c.div_euclid-their.result c.args.other.lowest.den_is c.args.other.lowest.den_above_none (simp to_z-of_z at c.div_euclid-their.ensures) in
    let r : FitsSigned w128 c.rem_euclid.result = search rules in
    let s : FitsSigned w128 c.rem_euclid-else-their-own.result = search rules in
    let same : c.div_euclid-own.result ≡ c.div_euclid-their.result = (let t = simp to_z-of_z at c.if-own-their.false in let u = simp to_z-of_z at c.if-their-own.false in grind (arith, ints)) in
    let one : c.unsigned_abs.result ≡ unsigned_abs (int_rem_euclid c.args.self.num c.args.self.den) = (simp to_z-of_z at c.unsigned_abs.ensures.value) ∙ ap unsigned_abs (simp to_z-of_z at c.rem_euclid.ensures.value) in
    let two : c.unsigned_abs-else-their-own.result ≡ unsigned_abs c.args.self.den = simp to_z-of_z at c.unsigned_abs-else-their-own.ensures.value in
    let three : c.unsigned_abs-else-their-own-2.result ≡ unsigned_abs (int_rem_euclid c.args.other.num c.args.other.den) = (simp to_z-of_z at c.unsigned_abs-else-their-own-2.ensures.value) ∙ ap unsigned_abs (simp to_z-of_z at c.rem_euclid-else-their-own.ensures.value) in
    let four : c.unsigned_abs-else-their-own-3.result ≡ unsigned_abs c.args.other.den = simp to_z-of_z at c.unsigned_abs-else-their-own-3.ensures.value in
    c.compare.ensures ∙ four_same _ _ _ _ _ _ _ _ one two three four ∙ by_rests _ _ _ _ _ _ _ _ own their same
