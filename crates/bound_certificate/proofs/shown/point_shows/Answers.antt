use Rattle.std.proofs.Common.{sym, ◌∙◌, refl, ◌≡◌, true, false, IsTrue, rules}
use Rattle.ip_model.specs.Points.{value_up_of}
use Rattle.std.specs.Prelude.{nat_le, ◌&&◌, Bool}
use Rattle.bound_certificate.specs.Shown.{lies_in, strictly_between, point_shows}
use Rattle.bound_certificate.proofs.ShownPoints.{lies_in-is, in_full_box, shows-true, shows-false}
use Rattle.bound_certificate.proofs.shown.point_shows.Goals as goal

pub returns-then-not-point_ok : goal.returns-then-not-point_ok
returns-then-not-point_ok c =
    let program = c.args.program.now in
    let box = c.args.bounds.now in
    let point = c.args.point.now in
    let is = lies_in-is program box point c.point_ok.result c.point_ok.ensures.0 c.point_ok.ensures.1 in
    let answer : c.point_ok.result ≡ false = search rules in
    shows-false (lies_in program box point) (strictly_between point c.args.column c.args.at && nat_le (value_up_of program point) c.args.lower) (point_shows program box c.args.column c.args.at c.args.lower point) refl (sym is ∙ answer)

pub point_value_up-requires-clause-lies : goal.point_value_up-requires-clause-lies
point_value_up-requires-clause-lies c =
    let answer : c.point_ok.result ≡ true = search rules in
    in_full_box c.args.program.now c.args.bounds.now c.args.point.now c.requires.is_box (c.point_ok.ensures.0 answer)

pub returns-then-strictly_between : goal.returns-then-strictly_between
returns-then-strictly_between c =
    let program = c.args.program.now in
    let box = c.args.bounds.now in
    let point = c.args.point.now in
    let is = lies_in-is program box point c.point_ok.result c.point_ok.ensures.0 c.point_ok.ensures.1 in
    let answer : c.point_ok.result ≡ true = search rules in
    let between : strictly_between point c.args.column c.args.at ≡ true = sym c.strictly_between.ensures ∙ c.if-strictly_between.true in
    let rest = nat_le (value_up_of program point) c.args.lower in
    rw c.point_value_up.ensures (shows-true (strictly_between point c.args.column c.args.at) rest (strictly_between point c.args.column c.args.at && rest) refl between
    ∙ shows-true (lies_in program box point) (strictly_between point c.args.column c.args.at && rest) (point_shows program box c.args.column c.args.at c.args.lower point) refl (sym is ∙ answer))
