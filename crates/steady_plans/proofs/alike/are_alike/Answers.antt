use Rattle.std.proofs.Common.{sym, ◌∙◌}
use Rattle.steady_plans.proofs.alike.are_alike.Goals as goal

pub returns : goal.returns
returns c = λ e. record {
  place = sym c.place_at-one.ensures ∙ c.stand_alike.ensures c.if-not-stand_alike.false ∙ c.place_at-two.ensures;
  start = sym c.start_of-first_start.ensures ∙ c.is_same.ensures.0 c.if-not-is_same.false ∙ c.start_of-second_start.ensures;
  gets = sym c.place_in-first_place.ensures ∙ c.is_same-2.ensures.0 e ∙ c.place_in-second_place.ensures;
}
