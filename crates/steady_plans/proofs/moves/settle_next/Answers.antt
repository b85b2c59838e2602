use Rattle.std.proofs.Common.{ℕ, true, refl, ap, ◌∙◌, length}
use Rattle.std.specs.Prelude.{nat_lt, Option}
use Rattle.std.specs.Option.{option_map_or}
use Rattle.program_rows.specs.Settings.{setting_of}
use Rattle.steady_plans.proofs.Next.{place-there}
use Rattle.steady_plans.proofs.moves.settle_next.Goals as goal

pub last_tried-alike-requires-clause-there : goal.last_tried-alike-requires-clause-there
last_tried-alike-requires-clause-there c =
    ap (λ (o : Option ℕ). option_map_or (λ r. nat_lt r (length c.args.case.now.wants)) o true) c.place_in-from.ensures
    ∙ place-there c.args.case.now (setting_of c.args.case.now c.args.phase.now) c.args.a.now c.args.server c.requires.allowed c.requires.in_range

pub note_tried-requires-clause-there : goal.note_tried-requires-clause-there
note_tried-requires-clause-there c =
    ap (λ (o : Option ℕ). option_map_or (λ r. nat_lt r (length c.args.case.now.wants)) o true) c.place_in-from.ensures
    ∙ place-there c.args.case.now (setting_of c.args.case.now c.args.phase.now) c.args.a.now c.args.server c.requires.allowed c.requires.in_range

pub returns-then-is_like_settled : goal.returns-then-is_like_settled
returns-then-is_like_settled c = record {
  sums = c.requires.sums;
  room = c.requires.room;
  allowed = c.requires.allowed;
  less = λ e. cc;
  settled = λ _. (refl, c.is_like_settled.ensures c.if-is_like_settled.true);
}

pub returns : goal.returns
returns c = record {
  sums = c.settle_server.ensures.sums;
  room = c.note_tried.ensures.room;
  allowed = c.settle_server.ensures.allowed;
  less = c.settle_server.ensures.less;
  settled = c.settle_server.ensures.settled;
}
