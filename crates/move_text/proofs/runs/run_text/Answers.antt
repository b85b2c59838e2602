use Rattle.std.proofs.Common.{◌≡◌, ◌++◌, ◌∙◌, sym, ap, ap₂, length, ℕ}
use Rattle.ras_inventory.specs.RegionRule.{server_names}
use Rattle.ras_requests.specs.RequestsRule.{reservation_names}
use Rattle.move_text.specs.Lines.{total_line}
use Rattle.move_text.specs.Told.{commands_of, stales_of}
use Rattle.move_text.specs.Texts.{steps_text, ends_text}
use Rattle.move_text.proofs.LineFacts.{three-joined}
use Rattle.move_text.proofs.RunFacts.{run-length}
use Rattle.move_text.proofs.runs.run_text.Goals as goal

pub put_ends-requires : goal.put_ends-requires
put_ends-requires c =
    sym (run-length (server_names c.args.region.now.servers) (reservation_names c.args.requests.now.list) c.args.mover.now c.put_steps.new.mover c.args.events.now
    c.new-text.result.items c.put_steps.new.text.items c.in_ok-totals.totals.commands c.in_ok-totals.totals.stales c.in_ok-totals.ensures ∙ c.requires.servers)

pub returns : goal.returns
returns c =
    let servers = server_names c.args.region.now.servers in
    let reservations = reservation_names c.args.requests.now.list in
    let told = c.in_ok-totals.ensures in (
      told.0,
      (
        told.1.0,
        three-joined c.new-text.result.items c.put_steps.new.text.items c.put_ends.new.text.items c.put_total.new.text.items
            (steps_text servers reservations told.0) (ends_text servers reservations c.put_steps.new.mover) (total_line (commands_of told.0) (stales_of told.0))
            c.new-text.ensures.items told.1.1 c.in_ok-put_ends.ensures
            (c.in_ok-put_total.ensures ∙ ap₂ (λ (n m : ℕ). c.put_ends.new.text.items ++ total_line n m) told.1.2 told.1.3),
      ),
    )
