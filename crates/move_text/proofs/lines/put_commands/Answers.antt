use Rattle.std.proofs.Common.{◌≡◌, ◌<◌, ◌∙◌, sym, ap, length, arith}
use Rattle.ras_inventory.specs.RegionRule.{server_names}
use Rattle.ras_requests.specs.RequestsRule.{reservation_names}
use Rattle.move_text.specs.Lines.{command_line}
use Rattle.move_text.proofs.LineFacts.{command-within, pieces-more, past-end}
use Rattle.move_text.proofs.lines.put_commands.Goals as goal
use Rattle.move_text.proofs.lines.put_commands.Goals.{in-Some+in_ok-put_command, in_default}

pub put_command-requires : goal.put_command-requires
put_command-requires c =
    command-within (length c.args.mover.now.servers) c.args.commands.now c.loop-i.i c.in-Some.command c.requires (sym c.get.ensures ∙ c.in-Some.is)

pub loop-i-preserved : goal.loop-i-preserved
loop-i-preserved c =
    let within : c.loop-i.i < length c.args.commands.now = omega (arith, c.loop-i-test.true, c.len-i-end.ensures) in
    elim c.match-get.branch [
      | in-Some+in_ok-put_command w ↦
          pieces-more (command_line (server_names c.args.region.now.servers) (reservation_names c.args.requests.now.list) c.args.mover.now c.args.at.now)
          c.args.commands.now c.loop-i.i w.in-Some.command c.args.text.now.items c.loop-i.text.items c.match-get.text.items
          c.loop-i.invariant (sym c.get.ensures ∙ w.in-Some.is) (ap (λ t. t.items) w.text-is ∙ w.in_ok-put_command.ensures)
      | in_default w ↦ absurd (past-end c.args.commands.now c.loop-i.i (sym c.get.ensures ∙ w.in_default.is) within)
    ]
