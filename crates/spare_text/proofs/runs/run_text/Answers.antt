use Rattle.std.proofs.Common.{◌≡◌, ◌++◌, ◌∙◌, sym, ap, ap₂, length, ℕ}
use Rattle.ras_inventory.specs.RegionRule.{server_names}
use Rattle.ras_requests.specs.RequestsRule.{reservation_names}
use Rattle.spare_text.specs.Lines.{total_line}
use Rattle.spare_text.specs.Told.{shorts_of}
use Rattle.spare_text.specs.Texts.{steps_text}
use Rattle.spare_text.proofs.RunFacts.{two-joined, told-count}
use Rattle.spare_text.proofs.runs.run_text.Goals as goal

pub returns : goal.returns
returns c =
    let servers = server_names c.args.region.now.servers in
    let reservations = reservation_names c.args.requests.now.list in
    let told = c.in_ok-shorts.ensures in
    let count = told-count c.args.pool c.put_steps.new.pool c.args.failures.now told.0 told.1.0 in (
      told.0,
      (
        c.put_steps.new.pool,
        (
          told.1.0,
          two-joined c.new-text.result.items c.put_steps.new.text.items c.put_total.new.text.items
              (steps_text servers reservations told.0) (total_line (length told.0) (shorts_of told.0))
              c.new-text.ensures.items told.1.1
              (c.in_ok-put_total.ensures ∙ ap₂ (λ (n m : ℕ). c.put_steps.new.text.items ++ total_line n m) (c.from.ensures ∙ c.len.ensures ∙ sym count) told.1.2),
        ),
      ),
    )
