use Rattle.std.proofs.Common.{ℕ, ◌+◌, List, length, ap, ◌∙◌, refl, Bool}
use Rattle.std.specs.Prelude.{◌&&◌, is_some, nat_lt}
use Rattle.ras_inventory.specs.RegionRule.{server_names}
use Rattle.ras_requests.specs.RequestsRule.{reservation_names}
use Rattle.symmetry_classes.specs.declared.groups.Class.{Class as Group}
use Rattle.rounds_text.specs.Rounds.{Agenda}
use Rattle.rounds_text.proofs.NextFacts.{can-write, is-round}
use Rattle.plan_checker.proofs.TargetFacts.{target-serves}
use Rattle.rounds_text.proofs.run.Rounds.next.Goals as goal

pub put_document-requires : goal.put_document-requires
put_document-requires g c =
    can-write c.self.inside.region c.self.inside.requests c.self.inside.case c.self.inside.options.gap c.self.inside.options.nodes c.self.inside.options.racks c.in_ok-document.document
    c.in_ok-document.ensures.solution c.self.invariant.servers c.self.invariant.reservations

pub put_moves-requires-clause-serving : goal.put_moves-requires-clause-serving
put_moves-requires-clause-serving g c =
    target-serves c.self.inside.case c.in_ok-document.document c.in_ok-document.ensures.solution.shape c.in_ok-document.ensures.solution.accepted

pub returns-clause-round : goal.returns-clause-round
returns-clause-round g c =
    let agenda : Agenda =
    record { servers = server_names c.self.inside.region.servers; reservations = reservation_names c.self.inside.requests.list; options = c.self.inside.options; entries = c.self.inside.entries } in
    let number : ℕ = c.self.inside.done + 1 in
    let moved = c.in_ok-moved.ensures.moved in
    rw (← c.self.view_is)
    (record {
      document = c.in_ok-document.document;
      left = moved.left;
      is_round = is-round agenda number c.self.inside.case c.put_moves.new.case c.in_ok-document.document c.in_ok-moved.moved c.len.result c.new-text.result.items
          c.put_line.new.text.items c.put_document.new.text.items c.put_moves.new.text.items c.in_ok-document.ensures.solution c.in_ok-put_document.ensures.again c.new-text.ensures.items
          c.in_ok-put_line.ensures (c.len.ensures ∙ ap (λ (classes : List Group). length classes) (c.classes.ensures ∙ c.self.invariant.classes)) c.in_ok-put_document.ensures.text moved;
      answer = refl;
      goes_on = c.follows-goes_on.ensures ∙ ap (λ (b : Bool). b && nat_lt number c.rounds_of-last.result) moved.is_left
          ∙ ap (λ (n : ℕ). is_some moved.left && nat_lt number n) c.rounds_of-last.ensures;
      agenda = refl;
      done = refl;
      case = moved.next_is;
    })
