use Rattle.std.proofs.Common.{◌≡◌, ℕ, ◌<◌, List, length, ap, sym, ◌∙◌, arith, subst, All}
use Rattle.std.specs.Prelude.{map}
use Rattle.std.proofs.lemmas.List.{length-map}
use Rattle.symmetry_classes.specs.Groups.{flagged_servers}
use Rattle.program_rows.specs.declared.reach.Reach.{Reach}
use Rattle.program_rows.specs.Settings.{setting_of, movable_servers}
use Rattle.program_rows.specs.Reach.{reach_among, reach_of, ReachFits}
use Rattle.program_rows.proofs.Actives.{active-there, active-few, is-start}
use Rattle.program_rows.proofs.LinesKept.{servers-few}
use Rattle.program_rows.proofs.ReachLimits.{servers-within, reaches-fit, racks-are}
use Rattle.program_rows.proofs.reach.reaches.Goals as goal
use Rattle.program_rows.proofs.reach.reaches.Goals.{After-as_slice-2}

-- the servers are the movable ones
servers-are : (c : After-as_slice-2) → c.as_slice-2.result.now ≡ movable_servers c.args.case.now (setting_of c.args.case.now c.args.phase.now)
servers-are c = c.as_slice-2.ensures.items ∙ c.in_ok-servers.ensures ∙ ap flagged_servers (c.as_slice.ensures.items ∙ c.in_ok-flags.ensures.flags)

pub reaches_among-requires-clause-there : goal.reaches_among-requires-clause-there
reaches_among-requires-clause-there c =
    subst (λ (rs : List ℕ). All (λ r. r < length c.args.case.now.wants) rs) (sym c.requires.active) (active-there c.args.case.now c.args.phase.now)

pub reaches_among-requires-clause-servers : goal.reaches_among-requires-clause-servers
reaches_among-requires-clause-servers c =
    subst (λ (ss : List ℕ). All (λ s. s < length c.args.case.now.places) ss) (sym (servers-are c)) (servers-within c.args.case.now c.args.phase.now c.requires.start)

pub reaches_among-requires-clause-few : goal.reaches_among-requires-clause-few
reaches_among-requires-clause-few c =
    let few = servers-few c.args.case.now (setting_of c.args.case.now c.args.phase.now) (is-start c.args.case.now c.args.phase.now c.requires.start) in
    omega (arith, few, ap length (servers-are c))

pub returns-clause-fits : goal.returns-clause-fits
returns-clause-fits c =
    let case = c.args.case.now in
    let setting = setting_of case c.args.phase.now in
    let first = ap (λ ss. map (reach_among case ss c.counts_racks-racks.result) c.args.active.now) (c.as_slice-2.ensures.items ∙ c.in_ok-servers.ensures ∙ ap flagged_servers (c.as_slice.ensures.items ∙ c.in_ok-flags.ensures.flags)) in
    let second = ap (λ b. map (reach_among case (movable_servers case setting) b) c.args.active.now) (c.counts_racks-racks.ensures ∙ sym (racks-are case c.args.phase.now)) in
    let third = ap (map (reach_of case setting)) c.requires.active in
    subst (λ (xs : List Reach). All (ReachFits case) xs) (sym (c.in_ok-reaches.ensures ∙ first ∙ second ∙ third)) (reaches-fit case c.args.phase.now c.requires.start)

pub returns-clause-few : goal.returns-clause-few
returns-clause-few c =
    let named = ap length c.in_ok-reaches.ensures in
    let count = length-map c.args.active.now (reach_among c.args.case.now c.as_slice-2.result.now c.counts_racks-racks.result) in
    omega (arith, named, count, ap length c.requires.active, active-few c.args.case.now c.args.phase.now)
