use Rattle.std.proofs.Common.{ℕ, List, length, ap, sym, ◌∙◌, subst}
use Rattle.std.specs.Prelude.{fold}
use Rattle.std.specs.List.{enumerate_from}
use Rattle.plan_model.proofs.SumLemmas.{length-fits}
use Rattle.ip_model.specs.declared.parts.Column.{Column}
use Rattle.symmetry_classes.specs.declared.groups.Class.{Class}
use Rattle.program_rows.specs.Settings.{setting_of}
use Rattle.class_expand.specs.Dealing.{AreDealt, deal}
use Rattle.class_expand.proofs.Started.{all-dealt, all-expands, all-allowed, is-phase}
use Rattle.class_expand.proofs.expansion.expand.Goals as goal

pub hand_all_out-requires-clause-dealt : goal.hand_all_out-requires-clause-dealt
hand_all_out-requires-clause-dealt c =
    let case = c.args.case.now in
    let phase = c.args.phase.now in
    let long = ap length c.requires.begins ∙ length-fits case (setting_of case phase).start (is-phase case phase c.requires.start).fit in
    let dealt = all-dealt case phase c.args.classes.now.list c.args.program.now c.args.point.now c.requires.start c.requires.program c.requires.whole_point c.requires.grouped.0 c.requires.grouped.1 (length c.args.a.now.of) long in
    subst (λ (cs : List Class). AreDealt c.as_slice.result.now c.as_slice-2.result.now (length c.args.a.now.of) cs) (sym c.as_slice-3.ensures.items)
    (subst (λ (ns : List ℕ). AreDealt c.as_slice.result.now ns (length c.args.a.now.of) c.args.classes.now.list) (sym c.as_slice-2.ensures.items)
    (subst (λ (cols : List Column). AreDealt cols c.args.point.now (length c.args.a.now.of) c.args.classes.now.list) (sym c.as_slice.ensures.items) dealt))

pub returns-clause-expands : goal.returns-clause-expands
returns-clause-expands c =
    let case = c.args.case.now in
    let phase = c.args.phase.now in
    let classes = c.args.classes.now.list in
    let final = c.hand_all_out.ensures
    ∙ ap (λ cols. fold (deal cols c.as_slice-2.result.now) c.args.a.now.of (enumerate_from 0 c.as_slice-3.result.now)) c.as_slice.ensures.items
    ∙ ap (λ ns. fold (deal c.args.program.now.columns ns) c.args.a.now.of (enumerate_from 0 c.as_slice-3.result.now)) c.as_slice-2.ensures.items
    ∙ ap (λ cs. fold (deal c.args.program.now.columns c.args.point.now) c.args.a.now.of (enumerate_from 0 cs)) c.as_slice-3.ensures.items
    ∙ ap (λ of. fold (deal c.args.program.now.columns c.args.point.now) of (enumerate_from 0 classes)) c.requires.begins in
    λ how e. all-expands case phase classes c.args.program.now c.args.point.now c.requires.start c.requires.program c.requires.whole_point c.hand_all_out.new.a final how e

pub returns-clause-allowed : goal.returns-clause-allowed
returns-clause-allowed c =
    let case = c.args.case.now in
    let phase = c.args.phase.now in
    let classes = c.args.classes.now.list in
    let final = c.hand_all_out.ensures
    ∙ ap (λ cols. fold (deal cols c.as_slice-2.result.now) c.args.a.now.of (enumerate_from 0 c.as_slice-3.result.now)) c.as_slice.ensures.items
    ∙ ap (λ ns. fold (deal c.args.program.now.columns ns) c.args.a.now.of (enumerate_from 0 c.as_slice-3.result.now)) c.as_slice-2.ensures.items
    ∙ ap (λ cs. fold (deal c.args.program.now.columns c.args.point.now) c.args.a.now.of (enumerate_from 0 cs)) c.as_slice-3.ensures.items
    ∙ ap (λ of. fold (deal c.args.program.now.columns c.args.point.now) of (enumerate_from 0 classes)) c.requires.begins in
    (all-allowed case phase classes c.args.program.now c.args.point.now c.requires.start c.requires.program c.requires.whole_point c.hand_all_out.new.a final c.requires.grouped).0

pub returns-clause-cost : goal.returns-clause-cost
returns-clause-cost c =
    let case = c.args.case.now in
    let phase = c.args.phase.now in
    let classes = c.args.classes.now.list in
    let final = c.hand_all_out.ensures
    ∙ ap (λ cols. fold (deal cols c.as_slice-2.result.now) c.args.a.now.of (enumerate_from 0 c.as_slice-3.result.now)) c.as_slice.ensures.items
    ∙ ap (λ ns. fold (deal c.args.program.now.columns ns) c.args.a.now.of (enumerate_from 0 c.as_slice-3.result.now)) c.as_slice-2.ensures.items
    ∙ ap (λ cs. fold (deal c.args.program.now.columns c.args.point.now) c.args.a.now.of (enumerate_from 0 cs)) c.as_slice-3.ensures.items
    ∙ ap (λ of. fold (deal c.args.program.now.columns c.args.point.now) of (enumerate_from 0 classes)) c.requires.begins in
    (all-allowed case phase classes c.args.program.now c.args.point.now c.requires.start c.requires.program c.requires.whole_point c.hand_all_out.new.a final c.requires.grouped).1

pub returns-clause-dealt : goal.returns-clause-dealt
returns-clause-dealt c =
    c.hand_all_out.ensures
    ∙ ap (λ cols. fold (deal cols c.as_slice-2.result.now) c.args.a.now.of (enumerate_from 0 c.as_slice-3.result.now)) c.as_slice.ensures.items
    ∙ ap (λ ns. fold (deal c.args.program.now.columns ns) c.args.a.now.of (enumerate_from 0 c.as_slice-3.result.now)) c.as_slice-2.ensures.items
    ∙ ap (λ cs. fold (deal c.args.program.now.columns c.args.point.now) c.args.a.now.of (enumerate_from 0 cs)) c.as_slice-3.ensures.items
