use Rattle.std.proofs.lemmas.List.Elements.{All-head, All-tail}
use Rattle.ras_answers.specs.Cores.{CanBeShown, without_each}
use Rattle.ras_answers.proofs.CoreLemmas.{clash-text}
use Rattle.ras_answers.proofs.cores.clash_text.Goals as goal

pub keep_only-requires : goal.keep_only-requires
keep_only-requires c =
    (All-head (CanBeShown c.args.files.now) (c.args.members.now, c.args.refutation.now) (without_each c.args.members.now c.args.plans.now) c.requires.shown).those

pub put_document-requires : goal.put_document-requires
put_document-requires c =
    All-head (CanBeShown c.args.files.now) (c.args.members.now, c.args.refutation.now) (without_each c.args.members.now c.args.plans.now) c.requires.shown

pub put_plans-requires-clause-each : goal.put_plans-requires-clause-each
put_plans-requires-clause-each c =
    All-tail (CanBeShown c.args.files.now) (c.args.members.now, c.args.refutation.now) (without_each c.args.members.now c.args.plans.now) c.requires.shown

pub returns : goal.returns
returns c =
    clash-text c.args.files.now c.args.members.now c.args.refutation.now c.args.plans.now c.in_ok-kept.kept.list c.new-text.result.items c.put_line.new.text.items
    c.put_document.new.text.items c.put_plans.new.text.items c.new-text.ensures.items c.in_ok-kept.ensures.list c.in_ok-put_line.ensures
    c.in_ok-put_document.ensures c.in_ok-put_plans.ensures
