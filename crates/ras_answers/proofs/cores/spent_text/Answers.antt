use Rattle.std.proofs.Common.{[]}
use Rattle.std.proofs.lemmas.List.Elements.{All-head}
use Rattle.ras_answers.specs.Cores.{CanBeShown}
use Rattle.ras_answers.proofs.cores.spent_text.Goals as goal

pub keep_only-requires : goal.keep_only-requires
keep_only-requires c = (All-head (CanBeShown c.args.files.now) (c.args.over.now, c.args.document.now) [] c.requires.shown).those

pub put_document-requires : goal.put_document-requires
put_document-requires c = All-head (CanBeShown c.args.files.now) (c.args.over.now, c.args.document.now) [] c.requires.shown
