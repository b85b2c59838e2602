use Rattle.std.proofs.Common.{◌∙◌, ap, sym, length}
use Rattle.exact_simplex.proofs.KeptFacts.{size_is}
use Rattle.exact_simplex.proofs.tableau_row.TableauRow.size.Goals as goal

pub returns : goal.returns
returns c = sym (size_is c.self.inside.size c.self.inside.kept) ∙ ap length c.self.view_is
