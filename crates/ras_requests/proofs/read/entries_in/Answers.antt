use Rattle.std.proofs.Common.{◌∙◌, sym, ap, option_map, option_and_then, Option}
use Rattle.serde_json.specs.Data.{Data}
use Rattle.serde_json.specs.Find.{as_array}
use Rattle.ras_requests.specs.Members.{items_list}
use Rattle.ras_requests.proofs.ShapesLemmas.{entries-are}
use Rattle.ras_requests.proofs.read.entries_in.Goals as goal

pub returns-in-Some : goal.returns-in-Some
returns-in-Some c =
    sym (entries-are c.as_array.result) ∙ ap (option_map items_list) c.as_array.ensures ∙ ap (λ (o : Option Data). option_map items_list (option_and_then as_array o)) c.in-Some.ensures
