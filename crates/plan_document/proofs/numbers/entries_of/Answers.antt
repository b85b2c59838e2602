use Rattle.std.proofs.Common.{◌∙◌, sym, ap, option_map, map, Some, List}
use Rattle.serde_json.specs.View.{view}
use Rattle.serde_json.specs.declared.value.Value.{Value}
use Rattle.plan_document.specs.Numbers.{items_list}
use Rattle.plan_document.proofs.NumbersLemmas.{items-of}
use Rattle.plan_document.proofs.numbers.entries_of.Goals as goal

pub returns-in-Some : goal.returns-in-Some
returns-in-Some c =
    ap (λ (vs : List Value). Some (map view vs)) c.as_slice.ensures.value ∙ ap Some (sym (items-of (map view c.in-Some.entries.now.items))) ∙ ap (option_map items_list) c.in-Some.ensures
