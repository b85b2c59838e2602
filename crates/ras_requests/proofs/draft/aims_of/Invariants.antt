use Rattle.std.proofs.Common.{◌≡◌, map, drop}
use Rattle.serde_json.specs.View.{view}
use Rattle.ras_requests.specs.Shapes.{nears_in}
use Rattle.ras_requests.specs.Drafts.{seen_aim}
use Rattle.ras_requests.proofs.ShapesLemmas.{with_front}
use Rattle.ras_requests.proofs.draft.aims_of.Given as goal

abbrev pub invariant-loop-item : goal.invariant-loop-item
invariant-loop-item l = with_front (map seen_aim l.found.items) (nears_in (map view (drop l.item-index l.items))) ≡ nears_in (map view l.items)
