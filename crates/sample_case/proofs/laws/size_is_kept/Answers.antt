use Rattle.sample_case.proofs.Inventory.{servers-counted, boards-counted}
use Rattle.sample_case.proofs.laws.size_is_kept.Goals as goal

pub returns : goal.returns
returns c number size few = (servers-counted number size, boards-counted number size few)
