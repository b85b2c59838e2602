use Rattle.sample_case.proofs.Inventory.{inventory-valid}
use Rattle.sample_case.proofs.laws.inventory_is_valid.Goals as goal

pub returns : goal.returns
returns c = inventory-valid
