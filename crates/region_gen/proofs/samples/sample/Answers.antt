use Rattle.std.proofs.Common.{◌≡◌, ◌≤◌, ◌<◌, ◌∙◌, ℕ, List, length, sym, ap, subst, arith}
use Rattle.region_gen.specs.Files.{inventory_text, bindings_text, requests_text}
use Rattle.region_gen.proofs.Lengths.{inventory-small, bindings-small, requests-small}
use Rattle.region_gen.proofs.samples.sample.Goals as goal

small : (xs ys : List ℕ) → xs ≡ ys → length ys ≤ 8192 → length xs < 4294967296
small xs ys same h = let least : length ys < 4294967296 = omega (arith, h) in subst (λ (zs : List ℕ). length zs < 4294967296) (sym same) least

pub from_vec-requires : goal.from_vec-requires
from_vec-requires c =
    small c.in_ok-inventory.field-0.inventory.items (inventory_text c.args.number c.args.size) c.in_ok-inventory.ensures.inventory
    (inventory-small c.args.number c.args.size c.requires.most)

pub from_vec-requires-2 : goal.from_vec-requires-2
from_vec-requires-2 c =
    small c.into_bytes-requests.result.items (requests_text c.args.size) (ap (λ v. v.items) c.into_bytes-requests.ensures.value ∙ c.in_ok-requests_text.ensures)
    (requests-small c.args.size c.requires.most)

pub from_vec-requires-3 : goal.from_vec-requires-3
from_vec-requires-3 c =
    small c.in_ok-inventory.field-0.bindings.items (bindings_text c.args.number c.args.size) c.in_ok-inventory.ensures.bindings
    (bindings-small c.args.number c.args.size c.requires.most)
