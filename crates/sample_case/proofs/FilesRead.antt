-- What is read from a sample's files is what the sample stands for.
use Rattle.std.proofs.Common.{◌≡◌, ◌≤◌, ◌∙◌, ℕ, List, length, sym, ap, ap₂, subst, arith}
use Rattle.std.specs.Prelude.{Result, Ok}
use Rattle.ras_inventory.specs.declared.server.Server.{Server}
use Rattle.ras_inventory.specs.declared.fault.RegionFault.{RegionFault}
use Rattle.ras_inventory.specs.Regions.{Regional, region_of}
use Rattle.ras_inventory.specs.RegionRule.{server_names}
use Rattle.ras_inventory.specs.Bounds.{bindings_of}
use Rattle.region_gen.specs.Files.{inventory_text, bindings_text}
use Rattle.sample_case.specs.Samples.{sample_region, sample_bindings}
use Rattle.sample_case.proofs.Inventory.{inventory-valid}
use Rattle.sample_case.proofs.Bindings.{bindings-valid}

pub is-small : (xs ys : List ℕ) → xs ≡ ys → length ys ≤ 8192 → length xs ≤ 67108864
is-small xs ys same h = let least : length ys ≤ 67108864 = omega (arith, h) in subst (λ (zs : List ℕ). length zs ≤ 67108864) (sym same) least

same-ok : (x y : Regional) → ◌≡◌ {A = Result Regional RegionFault} (Ok x) (Ok y) → x ≡ y
same-ok x y e = cc

pub region-read : (number size : ℕ) (text : List ℕ) (region : Regional) → size ≤ 40 → text ≡ inventory_text number size → region_of text ≡ Ok region → region ≡ sample_region number size
region-read number size text region few is read = same-ok region (sample_region number size) (sym read ∙ ap region_of is ∙ inventory-valid number size few)

pub bindings-read : (number size : ℕ) (servers : List Server) (text : List ℕ) → size ≤ 40 → servers ≡ (sample_region number size).servers → text ≡ bindings_text number size
    → bindings_of (server_names servers) text ≡ Ok (sample_bindings number size)
bindings-read number size servers text few same is = ap₂ (λ ss t. bindings_of (server_names ss) t) same is ∙ bindings-valid number size few
