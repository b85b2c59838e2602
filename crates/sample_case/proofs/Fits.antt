-- The program of a sample's region fits.
use Rattle.std.proofs.Common.{◌≡◌, ℕ, zero, suc, ◌+◌, ◌*◌, ◌≤◌, ◌∙◌, List, [], ◌∷◌, length, arith, ap, sym, subst, refl, get_or, None}
use Rattle.std.specs.Prelude.{Result, Ok, map, zip}
use Rattle.std.proofs.lemmas.List.{length-map}
use Rattle.std.proofs.lemmas.List.FromFn.{length-range_with_len}
use Rattle.std.proofs.lemmas.Slice.Zip.{length-zip}
use Rattle.ras_inventory.specs.Regions.{seen as seen_region}
use Rattle.ras_requests.specs.declared.fault.RequestsFault.{RequestsFault}
use Rattle.ras_requests.specs.Requested.{Requested, seen as seen_requests}
use Rattle.plan_model.specs.declared.cases.Want.{Want}
use Rattle.plan_model.specs.declared.cases.Case.{Case}
use Rattle.plan_model.specs.declared.cases.Grouping.TheVariants.{Class}
use Rattle.plan_model.specs.Units.{no_want, want_of}
use Rattle.plan_model.specs.Joined.{joined_place, joined_want}
use Rattle.program_rows.specs.Settings.{region_setting, phase_classes}
use Rattle.program_rows.specs.Programs.{program_columns, program_lines}
use Rattle.program_rows.specs.Sizes.{size_fault_of}
use Rattle.program_rows.proofs.Assembly.{no-fault}
use Rattle.region_gen.specs.Files.{inventory_text, web_need, web_rack_weight}
use Rattle.sample_case.specs.Samples.{sample_requests, web, db}
use Rattle.sample_case.specs.Laws.{SampleFits}
use Rattle.sample_case.proofs.FilesRead.{region-read}
use Rattle.sample_case.proofs.Inventory.{servers-counted}
use Rattle.sample_case.proofs.ProgramSizes.{HasNoWeights, classes-most, columns-most, rows-most}
use Rattle.sample_case.proofs.Requests.{requests-valid}

same-ok : (x y : Requested) → ◌≡◌ {A = Result Requested RequestsFault} (Ok x) (Ok y) → x ≡ y
same-ok x y e = cc

-- ---- what is wanted

no-weights : HasNoWeights no_want
no-weights = record { buffer = refl; spread = refl; near = refl }

-- each of two wants, and one that is not there
of-two : (a b : Want) → HasNoWeights a → HasNoWeights b → (r : ℕ) → HasNoWeights (get_or (a ∷ b ∷ []) r no_want)
of-two a b first second zero = first
of-two a b first second (suc zero) = second
of-two a b first second (suc (suc r)) = no-weights

joined-plain : (types centers : List (List ℕ)) (need rack_weight : ℕ) (r : ℕ)
    → HasNoWeights (get_or (map (joined_want types centers) (web need rack_weight ∷ db ∷ [])) r no_want)
joined-plain types centers need rack_weight r =
    of-two (joined_want types centers (web need rack_weight)) (joined_want types centers db) (record { buffer = refl; spread = refl; near = refl })
    (record { buffer = refl; spread = refl; near = refl }) r

-- a case of at most 160 servers and two reservations without weights
few-fit : (case : Case) → length case.places ≤ 160 → length case.wants ≡ 2 → ((r : ℕ) → HasNoWeights (want_of case r))
    → size_fault_of case (region_setting case) (phase_classes case (region_setting case) Class) ≡ None
few-fit case servers wants plain =
    let setting = region_setting case in
    let classes = phase_classes case setting Class in
    let some = classes-most case setting Class in
    let two : length setting.active ≡ 2 = length-range_with_len 0 (length case.wants) ∙ wants in
    let columns = columns-most case setting refl plain classes in
    let rows = rows-most case setting refl plain classes in
    let ways = ap (λ n. length classes * (n + 1)) two in
    no-fault (length (program_columns case setting classes)) (length (program_lines case setting classes)) (omega (arith, some, servers, columns, ways))
    (omega (arith, some, servers, rows, two))

pub sample-fits : SampleFits
sample-fits number size region requests bindings case few is =
    let region_is = region-read number size (inventory_text number size) (seen_region region) few refl is.region_is in
    let servers : length region.servers ≡ 4 * size = ap (λ r. length r.servers) region_is ∙ servers-counted number size in
    let places = ap length is.joined.places ∙ length-map (zip region.servers bindings.of) (joined_place requests.list) ∙ length-zip region.servers bindings.of in
    let wanted : seen_requests requests ≡ sample_requests size = same-ok (seen_requests requests) (sample_requests size) (sym is.requests_are ∙ requests-valid size few) in
    let wants = is.joined.wants ∙ ap (λ r. map (joined_want region.types region.centers) r.list) wanted in
    few-fit case (omega (arith, few, servers, places)) (ap length wants)
    (λ r. subst (λ (ws : List Want). HasNoWeights (get_or ws r no_want)) (sym wants) (joined-plain region.types region.centers (web_need size) (web_rack_weight size) r))
