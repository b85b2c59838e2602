-- A table is mended: its classes are those of the case after the round, and there are fewer than 2^32.
use Rattle.std.proofs.Common.{◌≡◌, ◌<◌, Bool, false, List, ◌++◌, length, arith, ap, ap₂, ◌∙◌, subst, refl}
use Rattle.std.specs.Prelude.{zip}
use Rattle.std.specs.List.Sorted.{IsPermutation, IsNonDecreasingBy}
use Rattle.std.proofs.lemmas.List.{length-map}
use Rattle.std.proofs.lemmas.Slice.Zip.{length-zip}
use Rattle.plan_model.specs.declared.cases.Case.{Case}
use Rattle.plan_model.specs.declared.cases.Place.{Place}
use Rattle.plan_model.specs.declared.cases.Grouping.TheVariants.{Class as Alike}
use Rattle.plan_model.proofs.SumLemmas.{few-places}
use Rattle.symmetry_classes.specs.declared.groups.Class.{Class as Group}
use Rattle.symmetry_classes.specs.Groups.{class_of, classes_of, first_of_each, flagged_servers, same_class}
use Rattle.symmetry_classes.proofs.FirstOfEach.{length-first}
use Rattle.symmetry_classes.proofs.Found.{length-flagged}
use Rattle.symmetry_classes.proofs.SameClass.{same_class-equivalence}
use Rattle.program_rows.specs.declared.phases.Phase.TheVariants.{Region}
use Rattle.program_rows.specs.Settings.{region_setting, movable_flags, movable_servers}
use Rattle.program_rows.proofs.Actives.{length-flags}
use Rattle.online_mover.specs.States.{State}
use Rattle.ras_rounds.specs.Rounds.{IsAfter, placed_after, region_classes}
use Rattle.ras_rounds.specs.Mends.{changed_flags, cleared, first_member, is_touched, joiners_of, kept_classes}
use Rattle.ras_rounds.proofs.WholeMend.{whole-mend}

pub region-few : (case : Case) → length (region_classes case) < 4294967296
region-few case =
    let servers = movable_servers case (region_setting case) in
    omega (
      arith,
      length-map (first_of_each (same_class Alike false case) servers) (class_of Alike false case servers),
      length-first (same_class Alike false case) (same_class-equivalence Alike false case) servers,
      length-flagged (movable_flags case (region_setting case)),
      length-flags case Region refl,
      few-places case,
    )

pub after-long : (before after : Case) (state : State) → IsAfter before state after → length state.servers ≡ length before.places
    → length after.places ≡ length before.places
after-long before after state is same =
    ap length is.places ∙ length-map (zip before.places state.servers) placed_after ∙ (let z = length-zip before.places state.servers in omega (arith, z, same))

-- what was made for a mend
pub record IsReady (before after : Case) (flags : List Bool) (joiners : List Place) (kept old fresh : List Group) (loose : List Bool) : Type 0 where
  pub flags_are : flags ≡ changed_flags before.places after.places
  pub joiners_are : joiners ≡ joiners_of before.places after.places
  pub kept_is : kept ≡ region_classes before
  pub old_is : old ≡ region_classes before
  pub loose_is : loose ≡ cleared (is_touched flags joiners) old (movable_flags after (region_setting after))
  pub fresh_is : fresh ≡ classes_of Alike false after (flagged_servers loose)

pub mended-table : (before after : Case) (state : State) (flags : List Bool) (joiners : List Place) (kept old fresh : List Group) (loose : List Bool) (classes : List Group)
    → IsAfter before state after → length state.servers ≡ length before.places → IsReady before after flags joiners kept old fresh loose
    → IsPermutation (kept_classes (is_touched flags joiners) kept ++ fresh) classes → IsNonDecreasingBy first_member classes → classes ≡ region_classes after
mended-table before after state flags joiners kept old fresh loose classes is same ready moved sorted =
    let touched : is_touched flags joiners ≡ is_touched (changed_flags before.places after.places) (joiners_of before.places after.places) =
    ap (λ fs. is_touched fs joiners) ready.flags_are ∙ ap (λ js. is_touched (changed_flags before.places after.places) js) ready.joiners_are in
    let loosed =
    ready.loose_is ∙ ap (λ cs. cleared (is_touched flags joiners) cs (movable_flags after (region_setting after))) ready.old_is
    ∙ ap (λ (t : Group → Bool). cleared t (region_classes before) (movable_flags after (region_setting after))) touched in
    let made = ready.fresh_is ∙ ap (λ fs. classes_of Alike false after (flagged_servers fs)) loosed in
    let whole =
    ap₂ (λ (ks : List Group) (fs : List Group). ks ++ fs)
    (ap (kept_classes (is_touched flags joiners)) ready.kept_is ∙ ap (λ (t : Group → Bool). kept_classes t (region_classes before)) touched) made in
    whole-mend before after state classes is same (subst (λ (zs : List Group). IsPermutation zs classes) whole moved) sorted
