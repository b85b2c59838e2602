-- The phases that start from an allowed assignment, and what an expansion is then.
use Rattle.std.proofs.Common.{◌≡◌, ℕ, ◌≤◌, Bool, true, false, List, length, ap, sym, ◌∙◌, refl, subst}
use Rattle.std.specs.Prelude.{fold, ◌&&◌}
use Rattle.std.specs.List.{enumerate_from}
use Rattle.plan_model.specs.declared.cases.Case.{Case}
use Rattle.plan_model.specs.declared.cases.Assignment.{Assignment}
use Rattle.plan_model.specs.declared.cases.Grouping.{Grouping}
use Rattle.symmetry_classes.specs.declared.groups.Class.{Class}
use Rattle.ip_model.specs.declared.program.Program.{Program}
use Rattle.ip_model.specs.Points.{IsWholePoint, value_of}
use Rattle.plan_model.proofs.SumLemmas.{length-fits}
use Rattle.program_rows.specs.declared.phases.Phase.{Phase}
use Rattle.program_rows.specs.declared.phases.Phase.TheVariants.{Region, Rack}
use Rattle.program_rows.specs.Phases.{IsPhase, phase_allowed, phase_cost, start_allowed}
use Rattle.program_rows.specs.Settings.{setting_of, start_fits, phase_classes}
use Rattle.program_rows.specs.Sizes.{IsGrouped}
use Rattle.program_rows.proofs.ReachLimits.{servers-within}
use Rattle.class_expand.specs.Dealing.{IsProgramFor, AreDealt, deal}
use Rattle.class_expand.specs.Lifting.{IsProgramOf, Expands}
use Rattle.class_expand.proofs.Back.{point-is_allowed}
use Rattle.class_expand.proofs.Expansions.{are-dealt, expands-right}
use Rattle.class_expand.proofs.Phases.{region-is_phase, rack-is_phase}

and-left : (a b : Bool) → (a && b) ≡ true → a ≡ true
and-left true b h = refl
and-left false b h = h

pub is-phase : (case : Case) (phase : Phase) → start_allowed case phase ≡ true → IsPhase case (setting_of case phase)
is-phase case Region h = region-is_phase case
is-phase case (Rack from chosen) h = rack-is_phase case from.now chosen.now h

pub starts-fit : (case : Case) (phase : Phase) → start_allowed case phase ≡ true → start_fits case phase ≡ true
starts-fit case Region h = refl
starts-fit case (Rack from chosen) h = and-left _ _ (and-left _ _ h)

pub is-program : (case : Case) (phase : Phase) (classes : List Class) (program : Program) (how : Grouping) → classes ≡ phase_classes case (setting_of case phase) how
    → IsProgramFor case (setting_of case phase) classes program → IsProgramOf case (setting_of case phase) how program
is-program case phase classes program how e is =
    subst (λ (cs : List Class). IsProgramFor case (setting_of case phase) cs program → IsProgramOf case (setting_of case phase) how program) (sym e)
    (λ i. record { base = i.base; columns = i.columns; rows = i.rows }) is

module _ (case : Case) (phase : Phase) (classes : List Class) (program : Program) (point : List ℕ) (good : start_allowed case phase ≡ true)
    (is : IsProgramFor case (setting_of case phase) classes program) (whole : IsWholePoint program point) where
  start-long : length (setting_of case phase).start.of ≡ length case.places
  start-long = length-fits case (setting_of case phase).start (is-phase case phase good).fit

  pub all-dealt : (how : Grouping) → classes ≡ phase_classes case (setting_of case phase) how → (servers : ℕ) → servers ≡ length case.places
      → AreDealt program.columns point servers classes
  all-dealt how e servers same =
      let program_of = is-program case phase classes program how e is in
      let dealt = are-dealt case (setting_of case phase) (is-phase case phase good) how program program_of point whole (servers-within case phase (starts-fit case phase good)) in
      subst (λ (n : ℕ). AreDealt program.columns point n classes) (sym same)
      (subst (λ (cs : List Class). AreDealt program.columns point (length case.places) cs) (sym e)
      (subst (λ cols. AreDealt cols point (length case.places) (phase_classes case (setting_of case phase) how)) (sym program_of.columns) dealt))

  pub all-expands : (a : Assignment) → a.of ≡ fold (deal program.columns point) (setting_of case phase).start.of (enumerate_from 0 classes)
      → (how : Grouping) → classes ≡ phase_classes case (setting_of case phase) how → Expands case (setting_of case phase) how point a
  all-expands a final how e =
      let setting = setting_of case phase in
      let program_of = is-program case phase classes program how e is in
      let ended = final ∙ ap (λ cs. fold (deal program.columns point) setting.start.of (enumerate_from 0 cs)) e
      ∙ ap (λ cols. fold (deal cols point) setting.start.of (enumerate_from 0 (phase_classes case setting how))) program_of.columns in
      expands-right case setting (is-phase case phase good) how program program_of point whole (servers-within case phase (starts-fit case phase good)) setting.start.of start-long a ended ended refl

  pub all-allowed : (a : Assignment) → a.of ≡ fold (deal program.columns point) (setting_of case phase).start.of (enumerate_from 0 classes) → IsGrouped case phase classes
      → (phase_allowed case (setting_of case phase) a ≡ true) × (phase_cost case (setting_of case phase) a ≤ value_of program point)
  all-allowed a final grouped =
      point-is_allowed case (setting_of case phase) grouped.0 program point a (is-phase case phase good)
      (is-program case phase classes program grouped.0 grouped.1 is) whole (all-expands a final grouped.0 grouped.1)
