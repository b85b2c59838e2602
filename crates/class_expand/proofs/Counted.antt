-- What the numbers of an assignment rest on, and the point that they are.
use Rattle.std.proofs.Common.{◌≡◌, ℕ, ◌-◌, ◌<◌, Bool, true, false, List, All, length, get_or, arith, ap, sym, ◌∙◌, refl, subst, None, Some}
use Rattle.std.specs.Prelude.{map, nat_lt, ◌&&◌}
use Rattle.std.specs.Option.{option_map_or}
use Rattle.std.proofs.lemmas.List.Elements.{All-filter}
use Rattle.std.proofs.lemmas.Bool.Decides.{nat_tests}
use Rattle.plan_model.specs.declared.cases.Case.{Case}
use Rattle.plan_model.specs.declared.cases.Goal.{Goal}
use Rattle.plan_model.specs.declared.cases.Assignment.{Assignment}
use Rattle.plan_model.specs.declared.cases.Grouping.{Grouping}
use Rattle.plan_model.specs.CaseRule.{goal_in_range}
use Rattle.plan_model.specs.Units.{want_of}
use Rattle.plan_model.proofs.CaseFacts.{list_all-at, near-in_range}
use Rattle.symmetry_classes.specs.declared.groups.Class.{Class}
use Rattle.symmetry_classes.specs.Groups.{same_class, class_of, first_of_each}
use Rattle.ip_model.specs.declared.parts.Column.{Column}
use Rattle.ip_model.specs.declared.program.Program.{Program}
use Rattle.ip_model.specs.Points.{IsWholePoint, value_of}
use Rattle.program_rows.specs.declared.phases.Phase.{Phase}
use Rattle.program_rows.specs.Phases.{phase_allowed, phase_cost, start_allowed}
use Rattle.program_rows.specs.Settings.{setting_of, start_fits, movable_servers, phase_classes}
use Rattle.program_rows.specs.Programs.{program_columns}
use Rattle.program_rows.specs.Sizes.{IsGrouped}
use Rattle.program_rows.proofs.Actives.{is-start}
use Rattle.program_rows.proofs.LineLimits.{read-within}
use Rattle.program_rows.proofs.Lists.{All-map_to}
use Rattle.program_rows.proofs.Parts.{columns-all}
use Rattle.program_rows.proofs.ReachLimits.{servers-within}
use Rattle.class_expand.specs.Dealing.{IsProgramFor}
use Rattle.class_expand.specs.Lifting.{counts_of, mark_in_range, number_among}
use Rattle.class_expand.proofs.Started.{is-phase, is-program}
use Rattle.class_expand.proofs.WholePoint.{allowed-is_point}

and-right : (a b : Bool) → (a && b) ≡ true → b ≡ true
and-right true b h = h
and-right false b h = cc

both : (a b : Bool) → a ≡ true → b ≡ true → (a && b) ≡ true
both true b e h = h
both false b e h = e

lt-true : (m n : ℕ) → m < n → nat_lt m n ≡ true
lt-true m n h = grind (arith, nat_tests)

lt-from : (m n : ℕ) → nat_lt m n ≡ true → m < n
lt-from m n h = grind (arith, nat_tests)

pub minus-none : (n : ℕ) → n ≡ n - 0
minus-none n = omega arith

-- a near entry names a datacenter that is there
pub center-within : (case : Case) (r entry center : ℕ) → r < length case.wants → entry < length (want_of case r).near
    → (get_or (want_of case r).near entry (record { center = None; least = 0; weight = 0 })).center ≡ Some center → center < case.centers
center-within case r entry center there within e =
    let none : Goal = record { center = None; least = 0; weight = 0 } in
    let g : Goal = get_or (want_of case r).near entry none in
    let rule : goal_in_range case.centers g ≡ true = list_all-at (goal_in_range case.centers) (want_of case r).near entry none within (near-in_range case r there) in
    lt-from center case.centers (sym (ap (λ o. option_map_or (λ d. nat_lt d case.centers) o true) e) ∙ and-right _ _ rule)

-- the members of the classes are servers
pub classes-within : (case : Case) (phase : Phase) (classes : List Class) (n : ℕ) → start_fits case phase ≡ true → IsGrouped case phase classes → n ≡ length case.places
    → All (λ class. All (λ s. s < n) class.members) classes
classes-within case phase classes n fit grouped same =
    let setting = setting_of case phase in
    let servers = movable_servers case setting in
    let how = grouped.0 in
    let same_as = same_class how setting.racks case in
    subst (λ (m : ℕ). All (λ class. All (λ s. s < m) class.members) classes) (sym same)
    (subst (λ (cs : List Class). All (λ class. All (λ s. s < length case.places) class.members) cs) (sym grouped.1)
    (All-map_to (λ class. All (λ s. s < length case.places) class.members) (class_of how setting.racks case servers) (first_of_each same_as servers)
    (λ k d inside. All-filter (same_as (get_or (first_of_each same_as servers) k d)) (λ s. s < length case.places) servers (servers-within case phase fit))))

-- what the columns name is there
pub columns-in_range : (case : Case) (phase : Phase) (classes : List Class) (program : Program) → start_fits case phase ≡ true → IsGrouped case phase classes
    → IsProgramFor case (setting_of case phase) classes program → All (λ c. mark_in_range case c.mark ≡ true) program.columns
columns-in_range case phase classes program fit grouped is =
    let setting = setting_of case phase in
    let start = is-start case phase fit in
    let program_of = is-program case phase classes program grouped.0 grouped.1 is in
    subst (λ (cs : List Column). All (λ c. mark_in_range case c.mark ≡ true) cs) (sym program_of.columns)
    (columns-all case setting (λ c. mark_in_range case c.mark ≡ true) grouped.0 (record {
      counts = λ c class to read. refl;
      helpers = λ r active. let there = lt-true r (length case.wants) (start.there r active) in record {
        share = λ has. there;
        board = λ b within weight touched. both (nat_lt r (length case.wants)) (nat_lt b case.boards) there (lt-true b case.boards within);
        short = λ e goal short. both (nat_lt r (length case.wants)) (nat_lt e (length (want_of case r).near)) there (lt-true e (length (want_of case r).near) (read-within (want_of case r).near e goal short.read));
        rack = λ k within weight touched. both (nat_lt r (length case.wants)) (nat_lt k case.racks) there (lt-true k case.racks within);
      };
    }))

module _ (case : Case) (phase : Phase) (classes : List Class) (program : Program) (a : Assignment) (point : List ℕ) (good : start_allowed case phase ≡ true)
    (grouped : IsGrouped case phase classes) (is : IsProgramFor case (setting_of case phase) classes program) (allowed : phase_allowed case (setting_of case phase) a ≡ true)
    (numbers : point ≡ map (λ c. number_among case classes a c.mark) program.columns) where
  counted : (how : Grouping) → classes ≡ phase_classes case (setting_of case phase) how → point ≡ counts_of case (setting_of case phase) how a
  counted how e =
      numbers
      ∙ ap (map (λ c. number_among case classes a c.mark)) is.columns
      ∙ ap (λ cs. map (λ c. number_among case cs a c.mark) (program_columns case (setting_of case phase) cs)) e

  pub point-of : IsWholePoint program point × (value_of program point ≡ phase_cost case (setting_of case phase) a)
  point-of =
      let how = grouped.0 in
      let law = allowed-is_point case (setting_of case phase) how program a (is-phase case phase good) (is-program case phase classes program how grouped.1 is) allowed in
      let same = counted how grouped.1 in
      (subst (λ (ns : List ℕ). IsWholePoint program ns) (sym same) law.0, ap (value_of program) same ∙ law.1)
