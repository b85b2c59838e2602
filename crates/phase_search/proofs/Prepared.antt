-- A phase whose classes and program are made: what a first point and a bound of a tree say of its assignments.
use Rattle.std.proofs.Common.{◌≡◌, ℕ, ◌+◌, ◌<◌, ◌≤◌, true, List, length, ap, sym, subst, ◌∙◌, refl, arith, Some, None}
use Rattle.std.specs.Prelude.{Option, IfSome, IsTrue}
use Rattle.plan_model.specs.declared.cases.Case.{Case}
use Rattle.plan_model.specs.declared.cases.Assignment.{Assignment}
use Rattle.plan_model.specs.declared.cases.Grouping.{Grouping}
use Rattle.plan_model.specs.Allowed.{fits, region_allowed}
use Rattle.plan_model.specs.Costs.{region_cost, rack_cost}
use Rattle.plan_model.proofs.CaseFacts.{and-left}
use Rattle.ip_model.specs.declared.program.Program.{Program}
use Rattle.ip_model.specs.Points.{IsWholePoint, value_of}
use Rattle.symmetry_classes.specs.declared.groups.Class.{Class}
use Rattle.bound_certificate.specs.declared.tree.Node.{Node}
use Rattle.bound_certificate.specs.declared.tree.Least.TheVariants.{At, AllRefuted}
use Rattle.bound_certificate.specs.Trees.{LiesUnder, fault_of_tree, bound_of_tree}
use Rattle.bound_certificate.proofs.TreeBound.{bound_of_tree_under}
use Rattle.program_rows.specs.declared.phases.Phase.{Phase}
use Rattle.program_rows.specs.declared.phases.Phase.TheVariants.{Region, Rack}
use Rattle.program_rows.specs.Settings.{Setting, setting_of, phase_classes}
use Rattle.program_rows.specs.Phases.{phase_allowed, phase_cost, start_allowed}
use Rattle.program_rows.specs.Programs.{program_base, program_columns, program_fits, program_lines}
use Rattle.program_rows.specs.Sizes.{size_fault_of}
use Rattle.program_rows.specs.Accepted.{phase_program}
use Rattle.class_expand.specs.Lifting.{IsProgramOf, counts_of}
use Rattle.class_expand.proofs.Phases.{rack-phase_cost}
use Rattle.class_expand.proofs.Started.{is-phase, is-program}
use Rattle.class_expand.proofs.WholePoint.{allowed-is_point}
use Rattle.plan_checker.proofs.Sized.{built-is, built-fits}
use Rattle.phase_search.specs.Phases.{HasChosen, IsPrepared, IsFirstPoint}

plus-none : (n : ℕ) → n ≡ n + 0
plus-none n = omega arith

-- the cost of a phase, in its own words
abbrev pub cost_in : Case → Phase → Assignment → ℕ
cost_in case Region a = region_cost case a
cost_in case (Rack from chosen) a = rack_cost case a chosen.now

pub cost_in-is : (case : Case) (phase : Phase) (a : Assignment) → HasChosen case phase → cost_in case phase a ≡ phase_cost case (setting_of case phase) a
cost_in-is case Region a has = plus-none (region_cost case a)
cost_in-is case (Rack from chosen) a has = rack-phase_cost case from.now chosen.now has a

pub allowed-fits : (case : Case) (setting : Setting) (a : Assignment) → phase_allowed case setting a ≡ true → IsTrue (fits case a)
allowed-fits case setting a allowed = and-left _ _ (and-left _ _ (and-left (region_allowed case a) _ allowed))

-- a phase is prepared where its classes are those of a grouping and its program is built over them
pub prepared-by : (case : Case) (phase : Phase) (how : Grouping) (classes : List Class) (program : Program) → start_allowed case phase ≡ true → HasChosen case phase
    → classes ≡ phase_classes case (setting_of case phase) how → program.base ≡ program_base case (setting_of case phase)
    → program.columns ≡ program_columns case (setting_of case phase) classes → program.rows ≡ program_lines case (setting_of case phase) classes
    → IsPrepared case phase how classes program
prepared-by case phase how classes program start chosen grouped base columns rows =
    record { start = start; chosen = chosen; grouped = grouped; is_program = record { base = base; columns = columns; rows = rows } }

-- a program over the classes of a grouping that has not too many columns or rows
pub fits-by : (case : Case) (phase : Phase) (how : Grouping) (classes : List Class) → classes ≡ phase_classes case (setting_of case phase) how
    → size_fault_of case (setting_of case phase) classes ≡ None → program_fits case (setting_of case phase) (phase_classes case (setting_of case phase) how) ≡ true
fits-by case phase how classes grouped fits =
    ap (λ (cs : List Class). program_fits case (setting_of case phase) cs) (sym grouped) ∙ built-fits case (setting_of case phase) classes fits

module _ (case : Case) (phase : Phase) (how : Grouping) (classes : List Class) (program : Program) (prepared : IsPrepared case phase how classes program) where
  program-of : IsProgramOf case (setting_of case phase) how program
  program-of = is-program case phase classes program how prepared.grouped prepared.is_program

  pub program-is : phase_program case (setting_of case phase) how ≡ Some program
  program-is = sym (built-is case (setting_of case phase) how classes program prepared.grouped prepared.is_program.base prepared.is_program.columns prepared.is_program.rows)

  pub columns-are : program.columns ≡ program_columns case (setting_of case phase) (phase_classes case (setting_of case phase) how)
  columns-are = program-of.columns

  -- the bound of a tree lies at or under the cost of each allowed assignment
  pub bound-under : (nodes : List Node) (lower : ℕ) → 0 < length nodes → fault_of_tree program nodes ≡ None → bound_of_tree program nodes ≡ At lower
      → (a : Assignment) → phase_allowed case (setting_of case phase) a ≡ true → lower ≤ phase_cost case (setting_of case phase) a
  bound-under nodes lower some sound bound a allowed =
      let point = allowed-is_point case (setting_of case phase) how program a (is-phase case phase prepared.start) program-of allowed in
      let below : lower ≤ value_of program (counts_of case (setting_of case phase) how a) =
      subst (λ l. LiesUnder l (value_of program (counts_of case (setting_of case phase) how a))) bound
      (bound_of_tree_under program nodes (counts_of case (setting_of case phase) how a) some sound point.0) in
      omega (arith, below, point.1)

  -- there is no first assignment where all leaves are refuted
  pub none-first : (nodes : List Node) → 0 < length nodes → fault_of_tree program nodes ≡ None → bound_of_tree program nodes ≡ AllRefuted
      → (cost : Assignment → ℕ) (first : Option Assignment) (point : Option (List ℕ)) → IsFirstPoint program cost first point → first ≡ None
  none-first nodes some sound bound cost None point is = refl
  none-first nodes some sound bound cost (Some a) None is = absurd is
  none-first nodes some sound bound cost (Some a) (Some point) is =
      absurd (subst (λ l. LiesUnder l (value_of program point)) bound (bound_of_tree_under program nodes point some sound is.0))

-- the first point is a whole point
pub first-whole : (program : Program) (cost : Assignment → ℕ) (first : Option Assignment) (point : Option (List ℕ)) → IsFirstPoint program cost first point
    → IfSome point (λ p. IsWholePoint program p)
first-whole program cost None None is = tt
first-whole program cost None (Some point) is = absurd is
first-whole program cost (Some a) None is = absurd is
first-whole program cost (Some a) (Some point) is = is.0

-- what is at most the first point's value is at most the first assignment's cost
pub first-at_most : (program : Program) (cost : Assignment → ℕ) (first : Option Assignment) (point : Option (List ℕ)) (P : ℕ → Type 0)
    → IsFirstPoint program cost first point → IfSome point (λ p. P (value_of program p)) → IfSome first (λ a. P (cost a))
first-at_most program cost None point P is h = tt
first-at_most program cost (Some a) None P is h = absurd is
first-at_most program cost (Some a) (Some point) P is h = subst P is.1 h

pub first-none : (program : Program) (cost : Assignment → ℕ) (first : Option Assignment) (point : Option (List ℕ)) → IsFirstPoint program cost first point → IfSome point (λ p. ⊥) → first ≡ None
first-none program cost None point is h = refl
first-none program cost (Some a) None is h = absurd is
first-none program cost (Some a) (Some point) is h = absurd h
