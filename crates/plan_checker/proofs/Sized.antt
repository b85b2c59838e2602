-- The program of a phase, as it is built or is too large.
use Rattle.std.proofs.Common.{◌≡◌, ℕ, refl, sym, ap, ◌∙◌, arith, Bool, true, false, ◌&&◌, List, length, nat_le, Some, None}
use Rattle.std.proofs.lemmas.Bool.{and_left}
use Rattle.std.proofs.lemmas.Bool.Decides.{nat_tests}
use Rattle.plan_model.specs.declared.cases.Case.{Case}
use Rattle.plan_model.specs.declared.cases.Grouping.{Grouping}
use Rattle.symmetry_classes.specs.declared.groups.Class.{Class}
use Rattle.ip_model.specs.declared.parts.Column.{Column}
use Rattle.ip_model.specs.declared.parts.Line.{Line}
use Rattle.ip_model.specs.declared.program.Program.{Program}
use Rattle.ip_model.specs.Programs.{program_from, program_if}
use Rattle.ip_model.specs.Rule.{program_rule}
use Rattle.ip_model.proofs.RuleFacts.{program_from-parts}
use Rattle.program_rows.specs.declared.fault.SizeFault.{SizeFault}
use Rattle.program_rows.specs.declared.phases.Phase.{Phase}
use Rattle.program_rows.specs.declared.phases.Phase.TheVariants.{Region, Rack}
use Rattle.program_rows.specs.Settings.{Setting, setting_of, phase_classes, movable_flags}
use Rattle.symmetry_classes.specs.Groups.{flagged_servers, classes_of}
use Rattle.plan_checker.specs.Shape.{counts_racks}
use Rattle.program_rows.specs.Programs.{program_base, program_columns, program_lines, program_fits}
use Rattle.program_rows.specs.Sizes.{size_fault, size_fault_of}
use Rattle.program_rows.specs.Accepted.{phase_program}

pub racks-is : (case : Case) (phase : Phase) → counts_racks phase ≡ (setting_of case phase).racks
racks-is case Region = refl
racks-is case (Rack from chosen) = refl

pub grouped-is : (case : Case) (phase : Phase) (how : Grouping) (racks : Bool) (flags : List Bool) → racks ≡ counts_racks phase → flags ≡ movable_flags case (setting_of case phase)
    → classes_of how racks case (flagged_servers flags) ≡ phase_classes case (setting_of case phase) how
grouped-is case phase how racks flags r f =
    ap (λ b. classes_of how b case (flagged_servers flags)) (r ∙ racks-is case phase) ∙ ap (λ fs. classes_of how (setting_of case phase).racks case (flagged_servers fs)) f

fits_none : (columns rows : ℕ) → size_fault columns rows ≡ None → (nat_le columns 2048 && nat_le rows 2048) ≡ true
fits_none columns rows h = grind (arith, nat_tests)

fits_some : (columns rows : ℕ) (fault : SizeFault) → size_fault columns rows ≡ Some fault → (nat_le columns 2048 && nat_le rows 2048) ≡ false
fits_some columns rows fault h = grind (arith, nat_tests)

pub built-fits : (case : Case) (setting : Setting) (classes : List Class) → size_fault_of case setting classes ≡ None → program_fits case setting classes ≡ true
built-fits case setting classes h = fits_none (length (program_columns case setting classes)) (length (program_lines case setting classes)) h

pub faulted-unfit : (case : Case) (setting : Setting) (classes : List Class) (fault : SizeFault) → size_fault_of case setting classes ≡ Some fault → program_fits case setting classes ≡ false
faulted-unfit case setting classes fault h = fits_some (length (program_columns case setting classes)) (length (program_lines case setting classes)) fault h

if_none : (base : ℕ) (columns : List Column) (rows : List Line) (b : Bool) (e : program_rule base columns rows ≡ b) → b ≡ false → program_if base columns rows b e ≡ None
if_none base columns rows true e not = cc
if_none base columns rows false e not = refl

pub unfit-none : (case : Case) (setting : Setting) (how : Grouping) → program_fits case setting (phase_classes case setting how) ≡ false → phase_program case setting how ≡ None
unfit-none case setting how h =
    let classes = phase_classes case setting how in
    let base = program_base case setting in
    let columns = program_columns case setting classes in
    let rows = program_lines case setting classes in
    if_none base columns rows (program_rule base columns rows) refl (and_left _ _ (and_left _ _ (and_left _ _ h)))

pub built-is : (case : Case) (setting : Setting) (how : Grouping) (classes : List Class) (program : Program) → classes ≡ phase_classes case setting how
    → program.base ≡ program_base case setting → program.columns ≡ program_columns case setting classes → program.rows ≡ program_lines case setting classes
    → Some program ≡ phase_program case setting how
built-is case setting how classes program same base columns rows =
    sym (program_from-parts program)
    ∙ ap (λ b. program_from b program.columns program.rows) base
    ∙ ap (λ cs. program_from (program_base case setting) cs program.rows) (columns ∙ ap (program_columns case setting) same)
    ∙ ap (λ rs. program_from (program_base case setting) (program_columns case setting (phase_classes case setting how)) rs) (rows ∙ ap (program_lines case setting) same)
