-- A document that the format can state: what was read is one, and what was written of it is read again.
use Rattle.std.specs.Prelude.{ℕ, ◌≡◌, ◌<◌, ◌≤◌, ◌^◌, true, false, All, IfSome, List, length, is_some, Option}
use Rattle.ip_model.specs.declared.point.Point.{Point}
use Rattle.bound_certificate.specs.declared.tree.Node.{Node}
use Rattle.bound_certificate.specs.declared.tree.Node.TheVariants as node
use Rattle.plan_document.specs.Documents.{form_of, may_have_rack}
use Rattle.plan_document.specs.declared.part.Planned.{Planned}
use Rattle.plan_document.specs.declared.part.Part.{Part}
use Rattle.plan_document.specs.declared.part.RackPart.{RackPart}
use Rattle.plan_document.specs.declared.part.Form.{Form}
use Rattle.plan_document.specs.declared.part.Form.TheVariants as form
use Rattle.plan_document.specs.declared.document.Document.{Document}

-- a shown point has as many parts as whole numbers, and these are in range
pub record PointIsEven (p : Point) : Type 0 where
  pub even : length p.whole ≡ length p.part
  pub wholes : All (λ n. n ≤ 4294967294) p.whole

-- the numbers of a split are in range
pub record SplitIsInRange (column at low high : ℕ) (shown : Option Point) : Type 0 where
  pub column_most : column ≤ 2047
  pub at_most : at ≤ 4294967294
  pub low_most : low ≤ 4294967294
  pub high_most : high ≤ 4294967294
  pub shown_even : IfSome shown PointIsEven

-- the numbers of a node are in range, beyond what multipliers and points always keep
abbrev pub NodeIsInRange : Node → Type 0
NodeIsInRange (node.Split column at low high shown) = SplitIsInRange column at low high shown
NodeIsInRange (node.Bound m) = All (λ t. t.row ≤ 2047) m.tops
NodeIsInRange (node.Refute m) = All (λ t. t.row ≤ 2047) m.tops

-- a plan has one place for each server, and each place is empty or a reservation that is there
pub record PlanIsInRange (servers reservations : List (List ℕ)) (p : Planned) : Type 0 where
  pub places : length p.of.of ≡ length servers
  pub there : All (λ place. IfSome place (λ r. r < length reservations)) p.of.of
  pub value_most : p.value ≤ 2 ^ 62
  pub gap_most : p.gap ≤ 2 ^ 62

-- a part of a form has the members of that form
abbrev pub HasForm : Form → Option Planned → Option ℕ → Type 0
HasForm form.Planned plan lower = (is_some plan ≡ true) × (is_some lower ≡ true)
HasForm form.Bounded plan lower = (is_some plan ≡ false) × (is_some lower ≡ true)
HasForm form.Bare plan lower = (is_some plan ≡ false) × (is_some lower ≡ false)

pub record PartCanBeWritten (servers reservations : List (List ℕ)) (f : Form) (p : Part) : Type 0 where
  pub form : HasForm f p.plan p.lower
  pub plan : IfSome p.plan (PlanIsInRange servers reservations)
  pub lower_most : IfSome p.lower (λ lower. lower ≤ 2 ^ 62)
  pub nodes : All NodeIsInRange p.tree.nodes

-- a rack part has a plan and 1 to 64 chosen reservations, which are there
pub record RackCanBeWritten (servers reservations : List (List ℕ)) (r : RackPart) : Type 0 where
  pub part : PartCanBeWritten servers reservations form.Planned r.part
  pub chosen_least : 1 ≤ length r.chosen
  pub chosen_most : length r.chosen ≤ 64
  pub chosen_there : All (λ n. n < length reservations) r.chosen

-- each reservation has a protection, each part has the form that the answer asks for, and each number is in its range
pub record CanBeWritten (servers reservations : List (List ℕ)) (d : Document) : Type 0 where
  pub gap_most : d.gap ≤ 1000000000000
  pub nodes_least : 1 ≤ d.nodes
  pub nodes_most : d.nodes ≤ 20000
  pub racks_most : d.racks ≤ 64
  pub protections : length d.protection ≡ length reservations
  pub region : PartCanBeWritten servers reservations (form_of d.answer (is_some d.region.plan)) d.region
  pub rack : IfSome d.rack (RackCanBeWritten servers reservations)
  pub beside : is_some d.rack ≡ true → may_have_rack (form_of d.answer (is_some d.region.plan)) ≡ true
