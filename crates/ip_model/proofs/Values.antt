-- Costs, tops and numbers by column, and how large they are.
use Rattle.std.proofs.Common.{◌≡◌, ℕ, ◌+◌, ◌*◌, ◌<◌, ◌≤◌, add-one, sym, ap, ◌∙◌, subst, arith, List, length, slice_index, get_or, mul-le-mul}
use Rattle.std.proofs.lemmas.List.{get_or-map}
use Rattle.ip_model.specs.declared.parts.Column.{Column}
use Rattle.ip_model.specs.declared.program.Program.{Program}
use Rattle.ip_model.specs.Limits.{cost_of, top_of, ColumnInRange}
use Rattle.ip_model.specs.Points.{IsWholePoint, LiesIn, full_box_of}
use Rattle.ip_model.specs.Sums.{total_below}
use Rattle.ip_model.proofs.RuleFacts.{program_limits}

pub cost_at : (columns : List Column) (j : ℕ) (c : Column) → j < length columns → c ≡ get_or columns j c → cost_of columns j ≡ c.cost
cost_at columns j c p is = get_or-map (λ (c : Column). c.cost) columns j c 0 p ∙ ap (λ (c : Column). c.cost) (sym is)

pub top_at : (columns : List Column) (j : ℕ) (c : Column) → j < length columns → c ≡ get_or columns j c → top_of columns j ≡ c.top
top_at columns j c p is = get_or-map (λ (c : Column). c.top) columns j c 0 p ∙ ap (λ (c : Column). c.top) (sym is)

-- a column of a program with a number of a whole point
pub record ColumnAt (program : Program) (point : List ℕ) (j : ℕ) (c : Column) : Type 0 where
  pub cost : cost_of program.columns j ≡ c.cost
  pub small : c.cost * slice_index point j ≤ 200000000000

pub column_at : (program : Program) (point : List ℕ) (j : ℕ) (c : Column) → IsWholePoint program point → j < length program.columns → c ≡ get_or program.columns j c → ColumnAt program point j c
column_at program point j c is p here =
    let in_range = subst ColumnInRange (sym here) ((program_limits program).columns_in j c p) in
    let top = top_at program.columns j c p here in
    let below = is.is_point.lies.below j p in
    let number : slice_index point j ≤ 20000000 = omega (arith, in_range.top) in
    record { cost = cost_at program.columns j c p here; small = omega (arith, mul-le-mul in_range.cost number) }

-- one more column of a value so far, where the code reads the columns as `items`
pub next_value : (columns items : List Column) (j : ℕ) (d : Column) (x : ℕ → ℕ) (total start cost number : ℕ) → items ≡ columns → j < length items → cost ≡ (get_or items j d).cost → number ≡ x j
    → total ≡ start + total_below j (λ j. cost_of columns j * x j) → total + cost * number ≡ start + total_below (j + 1) (λ j. cost_of columns j * x j)
next_value columns items j d x total start cost number same p here there so_far =
    let read : cost_of columns j ≡ (get_or columns j d).cost = get_or-map (λ (c : Column). c.cost) columns j d 0 (omega (arith, p, ap length same)) in
    let is : cost ≡ cost_of columns j = here ∙ ap (λ cs. (get_or cs j d).cost) same ∙ sym read in
    rw (add-one, is, there) (omega (arith, so_far))

-- the cost times the numerator of a column of a point in the full box
pub numerator_small : (program : Program) (items : List Column) (den : ℕ) (x : ℕ → ℕ) (j : ℕ) (d : Column) (cost number : ℕ) → LiesIn program (full_box_of program) den x
    → items ≡ program.columns → j < length items → cost ≡ (get_or items j d).cost → number ≡ x j → cost * number ≤ den * 200000000000
numerator_small program items den x j d cost number lies read p here there =
    let within : j < length program.columns = omega (arith, p, ap length read) in
    let c = get_or program.columns j d in
    let in_range : ColumnInRange c = (program_limits program).columns_in j d within in
    let top : top_of program.columns j ≡ c.top = get_or-map (λ (c : Column). c.top) program.columns j d 0 within in
    let is : cost ≡ c.cost = here ∙ ap (λ cs. (get_or cs j d).cost) read in
    let below : x j ≤ den * top_of program.columns j = lies.below j within in
    let same : den ≤ den = omega arith in
    let most : den * top_of program.columns j ≤ den * 20000000 = mul-le-mul same (omega (arith, top, in_range.top)) in
    let upper : number ≤ den * 20000000 = omega (arith, below, most, there) in
    let product : cost * number ≤ 10000 * (den * 20000000) = mul-le-mul (omega (arith, is, in_range.cost)) upper in
    omega (arith, product)

-- the same at a whole point
pub number_small : (program : Program) (items : List Column) (point : List ℕ) (j : ℕ) (d : Column) (cost number : ℕ) → IsWholePoint program point
    → items ≡ program.columns → j < length items → cost ≡ (get_or items j d).cost → number ≡ slice_index point j → cost * number ≤ 200000000000
number_small program items point j d cost number is read p here there = omega (arith, numerator_small program items 1 (slice_index point) j d cost number is.is_point.lies read p here there)
