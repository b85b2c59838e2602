-- The cells of a tableau of fractions, from the contracts of the operations: num / den is the number top / bottom where num * bottom ≡ top * den.
use Rattle.std.proofs.Common.{◌≡◌, ℤ, pos, ◌-ℤ◌, ◌*ℤ◌, ◌<ℤ◌, sym, ap, ◌∙◌, arith}
use Rattle.std.proofs.lemmas.Int.{ints}
use Rattle.exact_simplex.proofs.Ring.{sub-mul, turn_middle, pair_up, pair_out, sub_cells, cell_left, cell_right}
use Rattle.exact_simplex.proofs.Choice.{factor_none}

pub cancelled : (z w c : ℤ) → pos 0 <ℤ c → z *ℤ c ≡ w *ℤ c → z ≡ w
cancelled z w c p h =
    let gone = factor_none (z -ℤ w) c p (sub-mul z w c ∙ omega (arith, ints)) in
    omega (arith, ints)

-- what holds at one pair holds at an equal one
pub carried : (num den x y top bottom : ℤ) → pos 0 <ℤ y → num *ℤ y ≡ x *ℤ den → x *ℤ bottom ≡ top *ℤ y → num *ℤ bottom ≡ top *ℤ den
carried num den x y top bottom p h k =
    cancelled (num *ℤ bottom) (top *ℤ den) y p (turn_middle num bottom y ∙ ap (λ z. z *ℤ bottom) h ∙ turn_middle x den bottom ∙ ap (λ z. z *ℤ den) k ∙ turn_middle top y den)

pub product_cell : (num den an ad bn bd p q s t : ℤ) → pos 0 <ℤ (ad *ℤ bd) → num *ℤ (ad *ℤ bd) ≡ (an *ℤ bn) *ℤ den → an *ℤ q ≡ p *ℤ ad → bn *ℤ t ≡ s *ℤ bd → num *ℤ (q *ℤ t) ≡ (p *ℤ s) *ℤ den
product_cell num den an ad bn bd p q s t some is a b =
    carried num den (an *ℤ bn) (ad *ℤ bd) (p *ℤ s) (q *ℤ t) some is
    (pair_up an bn q t ∙ ap (λ z. z *ℤ (bn *ℤ t)) a ∙ ap (λ z. (p *ℤ ad) *ℤ z) b ∙ pair_up p ad s bd)

pub difference_cell : (num den an ad bn bd p s q : ℤ) → pos 0 <ℤ (ad *ℤ bd) → num *ℤ (ad *ℤ bd) ≡ (an *ℤ bd -ℤ bn *ℤ ad) *ℤ den → an *ℤ q ≡ p *ℤ ad → bn *ℤ q ≡ s *ℤ bd → num *ℤ q ≡ (p -ℤ s) *ℤ den
difference_cell num den an ad bn bd p s q some is a b =
    carried num den (an *ℤ bd -ℤ bn *ℤ ad) (ad *ℤ bd) (p -ℤ s) q some is
    (sub_cells an bd bn ad q ∙ ap (λ z. z *ℤ bd -ℤ (bn *ℤ q) *ℤ ad) a ∙ ap (λ z. (p *ℤ ad) *ℤ bd -ℤ z *ℤ ad) b ∙ pair_out p ad bd s)

pub quotient_cell : (num den an ad bn bd p s d : ℤ) → pos 0 <ℤ d → pos 0 <ℤ (ad *ℤ bn) → num *ℤ (ad *ℤ bn) ≡ (an *ℤ bd) *ℤ den → an *ℤ d ≡ p *ℤ ad → bn *ℤ d ≡ s *ℤ bd → num *ℤ s ≡ p *ℤ den
quotient_cell num den an ad bn bd p s d above some is a b =
    carried num den (an *ℤ bd) (ad *ℤ bn) p s some is
    (cancelled ((an *ℤ bd) *ℤ s) (p *ℤ (ad *ℤ bn)) d above (cell_left an bd s d ∙ ap (λ z. z *ℤ (s *ℤ bd)) a ∙ ap (λ z. (p *ℤ ad) *ℤ z) (sym b) ∙ sym (cell_right p ad bn d)))
