-- The number that a text spells, in a range.
use Rattle.std.proofs.Common.{◌≡◌, ◌∙◌, ◌<◌, ◌≤◌, ◌^◌, sym, ap, refl, subst, true, false, Bool, List, ℕ, if◌then◌else◌}
use Rattle.std.specs.Str.Parse.{IsNumeral, digits_value, without_leading_plus}
use Rattle.clap.specs.ValueTests.{accepts}
use Rattle.clap.specs.Values.{Accepts}
use Rattle.clap.proofs.ValueTestLemmas.{Accepts-accepts, accepts-Accepts}
use Rattle.clap.specs.declared.builder.value_parser.ValueParser.TheVariants as vp
use Rattle.ras_words.specs.Rows.{number_of}

pub number-in-range : (least most default n : ℕ) (t : List ℕ) → IsNumeral 10 (without_leading_plus t) → digits_value 10 (without_leading_plus t) < 2 ^ 64
    → n ≡ digits_value 10 (without_leading_plus t) → least ≤ n → n ≤ most → n ≡ number_of least most default t
number-in-range least most default n t numeral fits is low high =
    let low2 = subst (λ (k : ℕ). least ≤ k) is low in
    let high2 = subst (λ (k : ℕ). k ≤ most) is high in
    let taken = Accepts-accepts true (vp.Unsigned least most) t (numeral, fits, low2, high2) in
    is ∙ sym (ap (λ (b : Bool). if b then digits_value 10 (without_leading_plus t) else default) taken)

pub number-outside : (least most default : ℕ) (t : List ℕ) → (Accepts true (vp.Unsigned least most) t → ⊥) → default ≡ number_of least most default t
number-outside least most default t outside = go (accepts true (vp.Unsigned least most) t) refl
  where
    go : (b : Bool) → accepts true (vp.Unsigned least most) t ≡ b → default ≡ (if b then digits_value 10 (without_leading_plus t) else default)
    go true e = absurd (outside (accepts-Accepts true (vp.Unsigned least most) t e))
    go false e = refl
