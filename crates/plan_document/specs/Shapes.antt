-- What a node of a document is, and whether its numbers are in their ranges.
use Rattle.std.specs.Prelude.{ℕ, ◌≡◌, ◌==◌, ◌^◌, ◌&&◌, nat_le, nat_lt, Bool, true, List, length, codes, Option, Some, None, option_and_then, option_map, if◌then◌else◌}
use Rattle.std.specs.List.{list_all}
use Rattle.std.specs.Str.{bytes_eq}
use Rattle.serde_json.specs.Data.{Data}
use Rattle.serde_json.specs.Find.{at, as_str}
use Rattle.plan_document.specs.Numbers.{rises_from, has_size, numbers_at, pairs_at, whole_at}
use Rattle.plan_document.specs.declared.shape.Pair.{Pair}
use Rattle.plan_document.specs.declared.shape.Weights.{Weights}
use Rattle.plan_document.specs.declared.shape.Fractions.{Fractions}
use Rattle.plan_document.specs.declared.shape.Cut.{Cut}
use Rattle.plan_document.specs.declared.shape.Shape.{Shape}
use Rattle.plan_document.specs.declared.shape.Shape.TheVariants.{Split, Bound, Refute}

-- the multipliers of a leaf: its denominator, and its rows and numerators
abbrev pub weights_of : Data → Option Weights
weights_of d = if has_size 3 d
    then option_and_then (λ den. option_and_then (λ pairs. Some (record { den = den; pairs = pairs })) (pairs_at 2 d)) (whole_at 1 d)
    else None

-- a shown point: its denominator and two lists of one length
abbrev pub fractions_in : ℕ → List ℕ → List ℕ → Option Fractions
fractions_in den whole part = if length whole == length part then Some (record { den = den; whole = whole; part = part }) else None

abbrev pub fractions_of : Data → Option Fractions
fractions_of d = option_and_then (λ den. option_and_then (λ whole. option_and_then (λ part. fractions_in den whole part) (numbers_at 7 d)) (numbers_at 6 d)) (whole_at 5 d)

-- a split, with or without a shown point
abbrev pub cut_with : Option Fractions → Data → Option Cut
cut_with shown d = option_and_then (λ column. option_and_then (λ at. option_and_then (λ low. option_and_then (λ high.
    Some (record { column = column; at = at; low = low; high = high; shown = shown }))
    (whole_at 4 d)) (whole_at 3 d)) (whole_at 2 d)) (whole_at 1 d)

abbrev pub cut_of : Data → Option Cut
cut_of d = if has_size 5 d then cut_with None d
    else if has_size 8 d then option_and_then (λ shown. cut_with (Some shown) d) (fractions_of d)
    else None

-- a node, by the word at its head
abbrev pub by_word : Option (List ℕ) → Data → Option Shape
by_word None d = None
by_word (Some word) d =
    if bytes_eq word (codes "split") then option_map Split (cut_of d)
    else if bytes_eq word (codes "bound") then option_map Bound (weights_of d)
    else if bytes_eq word (codes "refute") then option_map Refute (weights_of d)
    else None

abbrev pub word_at : ℕ → Data → Option (List ℕ)
word_at place d = option_and_then as_str (at place d)

abbrev pub shape_of : Data → Option Shape
shape_of d = by_word (word_at 0 d) d

-- the ranges of numbers
abbrev pub is_den : ℕ → Bool
is_den n = nat_le 1 n && nat_le n (2 ^ 60)

abbrev pub is_place : ℕ → Bool
is_place n = nat_le n 2047

abbrev pub is_count : ℕ → Bool
is_count n = nat_le n 4294967294

abbrev pub pair_fits : Pair → Bool
pair_fits p = is_place p.row && is_den p.num

-- a list whose entries are all in their range
abbrev pub if_all : {X : Type 0} → (X → Bool) → List X → Option (List X)
if_all fit xs = if list_all fit xs then Some xs else None

abbrev pub weights_fit : Weights → Bool
weights_fit w = is_den w.den && list_all pair_fits w.pairs

abbrev pub fractions_fit : Fractions → Bool
fractions_fit f = is_den f.den && list_all is_count f.whole && list_all (λ p. nat_lt p f.den) f.part

abbrev pub shown_fits : Option Fractions → Bool
shown_fits None = true
shown_fits (Some f) = fractions_fit f

abbrev pub cut_fits : Cut → Bool
cut_fits c = is_place c.column && is_count c.at && is_count c.low && is_count c.high && shown_fits c.shown

abbrev pub fits : Shape → Bool
fits (Split c) = cut_fits c
fits (Bound w) = weights_fit w
fits (Refute w) = weights_fit w

-- the same, as what is left of a thing whose ranges are tested
abbrev pub if_weights_fit : Weights → Option Weights
if_weights_fit w = if weights_fit w then Some w else None

abbrev pub if_fractions_fit : Fractions → Option Fractions
if_fractions_fit f = if fractions_fit f then Some f else None

abbrev pub if_shown_fits : Option Fractions → Option (Option Fractions)
if_shown_fits f = if shown_fits f then Some f else None

abbrev pub if_cut_fits : Cut → Option Cut
if_cut_fits c = if cut_fits c then Some c else None

abbrev pub if_fits : Shape → Option Shape
if_fits s = if fits s then Some s else None

-- the rows of a leaf rise
abbrev pub Rises : Shape → Type 0
Rises (Split c) = Unit {0}
Rises (Bound w) = rises_from None w.pairs ≡ true
Rises (Refute w) = rises_from None w.pairs ≡ true
