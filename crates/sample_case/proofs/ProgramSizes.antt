-- How large the program of a phase is at most, where no reservation has weights and racks do not count.
use Rattle.std.proofs.Common.{◌≡◌, ℕ, ◌+◌, ◌*◌, ◌≤◌, Bool, true, false, cond, List, [], ◌∷◌, ◌++◌, length, arith, ap, ◌∙◌, refl, Option, Some, None}
use Rattle.std.specs.Prelude.{map, filter, flat_map, nat_lt, not, ◌&&◌}
use Rattle.std.specs.List.{enumerate_from}
use Rattle.std.proofs.lemmas.List.{length-append, length-map}
use Rattle.std.proofs.lemmas.List.FromFn.{length-enumerate_from}
use Rattle.std.proofs.lemmas.Slice.Zip.{length-zip}
use Rattle.plan_model.specs.declared.cases.Want.{Want}
use Rattle.plan_model.specs.declared.cases.Case.{Case}
use Rattle.plan_model.specs.declared.cases.Grouping.{Grouping}
use Rattle.plan_model.specs.Rack.{is_movable}
use Rattle.plan_model.specs.Units.{want_of, value_for, servers_with_places}
use Rattle.plan_model.specs.Losses.{loss_at}
use Rattle.symmetry_classes.specs.declared.groups.Class.{Class}
use Rattle.symmetry_classes.specs.Groups.{same_class, class_of, first_of_each}
use Rattle.ip_model.specs.declared.parts.Column.{Column}
use Rattle.ip_model.specs.declared.parts.Mark.TheVariants.{Share, BoardExcess, Shortage, RackExcess}
use Rattle.program_rows.specs.Settings.{Setting, movable_flags, movable_servers, phase_classes}
use Rattle.program_rows.specs.Programs.{touches, touched_boards, touched_losses, touched_racks, movable_value, helper_column, excess_boards, short_entries, excess_racks, has_share, count_column, count_columns, share_columns, board_excess_columns, shortage_columns, rack_excess_columns, helper_columns, program_columns, class_lines, loss_line, loss_lines, largest_share_lines, board_over_lines, center_short_lines, rack_over_lines, reservation_lines, program_lines}
use Rattle.program_rows.proofs.Pushes.{length-filter, length-flagged}
use Rattle.program_rows.proofs.ReachLimits.{losses-few}

pub length-flat_map_most : {X Y : Type 0} (f : X → List Y) (most : ℕ) (xs : List X) → ((x : X) → length (f x) ≤ most) → length (flat_map f xs) ≤ length xs * most
length-flat_map_most f most [] h = omega arith
length-flat_map_most f most (x ∷ xs) h =
    let here = h x in
    let rest = length-flat_map_most f most xs h in
    omega (arith, here, rest, length-append (f x) (flat_map f xs))

length-firsts : {X : Type 0} (same : X → X → Bool) (xs : List X) → length (first_of_each same xs) ≤ length xs
length-firsts same [] = omega arith
length-firsts same (x ∷ xs) =
    let rest = length-firsts same xs in
    let less = length-filter (λ y. not (same x y)) (first_of_each same xs) in
    omega (arith, rest, less)

-- there are no more classes than servers
pub classes-most : (case : Case) (setting : Setting) (how : Grouping) → length (phase_classes case setting how) ≤ length case.places
classes-most case setting how =
    let servers = movable_servers case setting in
    let same = same_class how setting.racks case in
    let classes = length-map (first_of_each same servers) (class_of how setting.racks case servers) in
    let firsts = length-firsts same servers in
    let movable = length-flagged (movable_flags case setting) in
    let flags = length-map (servers_with_places case setting.start) (is_movable case setting.active) in
    let pairs = length-zip case.places setting.start.of in
    omega (arith, classes, firsts, movable, flags, pairs)

-- a class has at most one column for each active reservation, and one for none
pub count_columns-most : (case : Case) (setting : Setting) (c : ℕ × Class) → length (count_columns case setting c) ≤ length setting.active + 1
count_columns-most case setting c =
    let some = filter (λ r. nat_lt 0 (value_for case r c.1.kind)) setting.active in
    let named : List (Option ℕ) = map (λ r. Some r) some in
    let columns = length-map (named ++ None ∷ []) (count_column case c) in
    let ways = length-append named (None ∷ []) in
    let names = length-map {B = Option ℕ} some (λ r. Some r) in
    let few = length-filter (λ r. nat_lt 0 (value_for case r c.1.kind)) setting.active in
    omega (arith, columns, ways, names, few)

-- no weight on the largest share and on the spread over switchboards, and no wish to be near a datacenter
pub record HasNoWeights (want : Want) : Type 0 where
  pub buffer : want.buffer_weight ≡ 0
  pub spread : want.spread_weight ≡ 0
  pub near : want.near ≡ []

module _ (case : Case) (setting : Setting) (racks : setting.racks ≡ false) (plain : (r : ℕ) → HasNoWeights (want_of case r)) where
  no-share : (r : ℕ) → has_share case setting r ≡ false
  no-share r = ap (λ n. nat_lt 0 n && touches case setting r (λ _. true)) (plain r).buffer

  no-excess_boards : (r : ℕ) → excess_boards case setting r ≡ []
  no-excess_boards r = ap (λ n. cond (nat_lt 0 n) (touched_boards case setting r) []) (plain r).spread

  no-short_entries : (r : ℕ) → short_entries case r ≡ []
  no-short_entries r = ap (λ near. filter (λ e. nat_lt 0 e.1.weight && nat_lt 0 e.1.least) (enumerate_from 0 near)) (plain r).near

  no-excess_racks : (r : ℕ) → excess_racks case setting r ≡ []
  no-excess_racks r = ap (λ b. cond (b && nat_lt 0 (want_of case r).rack_weight) (touched_racks case setting r) []) racks

  -- no helpers
  no-helpers : (r : ℕ) → length (helper_columns case setting r) ≤ 0
  no-helpers r =
      let value = movable_value case setting r in
      let a = share_columns case setting r in
      let b = board_excess_columns case setting r in
      let c = shortage_columns case r in
      let d = rack_excess_columns case setting r in
      let shares : length a ≡ 0 = ap (λ some. length (cond some (helper_column (Share r) (want_of case r).buffer_weight value ∷ []) [])) (no-share r) in
      let overs : length b ≡ 0 = length-map (excess_boards case setting r) (λ board. helper_column (BoardExcess r board) (want_of case r).spread_weight value) ∙ ap length (no-excess_boards r) in
      let shorts : length c ≡ 0 = length-map (short_entries case r) (λ e. helper_column (Shortage r e.0) e.1.weight e.1.least) ∙ ap length (no-short_entries r) in
      let rests : length d ≡ 0 = length-map (excess_racks case setting r) (λ rack. helper_column (RackExcess r rack) (want_of case r).rack_weight value) ∙ ap length (no-excess_racks r) in
      omega (arith, shares, overs, shorts, rests, length-append (a ++ b ++ c) d, length-append (a ++ b) c, length-append a b)

  -- a total, and the losses
  reservation_lines-most : (classes : List Class) (columns : List Column) (r : ℕ) → length (reservation_lines case setting classes columns r) ≤ 65
  reservation_lines-most classes columns r =
      let a = loss_lines case setting classes columns r in
      let b = largest_share_lines case setting classes columns r in
      let c = board_over_lines case setting classes columns r in
      let d = center_short_lines case classes columns r in
      let e = rack_over_lines case setting classes columns r in
      let protection = (want_of case r).protection in
      let losses = length-map (touched_losses case setting r) (λ number. loss_line case classes columns r (loss_at protection number)) in
      let touched : length (touched_losses case setting r) ≤ 64 = losses-few case (movable_servers case setting) r protection in
      let shares : length b ≡ 0 = length-map _ _ ∙ ap (λ some. length (cond some (touched_boards case setting r) [])) (no-share r) in
      let overs : length c ≡ 0 = length-map _ _ ∙ ap length (no-excess_boards r) in
      let shorts : length d ≡ 0 = length-map _ _ ∙ ap length (no-short_entries r) in
      let rests : length e ≡ 0 = length-map _ _ ∙ ap length (no-excess_racks r) in
      omega (arith, losses, touched, shares, overs, shorts, rests, length-append (a ++ b ++ c ++ d) e, length-append (a ++ b ++ c) d, length-append (a ++ b) c, length-append a b)

  pub columns-most : (classes : List Class) → length (program_columns case setting classes) ≤ length classes * (length setting.active + 1)
  columns-most classes =
      let counts = length-flat_map_most (count_columns case setting) (length setting.active + 1) (enumerate_from 0 classes) (count_columns-most case setting) in
      let helpers = length-flat_map_most (helper_columns case setting) 0 setting.active no-helpers in
      let both = length-append (flat_map (count_columns case setting) (enumerate_from 0 classes)) (flat_map (helper_columns case setting) setting.active) in
      let numbered = ap (λ n. n * (length setting.active + 1)) (length-enumerate_from 0 classes) in
      omega (arith, counts, helpers, both, numbered)

  pub rows-most : (classes : List Class) → length (program_lines case setting classes) ≤ length classes * 2 + length setting.active * 65
  rows-most classes =
      let columns = program_columns case setting classes in
      let two : (c : ℕ × Class) → length (class_lines columns c) ≤ 2 = λ c. let two : length (class_lines columns c) ≡ 2 = refl in omega (arith, two) in
      let counts = length-flat_map_most (class_lines columns) 2 (enumerate_from 0 classes) two in
      let rest = length-flat_map_most (reservation_lines case setting classes columns) 65 setting.active (reservation_lines-most classes columns) in
      let both = length-append (flat_map (class_lines columns) (enumerate_from 0 classes)) (flat_map (reservation_lines case setting classes columns) setting.active) in
      let numbered = length-enumerate_from 0 classes in
      omega (arith, counts, rest, both, numbered)
