use Rattle.std.proofs.Common.{rules, ◌≡◌, ◌≤◌, ℕ, ◌+◌, List, ◌++◌, arith, length, take, sym, ap, ◌∙◌, subst, length-append, length-take-le}
use Rattle.std.specs.Io.KnownBytes.{Consumes}
use Rattle.std.proofs.KnownBytes.{Consumes-nil, Consumes-trans}
use Rattle.ras_outside.specs.Reading.{Took}
use Rattle.ras_outside.proofs.reading.read_whole.Goals as goal

length_of_turn : (old buffer : List ℕ) (n : ℕ) → n ≤ length buffer → length (old ++ take n buffer) ≡ length old + n
length_of_turn old buffer n h = length-append old (take n buffer) ∙ ap (λ k. length old + k) (length-take-le n buffer h)

pub loop-turn-init : goal.loop-turn-init
loop-turn-init g c =
    let none = c.new-bytes.ensures.items in
    ((subst (Consumes _ _) (sym none) (Consumes-nil _), search rules), search rules, search rules)

pub returns-then-len-count-clause-bytes : goal.returns-then-len-count-clause-bytes
returns-then-len-count-clause-bytes g c =
    let old = c.loop-turn.bytes.items in
    let buffer = c.turn_of.new.buffer in
    let n = c.in-Ok.count in
    let long = length_of_turn old buffer n c.in-Ok.ensures.within in (
      old ++ take n buffer,
      (Consumes-trans _ _ _ _ _ c.loop-turn.invariant.0.0 c.in-Ok.ensures.bytes, search (rules, long)),
      search (rules, long),
    )

pub returns-then-is_err-clause-bytes : goal.returns-then-is_err-clause-bytes
returns-then-is_err-clause-bytes g c =
    let old = c.loop-turn.bytes.items in
    let buffer = c.turn_of.new.buffer in
    let n = c.in-Ok.count in
    let long = length_of_turn old buffer n c.in-Ok.ensures.within in (
      old ++ take n buffer,
      (Consumes-trans _ _ _ _ _ c.loop-turn.invariant.0.0 c.in-Ok.ensures.bytes, search (rules, long)),
      search (rules, long),
    )

pub loop-turn-preserved : goal.loop-turn-preserved
loop-turn-preserved g c =
    let old = c.loop-turn.bytes.items in
    let buffer = c.turn_of.new.buffer in
    let n = c.in-Ok.count in
    let long = length_of_turn old buffer n c.in-Ok.ensures.within in
    let items : c.extend_from_slice.new.self.items ≡ old ++ take n buffer = search rules in (
      (subst (Consumes _ _) (sym items) (Consumes-trans _ _ _ _ _ c.loop-turn.invariant.0.0 c.in-Ok.ensures.bytes), search (rules, long)),
      search (rules, long),
      search (rules, long),
    )
