use Rattle.std.proofs.Common.{◌≡◌, ℕ, ◌<◌, true, false, List, length, arith, ap, sym, ◌∙◌, refl, None, subst}
use Rattle.std.specs.Prelude.{Option, nat_lt}
use Rattle.std.specs.Option.{option_map_or}
use Rattle.plan_model.specs.declared.cases.Assignment.{Assignment}
use Rattle.program_rows.specs.Settings.{setting_of}
use Rattle.program_rows.specs.Phases.{phase_allowed, phase_cost}
use Rattle.steady_plans.specs.Steady.{replaced}
use Rattle.steady_plans.specs.Tables.{AreSumsOf}
use Rattle.steady_plans.proofs.Changes.{replaced-same}
use Rattle.steady_plans.proofs.Nearby.{allowed-length}
use Rattle.steady_plans.proofs.Next.{place-there, next-there, other-less}
use Rattle.steady_plans.proofs.Writes.{put-back, bare-none}
use Rattle.steady_plans.proofs.moves.settle_movable.Goals as goal

pub place_in-from-requires : goal.place_in-from-requires
place_in-from-requires c =
    let size = allowed-length c.args.case.now (setting_of c.args.case.now c.args.phase.now) c.args.a.now c.requires.allowed in
    omega (arith, size, c.requires.in_range)

pub take_place-requires-clause-there : goal.take_place-requires-clause-there
take_place-requires-clause-there c =
    let case = c.args.case.now in
    subst (λ (o : Option ℕ). option_map_or (λ r. nat_lt r (length case.wants)) o true ≡ true) (sym c.place_in-from.ensures)
    (place-there case (setting_of case c.args.phase.now) c.args.a.now c.args.server c.requires.allowed c.requires.in_range)

pub take_place-requires-clause-sums : goal.take_place-requires-clause-sums
take_place-requires-clause-sums c = (c.args.a.now, c.requires.sums)

pub next_place-to-requires-clause-from : goal.next_place-to-requires-clause-from
next_place-to-requires-clause-from c = sym c.place_in-from.ensures

pub next_place-to-requires-clause-sums : goal.next_place-to-requires-clause-sums
next_place-to-requires-clause-sums c = c.take_place.ensures c.args.a.now c.requires.sums (sym c.place_in-from.ensures)

pub put_place-requires-clause-there : goal.put_place-requires-clause-there
put_place-requires-clause-there c =
    let case = c.args.case.now in
    next-there case (setting_of case c.args.phase.now) c.requires.start c.args.a.now c.requires.allowed c.args.server c.requires.in_range c.next_place-to.result c.next_place-to.ensures.allowed

pub put_place-requires-clause-sums : goal.put_place-requires-clause-sums
put_place-requires-clause-sums c = (replaced c.args.a.now c.args.server None, c.next_place-to.ensures.sums)

pub set-requires : goal.set-requires
set-requires c =
    let size = allowed-length c.args.case.now (setting_of c.args.case.now c.args.phase.now) c.args.a.now c.requires.allowed in
    omega (arith, size, c.requires.in_range)

pub returns-then-is_same : goal.returns-then-is_same
returns-then-is_same c =
    let case = c.args.case.now in
    let a = c.args.a.now in
    let s = c.args.server in
    let size = allowed-length case (setting_of case c.args.phase.now) a c.requires.allowed in
    let same : c.next_place-to.result ≡ c.place_in-from.result = c.is_same.ensures.0 c.if-is_same.true in
    let back : replaced a s c.next_place-to.result ≡ a = replaced-same a s c.next_place-to.result (sym (same ∙ c.place_in-from.ensures)) in
    let placed = put-back case a s c.next_place-to.result c.put_place.new.sums (c.put_place.ensures (replaced a s None) c.next_place-to.ensures.sums (bare-none case a s size c.requires.in_range)) in
    record {
      sums = subst (λ (x : Assignment). AreSumsOf case x c.put_place.new.sums) back placed;
      allowed = c.requires.allowed;
      less = λ e. cc;
      settled = λ _. (refl, c.next_place-to.ensures.settled same);
    }

pub returns : goal.returns
returns c =
    let case = c.args.case.now in
    let setting = setting_of case c.args.phase.now in
    let a = c.args.a.now in
    let s = c.args.server in
    let size = allowed-length case setting a c.requires.allowed in
    let new : replaced a s c.next_place-to.result ≡ record { of = c.set.new.self } = ap (λ (os : List (Option ℕ)). let b : Assignment = record { of = os } in b) (sym c.set.ensures) in
    let placed = put-back case a s c.next_place-to.result c.put_place.new.sums (c.put_place.ensures (replaced a s None) c.next_place-to.ensures.sums (bare-none case a s size c.requires.in_range)) in
    let apart : c.next_place-to.result ≡ c.place_in-from.result → ⊥ = λ same. let clash : true ≡ false = sym (c.is_same.ensures.1 same) ∙ c.if-is_same.false in cc in
    let lower = other-less case setting a s c.place_in-from.result c.next_place-to.result c.next_place-to.ensures.less apart in
    record {
      sums = subst (λ (x : Assignment). AreSumsOf case x c.put_place.new.sums) new placed;
      allowed = subst (λ (x : Assignment). phase_allowed case setting x ≡ true) new c.next_place-to.ensures.allowed;
      less = λ _. subst (λ (x : Assignment). phase_cost case setting x < phase_cost case setting a) new lower;
      settled = λ e. cc;
    }
