use Rattle.std.proofs.Common.{◌≡◌, ◌<◌, ◌∙◌, List, ℕ, ap, sym, subst, get_or, set, arith, None}
use Rattle.std.specs.Prelude.{Option}
use Rattle.plan_model.specs.declared.cases.Case.{Case}
use Rattle.plan_model.specs.Units.{place_of}
use Rattle.spare_pool.specs.declared.standings.Standing.{Standing}
use Rattle.spare_pool.specs.Firsts.{IsFirst}
use Rattle.spare_pool.proofs.FirstFacts.{state_with, firsts-with}
use Rattle.spare_pool.proofs.firsts.renew.Goals as goal

pub returns : goal.returns
returns c = λ old new is are.
    let case : Case = c.args.case.now in
    let now : List Standing = c.args.servers.now in
    let xs : List (Option ℕ) = c.args.firsts.now in
    let type : ℕ = (place_of case c.args.server).kind in
    let kind : c.kind-of.result ≡ type = c.kind-of.ensures.kind in
    let there : type < case.kinds = omega (arith, kind, c.kind-of.ensures.there) in
    let read : get_or c.as_slice.result.now c.kind-of.result None ≡ get_or xs type None =
    ap (λ (ys : List (Option ℕ)). get_or ys c.kind-of.result None) c.as_slice.ensures.items ∙ ap (λ (k : ℕ). get_or xs k None) kind in
    let before : IsFirst (state_with case old) type (get_or c.as_slice.result.now c.kind-of.result None) = subst (λ (o : Option ℕ). IsFirst (state_with case old) type o) (sym read) (are.each type there) in
    let here : IsFirst (state_with case now) type c.first_with-first.result = c.first_with-first.ensures old new is before in
    let all : c.set.new.self ≡ set xs type c.first_with-first.result = c.set.ensures ∙ ap (λ (k : ℕ). set xs k c.first_with-first.result) kind in
    firsts-with case old now c.args.server new xs c.set.new.self c.first_with-first.result is (omega (arith, there, c.requires.kinds)) are here all
