use Rattle.std.proofs.Common.{◌≡◌, List, ◌++◌, subst, ap, ◌∙◌, rules}
use Rattle.std.specs.Prelude.{not}
use Rattle.std.specs.List.Sorted.{IsPermutation}
use Rattle.std.proofs.lemmas.Fn.{filter_same}
use Rattle.std.proofs.lemmas.List.Sorted.{IsNonDecreasingBy-from_sort_by_key}
use Rattle.symmetry_classes.specs.declared.groups.Class.{Class as Group}
use Rattle.ras_rounds.specs.Mends.{first_member, is_touched, kept_classes}
use Rattle.ras_rounds.proofs.MendSteps.{appended}
use Rattle.ras_rounds.proofs.mend.settle.Goals as goal

pub returns-then-is_ok-clause-moved : goal.returns-then-is_ok-clause-moved
returns-then-is_ok-clause-moved c =
    let touched = is_touched c.args.changes.now.flags.items c.args.changes.now.joiners.items in
    let kept : c.retain.new.self.items ≡ kept_classes touched c.args.classes.now.items =
    filter_same _ (λ class. not (touched class)) _ (λ x b q k. search rules) _ _ c.retain.ensures.filtered in
    let joined : c.append.new.self.items ≡ c.retain.new.self.items ++ c.args.fresh.items =
    appended c.append.result c.is_ok.result c.append.new.self.items c.retain.new.self.items c.args.fresh.items c.is_ok.ensures.value c.if-is_ok.true c.append.ensures.items in
    subst (λ (zs : List Group). IsPermutation zs c.sort_unstable_by_key.new.self.items) (joined ∙ ap (λ ks. ks ++ c.args.fresh.items) kept) c.sort_unstable_by_key.ensures.permutation

pub returns-then-is_ok-clause-sorted : goal.returns-then-is_ok-clause-sorted
returns-then-is_ok-clause-sorted c = IsNonDecreasingBy-from_sort_by_key first_member _ c.sort_unstable_by_key.ensures.sorted (λ a r q k. search rules)
