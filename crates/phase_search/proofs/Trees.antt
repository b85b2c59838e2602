-- What the bound of a tree says of its leaves and its size.
use Rattle.std.proofs.Common.{◌≡◌, ℕ, ◌≤◌, ◌^◌, true, List, [], ◌∷◌, length, subst, refl, arith, min}
use Rattle.std.specs.Prelude.{⊤}
use Rattle.std.specs.List.{list_all}
use Rattle.ip_model.specs.declared.parts.Bounds.{Bounds}
use Rattle.ip_model.specs.declared.program.Program.{Program}
use Rattle.bound_certificate.specs.declared.tree.Node.{Node}
use Rattle.bound_certificate.specs.declared.tree.Node.TheVariants.{Split, Bound, Refute}
use Rattle.bound_certificate.specs.declared.tree.Least.{Least}
use Rattle.bound_certificate.specs.declared.tree.Least.TheVariants.{At, AllRefuted}
use Rattle.bound_certificate.specs.declared.multipliers.Multipliers.{Multipliers}
use Rattle.bound_certificate.specs.Bound.{leaf_bound, rounded_up, unrounded_numerator}
use Rattle.bound_certificate.specs.Trees.{box_of, lesser_of, node_bound, least_bound, bound_of_tree}
use Rattle.plan_checker.specs.Reasons.{is_closed}

-- a bound is at most 2^62
abbrev IsSmall : Least → Type 0
IsSmall (At n) = n ≤ 2 ^ 62
IsSmall AllRefuted = ⊤

least-of : (m n : ℕ) → min m n ≤ n
least-of m n = omega arith

leaf-small : (program : Program) (box : Bounds) (y : Multipliers) → leaf_bound program box y ≤ 2 ^ 62
leaf-small program box y = least-of (rounded_up (unrounded_numerator program box y) y.den) (2 ^ 62)

smaller-of : (m n most : ℕ) → m ≤ most → min m n ≤ most
smaller-of m n most h = omega arith

lesser-small : (first later : Least) → IsSmall first → IsSmall later → IsSmall (lesser_of first later)
lesser-small (At m) (At n) h k = smaller-of m n (2 ^ 62) h
lesser-small (At m) AllRefuted h k = h
lesser-small AllRefuted later h k = k

node-small : (program : Program) (box : Bounds) (node : Node) → IsSmall (node_bound program box node)
node-small program box (Split column at low high shown) = tt
node-small program box (Bound y) = leaf-small program box y
node-small program box (Refute y) = tt

least-small : (program : Program) (earlier nodes : List Node) → IsSmall (least_bound program earlier nodes)
least-small program earlier [] = tt
least-small program earlier (node ∷ nodes) =
    lesser-small (node_bound program (box_of program earlier (length earlier)) node) (least_bound program (node ∷ earlier) nodes)
    (node-small program (box_of program earlier (length earlier)) node) (least-small program (node ∷ earlier) nodes)

pub bound-small : (program : Program) (nodes : List Node) (lower : ℕ) → bound_of_tree program nodes ≡ At lower → lower ≤ 2 ^ 62
bound-small program nodes lower e = subst (λ (l : Least). IsSmall l) e (least-small program [] nodes)

at-all : (m : ℕ) (later : Least) → lesser_of (At m) later ≡ AllRefuted → ⊥
at-all m (At n) e = cc
at-all m AllRefuted e = cc

-- where all leaves are refuted no leaf is a bound
least-closed : (program : Program) (earlier nodes : List Node) → least_bound program earlier nodes ≡ AllRefuted → list_all is_closed nodes ≡ true
least-closed program earlier [] e = refl
least-closed program earlier (Split column at low high shown ∷ nodes) e = least-closed program (Split column at low high shown ∷ earlier) nodes e
least-closed program earlier (Bound y ∷ nodes) e =
    absurd (at-all (leaf_bound program (box_of program earlier (length earlier)) y) (least_bound program (Bound y ∷ earlier) nodes) e)
least-closed program earlier (Refute y ∷ nodes) e = least-closed program (Refute y ∷ earlier) nodes e

pub all-closed : (program : Program) (nodes : List Node) → bound_of_tree program nodes ≡ AllRefuted → list_all is_closed nodes ≡ true
all-closed program nodes e = least-closed program [] nodes e
