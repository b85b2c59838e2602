-- A tree without the points that it shows is the same tree: its boxes, its faults and its bound do not speak of them.
use Rattle.std.proofs.Common.{◌≡◌, ℕ, ◌==◌, Bool, false, cond, List, [], ◌∷◌, length, ap, ◌∙◌, refl, Some, None, not, nat_lt, nat_le}
use Rattle.std.specs.Prelude.{Option, ◌&&◌, ◌||◌, map, slice_index}
use Rattle.std.specs.List.{list_all}
use Rattle.std.proofs.lemmas.List.{length-map}
use Rattle.ip_model.specs.declared.parts.Bounds.{Bounds}
use Rattle.ip_model.specs.declared.program.Program.{Program}
use Rattle.bound_certificate.specs.declared.tree.Node.{Node}
use Rattle.bound_certificate.specs.declared.tree.Node.TheVariants.{Split, Bound, Refute}
use Rattle.bound_certificate.specs.declared.tree.TreeWhy.{TreeWhy}
use Rattle.bound_certificate.specs.declared.tree.TreeWhy.TheVariants as why
use Rattle.bound_certificate.specs.Trees.{low_side, high_side, box_of, is_named, child_fits, broken_rule, fault_of, sooner_fault, first_fault, lesser_of, node_bound, least_bound, fault_of_tree, bound_of_tree}
use Rattle.plan_checker.specs.Reasons.{is_closed}
use Rattle.plan_checker.specs.Points.{shows_points, without_point}

abbrev hidden : List Node → List Node
hidden nodes = map without_point nodes

pub hidden-length : (nodes : List Node) → length (hidden nodes) ≡ length nodes
hidden-length nodes = length-map nodes without_point

hidden-named : (nodes : List Node) (k : ℕ) → is_named (hidden nodes) k ≡ is_named nodes k
hidden-named [] k = refl
hidden-named (Split column at low high shown ∷ nodes) k = ap (λ b. (low == k) || ((high == k) || b)) (hidden-named nodes k)
hidden-named (Bound y ∷ nodes) k = hidden-named nodes k
hidden-named (Refute y ∷ nodes) k = hidden-named nodes k

hidden-box : (program : Program) (nodes : List Node) (k : ℕ) → box_of program (hidden nodes) k ≡ box_of program nodes k
hidden-box program [] k = refl
hidden-box program (Split column at low high shown ∷ nodes) k =
    let own = hidden-box program nodes (length (hidden nodes)) ∙ ap (box_of program nodes) (hidden-length nodes) in
    ap (λ b. cond (low == k) (low_side b column at) (cond (high == k) (high_side b column at) (box_of program (hidden nodes) k))) own
    ∙ ap (λ b. cond (low == k) (low_side (box_of program nodes (length nodes)) column at) (cond (high == k) (high_side (box_of program nodes (length nodes)) column at) b)) (hidden-box program nodes k)
hidden-box program (Bound y ∷ nodes) k = hidden-box program nodes k
hidden-box program (Refute y ∷ nodes) k = hidden-box program nodes k

hidden-own_box : (program : Program) (earlier : List Node) → box_of program (hidden earlier) (length (hidden earlier)) ≡ box_of program earlier (length earlier)
hidden-own_box program earlier = hidden-box program earlier (length (hidden earlier)) ∙ ap (box_of program earlier) (hidden-length earlier)

hidden-child : (count : ℕ) (earlier : List Node) (child : ℕ) → child_fits count (hidden earlier) child ≡ child_fits count earlier child
hidden-child count earlier child =
    ap (λ n. nat_lt n child && (nat_lt child count && not (is_named (hidden earlier) child))) (hidden-length earlier)
    ∙ ap (λ b. nat_lt (length earlier) child && (nat_lt child count && not b)) (hidden-named earlier child)

hidden-rule : (program : Program) (count : ℕ) (earlier : List Node) (box : Bounds) (node : Node)
    → broken_rule program count (hidden earlier) box (without_point node) ≡ broken_rule program count earlier box node
hidden-rule program count earlier box (Split column at low high shown) =
    let after : Bool → Option TreeWhy = λ fits. cond (nat_le (length program.columns) column) (Some why.Column)
    (cond (not (nat_le (slice_index box.low column) at && nat_lt at (slice_index box.high column))) (Some why.At) (cond (not fits) (Some why.Child) None)) in
    ap (λ b. after (b && (child_fits count (hidden earlier) high && not (low == high)))) (hidden-child count earlier low)
    ∙ ap (λ b. after (child_fits count earlier low && (b && not (low == high)))) (hidden-child count earlier high)
hidden-rule program count earlier box (Bound y) = refl
hidden-rule program count earlier box (Refute y) = refl

hidden-fault : (program : Program) (count : ℕ) (earlier : List Node) (node : Node) → fault_of program count (hidden earlier) (without_point node) ≡ fault_of program count earlier node
hidden-fault program count earlier node =
    let rule : Bool → Option TreeWhy → Option TreeWhy = λ orphan broken. cond orphan (Some why.Orphan) broken in
    let orphan : (nat_lt 0 (length (hidden earlier)) && not (is_named (hidden earlier) (length (hidden earlier)))) ≡ (nat_lt 0 (length earlier) && not (is_named earlier (length earlier))) =
    ap (λ n. nat_lt 0 n && not (is_named (hidden earlier) n)) (hidden-length earlier) ∙ ap (λ b. nat_lt 0 (length earlier) && not b) (hidden-named earlier (length earlier)) in
    ap (λ b. rule b (broken_rule program count (hidden earlier) (box_of program (hidden earlier) (length (hidden earlier))) (without_point node))) orphan
    ∙ ap (λ box. rule (nat_lt 0 (length earlier) && not (is_named earlier (length earlier))) (broken_rule program count (hidden earlier) box (without_point node))) (hidden-own_box program earlier)
    ∙ ap (rule (nat_lt 0 (length earlier) && not (is_named earlier (length earlier)))) (hidden-rule program count earlier (box_of program earlier (length earlier)) node)

hidden-first : (program : Program) (count : ℕ) (earlier nodes : List Node) → first_fault program count (hidden earlier) (hidden nodes) ≡ first_fault program count earlier nodes
hidden-first program count earlier [] = refl
hidden-first program count earlier (node ∷ nodes) =
    ap (λ n. sooner_fault n (fault_of program count (hidden earlier) (without_point node)) (first_fault program count (hidden (node ∷ earlier)) (hidden nodes))) (hidden-length earlier)
    ∙ ap (λ fault. sooner_fault (length earlier) fault (first_fault program count (hidden (node ∷ earlier)) (hidden nodes))) (hidden-fault program count earlier node)
    ∙ ap (sooner_fault (length earlier) (fault_of program count earlier node)) (hidden-first program count (node ∷ earlier) nodes)

pub hidden-fault_of_tree : (program : Program) (nodes : List Node) → fault_of_tree program (hidden nodes) ≡ fault_of_tree program nodes
hidden-fault_of_tree program nodes = ap (λ n. first_fault program n [] (hidden nodes)) (hidden-length nodes) ∙ hidden-first program (length nodes) [] nodes

hidden-node : (program : Program) (box : Bounds) (node : Node) → node_bound program box (without_point node) ≡ node_bound program box node
hidden-node program box (Split column at low high shown) = refl
hidden-node program box (Bound y) = refl
hidden-node program box (Refute y) = refl

hidden-least : (program : Program) (earlier nodes : List Node) → least_bound program (hidden earlier) (hidden nodes) ≡ least_bound program earlier nodes
hidden-least program earlier [] = refl
hidden-least program earlier (node ∷ nodes) =
    ap (λ box. lesser_of (node_bound program box (without_point node)) (least_bound program (hidden (node ∷ earlier)) (hidden nodes))) (hidden-own_box program earlier)
    ∙ ap (λ least. lesser_of least (least_bound program (hidden (node ∷ earlier)) (hidden nodes))) (hidden-node program (box_of program earlier (length earlier)) node)
    ∙ ap (lesser_of (node_bound program (box_of program earlier (length earlier)) node)) (hidden-least program (node ∷ earlier) nodes)

pub hidden-bound_of_tree : (program : Program) (nodes : List Node) → bound_of_tree program (hidden nodes) ≡ bound_of_tree program nodes
hidden-bound_of_tree program nodes = hidden-least program [] nodes

pub hidden-closed : (nodes : List Node) → list_all is_closed (hidden nodes) ≡ list_all is_closed nodes
hidden-closed [] = refl
hidden-closed (Split column at low high shown ∷ nodes) = hidden-closed nodes
hidden-closed (Bound y ∷ nodes) = refl
hidden-closed (Refute y ∷ nodes) = hidden-closed nodes

pub hidden-shows : (nodes : List Node) → shows_points (hidden nodes) ≡ false
hidden-shows [] = refl
hidden-shows (Split column at low high shown ∷ nodes) = hidden-shows nodes
hidden-shows (Bound y ∷ nodes) = hidden-shows nodes
hidden-shows (Refute y ∷ nodes) = hidden-shows nodes
