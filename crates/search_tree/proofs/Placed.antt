-- The nodes with their boxes, before and after a leaf became a split.
use Rattle.std.proofs.Common.{◌≡◌, ℕ, zero, suc, ◌+◌, ◌<◌, ◌≤◌, ◌++◌, ◌∙◌, ap, sym, refl, subst, arith, List, [], ◌∷◌, length, take, drop, reverse, slice_get, slice_set, slice_index, Option, Some, None}
use mathlib.Core.List.{reverse_aux}
use Rattle.std.proofs.lemmas.Grind.{common_steps}
use Rattle.std.proofs.lemmas.List.{append_assoc, length-reverse, set_at, set_split}
use Rattle.std.proofs.lemmas.Option.{slice_get_within, some_pair_parts}
use Rattle.ip_model.specs.declared.parts.Bounds.{Bounds}
use Rattle.ip_model.specs.declared.point.Point.{Point}
use Rattle.ip_model.specs.declared.program.Program.{Program}
use Rattle.bound_certificate.specs.declared.multipliers.Multipliers.{Multipliers}
use Rattle.bound_certificate.specs.declared.tree.Node.{Node}
use Rattle.bound_certificate.specs.declared.tree.Node.TheVariants.{Split, Bound, Refute}
use Rattle.bound_certificate.specs.Trees.{low_side, high_side, box_of, fault_of, first_fault, fault_of_tree}
use Rattle.bound_certificate.proofs.Rules.{none_of_sooner}
use Rattle.search_tree.specs.Boxes.{box_at, with_boxes}
use Rattle.search_tree.specs.Growth.{IsLeafOf, CanSplit, split_nodes}
use Rattle.search_tree.proofs.Walks.{with_leaf, with_split, same_length, low_box, high_box}
use Rattle.search_tree.proofs.Faults.{NamesBelow, names_next, not_named, earlier_unnamed, next_box, walked, split_right_tree}

-- ---- the parts of a list round one of its nodes

pub parts_at : (nodes : List Node) (i : ℕ) (node : Node) → slice_get nodes i ≡ Some node → nodes ≡ take i nodes ++ node ∷ drop (suc i) nodes
parts_at [] i node is = cc
parts_at (x ∷ nodes) zero node is = let same : x ≡ node = cc in ap (λ (n : Node). n ∷ nodes) same
parts_at (x ∷ nodes) (suc i) node is = ap (λ (ns : List Node). x ∷ ns) (parts_at nodes i node is)

pub split_parts : (nodes : List Node) (i column at : ℕ) (shown : Option Point) (low high : Node) → i < length nodes
    → split_nodes nodes i column at shown low high ≡ take i nodes ++ Split column at (length nodes) (length nodes + 1) shown ∷ (drop (suc i) nodes ++ low ∷ high ∷ [])
split_parts nodes i column at shown low high p =
    let node = Split column at (length nodes) (length nodes + 1) shown in
    ap (λ (ns : List Node). ns ++ low ∷ high ∷ []) (set_split nodes i node p) ∙ append_assoc (take i nodes) (node ∷ drop (suc i) nodes) (low ∷ high ∷ [])

-- ---- a node and its box

pub placed_from : (program : Program) (earlier nodes : List Node) (k m : ℕ) (node : Node) → length earlier + k ≡ m → slice_get nodes k ≡ Some node
    → slice_get (with_boxes program earlier nodes) k ≡ Some (box_of program (reverse_aux (take k nodes) earlier) m, node)
placed_from program earlier [] k m node size is = cc
placed_from program earlier (x ∷ nodes) zero m node size is =
    let same : x ≡ node = cc in
    let place : length earlier ≡ m = omega arith in
    ap (λ (n : Node). Some (box_of program earlier (length earlier), n)) same ∙ ap (λ (j : ℕ). Some (box_of program earlier j, node)) place
placed_from program earlier (x ∷ nodes) (suc k) m node size is = placed_from program (x ∷ earlier) nodes k m node (omega arith) is

-- a node of the tree stands there with its box
pub placed_at : (program : Program) (nodes : List Node) (k : ℕ) (node : Node) → slice_get nodes k ≡ Some node → slice_get (with_boxes program [] nodes) k ≡ Some (box_at program nodes k, node)
placed_at program nodes k node is = placed_from program [] nodes k k node (omega arith) is

pub placed_node : (program : Program) (earlier nodes : List Node) (k : ℕ) (box : Bounds) (node : Node) → slice_get (with_boxes program earlier nodes) k ≡ Some (box, node) → slice_get nodes k ≡ Some node
placed_node program earlier [] k box node is = cc
placed_node program earlier (x ∷ nodes) zero box node is = ap (λ (n : Node). Some n) (some_pair_parts _ _ _ _ is).1
placed_node program earlier (x ∷ nodes) (suc k) box node is = placed_node program (x ∷ earlier) nodes k box node is

-- what stands there is a node of the tree with its box
pub placed_is : (program : Program) (nodes : List Node) (k : ℕ) (box : Bounds) (node : Node) → slice_get (with_boxes program [] nodes) k ≡ Some (box, node) → (slice_get nodes k ≡ Some node) × (box ≡ box_at program nodes k)
placed_is program nodes k box node is =
    let there = placed_node program [] nodes k box node is in
    let same = placed_at program nodes k node there in
    (there, (some_pair_parts _ _ _ _ (sym is ∙ same)).0)

pub length-placed : (program : Program) (earlier nodes : List Node) → length (with_boxes program earlier nodes) ≡ length nodes
length-placed program earlier [] = refl
length-placed program earlier (node ∷ nodes) = ap (λ (n : ℕ). suc n) (length-placed program (node ∷ earlier) nodes)

-- ---- growth

placed_first : (program : Program) (earlier first tail : List Node) → with_boxes program earlier (first ++ tail) ≡ with_boxes program earlier first ++ with_boxes program (reverse_aux first earlier) tail
placed_first program earlier [] tail = refl
placed_first program earlier (node ∷ first) tail = ap (λ (ps : List (Bounds × Node)). (box_of program earlier (length earlier), node) ∷ ps) (placed_first program (node ∷ earlier) first tail)

leaf_box : (program : Program) (earlier : List Node) (box : Bounds) (leaf : Node) (k : ℕ) → IsLeafOf program box leaf → box_of program (leaf ∷ earlier) k ≡ box_of program earlier k
leaf_box program earlier box (Split column at low high shown) k is = absurd is
leaf_box program earlier box (Bound y) k is = refl
leaf_box program earlier box (Refute y) k is = refl

placed_rest : (program : Program) (later before : List Node) (y : Multipliers) (column at n : ℕ) (shown : Option Point) (rest : List Node) (low high : Node)
    → length (with_leaf later y before) + length rest ≡ n → NamesBelow n (with_leaf later y before) → IsLeafOf program (low_side (box_of program before (length before)) column at) low
    → first_fault program n (with_leaf later y before) rest ≡ None
    → with_boxes program (with_split later column at n shown before) (rest ++ low ∷ high ∷ [])
    ≡ with_boxes program (with_leaf later y before) rest ++ (low_side (box_of program before (length before)) column at, low) ∷ (high_side (box_of program before (length before)) column at, high) ∷ []
placed_rest program later before y column at n shown [] low high size below is_low h =
    let all = with_split later column at n shown before in
    let box = box_of program before (length before) in
    let here : length all ≡ n = omega (arith, same_length later before y column at n shown) in
    let next : length (low ∷ all) ≡ n + 1 = omega arith in
    let new = earlier_unnamed later before y n (not_named n (with_leaf later y before) n below (omega arith)) in
    let newer = earlier_unnamed later before y (n + 1) (not_named n (with_leaf later y before) (n + 1) below (omega arith)) in
    let first : box_of program all (length all) ≡ low_side box column at = ap (box_of program all) here ∙ low_box program later before column at n shown new in
    let second : box_of program (low ∷ all) (length (low ∷ all)) ≡ high_side box column at =
    leaf_box program all (low_side box column at) low (length (low ∷ all)) is_low ∙ ap (box_of program all) next ∙ high_box program later before column at n shown newer in
    ap (λ (b : Bounds). (b, low) ∷ (box_of program (low ∷ all) (length (low ∷ all)), high) ∷ []) first ∙ ap (λ (b : Bounds). (low_side box column at, low) ∷ (b, high) ∷ []) second
placed_rest program later before y column at n shown (node ∷ rest) low high size below is_low h =
    let all = with_split later column at n shown before in
    let old = with_leaf later y before in
    let here = none_of_sooner (length old) (fault_of program n old node) _ h in
    ap (λ (b : Bounds). (b, node) ∷ with_boxes program (node ∷ all) (rest ++ low ∷ high ∷ [])) (next_box program later before y column at n shown (omega arith))
    ∙ ap (λ (ps : List (Bounds × Node)). (box_of program old (length old), node) ∷ ps)
    (placed_rest program (node ∷ later) before y column at n shown rest low high (omega arith) (names_next program n old node here.0 below) is_low here.1)

-- ---- in the whole tree

-- what a split changes, by the parts of the list round the leaf
placed_parts : (program : Program) (first : List Node) (y : Multipliers) (rest : List Node) (column at n : ℕ) (shown : Option Point) (low high : Node)
    → length first + suc (length rest) ≡ n → IsLeafOf program (low_side (box_of program (reverse first) (length (reverse first))) column at) low
    → first_fault program n [] (first ++ Bound y ∷ rest) ≡ None
    → with_boxes program [] (first ++ Split column at n (n + 1) shown ∷ (rest ++ low ∷ high ∷ []))
    ≡ with_boxes program [] first ++ (box_of program (reverse first) (length (reverse first)), Split column at n (n + 1) shown) ∷ (with_boxes program (Bound y ∷ reverse first) rest
    ++ (low_side (box_of program (reverse first) (length (reverse first))) column at, low) ∷ (high_side (box_of program (reverse first) (length (reverse first))) column at, high) ∷ [])
placed_parts program first y rest column at n shown low high size is_low h =
    let node = Split column at n (n + 1) shown in
    let box = box_of program (reverse first) (length (reverse first)) in
    let so_far = walked program n [] first (Bound y ∷ rest) (λ k e. absurd (cc)) h in
    let here = none_of_sooner (length (reverse first)) (fault_of program n (reverse first) (Bound y)) _ so_far.later in
    placed_first program [] first (node ∷ (rest ++ low ∷ high ∷ []))
    ∙ ap (λ (ps : List (Bounds × Node)). with_boxes program [] first ++ (box, node) ∷ ps)
    (placed_rest program [] (reverse first) y column at n shown rest low high (omega (arith, length-reverse first)) (names_next program n (reverse first) (Bound y) here.0 so_far.below) is_low here.1)

-- the nodes with their boxes, once node i was split
pub placed_split : (program : Program) (nodes : List Node) (i column at : ℕ) (y : Multipliers) (shown : Option Point) (low high : Node) → slice_get nodes i ≡ Some (Bound y)
    → IsLeafOf program (low_side (box_at program nodes i) column at) low → fault_of_tree program nodes ≡ None
    → with_boxes program [] (split_nodes nodes i column at shown low high)
    ≡ slice_set (with_boxes program [] nodes) i (box_at program nodes i, Split column at (length nodes) (length nodes + 1) shown)
    ++ (low_side (box_at program nodes i) column at, low) ∷ (high_side (box_at program nodes i) column at, high) ∷ []
placed_split program nodes i column at y shown low high leaf is_low none =
    let n = length nodes in
    let within = slice_get_within nodes i (Bound y) leaf in
    let first = take i nodes in
    let rest = drop (suc i) nodes in
    let parts = parts_at nodes i (Bound y) leaf in
    let node = Split column at n (n + 1) shown in
    let place : length (reverse first) ≡ i = grind (arith, common_steps) in
    let box = box_of program (reverse first) (length (reverse first)) in
    let same : box ≡ box_at program nodes i = ap (box_of program (reverse first)) place in
    let size : length first + suc (length rest) ≡ n = grind (arith, common_steps) in
    let old : with_boxes program [] nodes ≡ with_boxes program [] first ++ (box, Bound y) ∷ with_boxes program (Bound y ∷ reverse first) rest =
    ap (λ (ns : List Node). with_boxes program [] ns) parts ∙ placed_first program [] first (Bound y ∷ rest) in
    let seam : length (with_boxes program [] first) ≡ i = grind (arith, common_steps, length-placed program [] first) in
    let ends : List (Bounds × Node) = (low_side box column at, low) ∷ (high_side box column at, high) ∷ [] in
    let written : slice_set (with_boxes program [] nodes) i (box, node) ≡ with_boxes program [] first ++ (box, node) ∷ with_boxes program (Bound y ∷ reverse first) rest =
    ap (λ (ps : List (Bounds × Node)). slice_set ps i (box, node)) old ∙ set_at (with_boxes program [] first) (box, Bound y) (with_boxes program (Bound y ∷ reverse first) rest) (box, node) i seam in
    ap (λ (ns : List Node). with_boxes program [] ns) (split_parts nodes i column at shown low high within)
    ∙ placed_parts program first y rest column at n shown low high size (subst (λ (b : Bounds). IsLeafOf program (low_side b column at) low) (sym same) is_low)
    (subst (λ (ns : List Node). first_fault program n [] ns ≡ None) parts none)
    ∙ sym (append_assoc (with_boxes program [] first) ((box, node) ∷ with_boxes program (Bound y ∷ reverse first) rest) ends)
    ∙ ap (λ (ps : List (Bounds × Node)). ps ++ ends) (sym written)
    ∙ ap (λ (b : Bounds). slice_set (with_boxes program [] nodes) i (b, node) ++ (low_side b column at, low) ∷ (high_side b column at, high) ∷ []) same

-- after the split no node breaks a rule
pub right_split : (program : Program) (nodes : List Node) (i column at : ℕ) (shown : Option Point) (low high : Node) → CanSplit program nodes i column at low high → fault_of_tree program nodes ≡ None
    → fault_of_tree program (split_nodes nodes i column at shown low high) ≡ None
right_split program nodes i column at shown low high can none =
    let n = length nodes in
    let within = slice_get_within nodes i (Bound can.y) can.leaf in
    let first = take i nodes in
    let rest = drop (suc i) nodes in
    let parts = parts_at nodes i (Bound can.y) can.leaf in
    let place : length (reverse first) ≡ i = grind (arith, common_steps) in
    let size : length first + suc (length rest) ≡ n = grind (arith, common_steps) in
    let same : box_at program nodes i ≡ box_of program (reverse first) (length (reverse first)) = ap (box_of program (reverse first)) (sym place) in
    let whole = split_parts nodes i column at shown low high within in
    let count : length (split_nodes nodes i column at shown low high) ≡ n + 2 = grind (arith, common_steps) in
    let right = split_right_tree program first can.y rest column at n shown low high size can.there
    (subst (λ (b : Bounds). slice_index b.low column ≤ at) same can.above) (subst (λ (b : Bounds). at < slice_index b.high column) same can.below)
    (subst (λ (b : Bounds). IsLeafOf program (low_side b column at) low) same can.low_child) (subst (λ (b : Bounds). IsLeafOf program (high_side b column at) high) same can.high_child)
    (subst (λ (ns : List Node). first_fault program n [] ns ≡ None) parts none) in
    ap (λ (m : ℕ). first_fault program m [] (split_nodes nodes i column at shown low high)) count
    ∙ ap (λ (ns : List Node). first_fault program (n + 2) [] ns) whole ∙ right
