-- Values of worked programs, by computing: six servers alone on three switchboards in pairs, and three servers on a switchboard each.
use Rattle.std.proofs.Common.{◌≡◌, ℕ, IsTrue, zero, suc, ◌+◌, ◌*◌, refl, List, [], ◌∷◌, ◌++◌, pos, negsuc, Some, None}
use Rattle.ip_model.specs.declared.parts.Mark.TheVariants.{Count}
use Rattle.ip_model.specs.declared.parts.RowKind.TheVariants.{ClassMost, ClassLeast, Total, Loss}
use Rattle.ip_model.specs.declared.parts.Column.{Column}
use Rattle.ip_model.specs.declared.parts.Term.{Term}
use Rattle.ip_model.specs.declared.parts.Line.{Line}
use Rattle.ip_model.specs.declared.program.Program.{Program}
use Rattle.ip_model.specs.Points.{full_box_of}
use Rattle.bound_certificate.specs.declared.multipliers.Top.{Top}
use Rattle.bound_certificate.specs.declared.multipliers.Multipliers.{Multipliers}
use Rattle.bound_certificate.specs.declared.tree.Node.{Node}
use Rattle.bound_certificate.specs.declared.tree.Node.TheVariants.{Split, Bound}
use Rattle.bound_certificate.specs.declared.tree.Least.TheVariants.{At}
use Rattle.bound_certificate.specs.declared.tree.TreeWhy.TheVariants.{Child}
use Rattle.ip_model.specs.Rule.{program_rule}
use Rattle.bound_certificate.specs.Rule.{multipliers_rule}
use Rattle.bound_certificate.specs.Bound.{leaf_bound, refutation}
use Rattle.bound_certificate.specs.Trees.{fault_of_tree, bound_of_tree}

-- two columns for each of n servers, from class c on
abbrev columns : ℕ → ℕ → ℕ → List Column
columns zero c take = []
columns (suc n) c take = record { cost = take; top = 1; mark = Count c (Some 0) } ∷ (record { cost = 0; top = 1; mark = Count c None } ∷ columns n (c + 1) take)

abbrev classes : ℕ → ℕ → List Line
classes zero c = []
classes (suc n) c =
    record { terms = record { column = 2 * c; factor = negsuc 0 } ∷ (record { column = 2 * c + 1; factor = negsuc 0 } ∷ []); least = negsuc 0; kind = ClassMost }
    ∷ (record { terms = record { column = 2 * c; factor = pos 1 } ∷ (record { column = 2 * c + 1; factor = pos 1 } ∷ []); least = pos 1; kind = ClassLeast }
    ∷ classes n (c + 1))

abbrev units : ℕ → List ℕ → List Term
units value [] = []
units value (server ∷ servers) = record { column = 2 * server; factor = pos value } ∷ units value servers

abbrev six_rows : ℕ → List Line
six_rows need =
    classes 6 0
    ++ (record { terms = units 10 (0 ∷ (1 ∷ (2 ∷ (3 ∷ (4 ∷ (5 ∷ [])))))); least = pos need; kind = Total }
    ∷ (record { terms = units 10 (2 ∷ (3 ∷ (4 ∷ (5 ∷ [])))); least = pos need; kind = Loss }
    ∷ (record { terms = units 10 (0 ∷ (1 ∷ (4 ∷ (5 ∷ [])))); least = pos need; kind = Loss }
    ∷ (record { terms = units 10 (0 ∷ (1 ∷ (2 ∷ (3 ∷ [])))); least = pos need; kind = Loss } ∷ []))))

abbrev six : (need : ℕ) → IsTrue (program_rule 0 (columns 6 0 1) (six_rows need)) → Program
six need kept = record { base = 0; columns = columns 6 0 1; rows = six_rows need; kept = kept }

abbrev losses : List Top
losses = record { row = 13; num = 1 } ∷ (record { row = 14; num = 1 } ∷ (record { row = 15; num = 1 } ∷ []))

abbrev multipliers : (den : ℕ) (tops : List Top) → IsTrue (multipliers_rule den tops) → Multipliers
multipliers den tops kept = record { den = den; tops = tops; kept = kept }

need_of_40 : leaf_bound (six 40 refl) (full_box_of (six 40 refl)) (multipliers 20 losses refl) ≡ 6
need_of_40 = refl

need_of_35 : leaf_bound (six 35 refl) (full_box_of (six 35 refl)) (multipliers 20 losses refl) ≡ 6
need_of_35 = refl

need_of_41 : refutation (six 41 refl) (full_box_of (six 41 refl)) (multipliers 1 (record { row = 13; num = 1 } ∷ []) refl) ≡ pos 1
need_of_41 = refl

abbrev three_rows : List Line
three_rows =
    classes 3 0
    ++ (record { terms = units 1 (0 ∷ (1 ∷ (2 ∷ []))); least = pos 1; kind = Total }
    ∷ (record { terms = units 1 (1 ∷ (2 ∷ [])); least = pos 1; kind = Loss }
    ∷ (record { terms = units 1 (0 ∷ (2 ∷ [])); least = pos 1; kind = Loss }
    ∷ (record { terms = units 1 (0 ∷ (1 ∷ [])); least = pos 1; kind = Loss } ∷ []))))

abbrev three : Program
three = record { base = 0; columns = columns 3 0 2; rows = three_rows; kept = refl }

abbrev low_leaf : Multipliers
low_leaf = multipliers 1 (record { row = 8; num = 2 } ∷ (record { row = 9; num = 2 } ∷ [])) refl

abbrev high_leaf : Multipliers
high_leaf = multipliers 1 (record { row = 7; num = 2 } ∷ []) refl

abbrev split_tree : List Node
split_tree = Split 0 0 1 2 None ∷ (Bound low_leaf ∷ (Bound high_leaf ∷ []))

no_fault : fault_of_tree three split_tree ≡ None
no_fault = refl

bound_of_4 : bound_of_tree three split_tree ≡ At 4
bound_of_4 = refl

-- both children are one node
one_child : fault_of_tree three (Split 0 0 1 1 None ∷ (Bound (multipliers 1 [] refl) ∷ [])) ≡ Some (0, Child)
one_child = refl
