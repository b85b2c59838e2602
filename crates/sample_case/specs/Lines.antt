-- Lines of fields that are names.
use Rattle.std.specs.Prelude.{ℕ, List, [], ◌∷◌, ◌++◌, Bool, false}
use Rattle.std.specs.List.{list_all}
use Rattle.ras_table.specs.Names.{is_name}

-- the fields after the first, each after a comma, and the line's end
abbrev pub fields_after : List (List ℕ) → List ℕ
fields_after [] = 10 ∷ []
fields_after (field ∷ fields) = 44 ∷ (field ++ fields_after fields)

abbrev pub line_text : List (List ℕ) → List ℕ
line_text [] = 10 ∷ []
line_text (field ∷ fields) = field ++ fields_after fields

-- two fields or more, each a name
abbrev pub are_names : List (List ℕ) → Bool
are_names [] = false
are_names (field ∷ []) = false
are_names (field ∷ next ∷ fields) = list_all is_name (field ∷ next ∷ fields)
