-- The files and the words of a run.
use Rattle.std.specs.Prelude.{ℕ, Bool, ◌&&◌, nat_lt, List, [], ◌∷◌, length, map, codes}
use Rattle.std.specs.Borrow.{Bor}
use Rattle.ras_outside.specs.Held.{Files}
use Rattle.memory_runs.specs.declared.files.Texts.{Texts}

-- the files under their names, with another document
abbrev pub files_with : Texts → List ℕ → List ℕ → Files
files_with texts document last =
    (codes "inventory", texts.inventory.now) ∷ (codes "requests", texts.requests.now) ∷ (codes "bindings", texts.bindings.now)
    ∷ (codes "plan", document) ∷ (codes "last", last) ∷ []

-- the files under their names
abbrev pub files_in : Texts → List ℕ → Files
files_in texts last = files_with texts texts.plan.now last

-- a list can hold the bytes
abbrev pub is_short : List ℕ → Bool
is_short bytes = nat_lt (length bytes) 4294967296

-- lists can hold the files, with another document
abbrev pub are_short_with : Texts → List ℕ → List ℕ → Bool
are_short_with texts document last =
    is_short texts.inventory.now && is_short texts.requests.now && is_short texts.bindings.now && is_short document && is_short last

abbrev pub are_short : Texts → List ℕ → Bool
are_short texts last = are_short_with texts texts.plan.now last

-- a list can hold the words
abbrev pub is_line : List (List ℕ) → Bool
is_line words = nat_lt (length words) 4294967296

-- the words of a line
abbrev pub words_in : List (Bor (List ℕ)) → List (List ℕ)
words_in line = map (λ w. w.now) line

-- `ras check inventory requests bindings plan`
abbrev pub check_words : List (List ℕ)
check_words = codes "ras" ∷ codes "check" ∷ codes "inventory" ∷ codes "requests" ∷ codes "bindings" ∷ codes "plan" ∷ []

-- `ras spare inventory requests bindings plan last`
abbrev pub spare_words : List (List ℕ)
spare_words = codes "ras" ∷ codes "spare" ∷ codes "inventory" ∷ codes "requests" ∷ codes "bindings" ∷ codes "plan" ∷ codes "last" ∷ []

-- `ras move inventory requests bindings plan last`, before its options
abbrev pub move_words : List (List ℕ)
move_words = codes "ras" ∷ codes "move" ∷ codes "inventory" ∷ codes "requests" ∷ codes "bindings" ∷ codes "plan" ∷ codes "last" ∷ []
