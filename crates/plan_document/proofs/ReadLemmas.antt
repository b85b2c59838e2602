-- What the bytes of a document are.
use Rattle.std.proofs.Common.{ℕ, ◌≡◌, ◌∙◌, ap, refl, Bool, true, false, List, Option, Some, None, if◌then◌else◌}
use Rattle.std.specs.Str.{is_utf8, IsUtf8}
use Rattle.std.proofs.lemmas.Str.{IsUtf8-from_is_utf8, is_utf8-from_IsUtf8}
use Rattle.serde_json.specs.Data.{Data}
use Rattle.serde_json.specs.Read.{read}
use Rattle.plan_document.specs.Documents.{json_of}

pub json-ok : (bs : List ℕ) (d : Data) → IsUtf8 bs → read bs ≡ Some d → json_of bs ≡ Some d
json-ok bs d text is = ap (λ (b : Bool). if b then read bs else None) (is_utf8-from_IsUtf8 bs text) ∙ is

pub json-none : (bs : List ℕ) → (IsUtf8 bs → read bs ≡ None) → json_of bs ≡ None
json-none bs h = by (is_utf8 bs) (λ e. h (IsUtf8-from_is_utf8 bs e))
  where
    by : (b : Bool) → (b ≡ true → read bs ≡ None) → ◌≡◌ {A = Option Data} (if b then read bs else None) None
    by true g = g refl
    by false g = refl
