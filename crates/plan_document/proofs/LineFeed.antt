-- A printed text is read as the same value with a line feed after it.
use Rattle.std.proofs.Common.{◌≡◌, ◌∙◌, ◌&&◌, ℕ, sym, ap, ap₂, refl, Bool, true, false, cond, List, [], ◌∷◌, ◌++◌, append_assoc, Some, None, option_and_then, if◌then◌else◌}
use Rattle.std.specs.Str.{IsUtf8}
use Rattle.std.proofs.lemmas.Str.{IsUtf8-append, is_utf8-from_IsUtf8}
use Rattle.csv.specs.Reading.{strip_bom}
use Rattle.json.specs.Token.{Token, begin_object, end_object, begin_array, end_array, key, string, number, boolean, null, bad}
use Rattle.json.specs.Word.{ends_word, word}
use Rattle.json.specs.Lex.{token, comma, colon, string_token, lex, between, fresh, punctuate, tokens}
use Rattle.json.specs.Print.{escape, quoted, token_text, begins, ends, separator, print_from, print, IsPrintableOrBad, ArePrintableOrBad}
use Rattle.json.specs.Json as json
use Rattle.json.proofs.Printed.Strings.{content-escape, lex-escape}
use Rattle.json.proofs.Printed.Numbers.{lex-number, in_word-ended}
use Rattle.json.proofs.Printed.Utf8.{IsUtf8-are_ascii}
use Rattle.json.proofs.Numbered.{ArePrintableOrBad-tokens}
use Rattle.serde_json.specs.Data.{Data}
use Rattle.serde_json.specs.Read.{read, max_depth, of_json}
use Rattle.plan_document.specs.Documents.{json_of}

-- the lexemes of a token before a text, by those of the text
quoted-before : (s r : List ℕ) → lex between (quoted s ++ r) ≡ token (string s) ∷ lex between r
unfolding lex
quoted-before s r =
    ap (λ l. lex between (34 ∷ l)) (append_assoc (escape s) (34 ∷ []) r)
    ∙ ap₂ (λ o l. token (string_token o) ∷ l) (content-escape s r) (lex-escape s r)

separator-before : (b : Bool) (r : List ℕ) → lex between (cond b (44 ∷ []) [] ++ r) ≡ cond b (comma ∷ []) [] ++ lex between r
unfolding lex
separator-before true r = refl
separator-before false r = refl

-- a token has the same lexemes before two texts that have the same ones
same-before : (t : Token) (q r : List ℕ) → IsPrintableOrBad t → (ends t ≡ true → ends_word q ≡ true) → (ends t ≡ true → ends_word r ≡ true)
    → lex between q ≡ lex between r → lex between (token_text t ++ q) ≡ lex between (token_text t ++ r)
unfolding lex word
same-before begin_object q r h a b e = ap (λ l. token begin_object ∷ l) e
same-before end_object q r h a b e = ap (λ l. token end_object ∷ l) e
same-before begin_array q r h a b e = ap (λ l. token begin_array ∷ l) e
same-before end_array q r h a b e = ap (λ l. token end_array ∷ l) e
same-before (key s) q r h a b e =
    ap (lex between) (append_assoc (quoted s) (58 ∷ []) q) ∙ quoted-before s (58 ∷ q)
    ∙ ap (λ l. token (string s) ∷ colon ∷ l) e
    ∙ sym (ap (lex between) (append_assoc (quoted s) (58 ∷ []) r) ∙ quoted-before s (58 ∷ r))
same-before (string s) q r h a b e = quoted-before s q ∙ ap (λ l. token (string s) ∷ l) e ∙ sym (quoted-before s r)
same-before (number s) q r h a b e = lex-number s q h (a refl) ∙ ap (λ l. token (number s) ∷ l) e ∙ sym (lex-number s r h (b refl))
same-before (boolean true) q r h a b e =
    ap₂ (λ c l. token (cond c (boolean true) bad) ∷ l) (a refl ∙ sym (b refl)) (in_word-ended q (a refl) ∙ e ∙ sym (in_word-ended r (b refl)))
same-before (boolean false) q r h a b e =
    ap₂ (λ c l. token (cond c (boolean false) bad) ∷ l) (a refl ∙ sym (b refl)) (in_word-ended q (a refl) ∙ e ∙ sym (in_word-ended r (b refl)))
same-before null q r h a b e =
    ap₂ (λ c l. token (cond c null bad) ∷ l) (a refl ∙ sym (b refl)) (in_word-ended q (a refl) ∙ e ∙ sym (in_word-ended r (b refl)))
same-before bad q r h a b e = e

-- after a value stands a comma, a closing bracket or the end
value-ended : (ts : List Token) → ends_word (print_from true ts) ≡ true
unfolding print_from
value-ended [] = refl
value-ended (begin_object ∷ ts) = refl
value-ended (end_object ∷ ts) = refl
value-ended (begin_array ∷ ts) = refl
value-ended (end_array ∷ ts) = refl
value-ended (key s ∷ ts) = refl
value-ended (string s ∷ ts) = refl
value-ended (number s ∷ ts) = refl
value-ended (boolean b ∷ ts) = refl
value-ended (null ∷ ts) = refl
value-ended (bad ∷ ts) = refl

value-ended_line : (ts : List Token) → ends_word (print_from true ts ++ 10 ∷ []) ≡ true
unfolding print_from
value-ended_line [] = refl
value-ended_line (begin_object ∷ ts) = refl
value-ended_line (end_object ∷ ts) = refl
value-ended_line (begin_array ∷ ts) = refl
value-ended_line (end_array ∷ ts) = refl
value-ended_line (key s ∷ ts) = refl
value-ended_line (string s ∷ ts) = refl
value-ended_line (number s ∷ ts) = refl
value-ended_line (boolean b ∷ ts) = refl
value-ended_line (null ∷ ts) = refl
value-ended_line (bad ∷ ts) = refl

pub lex-line : (c : Bool) (ts : List Token) → ArePrintableOrBad ts → lex between (print_from c ts ++ 10 ∷ []) ≡ lex between (print_from c ts)
unfolding lex print_from
lex-line c [] h = refl
lex-line c (t ∷ ts) h =
    let rest = print_from (ends t) ts in
    let b = c && begins t in
    ap (lex between) (append_assoc (separator c t) (token_text t ++ rest) (10 ∷ []) ∙ ap (λ l. separator c t ++ l) (append_assoc (token_text t) rest (10 ∷ [])))
    ∙ separator-before b (token_text t ++ (rest ++ 10 ∷ []))
    ∙ ap (λ l. cond b (comma ∷ []) [] ++ l)
    (same-before t (rest ++ 10 ∷ []) rest h.0
    (λ e. ap (λ d. ends_word (print_from d ts ++ 10 ∷ [])) e ∙ value-ended_line ts)
    (λ e. ap (λ d. ends_word (print_from d ts)) e ∙ value-ended ts)
    (lex-line (ends t) ts h.1))
    ∙ sym (separator-before b (token_text t ++ rest))

pub tokens-line : (text : List ℕ) → text ≡ print (tokens text) → tokens (text ++ 10 ∷ []) ≡ tokens text
tokens-line text printed =
    ap (punctuate fresh) (ap (λ l. lex between (l ++ 10 ∷ [])) printed ∙ lex-line false (tokens text) (ArePrintableOrBad-tokens text) ∙ sym (ap (lex between) printed))

pub read-line : (text : List ℕ) (d : Data) → text ≡ print (tokens text) → read text ≡ Some d → read (text ++ 10 ∷ []) ≡ Some d
read-line text d printed is =
    ap (λ (ts : List Token). option_and_then of_json (option_and_then (λ p. json.if_last p.0 p.1) (json.value max_depth ts))) (tokens-line text printed) ∙ is

-- a text that begins with a brace has no byte order mark
pub strip-brace : (xs : List ℕ) → strip_bom (123 ∷ xs) ≡ 123 ∷ xs
unfolding strip_bom
strip-brace [] = refl
strip-brace (b ∷ []) = refl
strip-brace (b ∷ c ∷ rest) = refl

pub line-utf8 : (text : List ℕ) → IsUtf8 text → IsUtf8 (text ++ 10 ∷ [])
line-utf8 text h = IsUtf8-append text (10 ∷ []) h (IsUtf8-are_ascii (10 ∷ []) refl)

-- the bytes of an object's text and a line feed are that object
pub json-line : (text rest : List ℕ) (d : Data) → text ≡ 123 ∷ rest → IsUtf8 text → text ≡ print (tokens text) → read text ≡ Some d → json_of (strip_bom (text ++ 10 ∷ [])) ≡ Some d
json-line text rest d brace utf8 printed is =
    ap json_of (ap (λ l. strip_bom (l ++ 10 ∷ [])) brace ∙ strip-brace (rest ++ 10 ∷ []) ∙ sym (ap (λ l. l ++ 10 ∷ []) brace))
    ∙ ap (λ (b : Bool). if b then read (text ++ 10 ∷ []) else None) (is_utf8-from_IsUtf8 (text ++ 10 ∷ []) (line-utf8 text utf8))
    ∙ read-line text d printed is
