-- The requests of a sample are its two reservations.
use Rattle.std.proofs.Common.{◌≡◌, ◌≤◌, ◌<◌, refl, ap, ◌∙◌, ℕ, ◌%◌, ◌^◌, Bool, true, false, cond, ◌==◌, List, [], ◌∷◌, ◌++◌, Some, None, option_and_then, if◌then◌else◌, arith}
use Rattle.std.specs.Prelude.{codes, decimal, nat_le, Ok}
use Rattle.std.specs.Str.{IsUtf8}
use Rattle.std.proofs.lemmas.Bool.Decides.{nat_tests}
use Rattle.std.proofs.lemmas.Fmt.{IsAscii-decimal}
use Rattle.std.proofs.lemmas.Str.{IsUtf8-append, IsUtf8-from_ascii, is_utf8-from_IsUtf8}
use Rattle.csv.specs.Reading.{strip_bom}
use Rattle.json.specs.Token.{Token, begin_object, end_object, begin_array, end_array, key, string, number}
use Rattle.json.specs.Lex.{tokens}
use Rattle.json.specs.Print.{print, print_from, escape_byte, IsNumber, ArePrintable}
use Rattle.json.specs.Word.{after_number}
use Rattle.json.specs.Json as json
use Rattle.json.specs.Json.{items, members, value}
use Rattle.json.proofs.Printed.Tokens.{tokens-print}
use Rattle.json.proofs.Printed.Decimals.{IsNumber-decimal}
use Rattle.json.proofs.Printed.Utf8.{IsUtf8-are_ascii}
use Rattle.serde_json.specs.Data as it
use Rattle.serde_json.specs.Data.{Data, Num}
use Rattle.serde_json.specs.Read.{read, max_depth, of_json, number_of}
use Rattle.serde_json.proofs.Numbers.{number_of-decimal}
use Rattle.serde_json.proofs.OnLiterals.{serde_json_on_literals}
use Rattle.ras_requests.specs.Requested.{json_of, of_value, requests_of}
use Rattle.region_gen.specs.Files.{requests_text, web_need, web_rack_weight}
use Rattle.sample_case.specs.Samples.{web, db, sample_moves, sample_requests}

-- the text, its tokens, its tree and its value, by the texts and values of the two numbers
text_with : List ℕ → List ℕ → List ℕ
text_with a b =
    codes "{\"format\":1,\"moves\":{\"busy\":20,\"idle\":3,\"take\":1},\"reservations\":[{\"name\":\"web\",\"need\":"
    ++ (a ++ (codes ",\"rack_limit\":10,\"rack_weight\":"
    ++ (b ++ codes ",\"values\":{\"t0\":10,\"t1\":6}},{\"name\":\"db\",\"need\":8,\"values\":{\"t1\":8}}]}")))

tokens_with : List ℕ → List ℕ → List Token
tokens_with a b =
    begin_object ∷ key (codes "format") ∷ number (codes "1")
    ∷ key (codes "moves") ∷ begin_object ∷ key (codes "busy") ∷ number (codes "20") ∷ key (codes "idle") ∷ number (codes "3") ∷ key (codes "take") ∷ number (codes "1") ∷ end_object
    ∷ key (codes "reservations") ∷ begin_array
    ∷ begin_object ∷ key (codes "name") ∷ string (codes "web") ∷ key (codes "need") ∷ number a ∷ key (codes "rack_limit") ∷ number (codes "10") ∷ key (codes "rack_weight") ∷ number b
    ∷ key (codes "values") ∷ begin_object ∷ key (codes "t0") ∷ number (codes "10") ∷ key (codes "t1") ∷ number (codes "6") ∷ end_object ∷ end_object
    ∷ begin_object ∷ key (codes "name") ∷ string (codes "db") ∷ key (codes "need") ∷ number (codes "8")
    ∷ key (codes "values") ∷ begin_object ∷ key (codes "t1") ∷ number (codes "8") ∷ end_object ∷ end_object
    ∷ end_array ∷ end_object ∷ []

tree_with : List ℕ → List ℕ → json.Json
tree_with a b =
    json.object
    (json.member (codes "format") (json.number (codes "1"))
    (json.member (codes "moves") (json.object (json.member (codes "busy") (json.number (codes "20")) (json.member (codes "idle") (json.number (codes "3")) (json.member (codes "take") (json.number (codes "1")) json.no_members))))
    (json.member (codes "reservations") (json.array
    (json.item (json.object
    (json.member (codes "name") (json.string (codes "web")) (json.member (codes "need") (json.number a) (json.member (codes "rack_limit") (json.number (codes "10")) (json.member (codes "rack_weight") (json.number b)
    (json.member (codes "values") (json.object (json.member (codes "t0") (json.number (codes "10")) (json.member (codes "t1") (json.number (codes "6")) json.no_members))) json.no_members))))))
    (json.item (json.object
    (json.member (codes "name") (json.string (codes "db")) (json.member (codes "need") (json.number (codes "8"))
    (json.member (codes "values") (json.object (json.member (codes "t1") (json.number (codes "8")) json.no_members)) json.no_members))))
    json.no_items))) json.no_members)))

whole_number : ℕ → Data
whole_number n = it.number (it.unsigned n)

data_with : Data → Data → Data
unfolding whole_number
data_with a b =
    it.object
    (it.member (codes "format") (whole_number 1)
    (it.member (codes "moves") (it.object (it.member (codes "busy") (whole_number 20) (it.member (codes "idle") (whole_number 3) (it.member (codes "take") (whole_number 1) it.no_members))))
    (it.member (codes "reservations") (it.array
    (it.item (it.object
    (it.member (codes "name") (it.string (codes "web")) (it.member (codes "need") a (it.member (codes "rack_limit") (whole_number 10) (it.member (codes "rack_weight") b
    (it.member (codes "values") (it.object (it.member (codes "t0") (whole_number 10) (it.member (codes "t1") (whole_number 6) it.no_members))) it.no_members))))))
    (it.item (it.object
    (it.member (codes "name") (it.string (codes "db")) (it.member (codes "need") (whole_number 8)
    (it.member (codes "values") (it.object (it.member (codes "t1") (whole_number 8) it.no_members)) it.no_members))))
    it.no_items))) it.no_members)))

text-printed : (a b : List ℕ) → text_with a b ≡ print (tokens_with a b)
unfolding text_with tokens_with print_from escape_byte
text-printed a b = refl

printable : (a b : List ℕ) → IsNumber a → IsNumber b → ArePrintable (tokens_with a b)
unfolding tokens_with after_number ArePrintable
printable a b e f =
    (tt, (tt, (refl, (tt, (tt, (tt, (refl, (tt, (refl, (tt, (refl, (tt, (tt, (tt, (tt, (tt, (tt, (tt, (e, (tt, (refl, (tt, (f, (tt, (tt, (tt, (refl, (tt, (refl, (tt, (tt, (tt, (tt, (tt, (tt, (refl, (tt, (tt, (tt, (refl, (tt, (tt, (tt, (tt, tt))))))))))))))))))))))))))))))))))))))))))))

tree-read : (a b : List ℕ) → option_and_then (λ p. json.if_last p.0 p.1) (json.value max_depth (tokens_with a b)) ≡ Some (tree_with a b)
unfolding tokens_with tree_with items members value
tree-read a b = refl

data-read : (a b : List ℕ) (x y : ℕ) → number_of a ≡ Some (it.unsigned x) → number_of b ≡ Some (it.unsigned y) → of_json (tree_with a b) ≡ Some (data_with (whole_number x) (whole_number y))
unfolding tree_with data_with whole_number serde_json_on_literals
data-read a b x y e f = rw (e, f) refl

-- what the value asks for
asked : (x y : ℕ) → nat_le x 10000000 ≡ true → nat_le y 10000 ≡ true → of_value (Some (data_with (whole_number x) (whole_number y))) ≡ Ok (record { moves = sample_moves; list = web x y ∷ db ∷ [] })
unfolding data_with whole_number
asked x y h k = rw (h, k) refl

module _ (x y : ℕ) (few : x ≤ 1000) (flag : y ≤ 1) where
  small-x : x < 2 ^ 64
  small-x = omega (arith, few)

  small-y : y < 2 ^ 64
  small-y = omega (arith, flag)

  decimals-utf8 : (n : ℕ) → n < 2 ^ 64 → IsUtf8 (decimal n)
  decimals-utf8 n h = IsUtf8-from_ascii (decimal n) (IsAscii-decimal n h)

  text-utf8 : IsUtf8 (text_with (decimal x) (decimal y))
  unfolding text_with
  text-utf8 =
      IsUtf8-append _ _ (IsUtf8-are_ascii (codes "{\"format\":1,\"moves\":{\"busy\":20,\"idle\":3,\"take\":1},\"reservations\":[{\"name\":\"web\",\"need\":") refl)
      (IsUtf8-append _ _ (decimals-utf8 x small-x)
      (IsUtf8-append _ _ (IsUtf8-are_ascii (codes ",\"rack_limit\":10,\"rack_weight\":") refl)
      (IsUtf8-append _ _ (decimals-utf8 y small-y)
      (IsUtf8-are_ascii (codes ",\"values\":{\"t0\":10,\"t1\":6}},{\"name\":\"db\",\"need\":8,\"values\":{\"t1\":8}}]}") refl))))

  no-mark : strip_bom (text_with (decimal x) (decimal y)) ≡ text_with (decimal x) (decimal y)
  unfolding text_with strip_bom
  no-mark = refl

  value-read : read (text_with (decimal x) (decimal y)) ≡ Some (data_with (whole_number x) (whole_number y))
  value-read =
      ap (λ ts. option_and_then of_json (option_and_then (λ p. json.if_last p.0 p.1) (json.value max_depth ts)))
      (ap tokens (text-printed (decimal x) (decimal y))
      ∙ tokens-print (tokens_with (decimal x) (decimal y)) (printable (decimal x) (decimal y) (IsNumber-decimal x small-x) (IsNumber-decimal y small-y)))
      ∙ ap (λ t. option_and_then of_json t) (tree-read (decimal x) (decimal y))
      ∙ data-read (decimal x) (decimal y) x y (number_of-decimal x small-x) (number_of-decimal y small-y)

  json-read : json_of (text_with (decimal x) (decimal y)) ≡ Some (data_with (whole_number x) (whole_number y))
  json-read =
      ap (λ (b : Bool). if b then read (text_with (decimal x) (decimal y)) else None) (is_utf8-from_IsUtf8 (text_with (decimal x) (decimal y)) text-utf8) ∙ value-read

  requests-read : requests_of (text_with (decimal x) (decimal y)) ≡ Ok (record { moves = sample_moves; list = web x y ∷ db ∷ [] })
  requests-read =
      ap (λ t. of_value (json_of t)) no-mark ∙ ap of_value json-read ∙ asked x y (grind (arith, nat_tests, few)) (grind (arith, nat_tests, flag))

weight-flag : (size : ℕ) → web_rack_weight size ≤ 1
weight-flag size = by (size % 2 == 0)
  where
    by : (b : Bool) → cond b 1 0 ≤ 1
    by true = omega arith
    by false = omega arith

pub requests-valid : (size : ℕ) → size ≤ 40 → requests_of (requests_text size) ≡ Ok (sample_requests size)
unfolding text_with
requests-valid size few = requests-read (web_need size) (web_rack_weight size) (omega (arith, few)) (weight-flag size)
