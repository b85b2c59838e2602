-- A value that was read is made of no more values than its text has bytes.
use Rattle.std.proofs.Common.{arith, ℕ, zero, suc, ◌+◌, ◌≡◌, ◌≤◌, ◌<◌, ◌^◌, ap, refl, subst, Bool, true, false, cond, List, [], ◌∷◌, length, length-append, get_or, Option, Some, None, option_map, option_and_then, Ordering, Less, Equal, Greater}
use Rattle.std.specs.Prelude.{⊤}
use Rattle.std.specs.Ordering.{nat_cmp, match_ordering}
use Rattle.std.specs.Cmp.Lexicographic.{slice_cmp}
use Rattle.csv.specs.Reading.{strip_bom, is_bom}
use Rattle.json.specs.Token.{Token, begin_object, end_object, begin_array, end_array, key, bad}
use Rattle.json.specs.Token as tok
use Rattle.json.specs.Lex.{Lexeme, token, comma, colon, Class, quote, backslash, operator, space, other, class, Mode, between, in_word, in_string, in_escape, lex_byte, lex, Place, fresh, after_value, after_comma, after_key, begins_colon, may_begin, may_close, if_allowed, place_token, punctuate, tokens}
use Rattle.json.specs.Json as json
use Rattle.json.specs.Tree as tree
use Rattle.json.proofs.Unique.Spelling.{value-json_tokens_back}
use Rattle.serde_json.specs.Data.{Data, null, boolean, number, string, array, object, Items, no_items, item, Members, no_members, member, put}
use Rattle.serde_json.specs.Find.{get, get_member, at, get_item}
use Rattle.serde_json.specs.Read.{number_of, of_json, of_items, of_members, read, max_depth}
use Rattle.plan_document.specs.Numbers.{items_list, entries_of}
use Rattle.plan_document.specs.Parts.{entries_at}
use Rattle.plan_document.specs.Sizes.{size, items_size, members_size, list_size}

-- at most one lexeme begins at each byte
byte-lexemes : (m : Mode) (c : Class) (x : ℕ) (xs : List ℕ) (k : Mode → List Lexeme) (n : ℕ) → ((q : Mode) → length (k q) ≤ n) → length (lex_byte m c x xs k) ≤ suc n
byte-lexemes between quote x xs k n h = omega (arith, h in_string)
byte-lexemes between backslash x xs k n h = omega (arith, h in_word)
byte-lexemes between operator x xs k n h = omega (arith, h between)
byte-lexemes between space x xs k n h = omega (arith, h between)
byte-lexemes between other x xs k n h = omega (arith, h in_word)
byte-lexemes in_word quote x xs k n h = omega (arith, h in_word)
byte-lexemes in_word backslash x xs k n h = omega (arith, h in_word)
byte-lexemes in_word operator x xs k n h = omega (arith, h between)
byte-lexemes in_word space x xs k n h = omega (arith, h between)
byte-lexemes in_word other x xs k n h = omega (arith, h in_word)
byte-lexemes in_string quote x xs k n h = omega (arith, h between)
byte-lexemes in_string backslash x xs k n h = omega (arith, h in_escape)
byte-lexemes in_string operator x xs k n h = omega (arith, h in_string)
byte-lexemes in_string space x xs k n h = omega (arith, h in_string)
byte-lexemes in_string other x xs k n h = omega (arith, h in_string)
byte-lexemes in_escape c x xs k n h = omega (arith, h in_string)

text-lexemes : (m : Mode) (xs : List ℕ) → length (lex m xs) ≤ length xs
unfolding lex
text-lexemes m [] = omega arith
text-lexemes m (x ∷ xs) = byte-lexemes m (class x) x xs (λ next. lex next xs) (length xs) (λ next. text-lexemes next xs)

-- each lexeme gives at most one token, and one more tells of a fault
allowed-tokens : (b : Bool) (t : Token) (k : Place → List Token) (next : Place) (n : ℕ) → ((q : Place) → length (k q) ≤ suc n) → length (if_allowed b t k next) ≤ suc (suc n)
allowed-tokens true t k next n h = omega (arith, h next)
allowed-tokens false t k next n h = omega arith

placed-tokens : (p : Place) (t : Token) (b : Bool) (k : Place → List Token) (n : ℕ) → ((q : Place) → length (k q) ≤ suc n) → length (place_token p t b k) ≤ suc (suc n)
placed-tokens p begin_object b k n h = allowed-tokens (may_begin p) begin_object k fresh n h
placed-tokens p end_object b k n h = allowed-tokens (may_close p) end_object k after_value n h
placed-tokens p begin_array b k n h = allowed-tokens (may_begin p) begin_array k fresh n h
placed-tokens p end_array b k n h = allowed-tokens (may_close p) end_array k after_value n h
placed-tokens p (key s) b k n h = omega arith
placed-tokens p (tok.string s) true k n h = allowed-tokens (may_begin p) (key s) k after_key n h
placed-tokens p (tok.string s) false k n h = allowed-tokens (may_begin p) (tok.string s) k after_value n h
placed-tokens p (tok.number s) b k n h = allowed-tokens (may_begin p) (tok.number s) k after_value n h
placed-tokens p (tok.boolean x) b k n h = allowed-tokens (may_begin p) (tok.boolean x) k after_value n h
placed-tokens p tok.null b k n h = allowed-tokens (may_begin p) tok.null k after_value n h
placed-tokens p bad b k n h = omega arith

lexeme-tokens : (p : Place) (ls : List Lexeme) → length (punctuate p ls) ≤ suc (length ls)
unfolding punctuate
lexeme-tokens fresh [] = omega arith
lexeme-tokens after_value [] = omega arith
lexeme-tokens after_comma [] = omega arith
lexeme-tokens after_key [] = omega arith
lexeme-tokens fresh (token t ∷ ls) = placed-tokens fresh t (begins_colon ls) (λ next. punctuate next ls) (length ls) (λ q. lexeme-tokens q ls)
lexeme-tokens after_value (token t ∷ ls) = placed-tokens after_value t (begins_colon ls) (λ next. punctuate next ls) (length ls) (λ q. lexeme-tokens q ls)
lexeme-tokens after_comma (token t ∷ ls) = placed-tokens after_comma t (begins_colon ls) (λ next. punctuate next ls) (length ls) (λ q. lexeme-tokens q ls)
lexeme-tokens after_key (token t ∷ ls) = placed-tokens after_key t (begins_colon ls) (λ next. punctuate next ls) (length ls) (λ q. lexeme-tokens q ls)
lexeme-tokens fresh (comma ∷ ls) = omega arith
lexeme-tokens after_value (comma ∷ ls) = omega (arith, lexeme-tokens after_comma ls)
lexeme-tokens after_comma (comma ∷ ls) = omega arith
lexeme-tokens after_key (comma ∷ ls) = omega arith
lexeme-tokens fresh (colon ∷ ls) = omega arith
lexeme-tokens after_value (colon ∷ ls) = omega arith
lexeme-tokens after_comma (colon ∷ ls) = omega arith
lexeme-tokens after_key (colon ∷ ls) = omega (arith, lexeme-tokens fresh ls)

pub text-tokens : (text : List ℕ) → length (tokens text) ≤ suc (length text)
text-tokens text = omega (arith, lexeme-tokens fresh (lex between text), text-lexemes between text)

-- what an answer has, if there is one
abbrev pub UpTo : {A : Type 0} → (A → ℕ) → ℕ → Option A → Type 0
UpTo f n None = ⊤
UpTo f n (Some a) = f a ≤ n

UpTo-map : {A B : Type 0} (f : A → ℕ) (g : B → ℕ) (m n : ℕ) (h : A → B) → ((a : A) → f a ≤ m → g (h a) ≤ n) → (o : Option A) → UpTo f m o → UpTo g n (option_map h o)
UpTo-map f g m n h k None x = tt
UpTo-map f g m n h k (Some a) x = k a x

UpTo-and_then : {A B : Type 0} (f : A → ℕ) (g : B → ℕ) (m n : ℕ) (h : A → Option B) → ((a : A) → f a ≤ m → UpTo g n (h a)) → (o : Option A) → UpTo f m o → UpTo g n (option_and_then h o)
UpTo-and_then f g m n h k None x = tt
UpTo-and_then f g m n h k (Some a) x = k a x

any-number : {A : Type 0} (o : Option A) → UpTo (λ _. 0) 0 o
any-number None = tt
any-number (Some a) = omega arith

ordered-size : (o : Ordering) (a b c : Members) (n : ℕ) → members_size a ≤ n → members_size b ≤ n → members_size c ≤ n → members_size (match_ordering o a b c) ≤ n
ordered-size Less a b c n p q r = p
ordered-size Equal a b c n p q r = q
ordered-size Greater a b c n p q r = r

put-size : (k : List ℕ) (d : Data) (ms : Members) → members_size (put k d ms) ≤ size d + members_size ms
put-size k d no_members = omega arith
put-size k d (member l e ms) =
    ordered-size (slice_cmp nat_cmp k l) (member k d (member l e ms)) (member l d ms) (member l e (put k d ms)) (size d + (size e + members_size ms)) (omega arith) (omega arith) (omega (arith, put-size k d ms))

mutual
  size-of_json : (j : json.Json) → UpTo size (length (tree.json_tokens j)) (of_json j)
  size-of_json json.null = omega arith
  size-of_json (json.boolean b) = omega arith
  size-of_json (json.number s) = UpTo-map (λ _. 0) size 0 1 number (λ a x. omega arith) (number_of s) (any-number _)
  size-of_json (json.string s) = omega arith
  size-of_json (json.array js) = UpTo-map items_size size (length (tree.items_tokens js)) (suc (length (tree.items_tokens js))) array (λ a x. omega (arith, x)) _ (size-of_items js)
  size-of_json (json.object ms) =
      UpTo-map members_size size (length (tree.members_tokens ms)) (suc (length (tree.members_tokens ms))) object (λ a x. omega (arith, x)) _ (size-of_members ms no_members (length (tree.members_tokens ms)) (omega arith))

  size-of_items : (js : json.Items) → UpTo items_size (length (tree.items_tokens js)) (of_items js)
  size-of_items json.no_items = omega arith
  size-of_items (json.item j js) =
      UpTo-and_then size items_size (length (tree.json_tokens j)) _ _
      (λ d x. UpTo-map items_size items_size (length (tree.items_tokens js)) _ (item d) (λ ds y. omega (arith, x, y, length-append (tree.json_tokens j) (tree.items_tokens js))) _ (size-of_items js)) _ (size-of_json j)

  size-of_members : (ms : json.Members) (found : Members) (n : ℕ) → length (tree.members_tokens ms) + members_size found ≤ n → UpTo members_size n (of_members ms found)
  size-of_members json.no_members found n h = omega (arith, h)
  size-of_members (json.member k j ms) found n h =
      UpTo-and_then size members_size (length (tree.json_tokens j)) n _
      (λ d x. size-of_members ms (put k d found) n (omega (arith, h, x, put-size k d found, length-append (tree.json_tokens j) (tree.members_tokens ms)))) _ (size-of_json j)

last-size : (o : Option (json.Json × List Token)) (n : ℕ) → ((j : json.Json) (r : List Token) → o ≡ Some (j, r) → length (tree.json_tokens j) ≤ n)
    → UpTo size n (option_and_then of_json (option_and_then (λ p. json.if_last p.0 p.1) o))
last-size None n h = tt
last-size (Some (j, [])) n h = wider (of_json j) (length (tree.json_tokens j)) (h j [] refl) (size-of_json j)
  where
    wider : (o : Option Data) (m : ℕ) → m ≤ n → UpTo size m o → UpTo size n o
    wider None m l x = tt
    wider (Some d) m l x = omega (arith, l, x)
last-size (Some (j, t ∷ r)) n h = tt

pub read-size : (text : List ℕ) → UpTo size (suc (length text)) (read text)
read-size text =
    last-size (json.value max_depth (tokens text)) (suc (length text))
    (λ j r e. omega (arith, ap length (value-json_tokens_back max_depth (tokens text) r j e), length-append (tree.json_tokens j) r, text-tokens text))

pub strip-shorter : (bs : List ℕ) → length (strip_bom bs) ≤ length bs
unfolding strip_bom
strip-shorter [] = omega arith
strip-shorter (a ∷ []) = omega arith
strip-shorter (a ∷ b ∷ []) = omega arith
strip-shorter (a ∷ b ∷ c ∷ rest) = by (is_bom a b c)
  where
    by : (m : Bool) → length (cond m rest (a ∷ b ∷ c ∷ rest)) ≤ suc (suc (suc (length rest)))
    by true = omega arith
    by false = omega arith

-- what was read of a text that is no longer than a file is small
pub read-small : (text : List ℕ) (d : Data) → length text ≤ 67108864 → read text ≡ Some d → size d < 2 ^ 32
read-small text d short is = omega (arith, subst (UpTo size (suc (length text))) is (read-size text))

-- what stands in a small value is small
pub member-size : (k : List ℕ) (ms : Members) (e : Data) → get_member k ms ≡ Some e → size e ≤ members_size ms
member-size k no_members e is = absurd (cc)
member-size k (member l d ms) e is = by (slice_cmp nat_cmp k l) (λ h. member-size k ms e h) is
  where
    by : (o : Ordering) → (get_member k ms ≡ Some e → size e ≤ members_size ms) → match_ordering o (get_member k ms) (Some d) (get_member k ms) ≡ Some e → size e ≤ size d + members_size ms
    by Less later h = omega (arith, later h)
    by Equal later h = let same : d ≡ e = cc in omega (arith, ap size same)
    by Greater later h = omega (arith, later h)

pub get-size : (k : List ℕ) (d e : Data) → get k d ≡ Some e → size e ≤ size d
get-size k null e is = absurd (cc)
get-size k (boolean b) e is = absurd (cc)
get-size k (number n) e is = absurd (cc)
get-size k (string s) e is = absurd (cc)
get-size k (array ds) e is = absurd (cc)
get-size k (object ms) e is = omega (arith, member-size k ms e is)

pub item-size : (n : ℕ) (ds : Items) (e : Data) → get_item n ds ≡ Some e → size e ≤ items_size ds
item-size n no_items e is = absurd (cc)
item-size zero (item d ds) e is = let same : d ≡ e = cc in omega (arith, ap size same)
item-size (suc n) (item d ds) e is = omega (arith, item-size n ds e is)

pub at-size : (n : ℕ) (d e : Data) → at n d ≡ Some e → size e ≤ size d
at-size n null e is = absurd (cc)
at-size n (boolean b) e is = absurd (cc)
at-size n (number x) e is = absurd (cc)
at-size n (string s) e is = absurd (cc)
at-size n (array ds) e is = omega (arith, item-size n ds e is)
at-size n (object ms) e is = absurd (cc)

-- the entries of an array are no more than the values in it
pub items-size : (ds : Items) → list_size (items_list ds) ≡ items_size ds
items-size no_items = refl
items-size (item d ds) = ap (λ n. size d + n) (items-size ds)

some-size : (d : Data) → 1 ≤ size d
some-size null = omega arith
some-size (boolean b) = omega arith
some-size (number n) = omega arith
some-size (string s) = omega arith
some-size (array ds) = omega arith
some-size (object ms) = omega arith

pub list-count : (ds : List Data) → length ds ≤ list_size ds
list-count [] = omega arith
list-count (d ∷ ds) = omega (arith, some-size d, list-count ds)

pub entries-size : (d : Data) (ds : List Data) → entries_of d ≡ Some ds → list_size ds ≤ size d
entries-size null ds is = absurd (cc)
entries-size (boolean b) ds is = absurd (cc)
entries-size (number n) ds is = absurd (cc)
entries-size (string s) ds is = absurd (cc)
entries-size (array es) ds is = let same : items_list es ≡ ds = cc in omega (arith, ap list_size same, items-size es)
entries-size (object ms) ds is = absurd (cc)

pub entries_at-size : (k : List ℕ) (d : Data) (ds : List Data) → entries_at k d ≡ Some ds → list_size ds ≤ size d
entries_at-size k d ds is = by (get k d) refl is
  where
    by : (o : Option Data) → get k d ≡ o → option_and_then entries_of o ≡ Some ds → list_size ds ≤ size d
    by None e h = absurd (cc)
    by (Some x) e h = omega (arith, entries-size x ds h, get-size k d x e)

-- an entry is no larger than the list that it stands in
pub entry-size : (ds : List Data) (i : ℕ) (d : Data) → i < length ds → size (get_or ds i d) ≤ list_size ds
entry-size [] i d less = absurd (omega arith)
entry-size (e ∷ ds) zero d less = omega arith
entry-size (e ∷ ds) (suc i) d less = omega (arith, entry-size ds i d (omega arith))
