-- The bytes of a name are a text.
use Rattle.std.proofs.Common.{arith, ℕ, ◌≡◌, ◌<◌, ◌≤◌, ◌&&◌, ◌==◌, not, Bool, true, false, List, [], ◌∷◌, length, get_or, nat_le, zero, suc}
use Rattle.std.specs.List.{list_all}
use Rattle.std.specs.Str.{IsUtf8, IsAscii}
use Rattle.std.proofs.lemmas.Bool.{and_parts, leb-true}
use Rattle.std.proofs.lemmas.Str.{IsUtf8-from_ascii}
use Rattle.ras_table.specs.Names.{is_name, is_name_byte}

byte-ascii : (b : ℕ) → is_name_byte b ≡ true → b < 128
byte-ascii b h =
    let p = and_parts (nat_le 0x21 b && nat_le b 0x7E && not (b == 34)) (not (b == 44)) h in
    let q = and_parts (nat_le 0x21 b && nat_le b 0x7E) (not (b == 34)) p.0 in
    let r = and_parts (nat_le 0x21 b) (nat_le b 0x7E) q.0 in
    let most : b ≤ 126 = leb-true b 126 r.1 in
    omega (arith, most)

bytes-ascii : (bs : List ℕ) → list_all is_name_byte bs ≡ true → IsAscii bs
bytes-ascii [] h i = omega arith
bytes-ascii (b ∷ bs) h zero = byte-ascii b (and_parts (is_name_byte b) (list_all is_name_byte bs) h).0
bytes-ascii (b ∷ bs) h (suc i) = bytes-ascii bs (and_parts (is_name_byte b) (list_all is_name_byte bs) h).1 i

pub name-utf8 : (bs : List ℕ) → is_name bs ≡ true → IsUtf8 bs
name-utf8 bs h = IsUtf8-from_ascii bs (bytes-ascii bs (and_parts (nat_le 1 (length bs) && nat_le (length bs) 64) (list_all is_name_byte bs) h).1)
