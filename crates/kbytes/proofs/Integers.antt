-- Integers in big-endian two's complement, from bytes and back, over the width.
use Rattle.std.proofs.Common.{◌≡◌, ℕ, ◌+◌, ◌^◌, ◌<◌, ◌≤◌, false, ltb, ℤ, List, [], ◌∷◌, ◌++◌, length, take, drop, Ok, Err, refl, sym, ap, ◌∙◌, arith, inl, inr}
use Rattle.std.specs.Int.{Width, w8, w16, w32, w64, byte_len, from_be_bytes, to_be_bytes, cast_signed, cast_unsigned}
use mir.Val.{bits}
use Rattle.std.proofs.lemmas.Int.{of_z-to_z}
use Rattle.std.proofs.lemmas.Nat.{be_bytes_2, be_bytes_4, be_bytes_8, from_be_bytes-to_be_bytes_2, from_be_bytes-to_be_bytes_4, from_be_bytes-to_be_bytes_8}
use Rattle.std.proofs.lemmas.Bool.{cases_lt, lt-ltb, le-ltb}
use Rattle.std.proofs.lemmas.Int.{to_z-of_z}
use Rattle.std.proofs.lemmas.List.{length-take, length-append, take_at, drop_at, drop-drop, take-append-drop}
use Rattle.std.proofs.Math.Facts.{Fits-of_z}
use borrow.Author.Gap.{read_sfits}
use Rattle.kbytes.specs.declared.fault.ByteFault.TheVariants.{Short}
use Rattle.kbytes.specs.Fronts.{Leads}
use Rattle.kbytes.specs.Reading.{Spells, integer_at, unsigned_at}
use Rattle.kbytes.proofs.Octets.{IsBytes-take}
use Rattle.kbytes.specs.Octets.{IsBytes}
use Rattle.kbytes.specs.Cursor.{Cursor, rest_of, moved}
use Rattle.kbytes.specs.Field.{Field, field, integer}

-- what is known of each width in use
pub record IsWide (w : Width) : Type 0 where
  pub len : (n : ℕ) → length (to_be_bytes w n) ≡ byte_len w
  pub back : (bytes : List ℕ) → length bytes ≡ byte_len w → IsBytes bytes → to_be_bytes w (from_be_bytes w bytes) ≡ bytes
  pub again : (n : ℕ) → n < 2 ^ bits w → from_be_bytes w (to_be_bytes w n) ≡ n
  pub below : (bytes : List ℕ) → IsBytes bytes → from_be_bytes w bytes < 2 ^ bits w

back_8 : (bytes : List ℕ) → length bytes ≡ 1 → IsBytes bytes → to_be_bytes w8 (from_be_bytes w8 bytes) ≡ bytes
back_8 [] len fits = absurd (omega (arith, len))
back_8 (b ∷ []) len fits = let lt : b < 256 = fits 0 in ap (λ (n : ℕ). n ∷ []) (omega arith)
back_8 (b ∷ c ∷ bs) len fits = absurd (omega (arith, len))

pub wide_8 : IsWide w8
wide_8 = record {
  len = λ n. refl;
  back = back_8;
  again = λ n lt. omega (arith, lt);
  below = λ bytes fits. omega (arith, fits 0);
}

pub wide_16 : IsWide w16
wide_16 = record {
  len = λ n. refl;
  back = λ bytes len fits. be_bytes_2 bytes _ len fits refl;
  again = λ n lt. from_be_bytes-to_be_bytes_2 n lt;
  below = λ bytes fits. omega (arith, fits 0, fits 1);
}

pub wide_32 : IsWide w32
wide_32 = record {
  len = λ n. refl;
  back = λ bytes len fits. be_bytes_4 bytes _ len fits refl;
  again = λ n lt. from_be_bytes-to_be_bytes_4 n lt;
  below = λ bytes fits. omega (arith, fits 0, fits 1, fits 2, fits 3);
}

pub wide_64 : IsWide w64
wide_64 = record {
  len = λ n. refl;
  back = λ bytes len fits. be_bytes_8 bytes _ len fits refl;
  again = λ n lt. from_be_bytes-to_be_bytes_8 n lt;
  below = λ bytes fits. omega (arith, fits 0, fits 1, fits 2, fits 3, fits 4, fits 5, fits 6, fits 7);
}

-- the integer that bytes stand for is spelled by them
pub integer_back : (w : Width) → IsWide w → (part : List ℕ) → length part ≡ byte_len w → IsBytes part → integer w (cast_signed w (from_be_bytes w part)) ≡ part
integer_back w wide part len fits = rw (of_z-to_z w (from_be_bytes w part) (wide.below part fits)) (wide.back part len fits)

-- the first bytes are the spelling of the integer that they stand for
pub integer_stands : (w : Width) → IsWide w → (c : Cursor) (part : List ℕ) (z : ℤ) → byte_len w ≤ length (rest_of c) → part ≡ take (byte_len w) (rest_of c) → IsBytes part → z ≡ cast_signed w (from_be_bytes w part) → integer w z ≡ take (byte_len w) (rest_of c)
integer_stands w wide c part z le part-is fits z-is =
    let len : length part ≡ byte_len w = rw part-is (omega (arith, length-take (byte_len w) (rest_of c))) in
    ap (integer w) z-is ∙ integer_back w wide part len fits ∙ part-is

pub unsigned_stands : (w : Width) → IsWide w → (c : Cursor) (part : List ℕ) (n : ℕ) → byte_len w ≤ length (rest_of c) → part ≡ take (byte_len w) (rest_of c) → IsBytes part → n ≡ from_be_bytes w part → to_be_bytes w n ≡ take (byte_len w) (rest_of c)
unsigned_stands w wide c part n le part-is fits n-is =
    let len : length part ≡ byte_len w = rw part-is (omega (arith, length-take (byte_len w) (rest_of c))) in
    ap (to_be_bytes w) n-is ∙ wide.back part len fits ∙ part-is

-- ---- an integer at the front

-- an integer that stands at the front is read
pub integer_again : (w : Width) → IsWide w → (c : Cursor) (z : ℤ) (after : List ℕ) → Leads w z (rest_of c) after → (integer_at w c ≡ Ok (z, moved c (byte_len w))) × (rest_of (moved c (byte_len w)) ≡ after)
integer_again w wide c z after leads =
    let n = cast_unsigned w z in
    let small : n < 2 ^ bits w = (Fits-of_z leads.fits).fits in
    let len : length (integer w z) ≡ byte_len w = wide.len n in
    let all : length (rest_of c) ≡ byte_len w + length after = ap length leads.parts ∙ length-append (integer w z) after ∙ ap (λ (k : ℕ). k + length after) len in
    let enough : ltb (length (rest_of c)) (byte_len w) ≡ false = le-ltb (length (rest_of c)) (byte_len w) (omega (arith, all)) in
    let front : take (byte_len w) (rest_of c) ≡ integer w z = ap (take (byte_len w)) leads.parts ∙ take_at (integer w z) after (byte_len w) len in
    let back : drop (byte_len w) (rest_of c) ≡ after = ap (drop (byte_len w)) leads.parts ∙ drop_at (integer w z) after (byte_len w) len in
    (rw (enough, front, wide.again n small, to_z-of_z w z leads.fits) refl, sym (drop-drop (byte_len w) c.at c.bytes) ∙ back)

-- what stands at the front
pub data Front (w : Width) (c : Cursor) : Type 0 where
  cut : length (rest_of c) < byte_len w → integer_at w c ≡ Err (Short c.at) → Front w c
  whole : (z : ℤ) → Leads w z (rest_of c) (rest_of (moved c (byte_len w))) → integer_at w c ≡ Ok (z, moved c (byte_len w)) → Front w c

pub front_of : (w : Width) → IsWide w → (c : Cursor) → IsBytes (rest_of c) → Front w c
front_of w wide c fits =
    elim (cases_lt (length (rest_of c)) (byte_len w)) [
      | inl lt ↦ cut lt (rw (lt-ltb (length (rest_of c)) (byte_len w) lt) refl)
      | inr le ↦
          let part = take (byte_len w) (rest_of c) in
          let z = cast_signed w (from_be_bytes w part) in
          let text = integer_stands w wide c part z le refl (IsBytes-take (byte_len w) (rest_of c) fits) refl in
          let parts : rest_of c ≡ integer w z ++ rest_of (moved c (byte_len w)) =
          sym (take-append-drop (byte_len w) (rest_of c)) ∙ ap (λ (t : List ℕ). t ++ drop (byte_len w) (rest_of c)) (sym text) ∙ ap (λ (t : List ℕ). integer w z ++ t) (drop-drop (byte_len w) c.at c.bytes) in
          whole z (record { fits = read_sfits w (from_be_bytes w part); parts = parts }) (rw (le-ltb (length (rest_of c)) (byte_len w) le) refl)
    ]

-- the field of an integer alone
pub Leads-spells : (w : Width) → IsWide w → (c : Cursor) (z : ℤ) (f : Field) → field f ≡ integer w z → Leads w z (rest_of c) (rest_of (moved c (byte_len w))) → Spells c (moved c (byte_len w)) f
Leads-spells w wide c z f text leads =
    let len : length (field f) ≡ byte_len w = ap length text ∙ wide.len (cast_unsigned w z) in
    record {
      bytes = refl;
      at = ap (λ (n : ℕ). c.at + n) (sym len);
      parts = leads.parts ∙ ap (λ (t : List ℕ). t ++ rest_of (moved c (byte_len w))) (sym text);
    }

pub unsigned_again : (w : Width) → IsWide w → (c : Cursor) (n : ℕ) (after : List ℕ) → n < 2 ^ bits w → rest_of c ≡ to_be_bytes w n ++ after → unsigned_at w c ≡ Ok (n, moved c (byte_len w))
unsigned_again w wide c n after small parts =
    let len : length (to_be_bytes w n) ≡ byte_len w = wide.len n in
    let all : length (rest_of c) ≡ byte_len w + length after = ap length parts ∙ length-append (to_be_bytes w n) after ∙ ap (λ (k : ℕ). k + length after) len in
    let enough : ltb (length (rest_of c)) (byte_len w) ≡ false = le-ltb (length (rest_of c)) (byte_len w) (omega (arith, all)) in
    let front : take (byte_len w) (rest_of c) ≡ to_be_bytes w n = ap (take (byte_len w)) parts ∙ take_at (to_be_bytes w n) after (byte_len w) len in
    rw (enough, front, wide.again n small) refl
