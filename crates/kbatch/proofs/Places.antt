-- The header's fields and its numbers by place are the same.
use Rattle.std.proofs.Common.{◌≡◌, ℕ, ◌+◌, ◌^◌, ◌<◌, ◌≤◌, ℤ, List, ◌++◌, length, take, drop, refl, sym, ap, ◌∙◌, arith}
use Rattle.std.specs.Prelude.{FitsSigned}
use Rattle.std.specs.Int.{Width, w8, w16, w32, w64, byte_len, from_be_bytes, to_be_bytes, cast_signed, cast_unsigned}
use mir.Val.{bits}
use Rattle.std.proofs.Math.Facts.{Fits-of_z, sfits_to_z}
use Rattle.std.proofs.lemmas.Int.{to_z-of_z, of_z-to_z}
use Rattle.std.proofs.lemmas.List.{length-take, length-drop, take-append-drop, drop-drop}
use Rattle.kbytes.specs.Octets.{IsBytes}
use Rattle.kbytes.specs.Field.{integer}
use Rattle.kbytes.proofs.Laws.{IsBytes-drop, IsBytes-take, IsWide, wide_8, wide_16, wide_32, wide_64, integer_back}
use Rattle.kbatch.specs.Head.{Head, IsHead, head_bytes}
use Rattle.kbatch.specs.Kept.{kept_number, kept_integer, kept_length, kept_magic, kept_crc, kept_attributes, kept_last, kept_count, count_of}

of_z_below : (w : Width) (z : ℤ) → FitsSigned w z → cast_unsigned w z < 2 ^ bits w
of_z_below w z is = let b = Fits-of_z is in b.fits

integer_again : (w : Width) → IsWide w → (z : ℤ) → FitsSigned w z → cast_signed w (from_be_bytes w (integer w z)) ≡ z
integer_again w wide z is = rw (wide.again (cast_unsigned w z) (of_z_below w z is)) (to_z-of_z w z is)

-- ---- of a header that is spelled, each number stands at its place

pub length_stands : (h : Head) (rest : List ℕ) → IsHead h → kept_length (head_bytes h ++ rest) ≡ h.batch_length
unfolding head_bytes kept_length
length_stands h rest is = integer_again w32 wide_32 h.batch_length is.batch_length

pub magic_stands : (h : Head) (rest : List ℕ) → IsHead h → kept_magic (head_bytes h ++ rest) ≡ h.magic
unfolding head_bytes kept_magic
magic_stands h rest is = integer_again w8 wide_8 h.magic is.magic

pub crc_stands : (h : Head) (rest : List ℕ) → IsHead h → kept_crc (head_bytes h ++ rest) ≡ h.crc
unfolding head_bytes kept_crc
crc_stands h rest is = wide_32.again h.crc is.crc

pub attributes_stand : (h : Head) (rest : List ℕ) → IsHead h → kept_attributes (head_bytes h ++ rest) ≡ cast_unsigned w16 h.attributes
unfolding head_bytes kept_attributes
attributes_stand h rest is = wide_16.again (cast_unsigned w16 h.attributes) (of_z_below w16 h.attributes is.attributes)

pub last_stands : (h : Head) (rest : List ℕ) → IsHead h → kept_last (head_bytes h ++ rest) ≡ h.last_offset_delta
unfolding head_bytes kept_last
last_stands h rest is = integer_again w32 wide_32 h.last_offset_delta is.last_offset_delta

pub count_stands : (h : Head) (rest : List ℕ) → IsHead h → kept_count (head_bytes h ++ rest) ≡ h.count
unfolding head_bytes kept_count
count_stands h rest is = integer_again w32 wide_32 h.count is.count

pub number_stands : (h : Head) (rest : List ℕ) → IsHead h → count_of (head_bytes h ++ rest) ≡ cast_unsigned w32 h.count
unfolding head_bytes count_of
number_stands h rest is = wide_32.again (cast_unsigned w32 h.count) (of_z_below w32 h.count is.count)

pub rest_stands : (h : Head) (rest : List ℕ) → drop 61 (head_bytes h ++ rest) ≡ rest
unfolding head_bytes
rest_stands h rest = refl

pub head_len : (h : Head) (rest : List ℕ) → length (head_bytes h ++ rest) ≡ 61 + length rest
unfolding head_bytes
head_len h rest = omega arith

-- ---- the numbers at their places are a header that is spelled so

unfoldable pub head_of : List ℕ → Head
head_of bytes = record {
  base_offset = kept_integer w64 0 bytes;
  batch_length = kept_integer w32 8 bytes;
  leader_epoch = kept_integer w32 12 bytes;
  magic = kept_integer w8 16 bytes;
  crc = kept_number w32 17 bytes;
  attributes = kept_integer w16 21 bytes;
  last_offset_delta = kept_integer w32 23 bytes;
  base_timestamp = kept_integer w64 27 bytes;
  max_timestamp = kept_integer w64 35 bytes;
  producer_id = kept_integer w64 43 bytes;
  producer_epoch = kept_integer w16 51 bytes;
  base_sequence = kept_integer w32 53 bytes;
  count = kept_integer w32 57 bytes;
}

part_len : (bytes : List ℕ) (p n : ℕ) → p + n ≤ length bytes → length (take n (drop p bytes)) ≡ n
part_len bytes p n le = omega (arith, length-take n (drop p bytes), length-drop p bytes)

part_fits : (bytes : List ℕ) (p n : ℕ) → IsBytes bytes → IsBytes (take n (drop p bytes))
part_fits bytes p n fits = IsBytes-take n (drop p bytes) (IsBytes-drop p bytes fits)

parts : (bytes : List ℕ) (p n : ℕ) → drop p bytes ≡ take n (drop p bytes) ++ drop (p + n) bytes
parts bytes p n = sym (take-append-drop n (drop p bytes)) ∙ ap (λ (xs : List ℕ). take n (drop p bytes) ++ xs) (drop-drop n p bytes)

-- a signed integer at a place, and what stands after it
pub signed_piece : (w : Width) → IsWide w → (bytes : List ℕ) (p : ℕ) (rest : List ℕ) → IsBytes bytes → p + byte_len w ≤ length bytes → drop (p + byte_len w) bytes ≡ rest → drop p bytes ≡ integer w (kept_integer w p bytes) ++ rest
signed_piece w wide bytes p rest fits le e =
    rw (integer_back w wide (take (byte_len w) (drop p bytes)) (part_len bytes p (byte_len w) le) (part_fits bytes p (byte_len w) fits)) (parts bytes p (byte_len w) ∙ ap (λ (xs : List ℕ). take (byte_len w) (drop p bytes) ++ xs) e)

unsigned_piece : (w : Width) → IsWide w → (bytes : List ℕ) (p : ℕ) (rest : List ℕ) → IsBytes bytes → p + byte_len w ≤ length bytes → drop (p + byte_len w) bytes ≡ rest → drop p bytes ≡ to_be_bytes w (kept_number w p bytes) ++ rest
unsigned_piece w wide bytes p rest fits le e =
    rw (wide.back (take (byte_len w) (drop p bytes)) (part_len bytes p (byte_len w) le) (part_fits bytes p (byte_len w) fits)) (parts bytes p (byte_len w) ∙ ap (λ (xs : List ℕ). take (byte_len w) (drop p bytes) ++ xs) e)

pub head_stands : (bytes : List ℕ) → IsBytes bytes → 61 ≤ length bytes → bytes ≡ head_bytes (head_of bytes) ++ drop 61 bytes
unfolding head_bytes head_of
head_stands bytes fits le =
    let p57 = signed_piece w32 wide_32 bytes 57 (drop 61 bytes) fits (omega arith) refl in
    let p53 = signed_piece w32 wide_32 bytes 53 _ fits (omega arith) p57 in
    let p51 = signed_piece w16 wide_16 bytes 51 _ fits (omega arith) p53 in
    let p43 = signed_piece w64 wide_64 bytes 43 _ fits (omega arith) p51 in
    let p35 = signed_piece w64 wide_64 bytes 35 _ fits (omega arith) p43 in
    let p27 = signed_piece w64 wide_64 bytes 27 _ fits (omega arith) p35 in
    let p23 = signed_piece w32 wide_32 bytes 23 _ fits (omega arith) p27 in
    let p21 = signed_piece w16 wide_16 bytes 21 _ fits (omega arith) p23 in
    let p17 = unsigned_piece w32 wide_32 bytes 17 _ fits (omega arith) p21 in
    let p16 = signed_piece w8 wide_8 bytes 16 _ fits (omega arith) p17 in
    let p12 = signed_piece w32 wide_32 bytes 12 _ fits (omega arith) p16 in
    let p8 = signed_piece w32 wide_32 bytes 8 _ fits (omega arith) p12 in
    signed_piece w64 wide_64 bytes 0 _ fits (omega arith) p8

pub fits_at : (w : Width) → IsWide w → (bytes : List ℕ) (p : ℕ) → IsBytes bytes → FitsSigned w (kept_integer w p bytes)
fits_at w wide bytes p fits = sfits_to_z (record { fits = wide.below (take (byte_len w) (drop p bytes)) (part_fits bytes p (byte_len w) fits) })

pub head_fits : (bytes : List ℕ) → IsBytes bytes → IsHead (head_of bytes)
unfolding head_of
head_fits bytes fits = record {
  base_offset = fits_at w64 wide_64 bytes 0 fits;
  batch_length = fits_at w32 wide_32 bytes 8 fits;
  leader_epoch = fits_at w32 wide_32 bytes 12 fits;
  magic = fits_at w8 wide_8 bytes 16 fits;
  crc = wide_32.below (take 4 (drop 17 bytes)) (part_fits bytes 17 4 fits);
  attributes = fits_at w16 wide_16 bytes 21 fits;
  last_offset_delta = fits_at w32 wide_32 bytes 23 fits;
  base_timestamp = fits_at w64 wide_64 bytes 27 fits;
  max_timestamp = fits_at w64 wide_64 bytes 35 fits;
  producer_id = fits_at w64 wide_64 bytes 43 fits;
  producer_epoch = fits_at w16 wide_16 bytes 51 fits;
  base_sequence = fits_at w32 wide_32 bytes 53 fits;
  count = fits_at w32 wide_32 bytes 57 fits;
}

pub attributes_are : (bytes : List ℕ) → IsBytes bytes → cast_unsigned w16 (kept_integer w16 21 bytes) ≡ kept_attributes bytes
unfolding kept_attributes
attributes_are bytes fits = of_z-to_z w16 (kept_number w16 21 bytes) (wide_16.below (take 2 (drop 21 bytes)) (part_fits bytes 21 2 fits))
