-- What is written is read again, whatever follows it.
use Rattle.std.proofs.Common.{◌≡◌, ℕ, ◌+◌, ◌^◌, ◌<◌, ℤ, pos, negsuc, false, ltb, List, ◌++◌, length, take, Some, None, Ok, refl, ap, ◌∙◌, append_assoc, arith, lit<}
use Rattle.std.specs.Prelude.{FitsSigned, IfSome}
use Rattle.std.specs.Int.{Width, w16, w32, w64, byte_len}
use mir.Val.{hbits}
use Rattle.std.proofs.lemmas.Bool.{le-ltb}
use Rattle.std.proofs.lemmas.List.{length-append, take_at}
use Rattle.kbytes.specs.Cursor.{Cursor, rest_of, moved}
use Rattle.kbytes.specs.Field.{String, NullableString, Records, Array, Varint, Varlong, integer, sized}
use Rattle.kbytes.specs.Reading.{integer_at, sized_at, string_at, array_at, varint_at, varlong_at}
use Rattle.kbytes.specs.Again.{ReadsAgain}
use Rattle.kbytes.proofs.Integers.{IsWide, wide_16, wide_32, integer_again}
use Rattle.kbytes.proofs.Grouped.{varint_kind, varlong_kind, grouped_again}
use Rattle.kbytes.proofs.Sized.{null_again, string_from}

pub integer_reads : (w : Width) → IsWide w → (z : ℤ) (c : Cursor) (rest : List ℕ) → FitsSigned w z → rest_of c ≡ integer w z ++ rest → integer_at w c ≡ Ok (z, moved c (byte_len w))
integer_reads w wide z c rest fits is = (integer_again w wide c z rest (record { fits = fits; parts = is })).0

pub some_reads : (w : Width) → IsWide w → (bytes : List ℕ) (c : Cursor) (rest : List ℕ) → length bytes < 2 ^ hbits w → rest_of c ≡ sized w (Some bytes) ++ rest → sized_at w c ≡ Ok (Some bytes, moved c (length (sized w (Some bytes))))
unfolding sized_at
some_reads w wide bytes c rest fits is =
    let n = length bytes in
    let head = integer w (pos n) in
    let again = integer_again w wide c (pos n) (bytes ++ rest) (record { fits = record { sfits = fits }; parts = is ∙ append_assoc head bytes rest }) in
    let d = moved c (byte_len w) in
    let enough : ltb (length (rest_of d)) n ≡ false = le-ltb (length (rest_of d)) n (omega (arith, ap length again.1, length-append bytes rest)) in
    let part : take n (rest_of d) ≡ bytes = ap (take n) again.1 ∙ take_at bytes rest n refl in
    let len : c.at + byte_len w + n ≡ c.at + length (head ++ bytes) = omega (arith, length-append head bytes, wide.len n) in
    let behind : moved d n ≡ moved c (length (head ++ bytes)) = ap (λ (k : ℕ). record { bytes = c.bytes; at = k }) len in
    rw again.0 (rw (enough, part, behind) refl)

pub none_reads : (w : Width) → IsWide w → (c : Cursor) (rest : List ℕ) → FitsSigned w (negsuc 0) → rest_of c ≡ sized w None ++ rest → sized_at w c ≡ Ok (None, moved c (byte_len w))
none_reads w wide c rest fits is = null_again w wide c (rest, record { fits = fits; parts = is })

pub string_reads : ReadsAgain string_at String (λ bytes. length bytes < 2 ^ 15)
string_reads bytes c rest fits is = string_from c _ (some_reads w16 wide_16 bytes c rest fits is)

pub nullable_string_reads : ReadsAgain (sized_at w16) NullableString (λ value. IfSome value (λ bytes. length bytes < 2 ^ 15))
nullable_string_reads None c rest fits is = none_reads w16 wide_16 c rest (record { sfits = lit< tt }) is
nullable_string_reads (Some bytes) c rest fits is = some_reads w16 wide_16 bytes c rest fits is

pub records_reads : ReadsAgain (sized_at w32) Records (λ value. IfSome value (λ bytes. length bytes < 2 ^ 31))
records_reads None c rest fits is = none_reads w32 wide_32 c rest (record { sfits = lit< tt }) is
records_reads (Some bytes) c rest fits is = some_reads w32 wide_32 bytes c rest fits is

pub array_reads : ReadsAgain array_at Array (λ value. IfSome value (λ count. count < 2 ^ 31))
unfolding array_at
array_reads None c rest fits is = rw (integer_reads w32 wide_32 (negsuc 0) c rest (record { sfits = lit< tt }) is) refl
array_reads (Some n) c rest fits is = rw (integer_reads w32 wide_32 (pos n) c rest (record { sfits = fits }) is) refl

pub varint_reads : ReadsAgain varint_at Varint (FitsSigned w32)
unfolding varint_at
varint_reads z c rest fits is = grouped_again 4 (2 ^ 32) z c rest varint_kind.room (varint_kind.below z fits) is

pub varlong_reads : ReadsAgain varlong_at Varlong (FitsSigned w64)
unfolding varlong_at
varlong_reads z c rest fits is = grouped_again 9 (2 ^ 64) z c rest varlong_kind.room (varlong_kind.below z fits) is
