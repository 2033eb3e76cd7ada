-- Each field of a request alone: read again, in its range, and spelled so.
use Rattle.std.proofs.Common.{◌≡◌, ℕ, zero, suc, ◌<◌, ◌^◌, ltb, ℤ, pos, negsuc, Bool, true, false, cond, List, ◌++◌, length, take, Option, Some, None, Result, Ok, Err, refl, sym, ap, subst, ◌∙◌, arith}
use Rattle.std.specs.Prelude.{FitsSigned, IfSome}
use Rattle.std.specs.Int.{Width, w8, w16, w32, w64, byte_len, from_be_bytes, cast_signed}
use mir.Val.{hbits}
use borrow.Author.Gap.{read_sfits}
use Rattle.std.proofs.lemmas.List.{length-take}
use Rattle.kbytes.specs.declared.fault.ByteFault.{ByteFault}
use Rattle.kbytes.specs.declared.fault.ByteFault.TheVariants.{Short, BadLength}
use Rattle.kbytes.specs.Octets.{IsBytes}
use Rattle.kbytes.specs.Cursor.{Cursor, rest_of, moved}
use Rattle.kbytes.specs.Reading.{◌>>=◌, Spells, integer_at, after_length, sized_at, not_null, string_at, count_from, array_at}
use Rattle.kbytes.specs.Field.{Field, Int8, Int16, Int32, Int64, String, NullableString, Records, Array, field, integer, count_or_null}
use Rattle.kbytes.specs.FitsField.{FitsField}
use Rattle.kbytes.specs.Fronts.{Leads}
use Rattle.kbytes.proofs.Laws.{IsWide, wide_8, wide_16, wide_32, wide_64, cut, whole, front_of, Leads-spells, sized_spells, string_spells, integer_reads, nullable_string_reads, records_reads, string_reads, array_reads}
use Rattle.kwire.specs.Reading.{place_of_fault}

-- a reader of kbytes gives what it spells, and its faults are at the field's place
pub record IsField {X : Type 0} (read : Cursor → Result (X × Cursor) ByteFault) (kind : X → Field) : Type 0 where
  pub again : (x : X) (c : Cursor) (rest : List ℕ) → FitsField (kind x) → rest_of c ≡ field (kind x) ++ rest → read c ≡ Ok (x, moved c (length (field (kind x))))
  pub fits : (x : X) (c d : Cursor) → read c ≡ Ok (x, d) → FitsField (kind x)
  pub spells : (x : X) (c d : Cursor) → IsBytes (rest_of c) → read c ≡ Ok (x, d) → Spells c d (kind x)
  pub place : (c : Cursor) (e : ByteFault) → read c ≡ Err e → place_of_fault e ≡ c.at

-- what a reading gave, so that its type shows
abbrev pub read_as : {A : Type 0} → A → Cursor → Result (A × Cursor) ByteFault
read_as x d = Ok (x, d)

abbrev pub refused : {A : Type 0} → ByteFault → Result (A × Cursor) ByteFault
refused e = Err e

same_read : {A : Type 0} (x y : A) (c d : Cursor) → read_as x c ≡ read_as y d → (x ≡ y) × (c ≡ d)
same_read {A} x y c d e =
    let pair : A → Cursor → A × Cursor = λ a b. (a, b) in
    let pairs : pair x c ≡ pair y d = cc in
    (ap (λ (p : A × Cursor). p.0) pairs, ap (λ (p : A × Cursor). p.1) pairs)

-- ---- integers

integer_by_test : (w : Width) (n : ℕ) (e : ByteFault) (c d : Cursor) (z : ℤ) (b : Bool) → cond b (refused e) (read_as (cast_signed w n) c) ≡ read_as z d → FitsSigned w z
integer_by_test w n e c d z true is = absurd cc
integer_by_test w n e c d z false is = subst (FitsSigned w) (same_read (cast_signed w n) z c d is).0 (read_sfits w n)

same_refused : {A : Type 0} (d e : ByteFault) → refused {A = A} d ≡ refused e → d ≡ e
same_refused d e is = cc

integer_place_by_test : (w : Width) (n : ℕ) (c d : Cursor) (e : ByteFault) (b : Bool) → cond b (refused (Short c.at)) (read_as (cast_signed w n) d) ≡ refused e → place_of_fault e ≡ c.at
integer_place_by_test w n c d e true is = sym (ap place_of_fault (same_refused {A = ℤ} (Short c.at) e is))
integer_place_by_test w n c d e false is = let other : read_as (cast_signed w n) d ≡ refused e = is in absurd cc

integer_place : (w : Width) (c : Cursor) (e : ByteFault) → integer_at w c ≡ Err e → place_of_fault e ≡ c.at
integer_place w c e is =
    integer_place_by_test w (from_be_bytes w (take (byte_len w) (rest_of c))) c (moved c (byte_len w)) e (ltb (length (rest_of c)) (byte_len w)) is

integer_fits : (w : Width) (c d : Cursor) (z : ℤ) → integer_at w c ≡ Ok (z, d) → FitsSigned w z
integer_fits w c d z is =
    integer_by_test w (from_be_bytes w (take (byte_len w) (rest_of c))) (Short c.at) (moved c (byte_len w)) d z (ltb (length (rest_of c)) (byte_len w)) is

integer_leads : (w : Width) → IsWide w → (z : ℤ) (c d : Cursor) → IsBytes (rest_of c) → integer_at w c ≡ Ok (z, d) → (d ≡ moved c (byte_len w)) × Leads w z (rest_of c) (rest_of (moved c (byte_len w)))
integer_leads w wide z c d fits is =
    elim (front_of w wide c fits) [
      | cut lt e ↦ let other : refused (Short c.at) ≡ read_as z d = sym e ∙ is in absurd cc
      | whole y leads e ↦
          let same = same_read y z (moved c (byte_len w)) d (sym e ∙ is) in
          (sym same.1, subst (λ (x : ℤ). Leads w x (rest_of c) (rest_of (moved c (byte_len w)))) same.0 leads)
    ]

integer_spells : (w : Width) → IsWide w → (f : Field) (z : ℤ) (c d : Cursor) → field f ≡ integer w z → IsBytes (rest_of c) → integer_at w c ≡ Ok (z, d) → Spells c d f
integer_spells w wide f z c d text fits is =
    let led = integer_leads w wide z c d fits is in
    subst (λ (e : Cursor). Spells c e f) (sym led.0) (Leads-spells w wide c z f text led.1)

pub int8_field : IsField (integer_at w8) Int8
int8_field = record {
  again = λ z c rest fits is. integer_reads w8 wide_8 z c rest fits is;
  fits = λ z c d is. integer_fits w8 c d z is;
  spells = λ z c d fits is. integer_spells w8 wide_8 (Int8 z) z c d refl fits is;
  place = integer_place w8;
}

pub int16_field : IsField (integer_at w16) Int16
int16_field = record {
  again = λ z c rest fits is. integer_reads w16 wide_16 z c rest fits is;
  fits = λ z c d is. integer_fits w16 c d z is;
  spells = λ z c d fits is. integer_spells w16 wide_16 (Int16 z) z c d refl fits is;
  place = integer_place w16;
}

pub int32_field : IsField (integer_at w32) Int32
int32_field = record {
  again = λ z c rest fits is. integer_reads w32 wide_32 z c rest fits is;
  fits = λ z c d is. integer_fits w32 c d z is;
  spells = λ z c d fits is. integer_spells w32 wide_32 (Int32 z) z c d refl fits is;
  place = integer_place w32;
}

pub int64_field : IsField (integer_at w64) Int64
int64_field = record {
  again = λ z c rest fits is. integer_reads w64 wide_64 z c rest fits is;
  fits = λ z c d is. integer_fits w64 c d z is;
  spells = λ z c d fits is. integer_spells w64 wide_64 (Int64 z) z c d refl fits is;
  place = integer_place w64;
}

-- ---- lengths, and the bytes after them

length_by_test : (w : Width) (c e d : Cursor) (n : ℕ) (value : Option (List ℕ)) (b : Bool) → n < 2 ^ hbits w
    → cond b (refused (Short c.at)) (read_as (Some (take n (rest_of e))) (moved e n)) ≡ read_as value d → IfSome value (λ bytes. length bytes < 2 ^ hbits w)
length_by_test w c e d n value true small is = absurd cc
length_by_test w c e d n value false small is =
    let within : length (take n (rest_of e)) < 2 ^ hbits w = omega (arith, length-take n (rest_of e)) in
    subst (λ (v : Option (List ℕ)). IfSome v (λ bytes. length bytes < 2 ^ hbits w)) (same_read (Some (take n (rest_of e))) value (moved e n) d is).0 within

after_length_fits : (w : Width) (c d : Cursor) (value : Option (List ℕ)) (read : Result (ℤ × Cursor) ByteFault) → ((z : ℤ) (e : Cursor) → read ≡ read_as z e → FitsSigned w z)
    → (read >>= after_length c) ≡ read_as value d → IfSome value (λ bytes. length bytes < 2 ^ hbits w)
after_length_fits w c d value (Err e) fits is = let other : refused e ≡ read_as value d = is in absurd cc
after_length_fits w c d value (Ok (pos n, e)) fits is = length_by_test w c e d n value (ltb (length (rest_of e)) n) (fits (pos n) e refl).sfits is
after_length_fits w c d value (Ok (negsuc zero, e)) fits is = subst (λ (v : Option (List ℕ)). IfSome v (λ bytes. length bytes < 2 ^ hbits w)) (same_read None value e d is).0 tt
after_length_fits w c d value (Ok (negsuc (suc k), e)) fits is = let other : refused (BadLength c.at (negsuc (suc k))) ≡ read_as value d = is in absurd cc

sized_fits : (w : Width) (c d : Cursor) (value : Option (List ℕ)) → sized_at w c ≡ Ok (value, d) → IfSome value (λ bytes. length bytes < 2 ^ hbits w)
unfolding sized_at
sized_fits w c d value is = after_length_fits w c d value (integer_at w c) (λ z e. integer_fits w c e z) is

length_place_by_test : (c d : Cursor) (e : ByteFault) (part : List ℕ) (b : Bool) → cond b (refused (Short c.at)) (read_as (Some part) d) ≡ refused e → place_of_fault e ≡ c.at
length_place_by_test c d e part true is = sym (ap place_of_fault (same_refused {A = Option (List ℕ)} (Short c.at) e is))
length_place_by_test c d e part false is = let other : read_as (Some part) d ≡ refused e = is in absurd cc

after_length_place : (c : Cursor) (e : ByteFault) (read : Result (ℤ × Cursor) ByteFault) → ((f : ByteFault) → read ≡ refused f → place_of_fault f ≡ c.at) → (read >>= after_length c) ≡ refused e → place_of_fault e ≡ c.at
after_length_place c e (Err f) at is = sym (ap place_of_fault (same_refused {A = Option (List ℕ)} f e is)) ∙ at f refl
after_length_place c e (Ok (pos n, d)) at is = length_place_by_test c (moved d n) e (take n (rest_of d)) (ltb (length (rest_of d)) n) is
after_length_place c e (Ok (negsuc zero, d)) at is = let other : read_as {A = Option (List ℕ)} None d ≡ refused e = is in absurd cc
after_length_place c e (Ok (negsuc (suc k), d)) at is = sym (ap place_of_fault (same_refused {A = Option (List ℕ)} (BadLength c.at (negsuc (suc k))) e is))

sized_place : (w : Width) (c : Cursor) (e : ByteFault) → sized_at w c ≡ Err e → place_of_fault e ≡ c.at
unfolding sized_at
sized_place w c e is = after_length_place c e (integer_at w c) (integer_place w c) is

pub nullable_string_field : IsField (sized_at w16) NullableString
nullable_string_field = record {
  again = λ x c rest fits is. nullable_string_reads x c rest fits is;
  fits = λ x c d is. sized_fits w16 c d x is;
  spells = λ x c d fits is. sized_spells w16 wide_16 c d x (NullableString x) refl fits is;
  place = sized_place w16;
}

pub records_field : IsField (sized_at w32) Records
records_field = record {
  again = λ x c rest fits is. records_reads x c rest fits is;
  fits = λ x c d is. sized_fits w32 c d x is;
  spells = λ x c d fits is. sized_spells w32 wide_32 c d x (Records x) refl fits is;
  place = sized_place w32;
}

string_is : (c d : Cursor) (part : List ℕ) (read : Result (Option (List ℕ) × Cursor) ByteFault) → (read >>= not_null c) ≡ read_as part d → read ≡ read_as (Some part) d
string_is c d part (Err e) is = let other : refused e ≡ read_as part d = is in absurd cc
string_is c d part (Ok (None, e)) is = let other : refused (BadLength c.at (negsuc 0)) ≡ read_as part d = is in absurd cc
string_is c d part (Ok (Some p, e)) is =
    let same = same_read p part e d is in
    subst (λ (x : Cursor). read_as (Some p) e ≡ read_as (Some part) x) same.1 (ap (λ (q : List ℕ). read_as (Some q) e) same.0)

string_fits : (c d : Cursor) (part : List ℕ) → string_at c ≡ Ok (part, d) → length part < 2 ^ 15
unfolding string_at
string_fits c d part is = sized_fits w16 c d (Some part) (string_is c d part (sized_at w16 c) is)

not_null_place : (c : Cursor) (e : ByteFault) (read : Result (Option (List ℕ) × Cursor) ByteFault) → ((f : ByteFault) → read ≡ refused f → place_of_fault f ≡ c.at) → (read >>= not_null c) ≡ refused e → place_of_fault e ≡ c.at
not_null_place c e (Err f) at is = sym (ap place_of_fault (same_refused {A = List ℕ} f e is)) ∙ at f refl
not_null_place c e (Ok (None, d)) at is = sym (ap place_of_fault (same_refused {A = List ℕ} (BadLength c.at (negsuc 0)) e is))
not_null_place c e (Ok (Some part, d)) at is = let other : read_as part d ≡ refused e = is in absurd cc

string_place : (c : Cursor) (e : ByteFault) → string_at c ≡ Err e → place_of_fault e ≡ c.at
unfolding string_at
string_place c e is = not_null_place c e (sized_at w16 c) (sized_place w16 c) is

pub string_field : IsField string_at String
string_field = record {
  again = λ x c rest fits is. string_reads x c rest fits is;
  fits = λ x c d is. string_fits c d x is;
  spells = λ x c d fits is. string_spells c d x fits is;
  place = string_place;
}

-- ---- counts

-- the integer that was read for a count
count_read : (c d : Cursor) (count : Option ℕ) (read : Result (ℤ × Cursor) ByteFault) → (read >>= count_from c) ≡ read_as count d → read ≡ read_as (count_or_null count) d
count_read c d count (Err e) is = let other : refused e ≡ read_as count d = is in absurd cc
count_read c d count (Ok (pos n, e)) is = let same = same_read (Some n) count e d is in ap (λ (v : Option ℕ). read_as (count_or_null v) e) same.0 ∙ ap (read_as (count_or_null count)) same.1
count_read c d count (Ok (negsuc zero, e)) is = let same = same_read None count e d is in ap (λ (v : Option ℕ). read_as (count_or_null v) e) same.0 ∙ ap (read_as (count_or_null count)) same.1
count_read c d count (Ok (negsuc (suc k), e)) is = let other : refused (BadLength c.at (negsuc (suc k))) ≡ read_as count d = is in absurd cc

count_fits : (count : Option ℕ) → FitsSigned w32 (count_or_null count) → IfSome count (λ n. n < 2 ^ 31)
count_fits None fits = tt
count_fits (Some n) fits = fits.sfits

array_is : (c d : Cursor) (count : Option ℕ) → array_at c ≡ Ok (count, d) → integer_at w32 c ≡ Ok (count_or_null count, d)
unfolding array_at
array_is c d count is = count_read c d count (integer_at w32 c) is

count_place : (c : Cursor) (e : ByteFault) (read : Result (ℤ × Cursor) ByteFault) → ((f : ByteFault) → read ≡ refused f → place_of_fault f ≡ c.at) → (read >>= count_from c) ≡ refused e → place_of_fault e ≡ c.at
count_place c e (Err f) at is = sym (ap place_of_fault (same_refused {A = Option ℕ} f e is)) ∙ at f refl
count_place c e (Ok (pos n, d)) at is = let other : read_as (Some n) d ≡ refused e = is in absurd cc
count_place c e (Ok (negsuc zero, d)) at is = let other : read_as {A = Option ℕ} None d ≡ refused e = is in absurd cc
count_place c e (Ok (negsuc (suc k), d)) at is = sym (ap place_of_fault (same_refused {A = Option ℕ} (BadLength c.at (negsuc (suc k))) e is))

array_place : (c : Cursor) (e : ByteFault) → array_at c ≡ Err e → place_of_fault e ≡ c.at
unfolding array_at
array_place c e is = count_place c e (integer_at w32 c) (integer_place w32 c) is

pub array_field : IsField array_at Array
array_field = record {
  again = λ x c rest fits is. array_reads x c rest fits is;
  fits = λ x c d is. count_fits x (integer_fits w32 c d (count_or_null x) (array_is c d x is));
  spells = λ x c d fits is. integer_spells w32 wide_32 (Array x) (count_or_null x) c d refl fits (array_is c d x is);
  place = array_place;
}
