-- A field of each kind: what reading gives is such a field, its fault says that none stands there, and a field that stands there
-- is read.
use Rattle.std.proofs.Common.{◌≡◌, ℕ, Bool, true, false, cond, ℤ, List, ◌++◌, length, Option, Some, None, Result, Ok, Err, refl, sym, ap, subst, ◌∙◌}
use Rattle.std.specs.List.{list_any}
use Rattle.std.specs.Ordering.{int_eq}
use Rattle.std.specs.Int.{w8, w16, w32, w64}
use Rattle.std.proofs.lemmas.Bool.Decides.{Decides-int_eq}
use Rattle.std.proofs.lemmas.Cmp.{int_eq_equiv}
use Rattle.std.proofs.lemmas.Map.Views.{list_any-from_Contains, Contains-from_any}
use Rattle.std.proofs.lemmas.List.{append_cancel_left}
use Rattle.kbytes.specs.declared.fault.ByteFault.{ByteFault}
use Rattle.kbytes.specs.Octets.{IsBytes}
use Rattle.kbytes.specs.Cursor.{Cursor, rest_of, moved}
use Rattle.kbytes.specs.Reading.{Spells, integer_at, sized_at, string_at, array_at}
use Rattle.kbytes.specs.Field.{Field, Int8, Int16, Int32, Int64, String, NullableString, Records, Array, field}
use Rattle.kbytes.specs.FitsField.{FitsField}
use Rattle.kwire.specs.declared.frame.WireFault.{WireFault}
use Rattle.kwire.specs.declared.frame.WireFault.TheVariants.{BadRequest}
use Rattle.kwire.specs.Layouts.{Kind, INT8_OF, INT16, INT32, INT64, STRING, NULLABLE_STRING, RECORDS, ARRAY, NULLABLE_ARRAY, IsOf, Begin, NoneBegins}
use Rattle.kwire.specs.Reading.{ReadField, wire, one_of, not_null, field_at}
use Rattle.kwire.proofs.Places.{IsBytes-rest}
use Rattle.kwire.proofs.FieldLaws.{IsField, int8_field, int16_field, int32_field, int64_field, string_field, nullable_string_field, records_field, array_field}

-- what a reading gave, so that its type shows
abbrev pub got_one : Field → Cursor → ReadField
got_one f d = Ok (f, d)

abbrev bad : ℕ → ReadField
bad at = Err (BadRequest at)

-- a field of the kind stands between the cursors
pub record IsReadField (kind : Kind) (c : Cursor) (f : Field) (d : Cursor) : Type 0 where
  pub is : IsOf kind f
  pub fits : FitsField f
  pub spells : Spells c d f

abbrev pub SoundField : Kind → Cursor → ReadField → Type 0
SoundField kind c (Ok x) = IsReadField kind c x.0 x.1
SoundField kind c (Err e) = (e ≡ BadRequest c.at) × NoneBegins kind (rest_of c)

-- this reading gives the fields of a kind that stand somewhere
abbrev ReadsBack : (Cursor → ReadField) → Kind → Type 0
ReadsBack read kind = (f : Field) → IsOf kind f → FitsField f → (c : Cursor) (rest : List ℕ) → rest_of c ≡ field f ++ rest → read c ≡ got_one f (moved c (length (field f)))

none_where_refused : (read : Cursor → ReadField) (kind : Kind) → ReadsBack read kind → (c : Cursor) (e : WireFault) → read c ≡ Err e → NoneBegins kind (rest_of c)
none_where_refused read kind back c e refused_is f b =
    let other : got_one f (moved c (length (field f))) ≡ Err e = sym (back f b.is b.fits c b.rest b.parts) ∙ refused_is in
    absurd cc

-- ---- kinds of one type each

module _ {X : Type 0} (read : Cursor → Result (X × Cursor) ByteFault) (make : X → Field) (is : IsField read make) (kind : Kind) (into : (x : X) → IsOf kind (make x)) (out : (f : Field) → IsOf kind f → (x : X) × (f ≡ make x)) where
  wired_back : ReadsBack (λ c. wire make (read c)) kind
  wired_back f is_of fits c rest at =
      let o = out f is_of in
      let P : Field → Type 0 = λ g. FitsField g → rest_of c ≡ field g ++ rest → wire make (read c) ≡ got_one g (moved c (length (field g))) in
      let first : P (make o.0) = λ g_fits g_at. ap (wire make) (is.again o.0 c rest g_fits g_at) in
      (subst P (sym o.1) first) fits at

  wired_by : (c : Cursor) → IsBytes c.bytes → (r : Result (X × Cursor) ByteFault) → read c ≡ r → SoundField kind c (wire make r)
  wired_by c bytes (Ok (x, d)) e = record { is = into x; fits = is.fits x c d e; spells = is.spells x c d (IsBytes-rest c bytes) e }
  wired_by c bytes (Err fault) e = (ap BadRequest (is.place c fault e), none_where_refused (λ d. wire make (read d)) kind wired_back c _ (ap (wire make) e))

  wired_sound : (c : Cursor) → IsBytes c.bytes → SoundField kind c (wire make (read c))
  wired_sound c bytes = wired_by c bytes (read c) refl

-- ---- an integer that is one of these

module _ (values : List ℤ) where
  one_back : ReadsBack (λ c. one_of c.at values (integer_at w8 c)) (INT8_OF values)
  one_back f is_of fits c rest at =
      let P : Field → Type 0 = λ g. FitsField g → rest_of c ≡ field g ++ rest → one_of c.at values (integer_at w8 c) ≡ got_one g (moved c (length (field g))) in
      let within : list_any (int_eq is_of.0) values ≡ true = list_any-from_Contains int_eq_equiv is_of.0 values is_of.2 in
      let d = moved c (length (field (Int8 is_of.0))) in
      let first : P (Int8 is_of.0) = λ g_fits g_at. ap (one_of c.at values) (int8_field.again is_of.0 c rest g_fits g_at) ∙ ap (λ (b : Bool). cond b (got_one (Int8 is_of.0) d) (bad c.at)) within in
      (subst P (sym is_of.1) first) fits at

  one_tested : (c d : Cursor) (z : ℤ) → IsBytes c.bytes → integer_at w8 c ≡ Ok (z, d) → (b : Bool) → list_any (int_eq z) values ≡ b → SoundField (INT8_OF values) c (cond b (got_one (Int8 z) d) (bad c.at))
  one_tested c d z bytes e true t = record {
    is = (z, refl, Contains-from_any (λ x y same. (Decides-int_eq x y).0 same) z values t);
    fits = int8_field.fits z c d e;
    spells = int8_field.spells z c d (IsBytes-rest c bytes) e;
  }
  one_tested c d z bytes e false t =
      let refused_is : one_of c.at values (integer_at w8 c) ≡ bad c.at = ap (one_of c.at values) e ∙ ap (λ (b : Bool). cond b (got_one (Int8 z) d) (bad c.at)) t in
      (refl, none_where_refused (λ x. one_of x.at values (integer_at w8 x)) (INT8_OF values) one_back c _ refused_is)

  one_by : (c : Cursor) → IsBytes c.bytes → (r : Result (ℤ × Cursor) ByteFault) → integer_at w8 c ≡ r → SoundField (INT8_OF values) c (one_of c.at values r)
  one_by c bytes (Ok (z, d)) e = one_tested c d z bytes e (list_any (int_eq z) values) refl
  one_by c bytes (Err fault) e = (ap BadRequest (int8_field.place c fault e), none_where_refused (λ x. one_of x.at values (integer_at w8 x)) (INT8_OF values) one_back c _ (ap (one_of c.at values) e))

-- ---- a count that isn't null

counted_back : ReadsBack (λ c. not_null c.at (array_at c)) ARRAY
counted_back f is_of fits c rest at =
    let P : Field → Type 0 = λ g. FitsField g → rest_of c ≡ field g ++ rest → not_null c.at (array_at c) ≡ got_one g (moved c (length (field g))) in
    let first : P (Array (Some is_of.0)) = λ g_fits g_at. ap (not_null c.at) (array_field.again (Some is_of.0) c rest g_fits g_at) in
    (subst P (sym is_of.1) first) fits at

counted_by : (c : Cursor) → IsBytes c.bytes → (r : Result (Option ℕ × Cursor) ByteFault) → array_at c ≡ r → SoundField ARRAY c (not_null c.at r)
counted_by c bytes (Ok (Some n, d)) e = record { is = (n, refl); fits = array_field.fits (Some n) c d e; spells = array_field.spells (Some n) c d (IsBytes-rest c bytes) e }
counted_by c bytes (Ok (None, d)) e = (refl, none_where_refused (λ x. not_null x.at (array_at x)) ARRAY counted_back c _ (ap (not_null c.at) e))
counted_by c bytes (Err fault) e = (ap BadRequest (array_field.place c fault e), none_where_refused (λ x. not_null x.at (array_at x)) ARRAY counted_back c _ (ap (not_null c.at) e))

-- ---- every kind

pub field_back : (kind : Kind) → ReadsBack (field_at kind) kind
field_back (INT8_OF values) = one_back values
field_back INT16 = wired_back (integer_at w16) Int16 int16_field INT16 (λ z. (z, refl)) (λ f is. is)
field_back INT32 = wired_back (integer_at w32) Int32 int32_field INT32 (λ z. (z, refl)) (λ f is. is)
field_back INT64 = wired_back (integer_at w64) Int64 int64_field INT64 (λ z. (z, refl)) (λ f is. is)
field_back STRING = wired_back string_at String string_field STRING (λ bytes. (bytes, refl)) (λ f is. is)
field_back NULLABLE_STRING = wired_back (sized_at w16) NullableString nullable_string_field NULLABLE_STRING (λ bytes. (bytes, refl)) (λ f is. is)
field_back RECORDS = wired_back (sized_at w32) Records records_field RECORDS (λ bytes. (bytes, refl)) (λ f is. is)
field_back ARRAY = counted_back
field_back NULLABLE_ARRAY = wired_back array_at Array array_field NULLABLE_ARRAY (λ count. (count, refl)) (λ f is. is)

pub field_sound : (kind : Kind) (c : Cursor) → IsBytes c.bytes → SoundField kind c (field_at kind c)
field_sound (INT8_OF values) c bytes = one_by values c bytes (integer_at w8 c) refl
field_sound INT16 c bytes = wired_sound (integer_at w16) Int16 int16_field INT16 (λ z. (z, refl)) (λ f is. is) c bytes
field_sound INT32 c bytes = wired_sound (integer_at w32) Int32 int32_field INT32 (λ z. (z, refl)) (λ f is. is) c bytes
field_sound INT64 c bytes = wired_sound (integer_at w64) Int64 int64_field INT64 (λ z. (z, refl)) (λ f is. is) c bytes
field_sound STRING c bytes = wired_sound string_at String string_field STRING (λ text. (text, refl)) (λ f is. is) c bytes
field_sound NULLABLE_STRING c bytes = wired_sound (sized_at w16) NullableString nullable_string_field NULLABLE_STRING (λ text. (text, refl)) (λ f is. is) c bytes
field_sound RECORDS c bytes = wired_sound (sized_at w32) Records records_field RECORDS (λ text. (text, refl)) (λ f is. is) c bytes
field_sound ARRAY c bytes = counted_by c bytes (array_at c) refl
field_sound NULLABLE_ARRAY c bytes = wired_sound array_at Array array_field NULLABLE_ARRAY (λ count. (count, refl)) (λ f is. is) c bytes

-- ---- no field of a kind begins another

same_one : (f g : Field) (c d : Cursor) → got_one f c ≡ got_one g d → f ≡ g
same_one f g c d e =
    let pair : Field → Cursor → Field × Cursor = λ a b. (a, b) in
    let pairs : pair f c ≡ pair g d = cc in
    ap (λ (p : Field × Cursor). p.0) pairs

pub first_same : (kind : Kind) (bytes : List ℕ) (f g : Field) (b : Begin kind bytes f) (a : Begin kind bytes g) → (f ≡ g) × (b.rest ≡ a.rest)
first_same kind bytes f g b a =
    let start : Cursor = record { bytes = bytes; at = 0 } in
    let one = field_back kind f b.is b.fits start b.rest b.parts in
    let two = field_back kind g a.is a.fits start a.rest a.parts in
    let same = same_one f g (moved start (length (field f))) (moved start (length (field g))) (sym one ∙ two) in
    (same, append_cancel_left (field g) b.rest a.rest (ap (λ (h : Field). field h ++ b.rest) (sym same) ∙ sym b.parts ∙ a.parts))
