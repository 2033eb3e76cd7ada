-- Fields that are written one after the other.
use Rattle.std.proofs.Common.{◌≡◌, Bool, true, false, refl, ℕ, zero, suc, ◌+◌, ◌<◌, ◌≤◌, ◌^◌, ℤ, Some, List, [], ◌∷◌, ◌++◌, length, get_or, take, sym, ap, subst, ◌∙◌, append_assoc, arith}
use Rattle.std.specs.List.{flat_map}
use Rattle.std.proofs.lemmas.List.{append-nil, take_more, take_all}
use Rattle.std.proofs.lemmas.Grind.{flat_map-append}
use Rattle.kbytes.specs.Field.{Field, field, fields, Int8, Int16, Int32, Uint32, Int64, String, NullableString, Records, Array, Varint, Varlong}
use Rattle.kbytes.specs.FitsField.{FitsField}
use Rattle.std.specs.Prelude.{Result, Ok, Err, OnOk}
use Rattle.kbytes.specs.declared.no_memory.NoMemory.{NoMemory}
use Rattle.kwire.specs.Apis.{has_log_start}
use Rattle.kwire.specs.IsRequest.{only_field}
use Rattle.kwire.specs.Spelling.{aborted, fetched_part_fields}
use Rattle.kwire.specs.declared.reply.FetchedPart.{FetchedPart}
use Rattle.kwire.specs.IsSpellable.{HasShortLength, AreInRange}
use Rattle.kwire.proofs.Places.{AllFit, fields-append}

-- these fields were written after the first bytes
abbrev pub Put : List ℕ → List ℕ → List Field → Type 0
Put before now written = now ≡ before ++ fields written

pub put_start : (before : List ℕ) → Put before before []
put_start before = sym (append-nil before)

pub put_on : (before now after : List ℕ) (fs gs : List Field) → Put before now fs → Put now after gs → Put before after (fs ++ gs)
put_on before now after fs gs first next =
    next ∙ ap (λ (t : List ℕ). t ++ fields gs) first ∙ append_assoc before (fields fs) (fields gs) ∙ ap (λ (t : List ℕ). before ++ t) (sym (fields-append fs gs))

pub in_range_first : (fs gs : List Field) → AreInRange (fs ++ gs) → AreInRange fs
in_range_first [] gs h = tt
in_range_first (f ∷ fs) gs h = (h.0, in_range_first fs gs h.1)

in_range_next : (fs gs : List Field) → AreInRange (fs ++ gs) → AreInRange gs
in_range_next [] gs h = h
in_range_next (f ∷ fs) gs h = in_range_next fs gs h.1

module _ {X : Type 0} (kind : X → List Field) where
  pub in_range_at : (xs : List X) (i : ℕ) (d : X) → i < length xs → AreInRange (flat_map kind xs) → AreInRange (kind (get_or xs i d))
  in_range_at [] i d lt h = absurd (omega arith)
  in_range_at (x ∷ xs) zero d lt h = in_range_first (kind x) (flat_map kind xs) h
  in_range_at (x ∷ xs) (suc i) d lt h = in_range_at xs i d (omega arith) (in_range_next (kind x) (flat_map kind xs) h)

  one_more : (xs : List X) (i : ℕ) (d : X) → i < length xs → flat_map kind (take (i + 1) xs) ≡ flat_map kind (take i xs) ++ kind (get_or xs i d)
  one_more xs i d lt =
      ap (flat_map kind) (take_more xs i d lt) ∙ flat_map-append kind (take i xs) (get_or xs i d ∷ []) ∙ ap (λ (fs : List Field). flat_map kind (take i xs) ++ fs) (append-nil (kind (get_or xs i d)))

  pub put_next : (before now after : List ℕ) (xs : List X) (i : ℕ) (d : X) → i < length xs → Put before now (flat_map kind (take i xs)) → Put now after (kind (get_or xs i d)) → Put before after (flat_map kind (take (i + 1) xs))
  put_next before now after xs i d lt so_far more =
      subst (Put before after) (sym (one_more xs i d lt)) (put_on before now after (flat_map kind (take i xs)) (kind (get_or xs i d)) so_far more)

  -- the same of an item that is known by what it is
  pub put_item : (before now after : List ℕ) (xs : List X) (i : ℕ) (x : X) → i < length xs → x ≡ get_or xs i x → Put before now (flat_map kind (take i xs)) → Put now after (kind x) → Put before after (flat_map kind (take (i + 1) xs))
  put_item before now after xs i x lt is so_far more = put_next before now after xs i x lt so_far (subst (λ (y : X). Put now after (kind y)) is more)

  pub in_range_item : (xs : List X) (i : ℕ) (x : X) → i < length xs → x ≡ get_or xs i x → AreInRange (flat_map kind xs) → AreInRange (kind x)
  in_range_item xs i x lt is h = subst (λ (y : X). AreInRange (kind y)) (sym is) (in_range_at xs i x lt h)

  pub put_all : (before now : List ℕ) (xs : List X) (i : ℕ) → length xs ≤ i → Put before now (flat_map kind (take i xs)) → Put before now (flat_map kind xs)
  put_all before now xs i le so_far = subst (λ (ys : List X). Put before now (flat_map kind ys)) (take_all i xs le) so_far

-- ---- field after field

pub then_field : (before now after : List ℕ) (fs : List Field) (f : Field) → Put before now fs → after ≡ now ++ field f → Put before after (fs ++ f ∷ [])
then_field before now after fs f so_far is = put_on before now after fs (f ∷ []) so_far (is ∙ ap (λ (t : List ℕ). now ++ t) (sym (append-nil (field f))))

pub last_field : (r : Result (Unit {0}) NoMemory) (before now after : List ℕ) (fs : List Field) (f : Field) → Put before now fs → OnOk r (after ≡ now ++ field f) → OnOk r (Put before after (fs ++ f ∷ []))
last_field (Ok x) before now after fs f so_far is = then_field before now after fs f so_far is
last_field (Err e) before now after fs f so_far is = tt

pub on_ok : {P Q : Type 0} (r : Result (Unit {0}) NoMemory) → (P → Q) → OnOk r P → OnOk r Q
on_ok (Ok x) f h = f h
on_ok (Err e) f h = tt

-- a field that stands there only in some versions, and those after it
pub started : (b : Bool) (f : Field) (fs : List Field) → only_field b f [] ++ fs ≡ only_field b f fs
started true f fs = refl
started false f fs = refl

behind_started : (b : Bool) (f : Field) (fs : List Field) → AreInRange (only_field b f fs) → AreInRange fs
behind_started true f fs h = h.1
behind_started false f fs h = h

pub records_short : (version isolation : ℤ) (part : FetchedPart) → AreInRange (fetched_part_fields version isolation part) → length part.records < 2 ^ 31
records_short version isolation part h =
    (behind_started (has_log_start version) (Int64 part.start) (Array (aborted isolation) ∷ Records (Some part.records) ∷ []) h.1.1.1.1).1.0

-- ---- fields in the range of their types have short lengths

short_of : (f : Field) → FitsField f → HasShortLength f
short_of (Int8 z) h = tt
short_of (Int16 z) h = tt
short_of (Int32 z) h = tt
short_of (Uint32 n) h = tt
short_of (Int64 z) h = tt
short_of (String bytes) h = h
short_of (NullableString bytes) h = h
short_of (Records bytes) h = h
short_of (Array count) h = h
short_of (Varint z) h = tt
short_of (Varlong z) h = tt

pub all_short : (fs : List Field) → AllFit fs → AreInRange fs
all_short [] h = tt
all_short (f ∷ fs) h = (short_of f h.0, all_short fs h.1)
