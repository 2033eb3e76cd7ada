-- A reply that is read, field by field: the next field stands as it has to, or the body departs there.
use Rattle.std.specs.Prelude.{◌==◌}
use Rattle.std.proofs.Common.{◌≡◌, ◌≢◌, true, false, ℕ, ◌+◌, pos, negsuc, List, [], ◌∷◌, ◌++◌, length, drop, Some, None, refl, sym, ap, subst, ◌∙◌, append_assoc, append-nil, arith, length-append}
use Rattle.std.specs.List.{AllByRecursion}
use Rattle.std.proofs.lemmas.Grind.{common_steps, flat_map-append}
use Rattle.kbytes.specs.Cursor.{Cursor, rest_of}
use Rattle.kbytes.specs.Field.{Field, Int32, Array, field, fields}
use Rattle.kbytes.specs.FitsField.{FitsField}
use Rattle.kbytes.specs.Reading.{Spells}
use Rattle.follower.specs.ReplyBody.{Agree, Asked, GoesWrongAt, IsReplyBody, MayFollow, all_fields, reply_fields}
use Rattle.kwire.specs.declared.reply.FetchedPart.{FetchedPart}
use Rattle.follower.specs.Standing.{HasRead, NoneBegins}

module _ (asked : Asked) where
  -- one field more, which may follow those before it
  pub agree_push : (before front : List Field) (f : Field) → Agree asked before front → MayFollow asked (before ++ front) f → FitsField f → Agree asked before (front ++ f ∷ [])
  agree_push before [] f all may fits = (subst (λ (b : List Field). MayFollow asked b f) (append-nil before) may, fits, tt)
  agree_push before (g ∷ front) f all may fits = (
    all.0,
    all.1,
    agree_push (before ++ g ∷ []) front f all.2 (subst (λ (b : List Field). MayFollow asked b f) (sym (append_assoc before (g ∷ []) front)) may) fits,
  )

  fields_push : (front : List Field) (f : Field) → fields (front ++ f ∷ []) ≡ fields front ++ field f
  fields_push front f = flat_map-append field front (f ∷ []) ∙ ap (λ (bytes : List ℕ). fields front ++ bytes) (append-nil (field f))

  pub read_none_yet : (body : List ℕ) (reader : Cursor) → reader.bytes ≡ body → reader.at ≡ 0 → HasRead asked body [] reader
  read_none_yet body reader bytes at = record { parts = sym bytes ∙ ap (λ (n : ℕ). drop n reader.bytes) (sym at); at = at; agree = tt }

  pub read_on : (body : List ℕ) (front : List Field) (old new : Cursor) (f : Field) → HasRead asked body front old → Spells old new f → MayFollow asked front f → FitsField f → HasRead asked body (front ++ f ∷ []) new
  read_on body front old new f read spells may fits = record {
    parts = read.parts ∙ ap (λ (bytes : List ℕ). fields front ++ bytes) spells.parts ∙ sym (append_assoc (fields front) (field f) (rest_of new))
        ∙ ap (λ (bytes : List ℕ). bytes ++ rest_of new) (sym (fields_push front f));
    at = spells.at ∙ ap (λ (n : ℕ). n + length (field f)) read.at ∙ sym (ap (λ (bytes : List ℕ). length bytes) (fields_push front f) ∙ length-append (fields front) (field f));
    agree = agree_push [] front f read.agree may fits;
  }

  -- none that may come stands there
  pub stops : (body : List ℕ) (front : List Field) (reader : Cursor) (at : ℕ) → HasRead asked body front reader → at ≡ reader.at → (length front ≡ all_fields → ⊥)
      → ((f : Field) (after : List ℕ) → rest_of reader ≡ field f ++ after → FitsField f → MayFollow asked front f → ⊥) → GoesWrongAt asked body at
  stops body front reader at read is fewer none = record {
    front = front;
    rest = rest_of reader;
    agree = read.agree;
    parts = read.parts;
    place = is ∙ read.at;
    wrong = none;
    more = λ all. absurd (fewer all);
  }

  -- where just one field may come, and doesn't stand there
  pub stops_at : (body : List ℕ) (front : List Field) (reader : Cursor) (at : ℕ) (only : Field) → HasRead asked body front reader → at ≡ reader.at → (length front ≡ all_fields → ⊥)
      → NoneBegins (rest_of reader) (field only) → ((f : Field) → MayFollow asked front f → f ≡ only) → GoesWrongAt asked body at
  stops_at body front reader at only read is fewer none one =
      stops body front reader at read is fewer (λ f after stands fits may. none after (stands ∙ ap (λ (g : Field). field g ++ after) (one f may)))

-- a count of one is spelled as the integer one, and no count as minus one
pub spelled_one : (c d : Cursor) → Spells c d (Int32 (pos 1)) → Spells c d (Array (Some 1))
spelled_one c d s = record { bytes = s.bytes; at = s.at; parts = s.parts }

pub spelled_null : (c d : Cursor) → Spells c d (Int32 (negsuc 0)) → Spells c d (Array None)
spelled_null c d s = record { bytes = s.bytes; at = s.at; parts = s.parts }

module _ (asked : Asked) where
  agree_fits : (before front : List Field) → Agree asked before front → AllByRecursion FitsField front
  agree_fits before [] all = tt
  agree_fits before (f ∷ front) all = (all.1, agree_fits (before ++ f ∷ []) front all.2)

  -- all fields of a reply stand there, and the body ends
  pub whole_reply : (body : List ℕ) (told : FetchedPart) (reader : Cursor) → told.index ≡ asked.index → told.start ≡ negsuc 0 → HasRead asked body (reply_fields asked told) reader → rest_of reader ≡ [] → IsReplyBody asked body told
  whole_reply body told reader index start read over = record {
    index = index;
    start = start;
    fits = agree_fits [] (reply_fields asked told) read.agree;
    spelled = read.parts ∙ ap (λ (bytes : List ℕ). fields (reply_fields asked told) ++ bytes) over ∙ append-nil (fields (reply_fields asked told));
  }

-- whether bytes are left
pub some_left : (bytes : List ℕ) → false ≡ (length bytes == 0) → bytes ≢ []
some_left [] some none = let other : false ≡ true = some in absurd cc
some_left (b ∷ bytes) some none = absurd cc

pub none_left : (bytes : List ℕ) → true ≡ (length bytes == 0) → bytes ≡ []
none_left [] none = refl
none_left (b ∷ bytes) none = absurd (grind (arith, common_steps, none))
