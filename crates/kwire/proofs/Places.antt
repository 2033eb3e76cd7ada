-- Places after fields.
use Rattle.std.proofs.Common.{◌≡◌, ℕ, ◌+◌, List, [], ◌∷◌, ◌++◌, length, drop, refl, sym, ap, ◌∙◌, append_assoc, arith}
use Rattle.std.specs.List.{AllByRecursion}
use Rattle.std.proofs.lemmas.List.{append-nil, length-append, drop-drop, drop_at}
use Rattle.kbytes.specs.Octets.{IsBytes}
use Rattle.kbytes.specs.Cursor.{Cursor, rest_of, moved}
use Rattle.kbytes.specs.Reading.{Spells}
use Rattle.kbytes.specs.Field.{Field, field, fields}
use Rattle.kbytes.specs.FitsField.{FitsField}
use Rattle.kbytes.proofs.Laws.{IsBytes-drop}

-- fields stand at the place of the cursor old, and new is after them
pub record Covers (old new : Cursor) (fs : List Field) : Type 0 where
  pub at : new ≡ moved old (length (fields fs))
  pub parts : rest_of old ≡ fields fs ++ rest_of new

pub fields-append : (fs gs : List Field) → fields (fs ++ gs) ≡ fields fs ++ fields gs
fields-append [] gs = refl
fields-append (f ∷ fs) gs = ap (λ (t : List ℕ). field f ++ t) (fields-append fs gs) ∙ sym (append_assoc (field f) (fields fs) (fields gs))

pub moved_nil : (c : Cursor) → moved c 0 ≡ c
moved_nil c = let same : c.at + 0 ≡ c.at = omega arith in ap (λ (n : ℕ). record { bytes = c.bytes; at = n }) same

moved_on : (c : Cursor) (n m : ℕ) → moved (moved c n) m ≡ moved c (n + m)
moved_on c n m = let same : c.at + n + m ≡ c.at + (n + m) = omega arith in ap (λ (k : ℕ). record { bytes = c.bytes; at = k }) same

pub moved_over : (c : Cursor) (fs gs : List Field) → moved (moved c (length (fields fs))) (length (fields gs)) ≡ moved c (length (fields (fs ++ gs)))
moved_over c fs gs =
    let len : length (fields fs) + length (fields gs) ≡ length (fields (fs ++ gs)) = sym (ap length (fields-append fs gs) ∙ length-append (fields fs) (fields gs)) in
    moved_on c (length (fields fs)) (length (fields gs)) ∙ ap (moved c) len

pub covers_nothing : (c : Cursor) → Covers c c []
covers_nothing c = record { at = sym (moved_nil c); parts = refl }

pub covers_both : (a b c : Cursor) (fs gs : List Field) → Covers a b fs → Covers b c gs → Covers a c (fs ++ gs)
covers_both a b c fs gs first next = record {
  at = next.at ∙ ap (λ (d : Cursor). moved d (length (fields gs))) first.at ∙ moved_over a fs gs;
  parts = first.parts ∙ ap (λ (t : List ℕ). fields fs ++ t) next.parts ∙ sym (append_assoc (fields fs) (fields gs) (rest_of c)) ∙ ap (λ (t : List ℕ). t ++ rest_of c) (sym (fields-append fs gs));
}

pub covers_field : (old new : Cursor) (f : Field) → Spells old new f → Covers old new (f ∷ [])
covers_field old new f spells =
    let alone : field f ≡ fields (f ∷ []) = sym (append-nil (field f)) in
    let at : new.at ≡ old.at + length (fields (f ∷ [])) = spells.at ∙ ap (λ (t : List ℕ). old.at + length t) alone in
    record {
      at = ap (λ (bs : List ℕ). record { bytes = bs; at = new.at }) spells.bytes ∙ ap (λ (n : ℕ). record { bytes = old.bytes; at = n }) at;
      parts = spells.parts ∙ ap (λ (t : List ℕ). t ++ rest_of new) alone;
    }

-- the cursor after fields that stand at a place
pub behind : (c : Cursor) (fs gs : List Field) (rest : List ℕ) → rest_of c ≡ fields (fs ++ gs) ++ rest → rest_of (moved c (length (fields fs))) ≡ fields gs ++ rest
behind c fs gs rest is =
    let parts : rest_of c ≡ fields fs ++ (fields gs ++ rest) = is ∙ ap (λ (t : List ℕ). t ++ rest) (fields-append fs gs) ∙ append_assoc (fields fs) (fields gs) rest in
    sym (drop-drop (length (fields fs)) c.at c.bytes) ∙ ap (drop (length (fields fs))) parts ∙ drop_at (fields fs) (fields gs ++ rest) (length (fields fs)) refl

pub before : (c : Cursor) (fs gs : List Field) (rest : List ℕ) → rest_of c ≡ fields (fs ++ gs) ++ rest → rest_of c ≡ fields fs ++ (fields gs ++ rest)
before c fs gs rest is = is ∙ ap (λ (t : List ℕ). t ++ rest) (fields-append fs gs) ∙ append_assoc (fields fs) (fields gs) rest

abbrev pub AllFit : List Field → Type 0
AllFit fs = AllByRecursion FitsField fs

pub all_fit_both : (fs gs : List Field) → AllFit fs → AllFit gs → AllFit (fs ++ gs)
all_fit_both [] gs f g = g
all_fit_both (x ∷ fs) gs f g = (f.0, all_fit_both fs gs f.1 g)

pub all_fit_first : (fs gs : List Field) → AllFit (fs ++ gs) → AllFit fs
all_fit_first [] gs f = tt
all_fit_first (x ∷ fs) gs f = (f.0, all_fit_first fs gs f.1)

pub all_fit_next : (fs gs : List Field) → AllFit (fs ++ gs) → AllFit gs
all_fit_next [] gs f = f
all_fit_next (x ∷ fs) gs f = all_fit_next fs gs f.1

pub IsBytes-rest : (c : Cursor) → IsBytes c.bytes → IsBytes (rest_of c)
IsBytes-rest c fits = IsBytes-drop c.at c.bytes fits
