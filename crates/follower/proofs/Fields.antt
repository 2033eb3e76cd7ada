-- The fields of a reply stand in a body in one way, and so does the place where a body departs from them.
use Rattle.std.proofs.Common.{◌≡◌, ℕ, ◌<◌, ◌^◌, ℤ, List, [], ◌∷◌, ◌++◌, length, Some, refl, sym, ap, subst, ◌∙◌, append_assoc, append-nil}
use Rattle.std.specs.Prelude.{FitsSigned}
use Rattle.std.specs.Int.{Width, w16, w32, w64}
use Rattle.std.specs.List.{AllByRecursion}
use Rattle.std.proofs.lemmas.List.{append_cancel_left}
use Rattle.kbytes.specs.Cursor.{Cursor}
use Rattle.kbytes.specs.Field.{Field, Int16, Int32, Int64, Records, field, fields, integer}
use Rattle.kbytes.specs.FitsField.{FitsField}
use Rattle.kbytes.specs.Reading.{integer_at, sized_at}
use Rattle.kbytes.proofs.Laws.{IsWide, integer_reads, records_reads, wide_16, wide_64}
use Rattle.kwire.specs.declared.reply.FetchedPart.{FetchedPart}
use Rattle.follower.specs.ReplyBody.{Agree, Asked, GoesWrongAt, IsReplyBody, MayFollow, reply_fields}
use Rattle.follower.proofs.Fronts.{read_same}

-- ---- one field stands at the front

pub same_integer : (w : Width) → IsWide w → (y z : ℤ) (a b : List ℕ) → FitsSigned w y → FitsSigned w z → integer w y ++ a ≡ integer w z ++ b → y ≡ z
same_integer w wide y z a b one two same =
    let start : Cursor = record { bytes = integer w y ++ a; at = 0 } in
    read_same (integer_at w start) y z _ _ (integer_reads w wide y start a one refl) (integer_reads w wide z start b two same)

same_records : (xs ys a b : List ℕ) → length xs < 2 ^ 31 → length ys < 2 ^ 31 → field (Records (Some xs)) ++ a ≡ field (Records (Some ys)) ++ b → xs ≡ ys
same_records xs ys a b one two same =
    let start : Cursor = record { bytes = field (Records (Some xs)) ++ a; at = 0 } in
    let some = read_same (sized_at w32 start) (Some xs) (Some ys) _ _ (records_reads (Some xs) start a one refl) (records_reads (Some ys) start b two same) in
    cc

-- two fields of one kind, whose values their making tells
of_kind : {X : Type 0} (make : X → Field) → ((x y : X) (a b : List ℕ) → FitsField (make x) → FitsField (make y) → field (make x) ++ a ≡ field (make y) ++ b → x ≡ y)
    → (f g : Field) (a b : List ℕ) → ((x : X) × (f ≡ make x)) → ((y : X) × (g ≡ make y)) → FitsField f → FitsField g → field f ++ a ≡ field g ++ b → f ≡ g
of_kind make once f g a b p q one two same =
    let here : field (make p.0) ++ a ≡ field (make q.0) ++ b = ap (λ (h : Field). field h ++ a) (sym p.1) ∙ same ∙ ap (λ (h : Field). field h ++ b) q.1 in
    p.1 ∙ ap make (once p.0 q.0 a b (subst FitsField p.1 one) (subst FitsField q.1 two) here) ∙ sym q.1

module _ (asked : Asked) where
  one_field : (before : List Field) (f g : Field) (a b : List ℕ) → MayFollow asked before f → MayFollow asked before g → FitsField f → FitsField g → field f ++ a ≡ field g ++ b → f ≡ g
  one_field [] f g a b p q one two same = p ∙ sym q
  one_field (x0 ∷ []) f g a b p q one two same = p ∙ sym q
  one_field (x0 ∷ x1 ∷ []) f g a b p q one two same = p ∙ sym q
  one_field (x0 ∷ x1 ∷ x2 ∷ []) f g a b p q one two same = p ∙ sym q
  one_field (x0 ∷ x1 ∷ x2 ∷ x3 ∷ []) f g a b p q one two same = p ∙ sym q
  one_field (x0 ∷ x1 ∷ x2 ∷ x3 ∷ x4 ∷ []) f g a b p q one two same = p ∙ sym q
  one_field (x0 ∷ x1 ∷ x2 ∷ x3 ∷ x4 ∷ x5 ∷ []) f g a b p q one two same = of_kind Int16 (λ y z xs ys. same_integer w16 wide_16 y z xs ys) f g a b p q one two same
  one_field (x0 ∷ x1 ∷ x2 ∷ x3 ∷ x4 ∷ x5 ∷ x6 ∷ []) f g a b p q one two same = of_kind Int64 (λ y z xs ys. same_integer w64 wide_64 y z xs ys) f g a b p q one two same
  one_field (x0 ∷ x1 ∷ x2 ∷ x3 ∷ x4 ∷ x5 ∷ x6 ∷ x7 ∷ []) f g a b p q one two same = p ∙ sym q
  one_field (x0 ∷ x1 ∷ x2 ∷ x3 ∷ x4 ∷ x5 ∷ x6 ∷ x7 ∷ x8 ∷ []) f g a b p q one two same = p ∙ sym q
  one_field (x0 ∷ x1 ∷ x2 ∷ x3 ∷ x4 ∷ x5 ∷ x6 ∷ x7 ∷ x8 ∷ x9 ∷ []) f g a b p q one two same =
      of_kind (λ (records : List ℕ). Records (Some records)) same_records f g a b p q one two same
  one_field (x0 ∷ x1 ∷ x2 ∷ x3 ∷ x4 ∷ x5 ∷ x6 ∷ x7 ∷ x8 ∷ x9 ∷ x10 ∷ more) f g a b p q one two same = absurd p

  -- ---- fields one after the other

  -- a field that may follow these stands at the front of the bytes
  abbrev pub HasMore : List Field → List ℕ → Type 0
  HasMore before rest = (f : Field) × (after : List ℕ) × (rest ≡ field f ++ after) × FitsField f × MayFollow asked before f

  -- two lists of fields at the front of the same bytes are the same, or after the shorter one another field may come
  data Compared (before xs : List Field) (r : List ℕ) (ys : List Field) (s : List ℕ) : Type 0 where
    alike : xs ≡ ys → r ≡ s → Compared before xs r ys s
    longer : HasMore (before ++ xs) r → Compared before xs r ys s
    shorter : HasMore (before ++ ys) s → Compared before xs r ys s

  head_on : (f : Field) (fs : List Field) (rest : List ℕ) → fields (f ∷ fs) ++ rest ≡ field f ++ (fields fs ++ rest)
  head_on f fs rest = append_assoc (field f) (fields fs) rest

  compared_on : (before : List Field) (f g : Field) (xs ys : List Field) (r s : List ℕ) → f ≡ g → Compared (before ++ f ∷ []) xs r ys s → Compared before (f ∷ xs) r (g ∷ ys) s
  compared_on before f g xs ys r s same (alike e d) = alike (ap (λ (h : Field). h ∷ xs) same ∙ ap (λ (zs : List Field). g ∷ zs) e) d
  compared_on before f g xs ys r s same (longer more) = longer (subst (λ (b : List Field). HasMore b r) (append_assoc before (f ∷ []) xs) more)
  compared_on before f g xs ys r s same (shorter more) =
      shorter (subst (λ (b : List Field). HasMore b s) (append_assoc before (f ∷ []) ys ∙ ap (λ (h : Field). before ++ h ∷ ys) same) more)

  compare : (before xs ys : List Field) (r s : List ℕ) → Agree asked before xs → Agree asked before ys → fields xs ++ r ≡ fields ys ++ s → Compared before xs r ys s
  compare before [] [] r s p q same = alike refl same
  compare before [] (g ∷ ys) r s p q same =
      longer (g, fields ys ++ s, same ∙ head_on g ys s, q.1, subst (λ (b : List Field). MayFollow asked b g) (sym (append-nil before)) q.0)
  compare before (f ∷ xs) [] r s p q same =
      shorter (f, fields xs ++ r, sym same ∙ head_on f xs r, p.1, subst (λ (b : List Field). MayFollow asked b f) (sym (append-nil before)) p.0)
  compare before (f ∷ xs) (g ∷ ys) r s p q same =
      let both : field f ++ (fields xs ++ r) ≡ field g ++ (fields ys ++ s) = sym (head_on f xs r) ∙ same ∙ head_on g ys s in
      let one : f ≡ g = one_field before f g (fields xs ++ r) (fields ys ++ s) p.0 q.0 p.1 q.1 both in
      let behind : fields xs ++ r ≡ fields ys ++ s = append_cancel_left (field g) (fields xs ++ r) (fields ys ++ s) (ap (λ (h : Field). field h ++ (fields xs ++ r)) (sym one) ∙ both) in
      let others : Agree asked (before ++ f ∷ []) ys = subst (λ (h : Field). Agree asked (before ++ h ∷ []) ys) (sym one) q.2 in
      compared_on before f g xs ys r s one (compare (before ++ f ∷ []) xs ys r s p.2 others behind)

  -- ---- a whole reply

  agree_all : (told : FetchedPart) → told.index ≡ asked.index → AllByRecursion FitsField (reply_fields asked told) → Agree asked [] (reply_fields asked told)
  agree_all told index fits = ((
    refl,
    fits.0,
    (
      refl,
      fits.1.0,
      (
        refl,
        fits.1.1.0,
        (
          refl,
          fits.1.1.1.0,
          (
            refl,
            fits.1.1.1.1.0,
            (
              ap Int32 index,
              fits.1.1.1.1.1.0,
              (
                (told.code, refl),
                fits.1.1.1.1.1.1.0,
                (
                  (told.high, refl),
                  fits.1.1.1.1.1.1.1.0,
                  (
                    refl,
                    fits.1.1.1.1.1.1.1.1.0,
                    (
                      refl,
                      fits.1.1.1.1.1.1.1.1.1.0,
                      ((told.records, refl), fits.1.1.1.1.1.1.1.1.1.1.0, tt),
                    ),
                  ),
                ),
              ),
            ),
          ),
        ),
      ),
    ),
  )
      )

  -- a body that is a reply departs nowhere
  pub reply_or_wrong : (body : List ℕ) (told : FetchedPart) (at : ℕ) → IsReplyBody asked body told → GoesWrongAt asked body at → ⊥
  reply_or_wrong body told at reply wrong =
      let all = reply_fields asked told in
      let same : fields all ++ [] ≡ fields wrong.front ++ wrong.rest = append-nil (fields all) ∙ sym reply.spelled ∙ wrong.parts in
      elim (compare [] all wrong.front [] wrong.rest (agree_all told reply.index reply.fits) wrong.agree same) [
        | alike e d ↦ wrong.more (ap (λ (fs : List Field). length fs) (sym e)) (sym d)
        | longer more ↦ absurd more.4
        | shorter more ↦ wrong.wrong more.0 more.1 more.2 more.3 more.4
      ]

  -- it departs at one place
  pub one_place : (body : List ℕ) (at place : ℕ) → GoesWrongAt asked body at → GoesWrongAt asked body place → at ≡ place
  one_place body at place w v =
      elim (compare [] w.front v.front w.rest v.rest w.agree v.agree (sym w.parts ∙ v.parts)) [
        | alike e d ↦ w.place ∙ ap (λ (fs : List Field). length (fields fs)) e ∙ sym v.place
        | longer more ↦ absurd (w.wrong more.0 more.1 more.2 more.3 more.4)
        | shorter more ↦ absurd (v.wrong more.0 more.1 more.2 more.3 more.4)
      ]

  told_once : (told other : FetchedPart) → told.index ≡ other.index → told.start ≡ other.start → reply_fields asked told ≡ reply_fields asked other → told ≡ other
  told_once told other index start same =
      let code : told.code ≡ other.code = cc in
      let high : told.high ≡ other.high = cc in
      let records : told.records ≡ other.records = cc in
      ap (λ (i : ℤ). record { index = i; code = told.code; high = told.high; start = told.start; records = told.records }) index
      ∙ ap (λ (i : ℤ). record { index = other.index; code = i; high = told.high; start = told.start; records = told.records }) code
      ∙ ap (λ (i : ℤ). record { index = other.index; code = other.code; high = i; start = told.start; records = told.records }) high
      ∙ ap (λ (i : ℤ). record { index = other.index; code = other.code; high = other.high; start = i; records = told.records }) start
      ∙ ap (λ (bytes : List ℕ). record { index = other.index; code = other.code; high = other.high; start = other.start; records = bytes }) records

  -- and tells one thing
  pub one_told : (body : List ℕ) (told other : FetchedPart) → IsReplyBody asked body told → IsReplyBody asked body other → told ≡ other
  one_told body told other one two =
      let all = reply_fields asked told in
      let others = reply_fields asked other in
      let same : fields all ++ [] ≡ fields others ++ [] = append-nil (fields all) ∙ sym one.spelled ∙ two.spelled ∙ sym (append-nil (fields others)) in
      elim (compare [] all others [] [] (agree_all told one.index one.fits) (agree_all other two.index two.fits) same) [
        | alike e d ↦ told_once told other (one.index ∙ sym two.index) (one.start ∙ sym two.start) e
        | longer more ↦ absurd more.4
        | shorter more ↦ absurd more.4
      ]
