-- Passes are taken apart for the close and put together again, and their transcripts are put by their numbers.
use Rattle.std.proofs.Common.{⊎_elim, ◌≡◌, ◌≢◌, ◌∙◌, ℕ, zero, suc, ◌-◌, ◌<◌, Bool, false, cond, List, [], ◌∷◌, ◌++◌, Option, Some, length, map, set, refl, sym, ap, subst, arith, append-nil, append_assoc}
use Rattle.std.proofs.lemmas.Bool.{cases_eq, eq-eqb}
use Rattle.std.proofs.lemmas.List.Elements.{All-cons, All-head, All-nil, All-push, All-tail}
use Rattle.std.proofs.lemmas.List.Sums.{sum_by-append, sum_by-cons}
use Rattle.std.specs.Prelude.{All, count_by, slice_get, ◌==◌}
use Rattle.std.specs.List.{AllZip}
use Rattle.audit.specs.declared.account.Call.{Call}
use Rattle.audit.specs.declared.account.CallHow.{CallHow}
use Rattle.audit.specs.declared.account.CallHow.TheVariants.{Quiet, AtOnce, Satisfied, Expired, Parked, Cut}
use Rattle.audit.specs.declared.account.Transcript.{Transcript}
use Rattle.kbytes.proofs.Laws.{get_set_other, get_set_same, some_is}
use Rattle.audit.specs.broker.books.Told.{is_cut, last_is_cut, told}
use Rattle.shared_broker.specs.declared.closing.Sheet.{Sheet}
use Rattle.shared_broker.specs.Closed.{IsJoined, IsPutFrom, gathered, joined, transcripts_in}
use Rattle.shared_broker.specs.Passes.{PassView}
use Rattle.shared_logs.specs.Shared.{LogPassView}

-- ---- the last call

cut_at : (calls : List Call) (i : ℕ) (call : Call) → suc i ≡ length calls → slice_get calls i ≡ Some call → last_is_cut calls ≡ is_cut call.how
cut_at [] i call e at = absurd (omega (arith, e))
cut_at (c ∷ []) zero call e at = ap (λ (k : Call). is_cut k.how) (some_is c call at)
cut_at (c ∷ []) (suc i) call e at = absurd (omega (arith, e))
cut_at (c ∷ d ∷ calls) zero call e at = absurd (omega (arith, e))
cut_at (c ∷ d ∷ calls) (suc i) call e at = cut_at (d ∷ calls) i call (omega (arith, e)) at

pub last_cut : (calls : List Call) (call : Call) → slice_get calls (length calls - 1) ≡ Some call → last_is_cut calls ≡ is_cut call.how
last_cut [] call at = absurd cc
last_cut (c ∷ calls) call at = cut_at (c ∷ calls) (length (c ∷ calls) - 1) call (omega arith) at

pub not_cut : (how : CallHow) → ((won : Option ℕ) → how ≡ Cut won → ⊥) → is_cut how ≡ false
not_cut Quiet never = refl
not_cut AtOnce never = refl
not_cut (Satisfied by) never = refl
not_cut (Expired by) never = refl
not_cut Parked never = refl
not_cut (Cut won) never = absurd (never won refl)

-- ---- apart and together

gathered_more : (logs : List LogPassView) (sheets : List Sheet) (one : LogPassView) (sheet : Sheet) → AllZip IsJoined logs sheets → gathered (logs ++ one ∷ []) (sheets ++ sheet ∷ []) ≡ gathered logs sheets ++ joined one sheet ∷ []
gathered_more [] [] one sheet all = refl
gathered_more [] (s ∷ sheets) one sheet all = absurd all
gathered_more (l ∷ logs) [] one sheet all = absurd all
gathered_more (l ∷ logs) (s ∷ sheets) one sheet all = ap (λ (ps : List PassView). joined l s ∷ ps) (gathered_more logs sheets one sheet all.1)

joined_more : (logs : List LogPassView) (sheets : List Sheet) (one : LogPassView) (sheet : Sheet) → AllZip IsJoined logs sheets → IsJoined one sheet → AllZip IsJoined (logs ++ one ∷ []) (sheets ++ sheet ∷ [])
joined_more [] [] one sheet all is = (is, tt)
joined_more [] (s ∷ sheets) one sheet all is = absurd all
joined_more (l ∷ logs) [] one sheet all is = absurd all
joined_more (l ∷ logs) (s ∷ sheets) one sheet all is = (all.0, joined_more logs sheets one sheet all.1 is)

pub apart_step : (logs more : List LogPassView) (sheets longer : List Sheet) (one : LogPassView) (sheet : Sheet) (pass : PassView) (passes : List PassView) → more ≡ logs ++ one ∷ [] → longer ≡ sheets ++ sheet ∷ [] → pass ≡ joined one sheet
    → IsJoined one sheet → AllZip IsJoined logs sheets → passes ≡ gathered logs sheets → (passes ++ pass ∷ [] ≡ gathered more longer) × AllZip IsJoined more longer
apart_step logs more sheets longer one sheet pass passes m n is whole all e = (
  ap (λ (ps : List PassView). ps ++ pass ∷ []) e ∙ ap (λ (p : PassView). gathered logs sheets ++ p ∷ []) is ∙ sym (gathered_more logs sheets one sheet all)
      ∙ ap (λ (ls : List LogPassView). gathered ls (sheets ++ sheet ∷ [])) (sym m) ∙ ap (gathered more) (sym n),
  subst (λ (ls : List LogPassView). AllZip IsJoined ls longer) (sym m) (subst (AllZip IsJoined (logs ++ one ∷ [])) (sym n) (joined_more logs sheets one sheet all whole)),
)

pub as_many : (logs : List LogPassView) (sheets : List Sheet) → AllZip IsJoined logs sheets → length sheets ≡ length logs
as_many [] [] all = refl
as_many [] (s ∷ sheets) all = absurd all
as_many (l ∷ logs) [] all = absurd all
as_many (l ∷ logs) (s ∷ sheets) all = ap suc (as_many logs sheets all.1)

-- the next of both
module _ (logs left : List LogPassView) (sheets rest : List Sheet) (one : LogPassView) (sheet : Sheet) (l : logs ≡ one ∷ left) (s : sheets ≡ sheet ∷ rest) (all : AllZip IsJoined logs sheets) where
  pub next_joined : IsJoined one sheet × AllZip IsJoined left rest
  next_joined = subst (λ (ls : List LogPassView). AllZip IsJoined ls (sheet ∷ rest)) l (subst (AllZip IsJoined logs) s all)

  pub together_step : (passes more whole : List PassView) → more ≡ passes ++ joined one sheet ∷ [] → passes ++ gathered logs sheets ≡ whole → more ++ gathered left rest ≡ whole
  together_step passes more whole m e =
      ap (λ (ps : List PassView). ps ++ gathered left rest) m ∙ append_assoc passes (joined one sheet ∷ []) (gathered left rest)
      ∙ ap (λ (ls : List LogPassView). passes ++ gathered ls (sheet ∷ rest)) (sym l) ∙ ap (λ (ss : List Sheet). passes ++ gathered logs ss) (sym s) ∙ e

-- ---- by their numbers

abbrev is_of : ℕ → Sheet → Bool
is_of number sheet = sheet.number == number

none_of : (number : ℕ) (sheets : List Sheet) → count_by (is_of number) sheets ≡ 0 → All (λ (sheet : Sheet). sheet.number ≢ number) sheets
none_of number [] none = All-nil (λ (sheet : Sheet). sheet.number ≢ number)
none_of number (s ∷ sheets) none =
    let count = sum_by-cons (λ (x : Sheet). cond (is_of number x) 1 0) s sheets in
    ⊎_elim
    (λ (e : s.number ≡ number). absurd (omega (arith, none, count, ap {B = ℕ} (λ (b : Bool). cond b 1 0) (eq-eqb s.number number e))))
    (λ (n : s.number ≢ number). All-cons (λ (sheet : Sheet). sheet.number ≢ number) s sheets n (none_of number sheets (omega (arith, none, count))))
    (cases_eq s.number number)

-- a sheet more is put: it is the first of its number
module _ (done rest sheets : List Sheet) (sheet : Sheet) (e : done ++ sheet ∷ rest ≡ sheets) (one : count_by (is_of sheet.number) sheets ≡ 1) where
  others_before : All (λ (s : Sheet). s.number ≢ sheet.number) done
  others_before =
      let bit : Sheet → ℕ = λ x. cond (is_of sheet.number x) 1 0 in
      none_of sheet.number done (omega (arith, one, ap (count_by (is_of sheet.number)) e, sum_by-append bit done (sheet ∷ rest), sum_by-cons bit sheet rest, ap {B = ℕ} (λ (b : Bool). cond b 1 0) (eq-eqb sheet.number sheet.number refl)))

  pub put_more : (passes later : List (List Transcript)) → sheet.number < length passes → later ≡ set passes sheet.number (map told (transcripts_in sheet)) → All (IsPutFrom passes) done → All (IsPutFrom later) (done ++ sheet ∷ [])
  put_more passes later lt is all =
      let ts = map told (transcripts_in sheet) in
      let set_is : (number : ℕ) → slice_get later number ≡ slice_get (set passes sheet.number ts) number = λ number. ap (λ (ps : List (List Transcript)). slice_get ps number) is in
      All-push (IsPutFrom later) done sheet
      (kept done all others_before) (set_is sheet.number ∙ get_set_same passes sheet.number ts lt)
    where
      kept : (ds : List Sheet) → All (IsPutFrom passes) ds → All (λ (s : Sheet). s.number ≢ sheet.number) ds → All (IsPutFrom later) ds
      kept [] put others = All-nil (IsPutFrom later)
      kept (d ∷ ds) put others =
          let ts = map told (transcripts_in sheet) in
          All-cons (IsPutFrom later) d ds
          (ap (λ (ps : List (List Transcript)). slice_get ps d.number) is ∙ get_set_other passes sheet.number d.number ts (All-head (λ (s : Sheet). s.number ≢ sheet.number) d ds others) ∙ All-head (IsPutFrom passes) d ds put)
          (kept ds (All-tail (IsPutFrom passes) d ds put) (All-tail (λ (s : Sheet). s.number ≢ sheet.number) d ds others))

pub all_done : (passes : List (List Transcript)) (done rest sheets : List Sheet) → rest ≡ [] → done ++ rest ≡ sheets → All (IsPutFrom passes) done → All (IsPutFrom passes) sheets
all_done passes done rest sheets none e all = subst (All (IsPutFrom passes)) (sym (append-nil done) ∙ ap (λ (r : List Sheet). done ++ r) (sym none) ∙ e) all

pub in_middle : (P : Sheet → Type 0) (done rest sheets : List Sheet) (sheet : Sheet) → done ++ sheet ∷ rest ≡ sheets → All P sheets → P sheet
in_middle P done rest sheets sheet e all = of_front done (subst (All P) (sym e) all)
  where
    of_front : (front : List Sheet) → All P (front ++ sheet ∷ rest) → P sheet
    of_front [] every = All-head P sheet rest every
    of_front (s ∷ front) every = of_front front (All-tail P s (front ++ sheet ∷ rest) every)
