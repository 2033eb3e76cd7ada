-- The numbers before each entry of a history, and what was readable there.
use Rattle.std.proofs.Common.{◌≡◌, ℕ, zero, suc, ℤ, pos, negsuc, ◌+◌, ◌-◌, get_or, ◌<◌, ◌≤◌, true, List, [], ◌∷◌, ◌++◌, length, take, drop, filter, Some, None, refl, sym, ap, subst, ◌∙◌, arith, inl, inr, append-nil, add-one, length-append}
use Rattle.std.specs.Prelude.{slice_get, if◌then◌else◌, nat_le}
use Rattle.std.proofs.lemmas.Bool.{cases_lt}
use Rattle.std.proofs.lemmas.Bool.Decides.{nat_tests}
use Rattle.std.proofs.lemmas.List.{take-append-drop, take_all, length-drop}
use Rattle.std.proofs.lemmas.Option.{slice_get_within}
use Rattle.std.proofs.lemmas.List.Elements.{All-drop, filter-append}
use Rattle.partlog.specs.declared.event.PartEvent.{PartEvent}
use Rattle.partlog.specs.declared.numbers.Numbers.{Numbers}
use Rattle.partlog.specs.Added.{bytes_of, log_end_of}
use Rattle.partlog.specs.Batches.{StoredBatch, batches_after, batches_of, next_offset}
use Rattle.partlog.specs.Fallen.{NoneFell}
use Rattle.partlog.specs.Gauges.{bytes_in, batches_below, numbers_of}
use Rattle.partlog.specs.History.{History}
use Rattle.partlog.specs.Kept.{IsDense, IsKept}
use Rattle.partlog.specs.Readable.{IsReadable}
use Rattle.partlog.specs.Rows.{IsRising}
use Rattle.partlog.specs.Start.{start_of}
use Rattle.partlog.specs.State.{PartState, state_of, state_before}
use Rattle.partlog.specs.Taken.{batches_past, batches_upto}
use Rattle.partlog.proofs.Laws.{batches-append, batches-take, rising-batches}
use Rattle.kanswer.specs.Waiting.{is_consumer}
use Rattle.kanswer.specs.Answer.{is_readable}
use Rattle.kbytes.proofs.Laws.{get_front, get_seam, some_is}
use Rattle.audit.specs.retelling.NumbersUpTo.{numbers_upto}
use Rattle.audit.proofs.retelling.ByPoints.{item_there, none_there}
use Rattle.audit.proofs.retelling.Entries.{whole_front}

-- ---- the numbers

pub numbers_long : (h : History) (n : ℕ) → length (numbers_upto h n) ≡ n
numbers_long h zero = refl
numbers_long h (suc n) = omega (arith, length-append (numbers_upto h n) (numbers_of (state_before h n) ∷ []), numbers_long h n)

pub numbers_at : (h : History) (n k : ℕ) → k < n → slice_get (numbers_upto h n) k ≡ Some (numbers_of (state_before h k))
numbers_at h zero k lt = absurd (omega (arith, lt))
numbers_at h (suc n) k lt = elim (cases_lt k n) [
  | inl less ↦ get_front (numbers_upto h n) (numbers_of (state_before h n) ∷ []) k (numbers_of (state_before h k)) (numbers_at h n k less)
  | inr more ↦
      let last : k ≡ n = omega (arith, lt, more) in
      ap (slice_get (numbers_upto h (suc n))) (last ∙ sym (numbers_long h n)) ∙ get_seam (numbers_upto h n) [] (numbers_of (state_before h n))
      ∙ ap (λ (m : ℕ). Some (numbers_of (state_before h m))) (sym last)
]

-- a number that is found among them, and one that isn't
pub found_before : (h : History) (numbers : List Numbers) (k : ℕ) (n : Numbers) → numbers ≡ numbers_upto h (length h.events + 1) → Some n ≡ slice_get numbers k → (k ≤ length h.events) × (n ≡ numbers_of (state_before h k))
found_before h numbers k n stand is =
    let long = ap length stand ∙ numbers_long h (length h.events + 1) in
    let lt : k < length h.events + 1 = omega (arith, slice_get_within numbers k n (sym is), long) in
    (omega (arith, lt), some_is n (numbers_of (state_before h k)) (is ∙ ap (λ (ns : List Numbers). slice_get ns k) stand ∙ numbers_at h (length h.events + 1) k lt))

pub none_behind : (h : History) (numbers : List Numbers) (k : ℕ) → numbers ≡ numbers_upto h (length h.events + 1) → None ≡ slice_get numbers k → length h.events ≤ k
none_behind h numbers k stand is = elim (cases_lt k (length h.events + 1)) [
  | inl less ↦ absurd (differ (is ∙ ap (λ (ns : List Numbers). slice_get ns k) stand ∙ numbers_at h (length h.events + 1) k less))
  | inr more ↦ omega (arith, more)
]
  where
    differ : {n : Numbers} → None ≡ Some n → ⊥
    differ e = cc

pub past_is_whole : (h : History) (k : ℕ) → length h.log ≡ bytes_of h.events → length h.events ≤ k → state_before h k ≡ state_of h
past_is_whole h k whole le = ap state_of (whole_front h k whole le)

pub drop_get : {X : Type 0} (xs : List X) (k : ℕ) → slice_get (drop 1 xs) k ≡ slice_get xs (k + 1)
drop_get [] k = refl
drop_get (x ∷ xs) k = ap (slice_get (x ∷ xs)) (sym (add-one k))

-- the item at a place of what stands behind the first
pub behind_first : {X : Type 0} (xs ys : List X) (k : ℕ) (x : X) → xs ≡ ys → k < length (take (length xs - 1) (drop 1 xs)) → x ≡ get_or (take (length xs - 1) (drop 1 xs)) k x → Some x ≡ slice_get ys (k + 1)
behind_first xs ys k x same lt is =
    let tail : take (length xs - 1) (drop 1 xs) ≡ drop 1 ys = take_all (length xs - 1) (drop 1 xs) (omega (arith, length-drop 1 xs)) ∙ ap (drop 1) same in
    sym (sym (drop_get ys k) ∙ ap (λ (l : List _). slice_get l k) (sym tail) ∙ item_there (take (length xs - 1) (drop 1 xs)) k x lt is)

pub none_behind_first : {X : Type 0} (xs ys : List X) (k : ℕ) → xs ≡ ys → length (take (length xs - 1) (drop 1 xs)) ≤ k → None ≡ slice_get ys (k + 1)
none_behind_first xs ys k same le =
    let tail : take (length xs - 1) (drop 1 xs) ≡ drop 1 ys = take_all (length xs - 1) (drop 1 xs) (omega (arith, length-drop 1 xs)) ∙ ap (drop 1) same in
    sym (sym (drop_get ys k) ∙ ap (λ (l : List _). slice_get l k) (sym tail) ∙ none_there (take (length xs - 1) (drop 1 xs)) k le)

-- none of them is above that of the whole
pub not_above : (h : History) (k : ℕ) (n whole : Numbers) → length h.log ≡ bytes_of h.events → NoneFell (numbers_of (state_before h k)) (numbers_of (state_before h (length h.events)))
    → n ≡ numbers_of (state_before h k) → whole ≡ numbers_of (state_of h) → NoneFell n whole
not_above h k n whole sized fell is all =
    subst (λ (m : Numbers). NoneFell m whole) (sym is) (subst (λ (m : Numbers). NoneFell (numbers_of (state_before h k)) m) (ap numbers_of (past_is_whole h (length h.events) sized (omega arith)) ∙ sym all) fell)

-- ---- where reading begins

later : (h : History) (k : ℕ) → batches_of h.events h.log ≡ (state_before h k).batches ++ batches_after (take k h.events) (drop k h.events) (drop (bytes_of (take k h.events)) h.log)
later h k =
    ap (λ (es : List PartEvent). batches_of es h.log) (sym (take-append-drop k h.events))
    ∙ batches-append [] (take k h.events) (drop k h.events) h.log
    ∙ ap (λ (bs : List StoredBatch). bs ++ batches_after (take k h.events) (drop k h.events) (drop (bytes_of (take k h.events)) h.log)) (sym (batches-take (bytes_of (take k h.events)) [] (take k h.events) h.log (omega arith)))

below_less : (high : ℕ) (b : StoredBatch) (bs : List StoredBatch) → high < next_offset b → batches_below high (b ∷ bs) ≡ batches_below high bs
below_less high b bs lt = grind (arith, nat_tests)

none_below : (offset base : ℕ) (bs : List StoredBatch) → IsRising base bs → offset ≤ base → batches_below offset bs ≡ []
none_below offset base [] rising le = refl
none_below offset base (b ∷ bs) rising le =
    below_less offset b bs (omega (arith, rising.0, rising.1, le)) ∙ none_below offset (next_offset b) bs rising.2 (omega (arith, rising.0, le))

-- an offset that was in range stands where it stood
pub start_stays : (h : History) (k offset : ℕ) → IsKept h.log h.events → offset ≤ log_end_of (take k h.events) → start_of offset (state_of h) ≡ start_of offset (state_before h k)
start_stays h k offset kept le =
    let xs : List StoredBatch = (state_before h k).batches in
    let ys : List StoredBatch = batches_after (take k h.events) (drop k h.events) (drop (bytes_of (take k h.events)) h.log) in
    let rising = rising-batches (take k h.events) (drop k h.events) (drop (bytes_of (take k h.events)) h.log) (All-drop IsDense k h.events kept.dense) in
    ap (λ (bs : List StoredBatch). bytes_in (batches_below offset bs)) (later h k)
    ∙ ap bytes_in (filter-append (λ (b : StoredBatch). nat_le (next_offset b) offset) xs ys
    ∙ ap (λ (bs : List StoredBatch). batches_below offset xs ++ bs) (none_below offset (log_end_of (take k h.events)) ys rising le) ∙ append-nil (batches_below offset xs))

-- ---- what a replica could read

keeps_all : {X : Type 0} (xs : List X) → filter (λ _. true) xs ≡ xs
keeps_all [] = refl
keeps_all (x ∷ xs) = ap (λ (ys : List _). x ∷ ys) (keeps_all xs)

-- of the batches of a log, those of an earlier state
pub replica_read : (replica : ℤ) (start : ℕ) (batches : List StoredBatch) (state : PartState) → IsReadable batches state
    → batches_past start (batches_upto (if is_consumer replica then (numbers_of state).visible else (numbers_of state).bytes) batches) ≡ filter (is_readable replica state) (batches_past start state.batches)
replica_read (pos n) start batches state readable = readable.all start ∙ sym (keeps_all (batches_past start state.batches))
replica_read (negsuc n) start batches state readable = readable.visible start
