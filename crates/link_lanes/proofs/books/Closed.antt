-- The books of all lanes, and the account of the run.
use Rattle.std.proofs.Common.{◌≡◌, ◌≢◌, ℕ, zero, suc, ◌+◌, ◌≤◌, max, List, [], ◌∷◌, ◌++◌, Some, IsSome, All, Any, Contains, fold, map, slice_get, refl, sym, ap, subst, ◌∙◌, arith}
use Rattle.std.proofs.lemmas.List.{length-map}
use Rattle.std.proofs.Math.Nat.{le-max_left, le-max_right, max-le}
use Rattle.std.proofs.lemmas.List.Sums.{fold-append}
use Rattle.std.specs.List.{AllByRecursion, flat_map}
use Rattle.audit.specs.declared.account.Account.{Account}
use Rattle.audit.specs.declared.account.SessionEnd.TheVariants.{Refused}
use Rattle.audit.specs.declared.account.Transcript.{Transcript}
use Rattle.audit.specs.Printed.{transcripts_of}
use Rattle.audit.specs.broker.GoesOn.{GoesOn}
use Rattle.kbytes.proofs.Laws.{all_append}
use Rattle.kwire.specs.declared.frame.WireFault.TheVariants.{NoMemory as OutOfMemory}
use Rattle.partlog.specs.Moment.{moment_of}
use Rattle.audit.specs.broker.books.Told.{told}
use Rattle.shared_broker.specs.Passes.{BrokerView, PassView, transcripts_of as transcripts_in}
use Rattle.link_lanes.specs.books.LaneBook.{IsLaneBook, IsTranscriptOf, LaneBook, retired_numbers}
use Rattle.link_lanes.specs.books.LinkSession.{IsSessionOver}
use Rattle.link_lanes.specs.books.Shown.{ShownLink}
use Rattle.link_lanes.specs.books.Times.{once_below, times, total}
use Rattle.link_lanes.specs.books.Together.{AreAllBooks, AreInOrder, AreServed}
use Rattle.link_lanes.proofs.books.Counting.{times_joined}
use Rattle.link_lanes.proofs.books.Gathered.{AreMadeOf, all_told_same, any_left, any_right, made_of, none_open, zip_all, zip_found, zip_numbers}

abbrev pass_in : LaneBook → PassView
pass_in book = book.pass

abbrev ended_in : LaneBook → List Transcript
ended_in book = book.pass.ended

-- ---- the account's lists

-- the list of each pass, by its number
lists_made : (account : Account) (k : ℕ) (books : List LaneBook) → AreInOrder k books
    → All (λ (pass : PassView). slice_get account.passes pass.logs.number ≡ Some (map told (transcripts_in pass))) (map pass_in books)
    → AreMadeOf (λ (book : LaneBook). map told (transcripts_in book.pass)) k books account.passes
lists_made account k [] order all = tt
lists_made account k (book ∷ books) order all = (
  subst (λ (n : ℕ). slice_get account.passes n ≡ Some (map told (transcripts_in book.pass))) order.0 (all zero book.pass (omega arith)),
  lists_made account (k + 1) books order.1 (λ i d within. all (suc i) d (omega (arith, within))),
)

-- what is served has an end
ended_each : (broker : BrokerView) (book : LaneBook) → IsLaneBook broker [] book → AllByRecursion (λ (t : Transcript). IsSome t.end) book.pass.ended
ended_each broker book is = zip_all (IsTranscriptOf book.pass) (λ (t : Transcript). IsSome t.end) book.retired book.pass.ended (λ one t h. h.ended) is.served

-- a pass without an open transcript has those that are ended, and they are told as they are
told_each : (broker : BrokerView) (book : LaneBook) → IsLaneBook broker [] book → map told (transcripts_in book.pass) ≡ book.pass.ended
told_each broker book is =
    ap (map told) (none_open book.pass.ended book.pass.going is.idle) ∙ all_told_same book.pass.ended (ended_each broker book is)

map_each : (broker : BrokerView) (books : List LaneBook) → AllByRecursion (IsLaneBook broker []) books
    → map (λ (book : LaneBook). map told (transcripts_in book.pass)) books ≡ map ended_in books
map_each broker [] each = refl
map_each broker (book ∷ books) each =
    ap (λ (ts : List Transcript). ts ∷ map (λ (b : LaneBook). map told (transcripts_in b.pass)) books) (told_each broker book each.0)
    ∙ ap (λ (tss : List (List Transcript)). book.pass.ended ∷ tss) (map_each broker books each.1)

joined_map : {A B : Type 0} (f : A → List B) (xs : List A) → flat_map (λ (ys : List B). ys) (map f xs) ≡ flat_map f xs
joined_map f [] = refl
joined_map f (x ∷ xs) = ap (λ ys. f x ++ ys) (joined_map f xs)

-- ---- counting

-- what came into a lane's hands went out of them
numbers_each : (n : ℕ) (broker : BrokerView) (books : List LaneBook) → AllByRecursion (IsLaneBook broker []) books
    → total (λ (book : LaneBook). times n book.accepted) books + total (λ (book : LaneBook). times n book.taken) books
    ≡ total (λ (book : LaneBook). times n book.put) books + total (λ (book : LaneBook). times n (retired_numbers book)) books
numbers_each n broker [] each = refl
numbers_each n broker (book ∷ books) each = omega (arith, each.0.balanced n, numbers_each n broker books each.1)

-- the transcripts of a lane have the numbers that it retired
numbers_ended : (n : ℕ) (broker : BrokerView) (books : List LaneBook) → AllByRecursion (IsLaneBook broker []) books
    → total (λ (book : LaneBook). times n (map (λ (t : Transcript). t.number) book.pass.ended)) books ≡ total (λ (book : LaneBook). times n (retired_numbers book)) books
numbers_ended n broker [] each = refl
numbers_ended n broker (book ∷ books) each =
    let here : times n (map (λ (t : Transcript). t.number) book.pass.ended) ≡ times n (retired_numbers book) =
    ap (times n) (zip_numbers (IsTranscriptOf book.pass) (λ (one : ℕ × ShownLink). one.0) (λ (t : Transcript). t.number) book.retired book.pass.ended (λ one t h. h.number) each.0.served) in
    omega (arith, here, numbers_ended n broker books each.1)

-- ---- each link's transcript

module _ (account : Account) (one : ℕ × ShownLink) where
  abbrev IsIts : Transcript → Type 0
  IsIts t = (t.number ≡ one.0) × IsSessionOver account one.1 t

  its_any : (pass : PassView) (ts : List Transcript) → GoesOn pass.config pass.logs.parts pass.logs.clock account → Any (IsTranscriptOf pass one) ts → Any IsIts ts
  its_any pass ts on (k, t, within, at, h) = (k, t, within, at, (h.number, h.over account on))

  in_books : (broker : BrokerView) (books : List LaneBook) → AllByRecursion (IsLaneBook broker []) books
      → All (λ (pass : PassView). GoesOn broker.config pass.logs.parts pass.logs.clock account) (map pass_in books)
      → Any (λ (book : LaneBook). Contains book.retired one) books → Any IsIts (flat_map ended_in books)
  in_books broker [] each on any = absurd (omega (arith, any.2))
  in_books broker (book ∷ books) each on (zero, b, within, at, found) =
      let has : Contains book.retired one = subst (λ (l : LaneBook). Contains l.retired one) (sym at) found in
      let config : book.pass.config ≡ broker.config = ap (λ (b : BrokerView). b.config) each.0.made in
      let goes : GoesOn book.pass.config book.pass.logs.parts book.pass.logs.clock account =
      subst (λ c. GoesOn c book.pass.logs.parts book.pass.logs.clock account) (sym config) (on zero book.pass (omega arith)) in
      any_left IsIts book.pass.ended (flat_map ended_in books)
      (its_any book.pass book.pass.ended goes (zip_found (IsTranscriptOf book.pass) book.retired book.pass.ended one each.0.served has))
  in_books broker (book ∷ books) each on (suc k, b, within, at, found) =
      any_right IsIts book.pass.ended (flat_map ended_in books)
      (in_books broker books each.1 (λ i d less. on (suc i) d (omega (arith, less))) (k, b, omega (arith, within), at, found))

all_over : (account : Account) (broker : BrokerView) (books : List LaneBook) (ts : List Transcript) → flat_map ended_in books ≡ ts → AllByRecursion (IsLaneBook broker []) books
    → All (λ (pass : PassView). GoesOn broker.config pass.logs.parts pass.logs.clock account) (map pass_in books)
    → (retired : List (ℕ × ShownLink)) → AllByRecursion (λ one. Any (λ (book : LaneBook). Contains book.retired one) books) retired
    → AllByRecursion (λ (one : ℕ × ShownLink). Any (λ (t : Transcript). (t.number ≡ one.0) × IsSessionOver account one.1 t) ts) retired
all_over account broker books ts same each on [] found = tt
all_over account broker books ts same each on (one ∷ more) found =
    (subst (Any (IsIts account one)) same (in_books account one broker books each on found.0), all_over account broker books ts same each on more found.1)

told_joined : (broker : BrokerView) (books : List LaneBook) → AllByRecursion (IsLaneBook broker []) books
    → AllByRecursion (λ (t : Transcript). t.end ≢ Some (Refused OutOfMemory)) (flat_map ended_in books)
told_joined broker [] each = tt
told_joined broker (book ∷ books) each =
    let IsTold : Transcript → Type 0 = λ t. t.end ≢ Some (Refused OutOfMemory) in
    all_append IsTold book.pass.ended (flat_map ended_in books)
    (zip_all (IsTranscriptOf book.pass) IsTold book.retired book.pass.ended (λ one t h. h.told) each.0.served) (told_joined broker books each.1)

ended_joined : (broker : BrokerView) (books : List LaneBook) → AllByRecursion (IsLaneBook broker []) books → AllByRecursion (λ (t : Transcript). IsSome t.end) (flat_map ended_in books)
ended_joined broker [] each = tt
ended_joined broker (book ∷ books) each =
    all_append (λ (t : Transcript). IsSome t.end) book.pass.ended (flat_map ended_in books) (ended_each broker book each.0) (ended_joined broker books each.1)

-- ---- the moments

least_of_fold : (a : ℕ) (xs : List ℕ) → a ≤ fold max a xs
least_of_fold a [] = omega arith
least_of_fold a (x ∷ xs) = omega (arith, least_of_fold (max a x) xs, le-max_left a x)

fold_most : (a b most : ℕ) (xs : List ℕ) → a ≤ most → fold max b xs ≤ most → fold max a xs ≤ most
fold_most a b most [] le other = le
fold_most a b most (x ∷ xs) le other =
    fold_most (max a x) (max b x) most xs (max-le le (omega (arith, other, least_of_fold (max b x) xs, le-max_right b x))) other

ticks_within : (broker : BrokerView) (books : List LaneBook) (most : ℕ) → AllByRecursion (IsLaneBook broker []) books → AllByRecursion (λ (book : LaneBook). book.told ≤ most) books
    → (a : ℕ) → a ≤ most → fold max a (flat_map (λ (pass : PassView). pass.logs.ticked) (map pass_in books)) ≤ most
ticks_within broker [] most each told a le = le
ticks_within broker (book ∷ books) most each told a le =
    subst (λ (n : ℕ). n ≤ most) (sym (fold-append max a book.pass.logs.ticked (flat_map (λ (pass : PassView). pass.logs.ticked) (map pass_in books))))
    (ticks_within broker books most each.1 told.1 (fold max a book.pass.logs.ticked)
    (fold_most a 0 most book.pass.logs.ticked le (omega (arith, each.0.ticked, told.0))))

-- ---- all together

module _ (broker : BrokerView) (books : List LaneBook) (account : Account) (given : ℕ) (retired : List (ℕ × ShownLink)) (h : AreAllBooks broker books account given retired) where
  lists : account.passes ≡ map ended_in books
  lists =
      made_of (λ (book : LaneBook). map told (transcripts_in book.pass)) [] books account.passes (h.closed.count ∙ length-map books pass_in)
      (lists_made account 0 books h.order h.closed.transcripts) ∙ map_each broker books h.each

  transcripts : flat_map ended_in books ≡ transcripts_of account
  transcripts = sym (ap (flat_map (λ (ts : List Transcript). ts)) lists ∙ joined_map ended_in books)

  retired_once : (n : ℕ) → total (λ (book : LaneBook). times n (retired_numbers book)) books ≡ once_below given n
  retired_once n = omega (arith, numbers_each n broker books h.each, h.accepted n, h.handed_on n)

  one_each : (n : ℕ) → times n (map (λ (t : Transcript). t.number) (transcripts_of account)) ≡ once_below given n
  one_each n =
      ap (λ (ts : List Transcript). times n (map (λ (t : Transcript). t.number) ts)) (sym transcripts)
      ∙ times_joined n (λ (t : Transcript). t.number) ended_in books ∙ numbers_ended n broker books h.each ∙ retired_once n

  pub served : AreServed account given retired
  served = record {
    one = one_each;
    ended = subst (AllByRecursion (λ (t : Transcript). IsSome t.end)) transcripts (ended_joined broker books h.each);
    told = subst (AllByRecursion (λ (t : Transcript). t.end ≢ Some (Refused OutOfMemory))) transcripts (told_joined broker books h.each);
    once = λ n. h.back n ∙ retired_once n;
    over = all_over account broker books (transcripts_of account) transcripts h.each h.closed.goes_on retired h.found;
  }

  pub ticks : (moment : ℕ) → AllByRecursion (λ (book : LaneBook). book.told ≤ moment) books → moment_of account.clock ≤ moment
  ticks moment told = subst (λ (n : ℕ). n ≤ moment) (sym h.closed.moment) (ticks_within broker books moment h.each told 0 (omega arith))
