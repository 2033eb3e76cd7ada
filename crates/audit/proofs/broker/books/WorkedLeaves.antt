-- The worked books of a pass that took a follower out: it comes of the moves of its pass, and goes together with that of the producer.
use Rattle.std.proofs.Common.{◌≡◌, ℕ, zero, suc, ◌+◌, ◌≤◌, ◌<◌, ℤ, pos, List, [], ◌∷◌, length, Option, Some, None, refl, sym, subst, arith, append-nil, get_or}
use Rattle.std.specs.Prelude.{Contains, slice_get}
use Rattle.std.specs.List.{AllByRecursion}
use Rattle.kbatch.specs.Batch.{IsBatch}
use Rattle.kbatch.specs.Stamp.{stamped}
use Rattle.kbatch.specs.declared.record.Record.{Record}
use Rattle.partlog.specs.declared.clock_event.ClockEvent.{ClockEvent}
use Rattle.partlog.specs.declared.clock_event.ClockEvent.TheVariants as clocks
use Rattle.partlog.specs.declared.event.PartEvent.{PartEvent}
use Rattle.partlog.specs.declared.event.PartEvent.TheVariants.{Append, Shrink}
use Rattle.partlog.specs.History.{History}
use Rattle.partlog.specs.Lagging.{LagsAt, LeftLate}
use Rattle.audit.specs.declared.account.CallHow.TheVariants.{Cut}
use Rattle.audit.specs.Histories.{clock_owner_of, owner_of}
use Rattle.audit.specs.IsLawful.{IsLawful}
use Rattle.audit.specs.Worked.{followed}
use Rattle.kbytes.proofs.Laws.{some_is}
use Rattle.kwire.specs.IsRequest.{IsRequest}
use Rattle.audit.specs.broker.Board.{Waiting, empty_history}
use Rattle.audit.specs.broker.GoesOn.{AllLonger, Longer}
use Rattle.audit.specs.broker.Sound.{AreHistories}
use Rattle.audit.specs.broker.Timely.{events_at, pass_of}
use Rattle.audit.specs.broker.WorkedPlay.{batch, produce}
use Rattle.audit.specs.broker.books.Book.{Book, opening_book}
use Rattle.audit.specs.broker.books.IsBook.{IsBook}
use Rattle.audit.specs.broker.books.Owned.{OthersAlone}
use Rattle.audit.specs.broker.books.Together.{AreTogether, GoesWith, account_of}
use Rattle.audit.specs.broker.books.Worked.{clock_looked, none_waits, one_put, producer}
use Rattle.audit.specs.broker.books.WorkedLeaves.{clock_told, leave_books, left_at, ticker}
use Rattle.audit.proofs.broker.books.Closing.{books_lawful}
use Rattle.audit.proofs.broker.books.Coming.{clock_came, clock_histories, others_grown, others_within, part_came, part_histories}
use Rattle.audit.proofs.broker.books.Opening.{opened}
use Rattle.audit.proofs.broker.books.Passing.{IsOfSome, all_entries_known, all_known, others_between, ticked}
use Rattle.audit.proofs.broker.books.Underways.{taken_out}
use Rattle.audit.proofs.broker.books.WorkedBooks.{another, no_waits, one_zero, producer_cut, saw_all, small, zero_one}
use Rattle.audit.proofs.broker.books.WorkedWaits.{of_nobody, of_some, rises_none}

abbrev finals : List History
finals = one_put (left_at 30000) ∷ []

abbrev clock : List ClockEvent
clock = clock_told 30000

-- ---- the pass that told the clock

-- the batch was put, and the producer looked at the clock
producer_came : OthersAlone 1 (empty_history 1 ∷ []) [] (one_put [] ∷ []) []
producer_came =
    part_came 1 (empty_history 1 ∷ []) [] 0 (empty_history 1) (one_put []) refl
    (record { followers = refl; more = Append 0 0 1 (length batch) ∷ []; bytes = stamped 0 batch; events = refl; log = refl }) (zero_one, tt)

put_seen : IsBook (record (opening_book followed 1) { parts = one_put [] ∷ [] }) None
put_seen =
    let at_first : IsBook (opening_book followed 1) None = opened followed 1 small in
    others_between (opening_book followed 1) None (one_put [] ∷ []) [] producer_came (part_histories followed (empty_history 1 ∷ []) [] 0 (empty_history 1) (one_put []) refl refl refl at_first.histories) at_first

abbrev looking : Book
looking = record (opening_book followed 1) { parts = one_put [] ∷ []; clock = clock_looked }

look_seen : IsBook looking None
look_seen =
    let book : Book = record (opening_book followed 1) { parts = one_put [] ∷ [] } in
    others_between book None book.parts clock_looked (clock_came 1 book.parts [] clock_looked (another 1 0 0 zero_one, tt)) (clock_histories followed book.parts [] clock_looked rises_none put_seen.histories) put_seen

told : IsBook (ticker 30000 []) None
told = ticked looking None 30000 (omega arith) look_seen

-- the follower was taken out
leave_longer : AllLonger (one_put [] ∷ []) finals
leave_longer zero h e =
    subst (λ (x : History). (l : History) × (slice_get finals 0 ≡ Some l) × Longer x l) (some_is (one_put []) h e)
    (one_put (left_at 30000), refl, record { followers = refl; more = left_at 30000; bytes = []; events = refl; log = sym (append-nil (stamped 0 batch)) })
leave_longer (suc p) h e = absurd cc

the_leave : (part place : ℕ) (event : PartEvent) → slice_get (events_at finals part) place ≡ Some event → pass_of event ≡ 1 → length (events_at (one_put [] ∷ []) part) ≤ place → (replica : ℤ) × (event ≡ Shrink 1 replica 30000)
the_leave zero zero event e whose past = let past : 1 ≤ 0 = past in absurd (omega (arith, past))
the_leave zero (suc zero) event e whose past = (pos 1, sym (some_is (Shrink 1 (pos 1) 30000) event e))
the_leave zero (suc (suc place)) event e whose past = absurd cc
the_leave (suc part) place event e whose past = absurd cc

leave_histories : AreHistories followed finals clock
leave_histories = part_histories followed (one_put [] ∷ []) clock 0 (one_put []) (one_put (left_at 30000)) refl refl refl told.histories

pub ticker_left : IsBook (ticker 30000 (left_at 30000)) None
ticker_left =
    taken_out (ticker 30000 []) None 30000 finals (record { grown = leave_longer; taken = the_leave }) (0, omega arith, refl) leave_histories told

-- ---- they go together

-- it lagged then
late_then : (t : ℕ) → 30000 ≤ t → LagsAt 1 (Append 0 0 1 (length batch) ∷ []) t (pos 1)
late_then t le = record {
  follower = (omega arith, omega arith);
  in_sync = refl;
  behind = omega arith;
  late = omega (arith, le);
}

left_late : LeftLate 1 (one_put (left_at 30000)).events
left_late zero by t replica e = absurd cc
left_late (suc zero) by t replica e =
    let is : Shrink 1 (pos 1) 30000 ≡ Shrink by replica t = some_is (Shrink 1 (pos 1) 30000) (Shrink by replica t) e in
    let at : 30000 ≡ t = cc in
    let who : pos 1 ≡ replica = cc in
    subst (LagsAt 1 (Append 0 0 1 (length batch) ∷ []) t) who (late_then t (omega (arith, at)))
left_late (suc (suc place)) by t replica e = absurd cc

all_late : (part : ℕ) (h : History) → slice_get finals part ≡ Some h → LeftLate h.followers h.events
all_late zero h e = subst (λ (x : History). LeftLate x.followers x.events) (some_is (one_put (left_at 30000)) h e) left_late
all_late (suc part) h e = absurd cc

each_entry : (p : ℕ) (h : History) → slice_get finals p ≡ Some h → AllByRecursion (λ event. pass_of event < 2) h.events
each_entry zero h e = subst (λ (x : History). AllByRecursion (λ event. pass_of event < 2) x.events) (some_is (one_put (left_at 30000)) h e) (omega arith, (omega arith, tt))
each_entry (suc p) h e = absurd cc

each_known : (p : ℕ) (h : History) → slice_get finals p ≡ Some h → AllByRecursion (λ event. IsOfSome 2 (owner_of event)) h.events
each_known zero h e = subst (λ (x : History). AllByRecursion (λ event. IsOfSome 2 (owner_of event)) x.events) (some_is (one_put (left_at 30000)) h e) (of_some 0 2 (omega arith), (of_nobody 2, tt))
each_known (suc p) h e = absurd cc

clock_known : AllByRecursion (λ event. IsOfSome 2 (clock_owner_of event)) clock
clock_known = (of_some 0 2 (omega arith), (of_nobody 2, tt))

-- behind what the producer saw the clock was told and the follower left
leave_came : OthersAlone 0 (one_put [] ∷ []) clock_looked finals clock
leave_came =
    let parts = part_came 0 (one_put [] ∷ []) clock_looked 0 (one_put []) (one_put (left_at 30000)) refl (record { followers = refl; more = left_at 30000; bytes = []; events = refl; log = sym (append-nil (stamped 0 batch)) }) (one_zero, tt) in
    record { each = parts.each; more = clocks.Tick 30000 ∷ []; events = refl; others = ((λ seq e. absurd cc), tt) }

module _ (all : List ℕ) where
  each_with : (k : ℕ) (book : Book) → slice_get (leave_books all (ticker 30000 (left_at 30000))) k ≡ Some book → GoesWith followed finals clock k book (none_waits k)
  each_with zero book e =
      subst (λ (b : Book). GoesWith followed finals clock 0 b None) (some_is (producer all [] [] (Cut None)) book e) (record {
        number = refl;
        same = refl;
        grown = others_grown 0 (one_put [] ∷ []) finals clock_looked clock leave_came;
        within = others_within 0 (one_put [] ∷ []) finals clock_looked clock leave_came refl;
        still = λ w none. absurd (no_waits 0 w none);
      })
  each_with (suc zero) book e =
      subst (λ (b : Book). GoesWith followed finals clock 1 b None) (some_is (ticker 30000 (left_at 30000)) book e) (saw_all followed 1 (ticker 30000 (left_at 30000)) refl refl)
  each_with (suc (suc k)) book e = absurd cc

  pub leave_together : AreTogether followed (leave_books all (ticker 30000 (left_at 30000))) none_waits finals clock []
  leave_together = record {
    histories = leave_histories;
    each = each_with;
    known = all_known finals clock 2 each_known clock_known;
    known_entries = all_entries_known finals 2 each_entry;
    late = all_late;
    counts = λ winner. refl;
  }

  each_book : (one : Record) → IsBatch batch (one ∷ []) → IsRequest all produce → (k : ℕ) (book : Book) → slice_get (leave_books all (ticker 30000 (left_at 30000))) k ≡ Some book → IsBook book (none_waits k)
  each_book one is_batch is_request zero book e = subst (λ (b : Book). IsBook b None) (some_is (producer all [] [] (Cut None)) book e) (producer_cut all one is_batch is_request)
  each_book one is_batch is_request (suc zero) book e = subst (λ (b : Book). IsBook b None) (some_is (ticker 30000 (left_at 30000)) book e) ticker_left
  each_book one is_batch is_request (suc (suc k)) book e = absurd cc

  pub leave_lawful : (one : Record) → IsBatch batch (one ∷ []) → IsRequest all produce → IsLawful (account_of followed (leave_books all (ticker 30000 (left_at 30000))) finals clock [])
  leave_lawful one is_batch is_request = books_lawful followed (leave_books all (ticker 30000 (left_at 30000))) none_waits finals clock [] leave_together (each_book one is_batch is_request)

  -- ---- which don't

  -- a millisecond before it lagged
  pub early_apart : (waits : ℕ → Option Waiting) (wins : List ℕ) → AreTogether followed (leave_books all (ticker 29999 (left_at 29999))) waits (one_put (left_at 29999) ∷ []) (clock_told 29999) wins → ⊥
  early_apart waits wins together =
      let lagged = together.late 0 (one_put (left_at 29999)) refl 1 1 29999 (pos 1) refl in
      let late : 0 + 30000 ≤ 29999 = lagged.late in
      absurd (omega (arith, late))

  -- the pass that took it out doesn't know of it
  pub unseen_apart : (waits : ℕ → Option Waiting) (wins : List ℕ) → AreTogether followed (leave_books all (ticker 30000 [])) waits finals clock wins → ⊥
  unseen_apart waits wins together =
      let within : 1 < 1 = (together.each 1 (ticker 30000 []) refl).within.entries 0 1 (Shrink 1 (pos 1) 30000) refl refl in
      absurd (omega (arith, within))

-- the clock was never told that moment
pub untold_no_book : (waits : Option Waiting) → IsBook (ticker 30001 (left_at 30000)) waits → ⊥
untold_no_book waits h =
    let told : Contains (30001 ∷ []) 30000 = h.timely.shrinks 0 1 30000 (pos 1) refl in
    never told.0 told.1 told.2
  where
    never : (i : ℕ) → i < 1 → ◌≡◌ {A = ℕ} (get_or (30001 ∷ []) i 30000) 30000 → ⊥
    never zero less is = absurd (omega (arith, is))
    never (suc i) less is = absurd (omega (arith, less))
