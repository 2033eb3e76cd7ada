-- The worked books: each comes of the moves of its pass, and the two go together.
use Rattle.std.proofs.Common.{negsuc, ◌≡◌, ◌≢◌, ℕ, ℤ, zero, suc, ◌≤◌, ◌<◌, pos, Bool, true, false, cond, eqb, List, [], ◌∷◌, length, map, Option, Some, None, unwrap_or, refl, sym, ap, subst, arith, inl, inr}
use Rattle.std.proofs.lemmas.Bool.{ne_eqb}
use Rattle.std.proofs.lemmas.Option.{slice_get_within}
use Rattle.std.specs.Prelude.{slice_get, count_by}
use Rattle.std.specs.List.{AllByRecursion}
use Rattle.partlog.specs.declared.event.PartEvent.{PartEvent}
use Rattle.partlog.specs.declared.event.PartEvent.TheVariants.{Append, Look, Shrink}
use Rattle.partlog.specs.History.{History}
use Rattle.partlog.specs.Lagging.{LeftLate}
use Rattle.partlog.specs.State.{state_of}
use Rattle.kbatch.specs.Batch.{IsBatch}
use Rattle.kbatch.specs.Stamp.{stamped}
use Rattle.kbatch.specs.declared.record.Record.{Record}
use Rattle.audit.specs.declared.account.CallHow.TheVariants.{AtOnce, Satisfied, Parked, Cut}
use Rattle.audit.specs.declared.account.SessionEnd.TheVariants.{Closed}
use Rattle.audit.specs.declared.account.Transcript.{Transcript}
use Rattle.audit.specs.Histories.{Owner, owner_of, clock_owner_of}
use Rattle.audit.specs.IsLawful.{IsLawful, is_won_by}
use Rattle.audit.specs.Worked.{at, followed}
use Rattle.kbytes.proofs.Laws.{some_is}
use Rattle.kanswer.specs.Decisions.{AskLog, Decision, Decides, append_outcome, fetch_outcome}
use Rattle.kwire.specs.Configuration.{Configuration}
use Rattle.kwire.specs.IsRequest.{IsRequest}
use Rattle.audit.specs.broker.Board.{Waiting, empty_history}
use Rattle.audit.specs.broker.GoesOn.{Longer, the_owner}
use Rattle.audit.specs.broker.Kept.{owners_at}
use Rattle.audit.specs.broker.Sound.{AreHistories}
use Rattle.audit.specs.broker.Timely.{events_at, pass_of}
use Rattle.audit.specs.broker.Worked.{waits_for_all}
use Rattle.audit.specs.broker.WorkedPlay.{batch, follow, produce}
use Rattle.audit.proofs.broker.Laws.{all_get, grown_self}
use Rattle.audit.specs.broker.books.Book.{Book, opening_book}
use Rattle.audit.specs.broker.books.IsBook.{IsBook}
use Rattle.audit.specs.broker.books.Owned.{NotOf, OthersAlone}
use Rattle.audit.specs.broker.books.Together.{AreTogether, GoesWith, IsAnswerableIn, account_of, all_calls_in}
use Rattle.audit.specs.broker.books.Underway.{Underway, begun_amid, book_amid, with_end}
use Rattle.audit.specs.broker.books.Accepting.{IsAccepting, carried_out, clock_seen, noted_next}
use Rattle.audit.specs.broker.books.Finishing.{IsDelayed, part_seen}
use Rattle.audit.specs.broker.books.Worked.{books_before, clock_looked, fetched, first_waits, follower, looked, none_waits, one_put, producer, satisfied_books, waiting_books}
use Rattle.audit.proofs.broker.books.Acceptings.{accepting_as, accepting_delayed, accepting_on, answered_book, called_accepting}
use Rattle.audit.proofs.broker.books.Closing.{books_lawful}
use Rattle.audit.proofs.broker.books.Coming.{others_grown, others_within, part_came, part_histories}
use Rattle.audit.proofs.broker.books.Finishings.{delayed_as, delayed_cut, delayed_parked, finishing_as, finishing_on, finishing_satisfied, finishing_won, waits_delayed}
use Rattle.audit.proofs.broker.books.Opening.{opened}
use Rattle.audit.proofs.broker.books.Passing.{all_entries_known}
use Rattle.audit.proofs.broker.books.Underways.{begun, ended, others_came}

-- ---- others' entries

pub another : (number by seq : ℕ) → by ≢ number → NotOf number (the_owner by seq)
another number by seq other s e =
    let o : ◌≡◌ {A = Owner} (record { by = by; seq = seq }) (record { by = number; seq = s }) = some_is (record { by = by; seq = seq }) (record { by = number; seq = s }) e in
    other (ap (λ (x : Owner). x.by) o)

pub zero_one : ◌≢◌ {A = ℕ} 0 1
zero_one e = absurd (omega (arith, e))

pub one_zero : ◌≢◌ {A = ℕ} 1 0
one_zero e = absurd (omega (arith, e))

pub small : 1 ≤ 64
small = omega arith

-- ---- the pass that produces

module _ (all : List ℕ) (one : Record) (is_batch : IsBatch batch (one ∷ [])) (is_request : IsRequest all produce) where
  abbrev asked : Decision
  asked = AskLog 0 (append_outcome (pos 3) 1 0 1 batch)

  abbrev transcript : Transcript
  transcript = record { number = 7; first = 0; calls = []; end = None }

  abbrev at_first : Underway
  at_first = begun_amid (opening_book followed 0) [] transcript all

  decided : Decides followed produce.ask (asked ∷ [])
  decided = (inr (one ∷ [], is_batch, refl), tt)

  accepted : IsAccepting (carried_out at_first asked) produce (asked ∷ []) 1 (noted_next at_first asked)
  accepted =
      accepting_on at_first produce (asked ∷ []) 0 []
      (called_accepting (opening_book followed 0) [] transcript all produce (asked ∷ []) refl refl is_request decided (begun (opening_book followed 0) 7 (opened followed 0 small)))
      asked refl

  -- its batch is put, and it waits
  abbrev put : Underway
  put = clock_seen (carried_out at_first asked)

  abbrev parked : Underway
  parked = with_end put Parked

  put_delayed : IsDelayed put (waits_for_all 0 batch)
  put_delayed = accepting_delayed (carried_out at_first asked) produce (asked ∷ []) (noted_next at_first asked) accepted refl

  pub producer_waits : IsBook (producer all [] [] Parked) (Some (waits_for_all 0 batch))
  producer_waits =
      delayed_parked parked (waits_for_all 0 batch)
      (delayed_as put (waits_for_all 0 batch) Parked put_delayed) refl refl

  pub producer_cut : IsBook (producer all [] [] (Cut None)) None
  producer_cut = delayed_cut put (waits_for_all 0 batch) put_delayed refl refl

  -- the follower fetches
  follower_came : OthersAlone 0 (one_put [] ∷ []) clock_looked (one_put fetched ∷ []) clock_looked
  follower_came = part_came 0 (one_put [] ∷ []) clock_looked 0 (one_put []) (one_put fetched) refl (record { followers = refl; more = fetched; bytes = []; events = refl; log = refl }) (one_zero, tt)

  later_histories : AreHistories followed (one_put fetched ∷ []) clock_looked
  later_histories = part_histories followed (one_put [] ∷ []) clock_looked 0 (one_put []) (one_put fetched) refl refl refl producer_waits.histories

  waits_still : IsBook (producer all fetched [] Parked) (Some (waits_for_all 0 batch))
  waits_still =
      others_came (producer all [] [] Parked) (Some (waits_for_all 0 batch)) (one_put fetched ∷ []) clock_looked
      (others_grown 0 (one_put [] ∷ []) (one_put fetched ∷ []) clock_looked clock_looked follower_came)
      (others_within 0 (one_put [] ∷ []) (one_put fetched ∷ []) clock_looked clock_looked follower_came refl) later_histories producer_waits

  -- it is won, and looks at the partition
  abbrev waiting : Underway
  waiting = record parked { parts = one_put fetched ∷ [] }

  abbrev satisfied : Underway
  satisfied = with_end (part_seen waiting 0) (Satisfied 1)

  pub producer_satisfied : IsBook (producer all looked (at 0 2 ∷ []) (Satisfied 1)) None
  producer_satisfied =
      let w = waits_for_all 0 batch in
      let states = state_of (one_put fetched) ∷ [] in
      let delayed = waits_delayed waiting w waits_still in
      finishing_satisfied satisfied w states 1
      (finishing_as (part_seen waiting 0) w None states (Satisfied 1)
      (finishing_on waiting w None [] (finishing_won waiting w delayed.0 delayed.1) 0 refl (λ none all_seen. omega arith))) refl refl

-- ---- the pass of the follower

module _ (frame : List ℕ) (is_request : IsRequest frame follow) where
  abbrev fetch : Decision
  fetch = AskLog 0 (fetch_outcome 1 (pos 1) (record { index = pos 0; offset = pos 1; log_start = negsuc 0; most = pos 1000 }) 0)

  abbrev fetching : Underway
  fetching = begun_amid (record (opening_book followed 1) { parts = one_put [] ∷ [] }) [] (record { number = 9; first = 0; calls = []; end = None }) frame

  -- the producer's batch was put
  producer_came : OthersAlone 1 (empty_history 1 ∷ []) [] (one_put [] ∷ []) []
  producer_came =
      part_came 1 (empty_history 1 ∷ []) [] 0 (empty_history 1) (one_put []) refl
      (record { followers = refl; more = Append 0 0 1 (length batch) ∷ []; bytes = stamped 0 batch; events = refl; log = refl }) (zero_one, tt)

  begun_behind : IsBook (record (opening_book followed 1) { parts = one_put [] ∷ []; transcripts = fetching.transcript ∷ [] }) None
  begun_behind =
      let book : Book = record (opening_book followed 1) { transcripts = fetching.transcript ∷ [] } in
      let at_first : IsBook book None = begun (opening_book followed 1) 9 (opened followed 1 small) in
      others_came book None (one_put [] ∷ []) [] (others_grown 1 (empty_history 1 ∷ []) (one_put [] ∷ []) [] [] producer_came)
      (others_within 1 (empty_history 1 ∷ []) (one_put [] ∷ []) [] [] producer_came refl)
      (part_histories followed (empty_history 1 ∷ []) [] 0 (empty_history 1) (one_put []) refl refl refl at_first.histories) at_first

  fetch_accepted : IsAccepting (carried_out fetching fetch) follow (fetch ∷ []) 1 (noted_next fetching fetch)
  fetch_accepted =
      accepting_on fetching follow (fetch ∷ []) 0 []
      (called_accepting (record (opening_book followed 1) { parts = one_put [] ∷ [] }) [] fetching.transcript frame follow (fetch ∷ []) refl refl is_request refl begun_behind) fetch refl

  abbrev answered : Underway
  answered = with_end (carried_out fetching fetch) AtOnce

  pub follower_answered : IsBook (follower frame) None
  follower_answered =
      ended (book_amid answered) [] (record answered.transcript { calls = answered.call ∷ [] }) Closed refl (λ cut. absurd cc)
      (answered_book answered follow (fetch ∷ []) (noted_next fetching fetch)
      (accepting_as (carried_out fetching fetch) follow (fetch ∷ []) 1 (noted_next fetching fetch) AtOnce fetch_accepted) refl refl)

-- ---- which books go together

abbrev finals : List History
finals = one_put looked ∷ []

-- the entries of the worked histories are those of the two passes
pub owner_below : (a b by seq n : ℕ) → a < n → Some (the_owner a b) ≡ Some (the_owner by seq) → by < n
owner_below a b by seq n lt e =
    let o : ◌≡◌ {A = Owner} (record { by = a; seq = b }) (record { by = by; seq = seq }) = some_is (record { by = a; seq = b }) (record { by = by; seq = seq }) (some_is (the_owner a b) (the_owner by seq) e) in
    omega (arith, lt, ap (λ (x : Owner). x.by) o)

in_part : (place by seq : ℕ) → slice_get (map owner_of (one_put looked).events) place ≡ Some (the_owner by seq) → by < 2
in_part zero by seq e = owner_below 0 0 by seq 2 (omega arith) e
in_part (suc zero) by seq e = owner_below 1 0 by seq 2 (omega arith) e
in_part (suc (suc zero)) by seq e = owner_below 0 0 by seq 2 (omega arith) e
in_part (suc (suc (suc place))) by seq e = absurd cc

in_clock : (n place by seq : ℕ) → 0 < n → slice_get (map clock_owner_of clock_looked) place ≡ Some (the_owner by seq) → by < n
in_clock n zero by seq lt e = owner_below 0 0 by seq n lt e
in_clock n (suc place) by seq lt e = absurd cc

in_none : (n place by seq : ℕ) (b : Bool) → 0 < n → slice_get (cond b (map clock_owner_of clock_looked) []) place ≡ Some (the_owner by seq) → by < n
in_none n place by seq true lt e = in_clock n place by seq lt e
in_none n place by seq false lt e = absurd cc

known : (part place by seq : ℕ) → slice_get (owners_at finals clock_looked part) place ≡ Some (the_owner by seq) → by < 2
known zero place by seq e = in_part place by seq e
known (suc part) place by seq e = in_none 2 place by seq (eqb (suc part) 64) (omega arith) e

first_known : (part place by seq : ℕ) → slice_get (owners_at (one_put [] ∷ []) clock_looked part) place ≡ Some (the_owner by seq) → by < 1
first_known zero zero by seq e = owner_below 0 0 by seq 1 (omega arith) e
first_known zero (suc place) by seq e = absurd cc
first_known (suc part) place by seq e = in_none 1 place by seq (eqb (suc part) 64) (omega arith) e

entries_known : (p : ℕ) (h : History) → slice_get finals p ≡ Some h → AllByRecursion (λ event. pass_of event < 2) h.events
entries_known zero h e = subst (λ (x : History). AllByRecursion (λ event. pass_of event < 2) x.events) (some_is (one_put looked) h e) (omega arith, (omega arith, (omega arith, tt)))
entries_known (suc p) h e = absurd cc

first_entries_known : (p : ℕ) (h : History) → slice_get (one_put [] ∷ []) p ≡ Some h → AllByRecursion (λ event. pass_of event < 1) h.events
first_entries_known zero h e = subst (λ (x : History). AllByRecursion (λ event. pass_of event < 1) x.events) (some_is (one_put []) h e) (omega arith, tt)
first_entries_known (suc p) h e = absurd cc

-- nobody was taken out
abbrev pub IsNoLeave : PartEvent → Type 0
IsNoLeave event = (by t : ℕ) (replica : ℤ) → event ≡ Shrink by replica t → ⊥

pub nobody_left : (followers : ℕ) (events : List PartEvent) → AllByRecursion IsNoLeave events → LeftLate followers events
nobody_left followers events none place by t replica e = absurd (all_get IsNoLeave events place (Shrink by replica t) none e by t replica refl)

nobody_left_finals : (p : ℕ) (h : History) → slice_get finals p ≡ Some h → LeftLate h.followers h.events
nobody_left_finals zero h e =
    subst (λ (x : History). LeftLate x.followers x.events) (some_is (one_put looked) h e)
    (nobody_left 1 (one_put looked).events ((λ by t replica is. absurd cc), ((λ by t replica is. absurd cc), ((λ by t replica is. absurd cc), tt))))
nobody_left_finals (suc p) h e = absurd cc

nobody_left_first : (p : ℕ) (h : History) → slice_get (one_put [] ∷ []) p ≡ Some h → LeftLate h.followers h.events
nobody_left_first zero h e = subst (λ (x : History). LeftLate x.followers x.events) (some_is (one_put []) h e) (nobody_left 1 (one_put []).events ((λ by t replica is. absurd cc), tt))
nobody_left_first (suc p) h e = absurd cc

-- behind what the follower saw the producer looked at its partition, and at the clock before that
looked_since : OthersAlone 1 (one_put fetched ∷ []) [] finals clock_looked
looked_since = record {
  each = λ p h e. in_first p h e;
  more = clock_looked;
  events = refl;
  others = (another 1 0 0 zero_one, tt);
}
  where
    in_first : (p : ℕ) (h : History) → slice_get (one_put fetched ∷ []) p ≡ Some h
        → (l : History) × (slice_get finals p ≡ Some l) × (longer : Longer h l) × AllByRecursion (λ event. pass_of event ≢ 1) longer.more
    in_first zero h e =
        subst (λ (x : History). (l : History) × (slice_get finals 0 ≡ Some l) × (longer : Longer x l) × AllByRecursion (λ event. pass_of event ≢ 1) longer.more) (some_is (one_put fetched) h e)
        (one_put looked, refl, record { followers = refl; more = Look 0 0 ∷ []; bytes = []; events = refl; log = refl }, (zero_one, tt))
    in_first (suc p) h e = absurd cc

pub no_waits : (k : ℕ) (w : Waiting) → none_waits k ≡ Some w → ⊥
no_waits k w e = absurd cc

-- a pass that saw everything
pub saw_all : (config : Configuration) (k : ℕ) (book : Book) → book.number ≡ k → book.config ≡ config → GoesWith config book.parts book.clock k book None
saw_all config k book number same = record {
  number = number;
  same = same;
  grown = grown_self book.parts book.clock;
  within = record {
    calls = λ part place seq e. slice_get_within (owners_at book.parts book.clock part) place (the_owner k seq) e;
    entries = λ part place event e whose. slice_get_within (events_at book.parts part) place event e;
  };
  still = λ w none. absurd (no_waits k w none);
}

module _ (all frame : List ℕ) where
  each_with : (k : ℕ) (book : Book) → slice_get (satisfied_books all frame) k ≡ Some book → GoesWith followed finals clock_looked k book (none_waits k)
  each_with zero book e =
      let first = producer all looked (at 0 2 ∷ []) (Satisfied 1) in
      subst (λ (b : Book). GoesWith followed finals clock_looked 0 b None) (some_is first book e) (saw_all followed 0 first refl refl)
  each_with (suc zero) book e =
      subst (λ (b : Book). GoesWith followed finals clock_looked 1 b None) (some_is (follower frame) book e) (record {
        number = refl;
        same = refl;
        grown = others_grown 1 (one_put fetched ∷ []) finals [] clock_looked looked_since;
        within = others_within 1 (one_put fetched ∷ []) finals [] clock_looked looked_since refl;
        still = λ w none. absurd (no_waits 1 w none);
      })
  each_with (suc (suc k)) book e = absurd cc

  counted : (winner : ℕ) → unwrap_or (slice_get (0 ∷ 1 ∷ []) winner) 0 ≡ count_by (is_won_by winner) (all_calls_in (satisfied_books all frame))
  counted zero = refl
  counted (suc zero) = refl
  counted (suc (suc winner)) = rw (ne_eqb 1 (suc (suc winner)) (λ e. omega (arith, e))) refl

  pub satisfied_together : (one : Record) → IsBatch batch (one ∷ []) → IsRequest all produce → AreTogether followed (satisfied_books all frame) none_waits finals clock_looked (0 ∷ 1 ∷ [])
  satisfied_together one is_batch is_request = record {
    histories = (producer_satisfied all one is_batch is_request).histories;
    each = each_with;
    known = known;
    known_entries = all_entries_known finals 2 entries_known;
    late = nobody_left_finals;
    counts = counted;
  }

  pub satisfied_each : (one : Record) → IsBatch batch (one ∷ []) → IsRequest all produce → IsRequest frame follow
      → (k : ℕ) (book : Book) → slice_get (satisfied_books all frame) k ≡ Some book → IsBook book (none_waits k)
  satisfied_each one is_batch is_produce is_follow zero book e =
      subst (λ (b : Book). IsBook b None) (some_is (producer all looked (at 0 2 ∷ []) (Satisfied 1)) book e) (producer_satisfied all one is_batch is_produce)
  satisfied_each one is_batch is_produce is_follow (suc zero) book e = subst (λ (b : Book). IsBook b None) (some_is (follower frame) book e) (follower_answered frame is_follow)
  satisfied_each one is_batch is_produce is_follow (suc (suc k)) book e = absurd cc

  pub satisfied_lawful : (one : Record) → IsBatch batch (one ∷ []) → IsRequest all produce → IsRequest frame follow → IsLawful (account_of followed (satisfied_books all frame) finals clock_looked (0 ∷ 1 ∷ []))
  satisfied_lawful one is_batch is_produce is_follow =
      books_lawful followed (satisfied_books all frame) none_waits finals clock_looked (0 ∷ 1 ∷ []) (satisfied_together one is_batch is_produce) (satisfied_each one is_batch is_produce is_follow)

  -- ---- which don't

  -- a look of the first pass stands behind what it saw
  pub unseen_apart : (waits : ℕ → Option Waiting) (wins : List ℕ) → AreTogether followed (waiting_books all frame) waits finals clock_looked wins → ⊥
  unseen_apart waits wins together =
      let within : 2 < 2 = (together.each 0 (producer all fetched [] Parked) refl).within.calls 0 2 0 refl in
      absurd (omega (arith, within))

  -- what waits is answerable, since the follower fetched
  pub answerable_apart : (wins : List ℕ) → AreTogether followed (waiting_books all frame) first_waits (one_put fetched ∷ []) clock_looked wins → ⊥
  answerable_apart wins together = (together.each 0 (producer all fetched [] Parked) refl).still (waits_for_all 0 batch) refl (inl (omega arith))

  -- the winner's calls are counted wrongly
  pub miscounted_apart : (waits : ℕ → Option Waiting) → AreTogether followed (satisfied_books all frame) waits finals clock_looked (1 ∷ []) → ⊥
  miscounted_apart waits together = let counts : 1 ≡ 0 = together.counts 0 in absurd (omega (arith, counts))

-- ---- before the follower fetched

module _ (all : List ℕ) (one : Record) (is_batch : IsBatch batch (one ∷ [])) (is_request : IsRequest all produce) where
  -- it waits, and isn't answerable
  waits_unanswered : IsAnswerableIn (one_put [] ∷ []) clock_looked (waits_for_all 0 batch) → ⊥
  waits_unanswered (inl enough) = let few : 1 ≤ 0 = enough in absurd (omega (arith, few))
  waits_unanswered (inr late) = let early : 100 ≤ 0 = late in absurd (omega (arith, early))

  first_with : (k : ℕ) (book : Book) → slice_get (books_before all Parked) k ≡ Some book → GoesWith followed (one_put [] ∷ []) clock_looked k book (first_waits k)
  first_with zero book e =
      let first = producer all [] [] Parked in
      subst (λ (b : Book). GoesWith followed (one_put [] ∷ []) clock_looked 0 b (first_waits 0)) (some_is first book e) (record {
        number = refl;
        same = refl;
        grown = grown_self first.parts first.clock;
        within = record {
          calls = λ part place seq there. slice_get_within (owners_at first.parts first.clock part) place (the_owner 0 seq) there;
          entries = λ part place event there whose. slice_get_within (events_at first.parts part) place event there;
        };
        still = λ w is answerable. waits_unanswered (subst (IsAnswerableIn (one_put [] ∷ []) clock_looked) (sym (some_is (waits_for_all 0 batch) w is)) answerable);
      })
  first_with (suc k) book e = absurd cc

  first_each : (k : ℕ) (book : Book) → slice_get (books_before all Parked) k ≡ Some book → IsBook book (first_waits k)
  first_each zero book e = subst (λ (b : Book). IsBook b (first_waits 0)) (some_is (producer all [] [] Parked) book e) (producer_waits all one is_batch is_request)
  first_each (suc k) book e = absurd cc

  pub waits_lawful : IsLawful (account_of followed (books_before all Parked) (one_put [] ∷ []) clock_looked [])
  waits_lawful =
      books_lawful followed (books_before all Parked) first_waits (one_put [] ∷ []) clock_looked []
      (record {
        histories = (producer_waits all one is_batch is_request).histories;
        each = first_with;
        known = first_known;
        known_entries = all_entries_known (one_put [] ∷ []) 1 first_entries_known;
        late = nobody_left_first;
        counts = λ winner. refl;
      }) first_each

  -- it was cut off, and nobody has ended the transcript
  cut_with : (k : ℕ) (book : Book) → slice_get (books_before all (Cut None)) k ≡ Some book → GoesWith followed (one_put [] ∷ []) clock_looked k book (none_waits k)
  cut_with zero book e =
      subst (λ (b : Book). GoesWith followed (one_put [] ∷ []) clock_looked 0 b None) (some_is (producer all [] [] (Cut None)) book e) (saw_all followed 0 (producer all [] [] (Cut None)) refl refl)
  cut_with (suc k) book e = absurd cc

  cut_each : (k : ℕ) (book : Book) → slice_get (books_before all (Cut None)) k ≡ Some book → IsBook book (none_waits k)
  cut_each zero book e = subst (λ (b : Book). IsBook b None) (some_is (producer all [] [] (Cut None)) book e) (producer_cut all one is_batch is_request)
  cut_each (suc k) book e = absurd cc

  pub cut_lawful : IsLawful (account_of followed (books_before all (Cut None)) (one_put [] ∷ []) clock_looked [])
  cut_lawful =
      books_lawful followed (books_before all (Cut None)) none_waits (one_put [] ∷ []) clock_looked []
      (record {
        histories = (producer_waits all one is_batch is_request).histories;
        each = cut_with;
        known = first_known;
        known_entries = all_entries_known (one_put [] ∷ []) 1 first_entries_known;
        late = nobody_left_first;
        counts = λ winner. refl;
      }) cut_each
