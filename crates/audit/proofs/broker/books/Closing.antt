-- The books of all passes come to a lawful account.
use Rattle.std.proofs.Common.{◌≡◌, ℕ, zero, suc, ◌<◌, ℤ, List, [], ◌∷◌, ◌++◌, length, map, Option, Some, None, unwrap_or, refl, sym, ap, subst, ◌∙◌, arith, inl, inr, append_assoc, append-nil}
use Rattle.std.proofs.lemmas.Grind.{flat_map-append}
use Rattle.std.proofs.lemmas.Option.{slice_get-map}
use Rattle.std.specs.Option.{option_map}
use Rattle.std.specs.Prelude.{slice_get, count_by}
use Rattle.std.specs.List.{AllByRecursion, flat_map}
use Rattle.std.specs.List.Sorted.{IsStrictlyIncreasing}
use Rattle.partlog.specs.declared.clock_event.ClockEvent.{ClockEvent}
use Rattle.partlog.specs.declared.event.PartEvent.{PartEvent}
use Rattle.partlog.specs.declared.event.PartEvent.TheVariants.{Follow, Shrink}
use Rattle.partlog.specs.History.{History}
use Rattle.partlog.specs.Moment.{moment_of}
use Rattle.audit.specs.declared.account.Account.{Account}
use Rattle.audit.specs.declared.account.Call.{Call}
use Rattle.audit.specs.declared.account.PartAccount.{PartAccount}
use Rattle.audit.specs.declared.account.CallHow.{CallHow}
use Rattle.audit.specs.declared.account.Point.{Point}
use Rattle.audit.specs.declared.account.Transcript.{Transcript}
use Rattle.audit.specs.Histories.{AreNotLater, HadLagged, Owner, event_at, event_in, owners_of, part_account, points_of, calls_in, calls_of, call_of}
use Rattle.audit.specs.IsLawful.{IsLawful, FollowOn, is_point, is_won_by, places_in}
use Rattle.audit.specs.LawfulCall.{IsLawfulCall, Completes, operation_in, operation_parts, shown_at_last}
use Rattle.kbytes.proofs.Laws.{get_there}
use Rattle.kanswer.specs.Waiting.{Shown, values_of}
use Rattle.kwire.specs.Configuration.{Configuration}
use Rattle.opcond.specs.Operation.{Operation}
use Rattle.opcond.specs.Tally.{IsAnswerable}
use Rattle.audit.specs.broker.Board.{Waiting, empty_history}
use Rattle.audit.specs.broker.GoesOn.{GoesOn, the_owner}
use Rattle.audit.specs.broker.Kept.{owners_at}
use Rattle.audit.specs.broker.Sound.{AllBelow, AreHistories, IsWaiting}
use Rattle.audit.specs.broker.Timely.{IsTimely, events_at, pass_of}
use Rattle.audit.proofs.broker.Laws.{IsTimelyEvent, all_from_get, all_get, all_on, event_on, flat_points, followers_map, get_map, goes_back, last_shown, map_get, push_get, rows_seen, timely_event, was_there, whole_logs}
use Rattle.audit.specs.broker.books.Book.{Book}
use Rattle.audit.specs.broker.books.IsBook.{IsBook, IsFinished, Stand, with_call}
use Rattle.audit.specs.broker.books.Owned.{AreOwn}
use Rattle.audit.specs.broker.books.Together.{AreTogether, IsAnswerableIn, account_of, all_calls_in}
use Rattle.audit.specs.broker.books.Told.{told}
use Rattle.audit.proofs.broker.books.Ending.{told_calls}
use Rattle.audit.proofs.broker.books.Growing.{account_goes_on, as_many, owner_seen, owner_stands, owners_same}

-- ---- the calls of a pass, as they are told

told_all : (books : List Book) → flat_map calls_in (map (λ book. map told book.transcripts) books) ≡ all_calls_in books
told_all [] = refl
told_all (book ∷ books) =
    ap (λ (calls : List Call). calls ++ flat_map calls_in (map (λ b. map told b.transcripts) books)) (told_calls book.transcripts)
    ∙ ap (λ (calls : List Call). calls_in book.transcripts ++ calls) (told_all books)

-- the last call of the last transcript is the last of all
pub calls_with : (front : List Transcript) (transcript : Transcript) (call : Call) → calls_in (with_call front transcript call) ≡ (calls_in front ++ transcript.calls) ++ call ∷ []
calls_with front transcript call =
    let last : Transcript = record transcript { calls = transcript.calls ++ call ∷ [] } in
    flat_map-append (λ (t : Transcript). t.calls) front (last ∷ [])
    ∙ ap (λ (calls : List Call). calls_in front ++ calls) (append-nil (transcript.calls ++ call ∷ []))
    ∙ sym (append_assoc (calls_in front) transcript.calls (call ∷ []))

-- ---- the last states

module _ (config : Configuration) (books : List Book) (waits : ℕ → Option Waiting) (finals : List History) (clock : List ClockEvent) (wins : List ℕ) (together : AreTogether config books waits finals clock wins) (each : (k : ℕ) (book : Book) → slice_get books k ≡ Some book → IsBook book (waits k)) where
  abbrev account : Account
  account = account_of config books finals clock wins

  -- it goes on from what each pass saw
  goes_on : (k : ℕ) (book : Book) → slice_get books k ≡ Some book → GoesOn book.config book.parts book.clock account
  goes_on k book e =
      let with_it = together.each k book e in
      subst (λ (c : Configuration). GoesOn c book.parts book.clock account) (sym with_it.same)
      (goes_back config book.parts finals book.clock clock account with_it.grown (account_goes_on config finals clock account refl refl refl))

  calls_at : (k : ℕ) (book : Book) → slice_get books k ≡ Some book → calls_of account k ≡ calls_in book.transcripts
  calls_at k book e =
      ap (λ (o : Option (List Transcript)). calls_in (unwrap_or o [])) (map_get (λ (b : Book). map told b.transcripts) books k book e) ∙ told_calls book.transcripts

  none_at : (k : ℕ) → slice_get books k ≡ None → calls_of account k ≡ []
  none_at k none = ap (λ (o : Option (List Transcript)). calls_in (unwrap_or o [])) (none_map books k none)
    where
      none_map : (bs : List Book) (i : ℕ) → slice_get bs i ≡ None → slice_get (map (λ (b : Book). map told b.transcripts) bs) i ≡ None
      none_map [] i e = refl
      none_map (b ∷ bs) zero e = absurd cc
      none_map (b ∷ bs) (suc i) e = none_map bs i e

  -- the book in which a call stands
  book_with : (pass seq : ℕ) (call : Call) → call_of account pass seq ≡ Some call → (book : Book) × (slice_get books pass ≡ Some book) × (slice_get (calls_in book.transcripts) seq ≡ Some call)
  book_with pass seq call e = by_case (slice_get books pass) refl
    where
      by_case : (o : Option Book) → slice_get books pass ≡ o → (book : Book) × (slice_get books pass ≡ Some book) × (slice_get (calls_in book.transcripts) seq ≡ Some call)
      by_case None is =
          let nothing : slice_get [] seq ≡ Some call = sym (ap (λ (calls : List Call). slice_get calls seq) (none_at pass is)) ∙ e in
          absurd cc
      by_case (Some book) is = (book, is, sym (ap (λ (calls : List Call). slice_get calls seq) (calls_at pass book is)) ∙ e)

  -- ---- entries

  same_owners : (part : ℕ) → owners_of account part ≡ owners_at finals clock part
  same_owners part = owners_same finals account refl part

  -- the book of a pass that left an entry
  book_of : (part place by seq : ℕ) → slice_get (owners_at finals clock part) place ≡ Some (the_owner by seq) → (book : Book) × (slice_get books by ≡ Some book)
  book_of part place by seq there =
      let nobody : Book = record { config = config; number = 0; parts = []; clock = []; transcripts = [] } in
      (unwrap_or (slice_get books by) nobody, get_there books by nobody (together.known part place by seq there))

  own_of : (k : ℕ) (book : Book) → slice_get books k ≡ Some book → AreOwn (owners_at book.parts book.clock) k (map points_of (calls_in book.transcripts))
  own_of k book e = subst (λ (n : ℕ). AreOwn (owners_at book.parts book.clock) n (map points_of (calls_in book.transcripts))) (together.each k book e).number (each k book e).own

  -- an entry that the pass itself saw
  left_in : (book : Book) (part place by seq : ℕ) → slice_get books by ≡ Some book → slice_get (owners_at finals clock part) place ≡ Some (the_owner by seq)
      → (call : Call) × (call_of account by seq ≡ Some call) × (count_by (is_point part place) (points_of call) ≡ 1)
  left_in book part place by seq at there =
      let with_it = together.each by book at in
      let found = (own_of by book at).left part place seq (owner_seen book.parts finals book.clock clock with_it.grown part place (the_owner by seq) (with_it.within.calls part place seq there) there) in
      let call = get_map points_of (calls_in book.transcripts) seq found.0 found.1 in
      (call.0, ap (λ (calls : List Call). slice_get calls seq) (calls_at by book at) ∙ call.1, ap (count_by (is_point part place)) call.2 ∙ found.2)

  entry_left : (part place by seq : ℕ) → slice_get (owners_of account part) place ≡ Some (the_owner by seq)
      → (call : Call) × (call_of account by seq ≡ Some call) × (count_by (is_point part place) (points_of call) ≡ 1)
  entry_left part place by seq e =
      let there : slice_get (owners_at finals clock part) place ≡ Some (the_owner by seq) = sym (ap (λ (os : List (Option Owner)). slice_get os place) (same_owners part)) ∙ e in
      let book = book_of part place by seq there in
      left_in book.0 part place by seq book.1 there

  points_owned : (pass seq : ℕ) (call : Call) → call_of account pass seq ≡ Some call
      → AllByRecursion (λ point. slice_get (owners_of account point.part) point.place ≡ Some (the_owner pass seq)) (points_of call)
  points_owned pass seq call e =
      let found = book_with pass seq call e in
      let book = found.0 in
      let with_it = together.each pass book found.1 in
      all_on (λ (point : Point). slice_get (owners_at book.parts book.clock point.part) point.place ≡ Some (the_owner pass seq))
      (λ (point : Point). slice_get (owners_of account point.part) point.place ≡ Some (the_owner pass seq))
      (λ point is. ap (λ (os : List (Option Owner)). slice_get os point.place) (same_owners point.part)
      ∙ owner_stands book.parts finals book.clock clock with_it.grown point.part point.place (the_owner pass seq) is)
      (points_of call) ((own_of pass book found.1).points seq (points_of call) (map_get points_of (calls_in book.transcripts) seq call found.2))

  -- ---- moments

  -- the events of a part are those of its history
  event_is : (part place : ℕ) → event_at account (record { part = part; place = place }) ≡ slice_get (events_at finals part) place
  event_is part place = ap (λ (o : Option PartAccount). event_in o place) (slice_get-map part_account finals part) ∙ by_case (slice_get finals part)
    where
      by_case : (o : Option History) → event_in (option_map part_account o) place ≡ slice_get ((unwrap_or o (empty_history 0)).events) place
      by_case None = refl
      by_case (Some h) = refl

  had_lagged : (part place by t : ℕ) (replica : ℤ) → slice_get (events_at finals part) place ≡ Some (Shrink by replica t) → HadLagged (slice_get account.parts part) place t replica
  had_lagged part place by t replica there = subst (λ (o : Option PartAccount). HadLagged o place t replica) (sym (slice_get-map part_account finals part)) (by_case (slice_get finals part) refl there)
    where
      by_case : (o : Option History) → slice_get finals part ≡ o → slice_get ((unwrap_or o (empty_history 0)).events) place ≡ Some (Shrink by replica t) → HadLagged (option_map part_account o) place t replica
      by_case None is at = absurd cc
      by_case (Some h) is at = together.late part h is place by t replica at

  -- the book of the pass that left an entry, whether a call left it or not
  book_by : (part place : ℕ) (event : PartEvent) → slice_get (events_at finals part) place ≡ Some event → (book : Book) × (slice_get books (pass_of event) ≡ Some book)
  book_by part place event there =
      let nobody : Book = record { config = config; number = 0; parts = []; clock = []; transcripts = [] } in
      (unwrap_or (slice_get books (pass_of event)) nobody, get_there books (pass_of event) nobody (together.known_entries part place event there))

  timely_in : (k : ℕ) (book : Book) → slice_get books k ≡ Some book → IsTimely k book.parts book.clock (map points_of (calls_in book.transcripts))
  timely_in k book e = subst (λ (n : ℕ). IsTimely n book.parts book.clock (map points_of (calls_in book.transcripts))) (together.each k book e).number (each k book e).timely

  -- the pass saw it, and what its calls ask of it holds by the final clock
  in_time : (part place : ℕ) (event : PartEvent) → slice_get (events_at finals part) place ≡ Some event
      → (book : Book) × (slice_get books (pass_of event) ≡ Some book) × IsTimelyEvent (pass_of event) clock (map points_of (calls_in book.transcripts)) event
  in_time part place event there =
      let k = pass_of event in
      let found = book_by part place event there in
      let book = found.0 in
      let rows = map points_of (calls_in book.transcripts) in
      let with_it = together.each k book found.1 in
      let saw = was_there book.parts finals with_it.grown.each part place event (with_it.within.entries part place event there refl) there in
      let was = timely_event k book.parts book.clock rows (timely_in k book found.1) part place event saw in
      let own = own_of k book found.1 in
      let on = event_on k book.clock with_it.grown.more rows event (rows_seen k book.parts book.clock rows own.points) was in
      (book, found.1, subst (λ (events : List ClockEvent). IsTimelyEvent k events rows event) (sym with_it.grown.events) on)

  -- an earlier call of the same pass saw the clock no later
  follow_late : (part place by seq offset t : ℕ) (replica : ℤ) → slice_get (events_at finals part) place ≡ Some (Follow by seq replica offset t) → (before : ℕ) (call : Call) → before < seq → call_of account by before ≡ Some call
      → AreNotLater clock t (points_of call)
  follow_late part place by seq offset t replica there before call lt e =
      let found = in_time part place (Follow by seq replica offset t) there in
      let calls = calls_in found.0.transcripts in
      let its : slice_get calls before ≡ Some call = sym (ap (λ (cs : List Call). slice_get cs before) (calls_at by found.0 found.1)) ∙ e in
      (found.2 refl).1 before (points_of call) lt (map_get points_of calls before call its)

  nothing_rises : (part : ℕ) → IsStrictlyIncreasing (places_in part (flat_map points_of []))
  nothing_rises part k lt = absurd (omega (arith, lt))

  the_order : (pass part : ℕ) → IsStrictlyIncreasing (places_in part (flat_map points_of (calls_of account pass)))
  the_order pass part = by_case (slice_get books pass) refl
    where
      by_case : (o : Option Book) → slice_get books pass ≡ o → IsStrictlyIncreasing (places_in part (flat_map points_of (calls_of account pass)))
      by_case None is = subst (λ (calls : List Call). IsStrictlyIncreasing (places_in part (flat_map points_of calls))) (sym (none_at pass is)) (nothing_rises part)
      by_case (Some book) is =
          subst (λ (calls : List Call). IsStrictlyIncreasing (places_in part (flat_map points_of calls))) (sym (calls_at pass book is))
          (subst (λ (points : List Point). IsStrictlyIncreasing (places_in part points)) (flat_points (calls_in book.transcripts)) ((each pass book is).own.order part))

  -- ---- calls

  parked_lawful : (parts : List History) (seen : List ClockEvent) (w : Waiting) (call : Call) → GoesOn config parts seen account → length finals ≡ length parts → IsWaiting config parts seen w call
      → (IsAnswerableIn finals clock w → ⊥) → IsLawfulCall account call
  parked_lawful parts seen w call goes size waits still =
      let within : AllBelow (length finals) (operation_parts w.steps) = subst (λ (n : ℕ). AllBelow n (operation_parts w.steps)) (sym size) waits.within in
      let d = waits.delayed account goes in
      let unanswerable : IsAnswerable (operation_in account w.request w.steps d.looks) (values_of w.request.ask (shown_at_last account w.steps)) (moment_of clock) → ⊥ =
      λ answerable. still (subst (λ (ss : List Shown). IsAnswerable w.operation (values_of w.request.ask ss) (moment_of clock)) (last_shown account finals refl w.steps within)
      (subst (λ (op : Operation). IsAnswerable op (values_of w.request.ask (shown_at_last account w.steps)) (moment_of clock)) d.operation answerable)) in
      inl (record {
        whole = record { request = w.request; steps = w.steps; looks = d.looks; accepted = d.accepted; entries = d.entries };
        completed = subst (λ (how : CallHow). Completes account w.request w.steps d.looks call.finish how) (sym waits.how) (d.delayed, waits.unfinished, unanswerable);
      })

  stands_lawful : (book : Book) (o : Option Waiting) → book.config ≡ config → GoesOn book.config book.parts book.clock account → length finals ≡ length book.parts → ((w : Waiting) → o ≡ Some w → IsAnswerableIn finals clock w → ⊥) → Stand book o
      → (seq : ℕ) (call : Call) → slice_get (calls_in book.transcripts) seq ≡ Some call → IsLawfulCall account call
  stands_lawful book None same goes size still stand seq call e = (all_get (IsFinished book.config book.parts book.clock) (calls_in book.transcripts) seq call stand e).lawful account goes
  stands_lawful book (Some w) same goes size still stand seq call e =
      let earlier = calls_in stand.front ++ stand.transcript.calls in
      let calls : calls_in book.transcripts ≡ earlier ++ stand.call ∷ [] = ap calls_in stand.transcripts ∙ calls_with stand.front stand.transcript stand.call in
      elim (push_get earlier stand.call call seq (sym (ap (λ (cs : List Call). slice_get cs seq) calls) ∙ e)) [
        | inl front ↦ (all_get (IsFinished book.config book.parts book.clock) earlier seq call stand.earlier front).lawful account goes
        | inr last ↦
            let waits : IsWaiting config book.parts book.clock w stand.call = subst (λ (c : Configuration). IsWaiting c book.parts book.clock w stand.call) same stand.waits in
            let on : GoesOn config book.parts book.clock account = subst (λ (c : Configuration). GoesOn c book.parts book.clock account) same goes in
            subst (IsLawfulCall account) (sym last.1) (parked_lawful book.parts book.clock w stand.call on size waits (still w refl))
      ]

  each_lawful : (pass seq : ℕ) (call : Call) → call_of account pass seq ≡ Some call → IsLawfulCall account call
  each_lawful pass seq call e =
      let found = book_with pass seq call e in
      let book = found.0 in
      let with_it = together.each pass book found.1 in
      let histories = subst (λ (c : Configuration). AreHistories c book.parts book.clock) with_it.same (each pass book found.1).histories in
      stands_lawful book (waits pass) with_it.same (goes_on pass book found.1) (as_many config book.parts finals book.clock clock histories together.histories) with_it.still (each pass book found.1).calls seq call found.2

  pub books_lawful : IsLawful account
  books_lawful = record {
    entries = record {
      left = entry_left;
      points = points_owned;
      ticks = together.histories.ticks;
      shrinks = λ part place by t replica e.
          let there = sym (event_is part place) ∙ e in
          (had_lagged part place by t replica there, (in_time part place (Shrink by replica t) there).2 refl);
      follows = λ part place by seq offset t replica e. ((in_time part place (Follow by seq replica offset t) (sym (event_is part place) ∙ e)).2 refl).0;
      earlier = λ part place by seq offset t replica e. follow_late part place by seq offset t replica (sym (event_is part place) ∙ e);
    };
    order = the_order;
    logs = record { followers = followers_map finals ∙ together.histories.followers; whole = whole_logs finals together.histories.whole };
    calls = each_lawful;
    wins = λ winner. together.counts winner ∙ ap (count_by (is_won_by winner)) (sym (told_all books));
    ends = all_from_get (FollowOn 0) account.passes (λ k pass e.
        let found = get_map (λ (b : Book). map told b.transcripts) books k pass e in
        subst (FollowOn 0) found.2 (each k found.0 found.1).ends);
  }
