-- A pass whose request waits: it was polled, and still waits or is completed.
use Rattle.std.proofs.Common.{◌≡◌, ℕ, suc, ◌+◌, ◌-◌, ◌≤◌, ◌<◌, get_or, false, Bool, cond, eqb, List, [], ◌∷◌, ◌++◌, length, Option, Some, None, Result, Ok, Err, IsSome, refl, sym, ap, subst, ◌∙◌, arith}
use Rattle.std.specs.Prelude.{count_by, option_to_list}
use Rattle.std.proofs.lemmas.List.{length-append}
use Rattle.kbytes.specs.declared.no_memory.NoMemory.{NoMemory}
use Rattle.partlog.specs.declared.clock_event.ClockEvent.{ClockEvent}
use Rattle.partlog.specs.History.{History}
use Rattle.audit.specs.declared.account.Call.{Call}
use Rattle.audit.specs.declared.account.CallHow.TheVariants.{Parked as Waits}
use Rattle.audit.specs.declared.account.TheConstants.{MOST_CALLS}
use Rattle.audit.specs.declared.account.Transcript.{Transcript}
use Rattle.audit.specs.Histories.{calls_in}
use Rattle.audit.specs.IsLawful.{is_won_as, is_won_by}
use Rattle.shared_logs.specs.Amid.{amid}
use Rattle.shared_logs.proofs.Laws.{left_on, left_stepped}
use Rattle.kwire.specs.Configuration.{Configuration}
use Rattle.audit.specs.broker.books.Book.{Book}
use Rattle.audit.specs.broker.books.IsBook.{with_call}
use Rattle.audit.specs.broker.books.Together.{won_by}
use Rattle.audit.specs.broker.books.Underway.{book_amid}
use Rattle.audit.proofs.broker.books.Laws.{calls_with, waits_delayed, won_amid}
use Rattle.audit.specs.Fits.{IsReplyOf}
use Rattle.audit.specs.broker.GoesOn.{Carried, HaveGrown}
use Rattle.purgatory.specs.declared.outcome.Done.{Done}
use Rattle.purgatory.specs.Going.{OwesNothing}
use Rattle.purgatory.specs.Polled.{HasPolled, HasTaken, found_open}
use Rattle.room_core.specs.Passes.{peeked}
use Rattle.room_core.specs.State.{Caller}
use Rattle.room_table.specs.Seats.{CallerView, caller_now}
use Rattle.shared_broker.specs.declared.collecting.Collected.{Collected}
use Rattle.shared_broker.specs.declared.parked.Parked.{Parked}
use Rattle.shared_broker.specs.Collecting.{HasCollectedAs, HasCompleted}
use Rattle.shared_broker.specs.Passes.{BrokerView, PassView, book_of, calls_made}
use Rattle.shared_broker.specs.Serving.{HasEndedCall, HasFinished, IsLastKept, WasFoundWon, completed_as, with_last}
use Rattle.shared_broker.specs.Standing.{HoldsBook, IsGoing, IsKeptOf, IsOfGoing, Sits, Stands}
use Rattle.shared_logs.specs.Coming.{HasStepped}
use Rattle.shared_logs.specs.Seen.{HasSeen}
use Rattle.shared_logs.specs.Shared.{LogPassView, SharedView, followers_in}
use Rattle.shared_broker.proofs.Enlisted.{taken_more, won_as}
use Rattle.shared_broker.proofs.LastCalls.{calls_are, lent_last, set_back, set_last}

-- ---- a call that waits

-- it is the last call of the open transcript, after that many calls of the transcripts before
record WaitsAsLast (config : Configuration) (first : ℕ) (parked : Parked) (pass : LogPassView) (going : Option Transcript)
    (front : List Transcript) (transcript : Transcript) (call : Call) : Type 0 where
  pub last : going ≡ Some (with_last transcript call)
  pub first_is : first ≡ length (calls_in front)
  pub few : first + length transcript.calls < MOST_CALLS
  pub kept : IsKeptOf (book_amid (amid config front transcript pass call)) parked

-- ---- what a poll does

polled_open : (seat : CallerView) → caller_now (found_open seat) ≡ caller_now seat
unfolding peeked
polled_open seat = refl

-- ---- the book, where the pass's seat alone went on

module _ (a b : LogPassView) (step : HasStepped a b) (config : Configuration) where
  book_stepped : (transcripts others : List Transcript) → transcripts ≡ others
      → (let book : Book = record { config = config; number = a.number; parts = a.parts; clock = a.clock; transcripts = transcripts } in book)
      ≡ (let book : Book = record { config = config; number = b.number; parts = b.parts; clock = b.clock; transcripts = others } in book)
  book_stepped transcripts others same =
      ap (λ (ts : List Transcript). let book : Book = record { config = config; number = a.number; parts = a.parts; clock = a.clock; transcripts = ts } in book) same
      ∙ ap (λ (n : ℕ). let book : Book = record { config = config; number = n; parts = a.parts; clock = a.clock; transcripts = others } in book) (sym step.number)
      ∙ ap (λ (hs : List History). let book : Book = record { config = config; number = b.number; parts = hs; clock = a.clock; transcripts = others } in book) (sym step.parts)
      ∙ ap (λ (es : List ClockEvent). let book : Book = record { config = config; number = b.number; parts = b.parts; clock = es; transcripts = others } in book) (sym step.clock)

-- it still waits
pub still_stands : (pass : PassView) → Stands pass → (new : LogPassView) → HasStepped pass.logs new → new.seat ≡ found_open pass.logs.seat → HasSeen new → Stands (record pass { logs = new })
still_stands pass stood new step found seen =
    let same : caller_now new.seat ≡ caller_now pass.logs.seat = ap caller_now found ∙ polled_open pass.logs.seat in
    let book = book_stepped pass.logs new step pass.config (pass.ended ++ option_to_list pass.going) (pass.ended ++ option_to_list pass.going) refl in
    record {
      seen = seen;
      topics = stood.topics;
      followers = ap followers_in step.made ∙ stood.followers;
      book = subst (λ (b : Book). HoldsBook b pass.waits) book stood.book;
      going = stood.going;
      ended = stood.ended;
      begun = stood.begun;
      sits = subst (λ (k : Caller). Sits k pass.waits) (sym same) stood.sits;
      paid = subst OwesNothing (sym same) stood.paid;
      few = stood.few;
      opened = subst (λ (k : Caller). k.generation ≤ calls_made pass) (sym same) stood.opened;
      taken = λ by. ap (λ (k : Caller). count_by (λ item. eqb item.by by) k.taken) same ∙ stood.taken by;
    }

-- ---- the call that waits is the last

abbrev last_of : Transcript → List Transcript → Transcript
last_of d [] = d
last_of d (t ∷ ts) = last_of t ts

last_behind : (d : Transcript) (ts : List Transcript) (t : Transcript) → last_of d (ts ++ t ∷ []) ≡ t
last_behind d [] t = refl
last_behind d (s ∷ ts) t = last_behind s ts t

some_of : (o : Option Transcript) → IsSome o → (t : Transcript) × (o ≡ Some t)
some_of (Some t) is = (t, refl)
some_of None is = absurd cc

module _ (pass : PassView) (stood : Stands pass) (parked : Parked) (waits : pass.waits ≡ Some parked) where
  abbrev kept : IsKeptOf (book_of pass) parked
  kept = subst (HoldsBook (book_of pass)) waits stood.book

  abbrev the_transcript : Transcript
  the_transcript = kept.book_is.calls.transcript

  abbrev the_call : Call
  the_call = kept.book_is.calls.call

  going_is : pass.going ≡ Some (with_last the_transcript the_call)
  going_is =
      let some = some_of pass.going (subst (λ (o : Option Parked). IsOfGoing o pass.going) waits stood.begun) in
      let all : pass.ended ++ some.0 ∷ [] ≡ kept.book_is.calls.front ++ with_last the_transcript the_call ∷ [] =
      ap (λ (o : Option Transcript). pass.ended ++ option_to_list o) (sym some.1) ∙ kept.book_is.calls.transcripts in
      let same : some.0 ≡ with_last the_transcript the_call =
      sym (last_behind some.0 pass.ended some.0) ∙ ap (last_of some.0) all ∙ last_behind some.0 kept.book_is.calls.front (with_last the_transcript the_call) in
      some.1 ∙ ap (λ (t : Transcript). let o : Option Transcript = Some t in o) same

  abbrev transcripts_is : pass.ended ++ option_to_list pass.going ≡ with_call pass.ended the_transcript the_call
  transcripts_is = ap (λ (o : Option Transcript). pass.ended ++ option_to_list o) going_is

  made_is : calls_made pass ≡ length (calls_in pass.ended ++ the_transcript.calls) + 1
  made_is =
      ap (λ (ts : List Transcript). length (calls_in ts)) transcripts_is ∙ ap (λ (cs : List Call). length cs) (calls_with pass.ended the_transcript the_call)
      ∙ length-append (calls_in pass.ended ++ the_transcript.calls) (the_call ∷ [])

  module _ (polled : LogPassView) (step : HasStepped pass.logs polled) where
    abbrev kept_there : IsKeptOf (book_amid (amid pass.config pass.ended the_transcript polled the_call)) parked
    kept_there =
        subst (λ (b : Book). IsKeptOf b parked) (book_stepped pass.logs polled step pass.config (pass.ended ++ option_to_list pass.going) (with_call pass.ended the_transcript the_call) transcripts_is) kept

    waits_as_last : (config : Configuration) → pass.config ≡ config → (first : ℕ) → first ≡ length (calls_in pass.ended) → WaitsAsLast config first parked polled pass.going pass.ended the_transcript the_call
    waits_as_last config same first first_is = record {
      last = going_is;
      first_is = first_is;
      few = let size = length-append (calls_in pass.ended) the_transcript.calls in omega (arith, first_is, size, made_is, stood.few);
      kept = subst (λ (k : Configuration). IsKeptOf (book_amid (amid k pass.ended the_transcript polled the_call)) parked) same kept_there;
    }

    -- it was won, and came to its end
    module _ (done : Done) (t : HasTaken (caller_now pass.logs.seat).generation done (caller_now pass.logs.seat) (caller_now polled.seat)) (new : LogPassView) (after : Call)
        (e : HasEndedCall pass.config (IsLastKept pass.config (length (calls_in pass.ended ++ the_transcript.calls)) parked polled the_call) polled new the_call after)
        (names : (winner : ℕ) → is_won_as winner after.how ≡ eqb done.by winner) where
      completed_stands : HasSeen new → Stands (record pass { logs = new; going = Some (with_last the_transcript after); waits = None })
      completed_stands seen =
          let more : length (calls_in (with_call pass.ended the_transcript after)) ≡ length (calls_in pass.ended ++ the_transcript.calls) + 1 =
          ap (λ (cs : List Call). length cs) (calls_with pass.ended the_transcript after) ∙ length-append (calls_in pass.ended ++ the_transcript.calls) (after ∷ []) in
          let waited : the_call.how ≡ Waits = (waits_delayed (amid pass.config pass.ended the_transcript polled the_call) kept_there.w kept_there.book_is).2 in
          let generation = e.same.kept.generation ∙ t.generation in
          record {
            seen = seen;
            topics = stood.topics;
            followers = ap followers_in (e.same.made ∙ step.made) ∙ stood.followers;
            book = e.book pass.ended the_transcript (refl, kept_there);
            going = subst IsGoing going_is stood.going;
            ended = stood.ended;
            begun = tt;
            sits = e.same.kept.stage ∙ t.idle;
            paid = e.paid;
            few = omega (arith, more, made_is, stood.few);
            opened = omega (arith, more, made_is, generation, stood.opened);
            taken = λ by.
                taken_more pass.logs.seat new.seat (caller_now pass.logs.seat).generation done (e.same.kept.taken ∙ t.taken) after.how names by
                ∙ ap (λ (n : ℕ). n + cond (is_won_as by after.how) 1 0)
                (stood.taken by ∙ ap (λ (ts : List Transcript). won_by by (record (book_of pass) { transcripts = ts })) transcripts_is
                ∙ won_amid (amid pass.config pass.ended the_transcript pass.logs the_call) by
                ∙ none_more (count_by (is_won_by by) (calls_in pass.ended ++ the_transcript.calls)) (is_won_as by the_call.how) (ap (is_won_as by) waited))
                ∙ sym (won_amid (amid pass.config pass.ended the_transcript new after) by);
          }
        where
          none_more : (n : ℕ) (b : Bool) → b ≡ false → n + cond b 1 0 ≡ n
          none_more n b e = ap (λ (x : Bool). n + cond x 1 0) e ∙ omega arith

      abbrev completed : HasPolled (Some done) pass.logs.seat polled.seat → HasCompleted pass (record pass { logs = new; going = Some (with_last the_transcript after); waits = None })
      completed polls = record {
        transcript = the_transcript;
        call = the_call;
        done = done;
        finish = after.finish;
        how = after.how;
        waited = (waits_delayed (amid pass.config pass.ended the_transcript polled the_call) kept_there.w kept_there.book_is).2;
        going = going_is;
        completed = ap (λ (k : Call). let o : Option Transcript = Some (with_last the_transcript k) in o) e.rest;
        ended = refl;
        waits = refl;
        number = e.same.number ∙ step.number;
        made = ap (λ (m : SharedView). let made : BrokerView = record { config = pass.config; logs = m } in made) (e.same.made ∙ step.made);
        grown = subst (λ (es : List ClockEvent). HaveGrown pass.logs.parts es new.parts new.clock) step.clock (subst (λ (hs : List History). HaveGrown hs polled.clock new.parts new.clock) step.parts e.grown);
        taken = polled.seat;
        polled = polls;
        seat = e.same.went;
        ticked = e.ticked ∙ step.ticked;
      }

    -- as the broker tells it, by the number that the pass counts on
    module _ (is_sent : Bool) (config : Configuration) (same : pass.config ≡ config) (first : ℕ) (first_is : first ≡ length (calls_in pass.ended)) (done : Done)
        (t : HasTaken (caller_now pass.logs.seat).generation done (caller_now pass.logs.seat) (caller_now polled.seat)) (polls : HasPolled (Some done) pass.logs.seat polled.seat)
        (new : LogPassView) (going : Option Transcript) (now : Option Parked) (none : now ≡ None) where
      abbrev IsEnded : Result (List ℕ) NoMemory → Type 0
      IsEnded r = (front : List Transcript) (transcript : Transcript) (call : Call) → WaitsAsLast config first parked polled pass.going front transcript call
          → (after : Call) × (going ≡ Some (with_last transcript after)) × HasFinished {E = NoMemory} is_sent config (first + length transcript.calls) done (IsLastKept config (first + length transcript.calls) parked polled call) r polled new call after

      abbrev seq : ℕ
      seq = length (calls_in pass.ended ++ the_transcript.calls)

      seq_is : first + length the_transcript.calls ≡ length (calls_in pass.ended ++ the_transcript.calls)
      seq_is = let size = length-append (calls_in pass.ended) the_transcript.calls in omega (arith, size, first_is)

      counted : (r : Result (List ℕ) NoMemory) (after : Call) → HasFinished {E = NoMemory} is_sent config (first + length the_transcript.calls) done (IsLastKept config (first + length the_transcript.calls) parked polled the_call) r polled new the_call after
          → HasFinished {E = NoMemory} is_sent pass.config seq done (IsLastKept pass.config seq parked polled the_call) r polled new the_call after
      counted r after h =
          subst (λ (n : ℕ). HasFinished {E = NoMemory} is_sent pass.config n done (IsLastKept pass.config n parked polled the_call) r polled new the_call after) seq_is
          (subst (λ (k : Configuration). HasFinished {E = NoMemory} is_sent k (first + length the_transcript.calls) done (IsLastKept k (first + length the_transcript.calls) parked polled the_call) r polled new the_call after) (sym same) h)

      final_is : (after : Call) → going ≡ Some (with_last the_transcript after)
          → record pass { logs = new; going = Some (with_last the_transcript after); waits = None } ≡ record pass { logs = new; going = going; waits = now }
      final_is after is =
          ap (λ (o : Option Transcript). let p : PassView = record pass { logs = new; going = o; waits = None } in p) (sym is)
          ∙ ap (λ (o : Option Parked). let p : PassView = record pass { logs = new; going = going; waits = o } in p) (sym none)

      module _ (bytes : List ℕ) (ended : IsEnded (Ok bytes)) where
        abbrev told : (after : Call) × (going ≡ Some (with_last the_transcript after)) × HasFinished {E = NoMemory} is_sent pass.config seq done (IsLastKept pass.config seq parked polled the_call) (Ok bytes) polled new the_call after
        told =
            let s = ended pass.ended the_transcript the_call (waits_as_last config same first first_is) in
            (s.0, s.1, counted (Ok bytes) s.0 s.2)

        names : (winner : ℕ) → is_won_as winner told.0.how ≡ eqb done.by winner
        names winner = ap (is_won_as winner) told.2.1 ∙ won_as done.how done.by winner

        told_stands : HasSeen new → Stands (record pass { logs = new; going = going; waits = now })
        told_stands seen = subst Stands (final_is told.0 told.1) (completed_stands done t new told.0 told.2.0 names seen)

        told_collected : HasCollectedAs is_sent (Collected.Reply bytes) pass (record pass { logs = new; going = going; waits = now })
        told_collected =
            let reply = told.2.3 pass.ended the_transcript (refl, kept_there) in
            let made : calls_made pass ≡ suc seq = omega (arith, made_is) in
            subst (HasCollectedAs is_sent (Collected.Reply bytes) pass) (final_is told.0 told.1) (
              completed done t new told.0 told.2.0 names polls,
              told.2.1,
              record { reply = reply.reply; spelled = reply.spelled; replied = subst (λ (k : Call). Carried pass.config new.parts new.clock (λ account. IsReplyOf account k reply.reply)) told.2.0.rest reply.replied },
              (seq, made, left_on seq pass.logs polled new step.number (left_stepped seq pass.logs polled step) told.2.2),
            )

      module _ (e : NoMemory) (ended : IsEnded (Err e)) where
        abbrev cut : (after : Call) × (going ≡ Some (with_last the_transcript after)) × HasFinished {E = NoMemory} is_sent pass.config seq done (IsLastKept pass.config seq parked polled the_call) (Err e) polled new the_call after
        cut =
            let s = ended pass.ended the_transcript the_call (waits_as_last config same first first_is) in
            (s.0, s.1, counted (Err e) s.0 s.2)

        cut_stands : HasSeen new → Stands (record pass { logs = new; going = going; waits = now })
        cut_stands seen = subst Stands (final_is cut.0 cut.1) (completed_stands done t new cut.0 cut.2.0 (λ winner. ap (is_won_as winner) cut.2.1) seen)

        cut_collected : HasCollectedAs is_sent Collected.NoMemory pass (record pass { logs = new; going = going; waits = now })
        cut_collected =
            subst (HasCollectedAs is_sent Collected.NoMemory pass) (final_is cut.0 cut.1)
            (completed done t new cut.0 cut.2.0 (λ winner. ap (is_won_as winner) cut.2.1) polls, cut.2.1)

      finished_stands : (r : Result (List ℕ) NoMemory) → IsEnded r → HasSeen new → Stands (record pass { logs = new; going = going; waits = now })
      finished_stands (Ok bytes) ended seen = told_stands bytes ended seen
      finished_stands (Err e) ended seen = cut_stands e ended seen

-- ---- the call that was lent, by its place among the calls

module _ (config : Configuration) (first : ℕ) (parked : Parked) (polled : LogPassView) (open_one : Option Transcript) (going : Transcript) (is : open_one ≡ Some going) (lent : List Call) (lent_is : lent ≡ going.calls)
    (n : ℕ) (n_is : n ≡ length going.calls) (one : Call) (at : one ≡ get_or lent (length lent - 1) one) where
  seq_last : (front : List Transcript) (transcript : Transcript) (call : Call) → WaitsAsLast config first parked polled open_one front transcript call → first + (n - 1) ≡ first + length transcript.calls
  seq_last front transcript call w =
      let size : length going.calls ≡ length transcript.calls + 1 =
      ap (λ (cs : List Call). length cs) (calls_are open_one going is transcript call w.last) ∙ length-append transcript.calls (call ∷ []) in
      omega (arith, size, n_is)

  kept_last : (front : List Transcript) (transcript : Transcript) (call : Call) → WaitsAsLast config first parked polled open_one front transcript call
      → IsLastKept config (first + (n - 1)) parked polled one front transcript
  kept_last front transcript call w =
      let before : length (calls_in front ++ transcript.calls) ≡ first + (n - 1) =
      length-append (calls_in front) transcript.calls ∙ ap (λ (m : ℕ). m + length transcript.calls) (sym w.first_is) ∙ sym (seq_last front transcript call w) in
      subst (λ (k : Call). IsLastKept config (first + (n - 1)) parked polled k front transcript) (sym (lent_last open_one going is transcript call w.last lent lent_is one at)) (before, w.kept)

  ended_last : (is_sent : Bool) (new : LogPassView) (done : Done) (r : Result (List ℕ) NoMemory) (after : Call)
      → HasFinished {E = NoMemory} is_sent config (first + (n - 1)) done (IsLastKept config (first + (n - 1)) parked polled one) r polled new one after
      → (front : List Transcript) (transcript : Transcript) (call : Call) → WaitsAsLast config first parked polled open_one front transcript call
      → (last : Call) × ((let o : Option Transcript = Some (set_back going lent after) in o) ≡ Some (with_last transcript last))
      × HasFinished {E = NoMemory} is_sent config (first + length transcript.calls) done (IsLastKept config (first + length transcript.calls) parked polled call) r polled new call last
  ended_last is_sent new done r after h front transcript call w = (
    after,
    set_last open_one going is transcript call w.last lent lent_is after,
    subst (λ (k : Call). HasFinished {E = NoMemory} is_sent config (first + length transcript.calls) done (IsLastKept config (first + length transcript.calls) parked polled k) r polled new k after) (lent_last open_one going is transcript call w.last lent lent_is one at)
        (subst (λ (m : ℕ). HasFinished {E = NoMemory} is_sent config m done (IsLastKept config m parked polled one) r polled new one after) (seq_last front transcript call w) h),
  )

-- ---- the pass whose word was found won

module _ (config : Configuration) (first : ℕ) (parked : Parked) (done : Done) (before : PassView) (polled : LogPassView) (open_one : Option Transcript) (w : WasFoundWon config first parked done before polled open_one)
    (going : Transcript) (is : open_one ≡ Some going) (lent : List Call) (lent_is : lent ≡ going.calls)
    (n : ℕ) (n_is : n ≡ length going.calls) (one : Call) (at : one ≡ get_or lent (length lent - 1) one) where
  is_there : before.going ≡ Some going
  is_there = sym w.going_is ∙ is

  pub won_last : (front : List Transcript) × (transcript : Transcript) × IsLastKept config (first + (n - 1)) parked polled one front transcript
  won_last =
      let transcript = the_transcript before w.stood parked w.waited in (
        before.ended,
        transcript,
        kept_last config first parked polled before.going going is_there lent lent_is n n_is one at before.ended transcript (the_call before w.stood parked w.waited)
            (waits_as_last before w.stood parked w.waited polled w.stepped config w.config_is first w.first_is),
      )

  module _ (is_sent : Bool) (new : LogPassView) (after : Call) where
    abbrev HasFinishedSo : Result (List ℕ) NoMemory → Type 0
    HasFinishedSo r = HasFinished {E = NoMemory} is_sent config (first + (n - 1)) done (IsLastKept config (first + (n - 1)) parked polled one) r polled new one after

    ended : (r : Result (List ℕ) NoMemory) → HasFinishedSo r
        → IsEnded before w.stood parked w.waited polled w.stepped is_sent config w.config_is first w.first_is done w.taken w.polled new (Some (set_back going lent after)) None refl r
    ended r h = ended_last config first parked polled before.going going is_there lent lent_is n n_is one at is_sent new done r after h

    pub won_told : (bytes : List ℕ) → HasFinishedSo (Ok bytes) → HasCollectedAs is_sent (Collected.Reply bytes) before (completed_as before new (Some (set_back going lent after)))
    won_told bytes h =
        told_collected before w.stood parked w.waited polled w.stepped is_sent config w.config_is first w.first_is done w.taken w.polled new (Some (set_back going lent after)) None refl bytes (ended (Ok bytes) h)

    pub won_cut : (e : NoMemory) → HasFinishedSo (Err e) → HasCollectedAs is_sent Collected.NoMemory before (completed_as before new (Some (set_back going lent after)))
    won_cut e h =
        cut_collected before w.stood parked w.waited polled w.stepped is_sent config w.config_is first w.first_is done w.taken w.polled new (Some (set_back going lent after)) None refl e (ended (Err e) h)

    pub won_stands : (r : Result (List ℕ) NoMemory) → HasFinishedSo r → HasSeen new → Stands (completed_as before new (Some (set_back going lent after)))
    won_stands r h seen =
        finished_stands before w.stood parked w.waited polled w.stepped is_sent config w.config_is first w.first_is done w.taken w.polled new (Some (set_back going lent after)) None refl r (ended r h) seen
