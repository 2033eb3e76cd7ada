-- A book amid a call: what holds of it holds on as others' entries come and as the call goes on, and it is a book wherever the call is
-- lawful or waits.
use Rattle.std.proofs.Common.{◌≡◌, ℕ, ◌+◌, true, false, List, [], ◌∷◌, ◌++◌, length, map, Option, Some, None, refl, sym, ap, subst, ◌∙◌, arith, append-nil}
use Rattle.std.proofs.lemmas.Grind.{flat_map-append}
use Rattle.std.proofs.lemmas.List.{length-map, map-append}
use Rattle.std.specs.Prelude.{Contains}
use Rattle.std.specs.List.{AllByRecursion}
use Rattle.partlog.specs.declared.clock_event.ClockEvent.{ClockEvent}
use Rattle.partlog.specs.History.{History}
use Rattle.audit.specs.declared.account.Call.{Call}
use Rattle.audit.specs.declared.account.CallHow.{CallHow}
use Rattle.audit.specs.declared.account.CallHow.TheVariants.{Parked}
use Rattle.audit.specs.declared.account.SessionEnd.{SessionEnd}
use Rattle.audit.specs.declared.account.SessionEnd.TheVariants.{NoMemory}
use Rattle.audit.specs.declared.account.Transcript.{Transcript}
use Rattle.audit.specs.Histories.{calls_in, points_of, ticks_of}
use Rattle.audit.specs.IsLawful.{EndWell}
use Rattle.audit.specs.LawfulCall.{IsLawfulCall}
use Rattle.kbytes.proofs.Laws.{all_append}
use Rattle.kwire.specs.Configuration.{Configuration}
use Rattle.audit.specs.broker.Board.{Waiting}
use Rattle.audit.specs.broker.GoesOn.{HaveGrown}
use Rattle.audit.specs.broker.Kept.{owners_at}
use Rattle.audit.specs.broker.Sound.{AreHistories, IsWaiting}
use Rattle.audit.specs.broker.Timely.{IsTimely}
use Rattle.audit.proofs.broker.Laws.{all_on, carried_on, grown_parts, waiting_on}
use Rattle.audit.specs.broker.books.Book.{Book, begun_behind}
use Rattle.audit.specs.broker.books.IsBook.{AreFinished, IsBook, IsFinished, Stand}
use Rattle.audit.specs.broker.books.Owned.{AreOwn, OwnWithin}
use Rattle.audit.specs.broker.books.TakenOut.{HasTakenOut}
use Rattle.audit.specs.broker.books.Told.{last_is_cut, told_end}
use Rattle.audit.specs.broker.books.Underway.{Underway, IsUnderway, begun_amid, book_amid, earlier_calls, seq_of, with_end}
use Rattle.audit.proofs.broker.books.Closing.{calls_with}
use Rattle.audit.proofs.broker.books.Ending.{all_past, ended_well, follow_call, follow_last, last_follows, past_before}
use Rattle.audit.proofs.broker.books.Growing.{as_many}
use Rattle.audit.proofs.broker.books.Lists.{all_behind, push_same}
use Rattle.audit.proofs.broker.books.Timing.{OwnsInTime, in_time_begun, in_time_others, in_time_taken}

-- ---- what holds of calls holds on

module _ (config : Configuration) (parts later : List History) (clock behind : List ClockEvent) (grown : HaveGrown parts clock later behind) where
  pub finished_on : (call : Call) → IsFinished config parts clock call → IsFinished config later behind call
  finished_on call finished = record { unparked = finished.unparked; lawful = carried_on config parts later clock behind (λ account. IsLawfulCall account call) grown finished.lawful }

  pub all_finished_on : (calls : List Call) → AreFinished config parts clock calls → AreFinished config later behind calls
  all_finished_on calls finished = all_on (IsFinished config parts clock) (IsFinished config later behind) finished_on calls finished

-- ---- others' entries came

stand_on : (book : Book) (later : List History) (behind : List ClockEvent) (o : Option Waiting) → HaveGrown book.parts book.clock later behind → length later ≡ length book.parts → Stand book o
    → Stand (record book { parts = later; clock = behind }) o
stand_on book later behind None grown size stand = all_finished_on book.config book.parts later book.clock behind grown (calls_in book.transcripts) stand
stand_on book later behind (Some w) grown size stand = record {
  front = stand.front;
  transcript = stand.transcript;
  call = stand.call;
  transcripts = stand.transcripts;
  going = stand.going;
  earlier = all_finished_on book.config book.parts later book.clock behind grown (calls_in stand.front ++ stand.transcript.calls) stand.earlier;
  waits = waiting_on book.config book.parts later book.clock behind grown (omega (arith, size)) w stand.call stand.waits;
  own = stand.own;
}

pub others_came : (book : Book) (waits : Option Waiting) (later : List History) (behind : List ClockEvent) → HaveGrown book.parts book.clock later behind → OwnWithin book.number book.parts book.clock later behind
    → AreHistories book.config later behind → IsBook book waits → IsBook (record book { parts = later; clock = behind }) waits
others_came book waits later behind grown within histories h =
    let rows = map points_of (calls_in book.transcripts) in
    let entries = in_time_others book.number rows book.parts later book.clock behind grown within (record { own = h.own; timely = h.timely }) in
    record {
      histories = histories;
      own = entries.own;
      timely = entries.timely;
      calls = stand_on book later behind waits grown (as_many book.config book.parts later book.clock behind h.histories histories) h.calls;
      ends = h.ends;
    }

-- ---- the pass took followers out, at a moment that the clock was told

pub taken_out : (book : Book) (waits : Option Waiting) (t : ℕ) (later : List History) → HasTakenOut book.number t book.parts later → Contains (ticks_of book.clock) t → AreHistories book.config later book.clock → IsBook book waits
    → IsBook (record book { parts = later }) waits
taken_out book waits t later out told histories h =
    let rows = map points_of (calls_in book.transcripts) in
    let size = as_many book.config book.parts later book.clock book.clock h.histories histories in
    let entries = in_time_taken book.number t rows book.parts later book.clock out told size (record { own = h.own; timely = h.timely }) in
    record {
      histories = histories;
      own = entries.own;
      timely = entries.timely;
      calls = stand_on book later book.clock waits (grown_parts book.parts later book.clock out.grown) size h.calls;
      ends = h.ends;
    }

-- ---- a transcript is begun, and ended

pub begun : (book : Book) (number : ℕ) → IsBook book None
    → IsBook (record book { transcripts = book.transcripts ++ begun_behind book.transcripts number ∷ [] }) None
begun book number h =
    let new = begun_behind book.transcripts number in
    let calls : calls_in (book.transcripts ++ new ∷ []) ≡ calls_in book.transcripts =
    flat_map-append (λ (t : Transcript). t.calls) book.transcripts (new ∷ []) ∙ append-nil (calls_in book.transcripts) in
    record {
      histories = h.histories;
      own = subst (λ (cs : List Call). AreOwn (owners_at book.parts book.clock) book.number (map points_of cs)) (sym calls) h.own;
      timely = subst (λ (cs : List Call). IsTimely book.number book.parts book.clock (map points_of cs)) (sym calls) h.timely;
      calls = subst (AreFinished book.config book.parts book.clock) (sym calls) h.calls;
      ends = follow_last book.transcripts new h.ends refl tt;
    }

unparked_all : (config : Configuration) (parts : List History) (clock : List ClockEvent) (calls : List Call) → AreFinished config parts clock calls → AllByRecursion (λ call. call.how ≡ Parked → ⊥) calls
unparked_all config parts clock calls finished = all_on (IsFinished config parts clock) (λ (call : Call). call.how ≡ Parked → ⊥) (λ call f. f.unparked) calls finished

-- those of the last transcript
calls_behind : (front : List Transcript) (last : Transcript) → calls_in (front ++ last ∷ []) ≡ calls_in front ++ last.calls
calls_behind front last = flat_map-append (λ (t : Transcript). t.calls) front (last ∷ []) ∙ ap (λ (calls : List Call). calls_in front ++ calls) (append-nil last.calls)

last_unparked : (book : Book) (front : List Transcript) (last : Transcript) → IsBook (record book { transcripts = front ++ last ∷ [] }) None → AllByRecursion (λ call. call.how ≡ Parked → ⊥) last.calls
last_unparked book front last h =
    all_behind (λ (call : Call). call.how ≡ Parked → ⊥) (calls_in front) last.calls
    (unparked_all book.config book.parts book.clock (calls_in front ++ last.calls) (subst (AreFinished book.config book.parts book.clock) (calls_behind front last) h.calls))

-- where its last call was cut off, it is because memory ran out
pub ended : (book : Book) (front : List Transcript) (last : Transcript) (end : SessionEnd) → last.end ≡ None → (last_is_cut last.calls ≡ true → end ≡ NoMemory)
    → IsBook (record book { transcripts = front ++ last ∷ [] }) None → IsBook (record book { transcripts = front ++ record last { end = Some end } ∷ [] }) None
ended book front last end going cut h =
    let follows = last_follows front last h.ends in
    let closed : Transcript = record last { end = Some end } in
    let calls : calls_in (front ++ closed ∷ []) ≡ calls_in (front ++ last ∷ []) = calls_behind front closed ∙ sym (calls_behind front last) in
    record {
      histories = h.histories;
      own = subst (λ (cs : List Call). AreOwn (owners_at book.parts book.clock) book.number (map points_of cs)) (sym calls) h.own;
      timely = subst (λ (cs : List Call). IsTimely book.number book.parts book.clock (map points_of cs)) (sym calls) h.timely;
      calls = subst (AreFinished book.config book.parts book.clock) (sym calls) h.calls;
      ends = follow_last front closed follows.0 follows.1
          (ended_well last.calls end (subst (λ (o : Option SessionEnd). EndWell last.calls (told_end (last_is_cut last.calls) o)) going follows.2) (last_unparked book front last h) cut);
    }

-- ---- a call is written down

pub called : (book : Book) (front : List Transcript) (transcript : Transcript) (frame : List ℕ) → transcript.end ≡ None → last_is_cut transcript.calls ≡ false
    → IsBook (record book { transcripts = front ++ transcript ∷ [] }) None → IsUnderway (begun_amid book front transcript frame)
called book front transcript frame going uncut h =
    let follows = last_follows front transcript h.ends in
    let calls = calls_behind front transcript in
    let entries = in_time_begun book.number (map points_of (calls_in front ++ transcript.calls)) book.parts book.clock (omega (arith, h.histories.few)) (record {
      own = subst (λ (cs : List Call). AreOwn (owners_at book.parts book.clock) book.number (map points_of cs)) calls h.own;
      timely = subst (λ (cs : List Call). IsTimely book.number book.parts book.clock (map points_of cs)) calls h.timely;
    }) in
    record {
      histories = h.histories;
      own = entries.own;
      timely = entries.timely;
      earlier = subst (AreFinished book.config book.parts book.clock) calls h.calls;
      past = all_past transcript.calls (told_end (last_is_cut transcript.calls) transcript.end) follows.2 (last_unparked book front transcript h) uncut;
      follow = follows.0;
      first = follows.1;
      going = going;
    }

-- ---- the call goes on

pub underway_on : (u : Underway) (later : List History) (behind : List ClockEvent) (call : Call) → IsUnderway u → HaveGrown u.parts u.clock later behind → AreHistories u.config later behind
    → OwnsInTime u.number later behind (map points_of (earlier_calls u) ++ points_of call ∷ []) → IsUnderway (record u { parts = later; clock = behind; call = call })
underway_on u later behind call h grown histories entries = record {
  histories = histories;
  own = entries.own;
  timely = entries.timely;
  earlier = all_finished_on u.config u.parts later u.clock behind grown (earlier_calls u) h.earlier;
  past = h.past;
  follow = h.follow;
  first = h.first;
  going = h.going;
}

pub others_underway : (u : Underway) (later : List History) (behind : List ClockEvent) → HaveGrown u.parts u.clock later behind → OwnWithin u.number u.parts u.clock later behind
    → AreHistories u.config later behind → IsUnderway u → IsUnderway (record u { parts = later; clock = behind })
others_underway u later behind grown within histories h =
    let rows = map points_of (earlier_calls u) ++ points_of u.call ∷ [] in
    underway_on u later behind u.call h grown histories
    (in_time_others u.number rows u.parts later u.clock behind grown within (record { own = h.own; timely = h.timely }))

-- with its end told otherwise
pub underway_as : (u : Underway) (how : CallHow) → IsUnderway u → IsUnderway (with_end u how)
underway_as u how h = record { histories = h.histories; own = h.own; timely = h.timely; earlier = h.earlier; past = h.past; follow = h.follow; first = h.first; going = h.going }

-- the call's number is that of its rows
pub is_seq : (u : Underway) → seq_of u ≡ length (map points_of (earlier_calls u))
is_seq u = sym (length-map (earlier_calls u) points_of)

-- ---- it is a book

rows_with : (u : Underway) → map points_of (calls_in (book_amid u).transcripts) ≡ map points_of (earlier_calls u) ++ points_of u.call ∷ []
rows_with u = ap (map points_of) (calls_with u.front u.transcript u.call) ∙ map-append points_of (earlier_calls u) (u.call ∷ [])

own_amid : (u : Underway) → IsUnderway u → AreOwn (owners_at u.parts u.clock) u.number (map points_of (calls_in (book_amid u).transcripts))
own_amid u h = subst (AreOwn (owners_at u.parts u.clock) u.number) (sym (rows_with u)) h.own

timely_amid : (u : Underway) → IsUnderway u → IsTimely u.number u.parts u.clock (map points_of (calls_in (book_amid u).transcripts))
timely_amid u h = subst (IsTimely u.number u.parts u.clock) (sym (rows_with u)) h.timely

pub amid_book : (u : Underway) → IsUnderway u → IsFinished u.config u.parts u.clock u.call → IsBook (book_amid u) None
amid_book u h finished = record {
  histories = h.histories;
  own = own_amid u h;
  timely = timely_amid u h;
  calls = subst (AreFinished u.config u.parts u.clock) (sym (calls_with u.front u.transcript u.call))
      (all_append (IsFinished u.config u.parts u.clock) (earlier_calls u) (u.call ∷ []) h.earlier (finished, tt));
  ends = follow_call u.front u.transcript u.call h.follow h.first h.going h.past;
}

pub amid_waits : (u : Underway) (w : Waiting) → IsUnderway u → IsWaiting u.config u.parts u.clock w u.call → w.session ≡ u.number → IsBook (book_amid u) (Some w)
amid_waits u w h waits own = record {
  histories = h.histories;
  own = own_amid u h;
  timely = timely_amid u h;
  calls = record {
    front = u.front;
    transcript = u.transcript;
    call = u.call;
    transcripts = refl;
    going = h.going;
    earlier = h.earlier;
    waits = waits;
    own = own;
  };
  ends = follow_call u.front u.transcript u.call h.follow h.first h.going h.past;
}

-- ---- and the other way round: of which a request waits

module _ (u : Underway) (w : Waiting) (h : IsBook (book_amid u) (Some w)) where
  same_front : h.calls.front ≡ u.front
  same_front = (push_same h.calls.front u.front (record h.calls.transcript { calls = h.calls.transcript.calls ++ h.calls.call ∷ [] }) (record u.transcript { calls = u.transcript.calls ++ u.call ∷ [] }) (sym h.calls.transcripts)).0

  same_last : ◌≡◌ {A = Transcript} (record h.calls.transcript { calls = h.calls.transcript.calls ++ h.calls.call ∷ [] }) (record u.transcript { calls = u.transcript.calls ++ u.call ∷ [] })
  same_last = (push_same h.calls.front u.front (record h.calls.transcript { calls = h.calls.transcript.calls ++ h.calls.call ∷ [] }) (record u.transcript { calls = u.transcript.calls ++ u.call ∷ [] }) (sym h.calls.transcripts)).1

  same_calls : (h.calls.transcript.calls ≡ u.transcript.calls) × (h.calls.call ≡ u.call)
  same_calls = push_same h.calls.transcript.calls u.transcript.calls h.calls.call u.call (ap (λ (t : Transcript). t.calls) same_last)

  pub waits_call : IsWaiting u.config u.parts u.clock w u.call
  waits_call = subst (IsWaiting u.config u.parts u.clock w) same_calls.1 h.calls.waits

  pub waits_underway : IsUnderway u
  waits_underway =
      let last : Transcript = record u.transcript { calls = u.transcript.calls ++ u.call ∷ [] } in
      let follows = last_follows u.front last h.ends in
      record {
        histories = h.histories;
        own = subst (AreOwn (owners_at u.parts u.clock) u.number) (rows_with u) h.own;
        timely = subst (IsTimely u.number u.parts u.clock) (rows_with u) h.timely;
        earlier = subst (λ (calls : List Call). AreFinished u.config u.parts u.clock (calls_in u.front ++ calls)) same_calls.0
            (subst (λ (front : List Transcript). AreFinished u.config u.parts u.clock (calls_in front ++ h.calls.transcript.calls)) same_front h.calls.earlier);
        past = past_before u.transcript.calls u.call (told_end (last_is_cut last.calls) last.end) follows.2;
        follow = follows.0;
        first = follows.1;
        going = sym (ap (λ (t : Transcript). t.end) same_last) ∙ h.calls.going;
      }
