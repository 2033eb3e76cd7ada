-- What is so of a pass stays so as a transcript is begun or ended, and as others come.
use Rattle.std.proofs.Common.{inl, inr, ◌≡◌, ◌∙◌, ℕ, zero, suc, ◌+◌, ◌<◌, ◌≤◌, Bool, true, false, cond, eqb, List, [], ◌∷◌, ◌++◌, Option, Some, None, length, refl, sym, ap, subst, arith, append-nil, length-append}
use Rattle.std.proofs.lemmas.Bool.{cases_lt, lt-ltb, ltb-true}
use Rattle.std.proofs.lemmas.Grind.{flat_map-append}
use Rattle.std.proofs.lemmas.List.Elements.{All-pop, All-push, Contains-push}
use Rattle.std.specs.Prelude.{Contains, IsSome, count_by, nat_lt, slice_index}
use Rattle.std.specs.List.Sorted.{IsStrictlyIncreasing}
use Rattle.partlog.specs.declared.clock_event.ClockEvent.{ClockEvent}
use Rattle.partlog.specs.declared.clock_event.ClockEvent.TheVariants as clocks
use Rattle.partlog.specs.History.{History}
use Rattle.partlog.specs.Moment.{moment_of}
use Rattle.audit.specs.declared.account.Call.{Call}
use Rattle.audit.specs.declared.account.SessionEnd.{SessionEnd}
use Rattle.audit.specs.declared.account.SessionEnd.TheVariants.{NoMemory}
use Rattle.audit.specs.declared.account.Transcript.{Transcript}
use Rattle.audit.specs.Histories.{calls_in, ticks_of}
use Rattle.audit.specs.IsLawful.{is_won_by}
use Rattle.kwire.specs.Configuration.{Configuration, followers_of}
use Rattle.audit.specs.broker.books.Book.{Book}
use Rattle.audit.specs.broker.books.IsBook.{IsBook}
use Rattle.audit.specs.broker.books.TakenOut.{HasTakenOut}
use Rattle.audit.specs.broker.books.Told.{last_is_cut}
use Rattle.audit.proofs.broker.books.Laws.{begun, ended, others_came, taken_out, ticked}
use Rattle.audit.specs.broker.Board.{Waiting}
use Rattle.kwire.specs.DeclaredTopics.{AreDeclared}
use Rattle.audit.specs.broker.Sound.{AreHistories}
use Rattle.audit.proofs.broker.Laws.{parts_size}
use Rattle.purgatory.specs.Going.{KeepsOperation, OwesNothing}
use Rattle.room_core.specs.declared.parts.Taken.{Taken}
use Rattle.room_core.specs.Described.{operation_of as described}
use Rattle.room_core.specs.State.{Caller}
use Rattle.room_table.specs.Seats.{caller_now}
use Rattle.shared_broker.specs.declared.parked.Parked.{Parked}
use Rattle.shared_broker.specs.Moved.{HasMoved}
use Rattle.shared_broker.specs.Passes.{PassView, book_of}
use Rattle.shared_broker.specs.Sessions.{MayEnd}
use Rattle.shared_broker.specs.Standing.{HoldsBook, Sits, Stands}
use Rattle.shared_logs.specs.Asked.{HasTicked}
use Rattle.shared_logs.specs.Coming.{HasCaughtUp, HasStepped, OthersCame}
use Rattle.shared_logs.specs.Seen.{HasSeen}
use Rattle.shared_logs.specs.Shared.{LogPassView, followers_in}
use Rattle.shared_logs.specs.Shrinking.{HasPartlyTold, HasShrunk, HasTold}

abbrev pub pass_of : Configuration → LogPassView → List Transcript → Option Transcript → Option Parked → PassView
pass_of config logs ended going waits = record { config = config; logs = logs; ended = ended; going = going; waits = waits }

abbrev book_with : Configuration → LogPassView → List Transcript → Book
book_with config logs transcripts = record { config = config; number = logs.number; parts = logs.parts; clock = logs.clock; transcripts = transcripts }

calls_behind : (front : List Transcript) (last : Transcript) → calls_in (front ++ last ∷ []) ≡ calls_in front ++ last.calls
calls_behind front last = flat_map-append (λ (t : Transcript). t.calls) front (last ∷ []) ∙ ap (λ (calls : List Call). calls_in front ++ calls) (append-nil last.calls)

-- ---- a transcript is begun

module _ (config : Configuration) (logs : LogPassView) (before : List Transcript) (number first : ℕ) (is : first ≡ length (calls_in before)) (s : Stands (pass_of config logs before None None)) where
  abbrev new : Transcript
  new = record { number = number; first = first; calls = []; end = None }

  calls_begun : calls_in (before ++ new ∷ []) ≡ calls_in (before ++ [])
  calls_begun = calls_behind before new ∙ append-nil (calls_in before) ∙ ap calls_in (sym (append-nil before))

  book_begun : IsBook (book_with config logs (before ++ new ∷ [])) None
  book_begun =
      let old : IsBook (book_with config logs before) None = subst (λ (ts : List Transcript). IsBook (book_with config logs ts) None) (append-nil before) s.book in
      subst (λ (n : ℕ). IsBook (book_with config logs (before ++ record { number = number; first = n; calls = []; end = None } ∷ [])) None) (sym is)
      (begun (book_with config logs before) number old)

  pub begun_stands : Stands (pass_of config logs before (Some new) None)
  begun_stands = record {
    seen = s.seen;
    topics = s.topics;
    followers = s.followers;
    book = book_begun;
    going = refl;
    ended = s.ended;
    begun = tt;
    sits = s.sits;
    paid = s.paid;
    few = subst (λ (calls : List Call). length calls ≤ 4294967295) (sym calls_begun) s.few;
    opened = subst (λ (calls : List Call). (caller_now logs.seat).generation ≤ length calls) (sym calls_begun) s.opened;
    taken = λ by. s.taken by ∙ ap (count_by (is_won_by by)) (sym calls_begun);
  }

-- ---- and ended

module _ (config : Configuration) (logs : LogPassView) (before : List Transcript) (transcript : Transcript) (end : SessionEnd) (s : Stands (pass_of config logs before (Some transcript) None)) where
  abbrev closed : Transcript
  closed = record transcript { end = Some end }

  calls_ended : calls_in ((before ++ closed ∷ []) ++ []) ≡ calls_in (before ++ transcript ∷ [])
  calls_ended = ap calls_in (append-nil (before ++ closed ∷ [])) ∙ calls_behind before closed ∙ sym (calls_behind before transcript)

  pub ended_stands : (last_is_cut transcript.calls ≡ true → end ≡ NoMemory) → Stands (pass_of config logs (before ++ closed ∷ []) None None)
  ended_stands cut = record {
    seen = s.seen;
    topics = s.topics;
    followers = s.followers;
    book = subst (λ (ts : List Transcript). IsBook (book_with config logs ts) None) (sym (append-nil (before ++ closed ∷ [])))
        (ended (book_with config logs (before ++ transcript ∷ [])) before transcript end s.going cut s.book);
    going = tt;
    ended = All-push (λ (t : Transcript). IsSome t.end) before closed s.ended refl;
    begun = tt;
    sits = s.sits;
    paid = s.paid;
    few = subst (λ (calls : List Call). length calls ≤ 4294967295) (sym calls_ended) s.few;
    opened = subst (λ (calls : List Call). (caller_now logs.seat).generation ≤ length calls) (sym calls_ended) s.opened;
    taken = λ by. s.taken by ∙ ap (count_by (is_won_by by)) (sym calls_ended);
  }

  pub first_ended : (first calls : ℕ) → first ≡ length (calls_in before) → calls ≡ length transcript.calls → first + calls ≡ length (calls_in (before ++ closed ∷ []))
  first_ended first calls is count = omega (arith, is, count, ap (λ (cs : List Call). length cs) (calls_behind before closed), length-append (calls_in before) transcript.calls)

  pub few_calls : (first : ℕ) → first ≡ length (calls_in before) → first + length transcript.calls ≤ 4294967295
  few_calls first is = omega (arith, is, s.few, ap (λ (cs : List Call). length cs) (calls_behind before transcript), length-append (calls_in before) transcript.calls)

-- ---- where no transcript is going, nothing waits

none_going : (config : Configuration) (logs : LogPassView) (before : List Transcript) (waits : Option Parked) → Stands (pass_of config logs before None waits) → waits ≡ None
none_going config logs before None s = refl
none_going config logs before (Some parked) s =
    let book = s.book.book_is.calls in
    let last : Transcript = record book.transcript { calls = book.transcript.calls ++ book.call ∷ [] } in
    let ends : IsSome last.end = (All-pop (λ (t : Transcript). IsSome t.end) before book.front (Some last) (sym (append-nil before) ∙ book.transcripts) s.ended).1 in
    let none : IsSome {T = SessionEnd} None = subst IsSome book.going ends in
    absurd cc

-- one is begun
pub begun_pass : (p : PassView) (number first : ℕ) (calls : List Call) → calls ≡ [] → first ≡ length (calls_in p.ended) → p.going ≡ None → Stands p
    → Stands (pass_of p.config p.logs p.ended (Some (record { number = number; first = first; calls = calls; end = None })) p.waits)
begun_pass p number first calls none is e s =
    let idle : Stands (pass_of p.config p.logs p.ended None p.waits) = subst (λ (g : Option Transcript). Stands (pass_of p.config p.logs p.ended g p.waits)) e s in
    let w : p.waits ≡ None = none_going p.config p.logs p.ended p.waits idle in
    let start : Stands (pass_of p.config p.logs p.ended None None) = subst (λ (o : Option Parked). Stands (pass_of p.config p.logs p.ended None o)) w idle in
    let T : List Call → Option Transcript = λ cs. Some (record { number = number; first = first; calls = cs; end = None }) in
    subst (λ (o : Option Parked). Stands (pass_of p.config p.logs p.ended (T calls) o)) (sym w)
    (subst (λ (cs : List Call). Stands (pass_of p.config p.logs p.ended (T cs) None)) (sym none) (begun_stands p.config p.logs p.ended number first is start))

-- and ended
module _ (p : PassView) (end : SessionEnd) (first calls : ℕ) (later : List Transcript) (left : Option Transcript) (m : HasMoved end calls p.ended p.going later left) (none : p.waits ≡ None) (is : first ≡ length (calls_in p.ended)) (s : Stands p) where
  going_on : Stands (pass_of p.config p.logs p.ended (Some m.transcript) None)
  going_on =
      subst (λ (o : Option Parked). Stands (pass_of p.config p.logs p.ended (Some m.transcript) o)) none
      (subst (λ (g : Option Transcript). Stands (pass_of p.config p.logs p.ended g p.waits)) m.was s)

  pub ended_pass : MayEnd p.going end → Stands (pass_of p.config p.logs later left p.waits)
  ended_pass may =
      let cut : last_is_cut m.transcript.calls ≡ true → end ≡ NoMemory = subst (λ (g : Option Transcript). MayEnd g end) m.was may in
      subst (λ (o : Option Parked). Stands (pass_of p.config p.logs later left o)) (sym none)
      (subst (λ (g : Option Transcript). Stands (pass_of p.config p.logs later g None)) (sym m.none)
      (subst (λ (ts : List Transcript). Stands (pass_of p.config p.logs ts None None)) (sym m.behind) (ended_stands p.config p.logs p.ended m.transcript end going_on cut)))

  pub first_moved : first + calls ≡ length (calls_in later)
  first_moved = first_ended p.config p.logs p.ended m.transcript end going_on first calls is m.count ∙ ap (λ (ts : List Transcript). length (calls_in ts)) (sym m.behind)

-- ---- the histories that a pass has seen

pub seen_histories : (config : Configuration) (logs : LogPassView) → HasSeen logs → AreDeclared config.topics → followers_in logs.made ≡ followers_of config.topics → AreHistories config logs.parts logs.clock
seen_histories config logs seen topics followers =
    let all = seen.followers ∙ followers in
    record {
      whole = seen.whole;
      few = omega (arith, parts_size config.topics logs.parts all, topics.few);
      followers = all;
      ticks = seen.ticks;
    }

-- ---- others came

-- what is kept of a request goes on with the book
pub holds_on : (old later : Book) (waits : Option Parked) → ((w : Option Waiting) → IsBook old w → IsBook later w) → HoldsBook old waits → HoldsBook later waits
holds_on old later None on h = on None h
holds_on old later (Some parked) on h =
    record { w = h.w; book_is = on (Some h.w) h.book_is; operation = h.operation; results = h.results; moment = h.moment; became = h.became; listed = h.listed; carriable = h.carriable }

sits_on : (old later : Caller) (waits : Option Parked) → KeepsOperation old later → Sits old waits → Sits later waits
sits_on old later None kept h = kept.stage ∙ h
sits_on old later (Some parked) kept h = (kept.stage ∙ h.0, ap described kept.description ∙ h.1)

module _ (config : Configuration) (logs later : LogPassView) (before : List Transcript) (going : Option Transcript) (waits : Option Parked) (s : Stands (pass_of config logs before going waits))
    (seen : HasSeen later) (number : later.number ≡ logs.number) (made : later.made ≡ logs.made) (kept : KeepsOperation (caller_now logs.seat) (caller_now later.seat)) (paid : OwesNothing (caller_now later.seat)) where
  pub later_histories : AreHistories config later.parts later.clock
  later_histories = seen_histories config later seen s.topics (ap followers_in made ∙ s.followers)

  -- the book goes on, and all else stays
  pub later_stands : ((w : Option Waiting) → IsBook (book_of (pass_of config logs before going waits)) w → IsBook (book_of (pass_of config later before going waits)) w) → Stands (pass_of config later before going waits)
  later_stands on = record {
    seen = seen;
    topics = s.topics;
    followers = ap followers_in made ∙ s.followers;
    book = holds_on (book_of (pass_of config logs before going waits)) (book_of (pass_of config later before going waits)) waits on s.book;
    going = s.going;
    ended = s.ended;
    begun = s.begun;
    sits = sits_on (caller_now logs.seat) (caller_now later.seat) waits kept s.sits;
    paid = paid;
    few = s.few;
    opened = omega (arith, kept.generation, s.opened);
    taken = λ by. ap (count_by (λ (item : Taken). eqb item.by by)) kept.taken ∙ s.taken by;
  }

  -- others came
  pub others_stand : OthersCame logs.number logs.parts logs.clock later.parts later.clock → Stands (pass_of config later before going waits)
  others_stand came = later_stands (λ w h.
      let old : Book = book_of (pass_of config logs before going waits) in
      subst (λ (n : ℕ). IsBook (record old { number = n; parts = later.parts; clock = later.clock }) w) (sym number)
      (others_came old w later.parts later.clock came.grown came.within later_histories h))

-- ---- and the clock was told a moment

slice_front : (xs ys : List ℕ) (k : ℕ) → k < length xs → slice_index (xs ++ ys) k ≡ slice_index xs k
slice_front [] ys k lt = absurd (omega (arith, lt))
slice_front (x ∷ xs) ys zero lt = refl
slice_front (x ∷ xs) ys (suc k) lt = slice_front xs ys k (omega (arith, lt))

-- the front of what rises rises
front_rises : (xs ys : List ℕ) → IsStrictlyIncreasing (xs ++ ys) → IsStrictlyIncreasing xs
front_rises xs ys all k lt =
    let up = all k (omega (arith, lt, length-append xs ys)) in
    omega (arith, up, slice_front xs ys k (omega (arith, lt)), slice_front xs ys (k + 1) lt)

ticks_front : (clock more : List ClockEvent) → ticks_of (clock ++ more) ≡ ticks_of clock ++ ticks_of more
ticks_front [] more = refl
ticks_front (clocks.Tick t ∷ clock) more = ap (λ (ts : List ℕ). t ∷ ts) (ticks_front clock more)
ticks_front (clocks.Look by seq ∷ clock) more = ticks_front clock more

clock_front : (clock more : List ClockEvent) → IsStrictlyIncreasing (0 ∷ ticks_of (clock ++ more)) → IsStrictlyIncreasing (0 ∷ ticks_of clock)
clock_front clock more all = front_rises (0 ∷ ticks_of clock) (ticks_of more) (subst (λ (ts : List ℕ). IsStrictlyIncreasing (0 ∷ ts)) (ticks_front clock more) all)

abbrev told_at : Bool → List ClockEvent → ℕ → List ClockEvent
told_at b found t = cond b (found ++ clocks.Tick t ∷ []) found

found_rises : (b : Bool) (found : List ClockEvent) (t : ℕ) → IsStrictlyIncreasing (0 ∷ ticks_of (told_at b found t)) → IsStrictlyIncreasing (0 ∷ ticks_of found)
found_rises true found t all = clock_front found (clocks.Tick t ∷ []) all
found_rises false found t all = all

book_told : (b : Bool) (book : Book) (found : List ClockEvent) (t : ℕ) (w : Option Waiting) → nat_lt (moment_of found) t ≡ b → IsBook (record book { clock = found }) w → IsBook (record book { clock = told_at b found t }) w
book_told true book found t w e h = ticked (record book { clock = found }) w t (ltb-true (moment_of found) t e) h
book_told false book found t w e h = h

book_ticked : (book : Book) (found : List ClockEvent) (t : ℕ) (w : Option Waiting) → OthersCame book.number book.parts book.clock book.parts found → IsStrictlyIncreasing (0 ∷ ticks_of (told_at (nat_lt (moment_of found) t) found t))
    → IsBook book w → IsBook (record book { clock = told_at (nat_lt (moment_of found) t) found t }) w
book_ticked book found t w came rises h =
    let histories : AreHistories book.config book.parts found =
    record { whole = h.histories.whole; few = h.histories.few; followers = h.histories.followers; ticks = found_rises (nat_lt (moment_of found) t) found t rises } in
    book_told (nat_lt (moment_of found) t) book found t w refl (others_came book w book.parts found came.grown came.within histories h)

-- a moment above the clock's is among its ticks
told_there : (b : Bool) (found : List ClockEvent) (t : ℕ) → b ≡ true → Contains (ticks_of (told_at b found t)) t
told_there true found t e = subst (λ (ts : List ℕ). Contains ts t) (sym (ticks_front found (clocks.Tick t ∷ []))) (Contains-push (ticks_of found) t)
told_there false found t e = absurd cc

kept_on : (a b c : Caller) → KeepsOperation a b → KeepsOperation b c → KeepsOperation a c
kept_on a b c one two = record {
  generation = two.generation ∙ one.generation;
  description = two.description ∙ one.description;
  stage = two.stage ∙ one.stage;
  wins = two.wins ∙ one.wins;
  taken = two.taken ∙ one.taken;
}

module _ (config : Configuration) (logs between later : LogPassView) (before : List Transcript) (going : Option Transcript) (waits : Option Parked) (s : Stands (pass_of config logs before going waits)) (seen : HasSeen later)
    (stepped : HasStepped between later) (kept : KeepsOperation (caller_now between.seat) (caller_now later.seat)) (paid : OwesNothing (caller_now later.seat)) where
  caught_stands : HasCaughtUp logs between → Stands (pass_of config later before going waits)
  caught_stands up =
      others_stand config logs later before going waits s seen (stepped.number ∙ up.same.number) (stepped.made ∙ up.same.made)
      (kept_on (caller_now logs.seat) (caller_now between.seat) (caller_now later.seat) up.same.kept kept) paid
      (subst (λ (c : List ClockEvent). OthersCame logs.number logs.parts logs.clock later.parts c) (sym stepped.clock)
      (subst (λ (p : List History). OthersCame logs.number logs.parts logs.clock p between.clock) (sym stepped.parts) up.others))

  ticked_stands : (t : ℕ) → HasTicked t logs between → Stands (pass_of config later before going waits)
  ticked_stands t told =
      let number = stepped.number ∙ told.same.number in
      let parts = stepped.parts ∙ told.parts in
      let clock = stepped.clock ∙ told.clock in
      later_stands config logs later before going waits s seen number (stepped.made ∙ told.same.made)
      (kept_on (caller_now logs.seat) (caller_now between.seat) (caller_now later.seat) told.same.kept kept) paid
      (λ w h.
      let old : Book = book_of (pass_of config logs before going waits) in
      subst (λ (n : ℕ). IsBook (record old { number = n; parts = later.parts; clock = later.clock }) w) (sym number)
      (subst (λ (p : List History). IsBook (record old { parts = p; clock = later.clock }) w) (sym parts)
      (subst (λ (c : List ClockEvent). IsBook (record old { clock = c }) w) (sym clock)
      (book_ticked old told.found t w told.others (subst (λ (c : List ClockEvent). IsStrictlyIncreasing (0 ∷ ticks_of c)) clock seen.ticks) h))))

  -- and whoever lagged was taken out
  shrunk_stands : (t : ℕ) (risen : LogPassView) (told : HasTicked t logs risen) → moment_of told.found < t → HasShrunk t risen between → Stands (pass_of config later before going waits)
  shrunk_stands t risen told less shrunk =
      let b = nat_lt (moment_of told.found) t in
      let number = stepped.number ∙ shrunk.same.number ∙ told.same.number in
      let made = stepped.made ∙ shrunk.same.made ∙ told.same.made in
      let all_kept = kept_on (caller_now logs.seat) (caller_now risen.seat) (caller_now later.seat) told.same.kept (kept_on (caller_now risen.seat) (caller_now between.seat) (caller_now later.seat) shrunk.same.kept kept) in
      let clock : later.clock ≡ told_at b told.found t = stepped.clock ∙ shrunk.clock ∙ told.clock in
      let rises = subst (λ (c : List ClockEvent). IsStrictlyIncreasing (0 ∷ ticks_of c)) clock seen.ticks in
      let out : HasTakenOut logs.number t logs.parts later.parts =
      subst (λ (n : ℕ). HasTakenOut n t logs.parts later.parts) told.same.number
      (subst (λ (ps : List History). HasTakenOut risen.number t ps later.parts) told.parts
      (subst (λ (ps : List History). HasTakenOut risen.number t risen.parts ps) (sym stepped.parts) shrunk.taken)) in
      let histories : AreHistories config later.parts (told_at b told.found t) =
      subst (λ (c : List ClockEvent). AreHistories config later.parts c) clock (later_histories config logs later before going waits s seen number made all_kept paid) in
      later_stands config logs later before going waits s seen number made all_kept paid
      (λ w h.
      let old : Book = book_of (pass_of config logs before going waits) in
      let there = book_ticked old told.found t w told.others rises h in
      subst (λ (n : ℕ). IsBook (record old { number = n; parts = later.parts; clock = later.clock }) w) (sym number)
      (subst (λ (c : List ClockEvent). IsBook (record old { parts = later.parts; clock = c }) w) (sym clock)
      (taken_out (record old { clock = told_at b told.found t }) w t later.parts out (told_there b told.found t (lt-ltb (moment_of told.found) t less)) histories there)))

  pub told_stands : (t : ℕ) → HasTold t logs between → Stands (pass_of config later before going waits)
  told_stands t told = elim (cases_lt (moment_of told.told.found) t) [
    | inl less ↦ shrunk_stands t told.between told.told less told.shrunk
    | inr still ↦ ticked_stands t (subst (HasTicked t logs) (sym (told.still still)) told.told)
  ]

  pub partly_stands : (t : ℕ) → HasPartlyTold t logs between → Stands (pass_of config later before going waits)
  partly_stands t (inl came) = caught_stands came
  partly_stands t (inr risen) = shrunk_stands t risen.between risen.told risen.rose risen.shrunk
