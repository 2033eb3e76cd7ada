-- A partition's desk, as its history goes on.
use Rattle.std.proofs.Common.{◌≡◌, ℕ, zero, suc, ℤ, pos, List, [], ◌∷◌, ◌++◌, drop, length, map, take, Result, Ok, Err, refl, sym, ap, subst, ◌∙◌, append-nil}
use Rattle.std.proofs.Math.Seq.{take-length}
use Rattle.std.specs.Prelude.{OnErr, OnOk}
use Rattle.std.proofs.lemmas.List.Elements.{All-from_recursion}
use Rattle.std.specs.List.{AllByRecursion}
use Rattle.kbatch.specs.Stamp.{stamped}
use Rattle.partlog.specs.declared.event.PartEvent.{PartEvent}
use Rattle.partlog.specs.declared.event.PartEvent.TheVariants.{Append, Follow, Look, Shrink}
use Rattle.partlog.specs.Added.{added_bytes, log_end_of}
use Rattle.partlog.specs.Fallen.{NoneFell}
use Rattle.partlog.specs.Gauges.{numbers_of}
use Rattle.partlog.specs.History.{History}
use Rattle.partlog.specs.Kept.{IsKept}
use Rattle.partlog.specs.Looked.{looked}
use Rattle.partlog.specs.Shrunk.{all_shrunk, late_at, shrinks_at, some_shrunk}
use Rattle.partlog.specs.State.{PartState, state_of}
use Rattle.kanswer.specs.Decisions.{Entry, Put, Followed, Looked, Outcome}
use Rattle.kanswer.specs.WithEntry.{entered}
use Rattle.audit.specs.broker.GoesOn.{IsWhole, Longer}
use Rattle.audit.specs.broker.Timely.{pass_of}
use Rattle.audit.proofs.broker.Laws.{entered_longer, looked_state}
use Rattle.turn_lock.specs.AddedBy.{AddedBy}
use Rattle.kanswer.specs.declared.entered.Entered.{Entered}
use Rattle.kanswer.specs.Entered.{HasEntered}
use Rattle.shared_logs.specs.declared.entries.LogEntry.{LogEntry}
use Rattle.shared_logs.specs.Desks.{PartView}
use Rattle.shared_logs.specs.Entries.{entries_from, entry_by, log_entries}
use Rattle.shared_logs.specs.Keeps.{AreAt, PartKeeps}
use Rattle.shared_logs.specs.Shrunk.{HasShrunkSome}
use Rattle.shared_logs.proofs.Adding.{added_one}
use Rattle.shared_logs.proofs.Beside.{entries_append}

-- ---- entries

-- an event more, without bytes
event_added : (h : History) (e : PartEvent) (by : ℕ) → IsWhole h → entries_from (e ∷ []) [] ≡ record { event = e; bytes = [] } ∷ [] → entry_by (record { event = e; bytes = [] }) ≡ by
    → AddedBy entry_by by (log_entries h) (entries_from (h.events ++ e ∷ []) h.log)
event_added h e by whole one whose =
    added_one entry_by by (log_entries h) (entries_from (h.events ++ e ∷ []) h.log) (record { event = e; bytes = [] })
    (ap (entries_from (h.events ++ e ∷ [])) (sym (append-nil h.log)) ∙ entries_append h.events (e ∷ []) h.log [] whole ∙ ap (λ xs. log_entries h ++ xs) one) whose

pub entered_added : (h : History) (by seq t : ℕ) (entry : Entry) → IsWhole h → AddedBy entry_by by (log_entries h) (log_entries (entered h by seq t entry))
entered_added h by seq t (Put count batch) whole =
    let e : PartEvent = Append by seq count (length batch) in
    let bytes = stamped (log_end_of h.events) batch in
    added_one entry_by by (log_entries h) (entries_from (h.events ++ e ∷ []) (h.log ++ bytes)) (record { event = e; bytes = take (length batch) bytes }) (entries_append h.events (e ∷ []) h.log bytes whole) refl
entered_added h by seq t (Followed replica offset) whole = event_added h (Follow by seq replica offset t) by whole refl refl
entered_added h by seq t Looked whole = event_added h (Look by seq) by whole refl refl

pub had_added : (by seq t : ℕ) (outcome : PartState → Outcome) (before after : History) (came : Entered) → IsWhole before → HasEntered by seq t outcome before after came
    → AddedBy entry_by by (log_entries before) (log_entries after)
had_added by seq t outcome before after came whole e =
    subst (λ (h : History). AddedBy entry_by by (log_entries before) (log_entries h)) (sym e.history) (entered_added before by seq t (outcome (state_of before)).entry whole)

-- ---- followers that were taken out

pub some_longer : (by t : ℕ) (before after : History) → HasShrunkSome by t before after → Longer before after
some_longer by t before after e =
    let more : List PartEvent = take e.count (shrinks_at before by t) in
    subst (Longer before) (sym e.history) (record { followers = refl; more = more; bytes = []; events = refl; log = sym (append-nil before.log) })

-- whether memory ran out or not
pub some_or_all : {T E : Type 0} (by t : ℕ) (before after : History) (r : Result T E) → OnOk r (after ≡ all_shrunk before by t) → OnErr r ((n : ℕ) × (after ≡ some_shrunk n before by t)) → HasShrunkSome by t before after
some_or_all by t before after (Ok x) all some =
    let more : List PartEvent = shrinks_at before by t in
    record { count = length more; history = all ∙ ap (λ (es : List PartEvent). record before { events = before.events ++ es }) (sym (take-length more)) }
some_or_all by t before after (Err e) all some = record { count = some.0; history = some.1 }

-- none of these entries is another pass's
left_by : (by t : ℕ) (late : List ℕ) (n : ℕ) → AllByRecursion (λ event. (replica : ℤ) × (event ≡ Shrink by replica t)) (take n (map (λ replica. Shrink by (pos replica) t) late))
left_by by t [] zero = tt
left_by by t [] (suc n) = tt
left_by by t (replica ∷ late) zero = tt
left_by by t (replica ∷ late) (suc n) = ((pos replica, refl), left_by by t late n)

pub shrinks_are : (by t n : ℕ) (h : History) → AllByRecursion (λ event. (replica : ℤ) × (event ≡ Shrink by replica t)) (take n (shrinks_at h by t))
shrinks_are by t n h = left_by by t (late_at h t) n

-- as the lock sees them
entries_by : (by t : ℕ) (events : List PartEvent) → AllByRecursion (λ event. (replica : ℤ) × (event ≡ Shrink by replica t)) events → AllByRecursion (λ (entry : LogEntry). entry_by entry ≡ by) (entries_from events [])
entries_by by t [] all = tt
entries_by by t (event ∷ events) all =
    let none : drop (added_bytes event) [] ≡ [] = ap (λ (e : PartEvent). drop (added_bytes e) []) all.0.1 in (
      ap pass_of all.0.1,
      subst (λ (bytes : List ℕ). AllByRecursion (λ (entry : LogEntry). entry_by entry ≡ by) (entries_from events bytes)) (sym none) (entries_by by t events all.1),
    )

pub shrunk_added : (by t : ℕ) (before after : History) → IsWhole before → HasShrunkSome by t before after → AddedBy entry_by by (log_entries before) (log_entries after)
shrunk_added by t before after whole e =
    let more : List PartEvent = take e.count (shrinks_at before by t) in
    let own : List LogEntry = entries_from more [] in
    let all : log_entries (some_shrunk e.count before by t) ≡ log_entries before ++ own =
    ap (entries_from (before.events ++ more)) (sym (append-nil before.log)) ∙ entries_append before.events more before.log [] whole in
    (own, ap log_entries e.history ∙ all, All-from_recursion (λ (entry : LogEntry). entry_by entry ≡ by) own (entries_by by t more (shrinks_are by t e.count before)))

-- ---- numbers

-- no number falls as a history goes on
abbrev pub NeverFall : Type 0
NeverFall = (log bytes : List ℕ) (followers : ℕ) (events more : List PartEvent) → IsKept log events
    → NoneFell (numbers_of (state_of (record { log = log; followers = followers; events = events })))
    (numbers_of (state_of (record { log = log ++ bytes; followers = followers; events = events ++ more })))

longer_is : (h later : History) (l : Longer h later) → later ≡ record { log = h.log ++ l.bytes; followers = h.followers; events = h.events ++ l.more }
longer_is h later l =
    ap (λ (log : List ℕ). record { log = log; followers = later.followers; events = later.events }) l.log
    ∙ ap (λ (n : ℕ). record { log = h.log ++ l.bytes; followers = n; events = later.events }) l.followers
    ∙ ap (λ (es : List PartEvent). record { log = h.log ++ l.bytes; followers = h.followers; events = es }) l.events

longer_rises : NeverFall → (before after : History) → Longer before after → IsKept before.log before.events → NoneFell (numbers_of (state_of before)) (numbers_of (state_of after))
longer_rises grown before after l kept =
    subst (λ (h : History). NoneFell (numbers_of (state_of before)) (numbers_of (state_of h))) (sym (longer_is before after l)) (grown before.log l.bytes before.followers before.events l.more kept)

pub entered_rises : NeverFall → (by seq t : ℕ) (outcome : PartState → Outcome) (before after : History) (came : Entered) → IsKept before.log before.events → HasEntered by seq t outcome before after came
    → NoneFell (numbers_of (state_of before)) (numbers_of (state_of after))
entered_rises grown by seq t outcome before after came kept e =
    longer_rises grown before after (subst (Longer before) (sym e.history) (entered_longer before by seq t (outcome (state_of before)).entry)) kept

pub shrunk_rises : NeverFall → (by t : ℕ) (before after : History) → IsKept before.log before.events → HasShrunkSome by t before after → NoneFell (numbers_of (state_of before)) (numbers_of (state_of after))
shrunk_rises grown by t before after kept e = longer_rises grown before after (some_longer by t before after e) kept

-- ---- what the desk keeps

pub keeps_looked : (desk : PartView) (by seq : ℕ) → PartKeeps desk → IsKept (looked desk.history by seq).log (looked desk.history by seq).events
    → PartKeeps (record { history = looked desk.history by seq; part = desk.part; sources = desk.sources })
keeps_looked desk by seq keeps kept = record {
  kept = kept;
  whose = keeps.whose;
  values = subst (λ (s : PartState). AreAt (numbers_of s) desk.sources) (sym (looked_state desk.history by seq)) keeps.values;
  quiet = keeps.quiet;
}
