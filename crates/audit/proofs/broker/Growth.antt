-- How histories grow, and what stays of their states.
use Rattle.std.proofs.Common.{◌≡◌, ℕ, ◌+◌, ◌≤◌, max, List, [], ◌∷◌, ◌++◌, length, take, drop, refl, sym, ap, ◌∙◌, arith, append_assoc, append-nil, length-append, length-drop}
use Rattle.std.proofs.Math.Seq.{take-append_seam, drop-append_seam, take-length}
use Rattle.std.proofs.lemmas.List.{take-append-le, drop-append-le}
use Rattle.std.proofs.lemmas.List.Sums.{sum_by-cons, sum_by_push}
use Rattle.std.proofs.lemmas.List.Elements.{filter_map-append}
use Rattle.partlog.specs.declared.event.PartEvent.{PartEvent}
use Rattle.partlog.specs.declared.event.PartEvent.TheVariants.{Append, Follow, Look, Shrink}
use Rattle.kbatch.specs.Stamp.{stamped}
use Rattle.partlog.specs.in_sync.InSync.{count_of, high_watermark_of}
use Rattle.partlog.specs.in_sync.ReplicaEvent.{ReplicaEvent}
use Rattle.std.specs.List.{fold, filter_map}
use Rattle.partlog.specs.declared.clock_event.ClockEvent.{ClockEvent}
use Rattle.partlog.specs.declared.clock_event.ClockEvent.TheVariants as clocks
use Rattle.partlog.specs.Moment.{moment_of, tick_of}
use Rattle.partlog.specs.Looked.{looked}
use Rattle.partlog.specs.Replicas.{replica_events}
use Rattle.partlog.specs.Added.{added_bytes, added_count, bytes_of, log_end_of}
use Rattle.partlog.specs.Batches.{StoredBatch, batches_of, batches_after}
use Rattle.partlog.specs.History.{History}
use Rattle.partlog.specs.State.{state_of, state_before, state_at, front_of}
use Rattle.partlog.proofs.Laws.{batches-append, events-append}
use Rattle.kanswer.specs.Decisions.{Entry, Put, Followed, Looked}
use Rattle.kanswer.specs.WithEntry.{entered}
pub use Rattle.audit.specs.broker.GoesOn.{Longer, IsWhole}

pub longer_self : (h : History) → Longer h h
longer_self h = record { followers = refl; more = []; bytes = []; events = sym (append-nil h.events); log = sym (append-nil h.log) }

pub longer_on : (a b c : History) → Longer a b → Longer b c → Longer a c
longer_on a b c f g = record {
  followers = g.followers ∙ f.followers;
  more = f.more ++ g.more;
  bytes = f.bytes ++ g.bytes;
  events = g.events ∙ ap (λ (es : List PartEvent). es ++ g.more) f.events ∙ append_assoc a.events f.more g.more;
  log = g.log ∙ ap (λ (bs : List ℕ). bs ++ g.bytes) f.log ∙ append_assoc a.log f.bytes g.bytes;
}

-- the front of a longer history is what it was
pub front_kept : (h later : History) → IsWhole h → Longer h later → front_of later (length h.events) ≡ h
front_kept h later whole l =
    let n = length h.events in
    let es : take n later.events ≡ h.events = ap (take n) l.events ∙ take-append_seam h.events l.more in
    let bs : take (bytes_of (take n later.events)) later.log ≡ h.log =
    ap (λ (xs : List PartEvent). take (bytes_of xs) later.log) es ∙ ap (λ (k : ℕ). take k later.log) whole ∙ ap (take (length h.log)) l.log ∙ take-append_seam h.log l.bytes in
    ap (λ (log : List ℕ). record { log = log; followers = later.followers; events = take n later.events }) bs
    ∙ ap (λ (k : ℕ). record { log = h.log; followers = k; events = take n later.events }) l.followers
    ∙ ap (λ (xs : List PartEvent). record { log = h.log; followers = h.followers; events = xs }) es

pub before_kept : (h later : History) → IsWhole h → Longer h later → state_before later (length h.events) ≡ state_of h
before_kept h later whole l = ap state_of (front_kept h later whole l)

-- an entry that fills as many bytes as it says
abbrev pub IsSized : Entry → Type 0
IsSized (Put count batch) = (base : ℕ) → length (stamped base batch) ≡ length batch
IsSized (Followed replica offset) = Unit {0}
IsSized Looked = Unit {0}

-- the event of an entry
abbrev pub event_of : ℕ → ℕ → ℕ → Entry → PartEvent
event_of by seq t (Put count batch) = Append by seq count (length batch)
event_of by seq t (Followed replica offset) = Follow by seq replica offset t
event_of by seq t Looked = Look by seq

pub entered_events : (h : History) (by seq t : ℕ) (entry : Entry) → (entered h by seq t entry).events ≡ h.events ++ event_of by seq t entry ∷ []
entered_events h by seq t (Put count batch) = refl
entered_events h by seq t (Followed replica offset) = refl
entered_events h by seq t Looked = refl

pub entered_followers : (h : History) (by seq t : ℕ) (entry : Entry) → (entered h by seq t entry).followers ≡ h.followers
entered_followers h by seq t (Put count batch) = refl
entered_followers h by seq t (Followed replica offset) = refl
entered_followers h by seq t Looked = refl

pub entered_longer : (h : History) (by seq t : ℕ) (entry : Entry) → Longer h (entered h by seq t entry)
entered_longer h by seq t (Put count batch) =
    record { followers = refl; more = Append by seq count (length batch) ∷ []; bytes = stamped (log_end_of h.events) batch; events = refl; log = refl }
entered_longer h by seq t (Followed replica offset) =
    record { followers = refl; more = Follow by seq replica offset t ∷ []; bytes = []; events = refl; log = sym (append-nil h.log) }
entered_longer h by seq t Looked =
    record { followers = refl; more = Look by seq ∷ []; bytes = []; events = refl; log = sym (append-nil h.log) }

pub entered_whole : (h : History) (by seq t : ℕ) (entry : Entry) → IsWhole h → IsSized entry → IsWhole (entered h by seq t entry)
entered_whole h by seq t (Put count batch) whole sized =
    let e : PartEvent = Append by seq count (length batch) in
    let base = log_end_of h.events in
    omega (arith, sum_by_push added_bytes h.events e, length-append h.log (stamped base batch), sized base, whole)
entered_whole h by seq t (Followed replica offset) whole sized =
    let e : PartEvent = Follow by seq replica offset t in omega (arith, sum_by_push added_bytes h.events e, whole)
entered_whole h by seq t Looked whole sized =
    let e : PartEvent = Look by seq in omega (arith, sum_by_push added_bytes h.events e, whole)

pub entered_length : (h : History) (by seq t : ℕ) (entry : Entry) → length (entered h by seq t entry).events ≡ length h.events + 1
entered_length h by seq t entry = ap length (entered_events h by seq t entry) ∙ length-append h.events (event_of by seq t entry ∷ [])

-- the state with an entry, in a longer history
pub at_kept : (h later : History) (by seq t : ℕ) (entry : Entry) → IsWhole h → IsSized entry → Longer (entered h by seq t entry) later
    → state_at later (length h.events) ≡ state_of (entered h by seq t entry)
at_kept h later by seq t entry whole sized l =
    ap (λ (n : ℕ). state_before later n) (sym (entered_length h by seq t entry)) ∙ before_kept (entered h by seq t entry) later (entered_whole h by seq t entry whole sized) l

-- bytes behind those of the entries change no batch
more_bytes : (before es : List PartEvent) (log new : List ℕ) → bytes_of es ≤ length log → batches_after before es (log ++ new) ≡ batches_after before es log
more_bytes before [] log new fits = refl
more_bytes before (Append by seq count len ∷ es) log new fits =
    let e : PartEvent = Append by seq count len in
    let total : bytes_of (e ∷ es) ≡ len + bytes_of es = sum_by-cons added_bytes e es in
    let room : len ≤ length log = omega (arith, fits, total) in
    let here : take len (log ++ new) ≡ take len log = take-append-le len log new room in
    let rest : drop len (log ++ new) ≡ drop len log ++ new = drop-append-le len log new room in
    let later : batches_after (before ++ e ∷ []) es (drop len log ++ new) ≡ batches_after (before ++ e ∷ []) es (drop len log) =
    more_bytes (before ++ e ∷ []) es (drop len log) new (omega (arith, fits, total, length-drop len log)) in
    ap (λ (bs : List ℕ). record { base = log_end_of before; count = count; bytes = bs } ∷ batches_after (before ++ e ∷ []) es (drop len (log ++ new))) here
    ∙ ap (λ (bs : List ℕ). record { base = log_end_of before; count = count; bytes = take len log } ∷ batches_after (before ++ e ∷ []) es bs) rest
    ∙ ap (λ (bs : List StoredBatch). record { base = log_end_of before; count = count; bytes = take len log } ∷ bs) later
more_bytes before (Follow by seq replica offset t ∷ es) log new fits = more_bytes (before ++ Follow by seq replica offset t ∷ []) es log new fits
more_bytes before (Look by seq ∷ es) log new fits = more_bytes (before ++ Look by seq ∷ []) es log new fits
more_bytes before (Shrink by replica t ∷ es) log new fits = more_bytes (before ++ Shrink by replica t ∷ []) es log new fits

-- a batch that is put stands behind the others
pub put_batches : (h : History) (by seq t count : ℕ) (batch : List ℕ) → IsWhole h → ((base : ℕ) → length (stamped base batch) ≡ length batch)
    → (state_of (entered h by seq t (Put count batch))).batches
    ≡ (state_of h).batches ++ record { base = (state_of h).log_end; count = count; bytes = stamped (state_of h).log_end batch } ∷ []
put_batches h by seq t count batch whole sized =
    let base = log_end_of h.events in
    let new = stamped base batch in
    let e : PartEvent = Append by seq count (length batch) in
    let rest : drop (bytes_of h.events) (h.log ++ new) ≡ new = ap (λ (n : ℕ). drop n (h.log ++ new)) whole ∙ drop-append_seam h.log new in
    let one : take (length batch) (drop (bytes_of h.events) (h.log ++ new)) ≡ new =
    ap (take (length batch)) rest ∙ ap (λ (n : ℕ). take n new) (sym (sized base)) ∙ take-length new in
    batches-append [] h.events (e ∷ []) (h.log ++ new)
    ∙ ap (λ (bs : List StoredBatch). bs ++ record { base = base; count = count; bytes = take (length batch) (drop (bytes_of h.events) (h.log ++ new)) } ∷ []) (more_bytes [] h.events h.log new (omega (arith, whole)))
    ∙ ap (λ (bytes : List ℕ). batches_of h.events h.log ++ record { base = base; count = count; bytes = bytes } ∷ []) one

-- ---- looks change no state

looked_end : (es : List PartEvent) (by seq : ℕ) → log_end_of (es ++ Look by seq ∷ []) ≡ log_end_of es
looked_end es by seq = let e : PartEvent = Look by seq in omega (arith, sum_by_push added_count es e)

looked_replicas : (es : List PartEvent) (by seq : ℕ) → replica_events (es ++ Look by seq ∷ []) ≡ replica_events es
looked_replicas es by seq = events-append es (Look by seq ∷ []) ∙ append-nil (replica_events es)

-- a look leaves the state as it was
pub looked_state : (h : History) (by seq : ℕ) → state_of (looked h by seq) ≡ state_of h
looked_state h by seq =
    let es = h.events ++ Look by seq ∷ [] in
    let batches : batches_of es h.log ≡ batches_of h.events h.log = batches-append [] h.events (Look by seq ∷ []) h.log ∙ append-nil (batches_of h.events h.log) in
    let high = λ (rs : List ReplicaEvent). high_watermark_of h.followers rs in
    let insync = λ (rs : List ReplicaEvent). count_of h.followers rs in
    ap (λ (bs : List StoredBatch). record { batches = bs; log_end = log_end_of es; high = high (replica_events es); insync = insync (replica_events es) }) batches
    ∙ ap (λ (n : ℕ). record { batches = batches_of h.events h.log; log_end = n; high = high (replica_events es); insync = insync (replica_events es) }) (looked_end h.events by seq)
    ∙ ap (λ (rs : List ReplicaEvent). record { batches = batches_of h.events h.log; log_end = log_end_of h.events; high = high rs; insync = insync rs }) (looked_replicas h.events by seq)

-- nor does the clock's moment change
pub looked_moment : (clock : List ClockEvent) (by seq : ℕ) → moment_of (clock ++ clocks.Look by seq ∷ []) ≡ moment_of clock
looked_moment clock by seq = ap (fold max 0) (filter_map-append tick_of clock (clocks.Look by seq ∷ []) ∙ append-nil (filter_map tick_of clock))
