-- The entries that a lock sees, beside the histories.
use Rattle.std.proofs.Common.{◌≡◌, ℕ, suc, ◌+◌, ◌≤◌, List, [], ◌∷◌, ◌++◌, length, map, take, drop, refl, sym, ap, ◌∙◌, arith, length-drop}
use Rattle.std.proofs.lemmas.List.{map-append, take-append-drop, take-append-le, drop-append-le}
use Rattle.std.proofs.lemmas.List.Concat.{flat_map-cons}
use Rattle.std.proofs.lemmas.List.Sums.{sum_by-cons}
use Rattle.std.proofs.lemmas.Grind.{flat_map-append}
use Rattle.std.specs.List.{flat_map}
use Rattle.partlog.specs.declared.clock_event.ClockEvent.{ClockEvent}
use Rattle.partlog.specs.declared.clock_event.ClockEvent.TheVariants.{Tick, Look}
use Rattle.partlog.specs.declared.event.PartEvent.{PartEvent}
use Rattle.partlog.specs.Added.{added_bytes, bytes_of}
use Rattle.partlog.specs.History.{History}
use Rattle.audit.specs.Histories.{ticks_of}
use Rattle.turn_lock.specs.StartsWith.{StartsWith}
use Rattle.audit.specs.broker.GoesOn.{IsWhole, Longer}
use Rattle.shared_logs.specs.declared.entries.ClockEntry.{ClockEntry}
use Rattle.shared_logs.specs.declared.entries.LogEntry.{LogEntry}
use Rattle.shared_logs.specs.Entries.{clock_entries, entries_from, log_entries}
use Rattle.shared_logs.specs.Histories.{history_of}

-- ---- a partition's

abbrev pub event_in : LogEntry → PartEvent
event_in entry = entry.event

abbrev pub bytes_in : LogEntry → List ℕ
bytes_in entry = entry.bytes

pub entries_append : (es more : List PartEvent) (log bytes : List ℕ) → bytes_of es ≡ length log → entries_from (es ++ more) (log ++ bytes) ≡ entries_from es log ++ entries_from more bytes
entries_append [] more [] bytes whole = refl
entries_append [] more (b ∷ log) bytes whole = absurd (omega (arith, whole))
entries_append (e ∷ es) more log bytes whole =
    let n = added_bytes e in
    let total : bytes_of (e ∷ es) ≡ n + bytes_of es = sum_by-cons added_bytes e es in
    let room : n ≤ length log = omega (arith, whole, total) in
    let here : take n (log ++ bytes) ≡ take n log = take-append-le n log bytes room in
    let rest : drop n (log ++ bytes) ≡ drop n log ++ bytes = drop-append-le n log bytes room in
    ap (λ (bs : List ℕ). record { event = e; bytes = bs } ∷ entries_from (es ++ more) (drop n (log ++ bytes))) here
    ∙ ap (λ (bs : List ℕ). record { event = e; bytes = take n log } ∷ entries_from (es ++ more) bs) rest
    ∙ ap (λ (xs : List LogEntry). record { event = e; bytes = take n log } ∷ xs) (entries_append es more (drop n log) bytes (omega (arith, whole, total, length-drop n log)))

pub entries_events : (es : List PartEvent) (log : List ℕ) → map event_in (entries_from es log) ≡ es
entries_events [] log = refl
entries_events (e ∷ es) log = ap (λ (xs : List PartEvent). e ∷ xs) (entries_events es (drop (added_bytes e) log))

pub entries_length : (es : List PartEvent) (log : List ℕ) → length (entries_from es log) ≡ length es
entries_length [] log = refl
entries_length (e ∷ es) log = ap suc (entries_length es (drop (added_bytes e) log))

pub entries_bytes : (es : List PartEvent) (log : List ℕ) → bytes_of es ≡ length log → flat_map bytes_in (entries_from es log) ≡ log
entries_bytes [] [] whole = refl
entries_bytes [] (b ∷ log) whole = absurd (omega (arith, whole))
entries_bytes (e ∷ es) log whole =
    let n = added_bytes e in
    let total : bytes_of (e ∷ es) ≡ n + bytes_of es = sum_by-cons added_bytes e es in
    flat_map-cons bytes_in (record { event = e; bytes = take n log }) (entries_from es (drop n log))
    ∙ ap (λ (bs : List ℕ). take n log ++ bs) (entries_bytes es (drop n log) (omega (arith, whole, total, length-drop n log)))
    ∙ take-append-drop n log

pub goes_on : (h later : History) → IsWhole h → IsWhole later → later.followers ≡ h.followers → StartsWith (log_entries later) (log_entries h) → Longer h later
goes_on h later whole all followers starts = record {
  followers = followers;
  more = map event_in starts.0;
  bytes = flat_map bytes_in starts.0;
  events = sym (entries_events later.events later.log) ∙ ap (map event_in) starts.1 ∙ map-append event_in (log_entries h) starts.0
      ∙ ap (λ (es : List PartEvent). es ++ map event_in starts.0) (entries_events h.events h.log);
  log = sym (entries_bytes later.events later.log all) ∙ ap (flat_map bytes_in) starts.1 ∙ flat_map-append bytes_in (log_entries h) starts.0
      ∙ ap (λ (bs : List ℕ). bs ++ flat_map bytes_in starts.0) (entries_bytes h.events h.log whole);
}

-- what the entries of a whole history tell is that history
pub history_told : (h : History) → IsWhole h → history_of h.followers (log_entries h) ≡ h
history_told h whole =
    ap (λ (bs : List ℕ). record { log = bs; followers = h.followers; events = map event_in (log_entries h) }) (entries_bytes h.events h.log whole)
    ∙ ap (λ (es : List PartEvent). record { log = h.log; followers = h.followers; events = es }) (entries_events h.events h.log)

-- ---- the clock's

abbrev pub clock_event_in : ClockEntry → ClockEvent
clock_event_in entry = entry.event

pub clock_append : (es more : List ClockEvent) (ps qs : List ℕ) → length ps ≡ length (ticks_of es) → clock_entries (es ++ more) (ps ++ qs) ≡ clock_entries es ps ++ clock_entries more qs
clock_append [] more [] qs as_many = refl
clock_append [] more (p ∷ ps) qs as_many = absurd (omega (arith, as_many))
clock_append (Tick t ∷ es) more [] qs as_many = absurd (omega (arith, as_many))
clock_append (Tick t ∷ es) more (p ∷ ps) qs as_many =
    ap (λ (xs : List ClockEntry). record { event = Tick t; by = p } ∷ xs) (clock_append es more ps qs (omega (arith, as_many)))
clock_append (Look by seq ∷ es) more ps qs as_many =
    ap (λ (xs : List ClockEntry). record { event = Look by seq; by = by } ∷ xs) (clock_append es more ps qs as_many)

pub clock_events : (es : List ClockEvent) (ps : List ℕ) → map clock_event_in (clock_entries es ps) ≡ es
clock_events [] ps = refl
clock_events (Tick t ∷ es) ps = ap (λ (xs : List ClockEvent). Tick t ∷ xs) (clock_events es (drop 1 ps))
clock_events (Look by seq ∷ es) ps = ap (λ (xs : List ClockEvent). Look by seq ∷ xs) (clock_events es ps)

pub clock_length : (es : List ClockEvent) (ps : List ℕ) → length (clock_entries es ps) ≡ length es
clock_length [] ps = refl
clock_length (Tick t ∷ es) ps = ap suc (clock_length es (drop 1 ps))
clock_length (Look by seq ∷ es) ps = ap suc (clock_length es ps)

pub ticks_append : (es more : List ClockEvent) → length (ticks_of (es ++ more)) ≡ length (ticks_of es) + length (ticks_of more)
ticks_append [] more = omega arith
ticks_append (Tick t ∷ es) more = omega (arith, ticks_append es more)
ticks_append (Look by seq ∷ es) more = ticks_append es more

pub clock_goes_on : (events later : List ClockEvent) (tickers after : List ℕ) → StartsWith (clock_entries later after) (clock_entries events tickers) → StartsWith later events
clock_goes_on events later tickers after starts = (
  map clock_event_in starts.0,
  sym (clock_events later after) ∙ ap (map clock_event_in) starts.1 ∙ map-append clock_event_in (clock_entries events tickers) starts.0
      ∙ ap (λ (es : List ClockEvent). es ++ map clock_event_in starts.0) (clock_events events tickers),
)
