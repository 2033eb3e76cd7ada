-- What a lock sees of the histories. What was seen of a partition fixes its log's bytes as well as its events.
use Rattle.std.specs.Prelude.{ℕ, List, [], ◌∷◌, take, drop, slice_index}
use Rattle.partlog.specs.declared.clock_event.ClockEvent.{ClockEvent}
use Rattle.partlog.specs.declared.clock_event.ClockEvent.TheVariants as clocks
use Rattle.partlog.specs.declared.event.PartEvent.{PartEvent}
use Rattle.partlog.specs.Added.{added_bytes}
use Rattle.partlog.specs.History.{History}
use Rattle.audit.specs.broker.Timely.{pass_of}
use Rattle.shared_logs.specs.declared.entries.LogEntry.{LogEntry}
use Rattle.shared_logs.specs.declared.entries.ClockEntry.{ClockEntry}

-- those of these events, whose batches are the first bytes of this log
abbrev pub entries_from : List PartEvent → List ℕ → List LogEntry
entries_from [] log = []
entries_from (event ∷ events) log =
    record { event = event; bytes = take (added_bytes event) log } ∷ entries_from events (drop (added_bytes event) log)

-- one for each event, in order: with the batch of an append as it stands in the log, and else with no bytes
abbrev pub log_entries : History → List LogEntry
log_entries h = entries_from h.events h.log

-- the pass that left it
abbrev pub entry_by : LogEntry → ℕ
entry_by entry = pass_of entry.event

-- one for each event of the clock, in order: a look names its own pass, and the ticks name these passes
abbrev pub clock_entries : List ClockEvent → List ℕ → List ClockEntry
clock_entries [] tickers = []
clock_entries (clocks.Tick t ∷ events) tickers =
    record { event = clocks.Tick t; by = slice_index tickers 0 } ∷ clock_entries events (drop 1 tickers)
clock_entries (clocks.Look by seq ∷ events) tickers = record { event = clocks.Look by seq; by = by } ∷ clock_entries events tickers

abbrev pub clock_by : ClockEntry → ℕ
clock_by entry = entry.by
