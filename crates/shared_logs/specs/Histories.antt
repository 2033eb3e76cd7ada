-- The histories that a lock's entries tell of.
use Rattle.std.specs.Prelude.{ℕ, List, map}
use Rattle.std.specs.List.{flat_map}
use Rattle.partlog.specs.declared.clock_event.ClockEvent.{ClockEvent}
use Rattle.partlog.specs.History.{History}
use Rattle.shared_logs.specs.declared.entries.ClockEntry.{ClockEntry}
use Rattle.shared_logs.specs.declared.entries.LogEntry.{LogEntry}

-- that of a partition with so many followers: its log is all bytes joined
abbrev pub history_of : ℕ → List LogEntry → History
history_of followers entries = record {
  log = flat_map (λ (entry : LogEntry). entry.bytes) entries;
  followers = followers;
  events = map (λ (entry : LogEntry). entry.event) entries;
}

abbrev pub events_of : List ClockEntry → List ClockEvent
events_of entries = map (λ (entry : ClockEntry). entry.event) entries
