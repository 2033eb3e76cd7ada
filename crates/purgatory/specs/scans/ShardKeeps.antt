-- What a shard's desk keeps between any two calls.
use Rattle.std.specs.Prelude.{◌≡◌, ℕ, ◌+◌, ◌*◌, ◌<◌, ◌↔◌, Some}
use Rattle.room_core.specs.declared.parts.Entry.{Entry}
use Rattle.room_core.specs.declared.shape.Shape.{Shape}
use Rattle.room_core.specs.Gauges.{IsShape, IsGaugeOf}
use Rattle.room_core.specs.Numbers.{clock_scanner, scanner_numbers, shards}
use Rattle.room_core.specs.Scans.{HasNoDuty}
use Rattle.room_core.specs.Sound.{IsEntry}
use Rattle.room_core.specs.State.{Scanner}
use Rattle.room_table.specs.Seats.{scanner_now}
use Rattle.watch_lists.specs.Watches.{IsListed}
use Rattle.purgatory.specs.scans.Desks.{ShardView}

-- the gauge of a key: a shard's scanner has every sixteenth
abbrev pub gauge_of_key : ℕ → ℕ → ℕ
gauge_of_key k key = k + shards * key

-- a shard with so many watchers or more is purged before more are listed
abbrev pub purge_size : ℕ
purge_size = 500

-- what is listed by key, pass and generation is exactly the listing of the scanner, all whose gauges are its own
pub record AreEntries (shape : Shape) (k : ℕ) (listed : ℕ → ℕ → ℕ → Type 0) (scanner : Scanner) : Type 0 where
  pub each : (key pass generation : ℕ) → listed key pass generation ↔ IsEntry (scanner.listing (gauge_of_key k key) pass) generation
  pub own : (gauge pass : ℕ) (entry : Entry) → scanner.listing gauge pass ≡ Some entry → IsGaugeOf shape k gauge

-- Its scanner is a shard's in a room with all scanners. The shard's entries are exactly the scanner's listing, and the scanner has
-- no duty.
pub record ShardKeeps (desk : ShardView) : Type 0 where
  pub shape : IsShape desk.seat.table.shape
  pub scanners : desk.seat.table.shape.scanners ≡ scanner_numbers
  pub number : desk.seat.scanner < clock_scanner
  pub passes : desk.watches.ids ≡ desk.seat.table.shape.passes
  pub entries : AreEntries desk.seat.table.shape desk.seat.scanner (IsListed desk.watches) (scanner_now desk.seat)
  pub no_duty : HasNoDuty (scanner_now desk.seat)
