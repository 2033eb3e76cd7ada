-- What the desks keep between any two calls.
use Rattle.std.specs.Prelude.{◌≡◌, ℕ, ◌+◌, ◌*◌, ◌∷◌, false, length}
use Rattle.std.specs.List.Sorted.{IsStrictlyIncreasing}
use Rattle.partlog.specs.declared.numbers.Numbers.{Numbers}
use Rattle.partlog.specs.Gauges.{numbers_of}
use Rattle.partlog.specs.Kept.{IsKept}
use Rattle.partlog.specs.Moment.{moment_of}
use Rattle.partlog.specs.State.{state_of}
use Rattle.room_table.specs.Seats.{source_now}
use Rattle.audit.specs.Histories.{ticks_of}
use Rattle.shared_logs.specs.declared.sources.PartSources.{PartSources}
use Rattle.shared_logs.specs.Desks.{PartView, MomentView}

-- the sources are those of the gauges of the partition of this number, in one room
pub record AreOfPart (part : ℕ) (sources : PartSources) : Type 0 where
  pub high : sources.high.gauge ≡ 3 * part
  pub visible : sources.visible.gauge ≡ 3 * part + 1
  pub end : sources.end.gauge ≡ 3 * part + 2
  pub visible_there : sources.visible.table ≡ sources.high.table
  pub end_there : sources.end.table ≡ sources.high.table

-- the gauges are at these numbers: the high watermark, the visible bytes and the end bytes
pub record AreAt (numbers : Numbers) (sources : PartSources) : Type 0 where
  pub high : (source_now sources.high).stored ≡ numbers.high
  pub visible : (source_now sources.visible).stored ≡ numbers.visible
  pub end : (source_now sources.end).stored ≡ numbers.bytes

-- none is loud: somebody has asked for the scans of all that they stored
pub record AreQuiet (sources : PartSources) : Type 0 where
  pub high : (source_now sources.high).loud ≡ false
  pub visible : (source_now sources.visible).loud ≡ false
  pub end : (source_now sources.end).loud ≡ false

-- of these a gauge whose number stayed wasn't stored again: its source made no step
pub record AreStill (before after : Numbers) (old new : PartSources) : Type 0 where
  pub high : before.high ≡ after.high → new.high ≡ old.high
  pub visible : before.visible ≡ after.visible → new.visible ≡ old.visible
  pub end : before.bytes ≡ after.bytes → new.end ≡ old.end

-- the log is the bytes of its appends, and the partition's gauges are at the numbers of its history
pub record PartKeeps (desk : PartView) : Type 0 where
  pub kept : IsKept desk.history.log desk.history.events
  pub whose : AreOfPart desk.part desk.sources
  pub values : AreAt (numbers_of (state_of desk.history)) desk.sources
  pub quiet : AreQuiet desk.sources

-- the clock's gauge is at the moment of its history, whose ticks rise, and each tick has the pass that added it
pub record MomentKeeps (desk : MomentView) : Type 0 where
  pub value : (source_now desk.source).stored ≡ moment_of desk.events
  pub quiet : (source_now desk.source).loud ≡ false
  pub tickers : length desk.tickers ≡ length (ticks_of desk.events)
  pub ticks : IsStrictlyIncreasing (0 ∷ ticks_of desk.events)
