-- The events of values. A source stores a value and is loud until it sees that somebody asked for it. A pass that has read
-- a value asks for a scan up to it, and owes that scan until it sees it begun. A scanner hears what is asked, and begins.
use Rattle.std.specs.Prelude.{◌≡◌, ℕ, ◌≤◌, max, Bool, true, false, not, ◌&&◌, ◌||◌, ◌==◌, nat_lt, nat_le, if◌then◌else◌, Option, Some, None}
use Rattle.room_core.specs.declared.shape.Shape.{Shape}
use Rattle.room_core.specs.declared.parts.Source.{Source}
use Rattle.room_core.specs.declared.parts.Heard.{Heard}
use Rattle.room_core.specs.declared.parts.Entry.{Entry}
use Rattle.room_core.specs.declared.parts.Duty.{Duty}
use Rattle.room_core.specs.Put.{put}
use Rattle.room_core.specs.Gauges.{IsGauge, IsPass, IsScanner, IsGaugeOf, clock_of}
use Rattle.room_core.specs.Readings.{unread}
use Rattle.room_core.specs.State.{State, Caller, Scanner}

-- Store: the source isn't loud, and the value is at least that stored. The value is stored, and the source is loud.
abbrev pub MayStore : Shape → ℕ → Source → ℕ → Type 0
MayStore shape gauge source value = IsGauge shape gauge × (source.loud ≡ false) × (source.stored ≤ value)

abbrev pub CanStore : State → ℕ → ℕ → Type 0
CanStore s gauge value = MayStore s.shape gauge (s.source gauge) value

abbrev pub storing : State → ℕ → ℕ → State
storing s gauge value = record s {
  value = put s.value gauge value;
  source = put s.source gauge (record { stored = value; loud = true });
}

-- Ask: the pass has read at least this value. Asked and the number owed become the greater of themselves and the value.
abbrev pub caller_asks : Caller → ℕ → ℕ → Caller
caller_asks caller gauge value = record caller { owed = put caller.owed gauge (max (caller.owed gauge) value) }

abbrev pub MayAsk : Shape → ℕ → Caller → ℕ → ℕ → Type 0
MayAsk shape pass caller gauge value = IsPass shape pass × IsGauge shape gauge × (value ≤ caller.greatest gauge)

abbrev pub CanAsk : State → ℕ → ℕ → ℕ → Type 0
CanAsk s pass gauge value = MayAsk s.shape pass (s.caller pass) gauge value

abbrev pub asking : State → ℕ → ℕ → ℕ → State
asking s pass gauge value = record s {
  asked = put s.asked gauge (max (s.asked gauge) value);
  caller = put s.caller pass (caller_asks (s.caller pass) gauge value);
}

-- Hush: the source isn't loud where asked is at least what it stored.
abbrev pub source_hushes : Source → ℕ → Source
source_hushes source asked = record source { loud = if nat_le source.stored asked then false else source.loud }

abbrev pub CanHush : State → ℕ → Type 0
CanHush s gauge = IsGauge s.shape gauge

abbrev pub hushing : State → ℕ → State
hushing s gauge = record s { source = put s.source gauge (source_hushes (s.source gauge) (s.asked gauge)) }

abbrev pub HasNoDuty : Scanner → Type 0
HasNoDuty scanner = (pass : ℕ) → scanner.duties pass ≡ None

-- Hear: the gauge is the scanner's, which has no duty. It hears what is asked.
abbrev pub scanner_hears : Scanner → ℕ → ℕ → Scanner
scanner_hears scanner gauge asked = record scanner { heard = Some (record { gauge = gauge; number = asked }) }

abbrev pub MayHear : Shape → ℕ → Scanner → ℕ → Type 0
MayHear shape k scanner gauge = IsScanner shape k × IsGaugeOf shape k gauge × HasNoDuty scanner

abbrev pub CanHear : State → ℕ → ℕ → Type 0
CanHear s scanner gauge = MayHear s.shape scanner (s.scanner scanner) gauge

abbrev pub hearing : State → ℕ → ℕ → State
hearing s scanner gauge = record s { scanner = put s.scanner scanner (scanner_hears (s.scanner scanner) gauge (s.asked gauge)) }

abbrev pub IsHeard : Option Heard → ℕ → Type 0
IsHeard None gauge = ⊥
IsHeard (Some heard) gauge = heard.gauge ≡ gauge

abbrev pub number_heard : Option Heard → ℕ
number_heard None = 0
number_heard (Some heard) = heard.number

-- an entry becomes a duty; in the clock's listing only one with a deadline past what was begun and at most what was heard
abbrev pub is_due : Shape → ℕ → ℕ → ℕ → Entry → Bool
is_due shape gauge begun heard entry = not (gauge == clock_of shape) || (nat_lt begun entry.deadline && nat_le entry.deadline heard)

unfoldable pub duty_of : Shape → ℕ → ℕ → ℕ → Option Entry → Option Duty
duty_of shape gauge begun heard None = None
duty_of shape gauge begun heard (Some entry) =
    if is_due shape gauge begun heard entry then Some (record { gauge = gauge; generation = entry.generation }) else None

-- Begin: the gauge was heard by the scanner, which has no duty. Begun and the scanner's own number for the gauge become the
-- greater of begun and what was heard; there is no meeting; the duties are those of the listing's entries of the gauge.
abbrev pub scanner_begins : Shape → Scanner → ℕ → ℕ → Scanner
scanner_begins shape scanner gauge begun = record scanner {
  began = put scanner.began gauge (max begun (number_heard scanner.heard));
  meeting = None;
  learned = unread;
  readings = unread;
  duties = λ pass. duty_of shape gauge begun (number_heard scanner.heard) (scanner.listing gauge pass);
}

abbrev pub MayBegin : Shape → ℕ → Scanner → ℕ → Type 0
MayBegin shape k scanner gauge = IsScanner shape k × IsGauge shape gauge × IsHeard scanner.heard gauge × HasNoDuty scanner

abbrev pub CanBegin : State → ℕ → ℕ → Type 0
CanBegin s scanner gauge = MayBegin s.shape scanner (s.scanner scanner) gauge

abbrev pub beginning : State → ℕ → ℕ → State
beginning s scanner gauge = record s {
  begun = put s.begun gauge (max (s.begun gauge) (number_heard (s.scanner scanner).heard));
  scanner = put s.scanner scanner (scanner_begins s.shape (s.scanner scanner) gauge (s.begun gauge));
}

-- Relieve: nothing is owed where begun is at least the number owed.
abbrev pub caller_relieves : Caller → ℕ → ℕ → Caller
caller_relieves caller gauge begun = record caller {
  owed = put caller.owed gauge (if nat_le (caller.owed gauge) begun then 0 else caller.owed gauge);
}

abbrev pub CanRelieve : State → ℕ → ℕ → Type 0
CanRelieve s pass gauge = IsPass s.shape pass × IsGauge s.shape gauge

abbrev pub relieving : State → ℕ → ℕ → State
relieving s pass gauge = record s { caller = put s.caller pass (caller_relieves (s.caller pass) gauge (s.begun gauge)) }
