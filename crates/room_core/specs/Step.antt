-- The machine: which events are allowed in a state, and what each changes.
use Rattle.std.specs.Prelude.{◌≡◌, ⊤}
use Rattle.room_core.specs.declared.event.CoreEvent.{CoreEvent}
use Rattle.room_core.specs.declared.event.CoreEvent.TheVariants.{Store, Ask, Hush, Hear, Begin, Relieve, Describe, Open, Meet, Learn, Mark, Marked, Read, Leave, Win, Peek, Idle, Part}
use Rattle.room_core.specs.declared.event.Party.TheVariants.{Pass, Scanner}
use Rattle.room_core.specs.State.{State}
use Rattle.room_core.specs.Scans.{CanStore, storing, CanAsk, asking, CanHush, hushing, CanHear, hearing, CanBegin, beginning, CanRelieve, relieving}
use Rattle.room_core.specs.Passes.{CanDescribe, describing, CanOpen, opening, CanSeeMark, seeing_mark, CanPeek, peeking, CanIdle, idling}
use Rattle.room_core.specs.Meetings.{CanMeet, scanner_meeting, CanLearn, learning, CanMark, marking}
use Rattle.room_core.specs.Checks.{CanReadPass, CanReadScanner, pass_reading, scanner_reading, CanLeavePass, CanLeaveScanner, pass_leaving, scanner_leaving, CanWinPass, CanWinScanner, pass_winning, scanner_winning}

abbrev pub IsAllowed : State → CoreEvent → Type 0
IsAllowed s (Store gauge value) = CanStore s gauge value
IsAllowed s (Ask pass gauge value) = CanAsk s pass gauge value
IsAllowed s (Hush gauge) = CanHush s gauge
IsAllowed s (Hear scanner gauge) = CanHear s scanner gauge
IsAllowed s (Begin scanner gauge) = CanBegin s scanner gauge
IsAllowed s (Relieve pass gauge) = CanRelieve s pass gauge
IsAllowed s (Describe pass at word) = CanDescribe s pass at
IsAllowed s (Open pass) = CanOpen s pass
IsAllowed s (Meet scanner pass) = CanMeet s scanner pass
IsAllowed s (Learn scanner pass at) = CanLearn s scanner pass at
IsAllowed s (Mark scanner pass at) = CanMark s scanner pass at
IsAllowed s (Marked pass at) = CanSeeMark s pass at
IsAllowed s (Read (Pass pass) gauge) = CanReadPass s pass gauge
IsAllowed s (Read (Scanner scanner) gauge) = CanReadScanner s scanner gauge
IsAllowed s (Leave (Pass own) pass gauge) = (own ≡ pass) × CanLeavePass s pass gauge
IsAllowed s (Leave (Scanner scanner) pass gauge) = CanLeaveScanner s scanner pass gauge
IsAllowed s (Win (Pass own) pass how) = (own ≡ pass) × CanWinPass s pass how
IsAllowed s (Win (Scanner scanner) pass how) = CanWinScanner s scanner pass how
IsAllowed s (Peek pass) = CanPeek s pass
IsAllowed s (Idle pass) = CanIdle s pass
IsAllowed s Part = ⊤

abbrev pub changed : State → CoreEvent → State
changed s (Store gauge value) = storing s gauge value
changed s (Ask pass gauge value) = asking s pass gauge value
changed s (Hush gauge) = hushing s gauge
changed s (Hear scanner gauge) = hearing s scanner gauge
changed s (Begin scanner gauge) = beginning s scanner gauge
changed s (Relieve pass gauge) = relieving s pass gauge
changed s (Describe pass at word) = describing s pass at word
changed s (Open pass) = opening s pass
changed s (Meet scanner pass) = scanner_meeting s scanner pass
changed s (Learn scanner pass at) = learning s scanner pass at
changed s (Mark scanner pass at) = marking s scanner pass at
changed s (Marked pass at) = seeing_mark s pass at
changed s (Read (Pass pass) gauge) = pass_reading s pass gauge
changed s (Read (Scanner scanner) gauge) = scanner_reading s scanner gauge
changed s (Leave (Pass own) pass gauge) = pass_leaving s pass gauge
changed s (Leave (Scanner scanner) pass gauge) = scanner_leaving s scanner pass gauge
changed s (Win (Pass own) pass how) = pass_winning s pass how
changed s (Win (Scanner scanner) pass how) = scanner_winning s scanner pass how
changed s (Peek pass) = peeking s pass
changed s (Idle pass) = idling s pass
changed s Part = s
