-- How a request that waits is completed: whether and how it is now, and the looks that it leaves.
use Rattle.std.specs.Prelude.{ℕ, ◌<◌, List, [], ◌∷◌, ◌++◌, length, if◌then◌else◌, Option, Some, None}
use Rattle.partlog.specs.declared.clock_event.ClockEvent.{ClockEvent}
use Rattle.opcond.specs.declared.need.Need.{Need}
use Rattle.audit.specs.declared.account.CallHow.{CallHow}
use Rattle.audit.specs.declared.account.CallHow.TheVariants.{Quiet, AtOnce, Satisfied, Expired, Parked, Cut}
use Rattle.audit.specs.declared.account.Point.{Point}
use Rattle.audit.specs.Histories.{clock_part}
use Rattle.kanswer.specs.PartitionGauges.{partition_of}
use Rattle.audit.specs.broker.Board.{Board, Waiting}
use Rattle.audit.specs.LawfulCall.{operation_parts}
use Rattle.audit.specs.broker.Completing.{completed_as, is_overdue_now, is_satisfied_now, last_call, look_all}
use Rattle.lone_broker.specs.Handled.{looked_by}

-- with `count` partitions, its gauge is one of theirs
abbrev pub HasGauge : ℕ → Need → Type 0
HasGauge count need = partition_of need.gauge < count

-- how a request is completed now, if it is
abbrev pub due_as : Board → Waiting → Option CallHow
due_as board w = if is_satisfied_now board w then Some (Satisfied 0) else (if is_overdue_now board w then Some (Expired 0) else None)

abbrev pub due_in : Board → Option Waiting → Option CallHow
due_in board None = None
due_in board (Some w) = due_as board w

-- an expired one looks at the clock
abbrev pub clock_after : CallHow → ℕ → ℕ → List ClockEvent → List ClockEvent
clock_after Quiet by seq clock = clock
clock_after AtOnce by seq clock = clock
clock_after (Satisfied winner) by seq clock = clock
clock_after (Expired winner) by seq clock = looked_by by seq clock
clock_after Parked by seq clock = clock
clock_after (Cut won) by seq clock = clock

abbrev pub clock_points : CallHow → List ClockEvent → List Point
clock_points Quiet clock = []
clock_points AtOnce clock = []
clock_points (Satisfied winner) clock = []
clock_points (Expired winner) clock = record { part = clock_part; place = length clock } ∷ []
clock_points Parked clock = []
clock_points (Cut won) clock = []

-- the board once the request is completed in this way: its looks are left, its call has ended, and it no longer waits
abbrev pub finished : Board → Waiting → CallHow → Board
finished board w how =
    let seq = last_call board w.session in
    let looks = look_all w.session seq (operation_parts w.steps) board.parts in
    completed_as board w (clock_after how w.session seq board.clock) (clock_points how board.clock ++ looks.0) how looks.1
