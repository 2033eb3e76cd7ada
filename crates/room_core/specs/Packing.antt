-- A session word as a number: 1024 for each generation, 4 for each number before the winner's, and the phase: 0 idle, 1 open,
-- 2 satisfied, 3 expired.
use Rattle.std.specs.Prelude.{ℕ, ◌+◌, ◌*◌, ◌/◌, ◌%◌, ◌==◌, if◌then◌else◌}
use Rattle.room_core.specs.declared.event.How.{How}
use Rattle.room_core.specs.declared.event.How.TheVariants.{Satisfied, Expired}
use Rattle.room_core.specs.declared.parts.Phase.{Phase}
use Rattle.room_core.specs.declared.parts.Phase.TheVariants.{Open, Won}
use Rattle.room_core.specs.declared.parts.Session.{Session}

abbrev pub how_number : How → ℕ
how_number Satisfied = 2
how_number Expired = 3

abbrev pub phase_number : Phase → ℕ
phase_number Phase.Idle = 0
phase_number Open = 1
phase_number (Won how by) = how_number how

-- 0 where nobody won
abbrev pub winner_number : Phase → ℕ
winner_number Phase.Idle = 0
winner_number Open = 0
winner_number (Won how by) = by

unfoldable pub packed : Session → ℕ
packed session = session.generation * 1024 + winner_number session.phase * 4 + phase_number session.phase

-- the phase of this number, where the winner has this number
abbrev pub phase_of : ℕ → ℕ → Phase
phase_of phase by =
    if phase == 0 then Phase.Idle else
    if phase == 1 then Open else
    if phase == 2 then Won Satisfied by else Won Expired by

unfoldable pub unpacked : ℕ → Session
unpacked word = record { generation = word / 1024; phase = phase_of (word % 4) (word / 4 % 256) }
