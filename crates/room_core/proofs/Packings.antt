-- A session word that is packed unpacks to itself.
use Rattle.std.proofs.Common.{◌≡◌, ℕ, ◌+◌, ◌*◌, ◌/◌, ◌%◌, ◌^◌, ◌<◌, ap, refl, ◌∙◌, arith}
use Rattle.room_core.specs.declared.event.How.TheVariants.{Satisfied, Expired}
use Rattle.room_core.specs.declared.parts.Phase.{Phase}
use Rattle.room_core.specs.declared.parts.Phase.TheVariants.{Open, Won}
use Rattle.room_core.specs.declared.parts.Session.{Session}
use Rattle.room_core.specs.Packing.{phase_number, winner_number, packed, phase_of, unpacked}

pub phase_few : (phase : Phase) → phase_number phase < 4
phase_few Phase.Idle = omega arith
phase_few Open = omega arith
phase_few (Won Satisfied by) = omega arith
phase_few (Won Expired by) = omega arith

phase_again : (phase : Phase) → phase_of (phase_number phase) (winner_number phase) ≡ phase
phase_again Phase.Idle = refl
phase_again Open = refl
phase_again (Won Satisfied by) = refl
phase_again (Won Expired by) = refl

parts_of : (generation by phase word : ℕ) → word ≡ generation * 1024 + by * 4 + phase → by < 256 → phase < 4
    → (word / 1024 ≡ generation) × (word % 4 ≡ phase) × (word / 4 % 256 ≡ by)
parts_of generation by phase word e few less = (omega arith, omega arith, omega arith)

pub unpacked-packed : (session : Session) → winner_number session.phase < 256 → unpacked (packed session) ≡ session
unfolding packed unpacked
unpacked-packed session few =
    let word : ℕ = session.generation * 1024 + winner_number session.phase * 4 + phase_number session.phase in
    let parts = parts_of session.generation (winner_number session.phase) (phase_number session.phase) word refl few (phase_few session.phase) in
    (λ i. record { generation = parts.0 i; phase = phase_of (parts.1 i) (parts.2 i) }) ∙ ap (λ phase. record { generation = session.generation; phase = phase }) (phase_again session.phase)

-- the number of a session word is below 2^42
pub packed_small : (session : Session) → session.generation < 2 ^ 32 → winner_number session.phase < 97 → packed session < 2 ^ 42
unfolding packed
packed_small session few winner =
    let phase = phase_few session.phase in
    omega (arith, few, winner, phase)
