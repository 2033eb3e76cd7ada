-- What each winner has won, noted by its number.
use Rattle.std.specs.Prelude.{◌≡◌, ℕ, ◌+◌, ◌≤◌, ◌==◌, List, All, count_by, length, slice_index}
use Rattle.room_core.specs.Numbers.{scanner_numbers}
use Rattle.room_table.specs.Seats.{CallerView, ScanView, caller_now, scanner_now}

-- a scanner's
abbrev pub IsNoted : List ℕ → ℕ → ScanView → Type 0
IsNoted numbers k seat = slice_index numbers k ≡ length (scanner_now seat).wins

-- the passes': where the wins of each seat are as many as a table says of its pass, so is what is noted
abbrev pub AreNoted : List ℕ → List CallerView → Type 0
AreNoted numbers seats = (f : ℕ → ℕ) → All (λ (seat : CallerView). length (caller_now seat).wins ≡ f seat.pass) seats
    → (pass : ℕ) → 1 ≤ count_by (λ (seat : CallerView). seat.pass == pass) seats → slice_index numbers (scanner_numbers + pass) ≡ f pass
