-- Who finds an operation, under other values, readings and parts.
use Rattle.std.proofs.Common.{⊎_elim, inl, inr, ◌⊎◌, ℕ, ◌≤◌, arith, Option, Some, None}
use Rattle.std.specs.Prelude.{unwrap_or}
use Rattle.room_core.specs.declared.shape.Shape.{Shape}
use Rattle.room_core.specs.Gauges.{clock_of}
use Rattle.room_core.specs.Description.{tally}
use Rattle.room_core.specs.Readings.{known}
use Rattle.room_core.specs.State.{Caller, Scanner}
use Rattle.room_core.specs.Duty.{IsOnDuty, OwnerFinds, ScannerFinds, ShardFinds, FindsTally, FindsTime, owner_readings, met_readings}
use Rattle.room_core.specs.Checks.{IsDuty}
use Rattle.room_core.proofs.Tallies.{tally_rises}

unwrap_rises : (o : Option ℕ) (v w : ℕ) → v ≤ w → unwrap_or o v ≤ unwrap_or o w
unwrap_rises None v w h = h
unwrap_rises (Some x) v w h = omega arith

-- with higher values no less is known
pub known_rises : (readings : ℕ → Option ℕ) (v w : ℕ → ℕ) → ((g : ℕ) → v g ≤ w g) → (g : ℕ) → known readings v g ≤ known readings w g
known_rises readings v w h g = unwrap_rises (readings g) (v g) (w g) (h g)

-- what knows no less finds no less
pub tally_knows : (words v w : ℕ → ℕ) (r q : ℕ → Option ℕ) → ((g : ℕ) → known r v g ≤ known q w g) → FindsTally words v r → FindsTally words w q
tally_knows words v w r q h f =
    let t : tally words (known r v) ≤ tally words (known q w) = tally_rises words (known r v) (known q w) (λ i l. h _) in
    omega (arith, f)

pub time_knows : (shape : Shape) (words v w : ℕ → ℕ) (r q : ℕ → Option ℕ) → ((g : ℕ) → known r v g ≤ known q w g) → FindsTime shape words v r → FindsTime shape words w q
time_knows shape words v w r q h f = omega (arith, f, h (clock_of shape))

module _ {F G : (ℕ → Option ℕ) → Type 0} (finds : (r : ℕ → Option ℕ) → F r → G r) where
  pub owner_too : (caller : Caller) → OwnerFinds F caller → OwnerFinds G caller
  owner_too caller f = record { on_duty = f.on_duty; found = finds _ f.found }

  pub scanner_too : (scanner : Scanner) (pass generation : ℕ) → ScannerFinds F scanner pass generation → ScannerFinds G scanner pass generation
  scanner_too scanner pass generation f = record { on_duty = f.on_duty; found = finds _ f.found }

  pub shard_too : (scanner : ℕ → Scanner) (pass generation : ℕ) → ShardFinds F scanner pass generation → ShardFinds G scanner pass generation
  shard_too scanner pass generation f = record { number = f.number; shard = f.shard; here = scanner_too (scanner f.number) pass generation f.here }

-- either way goes on
pub either_too : {A B C D : Type 0} → (A → C) → (B → D) → A ⊎ B → C ⊎ D
either_too f g = ⊎_elim (λ a. inl (f a)) (λ b. inr (g b))

-- who keeps the duty and knows no less finds the operation too
module _ (shape : Shape) (words value : ℕ → ℕ) (old new : Caller) (duty : IsOnDuty old.stage → IsOnDuty new.stage) (knows : (g : ℕ) → known (owner_readings old.stage old.readings) value g ≤ known (owner_readings new.stage new.readings) value g) where
  pub owner_tally : OwnerFinds (FindsTally words value) old → OwnerFinds (FindsTally words value) new
  owner_tally f = record {
    on_duty = duty f.on_duty;
    found = tally_knows words value value (owner_readings old.stage old.readings) (owner_readings new.stage new.readings) knows f.found;
  }

  pub owner_time : OwnerFinds (FindsTime shape words value) old → OwnerFinds (FindsTime shape words value) new
  owner_time f = record {
    on_duty = duty f.on_duty;
    found = time_knows shape words value value (owner_readings old.stage old.readings) (owner_readings new.stage new.readings) knows f.found;
  }

module _ (shape : Shape) (words value : ℕ → ℕ) (old new : Scanner) (pass generation : ℕ) (duty : IsDuty (old.duties pass) generation → IsDuty (new.duties pass) generation) (knows : (g : ℕ) → known (met_readings old.meeting old.readings pass) value g ≤ known (met_readings new.meeting new.readings pass) value g) where
  pub scanner_tally : ScannerFinds (FindsTally words value) old pass generation → ScannerFinds (FindsTally words value) new pass generation
  scanner_tally f = record {
    on_duty = duty f.on_duty;
    found = tally_knows words value value (met_readings old.meeting old.readings pass) (met_readings new.meeting new.readings pass) knows f.found;
  }

  pub scanner_time : ScannerFinds (FindsTime shape words value) old pass generation → ScannerFinds (FindsTime shape words value) new pass generation
  scanner_time f = record {
    on_duty = duty f.on_duty;
    found = time_knows shape words value value (met_readings old.meeting old.readings pass) (met_readings new.meeting new.readings pass) knows f.found;
  }
