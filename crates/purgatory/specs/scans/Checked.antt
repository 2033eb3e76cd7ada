-- What the steps of a check leave of what a scanner knows.
use Rattle.std.specs.Prelude.{◌≡◌, ℕ, Option, None, IsSome}
use Rattle.room_core.specs.declared.parts.Entry.{Entry}
use Rattle.room_core.specs.Checks.{gauge_of_duty, other_entry}
use Rattle.room_core.specs.Meetings.{generation_met}
use Rattle.room_core.specs.Put.{put}
use Rattle.room_core.specs.State.{Scanner}
use Rattle.purgatory.specs.declared.scans.verdict.Verdict.{Verdict}

-- what it has begun, its listing, its duties and its meeting are as they were: it learned words, or read values
pub record HasLooked (old new : Scanner) : Type 0 where
  pub began : new.began ≡ old.began
  pub listing : new.listing ≡ old.listing
  pub duties : new.duties ≡ old.duties
  pub meeting : new.meeting ≡ old.meeting

-- it read values: what it has learned and read it still has
pub record HasReadMore (old new : Scanner) : Type 0 where
  pub looked : HasLooked old new
  pub learned : new.learned ≡ old.learned
  pub kept : (gauge : ℕ) → IsSome (old.readings gauge) → IsSome (new.readings gauge)

-- the duty of the pass is gone
pub record HasLetGo (pass : ℕ) (old new : Scanner) : Type 0 where
  pub began : new.began ≡ old.began
  pub listing : new.listing ≡ old.listing
  pub duties : new.duties ≡ put old.duties pass None

-- the listing without the entry of this generation
abbrev pub without_entry : Scanner → ℕ → ℕ → ℕ → ℕ → ℕ → Option Entry
without_entry scanner gauge pass generation = put scanner.listing gauge (put (scanner.listing gauge) pass (other_entry (scanner.listing gauge pass) generation))

-- and so is its entry, of the generation met
pub record HasTried (pass : ℕ) (old new : Scanner) : Type 0 where
  pub began : new.began ≡ old.began
  pub listing : new.listing ≡ without_entry old (gauge_of_duty (old.duties pass)) pass (generation_met old.meeting)
  pub duties : new.duties ≡ put old.duties pass None

abbrev pub IsVerdict : Verdict → ℕ → Scanner → Scanner → Type 0
IsVerdict Verdict.Unclear pass old new = HasLooked old new
IsVerdict Verdict.Waits pass old new = HasLetGo pass old new
IsVerdict Verdict.Over pass old new = HasTried pass old new
