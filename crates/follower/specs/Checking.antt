-- The batches of a reply as they are checked, one after the other.
use Rattle.std.specs.Prelude.{◌≡◌, ◌≢◌, ◌≤◌, ℕ, ◌+◌, pos, List, [], ◌++◌, length}
use Rattle.follower.specs.Logs.{IsSomeBatch, base_of}
use Rattle.follower.specs.Verdict.{IsElsewhere, IsNoBatch, Reaches}
use Rattle.follower.specs.declared.fault.TakeFault.{TakeFault}
use Rattle.follower.specs.declared.fault.TakeFault.TheVariants.{BadReply, Refused, BadBatch, Gap, ReplicaFull, NoMemory}

-- this batch stands at the front, and is the one that has to be there
pub record IsNextBatch (end : ℕ) (bytes batch : List ℕ) : Type 0 where
  pub after : List ℕ
  pub parts : bytes ≡ batch ++ after
  pub is_batch : IsSomeBatch batch
  pub base : base_of batch ≡ pos end

-- why none stands there
abbrev pub IsNotNext : ℕ → List ℕ → ℕ → TakeFault → Type 0
IsNotNext end rest place (BadReply at) = ⊥
IsNotNext end rest place (Refused code) = ⊥
IsNotNext end rest place (BadBatch at why) = (at ≡ place) × IsNoBatch rest why
IsNotNext end rest place (Gap kept found) = (kept ≡ end) × IsElsewhere end rest found
IsNotNext end rest place ReplicaFull = ⊥
IsNotNext end rest place NoMemory = ⊥

-- so many batches up to this rest, and no more records than bytes
pub record HasReached (from : ℕ) (records : List ℕ) (count end : ℕ) (rest : List ℕ) : Type 0 where
  pub reached : Reaches from records end rest
  pub count_is : count ≡ length reached.batches
  pub dense : end + length rest ≤ from + length records
  pub few : count + length rest ≤ length records

-- batches up to a rest, where no more of them stands; the rest ends with a body of so many bytes
pub record IsStuck (from : ℕ) (records : List ℕ) (all : ℕ) (fault : TakeFault) : Type 0 where
  pub end : ℕ
  pub rest : List ℕ
  pub reached : Reaches from records end rest
  pub some : rest ≢ []
  pub place : ℕ
  pub place_is : place + length rest ≡ all
  pub why : IsNotNext end rest place fault
