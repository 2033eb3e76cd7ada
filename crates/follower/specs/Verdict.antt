-- What becomes of a reply: what a replica takes of it, and for which cause it takes nothing.
use Rattle.std.specs.Prelude.{◌≡◌, ◌≢◌, ◌≤◌, ◌<◌, ◌⊎◌, ℕ, ◌+◌, ℤ, pos, negsuc, ◌+ℤ◌, List, [], ◌++◌, length, take, max, min}
use Rattle.kbatch.specs.Fault.{IsFirstFault}
use Rattle.kbatch.specs.Kept.{kept_length}
use Rattle.kbatch.specs.declared.fault.BatchFault.{BatchFault}
use Rattle.kbatch.specs.declared.fault.BatchFault.TheVariants as batch
use Rattle.kwire.specs.declared.codes.TheConstants.{NONE}
use Rattle.kwire.specs.declared.reply.FetchedPart.{FetchedPart}
use Rattle.partlog.specs.declared.part_log.TheConstants.{MOST_LOG_BYTES}
use Rattle.follower.specs.declared.fault.TakeFault.{TakeFault}
use Rattle.follower.specs.declared.fault.TakeFault.TheVariants.{BadReply, Refused, BadBatch, Gap, ReplicaFull, NoMemory}
use Rattle.follower.specs.Copies.{Copy}
use Rattle.follower.specs.Logs.{FollowOn, IsSomeBatch, base_of, joined}
use Rattle.follower.specs.ReplyBody.{Asked, GoesWrongAt, IsReplyBody}

-- the reply to a request of this copy, with this correlation id
abbrev pub asked_by : Copy → ℤ → Asked
asked_by copy correlation = record { correlation = correlation; topic = copy.topic; index = copy.index }

-- the piece at the front that has as many bytes as the length in its header says
pub record IsPiece (bytes : List ℕ) (size : ℕ) : Type 0 where
  pub head : 12 ≤ length bytes
  pub told : kept_length bytes +ℤ pos 12 ≡ pos size
  pub within : size ≤ length bytes

-- a batch that has to be the next one stands at the front
abbrev pub IsNext : ℕ → List ℕ → Type 0
IsNext offset bytes = (batch : List ℕ) × (after : List ℕ) × (bytes ≡ batch ++ after) × IsSomeBatch batch × (base_of batch ≡ pos offset)

-- from this offset on, batches as they have to be stand at the front of the records, and end at that offset before this rest
pub record Reaches (from : ℕ) (records : List ℕ) (end : ℕ) (rest : List ℕ) : Type 0 where
  pub batches : List (List ℕ)
  pub each : FollowOn from batches end
  pub parts : records ≡ joined batches ++ rest

-- the piece at the front is no batch, for this cause; where fewer bytes are there than it should have, it is too short
abbrev pub IsNoBatch : List ℕ → BatchFault → Type 0
IsNoBatch rest why =
    (((size : ℕ) → IsPiece rest size → ⊥) × (why ≡ batch.Short)) ⊎ ((size : ℕ) × IsPiece rest size × IsFirstFault (take size rest) why)

-- a batch with another base offset than this one
abbrev pub IsElsewhere : ℕ → List ℕ → ℤ → Type 0
IsElsewhere kept rest found = (size : ℕ) × IsPiece rest size × IsSomeBatch (take size rest) × (found ≡ base_of (take size rest)) × (found ≢ pos kept)

-- the reply brings records for the copy
pub record Brings (copy : Copy) (correlation : ℤ) (body : List ℕ) : Type 0 where
  pub told : FetchedPart
  pub reply : IsReplyBody (asked_by copy correlation) body told
  pub fine : told.code ≡ NONE

-- a number, and 0 for one below 0
abbrev pub at_least_zero : ℤ → ℕ
at_least_zero (pos n) = n
at_least_zero (negsuc n) = 0

-- The copy took so many batches, which are the records of the reply: its log goes on with them. Its high watermark is the greatest, over the
-- replies that it took, of the least of what was told and of its own end.
pub record HasTaken (copy : Copy) (correlation : ℤ) (body : List ℕ) (count : ℕ) (new : Copy) : Type 0 where
  pub brings : Brings copy correlation body
  pub end : ℕ
  pub reached : Reaches copy.end brings.told.records end []
  pub few : length copy.log + length brings.told.records ≤ MOST_LOG_BYTES
  pub count_is : count ≡ length reached.batches
  pub new_is : new ≡ record copy { log = copy.log ++ brings.told.records; end = end; high = max copy.high (min (at_least_zero brings.told.high) end) }

-- The first cause for which the copy takes nothing. It is looked for in this order: no such reply, a code, then batch by batch, and at last
-- the room in the log. Memory is no such cause.
abbrev pub IsRefused : Copy → ℤ → List ℕ → TakeFault → Type 0
IsRefused copy correlation body (BadReply at) = GoesWrongAt (asked_by copy correlation) body at
IsRefused copy correlation body (Refused code) =
    (told : FetchedPart) × IsReplyBody (asked_by copy correlation) body told × (told.code ≡ code) × (code ≢ NONE)
IsRefused copy correlation body (BadBatch at why) =
    (b : Brings copy correlation body) × (end : ℕ) × (rest : List ℕ) × Reaches copy.end b.told.records end rest × (rest ≢ []) × IsNoBatch rest why
    × (at + length rest ≡ length body)
IsRefused copy correlation body (Gap kept found) =
    (b : Brings copy correlation body) × (rest : List ℕ) × Reaches copy.end b.told.records kept rest × IsElsewhere kept rest found
IsRefused copy correlation body ReplicaFull =
    (b : Brings copy correlation body) × (end : ℕ) × Reaches copy.end b.told.records end [] × (MOST_LOG_BYTES < length copy.log + length b.told.records)
IsRefused copy correlation body NoMemory = ⊥
