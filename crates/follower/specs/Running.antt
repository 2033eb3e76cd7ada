-- A follower's run: what it prints, and its status.
use Rattle.std.specs.Prelude.{◌≡◌, ◌≢◌, ◌≤◌, ◌<◌, ◌⊎◌, ℕ, ◌==◌, List, [], ◌∷◌, ◌++◌, length, take, codes, if◌then◌else◌, Option}
use Rattle.std.specs.Fmt.{decimal}
use Rattle.std.specs.Io.KnownBytes.{Appends, Keeps}
use Rattle.outside.specs.Causes.{Rose}
use Rattle.outside.specs.Told.{Gains, IsBare}
use Rattle.follower.specs.Commands.{Order, empty_copy}
use Rattle.follower.specs.Copies.{Copy}
use Rattle.follower.specs.Course.{HasFollowed}
use Rattle.follower.specs.Dialling.{DialView}
use Rattle.follower.specs.Flows.{LinkView}
use Rattle.follower.specs.declared.fault.FollowEnd.{FollowEnd}
use Rattle.follower.specs.declared.fault.FollowEnd.TheVariants.{Done, Closed, Truncated, FrameTooLong, Take, ReadFault, WriteFault, NoMemory}

-- the line that is printed: the copy's end, and the number of its bytes
abbrev pub line_of : ℕ → ℕ → List ℕ
line_of end bytes = codes "follower end " ++ decimal end ++ codes " bytes " ++ decimal bytes ++ 10 ∷ []

-- the status that following comes to, where its line is written whole
abbrev pub status_of : FollowEnd → ℕ
status_of Done = 0
status_of Closed = 0
status_of (Truncated got) = 2
status_of (FrameTooLong size) = 2
status_of (Take fault) = 2
status_of ReadFault = 3
status_of WriteFault = 3
status_of NoMemory = 6

-- and where it isn't
abbrev pub cut_status : ℕ → ℕ
cut_status status = if status == 0 then 4 else status

-- what a clause sees of a sink
pub record SinkView : Type 0 where
  pub written : Option (List ℕ)
  pub faults : ℕ

abbrev pub sink_of : Option (List ℕ) → ℕ → SinkView
sink_of written faults = record { written = written; faults = faults }

-- nothing was printed
abbrev pub IsSilent : SinkView → SinkView → Type 0
IsSilent before now = (Keeps before.written now.written) × (now.faults ≡ before.faults)

-- a prefix of the line was written, as a write failed
pub record IsCut (line : List ℕ) (before now : SinkView) : Type 0 where
  pub count : ℕ
  pub within : count ≤ length line
  pub written : Appends before.written now.written (take count line)
  pub rose : Rose before.faults now.faults

-- The line was written whole, or cut off; or nothing was printed, where memory had run out, before or as the line was made.
abbrev pub IsTold : ℕ → List ℕ → ℕ → SinkView → SinkView → Type 0
IsTold due line status before now =
    ((due ≢ 6) × (status ≡ due) × Appends before.written now.written line)
    ⊎ ((due ≢ 6) × (status ≡ cut_status due) × IsCut line before now)
    ⊎ ((status ≡ 6) × IsSilent before now)

-- a link to which nothing happened yet
pub record IsFresh (link : LinkView) : Type 0 where
  pub untaken : IsBare link.taken
  pub unwritten : IsBare link.written
  pub faultless : link.faults ≡ 0

-- a leader was dialled, followed over the link that came, and this was retired
pub record HasFollowedOver {L : Type 0} (see : L → LinkView) (order : Order) (status : ℕ) (sink sink' : SinkView) (dial dial' : DialView L) : Type 0 where
  pub start : L
  pub finish : L
  pub fresh : IsFresh (see start)
  pub copy : Copy
  pub end : FollowEnd
  pub followed : HasFollowed order.rounds (empty_copy order) copy end (see start) (see finish)
  pub retired : Gains dial.retired dial'.retired (order.port, finish)
  pub told : IsTold (status_of end) (line_of copy.end (length copy.log)) status sink sink'
  -- a fault is the link's own
  pub fault : status ≡ 3 → 0 < (see finish).faults

-- the port couldn't be dialled
pub record IsUndialled {L : Type 0} (status : ℕ) (sink sink' : SinkView) (dial dial' : DialView L) : Type 0 where
  pub status_is : status ≡ 3
  pub silent : IsSilent sink sink'
  pub retired : dial'.retired ≡ dial.retired
  pub rose : Rose dial.faults dial'.faults

-- memory ran out before anything was done
pub record IsUnbegun {L : Type 0} (status : ℕ) (sink sink' : SinkView) (dial dial' : DialView L) : Type 0 where
  pub status_is : status ≡ 6
  pub silent : IsSilent sink sink'
  pub dial_is : dial' ≡ dial

abbrev pub HasRun : {L : Type 0} → (L → LinkView) → Order → ℕ → SinkView → SinkView → DialView L → DialView L → Type 0
HasRun see order status sink sink' dial dial' =
    IsUnbegun status sink sink' dial dial' ⊎ IsUndialled status sink sink' dial dial' ⊎ HasFollowedOver see order status sink sink' dial dial'
