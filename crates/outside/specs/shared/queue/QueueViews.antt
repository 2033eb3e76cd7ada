-- What a queue of links and its passes are to contracts.
use Rattle.std.specs.Prelude.{◌≡◌, ℕ, List}
use Rattle.atomic_table.specs.Seated.{TableId}
use Rattle.outside.specs.declared.shared.queue.numbered.Numbered.{Numbered}
use Rattle.outside.specs.declared.shared.queue.queue_pass.TheConstants.{PARTS}

-- a queue: which one it is, and how many links it has room for
pub record QueueView : Type 0 where
  pub id : TableId
  pub capacity : ℕ

-- A pass: the queue with which it was made, its parts of the right to know the whole, and what it put and took, the oldest first.
pub record PassView (L : Type 0) : Type 0 where
  pub made : TableId
  pub parts : ℕ
  pub put : List (Numbered L)
  pub taken : List (Numbered L)

-- the pass was made with this queue
abbrev pub IsPassOf : {L : Type 0} → QueueView → PassView L → Type 0
IsPassOf queue pass = pass.made ≡ queue.id

-- it has every part: no other pass has put or taken anything that this one doesn't have
abbrev pub IsWhole : {L : Type 0} → PassView L → Type 0
IsWhole pass = pass.parts ≡ PARTS
