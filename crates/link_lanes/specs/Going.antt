-- A lane that goes on: what it put into the queue and took from it, and how its server went on meanwhile.
use Rattle.std.specs.Prelude.{◌≡◌, ◌⊎◌, ℕ, true, List, [], ◌++◌, ⊤}
use Rattle.std.specs.List.{range_with_len}
use Rattle.link_lanes.specs.books.Shown.{ShownLink}
use Rattle.outside.specs.declared.shared.queue.numbered.Numbered.{Numbered}
use Rattle.outside.specs.shared.queue.QueueViews as queue
use Rattle.outside.specs.declared.shared.port.port_entry.PortEntry.{PortEntry}
use Rattle.outside.specs.shared.port.Entries.{accepted, has_ended, has_faulted}
use Rattle.link_lanes.specs.declared.lane.LaneEnd.{LaneEnd}
use Rattle.link_lanes.specs.declared.lane.LaneEnd.TheVariants.{Over, Failed, NoMemory}
use Rattle.link_lanes.specs.Halls.{HallView, LaneView, ServerView, numbers}
use Rattle.link_lanes.specs.Serving.{IsServing}

module _ {L : Type 0} where
  -- the pass of the queue put these more, and took these more
  abbrev pub moved : queue.PassView L → List (Numbered L) → List (Numbered L) → queue.PassView L
  moved hand put taken = record { made = hand.made; parts = hand.parts; put = hand.put ++ put; taken = hand.taken ++ taken }

  -- the server went on from the links in hand before to those in hand now, while the lane put and took these
  abbrev pub HasServedOn : (L → ShownLink) → HallView → List ℕ → List ℕ → List ℕ → List ℕ → ServerView L → ServerView L → Type 0
  HasServedOn see hall before now put taken old new =
      (at : ℕ) (was_put was_taken : List ℕ) → IsServing see hall at before was_put was_taken old → IsServing see hall at now (was_put ++ put) (was_taken ++ taken) new

  -- a lane with these links in hand went on until it has none
  pub record HasGoneFrom (see : L → ShownLink) (hall : HallView) (held : List ℕ) (old new : LaneView L) : Type 0 where
    pub put : List (Numbered L)
    pub taken : List (Numbered L)
    pub hand : new.hand ≡ moved old.hand put taken
    pub server : HasServedOn see hall held [] (numbers put) (numbers taken) old.server new.server

  abbrev pub HasGone : (L → ShownLink) → HallView → LaneView L → LaneView L → Type 0
  HasGone see hall old new = HasGoneFrom see hall [] old new

  -- the lane sits in the hall, with no link in hand
  pub record IsReady (see : L → ShownLink) (hall : HallView) (lane : LaneView L) : Type 0 where
    pub at : ℕ
    pub put : List ℕ
    pub taken : List ℕ
    pub server : IsServing see hall at [] put taken lane.server
    pub hand : queue.IsPassOf hall.queue lane.hand

  -- why a lane ended, by the history of the port as it saw that last
  abbrev pub HasEnded : ℕ → LaneEnd → List (PortEntry L) → Type 0
  HasEnded most Over seen = (accepted seen ≡ range_with_len 0 most) ⊎ (has_ended seen ≡ true)
  HasEnded most Failed seen = has_faulted seen ≡ true
  HasEnded most NoMemory seen = ⊤
