-- What the lanes come to once their threads are joined.
use Rattle.std.specs.Prelude.{◌≡◌, ◌+◌, ◌++◌, ℕ, Bool, true, false, List, Any, sum_by}
use Rattle.std.specs.List.{flat_map}
use Rattle.link_lanes.specs.books.LaneBook.{LaneBook}
use Rattle.link_lanes.specs.books.Shown.{ShownLink}
use Rattle.link_lanes.specs.books.Times.{times, total}
use Rattle.outside.specs.shared.queue.QueueViews as queue
use Rattle.link_lanes.specs.Going.{HasEnded}
use Rattle.link_lanes.specs.declared.lane.LaneEnd.TheVariants.{Over, Failed}
use Rattle.link_lanes.specs.Halls.{HallView, LaneView, ServerView, numbers}
use Rattle.link_lanes.specs.Together.{HaveBooks}

module _ {L : Type 0} where
  -- the pass of the queue with all that the lanes' passes have
  abbrev pub with_all : queue.PassView L → List (LaneView L) → queue.PassView L
  with_all first lanes = record {
    made = first.made;
    parts = first.parts + sum_by (λ (lane : LaneView L). lane.hand.parts) lanes;
    put = first.put ++ flat_map (λ (lane : LaneView L). lane.hand.put) lanes;
    taken = first.taken ++ flat_map (λ (lane : LaneView L). lane.hand.taken) lanes;
  }

  -- the servers have books, and the pass has every part and all that they put and took
  pub record AreGathered (see : L → ShownLink) (hall : HallView) (servers : List (ServerView L)) (first : queue.PassView L) : Type 0 where
    pub books : List LaneBook
    pub have : HaveBooks see hall 0 books servers
    pub queue_is : queue.IsPassOf hall.queue first
    pub whole : queue.IsWhole first
    pub put : (n : ℕ) → times n (numbers first.put) ≡ total (λ (book : LaneBook). times n book.put) books
    pub taken : (n : ℕ) → times n (numbers first.taken) ≡ total (λ (book : LaneBook). times n book.taken) books

  -- why the run ended, as one of the servers saw the history of the port
  abbrev pub IsOver : HallView → Bool → List (ServerView L) → Type 0
  IsOver hall false servers = Any (λ (server : ServerView L). HasEnded hall.port.terms.most Over server.key.seen) servers
  IsOver hall true servers = Any (λ (server : ServerView L). HasEnded hall.port.terms.most Failed server.key.seen) servers
