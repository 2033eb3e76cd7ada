-- The hall in which links are served, and what a clause sees of a server and of a lane in it.
use Rattle.std.specs.Prelude.{ℕ, Bool, List, map}
use Rattle.link_lanes.specs.books.LaneBook.{LaneBook}
use Rattle.link_lanes.specs.books.Shown.{ShownLink}
use Rattle.outside.specs.declared.shared.queue.numbered.Numbered.{Numbered}
use Rattle.outside.specs.shared.queue.QueueViews as queue
use Rattle.outside.specs.shared.port.Entries.{accepted, retired}
use Rattle.outside.specs.shared.port.PortViews as port
use Rattle.link_lanes.specs.Seen.{seen_with}
use Rattle.shared_broker.specs.Passes as broker
use Rattle.outside.specs.shared.clock.ClockViews as clock

-- what all lanes share
pub record HallView : Type 0 where
  pub broker : broker.BrokerView
  pub clock : clock.ClockView
  pub port : port.PortView
  pub queue : queue.QueueView

-- who serves one link after the other: a pass of the broker, of the clock and of the port
pub record ServerView (L : Type 0) : Type 0 where
  pub pass : broker.PassView
  pub seat : clock.PassView
  pub key : port.PassView L

-- a server, its pass of the queue, and whether memory ran out
pub record LaneView (L : Type 0) : Type 0 where
  pub server : ServerView L
  pub hand : queue.PassView L
  pub is_stopped : Bool

module _ {L : Type 0} where
  abbrev pub numbers : List (Numbered L) → List ℕ
  numbers items = map (λ (item : Numbered L). item.number) items

  -- the book of a server that put and took these
  abbrev pub book_of : (L → ShownLink) → ServerView L → List ℕ → List ℕ → LaneBook
  book_of see server put taken = record {
    pass = server.pass;
    told = server.seat.told;
    accepted = accepted server.key.own;
    put = put;
    taken = taken;
    retired = map (seen_with see) (retired server.key.own);
  }
