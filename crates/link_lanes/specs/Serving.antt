-- A server of a hall, between two links or with one in hand.
use Rattle.std.specs.Prelude.{◌≡◌, ℕ, List, []}
use Rattle.link_lanes.specs.books.LaneBook.{IsLaneBook}
use Rattle.link_lanes.specs.books.Shown.{ShownLink}
use Rattle.outside.specs.shared.port.Entries.{opened}
use Rattle.outside.specs.shared.port.PortViews as port
use Rattle.link_lanes.specs.Halls.{HallView, ServerView, book_of}
use Rattle.outside.specs.shared.clock.ClockViews as clock

-- The server is the hall's, all its passes have this number, and it never opened the port. With these links in hand, it has the book of a lane that put and took
-- these.
pub record IsServing {L : Type 0} (see : L → ShownLink) (hall : HallView) (at : ℕ) (held put taken : List ℕ) (server : ServerView L) : Type 0 where
  pub seat : clock.IsPassOf hall.clock server.seat
  pub key : port.IsPassOf hall.port server.key
  pub number : server.pass.logs.number ≡ at
  pub key_number : server.key.number ≡ at
  pub unopened : opened server.key.own ≡ []
  pub book : IsLaneBook hall.broker held (book_of see server put taken)
