-- The lanes of a hall as they are made.
use Rattle.std.specs.Prelude.{ℕ, ◌-◌, false, List, [], ◌∷◌, map}
use Rattle.std.specs.List.{range_with_len}
use Rattle.outside.specs.shared.queue.Passes.{part_pass}
use Rattle.outside.specs.shared.queue.QueueViews as queue
use Rattle.outside.specs.shared.port.Fresh as port_fresh
use Rattle.outside.specs.shared.port.PortViews as port
use Rattle.link_lanes.specs.Halls.{HallView, LaneView, ServerView}
use Rattle.shared_broker.specs.Making as broker_making
use Rattle.shared_broker.specs.Passes as broker
use Rattle.outside.specs.shared.clock.ClockViews as clock
use Rattle.outside.specs.shared.clock.Fresh as clock_fresh

module _ {L : Type 0} where
  -- a server of each pass, with a seat and a key
  abbrev pub seated : List broker.PassView → List clock.PassView → List (port.PassView L) → List (ServerView L)
  seated (pass ∷ passes) (seat ∷ seats) (key ∷ keys) = record { pass = pass; seat = seat; key = key } ∷ seated passes seats keys
  seated passes seats keys = []

  -- a server that has done nothing
  abbrev pub new_server : HallView → ℕ → ServerView L
  new_server hall number = record {
    pass = broker_making.fresh_pass hall.broker number;
    seat = clock_fresh.fresh_pass hall.clock.id number;
    key = port_fresh.fresh_pass hall.port.id hall.port.terms number;
  }

  -- this many, by their numbers
  abbrev pub new_servers : HallView → ℕ → List (ServerView L)
  new_servers hall count = map (new_server hall) (range_with_len 0 count)

  -- a lane of a server, which has put and taken nothing
  abbrev pub new_lane : queue.QueueView → ServerView L → LaneView L
  new_lane ring server = record { server = server; hand = part_pass ring; is_stopped = false }

  -- this many parts were given away
  abbrev pub with_fewer_parts : ℕ → queue.PassView L → queue.PassView L
  with_fewer_parts count pass = record { made = pass.made; parts = pass.parts - count; put = pass.put; taken = pass.taken }
