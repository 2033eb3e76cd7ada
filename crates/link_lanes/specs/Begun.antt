-- All that a run begins with.
use Rattle.std.specs.Prelude.{◌≡◌, ◌+◌, ◌≤◌, ℕ, List, map}
use Rattle.kwire.specs.Configuration.{Configuration}
use Rattle.outside.specs.shared.queue.Passes.{first_pass}
use Rattle.outside.specs.shared.queue.QueueViews as queue
use Rattle.outside.specs.shared.port.Fresh.{fresh_pass, fresh_passes}
use Rattle.outside.specs.shared.port.PortViews as port
use Rattle.link_lanes.specs.declared.runs.TheConstants.{MOST_LANES}
use Rattle.link_lanes.specs.Halls.{HallView, LaneView}
use Rattle.link_lanes.specs.Made.{new_lane, new_servers, with_fewer_parts}
use Rattle.shared_broker.specs.Making as broker_making
use Rattle.shared_broker.specs.Passes as broker
use Rattle.outside.specs.shared.clock.ClockViews as clock
use Rattle.outside.specs.shared.clock.Fresh as clock_fresh

-- The broker has these topics. It and the clock have so many passes, which are new.
pub record AreWithin (config : Configuration) (count : ℕ) (logs : broker.BrokerView) (passes : List broker.PassView) (time : clock.ClockView) (seats : List clock.PassView) : Type 0 where
  pub config_is : logs.config ≡ config
  pub broker_size : logs.logs.room.table.shape.passes ≡ count
  pub clock_size : time.passes ≡ count
  pub passes_are : passes ≡ broker_making.fresh_passes logs count
  pub seats_are : seats ≡ clock_fresh.fresh_passes time.id count

module _ {L : Type 0} where
  -- the hall has these topics, as many passes of the broker and the clock, and one more of the port, whose terms are these; all are new, and the pass of the queue has
  -- all parts
  pub record HasHall (config : Configuration) (count most before : ℕ) (hall : HallView) (passes : List broker.PassView) (seats : List clock.PassView) (keys : List (port.PassView L)) (opener : port.PassView L) (first : queue.PassView L) : Type 0 where
    pub within : AreWithin config count hall.broker passes hall.clock seats
    pub port_size : hall.port.passes ≡ count + 1
    pub terms : hall.port.terms ≡ record { before = before; most = most }
    pub keys_are : keys ≡ fresh_passes hall.port.id hall.port.terms count
    pub opener_is : opener ≡ fresh_pass hall.port.id hall.port.terms count
    pub first_is : first ≡ first_pass hall.queue

  -- the lanes are new, 1 to the most that there may be, and the pass of the queue has all parts but theirs
  pub record AreNew (hall : HallView) (lanes : List (LaneView L)) (first : queue.PassView L) : Type 0 where
    pub count : ℕ
    pub some : 1 ≤ count
    pub few : count ≤ MOST_LANES
    pub lanes_are : lanes ≡ map (new_lane hall.queue) (new_servers hall count)
    pub first_is : first ≡ with_fewer_parts count (first_pass hall.queue)

  -- the hall has these topics, as many passes of the broker and the clock as there are lanes, and one more of the port, whose terms are these
  pub record HasBegun (config : Configuration) (count most before : ℕ) (hall : HallView) (lanes : List (LaneView L)) (opener : port.PassView L) (first : queue.PassView L) : Type 0 where
    pub config_is : hall.broker.config ≡ config
    pub passes : hall.broker.logs.room.table.shape.passes ≡ count
    pub seats : hall.clock.passes ≡ count
    pub keys : hall.port.passes ≡ count + 1
    pub terms : hall.port.terms ≡ record { before = before; most = most }
    pub lanes_are : lanes ≡ map (new_lane hall.queue) (new_servers hall count)
    pub first_is : first ≡ with_fewer_parts count (first_pass hall.queue)
    pub opener_is : opener ≡ fresh_pass hall.port.id hall.port.terms count
