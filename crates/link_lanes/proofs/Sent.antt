-- A lane may go to another thread, and a hall may be shared, where port, links and clock may go. This puts together what is so of their fields.
use denote.RattleType.{RattleType}
use denote.Param.{param}
use denote.Param.Send.{IsSend, IsSync, AllSend, AllSync, view_send, view_sync, recorded_send, recorded_sync, struct_send, struct_sync, sendable}
use denote.Ref.{NamedLft}
use denote.Struct.Declared as declared
use denote.Struct.Field.{shr_ref_field}
use denote.Struct.Tuple.{TupleAt, type_at}
use Rattle.std.proofs.Common.{ℕ, List, [], ◌∷◌}
use Rattle.std.proofs.Crossing.{crosses}
use Rattle.link_lanes.specs.contracts.lane.Lane as Lane
use Rattle.link_lanes.specs.contracts.lane.Lane.TheInside as lane
use Rattle.link_lanes.specs.contracts.server.Server as Server
use Rattle.link_lanes.specs.contracts.server.Server.TheInside as server
use Rattle.link_lanes.specs.contracts.hall.Hall as Hall
use Rattle.link_lanes.specs.contracts.hall.Hall.TheInside as hall
use Rattle.outside.proofs.shared.port.Laws as port_sent
use Rattle.outside.proofs.shared.queue.queue_pass.QueuePass.TheSendSync as hand
use Rattle.outside.proofs.shared.queue.link_queue.LinkQueue.TheSendSync as ring
use Rattle.outside.specs.declared.clock.Clock as clock_trait
use Rattle.outside.specs.declared.link.Link as link_trait
use Rattle.outside.specs.declared.port.Port as port_trait
use Rattle.shared_broker.proofs.Laws.{pass_is_send}
use Rattle.shared_broker.proofs.broker.Broker.TheSendSync as broker
use Rattle.outside.proofs.shared.clock.clock_pass.ClockPass.TheSendSync as seat
use Rattle.outside.proofs.shared.clock.shared.Shared.TheSendSync as shared

module _ (P C L : RattleType) (port : _) (link : _) (clock : _) (sent : IsSend P) (told : IsSend C) (linked : IsSend L) where
  server_fields : AllSend (declared.shape (server.the_type P C L port link clock)).fields
  server_fields = (pass_is_send, (search (told, seat.the_send, crosses, sendable) depth 20, (port_sent.pass_is_send P L port link sent, tt)))

  server_is_send : IsSend (Server.the_row P C L port link clock)
  server_is_send = view_send (server.the_row P C L port link clock) _ _ _ _ (recorded_send (server.the_field P C L port link clock).row _ _ (server.the_type P C L port link clock).to_one (struct_send (declared.shape (server.the_type P C L port link clock)) server_fields))

  lane_fields : AllSend (declared.shape (lane.the_type P C L port link clock)).fields
  lane_fields = (server_is_send, (search (linked, hand.the_send, crosses, sendable) depth 20, (search sendable, tt)))

  pub lane_is_send : IsSend (Lane.the_row P C L port link clock)
  lane_is_send = view_send (lane.the_row P C L port link clock) _ _ _ _ (recorded_send (lane.the_field P C L port link clock).row _ _ (lane.the_type P C L port link clock).to_one (struct_send (declared.shape (lane.the_type P C L port link clock)) lane_fields))

  hall_fields : AllSync (declared.shape (hall.the_type P C L port link clock)).fields
  hall_fields = (search (crosses, sendable), (broker.the_sync, (search (told, shared.the_sync, crosses, sendable) depth 20, (port_sent.port_is_sync P L port link sent, (search (linked, ring.the_sync, crosses, sendable) depth 20, tt)))))

  pub hall_is_sync : IsSync (Hall.the_row P C L port link clock)
  hall_is_sync = view_sync (hall.the_row P C L port link clock) _ _ _ _ (recorded_sync (hall.the_field P C L port link clock).row _ _ (hall.the_type P C L port link clock).to_one (struct_sync (declared.shape (hall.the_type P C L port link clock)) hall_fields))

-- what a closure captures that runs lanes: the runtime and a hall by reference
module _ (name : List ℕ) (R P C L : RattleType) (port : port_trait.Ghosts P.Denot L.Denot) (link : link_trait.Ghosts L.Denot) (clock : clock_trait.Ghosts C.Denot) (shared_by : IsSync (param 0 R))
    (sent : IsSend (param 1 P)) (told : IsSend (param 2 C)) (linked : IsSend (param 3 L)) (r h : NamedLft) where
  abbrev rows : List RattleType
  rows = (shr_ref_field r (param 0 R) tt).row ∷ (shr_ref_field h (Hall.the_row (param 1 P) (param 2 C) (param 3 L) port link clock) tt).row ∷ []

  captured_fields : AllSync (declared.shape (type_at name rows)).fields
  captured_fields = (search (shared_by, sendable), (search (hall_is_sync (param 1 P) (param 2 C) (param 3 L) port link clock sent told linked, sendable), tt))

  pub captured_is_sync : IsSync (TupleAt name rows)
  captured_is_sync = recorded_sync (declared.field (type_at name rows)).row _ _ (type_at name rows).to_one (struct_sync (declared.shape (type_at name rows)) captured_fields)
