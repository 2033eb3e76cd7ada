use denote.Exit.{no}
use denote.Param.{param}
use denote.Param.Send.{param_send, param_sync, arg_send, arg_sync}
use Rattle.link_lanes.proofs.Sent.{hall_is_sync, lane_is_send}
use Rattle.link_lanes.proofs.crossing.cross.Goals as goal

pub may_be_shared-requires-sync-X : goal.may_be_shared-requires-sync-X
may_be_shared-requires-sync-X g c κs within =
    param_sync 0 _ (arg_sync _ no _ (hall_is_sync (param 0 g.row.P) (param 1 g.row.C) (param 2 g.row.P-Link) g.P.Port g.P.Link.Link g.C.Clock c.type_bounds.send-P c.type_bounds.send-C c.type_bounds.send-P-Link))

pub may_go-requires-send-X : goal.may_go-requires-send-X
may_go-requires-send-X g c κs within =
    param_send 0 _ (arg_send _ no _ (lane_is_send (param 0 g.row.P) (param 1 g.row.C) (param 2 g.row.P-Link) g.P.Port g.P.Link.Link g.C.Clock c.type_bounds.send-P c.type_bounds.send-C c.type_bounds.send-P-Link))
