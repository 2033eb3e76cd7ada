use denote.Exit.{no}
use denote.Param.{param}
use denote.Param.Send.{param_send, param_sync, arg_send, arg_sync}
use Rattle.outside.proofs.shared.port.Laws.{pass_is_send, port_is_send, port_is_sync}
use Rattle.outside.proofs.shared.port.crossing.cross.Goals as goal

pub may_be_shared-requires-sync-X : goal.may_be_shared-requires-sync-X
may_be_shared-requires-sync-X g c κs within = param_sync 0 _ (arg_sync _ no _ (port_is_sync (param 0 g.row.P) (param 1 g.row.P-Link) g.P.Port g.P.Link.Link c.type_bounds.send-P))

pub may_go-requires-send-X : goal.may_go-requires-send-X
may_go-requires-send-X g c κs within = param_send 0 _ (arg_send _ no _ (port_is_send (param 0 g.row.P) (param 1 g.row.P-Link) g.P.Port g.P.Link.Link c.type_bounds.send-P))

pub may_go-requires-2-send-X : goal.may_go-requires-2-send-X
may_go-requires-2-send-X g c κs within = param_send 0 _ (arg_send _ no _ (pass_is_send (param 0 g.row.P) (param 1 g.row.P-Link) g.P.Port g.P.Link.Link c.type_bounds.send-P))
