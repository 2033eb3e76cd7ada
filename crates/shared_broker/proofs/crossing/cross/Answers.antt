use denote.Exit.{no}
use denote.Param.Send.{param_send, arg_send}
use Rattle.shared_broker.proofs.SentPass.{pass_is_send}
use Rattle.shared_broker.proofs.crossing.cross.Goals as goal

pub may_go-requires-2-send-X : goal.may_go-requires-2-send-X
may_go-requires-2-send-X c κs = param_send 0 _ (arg_send _ no _ pass_is_send)
