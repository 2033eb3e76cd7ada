use denote.Exit.{no}
use denote.Param.Send.{param_send, arg_send}
use Rattle.trace_workers.proofs.SentWorker.{worker_is_send}
use Rattle.trace_workers.proofs.crossing.cross.Goals as goal

pub may_go-requires-send-X : goal.may_go-requires-send-X
may_go-requires-send-X c κs = param_send 0 _ (arg_send _ no _ worker_is_send)
