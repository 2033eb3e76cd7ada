-- A pass may go to another thread. Its snapshot has no proof of that by itself, so this puts together what is so of its fields.
use denote.Param.Send.{IsSend, AllSend, view_send, recorded_send, struct_send, sendable}
use denote.Struct.Declared as declared
use Rattle.std.proofs.Crossing.{crosses}
use Rattle.audit.proofs.account.Transcript.TheSendSync as transcript
use Rattle.audit.specs.contracts.account.Transcript as Transcript
use Rattle.kbytes.proofs.list.List.TheSendSync as list
use Rattle.shared_broker.proofs.parked.Parked.TheSendSync as parked
use Rattle.shared_broker.specs.contracts.pass.Pass.{the_row}
use Rattle.shared_broker.specs.contracts.pass.Pass.TheInside as inside
use Rattle.shared_logs.proofs.pass.LogPass.TheSendSync as log_pass

fields : AllSend (declared.shape inside.the_type).fields
fields = (
  search (crosses, sendable),
  (
    log_pass.the_send,
    (
      list.the_send Transcript.the_row transcript.the_send,
      (search (transcript.the_send, crosses, sendable), (search (parked.the_send, crosses, sendable), (search sendable, tt))),
    ),
  ),
)

-- a pass may go to another thread
pub pass_is_send : IsSend the_row
pass_is_send = view_send inside.the_row _ _ _ _ (recorded_send (inside.the_field).row _ _ (inside.the_type).to_one (struct_send (declared.shape inside.the_type) fields))
