-- A worker may go to another thread. A snapshot in its passes has no proof of that by itself, so this puts together what is so of its fields.
use denote.Param.Send.{IsSend, AllSend, view_send, recorded_send, struct_send, sendable}
use denote.Struct.Declared as declared
use Rattle.kbytes.proofs.list.List.TheSendSync as list
use Rattle.kwire.proofs.inbox.Inbox.TheSendSync as inbox
use Rattle.shared_broker.proofs.Laws.{pass_is_send}
use Rattle.std.proofs.Crossing.{crosses}
use Rattle.trace_workers.proofs.reply_lines.ReplyLines.TheSendSync as lines
use Rattle.trace_workers.specs.contracts.session.TraceSession as TraceSession
use Rattle.trace_workers.specs.contracts.session.TraceSession.TheInside as session
use Rattle.trace_workers.specs.contracts.worker.Worker.{the_row}
use Rattle.trace_workers.specs.contracts.worker.Worker.TheInside as inside

session_fields : AllSend (declared.shape session.the_type).fields
session_fields = (search (crosses, sendable), (search sendable, (pass_is_send, (inbox.the_send, (search sendable, (search sendable, (search (lines.the_send, crosses, sendable), tt)))))))

-- a session may go to another thread
session_is_send : IsSend TraceSession.the_row
session_is_send = view_send session.the_row _ _ _ _ (recorded_send (session.the_field).row _ _ (session.the_type).to_one (struct_send (declared.shape session.the_type) session_fields))

fields : AllSend (declared.shape inside.the_type).fields
fields = (search sendable, (search sendable, (list.the_send TraceSession.the_row session_is_send, (search (pass_is_send, crosses, sendable), (search sendable, tt)))))

-- a worker may go to another thread
pub worker_is_send : IsSend the_row
worker_is_send = view_send inside.the_row _ _ _ _ (recorded_send (inside.the_field).row _ _ (inside.the_type).to_one (struct_send (declared.shape inside.the_type) fields))
