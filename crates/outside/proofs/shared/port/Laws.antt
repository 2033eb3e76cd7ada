-- A shared port and its passes may go to another thread, where the port may. A snapshot has no proof of that by itself, so this puts together
-- what is so of the fields.
use denote.RattleType.{RattleType}
use denote.Param.Send.{IsSend, IsSync, AllSend, AllSync, view_send, view_sync, recorded_send, recorded_sync, struct_send, struct_sync, sendable}
use denote.Struct.Declared as declared
use Rattle.std.proofs.Crossing.{crosses}
use Rattle.turn_lock.proofs.lock.TurnLock.TheSendSync as lock
use Rattle.turn_lock.proofs.pass.TurnPass.TheSendSync as key
use Rattle.outside.specs.contracts.shared.port.kept.PortDeskKept.TheImpl.{ghosts, no_dict}
use Rattle.outside.specs.contracts.shared.port.port_entry.PortEntry as Entry
use Rattle.outside.specs.contracts.shared.port.port_desk.PortDesk as Desk
use Rattle.outside.specs.contracts.shared.port.port_desk.PortDesk.TheInside as inside
use Rattle.outside.specs.contracts.shared.port.port_pass.PortPass as Pass
use Rattle.outside.specs.contracts.shared.port.port_pass.PortPass.TheInside as pass
use Rattle.outside.specs.contracts.shared.port.shared_port.SharedPort as Port
use Rattle.outside.specs.contracts.shared.port.shared_port.SharedPort.TheInside as shared

pub entry_is_send : (L : RattleType) → IsSend (Entry.the_row L)
entry_is_send L = search (crosses, sendable) depth 16

module _ (P L : RattleType) (port : _) (link : _) (sent : IsSend P) where
  fields : AllSend (declared.shape (inside.the_type P L port link)).fields
  fields = (sent, (search (crosses, sendable), (search sendable, (search (entry_is_send, crosses, sendable), (search sendable, (search sendable, (search sendable, (search sendable, tt))))))))

  pub desk_is_send : IsSend (Desk.the_row P L port link)
  desk_is_send = view_send (inside.the_row P L port link) _ _ _ _ (recorded_send (inside.the_field P L port link).row _ _ (inside.the_type P L port link).to_one (struct_send (declared.shape (inside.the_type P L port link)) fields))

  pass_fields : AllSend (declared.shape (pass.the_type P L port link)).fields
  pass_fields = (search sendable, (key.the_field_send (Desk.the_row P L port link) (Entry.the_row L) desk_is_send, tt))

  pub pass_is_send : IsSend (Pass.the_row P L port link)
  pass_is_send = view_send (pass.the_row P L port link) _ _ _ _ (recorded_send (pass.the_field P L port link).row _ _ (pass.the_type P L port link).to_one (struct_send (declared.shape (pass.the_type P L port link)) pass_fields))

  port_fields : AllSend (declared.shape (shared.the_type P L port link)).fields
  port_fields = (search (crosses, sendable), (lock.the_field_send (Desk.the_row P L port link) (Entry.the_row L) (ghosts P L port no_dict link no_dict) desk_is_send, tt))

  pub port_is_send : IsSend (Port.the_row P L port link)
  port_is_send = view_send (shared.the_row P L port link) _ _ _ _ (recorded_send (shared.the_field P L port link).row _ _ (shared.the_type P L port link).to_one (struct_send (declared.shape (shared.the_type P L port link)) port_fields))

  synced : AllSync (declared.shape (shared.the_type P L port link)).fields
  synced = (search (crosses, sendable), (lock.the_field_sync (Desk.the_row P L port link) (Entry.the_row L) (ghosts P L port no_dict link no_dict) desk_is_send, tt))

  pub port_is_sync : IsSync (Port.the_row P L port link)
  port_is_sync = view_sync (shared.the_row P L port link) _ _ _ _ (recorded_sync (shared.the_field P L port link).row _ _ (shared.the_type P L port link).to_one (struct_sync (declared.shape (shared.the_type P L port link)) synced))
