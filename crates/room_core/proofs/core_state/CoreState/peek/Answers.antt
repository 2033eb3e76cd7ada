use Rattle.std.proofs.Common.{◌≡◌, ◌<◌, length, get_or, arith, ◌∙◌, ap}
use Rattle.std.proofs.lemmas.List.{get_or_default}
use Rattle.room_core.specs.declared.parts.Phase.{Phase}
use Rattle.room_core.specs.declared.parts.Session.{Session}
use Rattle.room_core.specs.CallerTables.{caller_of}
use Rattle.room_core.specs.Passes.{caller_peeks}
use Rattle.room_core.specs.Tables.{state_of}
use Rattle.room_core.proofs.CallerViews.{caller_set}
use Rattle.room_core.proofs.core_state.CoreState.peek.Goals as goal

abbrev none : Session
none = record { generation = 0; phase = Phase.Idle }

pub returns-clause-yes : goal.returns-clause-yes
returns-clause-yes c =
    let l : c.args.pass < length c.args.self.now.caller.items = omega (arith, c.args.self.now.sized.caller_size) in
    let m : c.args.pass < length c.args.self.now.session.items = omega (arith, c.args.self.now.words.session_size) in
    let session : c.index-2.result.now ≡ get_or c.args.self.now.session.items c.args.pass none = c.index-2.ensures ∙ get_or_default c.args.self.now.session.items c.args.pass _ none m in
    let new : caller_of c.peeks.new.self ≡ caller_peeks (caller_of c.index_mut-caller.result.now) (get_or c.args.self.now.session.items c.args.pass none).phase =
    c.peeks.ensures.part ∙ ap (λ (x : Session). caller_peeks (caller_of c.index_mut-caller.result.now) x.phase) session in
    λ d. record (state_of c.args.self.now) {
      caller = caller_set (λ caller. caller_peeks caller (get_or c.args.self.now.session.items c.args.pass none).phase) c.args.self.now.caller.items c.args.pass c.index_mut-caller.result.now c.peeks.new.self l c.index_mut-caller.ensures.value new d;
    }
