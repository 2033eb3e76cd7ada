use Rattle.std.proofs.Common.{◌≡◌, ◌<◌, length, get_or, arith, ◌∙◌, ap, sym, Some}
use Rattle.std.specs.Prelude.{slice_get}
use Rattle.std.proofs.lemmas.List.{get_or_default}
use Rattle.std.proofs.lemmas.Option.{slice_get-get_or}
use Rattle.room_core.specs.CallerTables.{caller_at, caller_of}
use Rattle.room_core.specs.Scans.{caller_relieves}
use Rattle.room_core.specs.Tables.{state_of}
use Rattle.room_core.proofs.Views.{part_set, put_as}
use Rattle.room_core.proofs.core_state.CoreState.relieve.Goals as goal

pub returns-clause-yes : goal.returns-clause-yes
returns-clause-yes c =
    let l : c.args.pass < length c.args.self.now.caller.items = omega (arith, c.args.self.now.sized.caller_size) in
    let m : c.args.gauge < length c.args.self.now.begun.items = omega (arith, c.args.self.now.sized.begun_size) in
    let begun : c.index-begun.result.now ≡ get_or c.args.self.now.begun.items c.args.gauge 0 = c.index-begun.ensures ∙ get_or_default c.args.self.now.begun.items c.args.gauge _ 0 m in
    let here : slice_get c.args.self.now.caller.items c.args.pass ≡ Some c.index_mut-caller.result.now =
    slice_get-get_or c.args.self.now.caller.items c.args.pass c.index_mut-caller.result.now l ∙ ap Some (sym c.index_mut-caller.ensures.value) in
    let new : caller_of c.relieves.new.self ≡ caller_relieves (caller_at (slice_get c.args.self.now.caller.items c.args.pass)) c.args.gauge (get_or c.args.self.now.begun.items c.args.gauge 0) =
    c.relieves.ensures.part ∙ ap (λ x. caller_relieves (caller_of c.index_mut-caller.result.now) c.args.gauge x) begun
    ∙ ap (λ o. caller_relieves (caller_at o) c.args.gauge (get_or c.args.self.now.begun.items c.args.gauge 0)) (sym here) in
    λ d. record (state_of c.args.self.now) {
      caller = (part_set caller_at c.args.self.now.caller.items c.args.pass c.relieves.new.self l ∙ put_as (λ q. caller_at (slice_get c.args.self.now.caller.items q)) c.args.pass _ _ new) d;
    }
