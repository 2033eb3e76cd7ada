use Rattle.std.proofs.Common.{◌≡◌, ◌<◌, length, get_or, max, arith, ◌∙◌, ap, sym, Some}
use Rattle.std.specs.Prelude.{slice_get}
use Rattle.std.proofs.lemmas.List.{get_or_default}
use Rattle.std.proofs.lemmas.Option.{slice_get-get_or}
use Rattle.room_core.specs.CallerTables.{caller_at, caller_of}
use Rattle.room_core.specs.Scans.{caller_asks}
use Rattle.room_core.specs.Tables.{state_of}
use Rattle.room_core.proofs.Views.{table_set, part_set, put_as}
use Rattle.room_core.proofs.core_state.CoreState.ask.Goals as goal

pub returns-clause-yes : goal.returns-clause-yes
returns-clause-yes c =
    let l : c.args.pass < length c.args.self.now.caller.items = omega (arith, c.args.self.now.sized.caller_size) in
    let m : c.args.gauge < length c.args.self.now.asked.items = omega (arith, c.args.self.now.sized.asked_size) in
    let asked : c.index-asked.result.now ≡ get_or c.args.self.now.asked.items c.args.gauge 0 = c.index-asked.ensures ∙ get_or_default c.args.self.now.asked.items c.args.gauge _ 0 m in
    let more : c.max.result ≡ max (get_or c.args.self.now.asked.items c.args.gauge 0) c.args.value = c.max.ensures ∙ ap (λ x. max x c.args.value) asked in
    let here : slice_get c.args.self.now.caller.items c.args.pass ≡ Some c.index_mut-caller.result.now =
    slice_get-get_or c.args.self.now.caller.items c.args.pass c.index_mut-caller.result.now l ∙ ap Some (sym c.index_mut-caller.ensures.value) in
    let new : caller_of c.asks.new.self ≡ caller_asks (caller_at (slice_get c.args.self.now.caller.items c.args.pass)) c.args.gauge c.args.value =
    c.asks.ensures.part ∙ ap (λ o. caller_asks (caller_at o) c.args.gauge c.args.value) (sym here) in
    λ d. record (state_of c.args.self.now) {
      asked = (table_set c.args.self.now.asked.items c.args.gauge c.max.result 0 m ∙ put_as (λ i. get_or c.args.self.now.asked.items i 0) c.args.gauge _ _ more) d;
      caller = (part_set caller_at c.args.self.now.caller.items c.args.pass c.asks.new.self l ∙ put_as (λ q. caller_at (slice_get c.args.self.now.caller.items q)) c.args.pass _ _ new) d;
    }
