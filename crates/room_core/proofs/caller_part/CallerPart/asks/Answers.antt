use Rattle.std.proofs.Common.{◌≡◌, ◌<◌, length, get_or, max, arith, ◌∙◌, ap}
use Rattle.std.proofs.lemmas.List.{get_or_default}
use Rattle.room_core.specs.CallerTables.{caller_of}
use Rattle.room_core.proofs.Views.{table_set, put_as}
use Rattle.room_core.proofs.caller_part.CallerPart.asks.Goals as goal

pub returns-clause-part : goal.returns-clause-part
returns-clause-part c =
    let l : c.args.gauge < length c.args.self.now.owed.items = omega (arith, c.args.self.now.sized.owed_size) in
    let old : c.index-owed.result.now ≡ get_or c.args.self.now.owed.items c.args.gauge 0 = c.index-owed.ensures ∙ get_or_default c.args.self.now.owed.items c.args.gauge _ 0 l in
    let new : c.max.result ≡ max (get_or c.args.self.now.owed.items c.args.gauge 0) c.args.value = c.max.ensures ∙ ap (λ x. max x c.args.value) old in
    λ d. record (caller_of c.args.self.now) {
      owed = (table_set c.args.self.now.owed.items c.args.gauge c.max.result 0 l ∙ put_as (λ i. get_or c.args.self.now.owed.items i 0) c.args.gauge _ _ new) d;
    }
