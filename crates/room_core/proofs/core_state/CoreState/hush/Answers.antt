use Rattle.std.proofs.Common.{◌≡◌, ◌<◌, length, get_or, false, arith, ◌∙◌, ap}
use Rattle.std.proofs.lemmas.List.{get_or_default}
use Rattle.room_core.specs.declared.parts.Source.{Source}
use Rattle.room_core.specs.Scans.{source_hushes}
use Rattle.room_core.specs.Tables.{state_of}
use Rattle.room_core.proofs.Views.{table_set, put_as}
use Rattle.room_core.proofs.core_state.CoreState.hush.Goals as goal

abbrev none : Source
none = record { stored = 0; loud = false }

pub returns-clause-yes : goal.returns-clause-yes
returns-clause-yes c =
    let l : c.args.gauge < length c.args.self.now.source.items = omega (arith, c.args.self.now.sized.source_size) in
    let m : c.args.gauge < length c.args.self.now.asked.items = omega (arith, c.args.self.now.sized.asked_size) in
    let source : c.index.result.now ≡ get_or c.args.self.now.source.items c.args.gauge none = c.index.ensures ∙ get_or_default c.args.self.now.source.items c.args.gauge _ none l in
    let asked : c.index-2.result.now ≡ get_or c.args.self.now.asked.items c.args.gauge 0 = c.index-2.ensures ∙ get_or_default c.args.self.now.asked.items c.args.gauge _ 0 m in
    let new : c.hushed-source.result ≡ source_hushes (get_or c.args.self.now.source.items c.args.gauge none) (get_or c.args.self.now.asked.items c.args.gauge 0) =
    c.hushed-source.ensures ∙ ap (λ x. source_hushes x c.index-2.result.now) source ∙ ap (source_hushes (get_or c.args.self.now.source.items c.args.gauge none)) asked in
    λ d. record (state_of c.args.self.now) {
      source = (table_set c.args.self.now.source.items c.args.gauge c.hushed-source.result none l ∙ put_as (λ i. get_or c.args.self.now.source.items i none) c.args.gauge _ _ new) d;
    }
