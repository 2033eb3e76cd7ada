use Rattle.std.proofs.Common.{◌≡◌, ◌∙◌, List, ap, arith, length, subst, sym}
use Rattle.std.specs.Prelude.{All}
use Rattle.std.proofs.lemmas.List.{length_push}
use Rattle.std.proofs.lemmas.List.Elements.{All-push}
use Rattle.room_table.specs.Seats.{SourceView}
use Rattle.purgatory.specs.Closed.{IsClosed}
use Rattle.shared_logs.proofs.Gone.{clock_back, clock_gauge, clock_table, logs_count, rests_of_clock}
use Rattle.shared_logs.proofs.closing.close_all.Goals as goal

pub close_clock-requires-clause-hands : goal.close_clock-requires-clause-hands
close_clock-requires-clause-hands c =
    rests_of_clock c.in_ok-logs.field-0.logs c.args.clock c.args.hands c.in_ok-logs.field-0.hands c.in_ok-logs.ensures.gone c.requires.hands.1

pub close-wins-requires-clause-all : goal.close-wins-requires-clause-all
close-wins-requires-clause-all c =
    let parts = c.in_ok-logs.field-0 in
    let sources = c.in_ok-logs.ensures.sources c.args.still.table c.requires.room.named in
    let count = sources.count in
    let logs = logs_count parts.logs c.args.parts.items c.in_ok-logs.ensures.followers in
    let more = ap (λ (l : List SourceView). length l) c.in_ok-push.ensures.ok ∙ length_push parts.sources c.in_ok-clock.source in
    let gauges = c.requires.room.gauges in
    omega (arith, count, logs, more, gauges)

pub close-wins-requires-clause-made : goal.close-wins-requires-clause-made
close-wins-requires-clause-made c =
    let parts = c.in_ok-logs.field-0 in
    let T : SourceView → Type 0 = λ source. source.table ≡ c.args.still.table in
    let sources = c.in_ok-logs.ensures.sources c.args.still.table c.requires.room.named in
    let last = clock_table c.args.still.table c.args.clock _ c.requires.room.clock_named parts.hands c.in_ok-clock.clock c.in_ok-clock.source c.in_ok-clock.ensures in
    subst (All T) (sym c.in_ok-push.ensures.ok) (All-push T parts.sources c.in_ok-clock.source sources.tables last)

pub returns : goal.returns
returns c =
    let parts = c.in_ok-logs.field-0 in
    let e = c.in_ok-logs.ensures in
    let sources = e.sources c.args.still.table c.requires.room.named in
    record {
      rests = parts.hands;
      sources = parts.sources;
      source = c.in_ok-clock.source;
      gone = e.gone;
      out = e.out;
      followers = e.followers;
      tell = sources.tell;
      clock = clock_back parts.logs c.args.clock c.args.hands parts.hands c.in_ok-clock.clock c.in_ok-clock.source e.gone e.count c.in_ok-clock.ensures;
      gauge = clock_gauge c.args.still.table c.args.clock _ c.requires.room.clock_named parts.hands c.in_ok-clock.clock c.in_ok-clock.source c.in_ok-clock.ensures;
      closed = subst (λ (l : List SourceView). IsClosed c.args.still l c.close-wins.result) c.in_ok-push.ensures.ok c.close-wins.ensures;
    }
