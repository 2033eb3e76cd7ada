use Rattle.std.proofs.Common.{◌∙◌, ◌+◌, List, Global, Vec, ap, length}
use Rattle.std.proofs.lemmas.List.{length_push}
use Rattle.turn_lock.specs.declared.pass.TurnPass.{TurnPass}
use Rattle.shared_logs.specs.declared.entries.LogEntry.{LogEntry}
use Rattle.shared_logs.specs.Desks.{PartView}
use Rattle.shared_logs.proofs.Dealt.{rows_none}
use Rattle.shared_logs.proofs.making.empty_rows.Goals as goal

pub loop-preserved : goal.loop-preserved
loop-preserved c =
    let i = c.loop.invariant in
    let more = c.in_ok-push.ensures.ok in
    record {
      count = ap (λ (rows : List (Vec (TurnPass PartView LogEntry) Global)). length rows) more ∙ length_push c.loop.rows c.new.result ∙ ap (λ n. n + 1) i.count;
      each = rows_none c.loop.rows c.push.new.self c.new.result c.new.ensures.items more i.each;
    }
