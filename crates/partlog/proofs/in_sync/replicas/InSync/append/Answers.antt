use Rattle.std.proofs.Common.{ap, ◌+◌, ◌∙◌}
use Rattle.partlog.specs.in_sync.Steps.{least_of}
use Rattle.partlog.proofs.in_sync.Kept.{kept-appended}
use Rattle.partlog.proofs.in_sync.replicas.InSync.append.Goals as goal

pub returns : goal.returns
returns c = record {
  stands = λ followers events stands.
      kept-appended followers events c.self.inside.log_end c.self.inside.high_watermark c.self.inside.followers.items (c.self.view_is ∙ stands)
      c.args.count c.from.result c.least_of-self-inside.result c.from.ensures
      (c.least_of-self-inside.ensures ∙ ap (least_of (c.self.inside.log_end + c.from.result)) c.as_slice.ensures.value);
}
