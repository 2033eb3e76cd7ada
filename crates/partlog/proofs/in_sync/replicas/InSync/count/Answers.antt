use Rattle.std.proofs.Common.{ap, ◌+◌, ◌∙◌, length, filter, List}
use Rattle.partlog.specs.declared.in_sync.standing.Standing.{Standing}
use Rattle.partlog.proofs.in_sync.Kept.{kept-count}
use Rattle.partlog.proofs.in_sync.replicas.InSync.count.Goals as goal

pub returns : goal.returns
returns c = record {
  count = λ followers events stands.
      ap (λ n. 1 + n) (c.count_in_sync.ensures.count ∙ ap (λ (l : List Standing). length (filter (λ (s : Standing). s.in_sync) l)) c.as_slice.ensures.value
      ∙ kept-count followers events c.self.inside.log_end c.self.inside.high_watermark c.self.inside.followers.items (c.self.view_is ∙ stands));
}
