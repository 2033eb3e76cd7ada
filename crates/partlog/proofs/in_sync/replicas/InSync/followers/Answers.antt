use Rattle.std.proofs.Common.{◌≡◌, ◌∙◌, length, rules}
use Rattle.partlog.proofs.in_sync.Kept.{kept-length}
use Rattle.partlog.proofs.in_sync.replicas.InSync.followers.Goals as goal

pub returns-clause-followers : goal.returns-clause-followers
returns-clause-followers c = λ followers events stands.
    let size : c.len.result ≡ length c.self.inside.followers.items = search rules in
    size ∙ kept-length followers events c.self.inside.log_end c.self.inside.high_watermark c.self.inside.followers.items (c.self.view_is ∙ stands)
