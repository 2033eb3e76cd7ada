use Rattle.std.proofs.Common.{arith, ap, ◌-◌, ◌<◌, ◌∙◌, length}
use Rattle.partlog.specs.in_sync.Standings.{Standings}
use Rattle.partlog.specs.in_sync.Steps.{least_of}
use Rattle.partlog.proofs.in_sync.Kept.{kept-fetched}
use Rattle.partlog.proofs.in_sync.replicas.InSync.fetch.Goals as goal

pub returns : goal.returns
returns c =
    let size = ap (λ (s : Standings). length s.followers) c.self.view_is in
    let there : c.args.replica - 1 < length c.self.inside.followers.items = omega (arith, size, c.requires.follower.0, c.requires.follower.1) in
    record {
      stands = λ followers events stands.
          kept-fetched followers events c.self.inside.log_end c.self.inside.high_watermark c.self.inside.followers.items (c.self.view_is ∙ stands)
          (c.args.replica - 1) c.args.replica (omega (arith, c.requires.follower.0)) there c.index.result.now c.fetched.result c.index.ensures c.args.offset c.args.t c.least_of-self-inside.result c.fetched.ensures
          (c.least_of-self-inside.ensures ∙ ap (least_of c.self.inside.log_end) c.as_slice.ensures.value);
    }
