use Rattle.std.proofs.Common.{arith, ap, sym, ◌<◌, ◌∙◌, refl, false, length}
use Rattle.partlog.specs.in_sync.Steps.{least_of}
use Rattle.partlog.proofs.in_sync.Kept.{kept-left, kept-left-none}
use Rattle.partlog.proofs.in_sync.replicas.InSync.leave.Goals as goal

pub returns-in_default : goal.returns-in_default
returns-in_default c = record {
  stands = λ followers events stands.
      sym c.self.view_is
      ∙ kept-left-none followers events c.self.inside.log_end c.self.inside.high_watermark c.self.inside.followers.items (c.self.view_is ∙ stands) c.args.replica c.args.t
      (λ is. c.in_default.ensures.no_follower (is.0, omega (arith, is.1, ap length c.as_slice.ensures.value)));
}

pub returns : goal.returns
returns c =
    let there : c.in-Some.at < length c.self.inside.followers.items = omega (arith, c.in-Some.ensures.follower.1, ap length c.as_slice.ensures.value) in
    record {
      stands = λ followers events stands.
          kept-left followers events c.self.inside.log_end c.self.inside.high_watermark c.self.inside.followers.items (c.self.view_is ∙ stands)
          c.in-Some.at c.args.replica c.in-Some.ensures.follower.0 there c.index_mut.result.now (record c.index_mut.result.now { in_sync = false }) c.index_mut.ensures.value c.args.t c.least_of-self-inside.result refl
          (c.least_of-self-inside.ensures ∙ ap (least_of c.self.inside.log_end) c.as_slice-2.ensures.value);
    }
