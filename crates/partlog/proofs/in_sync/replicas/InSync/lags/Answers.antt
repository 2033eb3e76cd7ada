use Rattle.std.proofs.Common.{◌≡◌, ◌<◌, length, arith, ap, sym, ◌∙◌}
use Rattle.std.proofs.lemmas.Bool.{false≢true}
use Rattle.partlog.specs.in_sync.Lagging.{lags}
use Rattle.partlog.proofs.in_sync.Kept.{kept-is_late, kept-length}
use Rattle.partlog.proofs.in_sync.Late.{lags_late, late_lags}
use Rattle.partlog.proofs.in_sync.replicas.InSync.lags.Goals as goal

pub returns-in-Some : goal.returns-in-Some
returns-in-Some c =
    let there : c.in-Some.at < length c.self.inside.followers.items = omega (arith, c.in-Some.ensures.follower.1, ap length c.as_slice.ensures.value) in
    record {
      lags = λ followers events stands.
          let kept = c.self.view_is ∙ stands in
          let many : length c.self.inside.followers.items ≡ followers = kept-length followers events c.self.inside.log_end c.self.inside.high_watermark c.self.inside.followers.items kept in
          let late : c.is_late.result ≡ lags followers events c.args.t c.args.replica =
          c.is_late.ensures
          ∙ kept-is_late followers events c.self.inside.log_end c.self.inside.high_watermark c.self.inside.followers.items kept
          c.in-Some.at c.args.replica c.in-Some.ensures.follower.0 there c.index.result.now c.index.result.now c.index.ensures c.args.t in (
            λ is. late_lags followers events c.args.t c.args.replica (omega (arith, c.in-Some.ensures.follower.0)) (omega (arith, c.in-Some.ensures.follower.0, there, many)) (sym late ∙ is),
            λ lagging. late ∙ lags_late followers events c.args.t c.args.replica lagging,
          );
    }

pub returns-in-None : goal.returns-in-None
returns-in-None c = record {
  lags = λ followers events stands.
      let many : length c.self.inside.followers.items ≡ followers = kept-length followers events c.self.inside.log_end c.self.inside.high_watermark c.self.inside.followers.items (c.self.view_is ∙ stands) in (
        λ is. absurd (false≢true is),
        λ lagging. absurd (c.in-None.ensures.no_follower (lagging.follower.0, omega (arith, lagging.follower.1, many, ap length c.as_slice.ensures.value))),
      );
}
