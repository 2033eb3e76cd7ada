use Rattle.partlog.proofs.in_sync.Kept.{kept-length}
use Rattle.partlog.proofs.in_sync.promises.standings_say.Goals as goal

pub returns-clause-followers : goal.returns-clause-followers
returns-clause-followers c = λ standings followers events stands.
    kept-length followers events standings.log_end standings.high_watermark standings.followers stands
