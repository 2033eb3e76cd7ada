use Rattle.std.proofs.Common.{◌≡◌, []}
use Rattle.partlog.specs.in_sync.Standings.{standings_of}
use Rattle.partlog.proofs.in_sync.replicas.unfetched.Given as goal

abbrev pub invariant-loop : goal.invariant-loop
invariant-loop l = l.standings.items ≡ (standings_of l.counter []).followers
