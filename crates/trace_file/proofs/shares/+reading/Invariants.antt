use Prim.Native.Nat.{◌+◌, ◌*◌}
use Rattle.trace_file.proofs.shares.+reading.Given as goal

abbrev pub decreases-read_shares : goal.decreases-read_shares
decreases-read_shares g l = 2 * l.shares.len

abbrev pub decreases-ours : goal.decreases-ours
decreases-ours g l = 2 * l.shares.len + 1
