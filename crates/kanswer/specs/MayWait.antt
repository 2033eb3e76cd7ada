-- A request that waits unless the states just seen satisfy it: a produce that asks for every follower, and a fetch with
-- time to wait that names a partition and was refused none.
use Rattle.std.specs.Prelude.{negsuc, Bool, false, ◌&&◌, List, nat_lt}
use Rattle.std.specs.Ordering.{int_eq}
use Rattle.kwire.specs.declared.request.Ask.{Ask}
use Rattle.kwire.specs.declared.request.Ask.TheVariants.{Produce, Fetch, Metadata, Versions}
use Rattle.kanswer.specs.declared.accepted.Accepted.{Accepted}
use Rattle.kanswer.specs.Waiting.{all_seen, at_least_zero}

abbrev pub may_wait : Ask → List Accepted → Bool
may_wait (Produce version transactional acks timeout topics) results = int_eq acks (negsuc 0)
may_wait (Fetch version replica max_wait min_bytes max_bytes isolation topics) results = nat_lt 0 (at_least_zero max_wait) && all_seen results
may_wait (Metadata topics) results = false
may_wait (Versions version) results = false
