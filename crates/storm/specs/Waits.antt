-- How long a request of a load may wait, and how far the clock can go until none does.
use Rattle.std.specs.Prelude.{ℕ, ◌+◌, ◌*◌, ◌≡◌, ◌≤◌, ℤ, pos, negsuc, Option, Some, None, IfSome}
use Rattle.kwire.specs.declared.request.Ask.{Ask}
use Rattle.kwire.specs.declared.request.Ask.TheVariants.{Produce, Fetch, Metadata, Versions}
use Rattle.storm.specs.declared.asking.TheConstants.{LONGEST_WAIT}
use Rattle.storm.specs.declared.load.TheConstants.{MOST_STEP}

-- the milliseconds that it asks to wait for at most: a produce for all followers, or a fetch; others are answered at once
abbrev pub wait_of : Ask → Option ℤ
wait_of (Produce version transactional (negsuc acks) timeout topics) = Some timeout
wait_of (Produce version transactional (pos acks) timeout topics) = None
wait_of (Fetch version replica wait least most isolation topics) = Some wait
wait_of (Metadata topics) = None
wait_of (Versions version) = None

abbrev pub WaitsBriefly : Ask → Type 0
WaitsBriefly ask = IfSome (wait_of ask) (λ wait. (time : ℕ) × (wait ≡ pos time) × (time ≤ LONGEST_WAIT))

-- By this moment none of n requests waits any more, if the clock was at t after the last line and then goes on by steps: in each step
-- every request that waits is answered, so the last of them is accepted after n steps at most. It waits its longest, and one step more comes.
abbrev pub drained_by : ℕ → ℕ → ℕ
drained_by n t = t + MOST_STEP * n + LONGEST_WAIT + MOST_STEP
