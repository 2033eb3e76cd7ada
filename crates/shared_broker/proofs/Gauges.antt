-- The needs of an operation are of gauges that are there, where its partitions are.
use Rattle.std.proofs.Common.{◌≡◌, ℕ, zero, suc, ◌+◌, ◌*◌, ◌<◌, ℤ, Bool, true, false, cond, List, [], ◌∷◌, All, map, arith, subst, sym}
use Rattle.std.specs.List.{AllByRecursion, filter_map, zip}
use Rattle.opcond.specs.declared.need.Need.{Need}
use Rattle.opcond.specs.Operation.{Operation}
use Rattle.kwire.specs.declared.request.Ask.{Ask}
use Rattle.kwire.specs.declared.request.Ask.TheVariants.{Produce, Fetch, Metadata, Versions}
use Rattle.kwire.specs.declared.request.FetchPart.{FetchPart}
use Rattle.kanswer.specs.declared.accepted.Accepted.{Accepted}
use Rattle.kanswer.specs.declared.accepted.Accepted.TheVariants.{Refused, Appended, Seen}
use Rattle.kanswer.specs.Decisions.{fetch_parts}
use Rattle.kanswer.specs.Results.{parts_asked}
use Rattle.kanswer.specs.Waiting.{fetch_need, is_consumer, needs_of, operation_of, produce_need}
use Rattle.audit.specs.broker.Sound.{AllBelow}

abbrev HasGauge : ℕ → Need → Type 0
HasGauge n need = need.gauge < 3 * n

by_kind : (n part k : ℕ) → part < n → k < 3 → 3 * part + k < 3 * n
by_kind n part k lt few = omega (arith, lt, few)

kind_few : (b : Bool) → cond b 1 2 < 3
kind_few true = omega arith
kind_few false = omega arith

produce_gauges : (n : ℕ) (results : List Accepted) → AllBelow n (parts_asked results) → AllByRecursion (HasGauge n) (filter_map (λ need. need) (map produce_need results))
produce_gauges n [] has = tt
produce_gauges n (Refused code ∷ results) has = produce_gauges n results has
produce_gauges n (Appended part base count ∷ results) has = (omega (arith, has.0), produce_gauges n results has.1)
produce_gauges n (Seen part start ∷ results) has = produce_gauges n results has.1

fetch_gauges : (n : ℕ) (replica : ℤ) (asked : List FetchPart) (results : List Accepted) → AllBelow n (parts_asked results) → AllByRecursion (HasGauge n) (filter_map (λ need. need) (map (fetch_need replica) (zip asked results)))
fetch_gauges n replica [] results has = tt
fetch_gauges n replica (a ∷ asked) [] has = tt
fetch_gauges n replica (a ∷ asked) (Refused code ∷ results) has = fetch_gauges n replica asked results has
fetch_gauges n replica (a ∷ asked) (Appended part base count ∷ results) has = fetch_gauges n replica asked results has.1
fetch_gauges n replica (a ∷ asked) (Seen part start ∷ results) has =
    (by_kind n part (cond (is_consumer replica) 1 2) has.0 (kind_few (is_consumer replica)), fetch_gauges n replica asked results has.1)

have_gauges : (n : ℕ) (ask : Ask) (results : List Accepted) → AllBelow n (parts_asked results) → AllByRecursion (HasGauge n) (needs_of ask results)
have_gauges n (Produce version transactional acks timeout topics) results has = produce_gauges n results has
have_gauges n (Fetch version replica max_wait min_bytes max_bytes isolation topics) results has = fetch_gauges n replica (map (λ named. named.1) (fetch_parts topics)) results has
have_gauges n (Metadata topics) results has = tt
have_gauges n (Versions version) results has = tt

all_at : (P : Need → Type 0) (xs : List Need) → AllByRecursion P xs → All P xs
all_at P [] h k d lt = absurd (omega (arith, lt))
all_at P (x ∷ xs) h zero d lt = h.0
all_at P (x ∷ xs) h (suc k) d lt = all_at P xs h.1 k d (omega (arith, lt))

pub gauges_there : (n : ℕ) (ask : Ask) (results : List Accepted) (moment : ℕ) (op : Operation) → op ≡ operation_of ask results moment → AllBelow n (parts_asked results) → All (λ (need : Need). need.gauge < 3 * n) op.needs
gauges_there n ask results moment op is there =
    subst (λ (o : Operation). All (HasGauge n) o.needs) (sym is) (all_at (HasGauge n) (needs_of ask results) (have_gauges n ask results there))
