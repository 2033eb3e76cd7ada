-- The gauges that a request needs are those of the partitions that it asked.
use Rattle.std.proofs.Common.{◌≡◌, ℕ, ◌*◌, ◌≤◌, ◌<◌, ℤ, pos, negsuc, All, List, [], ◌∷◌, Option, arith, map, subst, sym}
use Rattle.std.specs.List.{AllByRecursion, filter_map, zip}
use Rattle.std.proofs.lemmas.List.Elements.{All-from_recursion}
use Rattle.kanswer.specs.declared.accepted.Accepted.{Accepted}
use Rattle.kanswer.specs.declared.accepted.Accepted.TheVariants.{Refused, Appended, Seen}
use Rattle.kanswer.specs.Decisions.{fetch_parts}
use Rattle.kanswer.specs.Results.{parts_asked}
use Rattle.kanswer.specs.Waiting.{fetch_need, needs_of, operation_of, produce_need}
use Rattle.kwire.specs.declared.request.Ask.{Ask}
use Rattle.kwire.specs.declared.request.Ask.TheVariants.{Produce, Fetch, Metadata, Versions}
use Rattle.kwire.specs.declared.request.FetchPart.{FetchPart}
use Rattle.opcond.specs.declared.need.Need.{Need}
use Rattle.opcond.specs.Operation.{Operation}
use Rattle.audit.specs.broker.Sound.{AllBelow}
use Rattle.kanswer.specs.PartitionGauges.{fetched_gauge}

module _ (n : ℕ) where
  abbrev IsGauge : Need → Type 0
  IsGauge need = need.gauge ≤ 3 * n

  abbrev AreGauges : List (Option Need) → Type 0
  AreGauges needs = AllByRecursion IsGauge (filter_map (λ need. need) needs)

  produce_gauges : (results : List Accepted) → AllBelow n (parts_asked results) → AreGauges (map produce_need results)
  produce_gauges [] below = tt
  produce_gauges (Refused code ∷ results) below = produce_gauges results below
  produce_gauges (Appended part base count ∷ results) below = (omega (arith, below.0), produce_gauges results below.1)
  produce_gauges (Seen part start ∷ results) below = produce_gauges results below.1

  fetch_within : (replica : ℤ) (part : ℕ) → part < n → fetched_gauge replica part ≤ 3 * n
  fetch_within (pos k) part lt = omega (arith, lt)
  fetch_within (negsuc k) part lt = omega (arith, lt)

  fetch_gauges : (replica : ℤ) (asked : List FetchPart) (results : List Accepted) → AllBelow n (parts_asked results) → AreGauges (map (fetch_need replica) (zip asked results))
  fetch_gauges replica [] results below = tt
  fetch_gauges replica (a ∷ asked) [] below = tt
  fetch_gauges replica (a ∷ asked) (Refused code ∷ results) below = fetch_gauges replica asked results below
  fetch_gauges replica (a ∷ asked) (Appended part base count ∷ results) below = fetch_gauges replica asked results below.1
  fetch_gauges replica (a ∷ asked) (Seen part start ∷ results) below = (fetch_within replica part below.0, fetch_gauges replica asked results below.1)

  by_ask : (ask : Ask) (results : List Accepted) → AllBelow n (parts_asked results) → AllByRecursion IsGauge (needs_of ask results)
  by_ask (Produce version transactional acks timeout topics) results below = produce_gauges results below
  by_ask (Fetch version replica max_wait min_bytes max_bytes isolation topics) results below = fetch_gauges replica (map (λ named. named.1) (fetch_parts topics)) results below
  by_ask (Metadata topics) results below = tt
  by_ask (Versions version) results below = tt

  pub gauges_there : (ask : Ask) (results : List Accepted) (moment : ℕ) (op : Operation) → op ≡ operation_of ask results moment → AllBelow n (parts_asked results) → All (λ need. need.gauge ≤ 3 * n) op.needs
  gauges_there ask results moment op is below = subst (λ (o : Operation). All IsGauge o.needs) (sym is) (All-from_recursion IsGauge (needs_of ask results) (by_ask ask results below))
