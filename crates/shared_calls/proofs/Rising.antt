-- States that are fresh satisfy what the values satisfied that were read of their gauges.
use Rattle.std.proofs.Common.{◌≡◌, ℕ, suc, ◌+◌, ◌-◌, ◌*◌, ◌≤◌, ℤ, List, [], ◌∷◌, length, map, take, Option, refl, sym, ap, subst, arith}
use Rattle.std.specs.List.{filter_map, zip}
use Rattle.kanswer.specs.declared.accepted.Accepted.{Accepted}
use Rattle.kanswer.specs.declared.accepted.Accepted.TheVariants.{Refused, Appended, Seen}
use Rattle.kanswer.specs.Decisions.{fetch_parts}
use Rattle.kanswer.specs.Results.{parts_asked}
use Rattle.kanswer.specs.Waiting.{Shown, at_least_zero, fetch_need, gauge_value, needs_by_part, needs_of, produce_need, states_of, value_of, values_of}
use Rattle.kwire.specs.declared.request.Ask.{Ask}
use Rattle.kwire.specs.declared.request.Ask.TheVariants.{Produce, Fetch, Metadata, Versions}
use Rattle.kwire.specs.declared.request.FetchPart.{FetchPart}
use Rattle.opcond.specs.declared.need.Need.{Need}
use Rattle.opcond.specs.Tally.{counted, tally}
use Rattle.partlog.specs.State.{PartState as State}
use Rattle.kanswer.specs.PartitionGauges.{fetched_gauge, high_gauge}
use Rattle.shared_calls.specs.Fresh.{AreFresh, IsFresh, gauge_for}
use Rattle.shared_calls.specs.Seen.{seen_as}
use Rattle.shared_calls.proofs.Seen.{refused_seen, seen_results}

abbrev present : List (Option Need) → List Need
present needs = filter_map (λ need. need) needs

-- the values of needs in the states of these
abbrev shown_values : List (Option Need) → List Shown → List ℕ
shown_values needs shown = filter_map value_of (zip needs (states_of shown))

counted_rises : (need : Need) (v w : ℕ) → v ≤ w → counted need v ≤ counted need w
counted_rises need v w le = omega arith

module _ (gauge : ℕ → ℕ) where
  -- of fewer needs
  fresh_less : (need : Need) (needs : List Need) (v : ℕ) (values : List ℕ) (parts : List ℕ) (states : List State) → AreFresh (IsFresh gauge (need ∷ needs) (v ∷ values)) parts states → AreFresh (IsFresh gauge needs values) parts states
  fresh_less need needs v values [] states h = tt
  fresh_less need needs v values (part ∷ parts) [] h = tt
  fresh_less need needs v values (part ∷ parts) (state ∷ states) h = ((λ i d lt same. h.0 (suc i) d (omega (arith, lt)) same), fresh_less need needs v values parts states h.1)

  -- the first need is of the first partition
  first_rises : (need : Need) (needs : List Need) (values : List ℕ) (part : ℕ) (parts : List ℕ) (state : State) (states : List State) (later : List ℕ) → need.gauge ≡ gauge part
      → AreFresh (IsFresh gauge (need ∷ needs) values) (part ∷ parts) (state ∷ states)
      → ((vs : List ℕ) → AreFresh (IsFresh gauge needs vs) parts states → tally needs vs ≤ tally needs later)
      → tally (need ∷ needs) values ≤ tally (need ∷ needs) (gauge_value need.gauge state ∷ later)
  first_rises need needs [] part parts state states later is h rest = omega arith
  first_rises need needs (v ∷ vs) part parts state states later is h rest =
      let here : v ≤ gauge_value need.gauge state = subst (λ g. v ≤ gauge_value g state) (sym is) (h.0 0 need (omega arith) is) in
      omega (arith, counted_rises need v (gauge_value need.gauge state) here, rest vs (fresh_less need needs v vs parts states h.1))

produce_rises : (accepted : List Accepted) (states : List State) (values : List ℕ) → length states ≡ length (parts_asked accepted)
    → AreFresh (IsFresh high_gauge (present (map produce_need accepted)) values) (parts_asked accepted) states
    → tally (present (map produce_need accepted)) values ≤ tally (present (map produce_need accepted)) (shown_values (map produce_need accepted) (seen_as accepted states))
produce_rises [] states values size h = omega arith
produce_rises (Refused code ∷ accepted) states values size h =
    subst (λ (shown : List Shown). tally (present (map produce_need accepted)) values ≤ tally (present (map produce_need accepted)) (shown_values (map produce_need (Refused code ∷ accepted)) shown)) (sym (refused_seen code accepted states))
    (produce_rises accepted states values size h)
produce_rises (Appended part base count ∷ accepted) [] values size h = absurd (omega (arith, size))
produce_rises (Appended part base count ∷ accepted) (state ∷ states) values size h =
    let need : Need = record { gauge = 3 * part; start = base + count - 1; cap = 1 } in
    first_rises high_gauge need (present (map produce_need accepted)) values part (parts_asked accepted) state states (shown_values (map produce_need accepted) (seen_as accepted states)) refl h
    (λ vs k. produce_rises accepted states vs (omega (arith, size)) k)
produce_rises (Seen part start ∷ accepted) [] values size h = absurd (omega (arith, size))
produce_rises (Seen part start ∷ accepted) (state ∷ states) values size h = produce_rises accepted states values (omega (arith, size)) h.1

fetch_rises : (replica : ℤ) (asked : List FetchPart) (accepted : List Accepted) (states : List State) (values : List ℕ) → length states ≡ length (parts_asked accepted)
    → AreFresh (IsFresh (fetched_gauge replica) (present (map (fetch_need replica) (zip asked accepted))) values) (parts_asked accepted) states
    → tally (present (map (fetch_need replica) (zip asked accepted))) values
    ≤ tally (present (map (fetch_need replica) (zip asked accepted))) (shown_values (map (fetch_need replica) (zip asked accepted)) (seen_as accepted states))
fetch_rises replica [] accepted states values size h = omega arith
fetch_rises replica (a ∷ asked) [] states values size h = omega arith
fetch_rises replica (a ∷ asked) (Refused code ∷ accepted) states values size h =
    let needs = map (fetch_need replica) (zip asked accepted) in
    subst (λ (shown : List Shown). tally (present needs) values ≤ tally (present needs) (shown_values (map (fetch_need replica) (zip (a ∷ asked) (Refused code ∷ accepted))) shown)) (sym (refused_seen code accepted states))
    (fetch_rises replica asked accepted states values size h)
fetch_rises replica (a ∷ asked) (Appended part base count ∷ accepted) [] values size h = absurd (omega (arith, size))
fetch_rises replica (a ∷ asked) (Appended part base count ∷ accepted) (state ∷ states) values size h = fetch_rises replica asked accepted states values (omega (arith, size)) h.1
fetch_rises replica (a ∷ asked) (Seen part start ∷ accepted) [] values size h = absurd (omega (arith, size))
fetch_rises replica (a ∷ asked) (Seen part start ∷ accepted) (state ∷ states) values size h =
    let needs = map (fetch_need replica) (zip asked accepted) in
    let need : Need = record { gauge = fetched_gauge replica part; start = start; cap = at_least_zero a.most } in
    first_rises (fetched_gauge replica) need (present needs) values part (parts_asked accepted) state states (shown_values needs (seen_as accepted states)) refl h
    (λ vs k. fetch_rises replica asked accepted states vs (omega (arith, size)) k)

pub fresh_rises : (ask : Ask) (accepted : List Accepted) (states : List State) (values : List ℕ) → length states ≡ length (parts_asked accepted)
    → AreFresh (IsFresh (gauge_for ask) (needs_of ask accepted) values) (parts_asked accepted) states
    → tally (needs_of ask accepted) values ≤ tally (needs_of ask accepted) (values_of ask (seen_as accepted states))
fresh_rises ask accepted states values size h =
    subst (λ (rs : List Accepted). tally (needs_of ask accepted) values ≤ tally (needs_of ask accepted) (shown_values (needs_by_part ask rs) (seen_as accepted states))) (sym (seen_results accepted states)) (by_ask ask h)
  where
    by_ask : (a : Ask) → AreFresh (IsFresh (gauge_for a) (needs_of a accepted) values) (parts_asked accepted) states
        → tally (needs_of a accepted) values ≤ tally (needs_of a accepted) (shown_values (needs_by_part a accepted) (seen_as accepted states))
    by_ask (Produce version transactional acks timeout topics) k = produce_rises accepted states values size k
    by_ask (Fetch version replica max_wait min_bytes max_bytes isolation topics) k = fetch_rises replica (map (λ named. named.1) (fetch_parts topics)) accepted states values size k
    by_ask (Metadata topics) k = omega arith
    by_ask (Versions version) k = omega arith

-- values behind those of the needs count nothing
pub tally_taken : (needs : List Need) (values : List ℕ) → tally needs (take (length needs) values) ≡ tally needs values
tally_taken [] values = refl
tally_taken (need ∷ needs) [] = refl
tally_taken (need ∷ needs) (v ∷ values) = ap (λ rest. counted need v + rest) (tally_taken needs values)
