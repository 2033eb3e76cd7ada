-- The values of an operation's gauges: one for each need, that of its partition's state.
use Rattle.std.proofs.Common.{◌≡◌, ℕ, ◌+◌, ◌/◌, List, [], ◌∷◌, map, Option, Some, None, arith, refl, sym, ap, ◌∙◌}
use Rattle.std.specs.List.{filter_map, zip, cons_option}
use Rattle.kwire.specs.declared.request.Ask.{Ask}
use Rattle.partlog.specs.State.{PartState as State}
use Rattle.partlog.specs.Gauges.{numbers_of}
use Rattle.partlog.specs.declared.numbers.Numbers.{Numbers}
use Rattle.opcond.specs.declared.need.Need.{Need}
use Rattle.opcond.specs.Tally.{counted, tally}
use Rattle.kanswer.specs.declared.accepted.Accepted.{Accepted}
use Rattle.kanswer.specs.declared.accepted.Accepted.TheVariants.{Refused, Appended, Seen}
use Rattle.kanswer.specs.ByPart.{AreByPart, IsByPart}
use Rattle.kanswer.specs.Numbered.{AreNumbers, IsNumbered}
use Rattle.kanswer.specs.Reached.{gauge_in, reached_at, reached_by}
use Rattle.kanswer.specs.Results.{part_asked}
use Rattle.kanswer.specs.Waiting.{Shown, gauge_value, needs_by_part, needs_of, results_of, states_of, value_of, values_of}
use Rattle.kanswer.proofs.Needs.{AreNeeds, IsNeedOf, are_needs, present, no_part, same_part}

-- ---- by the partitions' numbers

module _ (states : ℕ → State) where
  abbrev value_by : Need → ℕ
  value_by need = gauge_value need.gauge (states (need.gauge / 3))

  own_state : (part : ℕ) (result : Accepted) (state : State) → part_asked result ≡ Some part → IsByPart states result state → state ≡ states part
  own_state part (Refused code) state asked own = absurd (no_part part asked)
  own_state part (Appended p base count) state asked own = own ∙ ap states (same_part p part asked)
  own_state part (Seen p start) state asked own = own ∙ ap states (same_part p part asked)

  one_value : (need : Option Need) (result : Accepted) (state : State) (values : List ℕ) (needs : List Need) → IsNeedOf need result → IsByPart states result state
      → values ≡ map value_by needs → cons_option (value_of (need, state)) values ≡ map value_by (cons_option need needs)
  one_value None result state values needs is own rest = rest
  one_value (Some need) result state values needs is own rest =
      ap (λ (s : State). gauge_value need.gauge s ∷ values) (own_state (need.gauge / 3) result state is own) ∙ ap (λ (vs : List ℕ). value_by need ∷ vs) rest

  each_value : (needs : List (Option Need)) (shown : List Shown) → AreNeeds needs (results_of shown) → AreByPart states shown
      → filter_map value_of (zip needs (states_of shown)) ≡ map value_by (present needs)
  each_value [] shown are own = refl
  each_value (need ∷ needs) [] are own = absurd are
  each_value (need ∷ needs) (s ∷ shown) are own =
      one_value need s.result s.state (filter_map value_of (zip needs (states_of shown))) (present needs) are.0 own.0 (each_value needs shown are.1 own.1)

  pub values_by_part : (ask : Ask) (shown : List Shown) → AreByPart states shown
      → values_of ask shown ≡ map (λ need. gauge_value need.gauge (states (need.gauge / 3))) (needs_of ask (results_of shown))
  values_by_part ask shown own = each_value (needs_by_part ask (results_of shown)) shown (are_needs ask (results_of shown)) own

-- ---- by the numbers that were read

own_numbers : (part : ℕ) (result : Accepted) (n : Numbers) (state : State) → part_asked result ≡ Some part → IsNumbered n result state → n ≡ numbers_of state
own_numbers part (Refused code) n state asked own = absurd (no_part part asked)
own_numbers part (Appended p base count) n state asked own = own
own_numbers part (Seen p start) n state asked own = own

one_tally : (need : Option Need) (result : Accepted) (n : Numbers) (state : State) (needs : List Need) (values : List ℕ) → IsNeedOf need result → IsNumbered n result state
    → tally (cons_option need needs) (cons_option (value_of (need, state)) values) ≡ reached_at need n + tally needs values
one_tally None result n state needs values is own = omega arith
one_tally (Some need) result n state needs values is own =
    ap (λ (m : Numbers). counted need (gauge_in need.gauge m) + tally needs values) (sym (own_numbers (need.gauge / 3) result n state is own))

each_tally : (needs : List (Option Need)) (numbers : List Numbers) (shown : List Shown) → AreNeeds needs (results_of shown) → AreNumbers numbers shown
    → tally (present needs) (filter_map value_of (zip needs (states_of shown))) ≡ reached_by needs numbers
each_tally [] numbers shown are own = refl
each_tally (need ∷ needs) numbers [] are own = absurd are
each_tally (need ∷ needs) [] (s ∷ shown) are own = absurd own
each_tally (need ∷ needs) (n ∷ numbers) (s ∷ shown) are own =
    one_tally need s.result n s.state (present needs) (filter_map value_of (zip needs (states_of shown))) are.0 own.0
    ∙ ap (λ (rest : ℕ). reached_at need n + rest) (each_tally needs numbers shown are.1 own.1)

pub tally_reached : (ask : Ask) (numbers : List Numbers) (shown : List Shown) → AreNumbers numbers shown
    → tally (needs_of ask (results_of shown)) (values_of ask shown) ≡ reached_by (needs_by_part ask (results_of shown)) numbers
tally_reached ask numbers shown own = each_tally (needs_by_part ask (results_of shown)) numbers shown (are_needs ask (results_of shown)) own
