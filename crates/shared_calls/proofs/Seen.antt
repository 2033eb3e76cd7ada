-- What was seen of the named partitions, one after the other.
use Rattle.std.proofs.Common.{◌≡◌, ℕ, ℤ, List, [], ◌∷◌, ◌++◌, length, map, refl, sym, ap, ◌∙◌, arith}
use Rattle.audit.specs.Histories.{no_state}
use Rattle.audit.specs.LawfulCall.{Step, operation_parts}
use Rattle.kanswer.specs.declared.accepted.Accepted.{Accepted}
use Rattle.kanswer.specs.declared.accepted.Accepted.TheVariants.{Refused, Appended, Seen}
use Rattle.kanswer.specs.declared.accepted.Budget.{Budget}
use Rattle.kanswer.specs.declared.accepted.Reading.{Reading}
use Rattle.kanswer.specs.Answer.{batches_as, budget_after, budget_behind}
use Rattle.kanswer.specs.LogReadings.{FetchReadings, ProduceReadings}
use Rattle.kanswer.specs.Results.{parts_asked}
use Rattle.kanswer.specs.Waiting.{Shown, results_of}
use Rattle.kwire.specs.declared.request.FetchPart.{FetchPart}
use Rattle.partlog.specs.State.{PartState as State}
use Rattle.audit.specs.broker.books.Finishing.{shown_with}
use Rattle.shared_calls.specs.Seen.{seen_as}

abbrev pub result_of : Step → Accepted
result_of step = step.result

-- ---- the steps of a call

-- what is shown goes by the results alone
pub shown_is : (steps : List Step) (states : List State) → shown_with steps states ≡ seen_as (map result_of steps) states
shown_is [] states = refl
shown_is (step ∷ steps) [] = ap (λ (ss : List Shown). record { result = step.result; state = no_state } ∷ ss) (shown_is steps [])
shown_is (step ∷ steps) (state ∷ states) = by_case step.result (shown_is steps (state ∷ states)) (shown_is steps states)
  where
    by_case : (r : Accepted) → shown_with steps (state ∷ states) ≡ seen_as (map result_of steps) (state ∷ states) → shown_with steps states ≡ seen_as (map result_of steps) states
        → shown_with (record { result = r; point = step.point } ∷ steps) (state ∷ states) ≡ seen_as (r ∷ map result_of steps) (state ∷ states)
    by_case (Refused code) all rest = ap (λ (ss : List Shown). record { result = Refused code; state = no_state } ∷ ss) all
    by_case (Appended part base count) all rest = ap (λ (ss : List Shown). record { result = Appended part base count; state = state } ∷ ss) rest
    by_case (Seen part start) all rest = ap (λ (ss : List Shown). record { result = Seen part start; state = state } ∷ ss) rest

-- so do the partitions
pub parts_are : (steps : List Step) → operation_parts steps ≡ parts_asked (map result_of steps)
parts_are [] = refl
parts_are (step ∷ steps) = by_case step.result (parts_are steps)
  where
    by_case : (r : Accepted) → operation_parts steps ≡ parts_asked (map result_of steps) → operation_parts (record { result = r; point = step.point } ∷ steps) ≡ parts_asked (r ∷ map result_of steps)
    by_case (Refused code) rest = rest
    by_case (Appended part base count) rest = ap (λ (ps : List ℕ). part ∷ ps) rest
    by_case (Seen part start) rest = ap (λ (ps : List ℕ). part ∷ ps) rest

-- ---- one partition after the other

pub refused_seen : (code : ℤ) (xs : List Accepted) (states : List State) → seen_as (Refused code ∷ xs) states ≡ record { result = Refused code; state = no_state } ∷ seen_as xs states
refused_seen code xs [] = refl
refused_seen code xs (state ∷ states) = refl

pub asked_append : (xs ys : List Accepted) → parts_asked (xs ++ ys) ≡ parts_asked xs ++ parts_asked ys
asked_append [] ys = refl
asked_append (Refused code ∷ xs) ys = asked_append xs ys
asked_append (Appended part base count ∷ xs) ys = ap (λ (ps : List ℕ). part ∷ ps) (asked_append xs ys)
asked_append (Seen part start ∷ xs) ys = ap (λ (ps : List ℕ). part ∷ ps) (asked_append xs ys)

pub seen_append : (xs ys : List Accepted) (ss ts : List State) → length ss ≡ length (parts_asked xs) → seen_as (xs ++ ys) (ss ++ ts) ≡ seen_as xs ss ++ seen_as ys ts
seen_append [] ys [] ts size = refl
seen_append [] ys (s ∷ ss) ts size = absurd (omega (arith, size))
seen_append (Refused code ∷ xs) ys ss ts size =
    refused_seen code (xs ++ ys) (ss ++ ts)
    ∙ ap (λ (shown : List Shown). record { result = Refused code; state = no_state } ∷ shown) (seen_append xs ys ss ts size)
    ∙ ap (λ (shown : List Shown). shown ++ seen_as ys ts) (sym (refused_seen code xs ss))
seen_append (Appended part base count ∷ xs) ys [] ts size = absurd (omega (arith, size))
seen_append (Appended part base count ∷ xs) ys (s ∷ ss) ts size =
    ap (λ (shown : List Shown). record { result = Appended part base count; state = s } ∷ shown) (seen_append xs ys ss ts (omega (arith, size)))
seen_append (Seen part start ∷ xs) ys [] ts size = absurd (omega (arith, size))
seen_append (Seen part start ∷ xs) ys (s ∷ ss) ts size =
    ap (λ (shown : List Shown). record { result = Seen part start; state = s } ∷ shown) (seen_append xs ys ss ts (omega (arith, size)))

pub seen_results : (xs : List Accepted) (ss : List State) → results_of (seen_as xs ss) ≡ xs
seen_results [] ss = refl
seen_results (x ∷ xs) [] = ap (λ (rs : List Accepted). x ∷ rs) (seen_results xs [])
seen_results (Refused code ∷ xs) (s ∷ ss) = ap (λ (rs : List Accepted). Refused code ∷ rs) (seen_results xs (s ∷ ss))
seen_results (Appended part base count ∷ xs) (s ∷ ss) = ap (λ (rs : List Accepted). Appended part base count ∷ rs) (seen_results xs ss)
seen_results (Seen part start ∷ xs) (s ∷ ss) = ap (λ (rs : List Accepted). Seen part start ∷ rs) (seen_results xs ss)

-- ---- what was read of them

pub produce_append : (xs ys : List Accepted) (rs qs : List Reading) (ss ts : List Shown) → ProduceReadings xs rs ss → ProduceReadings ys qs ts → ProduceReadings (xs ++ ys) (rs ++ qs) (ss ++ ts)
produce_append [] ys [] qs [] ts h k = k
produce_append (x ∷ xs) ys (r ∷ rs) qs (s ∷ ss) ts h k = (h.0, h.1, produce_append xs ys rs qs ss ts h.2 k)
produce_append [] ys [] qs (s ∷ ss) ts h k = absurd h
produce_append [] ys (r ∷ rs) qs ss ts h k = absurd h
produce_append (x ∷ xs) ys [] qs ss ts h k = absurd h
produce_append (x ∷ xs) ys (r ∷ rs) qs [] ts h k = absurd h

module _ (replica : ℤ) where
  abbrev behind_one : FetchPart → Shown → Budget → Budget
  behind_one a s b = budget_after (batches_as replica a s.result s.state b) b

  pub fetch_append : (ps bs : List FetchPart) (xs ys : List Accepted) (rs qs : List Reading) (ss ts : List Shown) (b : Budget) → FetchReadings replica ps xs rs ss b
      → FetchReadings replica bs ys qs ts (budget_behind replica ps ss b) → FetchReadings replica (ps ++ bs) (xs ++ ys) (rs ++ qs) (ss ++ ts) b
  fetch_append [] bs [] ys [] qs [] ts b h k = k
  fetch_append (a ∷ ps) bs (x ∷ xs) ys (r ∷ rs) qs (s ∷ ss) ts b h k = (h.0, h.1, fetch_append ps bs xs ys rs qs ss ts (behind_one a s b) h.2 k)
  fetch_append [] bs [] ys [] qs (s ∷ ss) ts b h k = absurd h
  fetch_append [] bs [] ys (r ∷ rs) qs ss ts b h k = absurd h
  fetch_append [] bs (x ∷ xs) ys rs qs ss ts b h k = absurd h
  fetch_append (a ∷ ps) bs [] ys rs qs ss ts b h k = absurd h
  fetch_append (a ∷ ps) bs (x ∷ xs) ys [] qs ss ts b h k = absurd h
  fetch_append (a ∷ ps) bs (x ∷ xs) ys (r ∷ rs) qs [] ts b h k = absurd h

  pub behind_append : (ps bs : List FetchPart) (xs : List Accepted) (rs : List Reading) (ss ts : List Shown) (b : Budget) → FetchReadings replica ps xs rs ss b
      → budget_behind replica (ps ++ bs) (ss ++ ts) b ≡ budget_behind replica bs ts (budget_behind replica ps ss b)
  behind_append [] bs [] [] [] ts b h = refl
  behind_append (a ∷ ps) bs (x ∷ xs) (r ∷ rs) (s ∷ ss) ts b h = behind_append ps bs xs rs ss ts (behind_one a s b) h.2
  behind_append [] bs [] [] (s ∷ ss) ts b h = absurd h
  behind_append [] bs [] (r ∷ rs) ss ts b h = absurd h
  behind_append [] bs (x ∷ xs) rs ss ts b h = absurd h
  behind_append (a ∷ ps) bs [] rs ss ts b h = absurd h
  behind_append (a ∷ ps) bs (x ∷ xs) [] ss ts b h = absurd h
  behind_append (a ∷ ps) bs (x ∷ xs) (r ∷ rs) [] ts b h = absurd h
