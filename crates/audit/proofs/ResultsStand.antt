-- What became of the partitions of a request is one result for each, of logs that are there, each asked once.
use Rattle.std.proofs.Common.{◌≢◌, ℕ, ◌≤◌, List, [], ◌∷◌, map, All, AllPairs, refl, sym, subst, ◌∙◌}
use Rattle.std.proofs.lemmas.List.{length-map}
use Rattle.std.proofs.lemmas.List.Elements.{All-map}
use Rattle.std.specs.List.{AllByRecursion, AllZip, cons_option}
use Rattle.audit.specs.declared.account.Account.{Account}
use Rattle.audit.specs.Histories.{before_point}
use Rattle.audit.specs.LawfulCall.{IsStep, Step}
use Rattle.kanswer.specs.declared.accepted.Accepted.{Accepted}
use Rattle.kanswer.specs.Decisions.{Decision, Refuse, AskLog, Decides}
use Rattle.kanswer.specs.LogReadings.{IsCarriable}
use Rattle.kanswer.specs.Results.{AreResults, IsBounded, part_asked, parts_asked}
use Rattle.kwire.specs.declared.request.Request.{Request}
use Rattle.kwire.specs.Configuration.{Configuration, partitions_of}
use Rattle.kwire.specs.IsRequest.{IsRequest}
use Rattle.kanswer.specs.Deciding.{AskOnce, AsksOther, AsksWithin, IsHonest, IsSound}
use Rattle.kanswer.proofs.Laws.{sound, decides_honest}
use Rattle.kanswer.proofs.Laws.{decided_within, request_asks_once}
use Rattle.kanswer.proofs.Laws.{Differs, result_other, all_at, one_more_part, none_paired, zip_length, decided_count, all_bounded, few_named}

abbrev result_of : Step → Accepted
result_of step = step.result

-- the results of steps by these decisions
module _ (account : Account) where
  step_sound : (n : ℕ) (decision : Decision) (step : Step) → AsksWithin n decision → IsHonest decision → IsStep account decision step → IsSound n step.result
  step_sound n (Refuse code) step within honest is = subst (λ (s : Step). IsSound n s.result) (sym is) tt
  step_sound n (AskLog part outcome) step within honest asks =
      let found = before_point account asks.point in
      subst (IsSound n) (sym asks.result) (sound part n found (outcome found).result (outcome found).entry within (honest found))

  steps_sound : (n : ℕ) (decisions : List Decision) (steps : List Step) → AllByRecursion (AsksWithin n) decisions → AllByRecursion IsHonest decisions → AllZip (IsStep account) decisions steps
      → AllByRecursion (IsSound n) (map result_of steps)
  steps_sound n [] [] within honest each = tt
  steps_sound n [] (s ∷ steps) within honest each = absurd each
  steps_sound n (d ∷ decisions) [] within honest each = absurd each
  steps_sound n (d ∷ decisions) (s ∷ steps) within honest each =
      (step_sound n d s within.0 honest.0 each.0, steps_sound n decisions steps within.1 honest.1 each.1)

  step_other : (part : ℕ) (decision : Decision) (step : Step) (rest : List ℕ) → AsksOther part decision → IsHonest decision → IsStep account decision step → AllByRecursion (Differs part) rest
      → AllByRecursion (Differs part) (cons_option (part_asked step.result) rest)
  step_other part (Refuse code) step rest other honest is all = subst (λ (s : Step). AllByRecursion (Differs part) (cons_option (part_asked s.result) rest)) (sym is) all
  step_other part (AskLog q outcome) step rest other honest asks all =
      let found = before_point account asks.point in
      subst (λ (r : Accepted). AllByRecursion (Differs part) (cons_option (part_asked r) rest)) (sym asks.result) (result_other part q found (outcome found).result (outcome found).entry rest (honest found) other all)

  steps_other : (part : ℕ) (decisions : List Decision) (steps : List Step) → AllByRecursion (AsksOther part) decisions → AllByRecursion IsHonest decisions → AllZip (IsStep account) decisions steps
      → AllByRecursion (Differs part) (parts_asked (map result_of steps))
  steps_other part [] [] others honest each = tt
  steps_other part [] (s ∷ steps) others honest each = absurd each
  steps_other part (d ∷ decisions) [] others honest each = absurd each
  steps_other part (d ∷ decisions) (s ∷ steps) others honest each =
      step_other part d s (parts_asked (map result_of steps)) others.0 honest.0 each.0 (steps_other part decisions steps others.1 honest.1 each.1)

  steps_once : (decisions : List Decision) (steps : List Step) → AskOnce decisions → AllByRecursion IsHonest decisions → AllZip (IsStep account) decisions steps
      → AllPairs (λ a b. a ≢ b) (parts_asked (map result_of steps))
  steps_once [] [] once honest each = none_paired
  steps_once [] (s ∷ steps) once honest each = absurd each
  steps_once (d ∷ decisions) [] once honest each = absurd each
  steps_once (Refuse code ∷ decisions) (s ∷ steps) once honest each =
      subst (λ (r : Step). AllPairs (λ a b. a ≢ b) (cons_option (part_asked r.result) (parts_asked (map result_of steps)))) (sym each.0) (steps_once decisions steps once honest.1 each.1)
  steps_once (AskLog part outcome ∷ decisions) (s ∷ steps) once honest each =
      let found = before_point account each.0.point in
      let rest = parts_asked (map result_of steps) in
      subst (λ (r : Accepted). AllPairs (λ a b. a ≢ b) (cons_option (part_asked r) rest)) (sym each.0.result)
      (one_more_part part part found (outcome found).result (outcome found).entry rest (honest.0 found) refl
      (steps_other part decisions steps once.0 honest.1 each.1) (steps_once decisions steps once.1 honest.1 each.1))

pub steps_results : (config : Configuration) (account : Account) (body : List ℕ) (request : Request) (decisions : List Decision) (steps : List Step)
    → IsRequest body request → Decides config request.ask decisions → partitions_of config.topics ≤ 64
    → AllZip (IsStep account) decisions steps → All (λ (step : Step). IsCarriable step.result) steps
    → AreResults request.ask (map result_of steps)
steps_results config account body request decisions steps asked decided few each fits =
    let within = decided_within config request.ask decisions decided in
    let honest = decides_honest config request.ask decisions decided in
    record {
      few = few_named request body asked;
      each = length-map steps result_of ∙ zip_length (IsStep account) decisions steps each ∙ decided_count config request.ask decisions decided;
      bounded = all_at IsBounded (map result_of steps) (all_bounded (partitions_of config.topics) (map result_of steps) few (steps_sound account (partitions_of config.topics) decisions steps within honest each) (All-map IsCarriable result_of steps fits));
      once = steps_once account decisions steps (request_asks_once config request body decisions asked decided) honest each;
    }
