-- What became of the partitions of a request is one result for each, of logs that are there, each asked once.
use Rattle.std.proofs.Common.{◌≢◌, ℕ, ◌≤◌, List, [], ◌∷◌, All, AllPairs, refl, sym, subst, ◌∙◌}
use Rattle.std.specs.List.{AllByRecursion, AllZip, cons_option}
use Rattle.kanswer.specs.declared.accepted.Accepted.{Accepted}
use Rattle.kanswer.specs.Decisions.{AskLog, Decides, Decision, Refuse}
use Rattle.kanswer.specs.LogReadings.{IsCarriable}
use Rattle.kanswer.specs.Results.{AreResults, IsBounded, part_asked, parts_asked}
use Rattle.kwire.specs.Configuration.{Configuration, partitions_of}
use Rattle.kwire.specs.IsRequest.{IsRequest}
use Rattle.kwire.specs.declared.request.Request.{Request}
use Rattle.kanswer.specs.Deciding.{AskOnce, AsksOther, AsksWithin, IsHonest, IsSound}
use Rattle.kanswer.proofs.Laws.{Differs, all_at, all_bounded, decided_count, decided_within, decides_honest, few_named, none_paired, one_more_part, request_asks_once, result_other, sound, zip_length}
use Rattle.shared_calls.specs.Stand.{IsResultOf}

result_sound : (n : ℕ) (decision : Decision) (result : Accepted) → AsksWithin n decision → IsHonest decision → IsResultOf decision result → IsSound n result
result_sound n (Refuse code) result within honest is = subst (IsSound n) (sym is) tt
result_sound n (AskLog part outcome) result within honest is =
    subst (IsSound n) (sym is.1) (sound part n is.0 (outcome is.0).result (outcome is.0).entry within (honest is.0))

results_sound : (n : ℕ) (decisions : List Decision) (results : List Accepted) → AllByRecursion (AsksWithin n) decisions → AllByRecursion IsHonest decisions → AllZip IsResultOf decisions results → AllByRecursion (IsSound n) results
results_sound n [] [] within honest each = tt
results_sound n [] (r ∷ results) within honest each = absurd each
results_sound n (d ∷ decisions) [] within honest each = absurd each
results_sound n (d ∷ decisions) (r ∷ results) within honest each = (result_sound n d r within.0 honest.0 each.0, results_sound n decisions results within.1 honest.1 each.1)

one_other : (part : ℕ) (decision : Decision) (result : Accepted) (rest : List ℕ) → AsksOther part decision → IsHonest decision → IsResultOf decision result → AllByRecursion (Differs part) rest
    → AllByRecursion (Differs part) (cons_option (part_asked result) rest)
one_other part (Refuse code) result rest other honest is all = subst (λ (r : Accepted). AllByRecursion (Differs part) (cons_option (part_asked r) rest)) (sym is) all
one_other part (AskLog q outcome) result rest other honest is all =
    subst (λ (r : Accepted). AllByRecursion (Differs part) (cons_option (part_asked r) rest)) (sym is.1) (result_other part q is.0 (outcome is.0).result (outcome is.0).entry rest (honest is.0) other all)

results_other : (part : ℕ) (decisions : List Decision) (results : List Accepted) → AllByRecursion (AsksOther part) decisions → AllByRecursion IsHonest decisions → AllZip IsResultOf decisions results
    → AllByRecursion (Differs part) (parts_asked results)
results_other part [] [] others honest each = tt
results_other part [] (r ∷ results) others honest each = absurd each
results_other part (d ∷ decisions) [] others honest each = absurd each
results_other part (d ∷ decisions) (r ∷ results) others honest each = one_other part d r (parts_asked results) others.0 honest.0 each.0 (results_other part decisions results others.1 honest.1 each.1)

results_once : (decisions : List Decision) (results : List Accepted) → AskOnce decisions → AllByRecursion IsHonest decisions → AllZip IsResultOf decisions results → AllPairs (λ a b. a ≢ b) (parts_asked results)
results_once [] [] once honest each = none_paired
results_once [] (r ∷ results) once honest each = absurd each
results_once (d ∷ decisions) [] once honest each = absurd each
results_once (Refuse code ∷ decisions) (r ∷ results) once honest each =
    subst (λ (x : Accepted). AllPairs (λ a b. a ≢ b) (cons_option (part_asked x) (parts_asked results))) (sym each.0) (results_once decisions results once honest.1 each.1)
results_once (AskLog part outcome ∷ decisions) (r ∷ results) once honest each =
    let state = each.0.0 in
    subst (λ (x : Accepted). AllPairs (λ a b. a ≢ b) (cons_option (part_asked x) (parts_asked results))) (sym each.0.1)
    (one_more_part part part state (outcome state).result (outcome state).entry (parts_asked results) (honest.0 state) refl
    (results_other part decisions results once.0 honest.1 each.1) (results_once decisions results once.1 honest.1 each.1))

pub are_results : (config : Configuration) (body : List ℕ) (request : Request) (decisions : List Decision) (results : List Accepted) → IsRequest body request → Decides config request.ask decisions → partitions_of config.topics ≤ 64
    → AllZip IsResultOf decisions results → All IsCarriable results → AreResults request.ask results
are_results config body request decisions results asked decided few each fits =
    let within = decided_within config request.ask decisions decided in
    let honest = decides_honest config request.ask decisions decided in
    record {
      few = few_named request body asked;
      each = zip_length IsResultOf decisions results each ∙ decided_count config request.ask decisions decided;
      bounded = all_at IsBounded results (all_bounded (partitions_of config.topics) results few (results_sound (partitions_of config.topics) decisions results within honest each) fits);
      once = results_once decisions results (request_asks_once config request body decisions asked decided) honest each;
    }
