-- What became of the partitions of a request stands for logs that are there, each its own, and for offsets that they have.
use Rattle.std.proofs.Common.{◌≡◌, ◌≢◌, ℕ, suc, ◌≤◌, List, [], ◌∷◌, length, set, Option, unwrap_or, All, AllPairs, refl, sym, ap, ◌∙◌, arith}
use Rattle.std.proofs.lemmas.List.{length-set}
use Rattle.std.specs.List.{AllByRecursion}
use Rattle.partlog.specs.History.{History}
use Rattle.partlog.specs.State.{PartState, state_of}
use Rattle.kanswer.specs.declared.accepted.Accepted.{Accepted}
use Rattle.kanswer.specs.declared.accepted.Accepted.TheVariants.{Refused, Appended, Seen}
use Rattle.kwire.specs.declared.request.Request.{Request}
use Rattle.kwire.specs.Configuration.{Configuration, partitions_of}
use Rattle.kwire.specs.IsRequest.{IsRequest}
use Rattle.kanswer.specs.Decisions.{Entry, Decision, Refuse, AskLog, Decides}
use Rattle.kanswer.specs.LogReadings.{IsCarriable}
use Rattle.kanswer.specs.Results.{AreResults, IsBounded, parts_asked}
use Rattle.kanswer.specs.Waiting.{results_of}
use Rattle.audit.specs.broker.Board.{history_at, empty_history}
use Rattle.kanswer.specs.WithEntry.{entered}
use Rattle.audit.specs.broker.Entering.{accept_all, shown_of}
use Rattle.lone_broker.specs.Replying.{HasLog, ShowsLog, ShowsLogs}
use Rattle.kanswer.specs.Deciding.{AskOnce, AsksOther, AsksWithin, IsHonest, IsHonestAs, IsSound}
use Rattle.kanswer.proofs.Laws.{decided_within, request_asks_once, sound, decides_honest, Differs, result_other, all_at, one_more_part, none_paired, decided_count, all_bounded, few_named}
use Rattle.kbytes.proofs.Laws.{get_set_same, get_set_other}

pub all_sound : (by seq t n : ℕ) (decisions : List Decision) (parts : List History) → AllByRecursion (AsksWithin n) decisions → AllByRecursion IsHonest decisions
    → AllByRecursion (IsSound n) (results_of (shown_of (accept_all by seq t decisions parts).0))
all_sound by seq t n [] parts within honest = tt
all_sound by seq t n (Refuse code ∷ decisions) parts within honest = (tt, all_sound by seq t n decisions parts within.1 honest.1)
all_sound by seq t n (AskLog part outcome ∷ decisions) parts within honest =
    let found = history_at parts part in
    let came = outcome (state_of found) in (
      sound part n (state_of found) came.result came.entry within.0 (honest.0 (state_of found)),
      all_sound by seq t n decisions (set parts part (entered found by seq t came.entry)) within.1 honest.1,
    )

-- ---- each is shown as its log is afterwards

pub accepted_size : (by seq t : ℕ) (decisions : List Decision) (parts : List History) → length (accept_all by seq t decisions parts).1 ≡ length parts
accepted_size by seq t [] parts = refl
accepted_size by seq t (Refuse code ∷ decisions) parts = accepted_size by seq t decisions parts
accepted_size by seq t (AskLog part outcome ∷ decisions) parts =
    let left = entered (history_at parts part) by seq t (outcome (state_of (history_at parts part))).entry in
    accepted_size by seq t decisions (set parts part left) ∙ length-set parts part left

untouched : (by seq t part : ℕ) (decisions : List Decision) (parts : List History) → AllByRecursion (AsksOther part) decisions
    → history_at (accept_all by seq t decisions parts).1 part ≡ history_at parts part
untouched by seq t part [] parts others = refl
untouched by seq t part (Refuse code ∷ decisions) parts others = untouched by seq t part decisions parts others.1
untouched by seq t part (AskLog other outcome ∷ decisions) parts others =
    let left = entered (history_at parts other) by seq t (outcome (state_of (history_at parts other))).entry in
    untouched by seq t part decisions (set parts other left) others.1
    ∙ ap (λ (o : Option History). unwrap_or o (empty_history 0)) (get_set_other parts other part left (λ e. others.0 (sym e)))

shows_own : (parts : List History) (part : ℕ) (found : PartState) (left : History) (result : Accepted) (entry : Entry) → IsHonestAs part found result entry → history_at parts part ≡ left
    → ShowsLog parts (record { result = result; state = state_of left })
shows_own parts part found left (Refused code) entry honest is = tt
shows_own parts part found left (Appended q base count) entry honest is = ap state_of (sym is) ∙ ap (λ (p : ℕ). state_of (history_at parts p)) (sym honest.0)
shows_own parts part found left (Seen q start) entry honest is = ap state_of (sym is) ∙ ap (λ (p : ℕ). state_of (history_at parts p)) (sym honest)

pub all_shown : (by seq t n : ℕ) (decisions : List Decision) (parts : List History) → length parts ≡ n → AllByRecursion (AsksWithin n) decisions → AllByRecursion IsHonest decisions → AskOnce decisions
    → AllByRecursion (ShowsLog (accept_all by seq t decisions parts).1) (shown_of (accept_all by seq t decisions parts).0)
all_shown by seq t n [] parts size within honest once = tt
all_shown by seq t n (Refuse code ∷ decisions) parts size within honest once = (tt, all_shown by seq t n decisions parts size within.1 honest.1 once)
all_shown by seq t n (AskLog part outcome ∷ decisions) parts size within honest once =
    let found = history_at parts part in
    let came = outcome (state_of found) in
    let left = entered found by seq t came.entry in
    let next = set parts part left in
    let here : history_at next part ≡ left = ap (λ (o : Option History). unwrap_or o (empty_history 0)) (get_set_same parts part left (omega (arith, size, within.0))) in (
      shows_own (accept_all by seq t decisions next).1 part (state_of found) left came.result came.entry (honest.0 (state_of found)) (untouched by seq t part decisions next once.0 ∙ here),
      all_shown by seq t n decisions next (length-set parts part left ∙ size) within.1 honest.1 once.1,
    )

-- ---- the partitions whose logs were asked

others_asked : (by seq t part : ℕ) (decisions : List Decision) (parts : List History) → AllByRecursion (AsksOther part) decisions → AllByRecursion IsHonest decisions
    → AllByRecursion (Differs part) (parts_asked (results_of (shown_of (accept_all by seq t decisions parts).0)))
others_asked by seq t part [] parts others honest = tt
others_asked by seq t part (Refuse code ∷ decisions) parts others honest = others_asked by seq t part decisions parts others.1 honest.1
others_asked by seq t part (AskLog other outcome ∷ decisions) parts others honest =
    let found = history_at parts other in
    let came = outcome (state_of found) in
    let next = set parts other (entered found by seq t came.entry) in
    result_other part other (state_of found) came.result came.entry (parts_asked (results_of (shown_of (accept_all by seq t decisions next).0)))
    (honest.0 (state_of found)) others.0 (others_asked by seq t part decisions next others.1 honest.1)

asked_once : (by seq t : ℕ) (decisions : List Decision) (parts : List History) → AskOnce decisions → AllByRecursion IsHonest decisions
    → AllPairs (λ a b. a ≢ b) (parts_asked (results_of (shown_of (accept_all by seq t decisions parts).0)))
asked_once by seq t [] parts once honest = none_paired
asked_once by seq t (Refuse code ∷ decisions) parts once honest = asked_once by seq t decisions parts once honest.1
asked_once by seq t (AskLog part outcome ∷ decisions) parts once honest =
    let found = history_at parts part in
    let came = outcome (state_of found) in
    let next = set parts part (entered found by seq t came.entry) in
    one_more_part part part (state_of found) came.result came.entry (parts_asked (results_of (shown_of (accept_all by seq t decisions next).0)))
    (honest.0 (state_of found)) refl (others_asked by seq t part decisions next once.0 honest.1) (asked_once by seq t decisions next once.1 honest.1)

-- ---- as many results as decisions, each of a log that is there

pub results_count : (by seq t : ℕ) (decisions : List Decision) (parts : List History) → length (results_of (shown_of (accept_all by seq t decisions parts).0)) ≡ length decisions
results_count by seq t [] parts = refl
results_count by seq t (Refuse code ∷ decisions) parts = ap suc (results_count by seq t decisions parts)
results_count by seq t (AskLog part outcome ∷ decisions) parts =
    ap suc (results_count by seq t decisions (set parts part (entered (history_at parts part) by seq t (outcome (state_of (history_at parts part))).entry)))

sound_log : (n : ℕ) (result : Accepted) → IsSound n result → HasLog n result
sound_log n (Refused code) is = tt
sound_log n (Appended part base count) is = is.0
sound_log n (Seen part start) is = is

all_logs : (n : ℕ) (results : List Accepted) → AllByRecursion (IsSound n) results → AllByRecursion (HasLog n) results
all_logs n [] is = tt
all_logs n (r ∷ results) is = (sound_log n r is.0, all_logs n results is.1)

-- What became of the partitions of a request, as it was accepted by the call of this number of a session.
module _ (config : Configuration) (request : Request) (body : List ℕ) (by seq t : ℕ) (decisions : List Decision) (parts : List History) (asked : IsRequest body request) (decided : Decides config request.ask decisions) (size : length parts ≡ partitions_of config.topics) where
  abbrev results : List Accepted
  results = results_of (shown_of (accept_all by seq t decisions parts).0)

  all_are_sound : AllByRecursion (IsSound (partitions_of config.topics)) results
  all_are_sound = all_sound by seq t (partitions_of config.topics) decisions parts (decided_within config request.ask decisions decided) (decides_honest config request.ask decisions decided)

  pub results_logs : AllByRecursion (HasLog (partitions_of config.topics)) results
  results_logs = all_logs (partitions_of config.topics) results all_are_sound

  pub are_results : partitions_of config.topics ≤ 64 → All IsCarriable results → AreResults request.ask results
  are_results few fits = record {
    few = few_named request body asked;
    each = results_count by seq t decisions parts ∙ decided_count config request.ask decisions decided;
    bounded = all_at IsBounded results (all_bounded (partitions_of config.topics) results few all_are_sound fits);
    once = asked_once by seq t decisions parts (request_asks_once config request body decisions asked decided) (decides_honest config request.ask decisions decided);
  }

  pub shows_logs : ShowsLogs (accept_all by seq t decisions parts).1 results (shown_of (accept_all by seq t decisions parts).0)
  shows_logs = record {
    results = refl;
    states = all_shown by seq t (partitions_of config.topics) decisions parts size (decided_within config request.ask decisions decided) (decides_honest config request.ask decisions decided) (request_asks_once config request body decisions asked decided);
  }

  pub as_many : length (accept_all by seq t decisions parts).1 ≡ partitions_of config.topics
  as_many = accepted_size by seq t decisions parts ∙ size
