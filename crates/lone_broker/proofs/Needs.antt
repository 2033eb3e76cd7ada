-- What a request that waits needs of the logs: its gauges are those of its partitions, and their values are those that the logs show.
use Rattle.std.proofs.Common.{◌≡◌, ℕ, ◌+◌, ◌*◌, ◌/◌, ◌<◌, ℤ, Bool, true, false, cond, List, [], ◌∷◌, map, Option, Some, None, refl, sym, ap, subst, ◌∙◌, arith}
use Rattle.std.specs.List.{AllByRecursion, cons_option, filter_map, zip}
use Rattle.partlog.specs.State.{state_of}
use Rattle.opcond.specs.Operation.{Operation}
use Rattle.opcond.specs.declared.need.Need.{Need}
use Rattle.kwire.specs.declared.request.Ask.{Ask}
use Rattle.kwire.specs.declared.request.Ask.TheVariants.{Produce, Fetch, Metadata, Versions}
use Rattle.kwire.specs.declared.request.FetchPart.{FetchPart}
use Rattle.kanswer.specs.declared.accepted.Accepted.{Accepted}
use Rattle.kanswer.specs.declared.accepted.Accepted.TheVariants.{Refused, Appended, Seen}
use Rattle.kanswer.specs.ByPart.{AreByPart}
use Rattle.kanswer.specs.Decisions.{fetch_parts}
use Rattle.kanswer.specs.Waiting.{fetch_need, is_consumer, needs_of, produce_need, results_of, values_of}
use Rattle.kanswer.proofs.Laws.{values_by_part}
use Rattle.audit.specs.LawfulCall.{Step, part_in}
use Rattle.audit.specs.broker.Board.{Board, Waiting, history_at}
use Rattle.audit.specs.broker.Completing.{present, shown_now}
use Rattle.lone_broker.specs.Kept.{IsKeptOf}
use Rattle.audit.specs.broker.Board.{gauge_now}
use Rattle.lone_broker.specs.Looks.{HasGauge}
use Rattle.lone_broker.specs.Replying.{HasLog, ShowsLogs}
use Rattle.lone_broker.specs.declared.parked.Parked.{Parked}

-- ---- the gauges are there

FewGauges : ℕ → Option Need → Type 0
FewGauges n None = Unit {0}
FewGauges n (Some need) = HasGauge n need

by_kind : (n part k : ℕ) → part < n → k < 3 → (3 * part + k) / 3 < n
by_kind n part k lt few = omega (arith, lt, few)

kind_few : (b : Bool) → cond b 1 2 < 3
kind_few true = omega arith
kind_few false = omega arith

produce_gauge : (n : ℕ) (result : Accepted) → HasLog n result → FewGauges n (produce_need result)
unfolding FewGauges
produce_gauge n (Refused code) has = tt
produce_gauge n (Appended part base count) has = omega (arith, has)
produce_gauge n (Seen part start) has = tt

fetch_gauge : (n : ℕ) (replica : ℤ) (asked : FetchPart) (result : Accepted) → HasLog n result → FewGauges n (fetch_need replica (asked, result))
unfolding FewGauges
fetch_gauge n replica asked (Refused code) has = tt
fetch_gauge n replica asked (Appended part base count) has = tt
fetch_gauge n replica asked (Seen part start) has = by_kind n part (cond (is_consumer replica) 1 2) has (kind_few (is_consumer replica))

one_more : (n : ℕ) (o : Option Need) (needs : List Need) → FewGauges n o → AllByRecursion (HasGauge n) needs → AllByRecursion (HasGauge n) (cons_option o needs)
unfolding FewGauges
one_more n None needs few all = all
one_more n (Some need) needs few all = (few, all)

produce_gauges : (n : ℕ) (results : List Accepted) → AllByRecursion (HasLog n) results → AllByRecursion (HasGauge n) (filter_map (λ need. need) (map produce_need results))
produce_gauges n [] has = tt
produce_gauges n (r ∷ results) has = one_more n (produce_need r) (filter_map (λ need. need) (map produce_need results)) (produce_gauge n r has.0) (produce_gauges n results has.1)

fetch_gauges : (n : ℕ) (replica : ℤ) (asked : List FetchPart) (results : List Accepted) → AllByRecursion (HasLog n) results → AllByRecursion (HasGauge n) (filter_map (λ need. need) (map (fetch_need replica) (zip asked results)))
fetch_gauges n replica [] results has = tt
fetch_gauges n replica (a ∷ asked) [] has = tt
fetch_gauges n replica (a ∷ asked) (r ∷ results) has =
    one_more n (fetch_need replica (a, r)) (filter_map (λ need. need) (map (fetch_need replica) (zip asked results))) (fetch_gauge n replica a r has.0) (fetch_gauges n replica asked results has.1)

pub have_gauges : (n : ℕ) (ask : Ask) (results : List Accepted) → AllByRecursion (HasLog n) results → AllByRecursion (HasGauge n) (needs_of ask results)
have_gauges n (Produce version transactional acks timeout topics) results has = produce_gauges n results has
have_gauges n (Fetch version replica max_wait min_bytes max_bytes isolation topics) results has = fetch_gauges n replica (map (λ named. named.1) (fetch_parts topics)) results has
have_gauges n (Metadata topics) results has = tt
have_gauges n (Versions version) results has = tt

-- ---- what the logs show

shown_part : (board : Board) (step : Step) → (result : Accepted) → step.result ≡ result → AreByPart (λ part. state_of (history_at board.parts part)) (record { result = result; state = present board.parts (part_in result) } ∷ [])
shown_part board step (Refused code) is = (tt, tt)
shown_part board step (Appended part base count) is = (refl, tt)
shown_part board step (Seen part start) is = (refl, tt)

pub now_by_part : (board : Board) (steps : List Step) → AreByPart (λ part. state_of (history_at board.parts part)) (shown_now board steps)
now_by_part board [] = tt
now_by_part board (step ∷ steps) = ((shown_part board step step.result refl).0, now_by_part board steps)

pub now_results : (board : Board) (steps : List Step) → results_of (shown_now board steps) ≡ map (λ (step : Step). step.result) steps
now_results board [] = refl
now_results board (step ∷ steps) = ap (λ (rs : List Accepted). step.result ∷ rs) (now_results board steps)

pub now_shows : (board : Board) (steps : List Step) (accepted : List Accepted) → map (λ (step : Step). step.result) steps ≡ accepted → ShowsLogs board.parts accepted (shown_now board steps)
now_shows board steps accepted is = record { results = now_results board steps ∙ is; states = now_by_part board steps }

-- the values of the needs' gauges
pub now_values : (board : Board) (parts : ℕ) (frame : List ℕ) (parked : Parked) (w : Waiting) → IsKeptOf parts frame parked w
    → values_of w.request.ask (shown_now board w.steps) ≡ map (gauge_now board.parts) parked.op.needs
now_values board parts frame parked w kept =
    values_by_part (λ part. state_of (history_at board.parts part)) w.request.ask (shown_now board w.steps) (now_by_part board w.steps)
    ∙ ap (map (gauge_now board.parts)) (ap (needs_of w.request.ask) (now_results board w.steps ∙ kept.results) ∙ sym (ap (λ (op : Operation). op.needs) kept.made))

pub kept_gauges : (parts n : ℕ) (frame : List ℕ) (parked : Parked) (w : Waiting) → IsKeptOf parts frame parked w → parts ≡ n → AllByRecursion (HasGauge n) parked.op.needs
kept_gauges parts n frame parked w kept same =
    subst (λ (k : ℕ). AllByRecursion (HasGauge k) parked.op.needs) same
    (subst (λ (op : Operation). AllByRecursion (HasGauge parts) op.needs) (sym kept.made) (have_gauges parts w.request.ask parked.accepted kept.there))
