-- The lines of a load as a worker plays them, one request after the other.
use Rattle.std.proofs.Common.{◌≡◌, ◌∙◌, ℕ, ◌+◌, ◌<◌, true, false, List, [], ◌∷◌, ◌++◌, append_assoc, refl, ap, subst}
use Rattle.shared_broker.specs.Passes.{BrokerView}
use Rattle.storm.specs.Generator.{state_after}
use Rattle.storm.specs.Lines.{clock_lines, feed_line, frame_from, front_lines, storm_lines}
use Rattle.storm.specs.Places.{draws_before, session_of}
use Rattle.storm.proofs.Laws.{front_more, lines_behind, storm_split}
use Rattle.trace_file.specs.Contents.{is_shut, sessions_of}
use Rattle.trace_file.specs.declared.line.Line.{Line}
use Rattle.trace_file.specs.declared.line.Line.TheVariants.{Feed}
use Rattle.trace_workers.specs.Own.{IsThere, MayTake, is_own, is_own_session}
use Rattle.trace_workers.specs.Playable.{AreTraced}
use Rattle.trace_workers.specs.Workers.{HasAll, HasDone, WorkerView}
use Rattle.trace_workers.proofs.Taking.{may_take_next}

pub request_own : (worker : WorkerView) (x i : ℕ) → is_own worker (feed_line x i) ≡ is_own_session worker (session_of i)
unfolding feed_line
request_own worker x i = refl

-- the line in which its session sends these bytes
pub sent_line : (x i : ℕ) (bytes : List ℕ) → bytes ≡ frame_from x i → Feed (session_of i) bytes ≡ feed_line x i
unfolding feed_line
sent_line x i bytes is = ap (Feed (session_of i)) is

pub may_send : (before : List Line) (x i : ℕ) (worker : WorkerView) → MayTake before (feed_line x i) worker → IsThere worker (session_of i) × (is_shut (session_of i) before ≡ false)
unfolding feed_line
may_send before x i worker may = may

pub may_take_request : (seed n i x : ℕ) (worker : WorkerView) → AreTraced (storm_lines seed n) → HasAll (sessions_of (storm_lines seed n)) worker → i < n → x ≡ state_after seed (draws_before i)
    → is_own worker (feed_line x i) ≡ true → MayTake (front_lines seed n i) (feed_line x i) worker
may_take_request seed n i x worker traced all less is own =
    let rest = clock_lines n i ++ lines_behind seed n i in
    let whole : front_lines seed n i ++ feed_line x i ∷ rest ≡ storm_lines seed n = ap (λ (y : ℕ). front_lines seed n i ++ feed_line y i ∷ rest) is ∙ storm_split seed n i less in
    may_take_next (storm_lines seed n) (front_lines seed n i) rest (feed_line x i) worker traced all whole own

-- a request's line and that of the clock behind it were played
pub passed_more : (broker : BrokerView) (seed n i x : ℕ) (worker : WorkerView) → x ≡ state_after seed (draws_before i) → HasDone broker ((front_lines seed n i ++ feed_line x i ∷ []) ++ clock_lines n i) worker
    → HasDone broker (front_lines seed n (i + 1)) worker
passed_more broker seed n i x worker is done =
    let front = front_lines seed n i in
    let lines : (front ++ feed_line x i ∷ []) ++ clock_lines n i ≡ front_lines seed n (i + 1) =
    append_assoc front (feed_line x i ∷ []) (clock_lines n i) ∙ ap (λ (y : ℕ). front ++ feed_line y i ∷ clock_lines n i) is ∙ front_more seed n i in
    subst (λ (ls : List Line). HasDone broker ls worker) lines done
