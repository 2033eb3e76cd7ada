-- A worker may do each line of a trace that is its own.
use Rattle.std.proofs.Common.{◌≡◌, ◌∙◌, ℕ, ◌<◌, ◌≤◌, true, false, List, ◌∷◌, ◌++◌, get_or, length, length-append, take, refl, sym, ap, subst, eqb, arith}
use Rattle.std.proofs.lemmas.List.{get_or_at, take_at}
use Rattle.std.specs.Prelude.{IfSome}
use Rattle.std.proofs.lemmas.Bool.{eq-eqb, eqb-true}
use Rattle.partlog.specs.declared.clock_event.TheConstants.{MOST_MOMENT}
use Rattle.trace_file.specs.Contents.{is_shut, names, sessions_of}
use Rattle.trace_file.specs.declared.line.Line.{Line}
use Rattle.trace_file.specs.declared.line.Line.TheVariants.{Topic, Feed, Shut, Clock, End}
use Rattle.trace_file.specs.Trace.{pieces_of}
use Rattle.trace_workers.specs.Workers.{HasAll, WorkerView}
use Rattle.trace_workers.specs.Own.{MayTake, is_own, named_place}
use Rattle.trace_workers.specs.Playable.{AreTraced}
use Rattle.trace_workers.proofs.Traced.{named_below, open_before, within_limit}

may_by_line : (count : ℕ) (before : List Line) (line : Line) (worker : WorkerView) → HasAll count worker → ((session : ℕ) → names session line ≡ true → session < count)
    → ((session : ℕ) → names session line ≡ true → is_shut session before ≡ false) → ((t : ℕ) → line ≡ Clock t → t ≤ MOST_MOMENT) → is_own worker line ≡ true → MayTake before line worker
may_by_line count before (Topic name partitions followers least) worker all below opened limit own = tt
may_by_line count before (Feed session bytes) worker all below opened limit own =
    let named : eqb session session ≡ true = eq-eqb session session refl in
    (all session (below session named) (eqb-true _ worker.number own), opened session named)
may_by_line count before (Shut session) worker all below opened limit own =
    let named : eqb session session ≡ true = eq-eqb session session refl in
    all session (below session named) (eqb-true _ worker.number own)
may_by_line count before (Clock t) worker all below opened limit own = limit t refl
may_by_line count before End worker all below opened limit own = tt

pub may_take : (lines : List Line) (worker : WorkerView) (i : ℕ) (d : Line) → AreTraced lines → HasAll (sessions_of lines) worker → i < length lines → is_own worker (get_or lines i d) ≡ true → MayTake (take i lines) (get_or lines i d) worker
may_take lines worker i d traced all less own =
    let trace = traced.1 in
    may_by_line (sessions_of lines) (take i lines) (get_or lines i d) worker all
    (λ session named. named_below lines i d session less named)
    (λ session named. open_before lines i d session trace.order.pairs less named)
    (λ t is. within_limit (pieces_of traced.0) lines i d t trace.spelled less is)
    own

-- the same as the lines are taken one after the other
pub may_take_next : (lines front rest : List Line) (line : Line) (worker : WorkerView) → AreTraced lines → HasAll (sessions_of lines) worker → front ++ line ∷ rest ≡ lines → is_own worker line ≡ true → MayTake front line worker
may_take_next lines front rest line worker traced all whole own =
    let i = length front in
    let is : get_or lines i line ≡ line = ap (λ (ls : List Line). get_or ls i line) (sym whole) ∙ get_or_at front line rest line i refl in
    let before : take i lines ≡ front = ap (take i) (sym whole) ∙ take_at front (line ∷ rest) i refl in
    let size = ap length whole in
    let long = length-append front (line ∷ rest) in
    subst (λ (b : List Line). MayTake b line worker) before
    (subst (λ (l : Line). MayTake (take i lines) l worker) is
    (may_take lines worker i line traced all (omega (arith, size, long)) (subst (λ (l : Line). is_own worker l ≡ true) (sym is) own)))

-- the session that such a line names is at its place, and stays there
pub place_there : (before : List Line) (line : Line) (worker new : WorkerView) → MayTake before line worker → length new.sessions ≡ length worker.sessions → IfSome (named_place worker line) (λ (at : ℕ). at < length new.sessions)
place_there before (Topic name partitions followers least) worker new may size = tt
place_there before (Feed session bytes) worker new may size = let there = may.0 in omega (arith, there, size)
place_there before (Shut session) worker new may size = omega (arith, may, size)
place_there before (Clock t) worker new may size = tt
place_there before End worker new may size = tt
