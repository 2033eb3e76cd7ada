-- All sessions and the clock of the workers, in one hand.
use Rattle.std.proofs.Common.{◌≡◌, ◌∙◌, ℕ, suc, ◌+◌, ◌-◌, ◌*◌, ◌/◌, ◌%◌, ◌<◌, ◌≤◌, List, [], ◌∷◌, ◌++◌, append-nil, get_or, length, take, refl, sym, ap, subst, arith, inl, inr, length-append}
use Rattle.std.specs.Prelude.{All, Any, None, Option, Some}
use Rattle.std.specs.List.{flat_map}
use Rattle.std.specs.Option.{option_or}
use Rattle.std.proofs.lemmas.Bool.{cases_lt}
use Rattle.std.proofs.lemmas.List.{get_or_append_left, get_or-append_right, get_or_default, get_or_push, length_push, nil_from_length}
use Rattle.std.proofs.lemmas.List.Concat.{get_or-flat_map, length-flat_map}
use Rattle.std.proofs.lemmas.List.Sums.{sum_by_more_le}
use Rattle.std.proofs.lemmas.Nat.{div-add-mod', mod_below}
use Rattle.shared_broker.specs.Passes.{BrokerView, PassView}
use Rattle.trace_file.specs.declared.line.Line.{Line}
use Rattle.trace_workers.specs.Sessions.{SessionView}
use Rattle.trace_workers.specs.Workers.{HasTaken, HasToldAll, IfClock, WorkerView}
use Rattle.trace_workers.specs.Dealing.{empty_worker, fresh_session}
use Rattle.trace_workers.specs.Dealt.{AreWorked}
use Rattle.trace_workers.specs.Gathered.{IsRunning, first_clock, sessions_in}
use Rattle.trace_workers.specs.Joined.{HasJoined}

-- no worker is left
pub all_workers : (front rest workers : List WorkerView) → length rest ≡ 0 → front ++ rest ≡ workers → front ≡ workers
all_workers front rest workers none whole = sym (append-nil front) ∙ ap (λ (ls : List WorkerView). front ++ ls) (sym (nil_from_length rest none)) ∙ whole

-- ---- one worker more

or_behind : (a b c : Option PassView) → option_or (option_or a b) c ≡ option_or a (option_or b c)
or_behind None b c = refl
or_behind (Some pass) b c = refl

or_none : (a : Option PassView) → option_or a None ≡ a
or_none None = refl
or_none (Some pass) = refl

pub clock_more : (workers : List WorkerView) (worker : WorkerView) → first_clock (workers ++ worker ∷ []) ≡ option_or (first_clock workers) worker.clock
clock_more [] worker = or_none worker.clock
clock_more (l ∷ workers) worker = ap (option_or l.clock) (clock_more workers worker) ∙ sym (or_behind l.clock (first_clock workers) worker.clock)

-- ---- all of them

all_both : (P : SessionView → Type 0) (xs ys : List SessionView) → All P xs → All P ys → All P (xs ++ ys)
all_both P xs ys front back k d less =
    elim (cases_lt k (length xs)) [
      | inl before ↦ subst P (sym (get_or_append_left xs ys d k before)) (front k d before)
      | inr behind ↦ subst P (sym (get_or-append_right xs ys (length xs) k d refl behind)) (back (k - length xs) d (omega (arith, less, behind, length-append xs ys)))
    ]

pub all_sessions : (P : SessionView → Type 0) (workers : List WorkerView) → ((k : ℕ) (d : WorkerView) → k < length workers → All P (get_or workers k d).sessions) → All P (flat_map sessions_in workers)
all_sessions P [] each = λ k d less. absurd (omega (arith, less))
all_sessions P (worker ∷ workers) each =
    all_both P worker.sessions (flat_map sessions_in workers) (each 0 worker (omega arith)) (all_sessions P workers (λ k d less. each (suc k) d (omega (arith, less))))

-- the session at a place of one stands among them
session_there : (workers : List WorkerView) (k at : ℕ) (d : WorkerView) (s : SessionView) → k < length workers → at < length (get_or workers k d).sessions
    → (i : ℕ) × (i < length (flat_map sessions_in workers)) × (get_or (flat_map sessions_in workers) i s ≡ get_or (get_or workers k d).sessions at s)
session_there workers k at d s less there =
    let before = length (flat_map sessions_in (take k workers)) in (
      before + at,
      omega (arith, there, length-flat_map sessions_in (take k workers), length-flat_map sessions_in workers, sum_by_more_le (λ (l : WorkerView). length l.sessions) workers k d less),
      get_or-flat_map sessions_in workers k at d s less there,
    )

any_numbered : (number : ℕ) (workers : List WorkerView) (k at : ℕ) (d : WorkerView) (s : SessionView) → k < length workers → at < length (get_or workers k d).sessions → (get_or (get_or workers k d).sessions at s).number ≡ number
    → Any (λ (x : SessionView). x.number ≡ number) (flat_map sessions_in workers)
any_numbered number workers k at d s less there is =
    let found = session_there workers k at d s less there in
    let all = flat_map sessions_in workers in
    (found.0, get_or all found.0 s, found.1, get_or_default all found.0 (get_or all found.0 s) s found.1, ap (λ (x : SessionView). x.number) found.2 ∙ is)

pub running_more : (workers : List WorkerView) (worker : WorkerView) → All IsRunning workers → IsRunning worker → All IsRunning (workers ++ worker ∷ [])
running_more workers worker all here k d less =
    elim (cases_lt k (length workers)) [
      | inl before ↦ subst IsRunning (sym (get_or_append_left workers (worker ∷ []) d k before)) (all k d before)
      | inr last ↦ subst IsRunning (sym (get_or_push workers worker d k (omega (arith, less, last, length_push workers worker)))) here
    ]

-- the first worker's clock is the first
clock_first : (workers : List WorkerView) (d : WorkerView) (pass : PassView) → 0 < length workers → (get_or workers 0 d).clock ≡ Some pass → first_clock workers ≡ Some pass
clock_first [] d pass some is = absurd (omega (arith, some))
clock_first (worker ∷ workers) d pass some is = ap (λ (c : Option PassView). option_or c (first_clock workers)) is

module _ (broker : BrokerView) (lines : List Line) (count worker_count : ℕ) (workers : List WorkerView) (some : 1 ≤ worker_count) (h : AreWorked broker lines count worker_count workers) where
  -- the first worker has the clock
  pub clock_there : (pass : PassView) × (first_clock workers ≡ Some pass) × ((get_or workers 0 (empty_worker worker_count 0)).clock ≡ Some pass) × (pass.logs.number ≡ count)
  clock_there =
      let d = empty_worker worker_count 0 in
      let c = (h.each 0 d some).clock in
      (c.0, clock_first workers d c.0 (omega (arith, some, h.size)) c.1, c.1, c.2)

  its_session : All IsRunning workers → (number : ℕ) → number < count → Any (λ (x : SessionView). x.number ≡ number) (flat_map sessions_in workers)
  its_session running number less =
      let d = empty_worker worker_count 0 in
      let s = fresh_session broker 0 None in
      let k = number % worker_count in
      let within : k < worker_count = mod_below number worker_count some in
      let there : k < length workers = omega (arith, within, h.size) in
      let worker = get_or workers k d in
      let worked = h.each k d within in
      let at = number / worker.worker_count in
      let own : number % worker.worker_count ≡ worker.number = ap (λ (w : ℕ). number % w) worked.among ∙ sym worked.number in
      let found : at < length worker.sessions = worked.all number less own in
      let place : worker.number + at * worker.worker_count ≡ number = omega (arith, own, div-add-mod' number worker.worker_count) in
      any_numbered number workers k at d s there found ((worked.done (running k d there)).numbered at s found ∙ place)

  pub gathered : (pass : PassView) → All IsRunning workers → first_clock workers ≡ Some pass → HasJoined broker lines count (record { sessions = flat_map sessions_in workers; clock = pass })
  gathered pass running is =
      let d = empty_worker worker_count 0 in
      let first = h.each 0 d some in
      let c = clock_there in
      let same : c.0 ≡ pass = cc in
      let there : 0 < length workers = omega (arith, some, h.size) in
      let told : IfClock (HasToldAll broker lines) (Some c.0) = subst (IfClock (HasToldAll broker lines)) c.2 (first.done (running 0 d there)).clock in
      record {
        sessions = all_sessions (HasTaken broker lines) workers (λ k e less. ((h.each k e (omega (arith, less, h.size))).done (running k e less)).sessions);
        size = length-flat_map sessions_in workers ∙ h.sessions;
        each = its_session running;
        clock = subst (HasToldAll broker lines) same told;
        number = ap (λ (p : PassView). p.logs.number) (sym same) ∙ c.3;
      }
