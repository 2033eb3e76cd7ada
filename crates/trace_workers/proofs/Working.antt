-- Workers that have worked are those to whom the sessions were dealt.
use Rattle.std.proofs.Common.{◌≡◌, ◌∙◌, ℕ, ◌/◌, ◌%◌, ◌<◌, Bool, true, false, eqb, List, [], ◌∷◌, ◌++◌, drop, get_or, length, take, suc, refl, sym, ap, subst, arith}
use Rattle.std.specs.Prelude.{All, MatchBool, None, Option, Some, is_some, map, sum_by}
use Rattle.std.proofs.lemmas.List.{get_or-map, length-map, take_at}
use Rattle.std.proofs.lemmas.List.Sums.{sum_by-cons}
use Rattle.shared_broker.specs.Passes.{BrokerView, PassView}
use Rattle.trace_file.specs.declared.line.Line.{Line}
use Rattle.trace_workers.specs.Sessions.{KeepsLines, SessionView}
use Rattle.trace_workers.specs.Workers.{AllKeep, HasAll, HasDone, IsSameClock, IsSameWorker, WorkerView}
use Rattle.trace_workers.specs.Dealt.{AreDealt, AreWorked, IsDealt, IsWorked}

as_many_sessions : (old new : WorkerView) → IsSameWorker old new → length new.sessions ≡ length old.sessions
as_many_sessions old new same =
    sym (length-map new.sessions (λ (s : SessionView). s.number)) ∙ ap length same.sessions ∙ length-map old.sessions (λ (s : SessionView). s.number)

has_all_still : (count : ℕ) (old new : WorkerView) → IsSameWorker old new → HasAll count old → HasAll count new
has_all_still count old new same all session less own =
    let own_before : session % old.worker_count ≡ old.number = ap (λ (w : ℕ). session % w) (sym same.worker_count) ∙ own ∙ same.number in
    let place : session / new.worker_count ≡ session / old.worker_count = ap (λ (w : ℕ). session / w) same.worker_count in
    omega (arith, all session less own_before, place, as_many_sessions old new same)

ClockOf : ℕ → Bool → Option PassView → Type 0
ClockOf number has clock = MatchBool has ((pass : PassView) × (clock ≡ Some pass) × (pass.logs.number ≡ number)) (clock ≡ None)

clock_still : (number : ℕ) (has : Bool) (old new : Option PassView) → IsSameClock old new → ClockOf number has old → ClockOf number has new
unfolding ClockOf
clock_still number true None new same h = absurd cc
clock_still number false None new same h = same
clock_still number true (Some pass) new same h = let is : h.0 ≡ pass = cc in (same.0, same.1, same.2 ∙ ap (λ (p : PassView). p.logs.number) (sym is) ∙ h.2)
clock_still number false (Some pass) new same h = absurd cc

worked_worker : (broker : BrokerView) (lines : List Line) (count worker_count k : ℕ) (old new : WorkerView) → IsSameWorker old new → (new.is_stopped ≡ false → HasDone broker lines new) → IsDealt broker count worker_count k old
    → IsWorked broker lines count worker_count k new
unfolding ClockOf
worked_worker broker lines count worker_count k old new same done h = record {
  number = same.number ∙ h.number;
  among = same.worker_count ∙ h.among;
  done = done;
  all = has_all_still count old new same h.all;
  clock = clock_still count (eqb k 0) old.clock new.clock same.clock h.clock;
}

-- as much in all where there is as much at each place
same_sum : {A : Type 0} (f : A → ℕ) (xs ys : List A) → length ys ≡ length xs → ((k : ℕ) (d : A) → k < length xs → f (get_or ys k d) ≡ f (get_or xs k d)) → sum_by f ys ≡ sum_by f xs
same_sum f [] [] size each = refl
same_sum f [] (y ∷ ys) size each = absurd (omega (arith, size))
same_sum f (x ∷ xs) [] size each = absurd (omega (arith, size))
same_sum f (x ∷ xs) (y ∷ ys) size each =
    let rest = same_sum f xs ys (omega (arith, size)) (λ k d less. each (suc k) d (omega (arith, less))) in
    omega (arith, sum_by-cons f x xs, sum_by-cons f y ys, rest, each 0 x (omega arith))

-- what a worker's part did of the lines
pub record IsPlayed (broker : BrokerView) (lines : List Line) (old new : WorkerView) : Type 0 where
  pub same : IsSameWorker old new
  pub done : new.is_stopped ≡ false → HasDone broker lines new

pub played : (broker : BrokerView) (lines : List Line) (old new was now : WorkerView) → was ≡ old → now ≡ new → IsSameWorker was now → (now.is_stopped ≡ false → HasDone broker lines now) → IsPlayed broker lines old new
played broker lines old new was now old_is new_is same done =
    subst (λ (o : WorkerView). IsPlayed broker lines o new) old_is (subst (IsPlayed broker lines was) new_is (record { same = same; done = done }))

pub all_worked : (broker : BrokerView) (lines : List Line) (count worker_count : ℕ) (olds news : List WorkerView) → length news ≡ length olds
    → ((k : ℕ) (d : WorkerView) → k < length olds → IsPlayed broker lines (get_or olds k d) (get_or news k d)) → AreDealt broker count worker_count olds → AreWorked broker lines count worker_count news
all_worked broker lines count worker_count olds news size each h = record {
  size = size ∙ h.size;
  each = λ k d less.
      let p = each k d (omega (arith, less, h.size)) in
      worked_worker broker lines count worker_count k (get_or olds k d) (get_or news k d) p.same p.done (h.each k d less);
  sessions = same_sum (λ (l : WorkerView). length l.sessions) olds news size (λ k d less. as_many_sessions (get_or olds k d) (get_or news k d) (each k d less).same) ∙ h.sessions;
}

-- sessions that keep lines where others do
keep_still : (keeps : Bool) (olds news : List SessionView) → map (λ (s : SessionView). is_some s.kept) news ≡ map (λ (s : SessionView). is_some s.kept) olds → All (KeepsLines keeps) olds → All (KeepsLines keeps) news
keep_still keeps olds news same all k d less =
    let f : SessionView → Bool = λ s. is_some s.kept in
    let size : length news ≡ length olds = sym (length-map news f) ∙ ap length same ∙ length-map olds f in
    let within : k < length olds = omega (arith, less, size) in
    sym (get_or-map f news k d (f d) less) ∙ ap (λ (bs : List Bool). get_or bs k (f d)) same ∙ get_or-map f olds k d (f d) within ∙ all k d within

-- and so does a worker
pub worker_keeps : (keeps : Bool) (old new : WorkerView) → IsSameWorker old new → AllKeep keeps old → AllKeep keeps new
worker_keeps keeps old new same all = keep_still keeps old.sessions new.sessions same.kept all

pub all_keep : (broker : BrokerView) (lines : List Line) (keeps : Bool) (olds news : List WorkerView) → length news ≡ length olds
    → ((k : ℕ) (d : WorkerView) → k < length olds → IsPlayed broker lines (get_or olds k d) (get_or news k d)) → All (AllKeep keeps) olds → All (AllKeep keeps) news
all_keep broker lines keeps olds news size each all k d less =
    let within : k < length olds = omega (arith, less, size) in
    keep_still keeps (get_or olds k d).sessions (get_or news k d).sessions (each k d within).same.kept (all k d within)

-- ---- as the workers are lent out and come back

pub written : {A : Type 0} (old new : List A) → length new ≡ length old → take (length old) (new ++ drop (length new) old) ≡ new
written old new size = take_at new (drop (length new) old) (length old) size

pub worked_again : (broker : BrokerView) (lines : List Line) (count worker_count : ℕ) (workers lent new : List WorkerView) → length workers ≡ worker_count → lent ≡ workers → length new ≡ length lent
    → AreWorked broker lines count (length lent) new → AreWorked broker lines count worker_count (take (length workers) (new ++ drop (length new) workers))
worked_again broker lines count worker_count workers lent new many is size h =
    subst (AreWorked broker lines count worker_count) (sym (written workers new (size ∙ ap length is)))
    (subst (λ (w : ℕ). AreWorked broker lines count w new) (ap length is ∙ many) h)
