-- Sessions that are dealt to workers one after the other, and the clock behind them.
use Rattle.std.proofs.Common.{◌≡◌, ◌≢◌, ◌∙◌, ℕ, zero, suc, ◌+◌, ◌*◌, ◌/◌, ◌%◌, ◌<◌, ◌≤◌, List, [], ◌∷◌, ◌++◌, add-one, get_or, length, map, set, refl, sym, ap, subst, arith, inl, inr}
use Rattle.std.specs.Prelude.{All, Bool, MatchBool, None, Option, Some}
use Rattle.std.specs.List.{range_with_len}
use Rattle.std.proofs.lemmas.Bool.{cases_eq, cases_lt, ne_eqb}
use Rattle.std.proofs.lemmas.List.{get_or-set_other, get_or-set_same, get_or_append_left, get_or_push, length_push, length-set}
use Rattle.std.proofs.lemmas.List.Elements.{All-map, All-nil, All-push, All-set}
use Rattle.std.proofs.lemmas.List.FromFn.{get_or-map-range_with_len, length-map-range_with_len, sum_by-map-range_with_len_more}
use Rattle.std.proofs.lemmas.List.Sums.{sum_by-set}
use Rattle.std.proofs.Math.Nat.{mul-le-mul_right}
use Rattle.std.proofs.lemmas.Nat.{div-add-mod', mod-mul-add, mod_below}
use Rattle.shared_broker.specs.Making.{fresh_pass}
use Rattle.shared_broker.specs.Passes.{BrokerView, PassView}
use Rattle.trace_workers.specs.declared.print_part.PrintPart.{PrintPart}
use Rattle.trace_workers.specs.Sessions.{KeepsLines, SessionView}
use Rattle.trace_workers.specs.Workers.{AllKeep, AreNumbered, HasAll, HasTaken, HasToldAll, IfClock, WorkerView}
use Rattle.trace_workers.specs.Dealing.{AreDealing, IsDealing, empty_worker, empty_workers, fresh_session}
use Rattle.trace_workers.specs.Dealt.{AreDealt, HasClockOf, IsDealt, sessions_dealt}
use Rattle.trace_workers.specs.Telling.{IsFresh}
use Rattle.trace_workers.proofs.Telling.{kept_none}

fresh_taken : (broker : BrokerView) (number : ℕ) (kept : Option (List PrintPart)) → IsFresh kept → HasTaken broker [] (fresh_session broker number kept)
fresh_taken broker number kept fresh = record {
  made = refl;
  pass = refl;
  received = record { none = refl; inbox = refl; unshut = refl; ended = refl; going = refl; waits = refl; kept = kept_none kept number (fresh_pass broker number) fresh };
  shut = refl;
  named = refl;
  ticked = refl;
}

fresh_told : (broker : BrokerView) (number : ℕ) → HasToldAll broker [] (fresh_pass broker number)
fresh_told broker number = record { made = refl; ended = refl; going = refl; waits = refl; told = λ alone. refl }

-- ---- at first

none_dealt : (n worker_count : ℕ) → sessions_dealt (map (empty_worker worker_count) (range_with_len 0 n)) ≡ 0
none_dealt zero worker_count = refl
none_dealt (suc n) worker_count =
    ap (λ (m : ℕ). sessions_dealt (map (empty_worker worker_count) (range_with_len 0 m))) (sym (add-one n))
    ∙ sum_by-map-range_with_len_more (λ (worker : WorkerView). length worker.sessions) (empty_worker worker_count) 0 n n (omega arith)
    ∙ omega (arith, none_dealt n worker_count)

empty_dealing : (broker : BrokerView) (worker_count k : ℕ) → k < worker_count → IsDealing broker 0 worker_count k (empty_worker worker_count k)
empty_dealing broker worker_count k less = record {
  number = refl;
  among = refl;
  begun = record { numbered = λ j s lt. absurd (omega (arith, lt)); sessions = λ j s lt. absurd (omega (arith, lt)); clock = tt };
  above = omega arith;
  below = omega (arith, less);
  running = refl;
  clock = refl;
}

pub empty_size : (worker_count : ℕ) → length (empty_workers worker_count) ≡ worker_count
empty_size worker_count = length-map-range_with_len (empty_worker worker_count) 0 worker_count

pub at_first : (broker : BrokerView) (worker_count : ℕ) → AreDealing broker 0 worker_count (empty_workers worker_count)
at_first broker worker_count = record {
  size = empty_size worker_count;
  each = λ k d less. subst (IsDealing broker 0 worker_count k) (sym (get_or-map-range_with_len (empty_worker worker_count) 0 worker_count k k d less (omega arith))) (empty_dealing broker worker_count k less);
  sessions = none_dealt worker_count worker_count;
}

-- no session is there that could keep other lines
pub none_keep : (keeps : Bool) (worker_count : ℕ) → All (AllKeep keeps) (empty_workers worker_count)
none_keep keeps worker_count = All-map (AllKeep keeps) (empty_worker worker_count) (range_with_len 0 worker_count) (λ k d less. All-nil (KeepsLines keeps))

-- ---- one more session

abbrev pub with_more : WorkerView → SessionView → WorkerView
with_more worker s = record worker { sessions = worker.sessions ++ s ∷ [] }

-- its number is the next of this worker's
next_number : (dealt worker_count k size : ℕ) → 1 ≤ worker_count → k ≡ dealt % worker_count → dealt ≤ k + size * worker_count → k + size * worker_count < dealt + worker_count → k + size * worker_count ≡ dealt
next_number dealt worker_count k size some is above below =
    let whole = div-add-mod' dealt worker_count in
    elim (cases_lt size (dealt / worker_count)) [
      | inl less ↦ absurd (omega (arith, mul-le-mul_right {m = size + 1} {n = dealt / worker_count} worker_count (omega (arith, less)), whole, is, above, some))
      | inr le ↦ elim (cases_eq size (dealt / worker_count)) [
        | inl same ↦ omega (arith, ap (λ (n : ℕ). n * worker_count) same, whole, is)
        | inr other ↦ absurd (omega (arith, mul-le-mul_right {m = dealt / worker_count + 1} {n = size} worker_count (omega (arith, le, other)), whole, is, below))
      ]
    ]

numbered_more : (broker : BrokerView) (worker : WorkerView) (number : ℕ) (kept : Option (List PrintPart)) → worker.number + length worker.sessions * worker.worker_count ≡ number → AreNumbered worker → AreNumbered (with_more worker (fresh_session broker number kept))
numbered_more broker worker number kept next numbered k d less =
    let s = fresh_session broker number kept in
    elim (cases_eq k (length worker.sessions)) [
      | inl last ↦
          ap (λ (x : SessionView). x.number) (get_or_push worker.sessions s d k (sym last)) ∙ sym next ∙ ap (λ (n : ℕ). worker.number + n * worker.worker_count) (sym last)
      | inr other ↦
          let before : k < length worker.sessions = omega (arith, less, other, length_push worker.sessions s) in
          ap (λ (x : SessionView). x.number) (get_or_append_left worker.sessions (s ∷ []) d k before) ∙ numbered k d before
    ]

all_more : (P : SessionView → Type 0) (xs : List SessionView) (s : SessionView) → All P xs → P s → All P (xs ++ s ∷ [])
all_more P xs s all here k d less =
    elim (cases_eq k (length xs)) [
      | inl last ↦ subst P (sym (get_or_push xs s d k (sym last))) here
      | inr other ↦
          let before : k < length xs = omega (arith, less, other, length_push xs s) in
          subst P (sym (get_or_append_left xs (s ∷ []) d k before)) (all k d before)
    ]

one_dealt : (broker : BrokerView) (dealt worker_count k : ℕ) (worker : WorkerView) (kept : Option (List PrintPart)) → IsFresh kept → 1 ≤ worker_count → k ≡ dealt % worker_count → IsDealing broker dealt worker_count k worker → IsDealing broker (dealt + 1) worker_count k (with_more worker (fresh_session broker dealt kept))
one_dealt broker dealt worker_count k worker kept fresh some is h =
    let next : k + length worker.sessions * worker_count ≡ dealt = next_number dealt worker_count k (length worker.sessions) some is h.above h.below in
    let own : worker.number + length worker.sessions * worker.worker_count ≡ dealt = ap (λ (n : ℕ). n + length worker.sessions * worker.worker_count) h.number ∙ ap (λ (w : ℕ). k + length worker.sessions * w) h.among ∙ next in
    let size : length (worker.sessions ++ fresh_session broker dealt kept ∷ []) * worker_count ≡ length worker.sessions * worker_count + worker_count = ap (λ (n : ℕ). n * worker_count) (length_push worker.sessions (fresh_session broker dealt kept)) ∙ omega arith in
    record {
      number = h.number;
      among = h.among;
      begun = record {
        numbered = numbered_more broker worker dealt kept own h.begun.numbered;
        sessions = all_more (HasTaken broker []) worker.sessions (fresh_session broker dealt kept) h.begun.sessions (fresh_taken broker dealt kept fresh);
        clock = h.begun.clock;
      };
      above = omega (arith, size, next, some);
      below = omega (arith, size, next, some);
      running = h.running;
      clock = h.clock;
    }

-- and none of another one's
other_dealt : (broker : BrokerView) (dealt worker_count k : ℕ) (worker : WorkerView) → 1 ≤ worker_count → k < worker_count → k ≢ dealt % worker_count → IsDealing broker dealt worker_count k worker → IsDealing broker (dealt + 1) worker_count k worker
other_dealt broker dealt worker_count k worker some less other h =
    let size = length worker.sessions in
    let apart : k + size * worker_count ≢ dealt = λ (e : k + size * worker_count ≡ dealt).
    other (sym (mod-mul-add size worker_count k less) ∙ ap (λ (n : ℕ). n % worker_count) (omega (arith, e))) in
    record {
      number = h.number;
      among = h.among;
      begun = h.begun;
      above = omega (arith, apart, h.above);
      below = omega (arith, h.below);
      running = h.running;
      clock = h.clock;
    }

pub session_dealt : (broker : BrokerView) (dealt worker_count at : ℕ) (workers : List WorkerView) (worker d : WorkerView) (kept : Option (List PrintPart)) → IsFresh kept → 1 ≤ worker_count → at ≡ dealt % worker_count → worker ≡ with_more (get_or workers at d) (fresh_session broker dealt kept)
    → AreDealing broker dealt worker_count workers → AreDealing broker (dealt + 1) worker_count (set workers at worker)
session_dealt broker dealt worker_count at workers worker d kept fresh some is worker_is h =
    let within : at < worker_count = omega (arith, is, mod_below dealt worker_count some) in
    let there : at < length workers = omega (arith, within, h.size) in
    let more : length worker.sessions ≡ length (get_or workers at d).sessions + 1 = ap (λ (l : WorkerView). length l.sessions) worker_is ∙ length_push (get_or workers at d).sessions (fresh_session broker dealt kept) in
    record {
      size = length-set workers at worker ∙ h.size;
      each = λ k e less. elim (cases_eq k at) [
        | inl here ↦
            subst (λ (i : ℕ). IsDealing broker (dealt + 1) worker_count i (get_or (set workers at worker) i e)) (sym here)
            (subst (IsDealing broker (dealt + 1) worker_count at) (sym (get_or-set_same workers at worker e there ∙ worker_is)) (one_dealt broker dealt worker_count at (get_or workers at d) kept fresh some is (h.each at d within)))
        | inr other ↦
            subst (IsDealing broker (dealt + 1) worker_count k) (sym (get_or-set_other workers at k worker e other))
            (other_dealt broker dealt worker_count k (get_or workers k e) some less (λ own. other (own ∙ sym is)) (h.each k e less))
      ];
      sessions = omega (arith, sum_by-set (λ (l : WorkerView). length l.sessions) workers at worker d there, more, h.sessions);
    }

-- it keeps lines as the others do
pub session_keeps : (keeps : Bool) (workers : List WorkerView) (at : ℕ) (worker d : WorkerView) (s : SessionView) → at < length workers → worker ≡ with_more (get_or workers at d) s → KeepsLines keeps s
    → All (AllKeep keeps) workers → All (AllKeep keeps) (set workers at worker)
session_keeps keeps workers at worker d s there is here all =
    All-set (AllKeep keeps) workers at worker (subst (AllKeep keeps) (sym is) (All-push (KeepsLines keeps) (get_or workers at d).sessions s (all at d there) here)) all

-- ---- the clock

has_all : (broker : BrokerView) (count worker_count k : ℕ) (worker : WorkerView) → IsDealing broker count worker_count k worker → HasAll count worker
has_all broker count worker_count k worker h session less own =
    let at = session / worker.worker_count in
    let whole = div-add-mod' session worker.worker_count in
    let size = length worker.sessions in
    elim (cases_lt at size) [
      | inl there ↦ there
      | inr le ↦
          let above : count ≤ k + size * worker.worker_count = subst (λ (w : ℕ). count ≤ k + size * w) (sym h.among) h.above in
          absurd (omega (arith, mul-le-mul_right worker.worker_count le, whole, own, h.number, above, less))
    ]

dealt_with : (broker : BrokerView) (count worker_count k : ℕ) (worker : WorkerView) (clock : Option PassView) → IfClock (HasToldAll broker []) clock → HasClockOf count k clock → IsDealing broker count worker_count k worker
    → IsDealt broker count worker_count k (record worker { clock = clock })
dealt_with broker count worker_count k worker clock told is h = record {
  number = h.number;
  among = h.among;
  begun = record { numbered = h.begun.numbered; sessions = h.begun.sessions; clock = told };
  all = has_all broker count worker_count k worker h;
  running = h.running;
  clock = is;
}

abbrev pub with_clock : WorkerView → PassView → WorkerView
with_clock worker pass = record worker { clock = Some pass }

first_dealt : (broker : BrokerView) (count worker_count : ℕ) (worker : WorkerView) → IsDealing broker count worker_count 0 worker → IsDealt broker count worker_count 0 (with_clock worker (fresh_pass broker count))
first_dealt broker count worker_count worker h =
    let pass = fresh_pass broker count in
    dealt_with broker count worker_count 0 worker (Some pass) (fresh_told broker count) (pass, refl, refl) h

later_dealt : (broker : BrokerView) (count worker_count k : ℕ) (worker : WorkerView) → k ≢ 0 → IsDealing broker count worker_count k worker → IsDealt broker count worker_count k worker
later_dealt broker count worker_count k worker later h =
    dealt_with broker count worker_count k worker worker.clock h.begun.clock
    (subst (λ (b : Bool). MatchBool b ((pass : PassView) × (worker.clock ≡ Some pass) × (pass.logs.number ≡ count)) (worker.clock ≡ None)) (sym (ne_eqb k 0 later)) h.clock)
    h

pub clock_dealt : (broker : BrokerView) (count worker_count : ℕ) (workers : List WorkerView) (worker d : WorkerView) → 1 ≤ worker_count → worker ≡ with_clock (get_or workers 0 d) (fresh_pass broker count) → AreDealing broker count worker_count workers
    → AreDealt broker count worker_count (set workers 0 worker)
clock_dealt broker count worker_count workers worker d some is h =
    let there : 0 < length workers = omega (arith, some, h.size) in
    let same : length worker.sessions ≡ length (get_or workers 0 d).sessions = ap (λ (l : WorkerView). length l.sessions) is in
    record {
      size = length-set workers 0 worker ∙ h.size;
      each = λ k e less. elim (cases_eq k 0) [
        | inl here ↦
            subst (λ (i : ℕ). IsDealt broker count worker_count i (get_or (set workers 0 worker) i e)) (sym here)
            (subst (IsDealt broker count worker_count 0) (sym (get_or-set_same workers 0 worker e there ∙ is)) (first_dealt broker count worker_count (get_or workers 0 d) (h.each 0 d (omega (arith, some)))))
        | inr later ↦
            subst (IsDealt broker count worker_count k) (sym (get_or-set_other workers 0 k worker e later)) (later_dealt broker count worker_count k (get_or workers k e) later (h.each k e less))
      ];
      sessions = omega (arith, sum_by-set (λ (l : WorkerView). length l.sessions) workers 0 worker d there, same, h.sessions);
    }

pub clock_keeps : (keeps : Bool) (workers : List WorkerView) (worker d : WorkerView) (pass : PassView) → 0 < length workers → worker ≡ with_clock (get_or workers 0 d) pass → All (AllKeep keeps) workers
    → All (AllKeep keeps) (set workers 0 worker)
clock_keeps keeps workers worker d pass there is all = All-set (AllKeep keeps) workers 0 worker (subst (AllKeep keeps) (sym is) (all 0 d there)) all

-- ---- the same workers, as many as they are
pub as_many : (broker : BrokerView) (dealt worker_count : ℕ) (workers others : List WorkerView) → workers ≡ others → AreDealing broker dealt worker_count workers → AreDealing broker dealt (length others) others
as_many broker dealt worker_count workers others same h =
    subst (λ (ls : List WorkerView). AreDealing broker dealt (length ls) ls) same (subst (λ (w : ℕ). AreDealing broker dealt w workers) (sym h.size) h)
