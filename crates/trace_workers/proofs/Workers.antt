-- A worker as one of its sessions goes on, as a line comes, and as nothing comes.
use Rattle.std.proofs.Common.{◌≡◌, ◌≢◌, ◌∙◌, ℕ, zero, suc, ◌+◌, ◌*◌, ◌/◌, ◌%◌, ◌<◌, true, false, eqb, List, [], ◌∷◌, ◌++◌, Result, Ok, Err, drop, get_or, length, map, set, take, refl, sym, ap, subst, arith, inl, inr}
use Rattle.std.specs.Prelude.{All, IfOk, None, Option, Some, is_some}
use Rattle.std.proofs.lemmas.Bool.{cases_eq, eq-eqb, eqb-true, false≢true, ne_eqb}
use Rattle.std.proofs.lemmas.List.{get_or-set_other, get_or-set_same, length-map, length-set, take_at}
use Rattle.std.proofs.lemmas.Nat.{div-add-mod', mod-mul-add, same_from_place}
use Rattle.shared_broker.specs.Passes.{BrokerView, PassView}
use Rattle.trace_file.specs.Contents.{is_shut, names}
use Rattle.trace_file.specs.declared.line.Line.{Line}
use Rattle.trace_file.specs.declared.line.Line.TheVariants.{Topic, Feed, Shut, Clock, End}
use Rattle.trace_workers.specs.Received.{HasReceived}
use Rattle.trace_workers.specs.Sessions.{IsSameSession, SessionView}
use Rattle.trace_workers.specs.Workers.{AreNumbered, HasAll, HasDone, HasTaken, HasToldAll, IfClock, IsSameClock, IsSameWorker, WorkerView}
use Rattle.trace_workers.specs.Own.{is_own, is_own_session}
use Rattle.trace_workers.proofs.Untouched.{TellsNothing, clock_past, taken_fed, taken_on, taken_past, taken_shut}

-- ---- the same worker

same_clock : (clock : Option PassView) → IsSameClock clock clock
same_clock None = refl
same_clock (Some pass) = (pass, refl, refl)

clock_on : (a b c : Option PassView) → IsSameClock a b → IsSameClock b c → IsSameClock a c
clock_on None b c f g = subst (λ (x : Option PassView). IsSameClock x c) f g
clock_on (Some pass) b c f g =
    let h : IsSameClock (Some f.0) c = subst (λ (x : Option PassView). IsSameClock x c) f.1 g in
    (h.0, h.1, h.2 ∙ f.2)

pub same_self : (worker : WorkerView) → IsSameWorker worker worker
same_self worker = record { number = refl; worker_count = refl; sessions = refl; passes = refl; clock = same_clock worker.clock; kept = refl }

pub same_on : (a b c : WorkerView) → IsSameWorker a b → IsSameWorker b c → IsSameWorker a c
same_on a b c f g = record {
  number = g.number ∙ f.number;
  worker_count = g.worker_count ∙ f.worker_count;
  sessions = g.sessions ∙ f.sessions;
  passes = g.passes ∙ f.passes;
  clock = clock_on a.clock b.clock c.clock f.clock g.clock;
  kept = g.kept ∙ f.kept;
}

abbrev number_of : SessionView → ℕ
number_of s = s.number

pub as_many_sessions : (old new : WorkerView) → IsSameWorker old new → length new.sessions ≡ length old.sessions
as_many_sessions old new same =
    sym (length-map new.sessions number_of) ∙ ap length same.sessions ∙ length-map old.sessions number_of

pub has_all_on : (count : ℕ) (old new : WorkerView) → IsSameWorker old new → HasAll count old → HasAll count new
has_all_on count old new same all session less own =
    let worker_count = same.worker_count in
    let own_before : session % old.worker_count ≡ old.number = ap (λ (w : ℕ). session % w) (sym worker_count) ∙ own ∙ same.number in
    let there : session / old.worker_count < length old.sessions = all session less own_before in
    subst (λ (w : ℕ). session / w < length new.sessions) (sym worker_count) (subst (λ (n : ℕ). session / old.worker_count < n) (sym (as_many_sessions old new same)) there)

-- ---- one session goes on

map_kept : {B : Type 0} (f : SessionView → B) (xs : List SessionView) (at : ℕ) (s d : SessionView) → at < length xs → f s ≡ f (get_or xs at d) → map f (set xs at s) ≡ map f xs
map_kept f [] at s d less e = refl
map_kept f (x ∷ xs) zero s d less e = ap (λ b. b ∷ map f xs) e
map_kept f (x ∷ xs) (suc at) s d less e = ap (λ bs. f x ∷ bs) (map_kept f xs at s d (omega (arith, less)) e)

abbrev pub with_session : WorkerView → ℕ → SessionView → WorkerView
with_session worker at s = record worker { sessions = set worker.sessions at s }

pub same_with : (worker : WorkerView) (at : ℕ) (d s : SessionView) → at < length worker.sessions → IsSameSession (get_or worker.sessions at d) s → IsSameWorker worker (with_session worker at s)
same_with worker at d s less same = record {
  number = refl;
  worker_count = refl;
  sessions = map_kept (λ (x : SessionView). x.number) worker.sessions at s d less same.number;
  passes = map_kept (λ (x : SessionView). x.pass.logs.number) worker.sessions at s d less same.pass;
  clock = same_clock worker.clock;
  kept = map_kept (λ (x : SessionView). is_some x.kept) worker.sessions at s d less same.kept;
}

numbered_with : (worker : WorkerView) (at : ℕ) (d s : SessionView) → at < length worker.sessions → s.number ≡ (get_or worker.sessions at d).number → AreNumbered worker → AreNumbered (with_session worker at s)
numbered_with worker at d s less same numbered k e lt =
    let within : k < length worker.sessions = omega (arith, lt, length-set worker.sessions at s) in
    elim (cases_eq k at) [
      | inl here ↦
          subst (λ (i : ℕ). (get_or (set worker.sessions at s) i e).number ≡ worker.number + i * worker.worker_count) (sym here)
          (ap number_of (get_or-set_same worker.sessions at s e less) ∙ same ∙ numbered at d less)
      | inr other ↦ ap number_of (get_or-set_other worker.sessions at k s e other) ∙ numbered k e within
    ]

all_with : (P Q : SessionView → Type 0) (xs : List SessionView) (at : ℕ) (s : SessionView) → at < length xs → All P xs
    → ((k : ℕ) (d : SessionView) → k < length xs → k ≢ at → P (get_or xs k d) → Q (get_or xs k d)) → Q s → All Q (set xs at s)
all_with P Q xs at s less all others here k d lt =
    let within : k < length xs = omega (arith, lt, length-set xs at s) in
    elim (cases_eq k at) [
      | inl is ↦ subst (λ (i : ℕ). Q (get_or (set xs at s) i d)) (sym is) (subst Q (sym (get_or-set_same xs at s d less)) here)
      | inr other ↦ subst Q (sym (get_or-set_other xs at k s d other)) (others k d within other (all k d within))
    ]

-- a session goes on by itself
pub done_on : (broker : BrokerView) (lines : List Line) (worker : WorkerView) (at : ℕ) (d s : SessionView) → at < length worker.sessions → s.number ≡ (get_or worker.sessions at d).number → HasTaken broker lines s → HasDone broker lines worker
    → HasDone broker lines (with_session worker at s)
done_on broker lines worker at d s less same taken h = record {
  numbered = numbered_with worker at d s less same h.numbered;
  sessions = all_with (HasTaken broker lines) (HasTaken broker lines) worker.sessions at s less h.sessions (λ k e lt other x. x) taken;
  clock = h.clock;
}

-- ---- a line of one of its sessions

-- the line names this session alone
abbrev pub NamesOnly : ℕ → Line → Type 0
NamesOnly session line = (n : ℕ) → n ≢ session → names n line ≡ false

pub feed_names : (session : ℕ) (bytes : List ℕ) → NamesOnly session (Feed session bytes)
feed_names session bytes n other = ne_eqb session n (λ e. other (sym e))

pub shut_names : (session : ℕ) → NamesOnly session (Shut session)
shut_names session n other = ne_eqb session n (λ e. other (sym e))

-- it stands at its place
pub own_place : (worker : WorkerView) (session : ℕ) → is_own_session worker session ≡ true → session ≡ worker.number + session / worker.worker_count * worker.worker_count
own_place worker session own = omega (arith, eqb-true (session % worker.worker_count) worker.number own, div-add-mod' session worker.worker_count)

pub number_there : (worker : WorkerView) (session : ℕ) (d : SessionView) → AreNumbered worker → is_own_session worker session ≡ true → session / worker.worker_count < length worker.sessions
    → (get_or worker.sessions (session / worker.worker_count) d).number ≡ session
number_there worker session d numbered own less = numbered (session / worker.worker_count) d less ∙ sym (own_place worker session own)

-- and no other place is that
other_number : (worker : WorkerView) (session k : ℕ) → worker.number < worker.worker_count → is_own_session worker session ≡ true → k ≢ session / worker.worker_count → worker.number + k * worker.worker_count ≢ session
other_number worker session k below own other is =
    let at = session / worker.worker_count in
    let e : k * worker.worker_count + worker.number ≡ at * worker.worker_count + worker.number = omega (arith, is, own_place worker session own) in
    other (same_from_place k worker.number at worker.number worker.worker_count below below e).0

pub done_line : (broker : BrokerView) (before : List Line) (line : Line) (worker : WorkerView) (session : ℕ) (d s : SessionView) → NamesOnly session line → TellsNothing line → worker.number < worker.worker_count
    → is_own_session worker session ≡ true → session / worker.worker_count < length worker.sessions → s.number ≡ (get_or worker.sessions (session / worker.worker_count) d).number
    → HasTaken broker (before ++ line ∷ []) s → HasDone broker before worker → HasDone broker (before ++ line ∷ []) (with_session worker (session / worker.worker_count) s)
done_line broker before line worker session d s only nothing below own less same taken h =
    let at = session / worker.worker_count in
    record {
      numbered = numbered_with worker at d s less same h.numbered;
      sessions = all_with (HasTaken broker before) (HasTaken broker (before ++ line ∷ [])) worker.sessions at s less h.sessions
          (λ k e lt other x.
          let unnamed : names (get_or worker.sessions k e).number line ≡ false = only (get_or worker.sessions k e).number (λ is. other_number worker session k below own other (sym (h.numbered k e lt) ∙ is)) in
          taken_past broker before line (get_or worker.sessions k e) unnamed x)
          taken;
      clock = clock_past broker before line worker.clock nothing h.clock;
    }

-- ---- a line that is not its own

done_past : (broker : BrokerView) (before : List Line) (line : Line) (worker : WorkerView) → ((k : ℕ) → names (worker.number + k * worker.worker_count) line ≡ false) → IfClock (HasToldAll broker (before ++ line ∷ [])) worker.clock
    → HasDone broker before worker → HasDone broker (before ++ line ∷ []) worker
done_past broker before line worker unnamed clock h = record {
  numbered = h.numbered;
  sessions = λ k d lt.
      taken_past broker before line (get_or worker.sessions k d) (ap (λ (n : ℕ). names n line) (h.numbered k d lt) ∙ unnamed k) (h.sessions k d lt);
  clock = clock;
}

not_named : (worker : WorkerView) (session k : ℕ) → worker.number < worker.worker_count → is_own_session worker session ≡ false → eqb session (worker.number + k * worker.worker_count) ≡ false
not_named worker session k below foreign =
    ne_eqb session (worker.number + k * worker.worker_count)
    (λ is.
    let e : session ≡ k * worker.worker_count + worker.number = omega (arith, is) in
    let own : session % worker.worker_count ≡ worker.number = ap (λ (n : ℕ). n % worker.worker_count) e ∙ mod-mul-add k worker.worker_count worker.number below in
    false≢true (sym foreign ∙ eq-eqb (session % worker.worker_count) worker.number own))

no_clock : (broker : BrokerView) (lines : List Line) (clock : Option PassView) → is_some clock ≡ false → IfClock (HasToldAll broker lines) clock
no_clock broker lines None e = tt
no_clock broker lines (Some pass) e = absurd (false≢true (sym e))

pub done_foreign : (broker : BrokerView) (before : List Line) (line : Line) (worker : WorkerView) → worker.number < worker.worker_count → is_own worker line ≡ false → HasDone broker before worker → HasDone broker (before ++ line ∷ []) worker
done_foreign broker before (Topic name partitions followers least) worker below foreign h =
    let line : Line = Topic name partitions followers least in
    done_past broker before line worker (λ k. refl) (clock_past broker before line worker.clock (λ m. refl) h.clock) h
done_foreign broker before (Feed session bytes) worker below foreign h =
    let line : Line = Feed session bytes in
    done_past broker before line worker (λ k. not_named worker session k below foreign) (clock_past broker before line worker.clock (λ m. refl) h.clock) h
done_foreign broker before (Shut session) worker below foreign h =
    let line : Line = Shut session in
    done_past broker before line worker (λ k. not_named worker session k below foreign) (clock_past broker before line worker.clock (λ m. refl) h.clock) h
done_foreign broker before (Clock t) worker below foreign h =
    let line : Line = Clock t in
    done_past broker before line worker (λ k. refl) (no_clock broker (before ++ line ∷ []) worker.clock foreign) h
done_foreign broker before End worker below foreign h =
    done_past broker before End worker (λ k. refl) (clock_past broker before End worker.clock (λ m. refl) h.clock) h

-- the moment of a line is told
pub done_clock : (broker : BrokerView) (before : List Line) (t : ℕ) (worker : WorkerView) (pass : PassView) → HasToldAll broker (before ++ Clock t ∷ []) pass → HasDone broker before worker
    → HasDone broker (before ++ Clock t ∷ []) (record worker { clock = Some pass })
done_clock broker before t worker pass told h = record {
  numbered = h.numbered;
  sessions = (done_past broker before (Clock t) (record worker { clock = None }) (λ k. refl) tt (record { numbered = h.numbered; sessions = h.sessions; clock = tt })).sessions;
  clock = told;
}

-- ---- as its sessions are lent out and come back

-- the items that were lent stand in their places again
pub one_written : (old lent : List SessionView) (at : ℕ) (s : SessionView) → lent ≡ old → take (length old) (set lent at s ++ drop (length (set lent at s)) old) ≡ set old at s
one_written old lent at s e = take_at (set lent at s) (drop (length (set lent at s)) old) (length old) (length-set lent at s ∙ ap length e) ∙ ap (λ (xs : List SessionView). set xs at s) e

-- what is so of a worker with one session changed is so of it as it is shown again
pub lent_on : (Q : WorkerView → WorkerView → Type 0) (worker old : WorkerView) (lent : List SessionView) (at : ℕ) (s : SessionView) → worker ≡ old → lent ≡ worker.sessions → Q worker (with_session worker at s)
    → Q old (record worker { sessions = take (length worker.sessions) (set lent at s ++ drop (length (set lent at s)) worker.sessions) })
lent_on Q worker old lent at s view value q =
    subst (λ (x : WorkerView). Q x (record worker { sessions = take (length worker.sessions) (set lent at s ++ drop (length (set lent at s)) worker.sessions) })) view
    (subst (λ (xs : List SessionView). Q worker (record worker { sessions = xs })) (sym (one_written worker.sessions lent at s value)) q)

pub if_ok_weaker : {T E : Type 0} (P Q : T → Type 0) (r : Result T E) → ((x : T) → P x → Q x) → IfOk r P → IfOk r Q
if_ok_weaker P Q (Ok x) goes h = goes x h
if_ok_weaker P Q (Err e) goes h = tt

-- ---- what it has done

-- whether the input of a session ended is what the session shows
pub shown_open : (broker : BrokerView) (before : List Line) (worker : WorkerView) (session : ℕ) (d : SessionView) → is_own_session worker session ≡ true → session / worker.worker_count < length worker.sessions → HasDone broker before worker
    → is_shut session before ≡ (get_or worker.sessions (session / worker.worker_count) d).is_shut
shown_open broker before worker session d own there h =
    let at = session / worker.worker_count in
    ap (λ (n : ℕ). is_shut n before) (sym (number_there worker session d h.numbered own there)) ∙ sym (h.sessions at d there).shut

-- a line brings one of its sessions bytes
pub fed_worker : (broker : BrokerView) (before : List Line) (worker : WorkerView) (session : ℕ) (bytes : List ℕ) (d s : SessionView) → worker.number < worker.worker_count → is_own_session worker session ≡ true → session / worker.worker_count < length worker.sessions
    → (get_or worker.sessions (session / worker.worker_count) d).is_shut ≡ false → IsSameSession (get_or worker.sessions (session / worker.worker_count) d) s → s.is_named ≡ true → s.is_shut ≡ false
    → ((input : List ℕ) → HasReceived input (get_or worker.sessions (session / worker.worker_count) d) → HasReceived (input ++ bytes) s)
    → HasDone broker before worker → HasDone broker (before ++ Feed session bytes ∷ []) (with_session worker (session / worker.worker_count) s)
fed_worker broker before worker session bytes d s below own there unshut same named still goes h =
    let at = session / worker.worker_count in
    let old = get_or worker.sessions at d in
    done_line broker before (Feed session bytes) worker session d s (feed_names session bytes) (λ m. refl) below own there same.number
    (taken_fed broker before session bytes old s (number_there worker session d h.numbered own there) (h.sessions at d there) same named still (shown_open broker before worker session d own there h ∙ unshut) goes) h

-- a line ends the input of one
pub shut_worker : (broker : BrokerView) (before : List Line) (worker : WorkerView) (session : ℕ) (d s : SessionView) → worker.number < worker.worker_count → is_own_session worker session ≡ true → session / worker.worker_count < length worker.sessions
    → IsSameSession (get_or worker.sessions (session / worker.worker_count) d) s → s.is_named ≡ true → s.is_shut ≡ true
    → ((input : List ℕ) → HasReceived input (get_or worker.sessions (session / worker.worker_count) d) → HasReceived input s)
    → HasDone broker before worker → HasDone broker (before ++ Shut session ∷ []) (with_session worker (session / worker.worker_count) s)
shut_worker broker before worker session d s below own there same named shut goes h =
    let at = session / worker.worker_count in
    let old = get_or worker.sessions at d in
    done_line broker before (Shut session) worker session d s (shut_names session) (λ m. refl) below own there same.number
    (taken_shut broker before session old s (number_there worker session d h.numbered own there) (h.sessions at d there) same named shut goes) h

-- one goes on
pub step_worker : (broker : BrokerView) (lines : List Line) (worker : WorkerView) (at : ℕ) (d s : SessionView) → at < length worker.sessions → IsSameSession (get_or worker.sessions at d) s
    → s.is_named ≡ (get_or worker.sessions at d).is_named → s.is_shut ≡ (get_or worker.sessions at d).is_shut
    → ((input : List ℕ) → HasReceived input (get_or worker.sessions at d) → HasReceived input s) → HasDone broker lines worker → HasDone broker lines (with_session worker at s)
step_worker broker lines worker at d s there same named shut goes h =
    done_on broker lines worker at d s there same.number (taken_on broker lines (get_or worker.sessions at d) s (h.sessions at d there) same named shut goes) h
