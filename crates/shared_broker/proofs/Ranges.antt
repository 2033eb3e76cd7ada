-- A range of a log that a pass has seen is there in every account that goes on from what it saw.
use Rattle.std.proofs.Common.{◌≡◌, ◌∙◌, ℕ, ◌<◌, ◌≤◌, List, [], ◌++◌, Option, Some, None, ⊎_elim, ap, arith, drop, length, refl, subst, sym, take}
use Rattle.std.specs.Prelude.{slice_get, slice_index, unwrap_or}
use Rattle.std.proofs.Math.Seq.{take-nil}
use Rattle.std.proofs.lemmas.List.{drop-append-le, drop_all, length-map, length-take, take-append-le}
use Rattle.std.proofs.lemmas.Bool.{cases_lt}
use Rattle.audit.specs.declared.account.Account.{Account}
use Rattle.audit.specs.broker.Board.{empty_history, history_at}
use Rattle.audit.specs.broker.GoesOn.{GoesOn}
use Rattle.audit.proofs.broker.Laws.{followers_size}
use Rattle.kwire.specs.declared.config.Topic.{Topic}
use Rattle.kwire.specs.Configuration.{Configuration, followers_of, partitions_of}
use Rattle.partlog.specs.declared.clock_event.ClockEvent.{ClockEvent}
use Rattle.partlog.specs.History.{History}
use Rattle.purgatory.specs.Going.{OwesNothing}
use Rattle.purgatory.specs.Rooms.{LockView}
use Rattle.room_table.specs.Seats.{CallerView, caller_now}
use Rattle.shared_broker.specs.Finding.{HasCaughtUp, bytes_at, log_in}
use Rattle.shared_broker.specs.Passes.{PassView}
use Rattle.shared_broker.specs.Standing.{Stands}
use Rattle.shared_broker.proofs.SessionsStand.{others_stand}
use Rattle.shared_logs.specs.Coming as logs
use Rattle.shared_logs.specs.Seen.{HasSeen}
use Rattle.shared_logs.specs.Shared.{LogPassView, SharedView, followers_in}
use Rattle.shared_logs.proofs.Laws.{caught_up_self}

-- a partition of the topics has its log
pub log_of_part : (topics : List Topic) (shared : SharedView) (part : ℕ) → followers_in shared ≡ followers_of topics → part < partitions_of topics → part < length shared.parts
log_of_part topics shared part same within =
    let size = length-map shared.parts (λ (lock : LockView). slice_index lock.name 0) in
    omega (arith, within, size, ap length same, followers_size topics)

-- what stands in a list stands there as well if more comes behind
stands_before : (xs more records : List ℕ) (start : ℕ) → take (length records) (drop start xs) ≡ records → take (length records) (drop start (xs ++ more)) ≡ records
stands_before xs more records start is =
    let n = length records in
    ⊎_elim
    (λ (past : length xs < start).
    let none : records ≡ [] = sym is ∙ ap (take n) (drop_all start xs (omega (arith, past))) ∙ take-nil n in
    subst (λ (rs : List ℕ). take (length rs) (drop start (xs ++ more)) ≡ rs) (sym none) refl)
    (λ (within : start ≤ length xs).
    let long : length (take n (drop start xs)) ≡ n = ap length is in
    let size = length-take n (drop start xs) in
    ap (take n) (drop-append-le start xs more within) ∙ take-append-le n (drop start xs) more (omega (arith, long, size)) ∙ is)
    (cases_lt (length xs) start)

pub range_stands : (config : Configuration) (parts : List History) (clock : List ClockEvent) (part start : ℕ) (records : List ℕ) → take (length records) (drop start (history_at parts part).log) ≡ records
    → (account : Account) → GoesOn config parts clock account → bytes_at account (record { part = part; start = start; size = length records }) ≡ records
range_stands config parts clock part start records is account on = by_part (slice_get parts part) refl is
  where
    by_part : (o : Option History) → slice_get parts part ≡ o → take (length records) (drop start (unwrap_or o (empty_history 0)).log) ≡ records
        → take (length records) (drop start (log_in (slice_get account.parts part))) ≡ records
    by_part None at is =
        let none : records ≡ [] = sym is ∙ ap (take (length records)) (drop_all start [] (omega (arith))) ∙ take-nil (length records) in
        subst (λ (rs : List ℕ). take (length rs) (drop start (log_in (slice_get account.parts part))) ≡ rs) (sym none) refl
    by_part (Some h) at is =
        let follows = on.follows part h at in
        let log : log_in (slice_get account.parts part) ≡ h.log ++ follows.2.bytes = ap log_in follows.1 ∙ follows.2.log in
        ap (λ (bs : List ℕ). take (length records) (drop start bs)) log ∙ stands_before h.log follows.2.bytes records start is

-- it is as it was
pub caught_up_still : (pass : PassView) → HasCaughtUp pass pass
caught_up_still pass = record { logs = caught_up_self pass.logs; seat = refl; rest = refl }

-- it saw what others did
pub caught_up_stands : (pass : PassView) (later : LogPassView) → Stands pass → HasSeen later → logs.HasCaughtUp pass.logs later → later.seat ≡ pass.logs.seat → Stands (record pass { logs = later })
caught_up_stands pass later stands seen caught seat =
    others_stand pass.config pass.logs later pass.ended pass.going pass.waits stands seen caught.same.number caught.same.made caught.same.kept
    (subst (λ (s : CallerView). OwesNothing (caller_now s)) (sym seat) stands.paid) caught.others
