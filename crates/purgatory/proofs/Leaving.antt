-- A pass whose check has all its readings: it leaves its operation, or wins it.
use Rattle.std.proofs.Common.{⊎_elim, ◌≡◌, ◌≢◌, ◌∙◌, ℕ, zero, suc, ◌+◌, ◌<◌, ◌≤◌, List, [], ◌∷◌, Option, Some, ◌||◌, length, get_or, take, ap, refl, subst, sym, arith}
use Rattle.std.specs.Prelude.{All, IsSome, unwrap_or}
use Rattle.std.proofs.lemmas.Bool.{cond-false, cond-true, le-leb, lt-leb, or_from, or_left, or_right, cases_lt}
use Rattle.std.proofs.lemmas.List.{take_all}
use Rattle.opcond.specs.declared.need.Need.{Need}
use Rattle.opcond.specs.Operation.{Operation}
use Rattle.opcond.specs.Tally as listed
use Rattle.opcond.specs.Tally.{counted}
use Rattle.room_core.specs.declared.event.How.{How}
use Rattle.room_core.specs.declared.event.How.TheVariants.{Expired, Satisfied}
use Rattle.room_core.specs.declared.parts.Phase.{Phase}
use Rattle.room_core.specs.declared.parts.Session.{Session}
use Rattle.room_core.specs.declared.parts.Stage.{Stage}
use Rattle.room_core.specs.declared.parts.Stage.TheVariants.{Checking, Waiting}
use Rattle.room_core.specs.declared.shape.Shape.{Shape}
use Rattle.room_core.specs.Checks.{IsWon, caller_leaves, exchanged, is_overdue, is_satisfied}
use Rattle.room_core.specs.Description.{gauge_of, need_of, tally, tally_below}
use Rattle.room_core.specs.Gauges.{clock_of}
use Rattle.room_core.specs.Numbers.{scanner_numbers}
use Rattle.room_core.specs.Passes.{peeked}
use Rattle.room_core.specs.Put.{put}
use Rattle.room_core.specs.Readings.{read_only}
use Rattle.room_core.specs.State.{Caller}
use Rattle.room_core.proofs.Laws.{put_else, put_here}
use Rattle.room_table.specs.declared.part.CallerStep.{CallerStep}
use Rattle.room_table.specs.Seats.{CallerView, TableView, caller_did, caller_now}
use Rattle.purgatory.specs.declared.outcome.Done.{Done}
use Rattle.purgatory.specs.Listed.{AreDescribed, AreTaken, Ends, HasReadings, IsDescribed, IsEarned, Keeps, Leaves}
use Rattle.purgatory.specs.Registered.{have_read}
use Rattle.purgatory.proofs.Goes.{ends_after, keeps_by, keeps_far}

not_le : (a b : ℕ) → (a ≤ b → ⊥) → b < a
not_le a b n = ⊎_elim (λ (l : b < a). l) (λ (m : a ≤ b). absurd (n m)) (cases_lt b a)

-- a tally of one need more
listed_more : (needs : List Need) (values : List ℕ) (n : ℕ) (d : Need) (v : ℕ) → n < length needs → n < length values
    → listed.tally (take (suc n) needs) (take (suc n) values) ≡ listed.tally (take n needs) (take n values) + counted (get_or needs n d) (get_or values n v)
listed_more [] values n d v less few = absurd (omega (arith, less))
listed_more (x ∷ xs) [] n d v less few = absurd (omega (arith, few))
listed_more (x ∷ xs) (y ∷ ys) zero d v less few = omega arith
listed_more (x ∷ xs) (y ∷ ys) (suc n) d v less few =
    let more = listed_more xs ys n d v (omega (arith, less)) (omega (arith, few)) in
    omega (arith, more)

-- the tally over words is that of the operation's needs, where the values are these
tallies : (needs : List Need) (values : List ℕ) (words value : ℕ → ℕ) (n : ℕ) → n ≤ length needs → n ≤ length values → AreDescribed needs n words
    → ((i : ℕ) (d : Need) (v : ℕ) → i < n → value (get_or needs i d).gauge ≡ get_or values i v)
    → tally_below words value n ≡ listed.tally (take n needs) (take n values)
unfolding tally_below
tallies needs values words value zero less few described is = refl
tallies needs values words value (suc n) less few described is =
    let need = need_of words n in
    let below : n < length needs = omega (arith, less) in
    let same : need ≡ get_or needs n need = described n need (omega arith) in
    let read : value (gauge_of words n) ≡ get_or values n 0 = ap (λ (x : Need). value x.gauge) same ∙ is n need 0 (omega arith) in
    let before = tallies needs values words value n (omega (arith, less)) (omega (arith, few)) (λ i d l. described i d (omega (arith, l))) (λ i d v l. is i d v (omega (arith, l))) in
    ap (λ t. t + counted need (value (gauge_of words n))) before
    ∙ ap (λ v. listed.tally (take n needs) (take n values) + counted need v) read
    ∙ ap (λ (x : Need). listed.tally (take n needs) (take n values) + counted x (get_or values n 0)) same
    ∙ sym (listed_more needs values n need 0 below (omega (arith, few)))

module _ (shape : Shape) (op : Operation) (caller : Caller) (values : List ℕ) (moment : ℕ) (is : IsDescribed op caller.description)
    (each : length values ≡ length op.needs) (below : All (λ (need : Need). need.gauge < clock_of shape) op.needs) (taken : AreTaken op.needs values (length op.needs) caller) where
  abbrev last : ℕ → Option ℕ
  last = put caller.readings (clock_of shape) (Some moment)

  abbrev after : Caller
  after = caller_leaves shape caller (clock_of shape) moment

  clock_read : read_only last (clock_of shape) ≡ moment
  clock_read = ap (λ (o : Option ℕ). unwrap_or o 0) (put_here caller.readings (clock_of shape) (Some moment))

  need_read : (i : ℕ) (d : Need) (v : ℕ) → i < length op.needs → read_only last (get_or op.needs i d).gauge ≡ get_or values i v
  need_read i d v less =
      let lower = below i d less in
      ap (λ (o : Option ℕ). unwrap_or o 0)
      (put_else caller.readings (clock_of shape) (Some moment) (get_or op.needs i d).gauge (λ e. omega (arith, e, lower)) ∙ taken i d v less)

  tally_is : tally caller.description (read_only last) ≡ listed.tally op.needs values
  tally_is =
      let n = length op.needs in
      ap (tally_below caller.description (read_only last)) is.count
      ∙ tallies op.needs values caller.description (read_only last) n (omega arith) (omega (arith, each)) is.needs need_read
      ∙ ap (λ xs. listed.tally xs (take n values)) (take_all n op.needs (omega arith))
      ∙ ap (listed.tally op.needs) (take_all n values (omega (arith, each)))

  -- below the least tally, and before the deadline, it waits
  pub leaves_waiting : ¬ listed.IsSatisfied op values → moment < op.deadline → after.stage ≡ Waiting
  leaves_waiting n early =
      let least = is.least in
      let deadline = is.deadline in
      let total = tally_is in
      let clock = clock_read in
      cond-false (is_satisfied caller.description last || is_overdue shape caller.description last) Checking Waiting
      (or_from (is_satisfied caller.description last) (is_overdue shape caller.description last)
      (lt-leb (caller.description 0) (tally caller.description (read_only last)) (omega (arith, least, total, not_le op.least (listed.tally op.needs values) n)))
      (lt-leb (caller.description 1) (read_only last (clock_of shape)) (omega (arith, early, deadline, clock))))

  -- else it checks still, and may win
  pub satisfied_wins : listed.IsSatisfied op values → (after.stage ≡ Checking) × IsWon shape Satisfied after.description after.readings
  satisfied_wins enough =
      let least = is.least in
      let total = tally_is in
      let reached : caller.description 0 ≤ tally caller.description (read_only last) = omega (arith, enough, least, total) in (
        cond-true (is_satisfied caller.description last || is_overdue shape caller.description last) Checking Waiting
            (or_left (is_satisfied caller.description last) (is_overdue shape caller.description last)
            (le-leb (caller.description 0) (tally caller.description (read_only last)) reached)),
        reached,
      )

  pub overdue_wins : op.deadline ≤ moment → (after.stage ≡ Checking) × IsWon shape Expired after.description after.readings
  overdue_wins late =
      let deadline = is.deadline in
      let clock = clock_read in
      let reached : caller.description 1 ≤ read_only last (clock_of shape) = omega (arith, late, deadline, clock) in (
        cond-true (is_satisfied caller.description last || is_overdue shape caller.description last) Checking Waiting
            (or_right (is_satisfied caller.description last) (is_overdue shape caller.description last)
            (le-leb (caller.description 1) (read_only last (clock_of shape)) reached)),
        (subst (λ (o : Option ℕ). IsSome o) (sym (put_here caller.readings (clock_of shape) (Some moment))) refl, reached),
      )

checking_busy : Checking ≢ Stage.Idle
checking_busy e = cc

-- what a check comes to that has read the gauges of the needs, and then the clock
module _ (op : Operation) (values : List ℕ) (moment : ℕ) (old b : CallerView) (h : HasReadings op values moment old b) where
  words : IsDescribed op (caller_now h.last).description
  words = subst (IsDescribed op) (sym h.needs.keeps.account.description) h.described

  left_keeps : Keeps old b
  left_keeps =
      let step = CallerStep.Left (clock_of h.last.table.shape) moment in
      keeps_far old h.last b h.needs.keeps (keeps_by h.last b step (record { generation = refl; description = refl; owed = refl; taken = refl }) h.clock)

  pub check_left : ¬ listed.IsSatisfied op values → moment < op.deadline → Leaves op old b
  check_left n early = record {
    values = values;
    moment = moment;
    keeps = left_keeps;
    each = h.needs.each;
    steps =
        h.clock ∙ ap (λ (v : CallerView). caller_did v (CallerStep.Left (clock_of h.last.table.shape) moment)) h.needs.read
        ∙ ap (λ (t : TableView). caller_did (have_read old op.needs values) (CallerStep.Left (clock_of t.shape) moment)) h.needs.keeps.went.table;
    unsatisfied = n;
    early = early;
    waits = ap (λ (v : CallerView). (caller_now v).stage) h.clock ∙ leaves_waiting h.last.table.shape op (caller_now h.last) values moment words h.needs.each h.before_clock h.needs.taken n early;
  }

  earned : (how : How) → IsEarned how op values moment → ((caller_now b).stage ≡ Checking) × IsWon h.last.table.shape how (caller_now b).description (caller_now b).readings
  earned Satisfied enough =
      subst (λ (v : CallerView). ((caller_now v).stage ≡ Checking) × IsWon h.last.table.shape Satisfied (caller_now v).description (caller_now v).readings) (sym h.clock)
      (satisfied_wins h.last.table.shape op (caller_now h.last) values moment words h.needs.each h.before_clock h.needs.taken enough)
  earned Expired late =
      subst (λ (v : CallerView). ((caller_now v).stage ≡ Checking) × IsWon h.last.table.shape Expired (caller_now v).description (caller_now v).readings) (sym h.clock)
      (overdue_wins h.last.table.shape op (caller_now h.last) values moment words h.needs.each h.before_clock h.needs.taken late)

  pub check_earned : (how : How) → IsEarned how op values moment → ((caller_now b).stage ≡ Checking) × IsWon b.table.shape how (caller_now b).description (caller_now b).readings
  check_earned how so =
      let w = earned how so in
      (w.0, subst (λ (s : Shape). IsWon s how (caller_now b).description (caller_now b).readings) (sym (ap (λ (v : CallerView). v.table.shape) h.clock)) w.1)

  -- then it tries to win
  pub check_tried : (how : How) (found : Session) (c d : CallerView) (done : Done) → c ≡ caller_did b (CallerStep.Won how found) → Ends done c d → Ends done old d
  check_tried how found c d done w ends =
      ends_after done old c d (keeps_far old b c left_keeps (keeps_by b c (CallerStep.Won how found) (record { generation = refl; description = refl; owed = refl; taken = refl }) w)) ends

busy_by : (stage : Stage) (phase : Phase) → stage ≢ Stage.Idle → peeked phase stage ≢ Stage.Idle
unfolding peeked
busy_by stage Phase.Idle n = n
busy_by stage Phase.Open n = n
busy_by stage (Phase.Won how by) n = λ e. cc

-- who tried to win isn't idle
pub tried_busy : (a b : CallerView) (how : How) (found : Session) → (caller_now a).stage ≡ Checking → b ≡ caller_did a (CallerStep.Won how found) → (caller_now b).stage ≢ Stage.Idle
tried_busy a b how found checking e =
    let n : (caller_now a).stage ≢ Stage.Idle = λ idle. checking_busy (sym checking ∙ idle) in
    subst (λ (v : CallerView). (caller_now v).stage ≢ Stage.Idle) (sym e) (busy_by (caller_now a).stage (exchanged found (caller_now a).generation how (scanner_numbers + a.pass)).phase n)
