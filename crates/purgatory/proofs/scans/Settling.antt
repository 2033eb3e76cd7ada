-- A pass of the clock's listing that is met and checked.
use Rattle.std.proofs.Common.{⊎_elim, ◌≡◌, ◌≢◌, ◌∙◌, ◌==◌, ℕ, ◌<◌, ◌≤◌, true, false, Option, Some, None, ap, refl, subst, sym}
use Rattle.std.proofs.lemmas.Bool.{cases_eq, cond-false, cond-true, eq-eqb}
use Rattle.room_core.specs.declared.parts.Duty.{Duty}
use Rattle.room_core.specs.declared.parts.Entry.{Entry}
use Rattle.room_core.specs.declared.parts.Session.{Session}
use Rattle.room_core.specs.declared.shape.Shape.{Shape}
use Rattle.room_core.specs.Checks.{IsDuty, gauge_of_duty, other_entry}
use Rattle.room_core.specs.Gauges.{clock_of}
use Rattle.room_core.specs.Meetings.{generation_met, is_live, live_duty, live_entry, scanner_learns, scanner_marks}
use Rattle.room_core.specs.Numbers.{clock_mark}
use Rattle.room_core.specs.Put.{put}
use Rattle.room_core.proofs.Laws.{no_duty_lives, put_else, put_here}
use Rattle.room_core.specs.State.{Scanner}
use Rattle.room_table.specs.declared.part.ScannerStep.{ScannerStep}
use Rattle.room_table.specs.Seats.{ScanView, TableView, scanner_did, scanner_now}
use Rattle.timing_wheel.specs.Timers.{Timers, deadline_of}
use Rattle.purgatory.specs.scans.Checked.{HasLetGo, HasLooked, HasTried, without_entry}
use Rattle.purgatory.specs.scans.Coming.{ChangesOnly, HasComeOut, IsOnDuty, IsSettled, WasMet, duty_on, entry_at, duty_at, timer_at}
use Rattle.purgatory.specs.scans.Desks.{ClockView}
use Rattle.purgatory.specs.scans.Going.{GoesOn}
use Rattle.purgatory.specs.scans.Shelf.{open_generation}
use Rattle.purgatory.specs.scans.Timing.{HasTimer, IsTimed}
use Rattle.purgatory.proofs.scans.Deadlines.{marked_is}
use Rattle.purgatory.proofs.scans.Goes.{goes_by, goes_far, one_step, stays}
use Rattle.purgatory.proofs.scans.Sessions.{is_live_at, not_live}
use Rattle.purgatory.proofs.scans.Watching.{duty_left, meeting_is}

-- nothing changed but of a pass

pub only_none : (pass : ℕ) (a : ClockView) → ChangesOnly pass a a
only_none pass a = record {
  went = stays a.seat;
  began = refl;
  moment = refl;
  entries = λ other n. refl;
  duties = λ other n. refl;
  timers = λ other n. refl;
}

pub only_far : (pass : ℕ) (a b c : ClockView) → ChangesOnly pass a b → ChangesOnly pass b c → ChangesOnly pass a c
only_far pass a b c g h = record {
  went = goes_far a.seat b.seat c.seat g.went h.went;
  began = h.began ∙ g.began;
  moment = h.moment ∙ g.moment;
  entries = λ other n. h.entries other n ∙ g.entries other n;
  duties = λ other n. h.duties other n ∙ g.duties other n;
  timers = λ other n. h.timers other n ∙ g.timers other n;
}

timed_as : (m n : ℕ) (e f : Option Entry) (o p : Option ℕ) → n ≡ m → f ≡ e → p ≡ o → IsTimed m e o → IsTimed n f p
timed_as m n e f o p moment entry timer h =
    subst (λ k. IsTimed k f p) (sym moment) (subst (λ x. IsTimed m x p) (sym entry) (subst (IsTimed m e) (sym timer) h))

-- neither an entry nor a timer
pub timed_nothing : (m : ℕ) (e : Option Entry) (o : Option ℕ) → e ≡ None → o ≡ None → IsTimed m e o
timed_nothing m e o none out = subst (λ x. IsTimed m x o) (sym none) out

pub settled_else : (pass other : ℕ) (a b : ClockView) → ChangesOnly pass a b → other ≢ pass → IsSettled other a → IsSettled other b
settled_else pass other a b only n h = record {
  no_duty = only.duties other n ∙ h.no_duty;
  timed = timed_as a.timers.moment b.timers.moment (entry_at a other) (entry_at b other) (timer_at a other) (timer_at b other)
      only.moment (only.entries other n) (only.timers other n) h.timed;
}

pub settled_all : (pass : ℕ) (a b : ClockView) → ChangesOnly pass a b → IsSettled pass b → ((other : ℕ) → other ≢ pass → IsSettled other a) → (other : ℕ) → IsSettled other b
settled_all pass a b only here all other =
    ⊎_elim
    (λ (same : other ≡ pass). subst (λ p. IsSettled p b) (sym same) here)
    (λ (n : other ≢ pass). settled_else pass other a b only n (all other n))
    (cases_eq other pass)

-- the duty on an entry, in a view of the same table
duty_same : (a b : ClockView) (entry : Entry) → b.seat.table ≡ a.seat.table → Some (duty_on a entry) ≡ Some (duty_on b entry)
duty_same a b entry e = ap (λ (t : TableView). Some (let d : Duty = record { gauge = clock_of t.shape; generation = entry.generation } in d)) (sym e)

pub come_else : (pass other : ℕ) (a b : ClockView) → ChangesOnly pass a b → other ≢ pass → HasComeOut other a → HasComeOut other b
come_else pass other a b only n h =
    let same : entry_at a other ≡ entry_at b other = sym (only.entries other n) in
    record {
      no_timer = only.timers other n ∙ h.no_timer;
      no_entry = λ e. only.duties other n ∙ h.no_entry (same ∙ e);
      duty = λ entry e l. only.duties other n ∙ h.duty entry (same ∙ e) (subst (λ m. entry.deadline ≤ m) only.moment l) ∙ duty_same a b entry only.went.table;
      no_duty = λ entry e l. only.duties other n ∙ h.no_duty entry (same ∙ e) (subst (λ m. m < entry.deadline) only.moment l);
    }

-- a pass that is met

pub live_some : (w : Session) (entry : Entry) → is_live w entry.generation ≡ true → live_entry w (Some entry) ≡ Some entry
unfolding live_entry
live_some w entry e = cond-true (is_live w entry.generation) (Some entry) None e

pub live_none : (w : Session) (entry : Entry) → is_live w entry.generation ≡ false → live_entry w (Some entry) ≡ None
unfolding live_entry
live_none w entry e = cond-false (is_live w entry.generation) (Some entry) None e

module _ (pass : ℕ) (found : Session) (a b : ClockView) (met : WasMet pass found a b) where
  abbrev clock : ℕ
  clock = clock_of a.seat.table.shape

  abbrev row : ℕ → Option Entry
  row = (scanner_now a.seat).listing clock

  abbrev duties : ℕ → Option Duty
  duties = (scanner_now a.seat).duties

  row_now : (q : ℕ) → entry_at b q ≡ put row pass (live_entry found (row pass)) q
  row_now q = ap (λ (v : ScanView). (scanner_now v).listing (clock_of v.table.shape) q) met.step

  duties_now : (q : ℕ) → duty_at b q ≡ put duties pass (live_duty found (duties pass)) q
  duties_now q = ap (λ (v : ScanView). (scanner_now v).duties q) met.step

  moment_same : b.timers.moment ≡ a.timers.moment
  moment_same = ap (λ (t : Timers). t.moment) met.timers

  timer_same : (q : ℕ) → timer_at b q ≡ timer_at a q
  timer_same q = ap (λ (t : Timers). deadline_of t q) met.timers

  pub met_only : ChangesOnly pass a b
  met_only = record {
    went = one_step a.seat b.seat (ScannerStep.Met pass found) met.step;
    began = ap (λ (v : ScanView). (scanner_now v).began) met.step;
    moment = moment_same;
    entries = λ other n. row_now other ∙ put_else row pass (live_entry found (row pass)) other n;
    duties = λ other n. duties_now other ∙ put_else duties pass (live_duty found (duties pass)) other n;
    timers = λ other n. timer_same other;
  }

  -- the others are settled still
  pub met_others : ((other : ℕ) → IsSettled other a) → (other : ℕ) → other ≢ pass → IsSettled other b
  met_others all other n = settled_else pass other a b met_only n (all other)

  -- it has no duty, if it had none
  pub met_free : IsSettled pass a → duty_at b pass ≡ None
  met_free h = duties_now pass ∙ put_here duties pass (live_duty found (duties pass)) ∙ no_duty_lives found (duties pass) h.no_duty

  -- and its entry, if it stays, has its timer
  pub met_timed : IsSettled pass a → (entry : Entry) → entry_at b pass ≡ Some entry → HasTimer b.timers.moment entry.deadline (timer_at b pass)
  met_timed h entry is =
      ⊎_elim
      (λ (same : entry_at b pass ≡ entry_at a pass).
      timed_as a.timers.moment b.timers.moment (entry_at a pass) (Some entry) (timer_at a pass) (timer_at b pass) moment_same (sym is ∙ same) (timer_same pass) h.timed)
      (λ (gone : entry_at b pass ≡ None). let no : None ≡ Some entry = sym gone ∙ is in absurd cc)
      met.entry

  -- on whose entry there is a duty
  module _ (entry : Entry) (h : IsOnDuty pass entry a) where
    no_timer_now : timer_at b pass ≡ None
    no_timer_now = timer_same pass ∙ h.no_timer

    entry_now : entry_at b pass ≡ live_entry found (Some entry)
    entry_now = row_now pass ∙ put_here row pass (live_entry found (row pass)) ∙ ap (live_entry found) h.listed

    duty_now : duty_at b pass ≡ live_duty found (Some (duty_on a entry))
    duty_now = duties_now pass ∙ put_here duties pass (live_duty found (duties pass)) ∙ ap (live_duty found) h.duty

    pub met_on_duty : 1 ≤ entry.generation → open_generation found ≡ entry.generation → IsOnDuty pass entry b
    met_on_duty some e =
        let live = is_live_at found entry.generation some (sym e) in
        record {
          listed = entry_now ∙ live_some found entry live;
          has_come = subst (λ m. entry.deadline ≤ m) (sym moment_same) h.has_come;
          no_timer = no_timer_now;
          duty = duty_now ∙ duty_left found clock entry.generation true live ∙ duty_same a b entry (ap (λ (v : ScanView). v.table) met.step);
        }

    pub met_off_duty : open_generation found ≢ entry.generation → IsSettled pass b
    met_off_duty n =
        let dead = not_live found entry.generation n in
        record {
          no_duty = duty_now ∙ duty_left found clock entry.generation false dead;
          timed = timed_nothing b.timers.moment (entry_at b pass) (timer_at b pass) (entry_now ∙ live_none found entry dead) no_timer_now;
        }

-- a duty of the meeting
pub on_duty_met : (a b : ClockView) (pass : ℕ) (found : Session) (entry : Entry) → 1 ≤ entry.generation → b.seat ≡ scanner_did a.seat (ScannerStep.Met pass found) → open_generation found ≡ entry.generation
    → IsOnDuty pass entry b → IsDuty ((scanner_now b.seat).duties pass) (generation_met (scanner_now b.seat).meeting)
on_duty_met a b pass found entry some step e h =
    subst (λ (d : Option Duty). IsDuty d (generation_met (scanner_now b.seat).meeting)) (sym h.duty)
    (sym (ap generation_met (meeting_is a.seat b.seat pass entry.generation found some step e)))

-- and its check

own_gone : (entry : Entry) → other_entry (Some entry) entry.generation ≡ None
unfolding other_entry
own_gone entry = cond-true (entry.generation == entry.generation) None (Some entry) (eq-eqb entry.generation entry.generation refl)

abbrev desk_of : ScanView → Timers → ClockView
desk_of seat timers = record { seat = seat; timers = timers }

module _ (seat new : ScanView) (timers : Timers) (pass : ℕ) (entry : Entry) (h : IsOnDuty pass entry (desk_of seat timers)) (went : GoesOn seat new) where
  abbrev s : Scanner
  s = scanner_now seat

  abbrev own : ℕ
  own = clock_of seat.table.shape

  -- the listing that a new one gives
  listing_now : (listing : ℕ → ℕ → Option Entry) → (scanner_now new).listing ≡ listing → (q : ℕ) → entry_at (desk_of new timers) q ≡ listing own q
  listing_now listing e q = ap (λ (t : TableView). (scanner_now new).listing (clock_of t.shape) q) went.table ∙ ap (λ (l : ℕ → ℕ → Option Entry). l own q) e

  -- it has only looked
  pub looked_only : HasLooked s (scanner_now new) → ChangesOnly pass (desk_of seat timers) (desk_of new timers)
  looked_only l = record {
    went = went;
    began = l.began;
    moment = refl;
    entries = λ other n. listing_now s.listing l.listing other;
    duties = λ other n. ap (λ (d : ℕ → Option Duty). d other) l.duties;
    timers = λ other n. refl;
  }

  pub looked_on_duty : HasLooked s (scanner_now new) → IsOnDuty pass entry (desk_of new timers)
  looked_on_duty l = record {
    listed = listing_now s.listing l.listing pass ∙ h.listed;
    has_come = h.has_come;
    no_timer = h.no_timer;
    duty = ap (λ (d : ℕ → Option Duty). d pass) l.duties ∙ h.duty ∙ duty_same (desk_of seat timers) (desk_of new timers) entry went.table;
  }

  -- it has left
  pub left_only : HasLetGo pass s (scanner_now new) → ChangesOnly pass (desk_of seat timers) (desk_of new timers)
  left_only l = record {
    went = went;
    began = l.began;
    moment = refl;
    entries = λ other n. listing_now s.listing l.listing other;
    duties = λ other n. ap (λ (d : ℕ → Option Duty). d other) l.duties ∙ put_else s.duties pass None other n;
    timers = λ other n. refl;
  }

  pub left_settled : HasLetGo pass s (scanner_now new) → IsSettled pass (desk_of new timers)
  left_settled l = record {
    no_duty = ap (λ (d : ℕ → Option Duty). d pass) l.duties ∙ put_here s.duties pass None;
    timed = timed_as timers.moment timers.moment (Some entry) (entry_at (desk_of new timers) pass) None (timer_at (desk_of new timers) pass)
        refl (listing_now s.listing l.listing pass ∙ h.listed) h.no_timer h.has_come;
  }

  -- it has tried to win it
  module _ (t : HasTried pass s (scanner_now new)) (met : generation_met s.meeting ≡ entry.generation) where
    abbrev rest : ℕ → Option Entry
    rest = put (s.listing own) pass (other_entry (s.listing own pass) entry.generation)

    tried_listing : (scanner_now new).listing ≡ put s.listing own rest
    tried_listing =
        t.listing
        ∙ ap (λ (d : Option Duty). without_entry s (gauge_of_duty d) pass (generation_met s.meeting)) h.duty
        ∙ ap (without_entry s own pass) met

    -- its row is without the entry
    pub tried_gone : (scanner_now new).listing ≡ put s.listing own (put (s.listing own) pass None)
    tried_gone = tried_listing ∙ ap (λ o. put s.listing own (put (s.listing own) pass o)) (ap (λ o. other_entry o entry.generation) h.listed ∙ own_gone entry)

    tried_row : (q : ℕ) → entry_at (desk_of new timers) q ≡ rest q
    tried_row q = listing_now (put s.listing own rest) tried_listing q ∙ ap (λ (r : ℕ → Option Entry). r q) (put_here s.listing own rest)

    tried_here : entry_at (desk_of new timers) pass ≡ None
    tried_here = tried_row pass ∙ put_here (s.listing own) pass _ ∙ ap (λ o. other_entry o entry.generation) h.listed ∙ own_gone entry

    tried_else : (other : ℕ) → other ≢ pass → entry_at (desk_of new timers) other ≡ entry_at (desk_of seat timers) other
    tried_else other n = tried_row other ∙ put_else (s.listing own) pass _ other n

    pub tried_only : ChangesOnly pass (desk_of seat timers) (desk_of new timers)
    tried_only = record {
      went = went;
      began = t.began;
      moment = refl;
      entries = tried_else;
      duties = λ other n. ap (λ (d : ℕ → Option Duty). d other) t.duties ∙ put_else s.duties pass None other n;
      timers = λ other n. refl;
    }

    pub tried_settled : IsSettled pass (desk_of new timers)
    tried_settled = record {
      no_duty = ap (λ (d : ℕ → Option Duty). d pass) t.duties ∙ put_here s.duties pass None;
      timed = timed_nothing timers.moment (entry_at (desk_of new timers) pass) (timer_at (desk_of new timers) pass) tried_here h.no_timer;
    }

-- whose timer has come out

-- it has no entry any more
pub come_settled : (pass : ℕ) (a : ClockView) → HasComeOut pass a → entry_at a pass ≡ None → IsSettled pass a
come_settled pass a h e = record { no_duty = h.no_entry e; timed = timed_nothing a.timers.moment (entry_at a pass) (timer_at a pass) e h.no_timer }

-- its deadline has come
pub come_on_duty : (pass : ℕ) (a : ClockView) (entry : Entry) → HasComeOut pass a → entry_at a pass ≡ Some entry → entry.deadline ≤ a.timers.moment → IsOnDuty pass entry a
come_on_duty pass a entry h e due = record { listed = e; has_come = due; no_timer = h.no_timer; duty = h.duty entry e due }

-- its deadline is later: it is put again
module _ (pass : ℕ) (seat : ScanView) (w timers : Timers) (moment : timers.moment ≡ w.moment) where
  pub put_only : ((other : ℕ) → other ≢ pass → deadline_of timers other ≡ deadline_of w other) → ChangesOnly pass (desk_of seat w) (desk_of seat timers)
  put_only others = record {
    went = stays seat;
    began = refl;
    moment = moment;
    entries = λ other n. refl;
    duties = λ other n. refl;
    timers = others;
  }

  pub put_settled : (entry : Entry) → HasComeOut pass (desk_of seat w) → entry_at (desk_of seat w) pass ≡ Some entry → w.moment < entry.deadline
      → HasTimer w.moment entry.deadline (deadline_of timers pass) → IsSettled pass (desk_of seat timers)
  put_settled entry h e later timed =
      record {
        no_duty = h.no_duty entry e later;
        timed = timed_as w.moment timers.moment (Some entry) (entry_at (desk_of seat w) pass) (deadline_of timers pass) (deadline_of timers pass) moment e refl timed;
      }

-- a pass whose operation is listed under its deadline

-- the row of the clock, with the new entry
marked_row : (s : Scanner) (shape : Shape) (pass deadline : ℕ) (q : ℕ)
    → (scanner_marks shape (scanner_learns s 1 deadline) pass clock_mark).listing (clock_of shape) q
    ≡ put (s.listing (clock_of shape)) pass (Some (record { generation = generation_met s.meeting; deadline = deadline })) q
marked_row s shape pass deadline q =
    ap (λ (l : ℕ → ℕ → Option Entry). l (clock_of shape) q) (marked_is s shape pass deadline)
    ∙ ap (λ (r : ℕ → Option Entry). r q) (put_here s.listing (clock_of shape) (put (s.listing (clock_of shape)) pass (Some (record { generation = generation_met s.meeting; deadline = deadline }))))

module _ (seat new : ScanView) (w timers : Timers) (pass deadline : ℕ) (step : new ≡ scanner_did (scanner_did seat (ScannerStep.Learned 1 deadline)) (ScannerStep.Listed pass clock_mark))
    (moment : timers.moment ≡ w.moment) (timer : HasTimer w.moment deadline (deadline_of timers pass)) (others : (other : ℕ) → other ≢ pass → deadline_of timers other ≡ deadline_of w other) where
  abbrev listed : Entry
  listed = record { generation = generation_met (scanner_now seat).meeting; deadline = deadline }

  row_after : (q : ℕ) → entry_at (desk_of new timers) q ≡ put ((scanner_now seat).listing (clock_of seat.table.shape)) pass (Some listed) q
  row_after q = ap (λ (v : ScanView). (scanner_now v).listing (clock_of v.table.shape) q) step ∙ marked_row (scanner_now seat) seat.table.shape pass deadline q

  marked_only : ChangesOnly pass (desk_of seat w) (desk_of new timers)
  marked_only = record {
    went = goes_by seat (scanner_did seat (ScannerStep.Learned 1 deadline)) new (ScannerStep.Listed pass clock_mark)
        (one_step seat (scanner_did seat (ScannerStep.Learned 1 deadline)) (ScannerStep.Learned 1 deadline) refl) step;
    began = ap (λ (v : ScanView). (scanner_now v).began) step;
    moment = moment;
    entries = λ other n. row_after other ∙ put_else ((scanner_now seat).listing (clock_of seat.table.shape)) pass (Some listed) other n;
    duties = λ other n. ap (λ (v : ScanView). (scanner_now v).duties other) step;
    timers = others;
  }

  pub marked_settles : ((other : ℕ) → other ≢ pass → IsSettled other (desk_of seat w)) → duty_at (desk_of seat w) pass ≡ None → (other : ℕ) → IsSettled other (desk_of new timers)
  marked_settles all free = settled_all pass (desk_of seat w) (desk_of new timers) marked_only (record {
    no_duty = ap (λ (v : ScanView). (scanner_now v).duties pass) step ∙ free;
    timed = timed_as w.moment timers.moment (Some listed) (entry_at (desk_of new timers) pass) (deadline_of timers pass) (deadline_of timers pass)
        moment (row_after pass ∙ put_here ((scanner_now seat).listing (clock_of seat.table.shape)) pass (Some listed)) refl timer;
  }) all
