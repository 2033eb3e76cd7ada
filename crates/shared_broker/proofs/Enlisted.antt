-- A call whose operation was registered in the room: it waits there, or was won and completed.
use Rattle.std.proofs.Common.{◌≡◌, ℕ, ◌+◌, Bool, cond, eqb, List, [], ◌∷◌, ◌++◌, All, Some, None, refl, sym, ap, subst, ◌∙◌, arith, inr}
use Rattle.std.proofs.lemmas.List.Sums.{sum_by_push}
use Rattle.std.specs.Prelude.{count_by}
use Rattle.partlog.specs.declared.clock_event.ClockEvent.{ClockEvent}
use Rattle.partlog.specs.History.{History}
use Rattle.audit.specs.declared.account.Call.{Call}
use Rattle.audit.specs.declared.account.CallHow.{CallHow}
use Rattle.audit.specs.declared.account.CallHow.TheVariants.{Parked as Waits}
use Rattle.audit.specs.declared.account.Transcript.{Transcript}
use Rattle.audit.specs.IsLawful.{is_won_as}
use Rattle.shared_logs.specs.Amid.{amid}
use Rattle.shared_logs.specs.Left.{AreLeft}
use Rattle.shared_logs.proofs.Laws.{left_on, left_stepped, went_on, went_self}
use Rattle.kanswer.specs.LogReadings.{IsCarriable}
use Rattle.kanswer.specs.Results.{AreResults}
use Rattle.kanswer.specs.Waiting.{operation_of}
use Rattle.kwire.specs.Configuration.{Configuration}
use Rattle.kwire.specs.declared.request.Request.{Request}
use Rattle.audit.specs.broker.books.Finishing.{IsDelayed}
use Rattle.audit.specs.broker.books.Underway.{Underway, seq_of, with_end}
use Rattle.audit.proofs.broker.books.Laws.{delayed_as, delayed_parked}
use Rattle.audit.specs.broker.GoesOn.{HaveGrown}
use Rattle.audit.proofs.broker.Laws.{grown_self}
use Rattle.purgatory.specs.declared.outcome.Done.{Done}
use Rattle.purgatory.specs.Going.{OwesNothing}
use Rattle.purgatory.specs.Polled.{item_of}
use Rattle.purgatory.specs.Registered.{HasEnded, HasParked as HasParkedIn}
use Rattle.room_core.specs.declared.event.How.{How}
use Rattle.room_core.specs.declared.parts.Taken.{Taken}
use Rattle.room_table.specs.Seats.{CallerView, caller_now}
use Rattle.shared_broker.specs.Calling.{HasParked, IsAnsweredAs, how_by, told_as}
use Rattle.shared_broker.specs.declared.parked.Parked.{Parked}
use Rattle.shared_broker.specs.Serving.{HasCome, HasEndedCall, HasGoneOn, IsToldTo, WillSit}
use Rattle.shared_logs.specs.Closing.{taken_from}
use Rattle.shared_logs.specs.Coming.{HasStepped}
use Rattle.shared_logs.specs.Shared.{LogPassView}
use Rattle.shared_broker.proofs.WonCalls.{amid_stepped, grown_stepped}

-- ---- whom a call names

pub won_as : (how : How) (by winner : ℕ) → is_won_as winner (how_by how by) ≡ eqb by winner
won_as How.Satisfied by winner = refl
won_as How.Expired by winner = refl

-- what was taken of an operation names its winner
pub taken_more : (old new : CallerView) (at : ℕ) (done : Done) → (caller_now new).taken ≡ (caller_now old).taken ++ item_of at done ∷ [] → (how : CallHow) → ((winner : ℕ) → is_won_as winner how ≡ eqb done.by winner)
    → (by : ℕ) → taken_from by new ≡ taken_from by old + cond (is_won_as by how) 1 0
taken_more old new at done taken how names by =
    ap (count_by (λ (item : Taken). eqb item.by by)) taken ∙ sum_by_push (λ (item : Taken). cond (eqb item.by by) 1 0) (caller_now old).taken (item_of at done)
    ∙ ap (λ (b : Bool). taken_from by old + cond b 1 0) (sym (names by))

-- ---- a step of the pass's seat

module _ (a b : LogPassView) (step : HasStepped a b) where
  pub stepped_on : HasGoneOn a b
  stepped_on = record {
    number = step.number;
    made = step.made;
    ticked = step.ticked;
    grown = grown_stepped a b step a.parts a.clock (grown_self a.parts a.clock);
    went = step.went;
  }

  pub will_sit : (config : Configuration) (seq : ℕ) (request : Request) (parked : Parked) (call : Call) (front : List Transcript) (transcript : Transcript)
      → WillSit config seq request parked a call front transcript → WillSit config seq request parked b call front transcript
  will_sit config seq request parked call front transcript was =
      let same = sym (amid_stepped a b step config front transcript call) in (
        was.0,
        record {
          number = subst (λ (u : Underway). seq_of u ≡ seq) same was.1.number;
          unfinished = was.1.unfinished;
          delayed = subst (λ (u : Underway). IsDelayed u was.0) same was.1.delayed;
          request_is = was.1.request_is;
          results = was.1.results;
          operation = was.1.operation;
        },
      )

-- ---- after the room has answered

module _ (config : Configuration) (seq : ℕ) (request : Request) (parked : Parked) (old mid : LogPassView) (call : Call) (step : HasStepped old mid) (paid : OwesNothing (caller_now mid.seat)) where
  -- it waits
  module _ (r : HasParkedIn parked.op old.seat mid.seat) where
    pub parked_left : AreLeft seq old mid
    parked_left = left_stepped seq old mid step

    pub parked_seat : HasParked parked old.seat mid.seat
    parked_seat = record { before = old.seat; came = went_self old.seat; registered = r }

    pub parked_come : (moment : ℕ) → parked.op ≡ operation_of request.ask parked.accepted moment → AreResults request.ask parked.accepted → All IsCarriable parked.accepted
        → HasCome config (WillSit config seq request parked old call) (Some parked) old mid call (record call { how = Waits })
    parked_come moment became listed carriable = record {
      on = stepped_on old mid step;
      seat = record {
        sits = (r.waits, r.operation);
        paid = paid;
        opened = omega (arith, r.generation);
        taken = λ by. let same = ap (count_by (λ (item : Taken). eqb item.by by)) r.taken in omega (arith, same);
      };
      frame = refl;
      book = λ front transcript was.
          let sat = will_sit old mid step config seq request parked call front transcript was in
          let u = amid config front transcript mid call in
          record {
            w = sat.0;
            book_is = delayed_parked (with_end u Waits) sat.0 (delayed_as u sat.0 Waits sat.1.delayed) sat.1.unfinished refl;
            operation = sat.1.operation;
            results = sat.1.results;
            moment = moment;
            became = became ∙ ap (λ (q : Request). operation_of q.ask parked.accepted moment) (sym sat.1.request_is);
            listed = subst (λ (q : Request). AreResults q.ask parked.accepted) (sym sat.1.request_is) listed;
            carriable = carriable;
          };
    }

  -- it was won, and completed
  module _ (done : Done) (r : HasEnded parked.op done old.seat mid.seat) (new : LogPassView) (after : Call)
      (e : HasEndedCall config (WillSit config seq request parked mid call) mid new call after) (names : (winner : ℕ) → is_won_as winner after.how ≡ eqb done.by winner) where
    pub won_come : HasCome config (WillSit config seq request parked old call) None old new call after
    won_come = record {
      on = record {
        number = e.same.number ∙ step.number;
        made = e.same.made ∙ step.made;
        ticked = e.ticked ∙ step.ticked;
        grown = subst (λ (es : List ClockEvent). HaveGrown old.parts es new.parts new.clock) step.clock (subst (λ (hs : List History). HaveGrown hs mid.clock new.parts new.clock) step.parts e.grown);
        went = went_on old.seat mid.seat new.seat step.went e.same.went;
      };
      seat = record {
        sits = e.same.kept.stage ∙ r.taken.idle;
        paid = e.paid;
        opened = let now = e.same.kept.generation ∙ r.taken.generation in omega (arith, now);
        taken = taken_more old.seat new.seat ((caller_now old.seat).generation + 1) done (e.same.kept.taken ∙ r.taken.taken) after.how names;
      };
      frame = ap (λ (k : Call). k.frame) e.rest;
      book = λ front transcript was. e.book front transcript (will_sit old mid step config seq request parked call front transcript was);
    }

    pub won_left : AreLeft seq mid new → AreLeft seq old new
    won_left left = left_on seq old mid new step.number (left_stepped seq old mid step) left

    pub won_answered : after.how ≡ told_as done → IsAnsweredAs after.how old.seat new.seat
    won_answered told = inr (parked.op, done, old.seat, went_self old.seat, mid.seat, r, e.same.went, told)

    pub won_replied : (is_sent : Bool) (frame : List ℕ) → ((front : List Transcript) (transcript : Transcript) → WillSit config seq request parked mid call front transcript → IsToldTo is_sent config new after frame)
        → (front : List Transcript) (transcript : Transcript) → WillSit config seq request parked old call front transcript → IsToldTo is_sent config new after frame
    won_replied is_sent frame replied front transcript was = replied front transcript (will_sit old mid step config seq request parked call front transcript was)
