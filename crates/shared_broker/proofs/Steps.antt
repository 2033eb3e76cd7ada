-- A call over two steps, and the histories that its pass has seen.
use Rattle.std.proofs.Common.{◌≡◌, ℕ, ◌+◌, Bool, false, cond, List, length, map, Option, Some, None, Result, Ok, Err, sym, ap, ◌∙◌, arith, inl, inr}
use Rattle.std.specs.Prelude.{count_by, eqb}
use Rattle.std.proofs.lemmas.List.{length-map}
use Rattle.partlog.specs.declared.clock_event.ClockEvent.{ClockEvent}
use Rattle.partlog.specs.History.{History}
use Rattle.audit.specs.declared.account.Call.{Call}
use Rattle.audit.specs.declared.account.CallHow.TheVariants.{Cut}
use Rattle.audit.specs.declared.account.Transcript.{Transcript}
use Rattle.audit.specs.IsLawful.{is_won_as}
use Rattle.shared_logs.specs.Amid.{amid}
use Rattle.shared_logs.specs.Left.{AreLeft}
use Rattle.shared_logs.proofs.Laws.{grown_on, left_on, went_on}
use Rattle.kwire.specs.Configuration.{Configuration, followers_of}
use Rattle.kwire.specs.declared.request.Request.{Request}
use Rattle.audit.specs.broker.books.IsBook.{IsBook}
use Rattle.audit.specs.broker.books.Underway.{book_amid}
use Rattle.audit.specs.broker.Sound.{AreHistories}
use Rattle.purgatory.specs.Going.{KeepsOperation, OwesNothing}
use Rattle.room_core.specs.declared.parts.Stage.{Stage}
use Rattle.room_core.specs.declared.parts.Taken.{Taken}
use Rattle.room_table.specs.Seats.{caller_now}
use Rattle.shared_broker.specs.Calling.{HasParked, IsAnsweredAs}
use Rattle.shared_broker.specs.declared.calling.Became.{Became}
use Rattle.shared_broker.specs.declared.parked.Parked.{Parked}
use Rattle.shared_broker.specs.Serving.{HasCome, HasGoneOn, HasServed}
use Rattle.shared_logs.specs.Closing.{taken_from}
use Rattle.shared_logs.specs.Seen.{HasSeen}
use Rattle.shared_logs.specs.Shared.{LogPassView, followers_in}

pub gone_on : (a b c : LogPassView) → HasGoneOn a b → HasGoneOn b c → HasGoneOn a c
gone_on a b c f g = record {
  number = g.number ∙ f.number;
  made = g.made ∙ f.made;
  ticked = g.ticked ∙ f.ticked;
  grown = grown_on a.parts b.parts c.parts a.clock b.clock c.clock f.grown g.grown;
  went = went_on a.seat b.seat c.seat f.went g.went;
}

-- ---- what a pass has seen are histories of the configuration

pub seen_histories : (config : Configuration) (pass : LogPassView) (parts : List History) (clock : List ClockEvent) → AreHistories config parts clock → HasSeen pass → followers_in pass.made ≡ followers_of config.topics
    → AreHistories config pass.parts pass.clock
seen_histories config pass parts clock was seen made =
    let same : map (λ (h : History). h.followers) pass.parts ≡ followers_of config.topics = seen.followers ∙ made in
    let size : length pass.parts ≡ length parts = sym (length-map pass.parts (λ (h : History). h.followers)) ∙ ap (λ (ns : List ℕ). length ns) (same ∙ sym was.followers) ∙ length-map parts (λ (h : History). h.followers) in
    record { whole = seen.whole; few = omega (arith, size, was.few); followers = same; ticks = seen.ticks }

-- ---- it comes to its end, and nobody has won it

module _ (config : Configuration) (Was : List Transcript → Transcript → Type 0) (old new : LogPassView) (before after : Call) where
  pub unwon_come : HasGoneOn old new → KeepsOperation (caller_now old.seat) (caller_now new.seat) → (caller_now old.seat).stage ≡ Stage.Idle → OwesNothing (caller_now new.seat) → ((by : ℕ) → is_won_as by after.how ≡ false) → after.frame ≡ before.frame
      → ((front : List Transcript) (transcript : Transcript) → Was front transcript → IsBook (book_amid (amid config front transcript new after)) None) → HasCome config Was None old new before after
  unwon_come on kept idle paid nobody frame book = record {
    on = on;
    seat = record {
      sits = kept.stage ∙ idle;
      paid = paid;
      opened = let same = kept.generation in omega (arith, same);
      taken = λ by. ap (count_by (λ (item : Taken). eqb item.by by)) kept.taken ∙ none_more (taken_from by old.seat) ∙ ap (λ (b : Bool). taken_from by old.seat + cond b 1 0) (sym (nobody by));
    };
    frame = frame;
    book = book;
  }
    where
      none_more : (n : ℕ) → n ≡ n + 0
      none_more n = omega arith

  pub cut_come : HasGoneOn old new → KeepsOperation (caller_now old.seat) (caller_now new.seat) → (caller_now old.seat).stage ≡ Stage.Idle → OwesNothing (caller_now new.seat) → after.how ≡ Cut None → after.frame ≡ before.frame
      → ((front : List Transcript) (transcript : Transcript) → Was front transcript → IsBook (book_amid (amid config front transcript new after)) None) → HasCome config Was None old new before after
  cut_come on kept idle paid how frame book = unwon_come on kept idle paid (λ by. ap (is_won_as by) how) frame book

-- ---- a step before

module _ (config : Configuration) (seq : ℕ) (request : Request) (Was Is : List Transcript → Transcript → Type 0) (old mid new : LogPassView) (first before after : Call)
    (on : HasGoneOn old mid) (kept : KeepsOperation (caller_now old.seat) (caller_now mid.seat)) (left : AreLeft seq old mid) (frame : before.frame ≡ first.frame)
    (was : (front : List Transcript) (transcript : Transcript) → Was front transcript → Is front transcript) where
  come_on : (waits : Option Parked) → HasCome config Is waits mid new before after → HasCome config Was waits old new first after
  come_on waits h = record {
    on = gone_on old mid new on h.on;
    seat = record {
      sits = h.seat.sits;
      paid = h.seat.paid;
      opened = let same = kept.generation in omega (arith, same, h.seat.opened);
      taken = λ by. h.seat.taken by ∙ ap (λ (xs : List Taken). count_by (λ (item : Taken). eqb item.by by) xs + cond (is_won_as by after.how) 1 0) kept.taken;
    };
    frame = h.frame ∙ frame;
    book = λ front transcript w. h.book front transcript (was front transcript w);
  }

  answered_on : IsAnsweredAs after.how mid.seat new.seat → IsAnsweredAs after.how old.seat new.seat
  answered_on (inl at_once) = inl at_once
  answered_on (inr won) = inr (won.0, won.1, won.2, went_on old.seat mid.seat won.2 on.went won.3, won.4, won.5, won.6, won.7)

  parked_on : (parked : Parked) → HasParked parked mid.seat new.seat → HasParked parked old.seat new.seat
  parked_on parked h = record { before = h.before; came = went_on old.seat mid.seat h.before on.went h.came; registered = h.registered }

  pub served_on : (is_sent : Bool) {E : Type 0} (r : Result Became E) → HasServed is_sent config seq request Is r mid new before after → HasServed is_sent config seq request Was r old new first after
  served_on is_sent (Ok (Became.Answered bytes)) h =
      (come_on None h.0, h.1, answered_on h.2, left_on seq old mid new on.number left h.3, λ front transcript w. h.4 front transcript (was front transcript w))
  served_on is_sent (Ok Became.Quiet) h = (come_on None h.0, h.1, h.2, left_on seq old mid new on.number left h.3)
  served_on is_sent (Ok (Became.Parked parked)) h = (come_on (Some parked) h.0, h.1, parked_on parked h.2, left_on seq old mid new on.number left h.3)
  served_on is_sent (Err e) h = (come_on None h.0, h.1)
