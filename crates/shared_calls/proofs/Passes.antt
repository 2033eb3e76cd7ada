-- A pass that went on, and what it sees.
use Rattle.std.proofs.Common.{◌≡◌, ℕ, List, length, map, refl, sym, ap, subst, ◌∙◌, arith}
use Rattle.std.proofs.lemmas.List.{length-map}
use Rattle.std.specs.Prelude.{slice_index}
use Rattle.kwire.specs.Configuration.{Configuration}
use Rattle.partlog.specs.declared.clock_event.ClockEvent.{ClockEvent}
use Rattle.partlog.specs.History.{History}
use Rattle.audit.specs.broker.GoesOn.{HaveGrown}
use Rattle.audit.proofs.broker.Laws.{grown_self}
use Rattle.audit.specs.broker.Sound.{AreHistories}
use Rattle.purgatory.specs.Rooms.{LockView}
use Rattle.purgatory.specs.Going.{KeepsOperation}
use Rattle.room_table.specs.declared.part.CallerStep.TheVariants.{Read}
use Rattle.room_table.specs.Seats.{CallerView, caller_did, caller_now}
use Rattle.shared_logs.specs.Coming.{HasStepped}
use Rattle.shared_logs.proofs.Laws.{went_on, went_self}
use Rattle.shared_logs.specs.Seen.{HasSeen}
use Rattle.shared_logs.specs.Shared.{LogPassView, followers_in}

-- ---- in the room

pub stepped_none : (a : LogPassView) → HasStepped a a
stepped_none a = record { number = refl; made = refl; went = went_self a.seat; parts = refl; clock = refl; ticked = refl }

pub stepped_on : (a b c : LogPassView) → HasStepped a b → HasStepped b c → HasStepped a c
stepped_on a b c f g = record {
  number = g.number ∙ f.number;
  made = g.made ∙ f.made;
  went = went_on a.seat b.seat c.seat f.went g.went;
  parts = g.parts ∙ f.parts;
  clock = g.clock ∙ f.clock;
  ticked = g.ticked ∙ f.ticked;
}

-- it saw nothing
pub stepped_grown : (a b : LogPassView) → HasStepped a b → HaveGrown a.parts a.clock b.parts b.clock
stepped_grown a b step =
    subst (λ (es : List ClockEvent). HaveGrown a.parts a.clock b.parts es) (sym step.clock)
    (subst (λ (hs : List History). HaveGrown a.parts a.clock hs a.clock) (sym step.parts) (grown_self a.parts a.clock))

-- it read a gauge
pub reading_keeps : (a b : CallerView) (gauge value : ℕ) → b ≡ caller_did a (Read gauge value) → KeepsOperation (caller_now a) (caller_now b)
reading_keeps a b gauge value e = record {
  generation = ap (λ (v : CallerView). (caller_now v).generation) e;
  description = ap (λ (v : CallerView). (caller_now v).description) e;
  stage = ap (λ (v : CallerView). (caller_now v).stage) e;
  wins = ap (λ (v : CallerView). (caller_now v).wins) e;
  taken = ap (λ (v : CallerView). (caller_now v).taken) e;
}

-- ---- the histories

pub seen_histories : (config : Configuration) (old new : LogPassView) → HasSeen old → HasSeen new → new.made ≡ old.made → AreHistories config old.parts old.clock → AreHistories config new.parts new.clock
seen_histories config old new before after made h =
    let same : map (λ (x : History). x.followers) new.parts ≡ map (λ (x : History). x.followers) old.parts = after.followers ∙ ap followers_in made ∙ sym before.followers in
    let size : length new.parts ≡ length old.parts = sym (length-map new.parts (λ (x : History). x.followers)) ∙ ap (λ (ns : List ℕ). length ns) same ∙ length-map old.parts (λ (x : History). x.followers) in
    record {
      whole = after.whole;
      few = omega (arith, size, h.few);
      followers = same ∙ h.followers;
      ticks = after.ticks;
    }

-- it has seen as many as there are partitions
pub as_many_seen : (pass : LogPassView) → HasSeen pass → length pass.parts ≡ length pass.made.parts
as_many_seen pass seen =
    sym (length-map pass.parts (λ (x : History). x.followers)) ∙ ap (λ (ns : List ℕ). length ns) seen.followers ∙ length-map pass.made.parts (λ (lock : LockView). slice_index lock.name 0)
