-- A pass is the same over two steps, and where it does nothing.
use Rattle.std.proofs.Common.{◌≡◌, ℕ, List, [], ◌++◌, Result, Ok, Err, refl, sym, ap, ◌∙◌, append_assoc}
use Rattle.std.proofs.lemmas.Option.{slice_get_within}
use Rattle.std.specs.Prelude.{OnErr}
use Rattle.partlog.specs.declared.clock_event.ClockEvent.{ClockEvent}
use Rattle.partlog.specs.History.{History}
use Rattle.room_core.specs.State.{Caller}
use Rattle.room_table.specs.declared.part.CallerStep.{CallerStep}
use Rattle.room_table.specs.Seats.{CallerView, caller_now}
use Rattle.purgatory.specs.Going.{GoesOn, KeepsOperation}
use Rattle.audit.specs.broker.GoesOn.{HaveGrown}
use Rattle.audit.specs.broker.Kept.{owners_at}
use Rattle.audit.specs.broker.Timely.{events_at}
use Rattle.audit.proofs.broker.Laws.{all_longer_on, grown_self}
use Rattle.shared_logs.specs.Coming.{HasCaughtUp, HasStepped, IsSamePass, OthersCame}
use Rattle.shared_logs.specs.Shared.{LogPassView}

pub on_err : {T E : Type 0} {P : Type 0} (r : Result T E) → P → OnErr r P
on_err (Ok x) p = tt
on_err (Err e) p = p

-- ---- its seat

pub went_self : (seat : CallerView) → GoesOn seat seat
went_self seat = record { table = refl; pass = refl; newer = []; steps = refl }

pub went_on : (a b c : CallerView) → GoesOn a b → GoesOn b c → GoesOn a c
went_on a b c f g = record {
  table = g.table ∙ f.table;
  pass = g.pass ∙ f.pass;
  newer = g.newer ++ f.newer;
  steps = g.steps ∙ ap (λ (steps : List CallerStep). g.newer ++ steps) f.steps ∙ sym (append_assoc g.newer f.newer a.steps);
}

pub operation_self : (a : Caller) → KeepsOperation a a
operation_self a = record { generation = refl; description = refl; stage = refl; wins = refl; taken = refl }

pub operation_on : (a b c : Caller) → KeepsOperation a b → KeepsOperation b c → KeepsOperation a c
operation_on a b c f g = record {
  generation = g.generation ∙ f.generation;
  description = g.description ∙ f.description;
  stage = g.stage ∙ f.stage;
  wins = g.wins ∙ f.wins;
  taken = g.taken ∙ f.taken;
}

-- ---- its histories

pub grown_on : (ps qs rs : List History) (c d e : List ClockEvent) → HaveGrown ps c qs d → HaveGrown qs d rs e → HaveGrown ps c rs e
grown_on ps qs rs c d e f g = record {
  each = all_longer_on ps qs rs f.each g.each;
  more = f.more ++ g.more;
  events = g.events ∙ ap (λ (xs : List ClockEvent). xs ++ g.more) f.events ∙ append_assoc c f.more g.more;
}

-- ---- the pass

pub same_self : (a : LogPassView) → IsSamePass a a
same_self a = record { number = refl; made = refl; went = went_self a.seat; kept = operation_self _ }

pub same_on : (a b c : LogPassView) → IsSamePass a b → IsSamePass b c → IsSamePass a c
same_on a b c f g = record {
  number = g.number ∙ f.number;
  made = g.made ∙ f.made;
  went = went_on a.seat b.seat c.seat f.went g.went;
  kept = operation_on _ _ _ f.kept g.kept;
}

pub ticked_on : (a b c : LogPassView) → b.ticked ≡ a.ticked → c.ticked ≡ b.ticked → c.ticked ≡ a.ticked
ticked_on a b c f g = g ∙ f

-- a step of its seat that keeps the operation
pub same_stepped : (a b : LogPassView) → HasStepped a b → KeepsOperation (caller_now a.seat) (caller_now b.seat) → IsSamePass a b
same_stepped a b step kept = record { number = step.number; made = step.made; went = step.went; kept = kept }

-- ---- nothing came

pub none_came : (number : ℕ) (parts : List History) (clock : List ClockEvent) → OthersCame number parts clock parts clock
none_came number parts clock = record {
  grown = grown_self parts clock;
  within = record {
    calls = λ part place seq e. slice_get_within (owners_at parts clock part) place _ e;
    entries = λ part place event e whose. slice_get_within (events_at parts part) place event e;
  };
}

pub caught_up_self : (a : LogPassView) → HasCaughtUp a a
caught_up_self a = record { same = same_self a; others = none_came a.number a.parts a.clock; ticked = refl }

-- running out of memory before the turn
pub refused_before : {T E : Type 0} (r : Result T E) (a : LogPassView) → OnErr r (HasCaughtUp a a)
refused_before r a = on_err r (caught_up_self a)
