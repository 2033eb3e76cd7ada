-- The book of a pass that has seen nothing and done nothing.
use Rattle.std.proofs.Common.{◌≡◌, ℕ, zero, suc, ◌≤◌, List, [], ◌∷◌, map, Option, Some, None, refl, subst, arith}
use Rattle.std.specs.Prelude.{slice_get}
use Rattle.partlog.specs.declared.event.PartEvent.{PartEvent}
use Rattle.partlog.specs.declared.event.PartEvent.TheVariants.{Follow, Shrink}
use Rattle.audit.specs.Histories.{Owner}
use Rattle.kwire.specs.Configuration.{Configuration, followers_of, partitions_of}
use Rattle.audit.specs.broker.Board.{empty_history}
use Rattle.audit.specs.broker.GoesOn.{the_owner}
use Rattle.audit.specs.broker.Timely.{events_at}
use Rattle.audit.proofs.broker.Laws.{nobodys, opening_sound}
use Rattle.audit.specs.broker.books.Book.{opening_book}
use Rattle.audit.specs.broker.books.IsBook.{IsBook}

-- no partition has an entry
no_events : (followers : List ℕ) (part : ℕ) → events_at (map empty_history followers) part ≡ []
no_events [] part = refl
no_events (f ∷ followers) zero = refl
no_events (f ∷ followers) (suc part) = no_events followers part

none_there : (followers : List ℕ) (part place : ℕ) (event : PartEvent) → slice_get (events_at (map empty_history followers) part) place ≡ Some event → ⊥
none_there followers part place event e =
    let none : slice_get [] place ≡ Some event = subst (λ (events : List PartEvent). slice_get events place ≡ Some event) (no_events followers part) e in
    absurd cc

pub opened : (config : Configuration) (number : ℕ) → partitions_of config.topics ≤ 64 → IsBook (opening_book config number) None
opened config number few = record {
  histories = (opening_sound config few).sound.histories;
  own = record {
    left = λ part place seq e.
        let none : slice_get [] place ≡ Some (the_owner number seq) =
        subst (λ (os : List (Option Owner)). slice_get os place ≡ Some (the_owner number seq)) (nobodys (followers_of config.topics) part) e in
        absurd cc;
    points = λ seq points e. absurd cc;
    order = λ part k lt. absurd (omega (arith, lt));
  };
  timely = record {
    shrinks = λ part place t replica e. absurd (none_there (followers_of config.topics) part place (Shrink number replica t) e);
    told = λ part place seq offset t replica e. absurd (none_there (followers_of config.topics) part place (Follow number seq replica offset t) e);
    late = λ part place seq offset t replica e. absurd (none_there (followers_of config.topics) part place (Follow number seq replica offset t) e);
  };
  calls = tt;
  ends = tt;
}
