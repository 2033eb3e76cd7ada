-- The start is sound.
use Rattle.std.proofs.Common.{◌≡◌, ℕ, [], ap, refl, arith}
use Rattle.std.specs.Prelude.{nat_lt}
use Rattle.room_core.specs.declared.event.How.{How}
use Rattle.room_core.specs.declared.parts.Phase.{Phase}
use Rattle.room_core.specs.declared.shape.Shape.{Shape}
use Rattle.room_core.specs.Gauges.{IsShape}
use Rattle.room_core.specs.Start.{start_of, idle_caller, idle_scanner}
use Rattle.room_core.specs.Wins.{prizes_as, taken_as, taken_at, wins_of}
use Rattle.room_core.specs.Carried.{IsUpheld}
use Rattle.room_core.specs.Within.{IsWithin}
use Rattle.room_core.proofs.Facts.{WinsAreSound}
use Rattle.room_core.proofs.Kept.{IsKept, carried}
use Rattle.room_core.proofs.Known.{of_either}
use Rattle.room_core.proofs.Winners.{won_as-none, won_at-none}

no_wins : (by : ℕ) → wins_of (λ k. idle_scanner) (λ p. idle_caller) by ≡ []
unfolding wins_of
no_wins by = of_either (λ x. x ≡ []) (nat_lt by 17) [] [] (λ e. refl) (λ e. refl)

pub no_prizes : (pass generation : ℕ) (how : How) → prizes_as [] pass generation how ≡ 0
unfolding prizes_as
no_prizes pass generation how = refl

none_taken : (generation : ℕ) (how : How) (by : ℕ) → taken_as [] generation how by ≡ 0
unfolding taken_as
none_taken generation how by = refl

nothing_taken : (generation : ℕ) → taken_at [] generation ≡ 0
unfolding taken_at
nothing_taken generation = refl

wins : (shape : Shape) → WinsAreSound (start_of shape)
wins shape = record {
  counted = λ by pass generation how.
      let a : prizes_as (wins_of (λ k. idle_scanner) (λ p. idle_caller) by) pass generation how ≡ prizes_as [] pass generation how = ap (λ x. prizes_as x pass generation how) (no_wins by) in
      omega (arith, a, no_prizes pass generation how, none_taken generation how by, won_as-none (record { generation = 0; phase = Phase.Idle }) generation how by refl);
  once = λ pass generation. omega (arith, nothing_taken generation, won_at-none (record { generation = 0; phase = Phase.Idle }) generation refl);
}

kept : (shape : Shape) → IsShape shape → IsKept (start_of shape)
kept shape h = record {
  shape = h;
  values = record { begun = λ g. omega arith; asked = λ g. omega arith; stored = λ g. refl; loud = λ g l. absurd (omega arith); own = λ g i. refl };
  debts = record { owed = λ p g. omega arith; heard = λ k heard e. absurd (cc); someone = λ g l. absurd (omega arith) };
  readings = record { greatest = λ p g. omega arith; owner = λ p g v e. absurd (cc); scanner = λ k g v e. absurd (cc) };
  owners = record { generation = λ p. refl; description = λ p at. refl; stage = λ p. refl; operation = λ p n. absurd (n refl) };
  generations = record {
    learned = λ k at word meeting m. absurd (cc);
    meeting = λ k meeting m. absurd (cc);
    entry = λ k g p entry e. absurd (cc);
    mark = λ p i. omega arith;
    taken = λ p g l. nothing_taken g;
    untaken = λ p n. nothing_taken 0;
    newest = λ k g meeting entry m. absurd (cc);
  };
  listings = record {
    marked = λ p i o. absurd (cc);
    seen = λ p i o. absurd (cc);
    complete = λ p i o. absurd (cc);
    right = λ k g p entry o. absurd (cc);
  };
  tally = λ p o. absurd (cc);
  time = λ p o. absurd (cc);
  opened = λ p n. absurd (n refl);
  scanners = λ k. record {
    heard = λ heard e. absurd (cc);
    entry = λ g p entry e. absurd (cc);
    duty = λ p duty e. absurd (cc);
    one_gauge = λ p q duty more e. absurd (cc);
    met = λ g meeting entry m. absurd (cc);
  };
}

pub starts : (shape : Shape) → IsShape shape → IsUpheld (start_of shape)
starts shape h = carried (start_of shape) (kept shape h) (wins shape)

pub starts_within : (shape : Shape) → IsWithin (start_of shape)
starts_within shape = record {
  gauges = record { value = λ g m. refl; asked = λ g m. refl; begun = λ g m. refl; source = λ g m. refl };
  passes = record {
    session = λ p m. refl;
    description = λ p m. refl;
    marks = λ p m. refl;
    caller = λ p m. refl;
    described = λ p at m. refl;
    marked = λ p i m. refl;
    generation = λ p. omega arith;
  };
  scanners = record {
    scanner = λ k n. refl;
    each = λ k. record { entry = λ g p entry e. absurd (cc); duty = λ p duty e. absurd (cc); meeting = λ meeting e. absurd (cc) };
  };
}
