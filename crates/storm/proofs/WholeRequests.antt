-- Requests of a load can be sent: their fields are those of their api's layout, and they are short.
use Rattle.std.proofs.Common.{ℕ, ◌<◌, ◌≤◌, ◌^◌, ℤ, pos, List, [], ◌∷◌, length, codes, Some, None, refl, arith, FitsSigned}
use Rattle.std.specs.Int.{w16, w32}
use Rattle.std.proofs.lemmas.List.{length-append}
use Rattle.kbatch.specs.Batch.{most_bytes}
use Rattle.kbatch.specs.Written.{written}
use Rattle.kwire.specs.Layouts.{times, followed_by}
use Rattle.storm.specs.declared.asking.Wish.{Wish}
use Rattle.storm.specs.declared.asking.TheConstants.{MOST_FETCHED, MOST_OF_PARTITION}
use Rattle.storm.specs.declared.load.TheConstants.{MOST_REQUESTS}
use Rattle.storm.specs.Formed.{produce_with, fetch_with}
use Rattle.storm.specs.Places.{partition_of}
use Rattle.storm.specs.Requests.{record_of, produce_of, fetch_of}
use Rattle.storm.specs.Sendable.{IsSendable}

small : (n : ℕ) → n < 2 ^ 31 → FitsSigned w32 (pos n)
small n lt = record { sfits = omega arith }

infixr 2 ◌▸◌
-- one fact, and then others
abbrev ◌▸◌ : {A B : Type 0} → A → B → A × B
◌▸◌ one others = (one, others)

pub any_produce : (bytes : List ℕ) (i p : ℕ) (acks : ℤ) (timeout : ℕ) → i < 2 ^ 31 → p < 2 ^ 31 → FitsSigned w16 acks → timeout < 2 ^ 31 → length bytes ≤ most_bytes → IsSendable i (produce_with bytes p acks timeout)
unfolding times followed_by
any_produce bytes i p acks timeout few index acked timed most = record {
  whole = record {
    whole = record {
      spelled = refl;
      version = refl;
      laid_out = record {
        named = 1;
        lead =
            ((pos 0, refl), record { sfits = omega arith }) ▸ ((pos 3, refl), record { sfits = omega arith }) ▸ ((pos i, refl), small i few) ▸ ((None, refl), tt)
            ▸ ((None, refl), tt) ▸ ((acks, refl), acked) ▸ ((pos timeout, refl), small timeout timed) ▸ ((1, refl), omega arith, omega arith)
            ▸ ((codes "storm", refl), omega arith) ▸ ((1, refl), omega arith, omega arith) ▸ ((pos p, refl), small p index) ▸ ((Some bytes, refl), omega (arith, most)) ▸ (refl, refl);
      };
      fitting = tt;
    };
    once = λ i j d lt within. absurd (omega (arith, lt, within));
  };
  short = omega (arith, most, length-append bytes []);
}

pub any_fetch : (i p : ℕ) (replica : ℤ) (wait least offset : ℕ) → i < 2 ^ 31 → p < 2 ^ 31 → FitsSigned w32 replica → wait < 2 ^ 31 → least < 2 ^ 31 → offset < 2 ^ 32 → IsSendable i (fetch_with p replica wait least offset)
unfolding times followed_by
any_fetch i p replica wait least offset few index fits waits leasts from = record {
  whole = record {
    whole = record {
      spelled = refl;
      version = refl;
      laid_out = record {
        named = 1;
        lead =
            ((pos 1, refl), record { sfits = omega arith }) ▸ ((pos 4, refl), record { sfits = omega arith }) ▸ ((pos i, refl), small i few) ▸ ((None, refl), tt)
            ▸ ((replica, refl), fits) ▸ ((pos wait, refl), small wait waits) ▸ ((pos least, refl), small least leasts) ▸ ((MOST_FETCHED, refl), record { sfits = omega arith })
            ▸ ((pos 0, refl, (0, omega arith, refl)), record { sfits = omega arith }) ▸ ((1, refl), omega arith, omega arith)
            ▸ ((codes "storm", refl), omega arith) ▸ ((1, refl), omega arith, omega arith) ▸ ((pos p, refl), small p index) ▸ ((pos offset, refl), record { sfits = omega arith })
            ▸ ((MOST_OF_PARTITION, refl), record { sfits = omega arith }) ▸ (refl, refl);
      };
      fitting = ((λ untold. refl, tt), tt);
    };
    once = λ i j d lt within. absurd (omega (arith, lt, within));
  };
  short = omega arith;
}

pub produce_sendable : (i : ℕ) (acks : ℤ) (timeout : ℕ) → i < MOST_REQUESTS → FitsSigned w16 acks → timeout < 2 ^ 31 → length (written (record_of i ∷ [])) ≤ most_bytes → IsSendable i (produce_of i acks timeout)
produce_sendable i acks timeout few acked timed most =
    any_produce (written (record_of i ∷ [])) i (partition_of i) acks timeout (omega arith) (omega arith) acked timed most

pub fetch_sendable : (i : ℕ) (wish : Wish) → i < MOST_REQUESTS → FitsSigned w32 wish.replica → wish.wait < 2 ^ 31 → wish.least < 2 ^ 31 → wish.offset < 2 ^ 32 → IsSendable i (fetch_of i wish)
fetch_sendable i wish few fits waits leasts from =
    any_fetch i (partition_of i) wish.replica wish.wait wish.least wish.offset (omega arith) (omega arith) fits waits leasts from
