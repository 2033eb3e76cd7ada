-- A gauge is raised: its source stores, and a pass asks.
use Rattle.std.proofs.Common.{◌≡◌, ◌∙◌, ℕ, ◌≤◌, false, ap, refl, arith}
use Rattle.std.specs.Prelude.{max, nat_le}
use Rattle.std.proofs.lemmas.Bool.{cond-true, le-leb}
use Rattle.room_core.proofs.Laws.{put_else, put_here}
use Rattle.room_table.specs.declared.part.CallerStep.{CallerStep}
use Rattle.room_table.specs.declared.part.SourceStep.{SourceStep}
use Rattle.room_table.specs.Seats.{CallerView, SourceView, caller_did, caller_now, source_did, source_now}
use Rattle.purgatory.specs.Going.{GoesOn, KeepsOperation, OwesElse}
use Rattle.purgatory.specs.Raised.{HasRaised, IsQuietAt}
use Rattle.purgatory.proofs.Goes.{goes_by, goes_far, kept_far, one_step}

-- a pass reads a gauge, and asks that it be scanned up to that
pub asks : (a b : CallerView) (gauge value : ℕ) → b ≡ caller_did (caller_did a (CallerStep.Read gauge value)) (CallerStep.Asked gauge value) → HasRaised gauge value a b
asks a b gauge value e =
    let owed = (caller_now a).owed in
    let debt : (caller_now b).owed gauge ≡ max (owed gauge) value =
    ap (λ (v : CallerView). (caller_now v).owed gauge) e ∙ put_here owed gauge (max (owed gauge) value) in
    record {
      went = goes_by a (caller_did a (CallerStep.Read gauge value)) b (CallerStep.Asked gauge value) (one_step a (caller_did a (CallerStep.Read gauge value)) (CallerStep.Read gauge value) refl) e;
      kept = record {
        generation = ap (λ (v : CallerView). (caller_now v).generation) e;
        description = ap (λ (v : CallerView). (caller_now v).description) e;
        stage = ap (λ (v : CallerView). (caller_now v).stage) e;
        wins = ap (λ (v : CallerView). (caller_now v).wins) e;
        taken = ap (λ (v : CallerView). (caller_now v).taken) e;
      };
      owed = omega (arith, debt);
      others = λ other n. ap (λ (v : CallerView). (caller_now v).owed other) e ∙ put_else owed gauge (max (owed gauge) value) other n;
    }

-- and has done so often, the last time up to a value that is enough
pub asks_again : (a b c : CallerView) (gauge read value : ℕ) → GoesOn a b → KeepsOperation (caller_now a) (caller_now b) → OwesElse gauge (caller_now a) (caller_now b)
    → HasRaised gauge read b c → value ≤ read → HasRaised gauge value a c
asks_again a b c gauge read value went kept others h enough = record {
  went = goes_far a b c went h.went;
  kept = kept_far (caller_now a) (caller_now b) (caller_now c) kept h.kept;
  owed = let owed = h.owed in omega (arith, owed, enough);
  others = λ other n. h.others other n ∙ others other n;
}

-- a source that finds that all was asked for
pub hushes : (a b d : SourceView) (asked value : ℕ) → b ≡ source_did a (SourceStep.Hushed asked) → a.table ≡ d.table → a.gauge ≡ d.gauge → (source_now a).stored ≡ value → value ≤ asked → IsQuietAt value d b
hushes a b d asked value e table gauge stored enough =
    let s = source_now a in
    record {
      table = ap (λ (v : SourceView). v.table) e ∙ table;
      gauge = ap (λ (v : SourceView). v.gauge) e ∙ gauge;
      stored = ap (λ (v : SourceView). (source_now v).stored) e ∙ stored;
      quiet = ap (λ (v : SourceView). (source_now v).loud) e ∙ cond-true (nat_le s.stored asked) false s.loud (le-leb s.stored asked (omega (arith, stored, enough)));
    }
