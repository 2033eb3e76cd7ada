-- A worked account is that of the run of its lines, with the clock's pass and a tick of the command.
use Rattle.std.proofs.Common.{◌≡◌, ℕ, zero, suc, ◌<◌, List, [], ◌∷◌, Some, MatchBool, refl, arith}
use Rattle.std.specs.Prelude.{slice_get}
use Rattle.audit.specs.Worked.{closed_lines, closed_run, closed_transcript}
use Rattle.trace_file.specs.Contents.{is_named}
use Rattle.audit.specs.RunOf.{IsRunOf, IsSessionOf}

the_session : IsSessionOf closed_lines closed_run 0
the_session = record {
  transcript = closed_transcript;
  alone = refl;
  number = refl;
  fits = record { rest = []; frames = refl; each = tt; end = (refl, refl) };
  end = ((λ e. absurd cc), (λ e. absurd cc), (λ e. absurd cc));
}

by_session : (session : ℕ) → session < 1 → MatchBool (is_named session closed_lines) (IsSessionOf closed_lines closed_run session) (slice_get closed_run.passes session ≡ Some [])
by_session zero lt = the_session
by_session (suc session) lt = absurd (omega (arith, lt))

pub with_clock : IsRunOf closed_lines 9092 ([] ∷ []) (1000 ∷ []) closed_run
with_clock = record { config = refl; passes = refl; behind = refl; sessions = by_session; whole = tt; ticks = refl }

pub not_alone : IsRunOf closed_lines 9092 [] (1000 ∷ []) closed_run → ⊥
not_alone run = let count : 2 ≡ 1 = run.passes in absurd (omega (arith, count))

pub not_unticked : IsRunOf closed_lines 9092 ([] ∷ []) [] closed_run → ⊥
not_unticked run = let ticks : ◌≡◌ {A = List ℕ} (5 ∷ 1000 ∷ []) (5 ∷ []) = run.ticks in absurd cc
