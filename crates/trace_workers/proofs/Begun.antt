-- A run whose lines are all done, before its clock goes on.
use Rattle.std.proofs.Common.{◌≡◌, ℕ, Bool, true, false, List, [], append-nil, refl, subst, sym}
use Rattle.std.specs.Prelude.{MatchBool}
use Rattle.shared_broker.specs.Passes.{BrokerView}
use Rattle.trace_file.specs.declared.line.Line.{Line}
use Rattle.trace_workers.specs.Joined.{JoinedView, HasJoined, HasRun}
use Rattle.trace_workers.specs.WorkerRun.{AreSeconds, last_moment}

none_told : (P : Type 0) (drain : Bool) (moment : ℕ) → MatchBool drain (P → AreSeconds moment []) (◌≡◌ {A = List ℕ} [] [])
none_told P true moment = λ alone. tt
none_told P false moment = refl

pub begun : (broker : BrokerView) (lines : List Line) (count : ℕ) (drain : Bool) (joined : JoinedView) → HasJoined broker lines count joined → HasRun broker lines count drain joined
begun broker lines count drain joined h = record {
  added = [];
  whole = subst (λ (ls : List Line). HasJoined broker ls count joined) (sym (append-nil lines)) h;
  told = none_told _ drain (last_moment lines);
}
