use Rattle.std.proofs.Common.{◌≡◌, ◌≢◌, ◌<◌, ◌≤◌, ℕ, List, true, false, get_or, length}
use Rattle.trace_file.specs.declared.line.Line.{Line}
use Rattle.trace_workers.specs.Resting.{Rests}
use Rattle.trace_workers.specs.Sessions.{SessionView}
use Rattle.trace_workers.specs.Joined.{HasJoined, KeepAsBefore}
use Rattle.trace_workers.proofs.joined.JoinedSessions.round.Given as goal

abbrev pub invariant-loop-at : goal.invariant-loop-at
invariant-loop-at g l = record {
  clock : l.self.clock ≡ l.initial.self.clock;
  size : length l.self.sessions ≡ length l.initial.self.sessions;
  whole : (lines : List Line) (count : ℕ) → HasJoined l.broker lines count l.initial.self → HasJoined l.broker lines count l.self;
  kept : KeepAsBefore l.initial.self l.self;
  untouched : (k : ℕ) (s : SessionView) → l.at ≤ k → get_or l.self.sessions k s ≡ get_or l.initial.self.sessions k s;
  moved : l.did ≡ true → (k : ℕ) × (k < l.at) × ((s : SessionView) → get_or l.self.sessions k s ≢ get_or l.initial.self.sessions k s);
  rests : l.did ≡ false → (k : ℕ) (s : SessionView) → k < l.at → Rests (get_or l.self.sessions k s);
}
