use Rattle.std.proofs.Common.{ℕ, ◌↔◌, ◌⊎◌}
use Rattle.lone_broker.specs.index.Sessions.{Has}
use Rattle.lone_broker.proofs.index.Firsts.{IsFirst}
use Rattle.lone_broker.proofs.index.session_set.SessionSet.insert_all.Given as goal

abbrev pub invariant-loop-i : goal.invariant-loop-i
invariant-loop-i l = (other : ℕ) → Has l.self other ↔ (Has l.initial.self other ⊎ IsFirst l.i l.sessions other)
