use Rattle.std.proofs.Common.{ℕ, ◌+◌, ◌/◌, ◌^◌, subst, arith, w64}
use Rattle.std.specs.Int.{trailing_zeros}
use Rattle.lone_broker.specs.index.Sessions.{Has, IsLeastFrom}
use Rattle.lone_broker.proofs.index.Bits.{lowest_least, lowest_within, none_from, past_has}
use Rattle.lone_broker.proofs.index.session_set.SessionSet.least_from.Goals as goal

pub returns-then-from-ge-SESSIONS-clause-none : goal.returns-then-from-ge-SESSIONS-clause-none
returns-then-from-ge-SESSIONS-clause-none c = λ session above.
    let past = c.if-from-ge-SESSIONS.true in
    subst (λ (word : ℕ). ¬ Has word session) c.self.view_is (past_has c.self.inside.word session (omega arith) (omega arith))

pub returns-then-rest-eq0-clause-none : goal.returns-then-rest-eq0-clause-none
returns-then-rest-eq0-clause-none c = λ session above.
    subst (λ (word : ℕ). ¬ Has word session) c.self.view_is (none_from c.self.inside.word c.args.from c.if-rest-eq0.true session above)

pub returns-clause-found : goal.returns-clause-found
returns-clause-found c =
    subst (λ (word : ℕ). IsLeastFrom word c.args.from (c.args.from + trailing_zeros w64 (c.self.inside.word / 2 ^ c.args.from))) c.self.view_is
    (lowest_least c.self.inside.word c.args.from (omega arith) (omega arith))

pub returns-clause-within : goal.returns-clause-within
returns-clause-within c = lowest_within c.self.inside.word c.args.from (omega arith) (omega arith)
