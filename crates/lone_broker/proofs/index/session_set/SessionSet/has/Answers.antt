use Rattle.std.proofs.Common.{ℕ, ◌≡◌, ◌↔◌, ◌/◌, ◌^◌, subst, eqb, true}
use Rattle.std.specs.Prelude.{bit_and}
use Rattle.lone_broker.specs.index.Sessions.{Has}
use Rattle.lone_broker.proofs.index.Bits.{has_tests}
use Rattle.lone_broker.proofs.index.session_set.SessionSet.has.Goals as goal

pub returns : goal.returns
returns c =
    subst (λ (word : ℕ). (eqb (bit_and (c.self.inside.word / 2 ^ c.args.session) 1) 1 ≡ true) ↔ Has word c.args.session) c.self.view_is
    (has_tests c.self.inside.word c.args.session)
