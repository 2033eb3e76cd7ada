use Rattle.std.proofs.Common.{ℕ, ◌*◌, ◌^◌, ◌%◌, ◌↔◌, ◌≢◌, subst, arith, w64}
use Rattle.std.specs.Prelude.{bit_and}
use Rattle.std.specs.Int.{bit_not}
use Rattle.lone_broker.specs.index.Sessions.{Has}
use Rattle.lone_broker.proofs.index.Bits.{remove_has}
use Rattle.lone_broker.proofs.index.session_set.SessionSet.remove.Goals as goal

pub returns : goal.returns
returns c = λ other.
    subst (λ (word : ℕ). Has (bit_and c.self.inside.word (bit_not w64 (1 * 2 ^ c.args.session % 2 ^ 64))) other ↔ (Has word other × (other ≢ c.args.session))) c.self.view_is
    (remove_has c.self.inside.word c.args.session (omega arith) c.requires other)
