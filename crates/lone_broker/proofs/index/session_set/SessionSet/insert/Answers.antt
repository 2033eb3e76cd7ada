use Rattle.std.proofs.Common.{ℕ, ◌*◌, ◌^◌, ◌%◌, ◌↔◌, ◌⊎◌, ◌≡◌, subst}
use Rattle.std.specs.Prelude.{bit_or}
use Rattle.lone_broker.specs.index.Sessions.{Has}
use Rattle.lone_broker.proofs.index.Bits.{insert_has}
use Rattle.lone_broker.proofs.index.session_set.SessionSet.insert.Goals as goal

pub returns : goal.returns
returns c = λ other.
    subst (λ (word : ℕ). Has (bit_or c.self.inside.word (1 * 2 ^ c.args.session % 2 ^ 64)) other ↔ (Has word other ⊎ (other ≡ c.args.session))) c.self.view_is
    (insert_has c.self.inside.word c.args.session c.requires other)
