use Rattle.std.proofs.Common.{refl}
use Rattle.audit.specs.broker.Board.{passes_of}
use Rattle.audit.specs.Histories.{calls_in}
use Rattle.audit.specs.IsLawful.{is_won_by}
use Rattle.std.specs.Prelude.{count_by}
use Rattle.std.specs.List.{flat_map}
use Rattle.lone_broker.proofs.Closings.{account_made}
use Rattle.lone_broker.proofs.closing.account.Goals as goal

pub returns : goal.returns
returns c = λ waiting.
    let books = c.in_ok-accounts.field-0 in
    let told = c.in_ok-accounts.ensures in
    account_made c.args.config c.args.parts c.args.desks waiting books.parts c.args.clock c.into_events.result books.passes books.wins (count_by (is_won_by 0) (flat_map calls_in (passes_of c.args.desks)))
    told.parts
    c.into_events.ensures.events
    told.passes
    told.wins
    refl
