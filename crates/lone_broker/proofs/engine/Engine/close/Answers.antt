use Rattle.std.proofs.Common.{◌≡◌, List, ap, arith, length, sym, ◌∙◌}
use Rattle.audit.specs.broker.Board.{Waiting, account_of}
use Rattle.lone_broker.specs.Kept.{Kept, with_waiting}
use Rattle.lone_broker.proofs.Closings.{if_ok_each}
use Rattle.lone_broker.proofs.ReadForReply.{if_ok_then}
use Rattle.lone_broker.proofs.engine.Engine.close.Goals as goal

pub account-requires : goal.account-requires
account-requires c = omega (arith, c.requires.1.kept_of.seats, ap (λ (k : Kept). length k.board.seats) c.self.view_is)

pub returns : goal.returns
returns c =
    let i = c.self.inside in
    if_ok_then c.account.result (if_ok_each (λ (waiting : List Waiting) account. account ≡ account_of (record { config = i.config; parts = i.parts; clock = i.clock; seats = i.desks; waiting = waiting })) c.account.result c.account.ensures) (λ account told board stands.
    told board.waiting ∙ ap (λ (k : Kept). account_of (with_waiting k board.waiting)) c.self.view_is ∙ ap account_of (sym stands.same))
