use Rattle.std.proofs.Common.{◌≡◌, ◌∙◌, List, ap, map, subst, sym}
use Rattle.std.specs.Prelude.{All}
use Rattle.kwire.specs.Configuration.{followers_of}
use Rattle.kwire.specs.DeclaredTopics.{AreDeclared}
use Rattle.purgatory.specs.Ends.{IsUntaken}
use Rattle.shared_broker.specs.Closed.{gathered}
use Rattle.shared_broker.specs.Passes.{BrokerView}
use Rattle.shared_broker.proofs.ClosingAccount.{is_account, seats_made, seats_paid, seats_size, sheets_below, sheets_one, untaken_passes}
use Rattle.shared_broker.proofs.broker.Broker.close.Goals as goal
use Rattle.shared_logs.specs.Closing.{AreClosed, in_room}
use Rattle.shared_logs.specs.Shared.{LogPassView, SharedView, followers_in}

pub close-requires-clause-all : goal.close-requires-clause-all
close-requires-clause-all g c =
    let i = c.in-Ok.ensures in
    let is = c.self.view_is in
    seats_size c.args.self c.args.passes c.in-Ok.seats c.in-Ok.sheets i.passes i.joined c.requires.made c.requires.all ∙ sym (ap (λ (b : BrokerView). b.logs.room.table.shape.passes) is)

pub close-requires-clause-made : goal.close-requires-clause-made
close-requires-clause-made g c =
    let i = c.in-Ok.ensures in
    subst (λ (b : BrokerView). All (λ (one : LogPassView). one.made ≡ b.logs) c.in-Ok.seats) (sym c.self.view_is)
    (seats_made c.args.self c.args.passes c.in-Ok.seats c.in-Ok.sheets i.passes i.joined c.requires.made c.requires.all)

pub close-requires-clause-paid : goal.close-requires-clause-paid
close-requires-clause-paid g c =
    let i = c.in-Ok.ensures in
    seats_paid c.args.self c.args.passes c.in-Ok.seats c.in-Ok.sheets i.passes i.joined c.requires.made c.requires.all

pub account-requires-clause-numbers : goal.account-requires-clause-numbers
account-requires-clause-numbers g c =
    let i = c.in-Ok.ensures in
    sheets_below c.args.self c.args.passes c.in-Ok.seats c.in-Ok.sheets i.passes i.joined c.requires.made c.requires.all

pub account-requires-clause-one : goal.account-requires-clause-one
account-requires-clause-one g c =
    let i = c.in-Ok.ensures in
    let logs = c.in-Closed.closed in
    let closed : AreClosed c.args.self.logs c.in-Ok.seats logs.parts logs.clock logs.wins = subst (λ (b : BrokerView). AreClosed b.logs c.in-Ok.seats logs.parts logs.clock logs.wins) c.self.view_is c.in-Closed.ensures in
    sheets_one c.args.self c.args.passes c.in-Ok.seats c.in-Ok.sheets i.passes i.joined c.requires.made c.requires.all logs.parts logs.clock logs.wins closed

pub returns-in-Ok-account : goal.returns-in-Ok-account
returns-in-Ok-account g c =
    let i = c.in-Ok.ensures in
    let logs = c.in-Closed.closed in
    let a = c.in-Ok-account.ensures in
    let closed : AreClosed c.args.self.logs c.in-Ok.seats logs.parts logs.clock logs.wins = subst (λ (b : BrokerView). AreClosed b.logs c.in-Ok.seats logs.parts logs.clock logs.wins) c.self.view_is c.in-Closed.ensures in
    let topics : AreDeclared c.args.self.config.topics = subst (λ (b : BrokerView). AreDeclared b.config.topics) c.self.view_is c.self.invariant.0 in
    let followers : followers_in c.args.self.logs ≡ followers_of c.args.self.config.topics = subst (λ (b : BrokerView). followers_in b.logs ≡ followers_of b.config.topics) c.self.view_is c.self.invariant.1 in
    is_account c.args.self c.args.passes c.in-Ok.seats c.in-Ok.sheets i.passes i.joined c.requires.made c.requires.all logs.parts logs.clock logs.wins closed topics followers c.in-Ok-account.account
    a.histories.0 a.histories.1 (a.config ∙ ap (λ (b : BrokerView). b.config) c.self.view_is) a.wins a.size a.each

pub returns-in-Ok-put_together : goal.returns-in-Ok-put_together
returns-in-Ok-put_together g c =
    let i = c.in-Ok.ensures in
    let back = c.in-Untaken.ensures in (
      ap (λ (l : SharedView). record { config = c.self.inside.config; logs = l }) back.0 ∙ c.self.view_is,
      c.in-Ok-put_together.ensures ∙ ap (λ (l : List LogPassView). gathered l c.in-Ok.sheets) back.1 ∙ sym i.passes,
      untaken_passes c.args.self c.args.passes c.in-Ok.seats c.in-Ok.sheets i.passes i.joined c.requires.made c.requires.all (subst (λ (b : BrokerView). IsUntaken b.logs.room (map in_room c.in-Ok.seats)) c.self.view_is back.2),
    )
