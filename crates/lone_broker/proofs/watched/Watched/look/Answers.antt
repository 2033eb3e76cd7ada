use Rattle.std.proofs.Common.{◌≡◌, sym}
use Rattle.audit.specs.broker.Completing.{answered_in}
use Rattle.lone_broker.proofs.Completes.{nothing_due}
use Rattle.lone_broker.proofs.Turning.{stands_then, turns_none}
use Rattle.lone_broker.proofs.Watching.{cleared_watched, freed_watched}
use Rattle.lone_broker.proofs.watched.Watched.look.Goals as goal

pub returns-in_default-clause-answers : goal.returns-in_default-clause-answers
returns-in_default-clause-answers c =
    turns_none (λ board t. t ≡ answered_in board c.args.session) c.args.self.now.engine c.args.out.now (λ board stands. sym (nothing_due board c.args.session (sym (c.in_default.ensures board stands))))

pub returns-in_default-clause-watched : goal.returns-in_default-clause-watched
returns-in_default-clause-watched c =
    cleared_watched c.args.self.now c.clear.new.self c.args.session c.requires.watched c.in_default.ensures c.clear.ensures.suspects c.clear.ensures.sessions c.clear.ensures.moment

pub note-requires-clause-stands : goal.note-requires-clause-stands
note-requires-clause-stands c =
    stands_then (λ board t. t ≡ answered_in board c.args.session) c.args.self.now.engine c.complete.new.self c.args.out.now c.complete.new.out c.in_ok-complete.ensures.answers c.requires.watched.stands

pub returns-clause-watched : goal.returns-clause-watched
returns-clause-watched c =
    let stands = stands_then (λ board t. t ≡ answered_in board c.args.session) c.args.self.now.engine c.complete.new.self c.args.out.now c.complete.new.out c.in_ok-complete.ensures.answers c.requires.watched.stands in
    freed_watched c.args.self.now c.complete.new.self c.done.new.self c.note.new.ready c.args.session c.requires.watched stands c.in_ok-complete.ensures.freed
    c.done.ensures.done c.done.ensures.others c.done.ensures.suspects c.done.ensures.moment c.note.ensures.own c.note.ensures.others
