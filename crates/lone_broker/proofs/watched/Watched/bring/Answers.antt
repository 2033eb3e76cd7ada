use Rattle.std.proofs.Common.{List, length, sym, ap, subst, ◌∙◌, arith}
use Rattle.partlog.specs.declared.numbers.Numbers.{Numbers}
use Rattle.trace_file.specs.declared.line.Line.{Line}
use Rattle.audit.specs.broker.Play.{brought}
use Rattle.lone_broker.specs.Kept.{Stands, parked_at}
use Rattle.lone_broker.specs.Steps.{IsBrought}
use Rattle.lone_broker.specs.Watching.{AreTold, AreWatched, IsWatched}
use Rattle.lone_broker.proofs.Standing.{written}
use Rattle.lone_broker.proofs.Watching.{few_told, reseated_watched, ticked_watched}
use Rattle.lone_broker.proofs.watched.Watched.bring.Goals as goal

pub note-requires-clause-stands : goal.note-requires-clause-stands
note-requires-clause-stands c =
    let stands = c.requires.watched.stands in
    (brought stands.0 c.args.line.now, c.in_ok-bring.ensures.brought stands.0 stands.1)

pub note-requires-in-Shut-clause-stands : goal.note-requires-in-Shut-clause-stands
note-requires-in-Shut-clause-stands c =
    let stands = c.requires.watched.stands in
    (brought stands.0 c.args.line.now, c.in_ok-bring.ensures.brought stands.0 stands.1)

pub returns-in-Feed-clause-watched : goal.returns-in-Feed-clause-watched
returns-in-Feed-clause-watched c =
    let w = c.args.self.now in
    let stands = c.requires.watched.stands in
    let alone = subst (λ (l : Line). IsBrought l w.engine c.bring.new.self) c.in-Feed.is c.in_ok-bring.ensures.alone in
    reseated_watched w c.bring.new.self c.note.new.ready c.in-Feed.session c.requires.watched (brought stands.0 c.args.line.now, c.in_ok-bring.ensures.brought stands.0 stands.1) alone c.note.ensures.own c.note.ensures.others

pub returns-in-Shut-clause-watched : goal.returns-in-Shut-clause-watched
returns-in-Shut-clause-watched c =
    let w = c.args.self.now in
    let stands = c.requires.watched.stands in
    let alone = subst (λ (l : Line). IsBrought l w.engine c.bring.new.self) c.in-Shut.is c.in_ok-bring.ensures.alone in
    reseated_watched w c.bring.new.self c.note-in-Shut.new.ready c.in-Shut.session c.requires.watched (brought stands.0 c.args.line.now, c.in_ok-bring.ensures.brought stands.0 stands.1) alone c.note-in-Shut.ensures.own c.note-in-Shut.ensures.others

pub tell_all-requires-clause-size : goal.tell_all-requires-clause-size
tell_all-requires-clause-size c =
    let w = c.args.self.now in
    let h = c.requires.watched in
    let ticked = subst (λ (l : Line). IsBrought l w.engine c.bring.new.self) c.in-Clock.is c.in_ok-bring.ensures.alone in
    ap length c.as_mut_slice-told.ensures.value ∙ h.told.size ∙ sym ticked.size ∙ sym (ap length c.parts.ensures)

pub tell_all-requires-clause-few : goal.tell_all-requires-clause-few
tell_all-requires-clause-few c = omega (arith, ap length c.as_mut_slice-told.ensures.value, few_told c.args.self.now c.requires.watched)

pub tick-requires : goal.tick-requires
tick-requires c =
    let w = c.args.self.now in
    let ticked = subst (λ (l : Line). IsBrought l w.engine c.bring.new.self) c.in-Clock.is c.in_ok-bring.ensures.alone in
    omega (arith, c.tell_all.ensures.warned.moment, c.requires.watched.moment, ticked.later, c.moment.ensures.moment)

pub returns-in-Clock-clause-watched : goal.returns-in-Clock-clause-watched
returns-in-Clock-clause-watched c =
    let w = c.args.self.now in
    let h = c.requires.watched in
    let engine = c.bring.new.self in
    let later = c.tell_all.new.told in
    let value = c.as_mut_slice-told.ensures.value in
    let ticked = subst (λ (l : Line). IsBrought l w.engine engine) c.in-Clock.is c.in_ok-bring.ensures.alone in
    let are : AreTold later engine.board.parts = subst (AreTold later) c.parts.ensures c.tell_all.ensures.told in
    let waits = c.tell_all.ensures.watched (parked_at w.engine) (subst (λ (ns : List Numbers). AreWatched w.waiters ns (parked_at w.engine)) (sym value) h.waits) in
    let stands : Stands engine = (brought h.stands.0 c.args.line.now, c.in_ok-bring.ensures.brought h.stands.0 h.stands.1) in
    subst (λ (ns : List Numbers). IsWatched (record { engine = engine; told = ns; waiters = c.tick.new.self; ready = w.ready })) (sym (written w.told later (are.size ∙ ticked.size ∙ sym h.told.size)))
    (ticked_watched w engine later c.tell_all.new.waiters c.tick.new.self c.moment.result h stands ticked are waits c.tell_all.ensures.warned.moment (λ s. (c.tell_all.ensures.warned.waits s).watches.last) c.moment.ensures.moment
    c.tick.ensures.moment c.tick.ensures.suspects c.tick.ensures.watches c.tick.ensures.coming)
