use Rattle.std.proofs.Common.{List, length, refl, sym, ap, subst, ◌∙◌, arith}
use Rattle.partlog.specs.History.{History}
use Rattle.partlog.specs.declared.numbers.Numbers.{Numbers}
use Rattle.audit.specs.declared.account.Point.{Point}
use Rattle.audit.specs.broker.Acting.{Acts}
use Rattle.audit.specs.broker.Board.{next_call, transcript_at}
use Rattle.lone_broker.specs.Steps.{last_points}
use Rattle.lone_broker.specs.Kept.{parked_at}
use Rattle.lone_broker.specs.Telling.{AreToldOf}
use Rattle.lone_broker.specs.Watching.{AreWatched, IsWatched}
use Rattle.lone_broker.proofs.Standing.{written}
use Rattle.lone_broker.proofs.Turning.{stands_then}
use Rattle.lone_broker.proofs.Watching.{acted_told, acted_watched, few_told, may_wait}
use Rattle.lone_broker.proofs.watched.Watched.act.Goals as goal

pub last_points-points-requires-clause-stands : goal.last_points-points-requires-clause-stands
last_points-points-requires-clause-stands c =
    stands_then (λ board. Acts board c.args.session) c.args.self.now.engine c.act.new.self c.args.out.now c.act.new.out c.in_ok-act.ensures.acts c.requires.watched.stands

pub tell-requires-clause-size : goal.tell-requires-clause-size
tell-requires-clause-size c =
    let h = c.requires.watched in
    ap length c.as_mut_slice-told.ensures.value ∙ h.told.size ∙ sym c.in_ok-act.ensures.alone.size ∙ sym (ap length c.parts.ensures)

pub tell-requires-clause-few : goal.tell-requires-clause-few
tell-requires-clause-few c = omega (arith, ap length c.as_mut_slice-told.ensures.value, few_told c.args.self.now c.requires.watched)

pub park-requires-clause-stands : goal.park-requires-clause-stands
park-requires-clause-stands c =
    stands_then (λ board. Acts board c.args.session) c.args.self.now.engine c.act.new.self c.args.out.now c.act.new.out c.in_ok-act.ensures.acts c.requires.watched.stands

pub park-requires-clause-free : goal.park-requires-clause-free
park-requires-clause-free c =
    let h = c.requires.watched in
    let acted = c.in_ok-act.ensures.alone in
    let s = c.args.session in
    may_wait c.args.self.now.engine c.act.new.self c.tell.new.waiters s (c.tell.ensures.warned.moment ∙ h.moment ∙ sym acted.alone.moment)
    (omega (arith, (c.tell.ensures.warned.waits s).watches.last, h.generations s)) acted.left

pub note-requires-clause-stands : goal.note-requires-clause-stands
note-requires-clause-stands c =
    stands_then (λ board. Acts board c.args.session) c.args.self.now.engine c.act.new.self c.args.out.now c.act.new.out c.in_ok-act.ensures.acts c.requires.watched.stands

pub returns-clause-watched : goal.returns-clause-watched
returns-clause-watched c =
    let w = c.args.self.now in
    let h = c.requires.watched in
    let s = c.args.session in
    let engine = c.act.new.self in
    let later = c.tell.new.told in
    let acted = c.in_ok-act.ensures.alone in
    let value = c.as_mut_slice-told.ensures.value in
    let points = last_points (transcript_at engine.board s).calls in
    let of : AreToldOf engine.board.parts points w.told later =
    subst (λ (ps : List History). AreToldOf ps points w.told later) c.parts.ensures
    (subst (λ (ps : List Point). AreToldOf c.parts.result.now ps w.told later) c.last_points-points.ensures
    (subst (λ (ns : List Numbers). AreToldOf c.parts.result.now c.last_points-points.result.now ns later) value c.tell.ensures.told)) in
    let waits = c.tell.ensures.watched (parked_at w.engine) (subst (λ (ns : List Numbers). AreWatched w.waiters ns (parked_at w.engine)) (sym value) h.waits) in
    let stands = stands_then (λ board. Acts board s) w.engine engine c.args.out.now c.act.new.out c.in_ok-act.ensures.acts h.stands in
    subst (λ (ns : List Numbers). IsWatched (record { engine = engine; told = ns; waiters = c.park.new.waiters; ready = c.note.new.ready })) (sym (written w.told later of.size))
    (acted_watched w engine later c.tell.new.waiters c.park.new.waiters s h acted c.requires.idle (acted_told w.engine engine s w.told later h.told acted of) waits
    (c.tell.ensures.warned.moment ∙ h.moment ∙ sym acted.alone.moment) c.park.ensures.moment (next_call engine.board s) c.note.new.ready stands c.park.ensures.taken refl c.park.ensures.others c.park.ensures.suspects
    (λ k. (c.tell.ensures.warned.waits k).watches.last) c.note.ensures.own c.note.ensures.others)
