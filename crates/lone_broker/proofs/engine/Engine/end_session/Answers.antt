use Rattle.std.proofs.Common.{◌≡◌, sym, subst}
use Rattle.audit.specs.broker.Board.{next_call, seat_at}
use Rattle.audit.specs.broker.Turns.{ended}
use Rattle.lone_broker.specs.Kept.{Kept, TurnsBy}
use Rattle.lone_broker.proofs.Bringing.{ended_seat, ended_turns}
use Rattle.audit.proofs.Laws.{on_ok}
use Rattle.lone_broker.specs.Steps.{IsReseated}
use Rattle.lone_broker.proofs.Standing.{desk_changed}
use Rattle.lone_broker.proofs.Steps.{is_reseated, no_less}
use Rattle.lone_broker.proofs.engine.Engine.end_session.Goals as goal

pub returns-clause-ended : goal.returns-clause-ended
returns-clause-ended c =
    let i = c.self.inside in
    on_ok c.put_end_line.result c.put_end_line.ensures (λ told.
    subst (λ (k : Kept). TurnsBy (λ board t. t ≡ ended board c.args.session c.args.end) c.args.self.now k c.args.out.now c.put_end_line.new.out)
    (sym (desk_changed i.config i.parts i.clock i.desks c.as_mut_slice.result.now i.parked c.args.self.now c.args.session (ended_seat c.args.session c.args.end) c.index-as_mut_slice-session.result c.end.new.self c.self.view_is c.requires c.as_mut_slice.ensures.value c.index-as_mut_slice-session.is c.end.ensures))
    (ended_turns c.args.self.now c.args.session c.args.end c.args.out.now c.put_end_line.new.out c.requires told))

pub returns-clause-alone : goal.returns-clause-alone
returns-clause-alone c =
    let i = c.self.inside in
    let kept = c.args.self.now in
    let s = c.args.session in
    on_ok c.put_end_line.result c.put_end_line.ensures (λ told.
    subst (IsReseated s kept)
    (sym (desk_changed i.config i.parts i.clock i.desks c.as_mut_slice.result.now i.parked kept s (ended_seat s c.args.end) c.index-as_mut_slice-session.result c.end.new.self c.self.view_is c.requires c.as_mut_slice.ensures.value c.index-as_mut_slice-session.is c.end.ensures))
    (is_reseated kept s (ended_seat s c.args.end (seat_at kept.board s)) c.requires (no_less (next_call kept.board s))))
