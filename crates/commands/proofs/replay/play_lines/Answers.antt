use Rattle.std.proofs.Common.{◌≡◌, ◌+◌, ℕ, List, [], ◌∷◌, ◌++◌, length, take, refl, sym, ap, subst, ◌∙◌, arith}
use Rattle.std.proofs.KnownBytes.{Appends-nil}
use Rattle.std.proofs.lemmas.Result.{err_from_is_err_and}
use Rattle.std.specs.Io.KnownBytes.{Appends}
use Rattle.std.specs.Vec.Iter.{into_iter_items}
use Rattle.trace_file.specs.declared.line.Line.{Line}
use Rattle.audit.specs.broker.Turns.{Turned}
use Rattle.audit.specs.broker.Play.{Plays}
use Rattle.audit.proofs.broker.Laws.{plays_on}
use Rattle.commands.proofs.Replays.{playable_among, all_yielded, front_of_lines, front_within, lines_whole, played_more}
use Rattle.commands.proofs.Writes.{front_behind}
use Rattle.commands.proofs.replay.play_lines.Goals as goal

pub event-requires : goal.event-requires
event-requires g c =
    let next = into_iter_items c.next.new.self in
    let steps : into_iter_items c.loop-line.line-iterator ≡ c.in-Some.line ∷ next = c.in-Some.ensures.steps.0 in
    playable_among c.args.lines c.loop-line.yielded c.in-Some.line next c.requires (ap (λ (ls : List Line). c.loop-line.yielded ++ ls) (sym steps) ∙ c.loop-line.invariant.whole)

pub returns-in_err-event-clause-front : goal.returns-in_err-event-clause-front
returns-in_err-event-clause-front g c =
    let p = err_from_is_err_and c.from_residual.result c.from_residual.ensures.1 in
    let inv = c.loop-line.invariant in
    rw p.1 (λ start stands.
    let h = inv.played start stands in
    (h.0.text, front_of_lines start c.args.lines c.loop-line.yielded (into_iter_items c.loop-line.line-iterator) h.0 (sym inv.whole) h.1, h.3))

pub returns-in_err-write_all-clause-front : goal.returns-in_err-write_all-clause-front
returns-in_err-write_all-clause-front g c =
    let p = err_from_is_err_and c.from_residual-in_err-write_all.result c.from_residual-in_err-write_all.ensures.1 in
    let lines = c.args.lines in
    let done = c.loop-line.yielded in
    let line = c.in-Some.line in
    let next = into_iter_items c.next.new.self in
    let steps : into_iter_items c.loop-line.line-iterator ≡ line ∷ next = c.in-Some.ensures.steps.0 in
    let inv = c.loop-line.invariant in
    let front = c.in_err-write_all.ensures.front in
    let before = g.K.Sink.written c.args.sink.now in
    let between = g.K.Sink.written c.loop-line.sink in
    let after = g.K.Sink.written c.write_all.new.sink in
    rw p.1 (λ start stands.
    let h = inv.played start stands in
    let here = c.in_ok-event.ensures.plays h.0.board h.2 in
    let text = h.0.text ++ here.0.text in
    let part : c.as_slice.result.now ≡ here.0.text = c.as_slice.ensures ∙ here.3 ∙ ap (λ (xs : List ℕ). xs ++ here.0.text) c.truncate.ensures in
    let last : Turned = record { board = here.0.board; text = text } in
    let played : Plays start (done ++ line ∷ []) last = plays_on start done line h.0 here.0 h.1 here.1 in
    let whole : lines ≡ (done ++ line ∷ []) ++ next = sym (lines_whole lines done line (into_iter_items c.loop-line.line-iterator) next steps inv.whole) in
    let written : Appends between after (take front.0 here.0.text) = subst (λ (xs : List ℕ). Appends between after (take front.0 xs)) part front.2 in (
      take (length h.0.text + front.0) text,
      front_within start lines (done ++ line ∷ []) next last (length h.0.text + front.0) whole played,
      front_behind before between after h.0.text here.0.text front.0 h.3 written,
    ))

pub loop-line-init : goal.loop-line-init
loop-line-init g c = record {
  played = λ start stands. (record { board = start; text = [] }, refl, stands, Appends-nil (g.K.Sink.written c.args.sink.now));
  len = c.into_iter-line-iterator.ensures.into_iter_gives.1 ∙ c.into_vec-line-items.result.ok.0 ∙ sym (ap (λ (ls : List Line). length ls) c.into_iter-line-iterator.ensures.into_iter_gives.0);
  whole = c.into_iter-line-iterator.ensures.into_iter_gives.0 ∙ c.into_vec-line-items.ensures;
  later = omega arith;
}

pub loop-line-preserved-in_ok-write_all : goal.loop-line-preserved-in_ok-write_all
loop-line-preserved-in_ok-write_all g c =
    let inv = c.loop-line.invariant in
    let next = c.in-Some.ensures.steps in record {
      played = played_more (g.K.Sink.written c.args.sink.now) (g.K.Sink.written c.loop-line.sink) (g.K.Sink.written c.write_all.new.sink) c.args.lone.now.kept c.loop-line.lone.kept c.event.new.self.kept
          c.loop-line.yielded c.in-Some.line c.truncate.new.self c.event.new.out c.as_slice.result.now inv.played c.in_ok-event.ensures.plays c.truncate.ensures c.as_slice.ensures c.in_ok-write_all.ensures.written;
      len = omega (arith, inv.len, next.1, ap (λ (ls : List Line). length ls) next.0);
      whole = lines_whole c.args.lines c.loop-line.yielded c.in-Some.line (into_iter_items c.loop-line.line-iterator) (into_iter_items c.next.new.self) next.0 inv.whole;
      later = omega (arith, inv.later, c.in_ok-write_all.ensures.later);
    }

pub loop-line-preserved-in_ok-write_all-2 : goal.loop-line-preserved-in_ok-write_all-2
loop-line-preserved-in_ok-write_all-2 g c =
    let inv = c.loop-line.invariant in
    let next = c.in-Some.ensures.steps in record {
      played = played_more (g.K.Sink.written c.args.sink.now) (g.K.Sink.written c.loop-line.sink) (g.K.Sink.written c.write_all.new.sink) c.args.lone.now.kept c.loop-line.lone.kept c.event.new.self.kept
          c.loop-line.yielded c.in-Some.line c.truncate.new.self c.event.new.out c.as_slice.result.now inv.played c.in_ok-event.ensures.plays c.truncate.ensures c.as_slice.ensures c.in_ok-write_all.ensures.written;
      len = omega (arith, inv.len, next.1, ap (λ (ls : List Line). length ls) next.0);
      whole = lines_whole c.args.lines c.loop-line.yielded c.in-Some.line (into_iter_items c.loop-line.line-iterator) (into_iter_items c.next.new.self) next.0 inv.whole;
      later = omega (arith, inv.later, c.in_ok-write_all.ensures.later);
    }

pub loop-line-preserved : goal.loop-line-preserved
loop-line-preserved g c =
    let inv = c.loop-line.invariant in
    let next = c.in-Some.ensures.steps in record {
      played = played_more (g.K.Sink.written c.args.sink.now) (g.K.Sink.written c.loop-line.sink) (g.K.Sink.written c.write_all.new.sink) c.args.lone.now.kept c.loop-line.lone.kept c.event.new.self.kept
          c.loop-line.yielded c.in-Some.line c.truncate.new.self c.event.new.out c.as_slice.result.now inv.played c.in_ok-event.ensures.plays c.truncate.ensures c.as_slice.ensures c.in_ok-write_all.ensures.written;
      len = omega (arith, inv.len, next.1, ap (λ (ls : List Line). length ls) next.0);
      whole = lines_whole c.args.lines c.loop-line.yielded c.in-Some.line (into_iter_items c.loop-line.line-iterator) (into_iter_items c.next.new.self) next.0 inv.whole;
      later = omega (arith, inv.later, c.in_ok-write_all.ensures.later);
    }

pub returns-clause-played : goal.returns-clause-played
returns-clause-played g c = λ start stands.
    let inv = c.loop-line.invariant in
    let h = inv.played start stands in
    let all : c.loop-line.yielded ≡ c.args.lines = all_yielded c.args.lines c.loop-line.yielded (into_iter_items c.loop-line.line-iterator) (omega (arith, inv.len, c.in-None.ensures.steps.0)) inv.whole in
    (h.0, subst (λ (ls : List Line). Plays start ls h.0) all h.1, h.2, h.3)
