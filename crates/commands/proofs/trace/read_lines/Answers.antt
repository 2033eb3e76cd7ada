use Rattle.std.proofs.Common.{◌≡◌, ◌<◌, ◌≤◌, ◌+◌, ◌-◌, ◌⊎◌, ◌++◌, length, sym, ◌∙◌, inl, inr, arith, length-append, length-take}
use Rattle.std.proofs.KnownBytes.{Consumes-trans}
use Rattle.std.proofs.lemmas.Result.{err_from_is_err_and}
use Rattle.trace_file.specs.declared.line.TheConstants.{MOST_TRACE_BYTES}
use Rattle.commands.specs.Streams.{IsInput}
use Rattle.commands.proofs.Replays.{bad_line_told, part_read, room_left, text_of}
use Rattle.commands.proofs.trace.read_lines.Goals as goal
use Rattle.commands.proofs.trace.read_lines.Goals.{then-came-want-via-then-came-want, then-came-want-via-else-came-want+then-room-eq0}

pub lines-requires : goal.lines-requires
lines-requires g c =
    let i = c.parts.invariant in
    (c.args.only_topics, i.text ++ c.in-Ok.part.now, c.in_ok-reader.ensures c.args.only_topics i.text i.taken)

pub returns-in_err-lines-clause-bad_line : goal.returns-in_err-lines-clause-bad_line
returns-in_err-lines-clause-bad_line g c =
    let i = c.parts.invariant in
    let only = c.args.only_topics in
    let part = c.in-Ok.part.now in
    let text = i.text ++ part in
    let taken = c.in_ok-reader.ensures only i.text i.taken in
    let last : (length part < c.min-want.result) ⊎ ((MOST_TRACE_BYTES + 1) - length text ≡ 0) = elim c.then-came-want.branch [
      | then-came-want-via-then-came-want w ↦ inl w.if-came-want.true
      | then-came-want-via-else-came-want+then-room-eq0 w ↦ inr (sym (w.room-else-came-want.ensures only text taken) ∙ w.if-room-eq0.true)
    ] in
    let input : IsInput (g.S.Source.left c.args.source.now) (g.S.Source.left c.fill.new.source) text = part_read (g.S.Source.left c.args.source.now) (g.S.Source.left c.parts.source) (g.S.Source.left c.fill.new.source) i.text part c.min-want.result c.room.result i.consumed c.in-Ok.ensures.came
    i.few (c.room.ensures only i.text i.taken) (omega (arith, c.in-Ok.ensures.most, length-take c.min-want.result c.deref_mut.result.now)) (omega (arith, c.min-want.ensures))
    (λ less. c.in-Ok.ensures.end (omega (arith, less, length-take c.min-want.result c.deref_mut.result.now, c.deref_mut.ensures.len, c.len.ensures, c.min-want.ensures))) last
    in
    let fault = c.in_err-lines.field-0.0 in
    let p = err_from_is_err_and c.from_residual-in_err-lines.result c.from_residual-in_err-lines.ensures.1 in
    rw (p.1, p.2) (bad_line_told (g.S.Source.left c.args.source.now) (g.S.Source.left c.fill.new.source) text only fault input (c.in_err-lines.ensures.bad only text taken))

pub returns-then-came-want-clause-trace : goal.returns-then-came-want-clause-trace
returns-then-came-want-clause-trace g c =
    let i = c.parts.invariant in
    let only = c.args.only_topics in
    let part = c.in-Ok.part.now in
    let text = i.text ++ part in
    let taken = c.in_ok-reader.ensures only i.text i.taken in
    let last : (length part < c.min-want.result) ⊎ ((MOST_TRACE_BYTES + 1) - length text ≡ 0) = elim c.then-came-want.branch [
      | then-came-want-via-then-came-want w ↦ inl w.if-came-want.true
      | then-came-want-via-else-came-want+then-room-eq0 w ↦ inr (sym (w.room-else-came-want.ensures only text taken) ∙ w.if-room-eq0.true)
    ] in
    let input : IsInput (g.S.Source.left c.args.source.now) (g.S.Source.left c.fill.new.source) text = part_read (g.S.Source.left c.args.source.now) (g.S.Source.left c.parts.source) (g.S.Source.left c.fill.new.source) i.text part c.min-want.result c.room.result i.consumed c.in-Ok.ensures.came
    i.few (c.room.ensures only i.text i.taken) (omega (arith, c.in-Ok.ensures.most, length-take c.min-want.result c.deref_mut.result.now)) (omega (arith, c.min-want.ensures))
    (λ less. c.in-Ok.ensures.end (omega (arith, less, length-take c.min-want.result c.deref_mut.result.now, c.deref_mut.ensures.len, c.len.ensures, c.min-want.ensures))) last
    in
    let trace = c.in_ok-lines.ensures.trace only text taken in
    (text, trace, (text_of (g.S.Source.left c.args.source.now) (g.S.Source.left c.fill.new.source) text input trace.trace.size).1)

pub returns-then-came-want-clause-end : goal.returns-then-came-want-clause-end
returns-then-came-want-clause-end g c =
    let i = c.parts.invariant in
    let only = c.args.only_topics in
    let part = c.in-Ok.part.now in
    let text = i.text ++ part in
    let taken = c.in_ok-reader.ensures only i.text i.taken in
    let last : (length part < c.min-want.result) ⊎ ((MOST_TRACE_BYTES + 1) - length text ≡ 0) = elim c.then-came-want.branch [
      | then-came-want-via-then-came-want w ↦ inl w.if-came-want.true
      | then-came-want-via-else-came-want+then-room-eq0 w ↦ inr (sym (w.room-else-came-want.ensures only text taken) ∙ w.if-room-eq0.true)
    ] in
    let input : IsInput (g.S.Source.left c.args.source.now) (g.S.Source.left c.fill.new.source) text = part_read (g.S.Source.left c.args.source.now) (g.S.Source.left c.parts.source) (g.S.Source.left c.fill.new.source) i.text part c.min-want.result c.room.result i.consumed c.in-Ok.ensures.came
    i.few (c.room.ensures only i.text i.taken) (omega (arith, c.in-Ok.ensures.most, length-take c.min-want.result c.deref_mut.result.now)) (omega (arith, c.min-want.ensures))
    (λ less. c.in-Ok.ensures.end (omega (arith, less, length-take c.min-want.result c.deref_mut.result.now, c.deref_mut.ensures.len, c.len.ensures, c.min-want.ensures))) last
    in
    let trace = c.in_ok-lines.ensures.trace only text taken in
    (text_of (g.S.Source.left c.args.source.now) (g.S.Source.left c.fill.new.source) text input trace.trace.size).0

pub parts-smaller : goal.parts-smaller
parts-smaller g c =
    let i = c.parts.invariant in
    let only = c.args.only_topics in
    let part = c.in-Ok.part.now in
    let text = i.text ++ part in
    let taken = c.in_ok-reader.ensures only i.text i.taken in
    omega (
      arith,
      room_left only i.text c.parts.reader i.taken,
      room_left only text c.in_ok-reader.reader taken,
      length-append i.text part,
      c.if-came-want.false,
      c.min-want.ensures,
      c.len.ensures,
      c.room.ensures only i.text i.taken,
      i.room,
      i.few,
    )

pub parts-preserved : goal.parts-preserved
parts-preserved g c =
    let i = c.parts.invariant in
    let only = c.args.only_topics in
    let part = c.in-Ok.part.now in
    let text = i.text ++ part in
    let taken = c.in_ok-reader.ensures only i.text i.taken in
    record {
      text = text;
      taken = taken;
      consumed = Consumes-trans (g.S.Source.left c.args.source.now) (g.S.Source.left c.parts.source) (g.S.Source.left c.fill.new.source) i.text part i.consumed c.in-Ok.ensures.came;
      later = omega (arith, i.later, c.in-Ok.ensures.later);
      few = omega (arith, c.room-else-came-want.ensures only text taken, c.if-room-eq0.false);
      room = i.room;
    }
