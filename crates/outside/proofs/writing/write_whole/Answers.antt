use Rattle.std.proofs.Common.{◌-◌, ◌≤◌, ◌∙◌, length, drop, arith, length-take, length-drop}
use Rattle.outside.proofs.Laws.{appends_on}
use Rattle.outside.proofs.writing.write_whole.Goals as goal

pub loop-done-preserved : goal.loop-done-preserved
loop-done-preserved g c =
    let part = c.args.part.now in
    let done = c.loop-done.done in
    let n = c.in_ok-done.field-0 in
    let e = c.in_ok-done.ensures in
    let before = c.loop-done.invariant in
    let within : n ≤ length part - done = omega (arith, e.bound, length-drop done part, length-take (length part - done) (drop done part)) in
    record {
      written = appends_on (g.L.Link.written c.args.link.now) (g.L.Link.written c.loop-done.link) (g.L.Link.written c.write.new.self) part done n (length part - done) within before.written e.bytes;
      told = e.written_told ∙ before.told;
      taken = e.taken ∙ before.taken;
      left = e.left ∙ before.left;
      shut = e.shut ∙ before.shut;
      later = omega (arith, before.later, e.cause.later);
      within = omega (arith, e.bound, length-drop done part, length-take (length part - done) (drop done part), before.within);
    }
