use Rattle.std.proofs.Common.{Some, [], ◌∷◌, sym, subst, All}
use Rattle.std.proofs.lemmas.List.Elements.{All-append, All-cons, All-nil, All-pop}
use Rattle.outside.specs.Wire.{IsNewWire}
use Rattle.outside.proofs.Turned.{moved}
use Rattle.outside.proofs.mem_port.MemPort.new.Goals as goal

pub loop-link-preserved : goal.loop-link-preserved
loop-link-preserved c =
    let link = c.in-Some.link in
    let new = All-pop IsNewWire c.loop-link.links c.pop.new.self (Some link) c.in-Some.ensures.items c.loop-link.invariant.1 in (
      moved c.loop-link.links c.pop.new.self c.loop-link.waiting c.push.new.self c.args.links link c.in-Some.ensures.items c.in_ok-push.ensures.ok c.loop-link.invariant.0,
      new.0,
      subst (All IsNewWire) (sym c.in_ok-push.ensures.ok) (All-append IsNewWire c.loop-link.waiting (link ∷ []) c.loop-link.invariant.2 (All-cons IsNewWire link [] new.1 (All-nil IsNewWire))),
    )
