use Rattle.shared_broker.proofs.WrittenDown.{made_fresh, pushed_stands, pushed_written}
use Rattle.shared_broker.proofs.pass.Pass.write_down.Goals as goal

pub invariant_of-self : goal.invariant_of-self
invariant_of-self c =
    let fresh = made_fresh c.args.frame.now c.in_ok-copied.field-0 c.new.result c.new-2.result c.in_ok-copied.ensures c.new.ensures c.new-2.ensures in (
      pushed_stands _ c.args.self.now c.self.view_is c.self.invariant.0 c.in-Some.going c.in-Some.is c.requires.none c.requires.whole c.requires.few c.args.frame.now (λ i. (c.type_inv.frame i).fits) c.push.new.self _ fresh
          c.push.result c.push.ensures.ok c.push.ensures.err c.requires.asked.0 c.requires.asked.1,
      c.self.invariant.1,
    )

pub returns-clause-written : goal.returns-clause-written
returns-clause-written c =
    let fresh = made_fresh c.args.frame.now c.in_ok-copied.field-0 c.new.result c.new-2.result c.in_ok-copied.ensures c.new.ensures c.new-2.ensures in
    pushed_written _ c.args.self.now c.self.view_is c.self.invariant.0 c.in-Some.going c.in-Some.is c.requires.none c.requires.whole c.requires.few c.args.frame.now (λ i. (c.type_inv.frame i).fits) c.push.new.self _ fresh
    c.push.result c.push.ensures.ok
