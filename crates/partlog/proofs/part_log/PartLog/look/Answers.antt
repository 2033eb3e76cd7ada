use Rattle.partlog.proofs.Tracking.{tracked-look}
use Rattle.partlog.proofs.part_log.PartLog.look.Goals as goal

pub invariant_of-self-2 : goal.invariant_of-self-2
invariant_of-self-2 c =
    let push = c.in_ok-push.ensures.ok in
    rw push (tracked-look c.self.inside.log c.self.inside.followers c.self.inside.events c.self.inside.starts.items c.self.inside.replicas c.self.inside.numbers c.self.invariant c.args.who.by c.args.who.seq)
