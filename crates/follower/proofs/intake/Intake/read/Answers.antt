use Rattle.std.proofs.Common.{◌≡◌, List, [], ℕ, sym, subst, append-nil}
use Rattle.kwire.specs.Frames.{next_frame_of}
use Rattle.kwire.specs.declared.frame.Frame.TheVariants.{NotYet}
use Rattle.follower.specs.Flows.{LinkView, link_of}
use Rattle.follower.proofs.Flowing.{kept_appends, kept_consumes, read_some}
use Rattle.follower.proofs.intake.Intake.read.Goals as goal

pub returns-in-Err : goal.returns-in-Err
returns-in-Err g c =
    let e = c.in-Err.ensures in
    let inbox = c.args.self.now.inbox in
    let a : LinkView = link_of (g.L.Link.taken c.args.link.now) (g.L.Link.left c.args.link.now) (g.L.Link.written c.args.link.now) (g.L.Link.faults c.args.link.now) in
    let b : LinkView = link_of (g.L.Link.taken c.read.new.self) (g.L.Link.left c.read.new.self) (g.L.Link.written c.read.new.self) (g.L.Link.faults c.read.new.self) in
    record {
      piece = [];
      flowed = read_some a b [] (kept_appends a.taken b.taken e.taken) (kept_consumes a.left b.left e.bytes) e.written e.cause.later;
      why = (subst (λ (bytes : List ℕ). next_frame_of bytes ≡ NotYet) (sym (append-nil inbox)) c.requires, e.cause.failed);
    }
