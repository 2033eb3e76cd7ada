use Rattle.std.proofs.Common.{◌≡◌, ℕ, pos, List, [], take, ap, subst, ◌∙◌}
use Rattle.std.specs.Int.{w32}
use Rattle.std.proofs.lemmas.Int.{to_z_pos}
use Rattle.follower.specs.Asking.{asked_frame}
use Rattle.follower.specs.Flows.{HasFlowed, LinkView, link_of}
use Rattle.follower.specs.Rounds.{HasBroken, HasRound, HasTakenFront, IsRefusedFront}
use Rattle.follower.specs.declared.fault.FollowEnd.{FollowEnd}
use Rattle.follower.proofs.Cases.{if_none, if_some_on}
use Rattle.follower.proofs.Flowing.{wrote}
use Rattle.follower.proofs.Going.{broken_asking, broken_reading, broken_taking, broken_writing, round_made}
use Rattle.follower.proofs.course.make_round.Goals as goal

pub returns-in_default-clause-broken : goal.returns-in_default-clause-broken
returns-in_default-clause-broken g c =
    let a : LinkView = link_of (g.L.Link.taken c.args.link.now) (g.L.Link.left c.args.link.now) (g.L.Link.written c.args.link.now) (g.L.Link.faults c.args.link.now) in
    broken_asking c.args.round c.args.replica.now c.args.intake.now.inbox a

pub returns-in_default-write_whole-clause-broken : goal.returns-in_default-write_whole-clause-broken
returns-in_default-write_whole-clause-broken g c =
    let a : LinkView = link_of (g.L.Link.taken c.args.link.now) (g.L.Link.left c.args.link.now) (g.L.Link.written c.args.link.now) (g.L.Link.faults c.args.link.now) in
    let b : LinkView = link_of (g.L.Link.taken c.write_whole.new.link) (g.L.Link.left c.write_whole.new.link) (g.L.Link.written c.write_whole.new.link) (g.L.Link.faults c.write_whole.new.link) in
    let frame : c.as_slice.result.now ≡ asked_frame c.args.replica.now (pos c.args.round) =
    c.as_slice.ensures ∙ c.in-Ok.ensures ∙ ap (asked_frame c.args.replica.now) (to_z_pos w32 c.args.round c.requires.few) in
    let e = c.in_default-write_whole.ensures in
    broken_writing c.args.round c.args.replica.now c.args.intake.now.inbox c.as_slice.result.now e.cut.0 a b frame e.cut.1 (wrote a b (take e.cut.0 c.as_slice.result.now) e.taken e.left e.cut.2 e.cause.later) e.cause.failed

pub returns-in-Ok-fill-clause-made : goal.returns-in-Ok-fill-clause-made
returns-in-Ok-fill-clause-made g c =
    let a : LinkView = link_of (g.L.Link.taken c.args.link.now) (g.L.Link.left c.args.link.now) (g.L.Link.written c.args.link.now) (g.L.Link.faults c.args.link.now) in
    let b : LinkView = link_of (g.L.Link.taken c.write_whole.new.link) (g.L.Link.left c.write_whole.new.link) (g.L.Link.written c.write_whole.new.link) (g.L.Link.faults c.write_whole.new.link) in
    let d : LinkView = link_of (g.L.Link.taken c.fill.new.link) (g.L.Link.left c.fill.new.link) (g.L.Link.written c.fill.new.link) (g.L.Link.faults c.fill.new.link) in
    let frame : c.as_slice.result.now ≡ asked_frame c.args.replica.now (pos c.args.round) =
    c.as_slice.ensures ∙ c.in-Ok.ensures ∙ ap (asked_frame c.args.replica.now) (to_z_pos w32 c.args.round c.requires.few) in
    let e = c.in-Ok-write_whole.ensures in
    let asked : HasFlowed [] (asked_frame c.args.replica.now (pos c.args.round)) a b =
    subst (λ (bytes : List ℕ). HasFlowed [] bytes a b) frame (wrote a b c.as_slice.result.now e.taken e.left e.whole e.cause.later) in
    if_none (HasTakenFront c.args.round c.args.replica.now c.take_reply.new.replica c.fill.new.self.inbox c.take_reply.new.intake.inbox)
    (HasRound c.args.round c.args.replica.now c.take_reply.new.replica c.args.intake.now.inbox c.take_reply.new.intake.inbox a d) c.take_reply.result
    (λ front. round_made c.args.round c.args.replica.now c.take_reply.new.replica c.args.intake.now.inbox c.fill.new.self.inbox c.take_reply.new.intake.inbox a b d asked c.in-Ok-fill.ensures.0 front)
    c.take_reply.ensures.taken

pub returns-in-Ok-fill-clause-broken : goal.returns-in-Ok-fill-clause-broken
returns-in-Ok-fill-clause-broken g c =
    let a : LinkView = link_of (g.L.Link.taken c.args.link.now) (g.L.Link.left c.args.link.now) (g.L.Link.written c.args.link.now) (g.L.Link.faults c.args.link.now) in
    let b : LinkView = link_of (g.L.Link.taken c.write_whole.new.link) (g.L.Link.left c.write_whole.new.link) (g.L.Link.written c.write_whole.new.link) (g.L.Link.faults c.write_whole.new.link) in
    let d : LinkView = link_of (g.L.Link.taken c.fill.new.link) (g.L.Link.left c.fill.new.link) (g.L.Link.written c.fill.new.link) (g.L.Link.faults c.fill.new.link) in
    let frame : c.as_slice.result.now ≡ asked_frame c.args.replica.now (pos c.args.round) =
    c.as_slice.ensures ∙ c.in-Ok.ensures ∙ ap (asked_frame c.args.replica.now) (to_z_pos w32 c.args.round c.requires.few) in
    let e = c.in-Ok-write_whole.ensures in
    let asked : HasFlowed [] (asked_frame c.args.replica.now (pos c.args.round)) a b =
    subst (λ (bytes : List ℕ). HasFlowed [] bytes a b) frame (wrote a b c.as_slice.result.now e.taken e.left e.whole e.cause.later) in
    if_some_on (λ (why : FollowEnd). IsRefusedFront why c.args.round c.args.replica.now c.fill.new.self.inbox) (λ (why : FollowEnd). HasBroken why c.args.round c.args.replica.now c.args.intake.now.inbox a d)
    c.take_reply.result (λ why front. broken_taking why c.args.round c.args.replica.now c.args.intake.now.inbox c.fill.new.self.inbox a b d asked c.in-Ok-fill.ensures.0 front) c.take_reply.ensures.refused

pub returns-clause-broken : goal.returns-clause-broken
returns-clause-broken g c =
    let a : LinkView = link_of (g.L.Link.taken c.args.link.now) (g.L.Link.left c.args.link.now) (g.L.Link.written c.args.link.now) (g.L.Link.faults c.args.link.now) in
    let b : LinkView = link_of (g.L.Link.taken c.write_whole.new.link) (g.L.Link.left c.write_whole.new.link) (g.L.Link.written c.write_whole.new.link) (g.L.Link.faults c.write_whole.new.link) in
    let d : LinkView = link_of (g.L.Link.taken c.fill.new.link) (g.L.Link.left c.fill.new.link) (g.L.Link.written c.fill.new.link) (g.L.Link.faults c.fill.new.link) in
    let frame : c.as_slice.result.now ≡ asked_frame c.args.replica.now (pos c.args.round) =
    c.as_slice.ensures ∙ c.in-Ok.ensures ∙ ap (asked_frame c.args.replica.now) (to_z_pos w32 c.args.round c.requires.few) in
    let e = c.in-Ok-write_whole.ensures in
    let asked : HasFlowed [] (asked_frame c.args.replica.now (pos c.args.round)) a b =
    subst (λ (bytes : List ℕ). HasFlowed [] bytes a b) frame (wrote a b c.as_slice.result.now e.taken e.left e.whole e.cause.later) in
    broken_reading c.in-Err.why c.args.round c.args.replica.now c.args.intake.now.inbox a b d asked c.in-Err.ensures
