use Rattle.std.proofs.Common.{◌≡◌, ℤ, Err, pos, sym, ap, subst, ◌∙◌, refl, rules}
use Rattle.std.proofs.lemmas.Int.{to_z-of_z}
use Rattle.std.specs.Int.{w32, w64}
use mir.Val.{SFits}
use Rattle.partlog.specs.Added.{log_end_of}
use Rattle.partlog.specs.Followed.{followed}
use Rattle.partlog.specs.Follower.{IsFollower}
use Rattle.partlog.specs.InRange.{IsInRange}
use Rattle.partlog.specs.History.{History}
use Rattle.partlog.specs.State.{PartState, state_of}
use Rattle.kanswer.specs.declared.accepted.Accepted.TheVariants.{Refused}
use Rattle.kanswer.specs.Decisions.{Followed, Outcome, look, offset_of}
use Rattle.kanswer.specs.declared.entered.Entered.{Entered}
use Rattle.kanswer.specs.Entered.{HasEntered}
use Rattle.kanswer.proofs.Putting.{if_ok}
use Rattle.kanswer.proofs.Fetching.{not_below, follower_by, range_by, fetch_of_nobody, fetch_of_follower, not_in_range, followed_entered}
use Rattle.kanswer.proofs.fetch.follow.Goals as goal

pub returns-in-Ok-clause-entered : goal.returns-in-Ok-clause-entered
returns-in-Ok-clause-entered c =
    let log = c.args.log.now in
    let replica = c.args.replica in
    let asked = c.args.asked.now in
    let fits : SFits w64 asked.offset = search rules in
    let same = to_z-of_z w32 replica c.ranges.replica in
    let wide = to_z-of_z w64 asked.offset fits in
    let n = not_below replica c.requires in
    let follows : IsFollower replica log.followers = follower_by replica log.followers (λ never.
    let e = c.in-Ok.ensures.no_replica.1 (subst (λ (z : ℤ). IsFollower z log.followers → ⊥) (sym same) never) in absurd cc) in
    let range : IsInRange asked.offset (log_end_of log.events) = range_by asked.offset (log_end_of log.events) (λ never.
    let e = (c.in-Ok.ensures.out_of_range (log_end_of log.events)).1 (subst (λ (z : ℤ). IsFollower z log.followers) (sym same) follows, subst (λ (z : ℤ). IsInRange z (log_end_of log.events) → ⊥) (sym wide) never, refl) in absurd cc) in
    let f = c.in-Ok.ensures.followed in
    followed_entered c.args.visitor.who.by c.args.visitor.who.seq c.args.visitor.moment c.args.part replica n.0 asked log c.follow.new.self f.0 c.start_at-start.result c.in-Ok.place n.1 follows (sym wide ∙ f.1) range
    (c.start_at-start.ensures f.0 f.1) c.in-Ok.ensures.place (f.2 ∙ ap (λ (z : ℤ). followed log c.args.visitor.who.by c.args.visitor.who.seq z f.0 c.args.visitor.moment) same)

pub returns-in-Err-NoReplica-clause-entered : goal.returns-in-Err-NoReplica-clause-entered
returns-in-Err-NoReplica-clause-entered c =
    let log = c.args.log.now in
    let visitor = c.args.visitor in
    let after = c.look_at.new.log in
    let replica = c.args.replica in
    let same = to_z-of_z w32 replica c.ranges.replica in
    let n = not_below replica c.requires in
    let Then : Entered → History → Type 0 = λ came h. (outcome : PartState → Outcome) → outcome (state_of h) ≡ look (Refused (pos 9)) → HasEntered visitor.who.by visitor.who.seq visitor.moment outcome h after came in
    let never = subst (λ (z : ℤ). IsFollower z log.followers → ⊥) same (c.in-Err-NoReplica.ensures.no_replica.0 (ap Err c.in-Err-NoReplica.field-0-is)) in
    if_ok c.look_at.result c.look_at.ensures.entered (λ came then. subst (Then came) c.in-Err-NoReplica.ensures.refused then _
    (fetch_of_nobody log.followers c.args.part replica n.0 c.args.asked.now (state_of log) n.1 never))

pub returns-in-Err-OutOfRange-clause-entered : goal.returns-in-Err-OutOfRange-clause-entered
returns-in-Err-OutOfRange-clause-entered c =
    let log = c.args.log.now in
    let visitor = c.args.visitor in
    let after = c.look_at-in-Err-OutOfRange.new.log in
    let replica = c.args.replica in
    let asked = c.args.asked.now in
    let fits : SFits w64 asked.offset = search rules in
    let same = to_z-of_z w32 replica c.ranges.replica in
    let wide = to_z-of_z w64 asked.offset fits in
    let n = not_below replica c.requires in
    let Then : Entered → History → Type 0 = λ came h. (outcome : PartState → Outcome) → outcome (state_of h) ≡ look (Refused (pos 1)) → HasEntered visitor.who.by visitor.who.seq visitor.moment outcome h after came in
    let why = (c.in-Err-OutOfRange.ensures.out_of_range c.in-Err-OutOfRange.field-0-0).0 (ap Err c.in-Err-OutOfRange.field-0-is) in
    let follows = subst (λ (z : ℤ). IsFollower z log.followers) same why.0 in
    let never = subst (λ (z : ℤ). IsInRange z (log_end_of log.events) → ⊥) wide why.1 in
    if_ok c.look_at-in-Err-OutOfRange.result c.look_at-in-Err-OutOfRange.ensures.entered (λ came then. subst (Then came) c.in-Err-OutOfRange.ensures.refused then _
    (fetch_of_follower log.followers c.args.part replica n.0 asked (state_of log) n.1 follows
    ∙ not_in_range c.args.part asked.offset (Followed (pos n.0) (offset_of asked.offset)) (state_of log) never))
