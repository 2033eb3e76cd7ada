use Rattle.std.proofs.Common.{◌≡◌, ◌≤◌, ◌∷◌, ◌++◌, [], ℕ, ℤ, pos, List, length, sym, ap, subst, ◌∙◌, rules}
use Rattle.std.proofs.lemmas.Int.{to_z-of_z}
use mir.Syntax.{w32}
use mir.Val.{SFits, of_z, to_z}
use Rattle.partlog.specs.in_sync.ReplicaEvent.{ReplicaEvent, Appended, Fetched, Left}
use Rattle.partlog.specs.in_sync.Standings.{StandsFor}
use Rattle.partlog.specs.declared.event.PartEvent.{PartEvent as Event}
use Rattle.partlog.specs.declared.event.PartEvent.TheVariants.{Follow}
use Rattle.partlog.specs.Follower.{IsFollower}
use Rattle.partlog.specs.Replicas.{replica_events}
use Rattle.audit.specs.Trackable.{CanEnter}
use Rattle.audit.proofs.Tracking.{told_append, told_follow, told_look, told_no_follow, told_no_shrink, told_shrink}
use Rattle.audit.proofs.numbers.enter.Goals as goal

pub returns-in-Append : goal.returns-in-Append
returns-in-Append c = λ followers events stands.
    let a = c.in-Append in
    let told : replica_events (events ++ c.args.event.now ∷ []) ≡ replica_events events ++ Appended a.count ∷ [] =
    ap (λ (e : Event). replica_events (events ++ e ∷ [])) a.is ∙ told_append events a.by a.seq a.count a.len in
    subst (StandsFor c.append.new.self followers) (sym told) (c.append.ensures.stands followers (replica_events events) stands)

pub fetch-requires-clause-follower : goal.fetch-requires-clause-follower
fetch-requires-clause-follower c =
    let a = c.in-Follow in
    let fits : SFits w32 a.replica = search rules in
    let number : a.replica ≡ pos c.in-Some.number = sym (to_z-of_z w32 a.replica fits) ∙ c.in-Some.ensures.number in
    let asked : CanEnter c.args.replicas.now (Follow a.by a.seq a.replica a.offset a.t) = subst (CanEnter c.args.replicas.now) a.is c.requires in
    subst (λ (r : ℤ). IsFollower r (length c.args.replicas.now.followers)) number asked.0

pub fetch-requires-clause-within : goal.fetch-requires-clause-within
fetch-requires-clause-within c =
    let a = c.in-Follow in
    let asked : CanEnter c.args.replicas.now (Follow a.by a.seq a.replica a.offset a.t) = subst (CanEnter c.args.replicas.now) a.is c.requires in
    asked.1

pub returns-in-Some : goal.returns-in-Some
returns-in-Some c = λ followers events stands.
    let a = c.in-Follow in
    let fits : SFits w32 a.replica = search rules in
    let number : a.replica ≡ pos c.in-Some.number = sym (to_z-of_z w32 a.replica fits) ∙ c.in-Some.ensures.number in
    let told : replica_events (events ++ c.args.event.now ∷ []) ≡ replica_events events ++ Fetched c.in-Some.number a.offset a.t ∷ [] =
    ap (λ (e : Event). replica_events (events ++ e ∷ [])) a.is ∙ told_follow events a.by a.seq a.replica c.in-Some.number a.offset a.t number in
    subst (StandsFor c.fetch.new.self followers) (sym told) (c.fetch.ensures.stands followers (replica_events events) stands)

pub returns-in_default : goal.returns-in_default
returns-in_default c = λ followers events stands.
    let a = c.in-Follow in
    let fits : SFits w32 a.replica = search rules in
    let told : replica_events (events ++ c.args.event.now ∷ []) ≡ replica_events events =
    ap (λ (e : Event). replica_events (events ++ e ∷ [])) a.is
    ∙ told_no_follow events a.by a.seq a.replica a.offset a.t (λ n is. c.in_default.ensures.none n (to_z-of_z w32 a.replica fits ∙ is)) in
    subst (StandsFor c.args.replicas.now followers) (sym told) stands

pub returns-in-Some-number_of : goal.returns-in-Some-number_of
returns-in-Some-number_of c = λ followers events stands.
    let a = c.in-Shrink in
    let n = c.in-Some-number_of.number in
    let fits : SFits w32 a.replica = search rules in
    let number : a.replica ≡ pos n = sym (to_z-of_z w32 a.replica fits) ∙ c.in-Some-number_of.ensures.number in
    let told : replica_events (events ++ c.args.event.now ∷ []) ≡ replica_events events ++ Left n a.t ∷ [] =
    ap (λ (e : Event). replica_events (events ++ e ∷ [])) a.is ∙ told_shrink events a.by a.replica n a.t number in
    subst (StandsFor c.leave.new.self followers) (sym told) (c.leave.ensures.stands followers (replica_events events) stands)

pub returns-in_default-number_of : goal.returns-in_default-number_of
returns-in_default-number_of c = λ followers events stands.
    let a = c.in-Shrink in
    let fits : SFits w32 a.replica = search rules in
    let told : replica_events (events ++ c.args.event.now ∷ []) ≡ replica_events events =
    ap (λ (e : Event). replica_events (events ++ e ∷ [])) a.is
    ∙ told_no_shrink events a.by a.replica a.t (λ n is. c.in_default-number_of.ensures.none n (to_z-of_z w32 a.replica fits ∙ is)) in
    subst (StandsFor c.args.replicas.now followers) (sym told) stands

pub returns-in-Look : goal.returns-in-Look
returns-in-Look c = λ followers events stands.
    let a = c.in-Look in
    let told : replica_events (events ++ c.args.event.now ∷ []) ≡ replica_events events = ap (λ (e : Event). replica_events (events ++ e ∷ [])) a.is ∙ told_look events a.by a.seq in
    subst (StandsFor c.args.replicas.now followers) (sym told) stands
