use Rattle.std.proofs.Common.{◌≡◌, ◌∙◌, List, ◌∷◌, ◌++◌, ap, arith, length, map, subst, sym}
use Rattle.std.specs.Prelude.{All}
use Rattle.std.specs.Vec.Iter.{into_iter_items}
use Rattle.std.proofs.lemmas.List.{length_push}
use Rattle.std.proofs.lemmas.List.Elements.{All-head, All-tail}
use Rattle.partlog.specs.History.{History}
use Rattle.turn_lock.specs.declared.lock.TurnLock.{TurnLock}
use Rattle.turn_lock.specs.Locks.{lock_passes}
use Rattle.shared_logs.specs.declared.entries.LogEntry.{LogEntry}
use Rattle.shared_logs.specs.Desks.{PartView}
use Rattle.purgatory.specs.Making.{AreFrom}
use Rattle.shared_logs.specs.Apart.{IsOfLocks}
use Rattle.shared_logs.specs.Gone.{HaveGone, IsNamed, followers_named}
use Rattle.shared_logs.proofs.Dealt.{from_next}
use Rattle.shared_logs.proofs.Gone.{firsts_of, followers_more, gone_more, out_more, sources_more, told_firsts}
use Rattle.shared_logs.proofs.closing.close_parts.Goals as goal

pub close-requires-clause-all : goal.close-requires-clause-all
close-requires-clause-all c =
    let i = c.loop-lock.invariant in
    let lock = c.in-Some.lock in
    let next = into_iter_items c.next.new.self in
    let steps = c.in-Some.ensures.steps.0 in
    let P : TurnLock PartView LogEntry → Type 0 = λ l. lock_passes l ≡ length c.args.hands in
    let of = firsts_of lock next c.loop-lock.hands c.in_ok-rest.passes c.in_ok-rest.rest c.in_ok-rest.ensures (subst (λ (ls : List (TurnLock PartView LogEntry)). All (IsOfLocks ls) c.loop-lock.hands) steps i.hands) in
    of.2 ∙ i.count ∙ sym (All-head P lock next (subst (All P) steps i.passes))

pub close-requires-clause-each : goal.close-requires-clause-each
close-requires-clause-each c =
    let i = c.loop-lock.invariant in
    let next = into_iter_items c.next.new.self in
    (firsts_of c.in-Some.lock next c.loop-lock.hands c.in_ok-rest.passes c.in_ok-rest.rest c.in_ok-rest.ensures
    (subst (λ (ls : List (TurnLock PartView LogEntry)). All (IsOfLocks ls) c.loop-lock.hands) c.in-Some.ensures.steps.0 i.hands)).0

pub loop-lock-preserved : goal.loop-lock-preserved
loop-lock-preserved c =
    let i = c.loop-lock.invariant in
    let lock = c.in-Some.lock in
    let locks = into_iter_items c.loop-lock.lock-iterator in
    let next = into_iter_items c.next.new.self in
    let steps : locks ≡ lock ∷ next = c.in-Some.ensures.steps.0 in
    let gone = c.in-Some.ensures.steps.1 in
    let shorter = ap (λ (l : List (TurnLock PartView LogEntry)). length l) steps in
    let len = i.len in
    let P : TurnLock PartView LogEntry → Type 0 = λ l. lock_passes l ≡ length c.args.hands in
    let passes = subst (All P) steps i.passes in
    let of = firsts_of lock next c.loop-lock.hands c.in_ok-rest.passes c.in_ok-rest.rest c.in_ok-rest.ensures (subst (λ (ls : List (TurnLock PartView LogEntry)). All (IsOfLocks ls) c.loop-lock.hands) steps i.hands) in
    let desk = c.close.result in
    let e = c.close.ensures in
    let parts = c.into_parts-log.ensures in
    let log = c.into_parts-log.result.0 in
    let three = c.into_parts-log.result.1 in
    let logs = c.loop-lock.logs in
    let more = c.in_ok-push.ensures.ok in
    let size = ap (λ (l : List History). length l) more ∙ length_push logs log in
    let sources = c.in_ok-put_sources.ensures in
    record {
      len = omega (arith, len, gone, shorter);
      gone = subst (λ (l : List History). HaveGone l c.args.hands c.in_ok-rest.rest) (sym more)
          (gone_more logs log c.args.hands c.loop-lock.hands c.in_ok-rest.rest c.in_ok-rest.passes i.gone c.in_ok-rest.ensures
          (told_firsts lock desk e.name parts.keeps log parts.log three parts.sources c.in_ok-rest.passes e.each));
      count = of.3 ∙ i.count;
      hands = of.1;
      passes = All-tail P lock next passes;
      out = out_more lock desk e.name parts.keeps log parts.log three parts.sources (length c.args.hands) logs _ more (All-head P lock next passes) e.whose parts.late i.out;
      followers = followers_more lock desk e.name parts.keeps log parts.log three parts.sources logs _ next _ more
          (subst (λ (ls : List (TurnLock PartView LogEntry)). map (λ (x : History). x.followers) logs ++ followers_named ls ≡ followers_named c.args.locks.items) steps i.followers);
      sources = λ table named.
          let was = i.sources table named in
          let now = from_next (IsNamed table) (length logs) locks next lock steps was.0 in (
            subst (λ n. AreFrom (IsNamed table) n next) (sym size) now.1,
            sources_more lock desk e.name parts.keeps log parts.log three parts.sources table logs now.0 c.loop-lock.sources _ _ more sources was.1,
          );
    }
