use Rattle.std.proofs.Common.{◌≡◌, ◌∙◌, ◌+◌, ◌*◌, ℕ, List, ◌∷◌, ap, arith, length, map, subst, sym}
use Rattle.std.specs.Prelude.{slice_index}
use Rattle.std.specs.Vec.Iter.{into_iter_items}
use Rattle.std.proofs.lemmas.List.{length_push}
use Rattle.turn_lock.specs.declared.lock.TurnLock.{TurnLock}
use Rattle.turn_lock.specs.Locks.{AreFresh, lock_id}
use Rattle.shared_logs.specs.declared.entries.LogEntry.{LogEntry}
use Rattle.shared_logs.specs.Desks.{PartView, part_name}
use Rattle.purgatory.specs.scans.Desks.{desk_name}
use Rattle.room_table.specs.Handed.{fresh_source}
use Rattle.room_table.specs.Seats.{SourceView, TableView}
use Rattle.purgatory.specs.Making.{AreFrom}
use Rattle.shared_logs.specs.Dealt.{IsPartLock}
use Rattle.shared_logs.specs.Locked.{part_lock}
use Rattle.shared_logs.proofs.Dealt.{fresh_keys, from_next, from_push, rows_more}
use Rattle.shared_logs.proofs.making.part_locks.Goals as goal

pub loop-part-preserved : goal.loop-part-preserved
loop-part-preserved c =
    let i = c.loop-part.invariant in
    let part = c.loop-part.part in
    let followers = c.args.followers.now in
    let one = into_iter_items c.loop-part.left in
    let two = into_iter_items c.next.new.self in
    let three = into_iter_items c.next-in-loop-part.new.self in
    let four = into_iter_items c.next-in-loop-part-2.new.self in
    let high : one ≡ c.in-Some.high ∷ two = c.in-Some.ensures.cases.0 in
    let visible : two ≡ c.in-Some-next.visible ∷ three = c.in-Some-next.ensures.cases.0 in
    let end : three ≡ c.in-Some-next-2.end ∷ four = c.in-Some-next-2.ensures.cases.0 in
    let high_gone = c.in-Some.ensures.cases.1 in
    let visible_gone = c.in-Some-next.ensures.cases.1 in
    let end_gone = c.in-Some-next-2.ensures.cases.1 in
    let size : List SourceView → ℕ = λ l. length l in
    let high_taken = ap size high in
    let visible_taken = ap size visible in
    let end_taken = ap size end in
    let locks = c.loop-part.locks.items in
    let lock = c.in_ok-lock.lock in
    let desk = c.in_ok-desk.desk in
    let more = c.in_ok-push.ensures.items in
    let longer = ap (λ (l : List (TurnLock PartView LogEntry)). length l) more ∙ length_push locks lock in
    let count = i.count in
    let len = i.len in
    let sources_count = i.sources_count in
    let made = c.in_ok-lock.ensures in
    let Number : TableView → ℕ → SourceView → Type 0 = λ table gauge source. source ≡ fresh_source table gauge in
    record {
      count = omega (arith, count, longer);
      len = omega (arith, len, high_gone, visible_gone, end_gone, high_taken, visible_taken, end_taken);
      sources_count = omega (arith, sources_count, high_taken, visible_taken, end_taken);
      sources = λ table first.
          let a = from_next (Number table) (3 * part) one two c.in-Some.high high (i.sources table first) in
          let b = from_next (Number table) (3 * part + 1) two three c.in-Some-next.visible visible a.1 in
          let d = from_next (Number table) (3 * part + 1 + 1) three four c.in-Some-next-2.end end b.1 in
          subst (λ n. AreFrom (Number table) n four) (omega arith) d.1;
      locks = λ table first.
          let a = from_next (Number table) (3 * part) one two c.in-Some.high high (i.sources table first) in
          let name : part_name desk ≡ slice_index followers part ∷ desk_name table part =
          ap part_name c.in_ok-desk.ensures ∙ ap (λ (source : SourceView). slice_index followers part ∷ desk_name source.table part) a.0 in
          subst (AreFrom (IsPartLock table followers c.args.passes) 0) (sym more)
          (from_push (IsPartLock table followers c.args.passes) 0 locks lock (i.locks table first)
          (subst (λ n. IsPartLock table followers c.args.passes n lock) (omega (arith, count)) (record { name = made.lock.0 ∙ name; passes_are = made.lock.1 })));
      rows_count = c.in_ok-rows-2.ensures.len ∙ i.rows_count;
      rows = rows_more locks c.push.new.self.items lock c.in_ok-rows-2.rows more
          (c.in_ok-rows-2.ensures.rows (map part_lock locks) (part_lock lock) i.rows
          (fresh_keys (part_lock lock) c.in_ok-lock.keys (subst (λ (name : List ℕ). AreFresh (lock_id lock) name c.in_ok-lock.keys) (sym made.lock.0) made.passes.1)));
    }
