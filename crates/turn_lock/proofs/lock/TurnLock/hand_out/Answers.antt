use Rattle.std.proofs.Common.{rules, arith, ◌≡◌, ◌+◌, ◌-◌, ◌++◌, [], ◌∷◌, length, length-append, sym, ap, ◌∙◌, subst}
use Rattle.std.specs.Prelude.{take, drop}
use Rattle.turn_lock.specs.declared.pass.TurnPass.{TurnPass}
use Rattle.turn_lock.specs.Locks.{AreFresh, lock_id, lock_name}
use Rattle.turn_lock.specs.Passes.{fresh, fresh_from}
use Rattle.turn_lock.proofs.Steps.{Pass, Same, splits}
use Rattle.turn_lock.proofs.Rows.{fresh_more, fresh_push}
use Rattle.turn_lock.proofs.lock.TurnLock.hand_out.Goals as goal

pub split_seat-seat-requires : goal.split_seat-seat-requires
split_seat-seat-requires g c = (
  search rules,
  search rules,
  splits g.T.Kept.entries g.T.Kept.by g.T.Kept.name _ _ c.loop-number.seat.id c.loop-number.seat.me.0,
)

pub loop-number-preserved : goal.loop-number-preserved
loop-number-preserved g c =
    let T = g.row.T.Denot in
    let E = g.row.T-Entry.Denot in
    let name = lock_name g.T.Kept.name c.args.self.now in
    let n = c.loop-number.number in
    let left = c.args.self.now.passes - n in
    let more = fresh_more E name n left (omega arith) in
    let was : Same T E c.loop-number.seat.me (fresh name n ∷ fresh_from name (n + 1) (left - 1), []) = c.loop-number.invariant.1 ∙ ap (λ v. (v, [])) more in
    let less : left - 1 ≡ c.args.self.now.passes - (n + 1) = omega arith in
    let new : Same T E c.split_seat-seat.new.seat.me (fresh_from name (n + 1) (c.args.self.now.passes - (n + 1)), []) =
    c.split_seat-seat.ensures.2 ∙ (ap (λ (m : Pass T E). (drop 1 m.0, m.1)) was ∙ ap (λ k. (fresh_from name (n + 1) k, [])) less) in
    let all = c.loop-number.all in
    let pass : TurnPass T E = record { seat = c.split_seat-seat.result } in
    let longer : c.push.new.self ≡ all ++ pass ∷ [] = c.in_ok-push.ensures.ok in
    let first : Same T E pass.seat.me (fresh name n ∷ [], []) = c.split_seat-seat.ensures.4 ∙ ap (λ (m : Pass T E). (take 1 m.0, [])) was in
    let here : Same T E pass.seat.me (fresh name (length all) ∷ [], []) = first ∙ ap (λ k. (fresh name k ∷ [], [])) (sym c.loop-number.invariant.2) in (
      search rules,
      new,
      omega (arith, ap length longer, length-append all (pass ∷ []), c.loop-number.invariant.2),
      subst (AreFresh (lock_id c.args.self.now) name) (sym longer)
          (fresh_push (lock_id c.args.self.now) name all pass c.loop-number.invariant.3 (c.split_seat-seat.ensures.3 ∙ c.loop-number.invariant.0) here),
    )
