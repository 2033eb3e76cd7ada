use Rattle.std.proofs.Common.{◌≡◌, ◌∙◌, ◌-◌, Bool, Decides, ℕ, List, ap, arith, drop, length, subst, sym, take}
use Rattle.std.proofs.lemmas.Bool.{true≢false}
use Rattle.std.proofs.lemmas.Bool.Decides.{Decides-eqb}
use Rattle.std.proofs.lemmas.Grind.{common_steps}
use Rattle.std.proofs.lemmas.Slice.Eq.{slice_eq-Decides}
use Rattle.std.specs.Bool.{nat_eq}
use Rattle.std.specs.Cmp.Lexicographic.{pointwise}
use Rattle.shared_logs.specs.Sought.{StandAt}
use Rattle.shared_logs.proofs.desk_calls.place_in.Goals as goal

-- the bytes are compared with the front of the log's rest
compared : (log bytes : List ℕ) (start : ℕ) (r : Bool) → r ≡ pointwise nat_eq bytes (take (length bytes) (take (length log - start) (drop start log))) → Decides r (bytes ≡ take (length bytes) (drop start log))
compared log bytes start r e =
    let rest : take (length log - start) (drop start log) ≡ drop start log = grind (arith, common_steps) in
    slice_eq-Decides Decides-eqb bytes (take (length bytes) (drop start log)) r (e ∙ ap (λ (bs : List ℕ). pointwise nat_eq bytes (take (length bytes) bs)) rest)

pub returns-then-not-starts_with : goal.returns-then-not-starts_with
returns-then-not-starts_with c stands =
    let bytes = c.args.bytes.now in
    let log = c.log.result.now in
    let here : StandAt log c.locate-start.result bytes =
    subst (λ (bs : List ℕ). StandAt bs c.locate-start.result bytes) (sym c.log.ensures.bytes) (subst (λ (n : ℕ). StandAt c.args.log.now.log n bytes) (sym c.locate-start.ensures.start) stands) in
    true≢false (sym ((compared log bytes c.locate-start.result c.starts_with.result c.starts_with.ensures.value).1 (sym here)) ∙ c.if-not-starts_with.true)

pub returns : goal.returns
returns c =
    let bytes = c.args.bytes.now in
    let log = c.log.result.now in
    let here = sym ((compared log bytes c.locate-start.result c.starts_with.result c.starts_with.ensures.value).0 c.if-not-starts_with.false) in
    (c.locate-start.ensures.start, subst (λ (bs : List ℕ). StandAt bs c.locate-start.result bytes) c.log.ensures.bytes here)
