use Rattle.std.proofs.Common.{◌≡◌, ℕ, ◌+◌, ◌≤◌, List, [], ◌∷◌, ◌++◌, Some, None, length, drop, arith, sym, ap, subst, ◌∙◌, append_assoc, append-nil}
use Rattle.kwire.specs.declared.request.Ask.{Ask}
use Rattle.kwire.specs.declared.request.Request.{Request}
use Rattle.kwire.specs.Views.{ask_of}
use Rattle.opcond.specs.Operation.{Operation}
use Rattle.opcond.specs.declared.need.Need.{Need}
use Rattle.kanswer.specs.Results.{AreResults}
use Rattle.kanswer.specs.Waiting.{least_of, needs_by_part, needs_of, operation_of}
use Rattle.kanswer.proofs.Needs.{AreApart, apart_before, few_before, few_needs, needs_apart, needs_within, present}
use Rattle.kanswer.proofs.Waits.{present_end, present_on}
use Rattle.kanswer.proofs.waiting.op_of.Goals as goal
use Rattle.kanswer.proofs.waiting.op_of.Goals.{in-Some+in_ok-add, in_default}

pub add-requires-clause-few : goal.add-requires-clause-few
add-requires-clause-few c =
    let ask : Ask = ask_of c.request.inside.ask in
    let results = c.args.accepted.now in
    let needs = needs_by_part ask results in
    let asked = ap (λ (r : Request). r.ask) c.request.view_is in
    let are = subst (λ (a : Ask). AreResults a results) (sym asked) c.requires.results in
    let rest = present (drop (c.loop-at.at + 1) needs) in
    let whole : c.loop-at.op.needs ++ c.in-Some.need ∷ rest ≡ needs_of ask results =
    ap (λ (l : List Need). c.loop-at.op.needs ++ l) (sym (present_on needs c.loop-at.at (Some c.in-Some.need) c.in-Some.ensures.need)) ∙ c.loop-at.invariant.0 in
    few_before c.loop-at.op.needs rest c.in-Some.need (omega (arith, ap length whole, few_needs ask results are))

pub add-requires-clause-other : goal.add-requires-clause-other
add-requires-clause-other c =
    let ask : Ask = ask_of c.request.inside.ask in
    let results = c.args.accepted.now in
    let needs = needs_by_part ask results in
    let asked = ap (λ (r : Request). r.ask) c.request.view_is in
    let are = subst (λ (a : Ask). AreResults a results) (sym asked) c.requires.results in
    let rest = present (drop (c.loop-at.at + 1) needs) in
    let whole : c.loop-at.op.needs ++ c.in-Some.need ∷ rest ≡ needs_of ask results =
    ap (λ (l : List Need). c.loop-at.op.needs ++ l) (sym (present_on needs c.loop-at.at (Some c.in-Some.need) c.in-Some.ensures.need)) ∙ c.loop-at.invariant.0 in
    apart_before c.loop-at.op.needs rest c.in-Some.need (subst AreApart (sym whole) (needs_apart ask results are))

pub loop-at-preserved : goal.loop-at-preserved
loop-at-preserved c =
    let needs = needs_by_part (ask_of c.request.inside.ask) c.args.accepted.now in
    let was = c.loop-at.op in
    let rest = present (drop (c.loop-at.at + 1) needs) in
    elim c.match-need_at.branch [
      | in-Some+in_ok-add w ↦
          let need = w.in-Some.need in
          let is : c.match-need_at.op ≡ record { needs = was.needs ++ need ∷ []; least = was.least; deadline = was.deadline } = w.op-is ∙ w.in_ok-add.ensures.ok in (
            ap (λ (o : Operation). o.needs ++ rest) is ∙ append_assoc was.needs (need ∷ []) rest
                ∙ ap (λ (l : List Need). was.needs ++ l) (sym (present_on needs c.loop-at.at (Some need) w.in-Some.ensures.need)) ∙ c.loop-at.invariant.0,
            ap (λ (o : Operation). o.least) is ∙ c.loop-at.invariant.1,
            ap (λ (o : Operation). o.deadline) is ∙ c.loop-at.invariant.2,
          )
      | in_default w ↦ (
        ap (λ (o : Operation). o.needs ++ rest) w.op-is
            ∙ ap (λ (l : List Need). was.needs ++ l) (sym (present_on needs c.loop-at.at None w.in_default.ensures.need)) ∙ c.loop-at.invariant.0,
        ap (λ (o : Operation). o.least) w.op-is ∙ c.loop-at.invariant.1,
        ap (λ (o : Operation). o.deadline) w.op-is ∙ c.loop-at.invariant.2,
      )
    ]

pub returns : goal.returns
returns c =
    let ask : Ask = ask_of c.request.inside.ask in
    let results = c.args.accepted.now in
    let asked = ap (λ (r : Request). r.ask) c.request.view_is in
    let op = c.loop-at.op in
    let past : length (needs_by_part ask results) ≤ c.loop-at.at = omega (arith, c.loop-at-test.false, needs_within ask results) in
    let needs : op.needs ≡ needs_of ask results =
    sym (append-nil op.needs) ∙ ap (λ (l : List Need). op.needs ++ l) (sym (present_end (needs_by_part ask results) c.loop-at.at past)) ∙ c.loop-at.invariant.0 in
    let least = c.loop-at.invariant.1 ∙ ap (λ (o : Operation). o.least) c.new-op.ensures ∙ c.least_of.ensures.least in
    let deadline = c.loop-at.invariant.2 ∙ ap (λ (o : Operation). o.deadline) c.new-op.ensures ∙ ap (λ (n : ℕ). c.args.now + n) c.wait_of.ensures.wait in
    let first : op ≡ record { needs = needs_of ask results; least = op.least; deadline = op.deadline } = ap (λ (ns : List Need). let o : Operation = record { needs = ns; least = op.least; deadline = op.deadline } in o) needs in
    first
    ∙ ap (λ (n : ℕ). let o : Operation = record { needs = needs_of ask results; least = n; deadline = op.deadline } in o) least
    ∙ ap (λ (n : ℕ). let o : Operation = record { needs = needs_of ask results; least = least_of ask (needs_of ask results); deadline = n } in o) deadline
    ∙ ap (λ (a : Ask). operation_of a results c.args.now) asked
