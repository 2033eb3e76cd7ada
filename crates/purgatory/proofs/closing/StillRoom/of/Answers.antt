use Rattle.std.proofs.Common.{◌≡◌, ◌∙◌, ℕ, ◌+◌, List, [], ◌∷◌, ◌++◌, Some, ap, arith, get_or, length, refl, set, subst, sym}
use Rattle.std.specs.Prelude.{All}
use Rattle.std.proofs.lemmas.List.{get_or-set_other, length-set}
use Rattle.std.proofs.lemmas.List.Elements.{All-cons, All-pop}
use Rattle.room_table.specs.Closing.{ClosingView, with_caller}
use Rattle.room_table.specs.Seats.{CallerView, TableView, caller_now}
use Rattle.purgatory.specs.Ends.{seats_of}
use Rattle.purgatory.specs.Going.{OwesNothing}
use Rattle.purgatory.specs.Noted.{AreNoted}
use Rattle.purgatory.specs.Rooms.{PassView}
use Rattle.purgatory.specs.Still.{IsSettledSeat}
use Rattle.purgatory.proofs.Stills.{all_kept, callers_step, noted_more, written, written_back}
use Rattle.purgatory.proofs.closing.StillRoom.of.Goals as goal

pub loop-pass-preserved : goal.loop-pass-preserved
loop-pass-preserved c =
    let i = c.loop-pass.invariant in
    let b = c.requires.back in
    let seat = c.pass.inside.owner in
    let items = c.in-Some.ensures.items in
    let e : c.take_caller.new.self ≡ with_caller c.loop-pass.closing seat = c.take_caller.ensures ∙ ap (with_caller c.loop-pass.closing) c.into_seat.ensures in
    let P : PassView → Type 0 = λ pass. (pass.seat.table ≡ c.args.closing.table) × OwesNothing (caller_now pass.seat) in
    let left = All-pop P c.loop-pass.passes c.pop.new.self (Some c.in-Some.pass) items i.left in
    let shown : seat ≡ c.in-Some.pass.seat = ap (λ (p : PassView). p.seat) c.pass.view_is in
    let mine = subst (λ (s : CallerView). (s.table ≡ c.args.closing.table) × OwesNothing (caller_now s)) (sym shown) left.1 in
    let at : c.number.result ≡ seat.pass = c.number.ensures.is in
    let there = c.number.ensures.there in
    let passes = ap (λ (t : TableView). t.shape.passes) mine.0 in
    let size = i.size in
    let all = b.size in
    let numbers = c.loop-pass.wins in
    let later = written numbers c.as_mut_slice.result.now (17 + c.number.result) c.from.result c.as_mut_slice.ensures.value in
    record {
      table = ap (λ (x : ClosingView). x.table) e ∙ i.table;
      sources = ap (λ (x : ClosingView). length x.sources) e ∙ i.sources;
      scanners = ap (λ (x : ClosingView). x.scanners) e ∙ i.scanners;
      callers = ap (λ (x : ClosingView). seats_of c.pop.new.self ++ x.callers) e
          ∙ callers_step c.loop-pass.passes c.pop.new.self c.in-Some.pass c.loop-pass.closing.callers (seats_of c.args.passes) seat items shown i.callers;
      size = ap (λ (l : List ℕ). length l) later ∙ length-set numbers (17 + c.number.result) c.from.result ∙ size;
      left = left.0;
      settled = subst (λ (x : ClosingView). All IsSettledSeat x.callers) (sym e) (All-cons IsSettledSeat seat c.loop-pass.closing.callers (record { rests = c.pass.invariant; paid = mine.1 }) i.settled);
      noted = subst (λ (x : ClosingView). AreNoted (written_back numbers c.as_mut_slice.result.now (17 + c.number.result) c.from.result) x.callers) (sym e)
          (subst (λ (l : List ℕ). AreNoted l (seat ∷ c.loop-pass.closing.callers)) (ap (λ n. set numbers (17 + n) c.from.result) (sym at) ∙ sym later)
          (noted_more numbers seat c.loop-pass.closing.callers c.from.result (c.from.ensures ∙ c.wins.ensures) (omega (arith, size, all, there, at, passes)) i.noted));
      low = λ k less. ap (λ (l : List ℕ). get_or l k 0) later ∙ get_or-set_other numbers (17 + c.number.result) k c.from.result 0 (λ x. omega (arith, x, less)) ∙ i.low k less;
    }

pub invariant_of-result : goal.invariant_of-result
invariant_of-result c =
    let i = c.loop-pass.invariant in
    let none : c.loop-pass.passes ≡ [] = c.in_default.ensures.none.0 refl in
    let callers : c.loop-pass.closing.callers ≡ seats_of c.args.passes = sym (ap (λ (l : List PassView). seats_of l ++ c.loop-pass.closing.callers) none) ∙ i.callers in
    all_kept c.args.closing c.loop-pass.closing c.args.passes c.args.wins c.loop-pass.wins c.requires.back i.table i.sources i.scanners callers i.size i.settled i.noted i.low
