use Rattle.std.proofs.Common.{◌≡◌, ◌≤◌, ◌+◌, ◌-◌, ◌*◌, ◌++◌, ℕ, length, take, drop, arith, refl, subst, rules, ap, ◌∙◌}
use Rattle.std.specs.Io.KnownBytes.{Appends}
use Rattle.hex.specs.Hex.{encode_lower, encode_with}
use Rattle.commands.specs.Streams.{HasWrittenFront}
use Rattle.commands.proofs.Writes.{digits_front, digits_on, on_any_err, room_front, room_same}
use Rattle.commands.proofs.printing.write_digits.Goals as goal

pub loop-done-init : goal.loop-done-init
unfolding encode_with
loop-done-init g c = record { written = search rules; later = search rules; within = search rules; room = refl }

pub returns-in_err-write_all-clause-front : goal.returns-in_err-write_all-clause-front
returns-in_err-write_all-clause-front g c =
    let bytes = c.args.bytes.now in
    let done = c.loop-done.done in
    let n = c.min-count.result in
    let count = c.min-count.ensures in
    let i = c.loop-done.invariant in
    let size = i.room in
    let few : 2 * n ≤ length c.loop-done.room = omega (arith, size, count) in
    let here : (done + n) - done ≡ n = omega arith in
    let text : take (2 * n) (c.write.new.out ++ drop (2 * n) c.loop-done.room) ≡ encode_lower (take n (drop done bytes)) =
    room_front c.loop-done.room c.write.new.out (2 * n) c.write.auto.out few ∙ c.write.ensures ∙ ap (λ (m : ℕ). encode_lower (take m (drop done bytes))) here in
    let old = g.K.Sink.written c.args.sink.now in
    let before = g.K.Sink.written c.loop-done.sink in
    let after = g.K.Sink.written c.write_all.new.sink in
    on_any_err c.from_residual.result _ (digits_front old before after bytes done n i.written (subst (HasWrittenFront before after) text c.in_err-write_all.ensures.front))

pub loop-done-preserved : goal.loop-done-preserved
loop-done-preserved g c =
    let bytes = c.args.bytes.now in
    let done = c.loop-done.done in
    let n = c.min-count.result in
    let count = c.min-count.ensures in
    let i = c.loop-done.invariant in
    let size = i.room in
    let few : 2 * n ≤ length c.loop-done.room = omega (arith, size, count) in
    let here : (done + n) - done ≡ n = omega arith in
    let text : take (2 * n) (c.write.new.out ++ drop (2 * n) c.loop-done.room) ≡ encode_lower (take n (drop done bytes)) =
    room_front c.loop-done.room c.write.new.out (2 * n) c.write.auto.out few ∙ c.write.ensures ∙ ap (λ (m : ℕ). encode_lower (take m (drop done bytes))) here in
    let old = g.K.Sink.written c.args.sink.now in
    let before = g.K.Sink.written c.loop-done.sink in
    let after = g.K.Sink.written c.write_all.new.sink in
    let test = c.loop-done-test.true in
    let later = c.in_ok-write_all.ensures.later in
    let was = i.later in
    record {
      written = digits_on old before after bytes done n i.written (subst (Appends before after) text c.in_ok-write_all.ensures.written);
      later = omega (arith, later, was);
      within = omega (arith, count, test);
      room = room_same c.loop-done.room c.write.new.out (2 * n) c.write.auto.out few ∙ size;
    }
