use Rattle.std.proofs.Common.{pos, [], ◌∷◌, Some, refl, arith}
use Rattle.std.specs.Int.{w32}
use Rattle.std.proofs.lemmas.Int.{to_z-of_z}
use Rattle.kbytes.specs.Cursor.{rest_of}
use Rattle.kbytes.specs.Field.{Array, Int32, String, integer}
use Rattle.kbytes.specs.Reading.{Spells}
use Rattle.follower.specs.ReplyBody.{Asked, GoesWrongAt}
use Rattle.follower.specs.Standing.{HasRead, NoneBegins, head_fields}
use Rattle.follower.proofs.Steps.{read_none_yet, read_on, spelled_one, stops_at}
use Rattle.follower.proofs.Cases.{if_none, if_some}
use Rattle.follower.proofs.told.read_head.Goals as goal

pub returns-in-Some-expect_i32-clause-wrong : goal.returns-in-Some-expect_i32-clause-wrong
returns-in-Some-expect_i32-clause-wrong c =
    let asked : Asked = record { correlation = c.args.correlation; topic = c.args.topic.now; index = c.args.index } in
    let body = c.args.reader.now.bytes in
    let zero = read_none_yet asked body c.args.reader.now refl c.requires.start in
    let one = read_on asked body [] c.args.reader.now c.expect_i32.new.reader (Int32 asked.correlation) zero (rw (to_z-of_z w32 asked.correlation c.ranges.correlation) at c.in_default.ensures.read) refl c.ranges.correlation in
    stops_at asked body (Int32 asked.correlation ∷ []) c.expect_i32.new.reader c.in-Some-expect_i32.at (Int32 (pos 0)) one c.in-Some-expect_i32.ensures.place (λ e. omega (arith, e)) c.in-Some-expect_i32.ensures.none (λ f may. may)

pub returns-in-Some-expect_i32-2-clause-wrong : goal.returns-in-Some-expect_i32-2-clause-wrong
returns-in-Some-expect_i32-2-clause-wrong c =
    let asked : Asked = record { correlation = c.args.correlation; topic = c.args.topic.now; index = c.args.index } in
    let body = c.args.reader.now.bytes in
    let zero = read_none_yet asked body c.args.reader.now refl c.requires.start in
    let one = read_on asked body [] c.args.reader.now c.expect_i32.new.reader (Int32 asked.correlation) zero (rw (to_z-of_z w32 asked.correlation c.ranges.correlation) at c.in_default.ensures.read) refl c.ranges.correlation in
    let two = read_on asked body (Int32 asked.correlation ∷ []) c.expect_i32.new.reader c.expect_i32-2.new.reader (Int32 (pos 0)) one c.in_default-expect_i32.ensures.read refl (record { sfits = omega arith }) in
    stops_at asked body (Int32 asked.correlation ∷ Int32 (pos 0) ∷ []) c.expect_i32-2.new.reader c.in-Some-expect_i32-2.at (Array (Some 1)) two c.in-Some-expect_i32-2.ensures.place (λ e. omega (arith, e)) c.in-Some-expect_i32-2.ensures.none (λ f may. may)

pub returns-in-Some-expect_string-clause-wrong : goal.returns-in-Some-expect_string-clause-wrong
returns-in-Some-expect_string-clause-wrong c =
    let asked : Asked = record { correlation = c.args.correlation; topic = c.args.topic.now; index = c.args.index } in
    let body = c.args.reader.now.bytes in
    let zero = read_none_yet asked body c.args.reader.now refl c.requires.start in
    let one = read_on asked body [] c.args.reader.now c.expect_i32.new.reader (Int32 asked.correlation) zero (rw (to_z-of_z w32 asked.correlation c.ranges.correlation) at c.in_default.ensures.read) refl c.ranges.correlation in
    let two = read_on asked body (Int32 asked.correlation ∷ []) c.expect_i32.new.reader c.expect_i32-2.new.reader (Int32 (pos 0)) one c.in_default-expect_i32.ensures.read refl (record { sfits = omega arith }) in
    let three = read_on asked body (Int32 asked.correlation ∷ Int32 (pos 0) ∷ []) c.expect_i32-2.new.reader c.expect_i32-3.new.reader (Array (Some 1)) two (spelled_one c.expect_i32-2.new.reader c.expect_i32-3.new.reader c.in_default-expect_i32-2.ensures.read) refl (omega arith) in
    stops_at asked body (Int32 asked.correlation ∷ Int32 (pos 0) ∷ Array (Some 1) ∷ []) c.expect_i32-3.new.reader c.in-Some-expect_string.at (String asked.topic) three c.in-Some-expect_string.ensures.place (λ e. omega (arith, e)) c.in-Some-expect_string.ensures.none (λ f may. may)

pub returns-in-Some-expect_i32-3-clause-wrong : goal.returns-in-Some-expect_i32-3-clause-wrong
returns-in-Some-expect_i32-3-clause-wrong c =
    let asked : Asked = record { correlation = c.args.correlation; topic = c.args.topic.now; index = c.args.index } in
    let body = c.args.reader.now.bytes in
    let zero = read_none_yet asked body c.args.reader.now refl c.requires.start in
    let one = read_on asked body [] c.args.reader.now c.expect_i32.new.reader (Int32 asked.correlation) zero (rw (to_z-of_z w32 asked.correlation c.ranges.correlation) at c.in_default.ensures.read) refl c.ranges.correlation in
    let two = read_on asked body (Int32 asked.correlation ∷ []) c.expect_i32.new.reader c.expect_i32-2.new.reader (Int32 (pos 0)) one c.in_default-expect_i32.ensures.read refl (record { sfits = omega arith }) in
    let three = read_on asked body (Int32 asked.correlation ∷ Int32 (pos 0) ∷ []) c.expect_i32-2.new.reader c.expect_i32-3.new.reader (Array (Some 1)) two (spelled_one c.expect_i32-2.new.reader c.expect_i32-3.new.reader c.in_default-expect_i32-2.ensures.read) refl (omega arith) in
    let four = read_on asked body (Int32 asked.correlation ∷ Int32 (pos 0) ∷ Array (Some 1) ∷ []) c.expect_i32-3.new.reader c.expect_string.new.reader (String asked.topic) three c.in_default-expect_string.ensures.read refl (omega (arith, c.requires.short)) in
    stops_at asked body (Int32 asked.correlation ∷ Int32 (pos 0) ∷ Array (Some 1) ∷ String asked.topic ∷ []) c.expect_string.new.reader c.in-Some-expect_i32-3.at (Array (Some 1)) four c.in-Some-expect_i32-3.ensures.place (λ e. omega (arith, e)) c.in-Some-expect_i32-3.ensures.none (λ f may. may)

pub returns-clause-read : goal.returns-clause-read
returns-clause-read c =
    let asked : Asked = record { correlation = c.args.correlation; topic = c.args.topic.now; index = c.args.index } in
    let body = c.args.reader.now.bytes in
    let zero = read_none_yet asked body c.args.reader.now refl c.requires.start in
    let one = read_on asked body [] c.args.reader.now c.expect_i32.new.reader (Int32 asked.correlation) zero (rw (to_z-of_z w32 asked.correlation c.ranges.correlation) at c.in_default.ensures.read) refl c.ranges.correlation in
    let two = read_on asked body (Int32 asked.correlation ∷ []) c.expect_i32.new.reader c.expect_i32-2.new.reader (Int32 (pos 0)) one c.in_default-expect_i32.ensures.read refl (record { sfits = omega arith }) in
    let three = read_on asked body (Int32 asked.correlation ∷ Int32 (pos 0) ∷ []) c.expect_i32-2.new.reader c.expect_i32-3.new.reader (Array (Some 1)) two (spelled_one c.expect_i32-2.new.reader c.expect_i32-3.new.reader c.in_default-expect_i32-2.ensures.read) refl (omega arith) in
    let four = read_on asked body (Int32 asked.correlation ∷ Int32 (pos 0) ∷ Array (Some 1) ∷ []) c.expect_i32-3.new.reader c.expect_string.new.reader (String asked.topic) three c.in_default-expect_string.ensures.read refl (omega (arith, c.requires.short)) in
    let five = read_on asked body (Int32 asked.correlation ∷ Int32 (pos 0) ∷ Array (Some 1) ∷ String asked.topic ∷ []) c.expect_string.new.reader c.expect_i32-4.new.reader (Array (Some 1)) four (spelled_one c.expect_string.new.reader c.expect_i32-4.new.reader c.in_default-expect_i32-3.ensures.read) refl (omega arith) in
    if_none (Spells c.expect_i32-4.new.reader c.expect_i32-5.new.reader (Int32 asked.index)) (HasRead asked body (head_fields asked) c.expect_i32-5.new.reader) c.expect_i32-5.result
    (λ spells. read_on asked body (Int32 asked.correlation ∷ Int32 (pos 0) ∷ Array (Some 1) ∷ String asked.topic ∷ Array (Some 1) ∷ []) c.expect_i32-4.new.reader c.expect_i32-5.new.reader (Int32 asked.index) five spells refl c.ranges.index)
    (rw (to_z-of_z w32 asked.index c.ranges.index) at c.expect_i32-5.ensures.read)

pub returns-clause-wrong : goal.returns-clause-wrong
returns-clause-wrong c =
    let asked : Asked = record { correlation = c.args.correlation; topic = c.args.topic.now; index = c.args.index } in
    let body = c.args.reader.now.bytes in
    let zero = read_none_yet asked body c.args.reader.now refl c.requires.start in
    let one = read_on asked body [] c.args.reader.now c.expect_i32.new.reader (Int32 asked.correlation) zero (rw (to_z-of_z w32 asked.correlation c.ranges.correlation) at c.in_default.ensures.read) refl c.ranges.correlation in
    let two = read_on asked body (Int32 asked.correlation ∷ []) c.expect_i32.new.reader c.expect_i32-2.new.reader (Int32 (pos 0)) one c.in_default-expect_i32.ensures.read refl (record { sfits = omega arith }) in
    let three = read_on asked body (Int32 asked.correlation ∷ Int32 (pos 0) ∷ []) c.expect_i32-2.new.reader c.expect_i32-3.new.reader (Array (Some 1)) two (spelled_one c.expect_i32-2.new.reader c.expect_i32-3.new.reader c.in_default-expect_i32-2.ensures.read) refl (omega arith) in
    let four = read_on asked body (Int32 asked.correlation ∷ Int32 (pos 0) ∷ Array (Some 1) ∷ []) c.expect_i32-3.new.reader c.expect_string.new.reader (String asked.topic) three c.in_default-expect_string.ensures.read refl (omega (arith, c.requires.short)) in
    let five = read_on asked body (Int32 asked.correlation ∷ Int32 (pos 0) ∷ Array (Some 1) ∷ String asked.topic ∷ []) c.expect_string.new.reader c.expect_i32-4.new.reader (Array (Some 1)) four (spelled_one c.expect_string.new.reader c.expect_i32-4.new.reader c.in_default-expect_i32-3.ensures.read) refl (omega arith) in
    if_some c.expect_i32-4.new.reader.at (NoneBegins (rest_of c.expect_i32-4.new.reader) (integer w32 asked.index)) (GoesWrongAt asked body) c.expect_i32-5.result
    (λ at is none. stops_at asked body (Int32 asked.correlation ∷ Int32 (pos 0) ∷ Array (Some 1) ∷ String asked.topic ∷ Array (Some 1) ∷ []) c.expect_i32-4.new.reader at (Int32 asked.index) five is (λ e. omega (arith, e)) none (λ f may. may))
    c.expect_i32-5.ensures.place (rw (to_z-of_z w32 asked.index c.ranges.index) at c.expect_i32-5.ensures.none)
