use Rattle.std.specs.Prelude.{negsuc}
use Rattle.std.proofs.Common.{[], ◌∷◌, ◌++◌, Some, None, refl, sym, ap, subst, ◌∙◌, arith}
use Rattle.std.specs.Int.{w16, w32, w64}
use Rattle.std.proofs.lemmas.Int.{to_z-of_z}
use Rattle.kbytes.specs.Cursor.{rest_of}
use Rattle.kbytes.specs.Field.{Field, Array, Int16, Int64, Records, field}
use Rattle.kbytes.specs.FitsField.{FitsField}
use Rattle.kbytes.proofs.Laws.{wide_16, wide_64}
use Rattle.follower.specs.ReplyBody.{reply_fields}
use Rattle.kwire.specs.declared.reply.FetchedPart.{FetchedPart}
use Rattle.follower.specs.Standing.{HasRead, head_fields}
use Rattle.follower.proofs.Fronts.{integer_fits, none_integer}
use Rattle.follower.proofs.Steps.{read_on, spelled_null, none_left, some_left, stops, stops_at, whole_reply}
use Rattle.follower.proofs.told.read_tail.Goals as goal

pub returns-in_default-clause-wrong : goal.returns-in_default-clause-wrong
returns-in_default-clause-wrong c = λ asked body head.
    stops asked body (head_fields asked) c.args.reader.now c.at-first.result head c.at-first.ensures.at (λ e. omega (arith, e)) (none_integer w16 wide_16 Int16 (λ z. refl) (λ z fits. fits) c.args.reader.now c.in_default.field-0 c.in_default.ensures.exact.0)

pub returns-in_default-i64-clause-wrong : goal.returns-in_default-i64-clause-wrong
returns-in_default-i64-clause-wrong c = λ asked body head.
    let code_fits = integer_fits w16 c.args.reader.now c.i16.new.self c.in-Ok.code c.in-Ok.ensures.exact in
    let six = read_on asked body (head_fields asked) c.args.reader.now c.i16.new.self (Int16 c.in-Ok.code) head c.in-Ok.ensures.read (c.in-Ok.code, refl) code_fits in
    stops asked body (head_fields asked ++ Int16 c.in-Ok.code ∷ []) c.i16.new.self c.at-second.result six c.at-second.ensures.at (λ e. omega (arith, e)) (none_integer w64 wide_64 Int64 (λ z. refl) (λ z fits. fits) c.i16.new.self c.in_default-i64.field-0 c.in_default-i64.ensures.exact.0)

pub returns-in-Some-clause-wrong : goal.returns-in-Some-clause-wrong
returns-in-Some-clause-wrong c = λ asked body head.
    let code_fits = integer_fits w16 c.args.reader.now c.i16.new.self c.in-Ok.code c.in-Ok.ensures.exact in
    let high_fits = integer_fits w64 c.i16.new.self c.i64.new.self c.in-Ok-i64.high c.in-Ok-i64.ensures.exact in
    let six = read_on asked body (head_fields asked) c.args.reader.now c.i16.new.self (Int16 c.in-Ok.code) head c.in-Ok.ensures.read (c.in-Ok.code, refl) code_fits in
    let seven = read_on asked body (head_fields asked ++ Int16 c.in-Ok.code ∷ []) c.i16.new.self c.i64.new.self (Int64 c.in-Ok-i64.high) six c.in-Ok-i64.ensures.read (c.in-Ok-i64.high, refl) high_fits in
    stops_at asked body (head_fields asked ++ Int16 c.in-Ok.code ∷ Int64 c.in-Ok-i64.high ∷ []) c.i64.new.self c.in-Some.at (Int64 c.in-Ok-i64.high) seven c.in-Some.ensures.place (λ e. omega (arith, e)) (rw (to_z-of_z w64 c.in-Ok-i64.high high_fits) at c.in-Some.ensures.none) (λ f may. may)

pub returns-in-Some-expect_i32-clause-wrong : goal.returns-in-Some-expect_i32-clause-wrong
returns-in-Some-expect_i32-clause-wrong c = λ asked body head.
    let code_fits = integer_fits w16 c.args.reader.now c.i16.new.self c.in-Ok.code c.in-Ok.ensures.exact in
    let high_fits = integer_fits w64 c.i16.new.self c.i64.new.self c.in-Ok-i64.high c.in-Ok-i64.ensures.exact in
    let six = read_on asked body (head_fields asked) c.args.reader.now c.i16.new.self (Int16 c.in-Ok.code) head c.in-Ok.ensures.read (c.in-Ok.code, refl) code_fits in
    let seven = read_on asked body (head_fields asked ++ Int16 c.in-Ok.code ∷ []) c.i16.new.self c.i64.new.self (Int64 c.in-Ok-i64.high) six c.in-Ok-i64.ensures.read (c.in-Ok-i64.high, refl) high_fits in
    let eight = read_on asked body (head_fields asked ++ Int16 c.in-Ok.code ∷ Int64 c.in-Ok-i64.high ∷ []) c.i64.new.self c.expect_i64.new.reader (Int64 c.in-Ok-i64.high) seven (rw (to_z-of_z w64 c.in-Ok-i64.high high_fits) at c.in_default-expect_i64.ensures.read) refl high_fits in
    stops_at asked body (head_fields asked ++ Int16 c.in-Ok.code ∷ Int64 c.in-Ok-i64.high ∷ Int64 c.in-Ok-i64.high ∷ []) c.expect_i64.new.reader c.in-Some-expect_i32.at (Array None) eight c.in-Some-expect_i32.ensures.place (λ e. omega (arith, e)) c.in-Some-expect_i32.ensures.none (λ f may. may)

pub returns-in-Err-clause-wrong : goal.returns-in-Err-clause-wrong
returns-in-Err-clause-wrong c = λ asked body head.
    let code_fits = integer_fits w16 c.args.reader.now c.i16.new.self c.in-Ok.code c.in-Ok.ensures.exact in
    let high_fits = integer_fits w64 c.i16.new.self c.i64.new.self c.in-Ok-i64.high c.in-Ok-i64.ensures.exact in
    let six = read_on asked body (head_fields asked) c.args.reader.now c.i16.new.self (Int16 c.in-Ok.code) head c.in-Ok.ensures.read (c.in-Ok.code, refl) code_fits in
    let seven = read_on asked body (head_fields asked ++ Int16 c.in-Ok.code ∷ []) c.i16.new.self c.i64.new.self (Int64 c.in-Ok-i64.high) six c.in-Ok-i64.ensures.read (c.in-Ok-i64.high, refl) high_fits in
    let eight = read_on asked body (head_fields asked ++ Int16 c.in-Ok.code ∷ Int64 c.in-Ok-i64.high ∷ []) c.i64.new.self c.expect_i64.new.reader (Int64 c.in-Ok-i64.high) seven (rw (to_z-of_z w64 c.in-Ok-i64.high high_fits) at c.in_default-expect_i64.ensures.read) refl high_fits in
    let nine = read_on asked body (head_fields asked ++ Int16 c.in-Ok.code ∷ Int64 c.in-Ok-i64.high ∷ Int64 c.in-Ok-i64.high ∷ []) c.expect_i64.new.reader c.expect_i32.new.reader (Array None) eight (spelled_null c.expect_i64.new.reader c.expect_i32.new.reader c.in_default-expect_i32.ensures.read) refl tt in
    stops asked body (head_fields asked ++ Int16 c.in-Ok.code ∷ Int64 c.in-Ok-i64.high ∷ Int64 c.in-Ok-i64.high ∷ Array None ∷ []) c.expect_i32.new.reader c.in-Err.at nine c.in-Err.ensures.place (λ e. omega (arith, e))
    (λ f after stands fits may. c.in-Err.ensures.none may.0 (subst FitsField may.1 fits) after (stands ∙ ap (λ (g : Field). field g ++ after) may.1))

pub returns-in-Ok-next_records-clause-wrong : goal.returns-in-Ok-next_records-clause-wrong
returns-in-Ok-next_records-clause-wrong c = λ asked body head.
    let code_fits = integer_fits w16 c.args.reader.now c.i16.new.self c.in-Ok.code c.in-Ok.ensures.exact in
    let high_fits = integer_fits w64 c.i16.new.self c.i64.new.self c.in-Ok-i64.high c.in-Ok-i64.ensures.exact in
    let six = read_on asked body (head_fields asked) c.args.reader.now c.i16.new.self (Int16 c.in-Ok.code) head c.in-Ok.ensures.read (c.in-Ok.code, refl) code_fits in
    let seven = read_on asked body (head_fields asked ++ Int16 c.in-Ok.code ∷ []) c.i16.new.self c.i64.new.self (Int64 c.in-Ok-i64.high) six c.in-Ok-i64.ensures.read (c.in-Ok-i64.high, refl) high_fits in
    let eight = read_on asked body (head_fields asked ++ Int16 c.in-Ok.code ∷ Int64 c.in-Ok-i64.high ∷ []) c.i64.new.self c.expect_i64.new.reader (Int64 c.in-Ok-i64.high) seven (rw (to_z-of_z w64 c.in-Ok-i64.high high_fits) at c.in_default-expect_i64.ensures.read) refl high_fits in
    let nine = read_on asked body (head_fields asked ++ Int16 c.in-Ok.code ∷ Int64 c.in-Ok-i64.high ∷ Int64 c.in-Ok-i64.high ∷ []) c.expect_i64.new.reader c.expect_i32.new.reader (Array None) eight (spelled_null c.expect_i64.new.reader c.expect_i32.new.reader c.in_default-expect_i32.ensures.read) refl tt in
    let ten = read_on asked body (head_fields asked ++ Int16 c.in-Ok.code ∷ Int64 c.in-Ok-i64.high ∷ Int64 c.in-Ok-i64.high ∷ Array None ∷ []) c.expect_i32.new.reader c.next_records.new.reader (Records (Some c.in-Ok-next_records.field-0.now)) nine c.in-Ok-next_records.ensures.read (c.in-Ok-next_records.field-0.now, refl) c.in-Ok-next_records.ensures.short in
    let all = head_fields asked ++ Int16 c.in-Ok.code ∷ Int64 c.in-Ok-i64.high ∷ Int64 c.in-Ok-i64.high ∷ Array None ∷ Records (Some c.in-Ok-next_records.field-0.now) ∷ [] in
    let reader = c.next_records.new.reader in
    record {
      front = all;
      rest = rest_of reader;
      agree = ten.agree;
      parts = ten.parts;
      place = c.at.ensures.at ∙ ten.at;
      wrong = λ f after stands fits may. may;
      more = λ e. some_left (rest_of reader) (rw (sym c.rest.ensures) c.if-not-is_empty.ensures);
    }

pub returns-in-Ok-2-clause-told : goal.returns-in-Ok-2-clause-told
returns-in-Ok-2-clause-told c = λ asked body same head.
    let code_fits = integer_fits w16 c.args.reader.now c.i16.new.self c.in-Ok.code c.in-Ok.ensures.exact in
    let high_fits = integer_fits w64 c.i16.new.self c.i64.new.self c.in-Ok-i64.high c.in-Ok-i64.ensures.exact in
    let six = read_on asked body (head_fields asked) c.args.reader.now c.i16.new.self (Int16 c.in-Ok.code) head c.in-Ok.ensures.read (c.in-Ok.code, refl) code_fits in
    let seven = read_on asked body (head_fields asked ++ Int16 c.in-Ok.code ∷ []) c.i16.new.self c.i64.new.self (Int64 c.in-Ok-i64.high) six c.in-Ok-i64.ensures.read (c.in-Ok-i64.high, refl) high_fits in
    let eight = read_on asked body (head_fields asked ++ Int16 c.in-Ok.code ∷ Int64 c.in-Ok-i64.high ∷ []) c.i64.new.self c.expect_i64.new.reader (Int64 c.in-Ok-i64.high) seven (rw (to_z-of_z w64 c.in-Ok-i64.high high_fits) at c.in_default-expect_i64.ensures.read) refl high_fits in
    let nine = read_on asked body (head_fields asked ++ Int16 c.in-Ok.code ∷ Int64 c.in-Ok-i64.high ∷ Int64 c.in-Ok-i64.high ∷ []) c.expect_i64.new.reader c.expect_i32.new.reader (Array None) eight (spelled_null c.expect_i64.new.reader c.expect_i32.new.reader c.in_default-expect_i32.ensures.read) refl tt in
    let ten = read_on asked body (head_fields asked ++ Int16 c.in-Ok.code ∷ Int64 c.in-Ok-i64.high ∷ Int64 c.in-Ok-i64.high ∷ Array None ∷ []) c.expect_i32.new.reader c.next_records.new.reader (Records (Some c.in-Ok-next_records.field-0.now)) nine c.in-Ok-next_records.ensures.read (c.in-Ok-next_records.field-0.now, refl) c.in-Ok-next_records.ensures.short in
    let told : FetchedPart = record { index = c.args.index; code = c.in-Ok.code; high = c.in-Ok-i64.high; start = negsuc 0; records = c.in-Ok-next_records.field-0.now } in
    let reader = c.next_records.new.reader in
    let moved : HasRead asked body (reply_fields asked told) reader = rw (sym same) ten in
    let reply = whole_reply asked body told reader (sym same) refl moved (none_left (rest_of reader) (rw (sym c.rest.ensures) c.if-not-is_empty.ensures)) in
    rw (to_z-of_z w32 c.args.index c.ranges.index, to_z-of_z w16 c.in-Ok.code code_fits, to_z-of_z w64 c.in-Ok-i64.high high_fits) reply
