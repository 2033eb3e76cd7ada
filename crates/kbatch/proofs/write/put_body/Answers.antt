use Rattle.std.proofs.Common.{◌++◌, pos, length, ap, ◌∙◌, rules, arith}
use Rattle.std.specs.Prelude.{FitsSigned}
use Rattle.std.specs.Int.{w8, w32, w64}
use Rattle.std.specs.List.{flat_map}
use Rattle.std.proofs.lemmas.Int.{to_z-of_z, to_z_pos}
use Rattle.std.proofs.lemmas.Result.{on_ok_weaker}
use Rattle.kbytes.specs.Field.{field, Int8, Varint, Varlong}
use Rattle.kbatch.specs.Record.{header_bytes}
use Rattle.kbatch.proofs.Puts.{key_within, value_within, headers_within, few_headers, body_put}
use Rattle.kbatch.proofs.write.put_body.Goals as goal

pub put_nullable-requires : goal.put_nullable-requires
put_nullable-requires c = key_within c.args.delta c.args.record.now c.requires.size

pub put_nullable-requires-2 : goal.put_nullable-requires-2
put_nullable-requires-2 c = value_within c.args.delta c.args.record.now c.requires.size

pub overflow_cast-len : goal.overflow_cast-len
overflow_cast-len c =
    let few = few_headers c.args.delta c.args.record.now c.requires.size in
    record { sfits = omega (arith, few, c.len.ensures) }

pub put_headers-requires : goal.put_headers-requires
put_headers-requires c =
    omega (arith, headers_within c.args.delta c.args.record.now c.requires.size, ap (λ hs. length (flat_map header_bytes hs)) c.as_slice.ensures)

pub returns : goal.returns
returns c =
    let r = c.args.record.now in
    let few = few_headers c.args.delta r c.requires.size in
    let attributes : FitsSigned w8 r.attributes = search rules in
    let time : FitsSigned w64 r.time = search rules in
    let e1 = c.in_ok-put_i8.ensures.ok ∙ ap (λ z. c.args.out.now ++ field (Int8 z)) (to_z-of_z w8 r.attributes attributes) in
    let e2 = c.in_ok-put_varlong.ensures.ok ∙ ap (λ z. c.put_i8.new.out ++ field (Varlong z)) (to_z-of_z w64 r.time time) in
    let e3 = c.in_ok-put_varint.ensures.ok ∙ ap (λ z. c.put_varlong.new.out ++ field (Varint z)) (to_z_pos w32 c.args.delta c.requires.delta) in
    let e6 = c.in_ok-put_varint-2.ensures.ok ∙ ap (λ z. c.put_nullable-2.new.out ++ field (Varint z)) (to_z_pos w32 c.len.result (omega (arith, few, c.len.ensures)) ∙ ap pos c.len.ensures) in
    on_ok_weaker c.put_headers.result
    (λ e. body_put c.args.delta r c.args.out.now c.put_i8.new.out c.put_varlong.new.out c.put_varint.new.out c.put_nullable.new.out c.put_nullable-2.new.out c.put_varint-2.new.out c.put_headers.new.out e1 e2 e3 c.in_ok-put_nullable.ensures c.in_ok-put_nullable-2.ensures e6 (e ∙ ap (λ hs. c.put_varint-2.new.out ++ flat_map header_bytes hs) c.as_slice.ensures))
    c.put_headers.ensures
