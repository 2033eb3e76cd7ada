use Rattle.std.proofs.Common.{ℤ, List, ℕ, subst, rules}
use Rattle.std.specs.Prelude.{OnOk}
use Rattle.std.specs.Int.{w8, w16, w32, w64}
use mir.Val.{SFits, of_z, to_z}
use Rattle.std.proofs.lemmas.Int.{to_z-of_z}
use Rattle.kwire.specs.declared.reply.FetchedPart.{FetchedPart}
use Rattle.kwire.specs.Spelling.{fetched_part_fields}
use Rattle.kwire.proofs.Spelled.{Put}
use Rattle.kwire.proofs.put_fetched.put_part.Goals as goal

pub returns : goal.returns
returns c =
    let part = c.args.part.now in
    let f1 : SFits w32 part.index = search rules in
    let f2 : SFits w16 part.code = search rules in
    let f3 : SFits w64 part.high = search rules in
    let f4 : SFits w64 part.start = search rules in
    let told : ℤ → ℤ → ℤ → ℤ → List ℕ → FetchedPart = λ index code high start records. record { index = index; code = code; high = high; start = start; records = records } in
    let Is : ℤ → ℤ → FetchedPart → Type 0 = λ version isolation p. OnOk c.put_fetched_part.result (Put c.args.out.now c.put_fetched_part.new.out (fetched_part_fields version isolation p)) in
    let version : ℤ = to_z w16 (of_z w16 c.args.version) in
    let isolation : ℤ = to_z w8 (of_z w8 c.args.isolation) in
    let code : ℤ = to_z w16 (of_z w16 part.code) in
    let high : ℤ = to_z w64 (of_z w64 part.high) in
    let start : ℤ = to_z w64 (of_z w64 part.start) in
    subst (λ (v : ℤ). Is v c.args.isolation part) (to_z-of_z w16 c.args.version c.ranges.version)
    (subst (λ (i : ℤ). Is version i part) (to_z-of_z w8 c.args.isolation c.ranges.isolation)
    (subst (λ (z : ℤ). Is version isolation (told z part.code part.high part.start part.records)) (to_z-of_z w32 part.index f1)
    (subst (λ (z : ℤ). Is version isolation (told (to_z w32 (of_z w32 part.index)) z part.high part.start part.records)) (to_z-of_z w16 part.code f2)
    (subst (λ (z : ℤ). Is version isolation (told (to_z w32 (of_z w32 part.index)) code z part.start part.records)) (to_z-of_z w64 part.high f3)
    (subst (λ (z : ℤ). Is version isolation (told (to_z w32 (of_z w32 part.index)) code high z part.records)) (to_z-of_z w64 part.start f4)
    (subst (λ (bytes : List ℕ). Is version isolation (told (to_z w32 (of_z w32 part.index)) code high start bytes)) c.as_slice.ensures c.put_fetched_part.ensures))))))
