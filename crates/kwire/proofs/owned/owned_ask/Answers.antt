use Rattle.std.proofs.Common.{◌∙◌, ℤ, sym, ap, rules}
use Rattle.std.specs.Int.{w8, w16, w32}
use mir.Val.{SFits, of_z, to_z}
use Rattle.std.proofs.lemmas.Int.{to_z-of_z}
use Rattle.kwire.specs.declared.request.Ask.TheVariants.{Fetch}
use Rattle.std.proofs.lemmas.List.{map-id}
use Rattle.kwire.specs.Views.{ask_of}
use Rattle.kwire.proofs.owned.owned_ask.Goals as goal

abbrev w16_again : ℤ → ℤ
w16_again z = to_z w16 (of_z w16 z)

abbrev w32_again : ℤ → ℤ
w32_again z = to_z w32 (of_z w32 z)

abbrev w8_again : ℤ → ℤ
w8_again z = to_z w8 (of_z w8 z)

pub returns-in_ok-owned_list-in-Fetch : goal.returns-in_ok-owned_list-in-Fetch
returns-in_ok-owned_list-in-Fetch c =
    let ask = c.in-Fetch in
    let topics = c.in_ok-owned_list-in-Fetch.field-0 in
    let f1 : SFits w16 ask.version = search rules in
    let f2 : SFits w32 ask.replica = search rules in
    let f3 : SFits w32 ask.max_wait = search rules in
    let f4 : SFits w32 ask.min_bytes = search rules in
    let f5 : SFits w32 ask.max_bytes = search rules in
    let f6 : SFits w8 ask.isolation = search rules in
    ap (λ (z : ℤ). Fetch z (w32_again ask.replica) (w32_again ask.max_wait) (w32_again ask.min_bytes) (w32_again ask.max_bytes) (w8_again ask.isolation) topics) (to_z-of_z w16 ask.version f1)
    ∙ ap (λ (z : ℤ). Fetch ask.version z (w32_again ask.max_wait) (w32_again ask.min_bytes) (w32_again ask.max_bytes) (w8_again ask.isolation) topics) (to_z-of_z w32 ask.replica f2)
    ∙ ap (λ (z : ℤ). Fetch ask.version ask.replica z (w32_again ask.min_bytes) (w32_again ask.max_bytes) (w8_again ask.isolation) topics) (to_z-of_z w32 ask.max_wait f3)
    ∙ ap (λ (z : ℤ). Fetch ask.version ask.replica ask.max_wait z (w32_again ask.max_bytes) (w8_again ask.isolation) topics) (to_z-of_z w32 ask.min_bytes f4)
    ∙ ap (λ (z : ℤ). Fetch ask.version ask.replica ask.max_wait ask.min_bytes z (w8_again ask.isolation) topics) (to_z-of_z w32 ask.max_bytes f5)
    ∙ ap (λ (z : ℤ). Fetch ask.version ask.replica ask.max_wait ask.min_bytes ask.max_bytes z topics) (to_z-of_z w8 ask.isolation f6)
    ∙ ap (Fetch ask.version ask.replica ask.max_wait ask.min_bytes ask.max_bytes ask.isolation) (c.in_ok-owned_list-in-Fetch.ensures ∙ map-id c.as_slice-in-Fetch.result.now ∙ c.as_slice-in-Fetch.ensures)
    ∙ ap ask_of (sym ask.is)
