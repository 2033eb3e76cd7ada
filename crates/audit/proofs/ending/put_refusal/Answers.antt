use Rattle.std.proofs.Common.{◌≡◌, ℕ, ℤ, List, [], ◌∷◌, ◌++◌, sym, ap, ◌∙◌, append_assoc, codes, rules, to_z, of_z, w16, w32}
use Rattle.std.proofs.lemmas.Int.{to_z-of_z}
use mir.Val.{SFits}
use Rattle.std.specs.Fmt.{signed_decimal}
use Rattle.kwire.specs.declared.frame.WireFault.{WireFault}
use Rattle.audit.specs.Printed.{refusal_words}
use Rattle.trace_file.specs.PrintedLine.{line_of}
use Rattle.audit.proofs.Ends.{on_ok}
use Rattle.audit.proofs.ending.put_refusal.Goals as goal

pub returns-in-UnknownApi : goal.returns-in-UnknownApi
returns-in-UnknownApi c =
    let key = c.in-UnknownApi.key in
    let out = c.args.out.now in
    let narrow : SFits w16 key = search rules in
    let wide : SFits w32 c.from.result = search rules in
    let same : to_z w32 (of_z w32 c.from.result) ≡ key = to_z-of_z w32 c.from.result wide ∙ c.from.ensures ∙ to_z-of_z w16 key narrow in
    on_ok c.put_last_signed.result c.put_last_signed.ensures (λ e.
    e ∙ ap (λ (z : ℤ). out ++ (codes "unknown-api " ++ (signed_decimal z ++ 10 ∷ []))) same ∙ ap (λ (why : WireFault). out ++ line_of (refusal_words why)) (sym c.in-UnknownApi.is))

pub returns-in_ok-put_signed-in-Unsupported : goal.returns-in_ok-put_signed-in-Unsupported
returns-in_ok-put_signed-in-Unsupported c =
    let key = c.in-Unsupported.key in
    let version = c.in-Unsupported.version in
    let out = c.args.out.now in
    let first = c.from-in-Unsupported.result in
    let second = c.from-in-Unsupported-2.result in
    let key_fits : SFits w16 key = search rules in
    let version_fits : SFits w16 version = search rules in
    let first_fits : SFits w32 first = search rules in
    let second_fits : SFits w32 second = search rules in
    let first_is : to_z w32 (of_z w32 first) ≡ key = to_z-of_z w32 first first_fits ∙ c.from-in-Unsupported.ensures ∙ to_z-of_z w16 key key_fits in
    let second_is : to_z w32 (of_z w32 second) ≡ version = to_z-of_z w32 second second_fits ∙ c.from-in-Unsupported-2.ensures ∙ to_z-of_z w16 version version_fits in
    let told : List ℕ = codes "unsupported " ++ signed_decimal key in
    on_ok c.put_last_signed-in-Unsupported.result c.put_last_signed-in-Unsupported.ensures (λ e.
    e
    ∙ ap (λ (t : List ℕ). t ++ 32 ∷ (signed_decimal (to_z w32 (of_z w32 second)) ++ 10 ∷ [])) (c.in_ok-put_signed-in-Unsupported.ensures ∙ ap (λ (z : ℤ). out ++ (codes "unsupported " ++ signed_decimal z)) first_is)
    ∙ ap (λ (z : ℤ). (out ++ told) ++ 32 ∷ (signed_decimal z ++ 10 ∷ [])) second_is
    ∙ append_assoc out told (32 ∷ (signed_decimal version ++ 10 ∷ []))
    ∙ ap (λ (t : List ℕ). out ++ t) (append_assoc (codes "unsupported ") (signed_decimal key) (32 ∷ (signed_decimal version ++ 10 ∷ [])))
    ∙ ap (λ (why : WireFault). out ++ line_of (refusal_words why)) (sym c.in-Unsupported.is))
