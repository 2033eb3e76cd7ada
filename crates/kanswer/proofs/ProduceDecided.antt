-- What is decided of a named partition of a produce, cause by cause.
use Rattle.std.proofs.Common.{◌≡◌, ℕ, ℤ, pos, Bool, true, false, List, [], Option, Some, None, unwrap_or, refl, sym, subst}
use Rattle.std.specs.Prelude.{MatchOption, MatchBool, is_some}
use Rattle.kwire.specs.declared.request.ProducePart.{ProducePart}
use Rattle.kwire.specs.Configuration.{Configuration, part_of}
use Rattle.kanswer.specs.Decisions.{Decision, Refuse, BatchDecides, ProduceDecides, is_acks, least_insync}

pub produce_with_id : (version : ℤ) (config : Configuration) (acks : ℤ) (named : List ℕ × ProducePart) (id : Option (List ℕ)) → is_some id ≡ true → ProduceDecides config version id acks named (Refuse (pos 42))
produce_with_id version config acks named None e = absurd cc
produce_with_id version config acks named (Some id) e = refl

pub produce_unknown : (version : ℤ) (config : Configuration) (acks : ℤ) (named : List ℕ × ProducePart) (id : Option (List ℕ)) → is_some id ≡ false → part_of config named.0 named.1.index ≡ None
    → ProduceDecides config version id acks named (Refuse (pos 3))
produce_unknown version config acks named (Some id) e none = absurd cc
produce_unknown version config acks named None e none =
    subst (λ (o : Option ℕ). MatchOption o (Refuse (pos 3) ≡ Refuse (pos 3)) (λ part. MatchBool (is_acks acks) (BatchDecides version (least_insync config acks part) part (unwrap_or named.1.records []) (Refuse (pos 3))) (Refuse (pos 3) ≡ Refuse (pos 21)))) (sym none) refl

pub produce_bad_acks : (version : ℤ) (config : Configuration) (acks : ℤ) (named : List ℕ × ProducePart) (id : Option (List ℕ)) (part : ℕ) → is_some id ≡ false → part_of config named.0 named.1.index ≡ Some part
    → is_acks acks ≡ false → ProduceDecides config version id acks named (Refuse (pos 21))
produce_bad_acks version config acks named (Some id) part e some bad = absurd cc
produce_bad_acks version config acks named None part e some bad =
    subst (λ (o : Option ℕ). MatchOption o (Refuse (pos 21) ≡ Refuse (pos 3)) (λ part. MatchBool (is_acks acks) (BatchDecides version (least_insync config acks part) part (unwrap_or named.1.records []) (Refuse (pos 21))) (Refuse (pos 21) ≡ Refuse (pos 21)))) (sym some)
    (subst (λ (b : Bool). MatchBool b (BatchDecides version (least_insync config acks part) part (unwrap_or named.1.records []) (Refuse (pos 21))) (Refuse (pos 21) ≡ Refuse (pos 21))) (sym bad) refl)

pub produce_batch : (version : ℤ) (config : Configuration) (acks : ℤ) (named : List ℕ × ProducePart) (id : Option (List ℕ)) (part : ℕ) (decision : Decision) → is_some id ≡ false → part_of config named.0 named.1.index ≡ Some part
    → is_acks acks ≡ true → BatchDecides version (least_insync config acks part) part (unwrap_or named.1.records []) decision → ProduceDecides config version id acks named decision
produce_batch version config acks named (Some id) part decision e some good d = absurd cc
produce_batch version config acks named None part decision e some good d =
    subst (λ (o : Option ℕ). MatchOption o (decision ≡ Refuse (pos 3)) (λ part. MatchBool (is_acks acks) (BatchDecides version (least_insync config acks part) part (unwrap_or named.1.records []) decision) (decision ≡ Refuse (pos 21)))) (sym some)
    (subst (λ (b : Bool). MatchBool b (BatchDecides version (least_insync config acks part) part (unwrap_or named.1.records []) decision) (decision ≡ Refuse (pos 21))) (sym good) d)
