-- What is decided of a request is one thing.
use Rattle.std.proofs.Common.{◌≡◌, ℕ, ℤ, pos, Bool, true, false, List, [], ◌∷◌, length, Option, Some, None, MatchBool, inl, inr, refl, sym, ap, ◌∙◌}
use Rattle.std.specs.Prelude.{MatchOption, unwrap_or}
use Rattle.std.specs.List.{AllZip}
use Rattle.kbatch.specs.declared.fault.BatchFault.{BatchFault}
use Rattle.kbatch.specs.declared.record.Record.{Record}
use Rattle.kbatch.proofs.Laws.{batch_once, batch_none, first_is_one}
use Rattle.kwire.specs.declared.request.Ask.{Ask}
use Rattle.kwire.specs.declared.request.Ask.TheVariants.{Produce, Fetch, Metadata, Versions}
use Rattle.kwire.specs.declared.request.ProducePart.{ProducePart}
use Rattle.kwire.specs.Configuration.{part_of, Configuration}
use Rattle.kanswer.specs.Decisions.{Decision, Refuse, AskLog, Decides, ProduceDecides, BatchDecides, append_outcome, code_of, produce_parts, is_acks, least_insync}

batch_decided : (version : ℤ) (least part : ℕ) (bytes : List ℕ) (x y : Decision) → BatchDecides version least part bytes x → BatchDecides version least part bytes y → x ≡ y
batch_decided version least part bytes x y p q =
    elim p [
      | inl f ↦ elim q [
        | inl g ↦ f.2 ∙ ap (λ (e : BatchFault). Refuse (code_of e)) (first_is_one bytes f.0 g.0 f.1 g.1) ∙ sym g.2
        | inr s ↦ absurd (batch_none bytes s.0 s.1 f.0 f.1.0)
      ]
      | inr r ↦ elim q [
        | inl g ↦ absurd (batch_none bytes r.0 r.1 g.0 g.1.0)
        | inr s ↦ r.2 ∙ ap (λ (rs : List Record). AskLog part (append_outcome version least part (length rs) bytes)) (batch_once bytes r.0 s.0 r.1 s.1) ∙ sym s.2
      ]
    ]

acks_decided : (version : ℤ) (b : Bool) (least part : ℕ) (bytes : List ℕ) (x y : Decision) → MatchBool b (BatchDecides version least part bytes x) (x ≡ Refuse (pos 21)) → MatchBool b (BatchDecides version least part bytes y) (y ≡ Refuse (pos 21)) → x ≡ y
acks_decided version true least part bytes x y p q = batch_decided version least part bytes x y p q
acks_decided version false least part bytes x y p q = p ∙ sym q

part_decided : (version : ℤ) (least : ℕ → ℕ) (o : Option ℕ) (b : Bool) (bytes : List ℕ) (x y : Decision) → MatchOption o (x ≡ Refuse (pos 3)) (λ part. MatchBool b (BatchDecides version (least part) part bytes x) (x ≡ Refuse (pos 21)))
    → MatchOption o (y ≡ Refuse (pos 3)) (λ part. MatchBool b (BatchDecides version (least part) part bytes y) (y ≡ Refuse (pos 21))) → x ≡ y
part_decided version least None b bytes x y p q = p ∙ sym q
part_decided version least (Some part) b bytes x y p q = acks_decided version b (least part) part bytes x y p q

produce_decided : (version : ℤ) (config : Configuration) (id : Option (List ℕ)) (acks : ℤ) (named : List ℕ × ProducePart) (x y : Decision) → ProduceDecides config version id acks named x → ProduceDecides config version id acks named y → x ≡ y
produce_decided version config (Some id) acks named x y p q = p ∙ sym q
produce_decided version config None acks named x y p q = part_decided version (least_insync config acks) (part_of config named.0 named.1.index) (is_acks acks) (unwrap_or named.1.records []) x y p q

all_decided : (version : ℤ) (config : Configuration) (id : Option (List ℕ)) (acks : ℤ) (named : List (List ℕ × ProducePart)) (xs ys : List Decision) → AllZip (ProduceDecides config version id acks) named xs → AllZip (ProduceDecides config version id acks) named ys → xs ≡ ys
all_decided version config id acks [] [] [] p q = refl
all_decided version config id acks [] [] (y ∷ ys) p q = absurd q
all_decided version config id acks [] (x ∷ xs) ys p q = absurd p
all_decided version config id acks (a ∷ named) [] ys p q = absurd p
all_decided version config id acks (a ∷ named) (x ∷ xs) [] p q = absurd q
all_decided version config id acks (a ∷ named) (x ∷ xs) (y ∷ ys) p q =
    ap (λ (d : Decision). d ∷ xs) (produce_decided version config id acks a x y p.0 q.0) ∙ ap (λ (ds : List Decision). y ∷ ds) (all_decided version config id acks named xs ys p.1 q.1)

pub decided_once : (config : Configuration) (ask : Ask) (xs ys : List Decision) → Decides config ask xs → Decides config ask ys → xs ≡ ys
decided_once config (Produce version id acks timeout topics) xs ys p q = all_decided version config id acks (produce_parts topics) xs ys p q
decided_once config (Fetch version replica max_wait min_bytes max_bytes isolation topics) xs ys p q = p ∙ sym q
decided_once config (Metadata topics) xs ys p q = p ∙ sym q
decided_once config (Versions version) xs ys p q = p ∙ sym q
