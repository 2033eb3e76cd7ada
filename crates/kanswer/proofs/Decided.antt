-- Something is decided of every request whose records are bytes, so of every request that was read from bytes.
use Rattle.std.proofs.Common.{◌≡◌, ℕ, ℤ, pos, Bool, true, false, List, [], ◌∷◌, length, Option, Some, None, unwrap_or, refl, inl, inr}
use Rattle.std.specs.Prelude.{MatchOption, MatchBool}
use Rattle.std.specs.List.{AllByRecursion, AllZip}
use Rattle.kbytes.specs.Octets.{IsBytes}
use Rattle.kbatch.proofs.Laws.{batch_or_fault}
use Rattle.kwire.specs.declared.request.Ask.{Ask}
use Rattle.kwire.specs.declared.request.Ask.TheVariants.{Produce, Fetch, Metadata, Versions}
use Rattle.kwire.specs.declared.request.ProducePart.{ProducePart}
use Rattle.kwire.specs.declared.request.Request.{Request}
use Rattle.kwire.specs.Configuration.{Configuration, part_of}
use Rattle.kwire.specs.IsRequest.{IsRequest}
use Rattle.kanswer.specs.Decisions.{Decision, Refuse, AskLog, Decides, ProduceDecides, BatchDecides, append_outcome, code_of, produce_parts, is_acks, least_insync}
use Rattle.kanswer.proofs.RequestBytes.{HasBytes, CarriesBytes, request_bytes}

batch_decides : (version : ℤ) (least part : ℕ) (bytes : List ℕ) → IsBytes bytes → (d : Decision) × BatchDecides version least part bytes d
batch_decides version least part bytes fits =
    elim (batch_or_fault bytes fits) [
      | inl batch ↦ (AskLog part (append_outcome version least part (length batch.0) bytes), inr (batch.0, batch.1, refl))
      | inr fault ↦ (Refuse (code_of fault.0), inl (fault.0, fault.1, refl))
    ]

acks_decide : (version : ℤ) (b : Bool) (least part : ℕ) (bytes : List ℕ) → IsBytes bytes → (d : Decision) × MatchBool b (BatchDecides version least part bytes d) (d ≡ Refuse (pos 21))
acks_decide version true least part bytes fits = batch_decides version least part bytes fits
acks_decide version false least part bytes fits = (Refuse (pos 21), refl)

part_decides : (version : ℤ) (least : ℕ → ℕ) (o : Option ℕ) (b : Bool) (bytes : List ℕ) → IsBytes bytes → (d : Decision) × MatchOption o (d ≡ Refuse (pos 3)) (λ part. MatchBool b (BatchDecides version (least part) part bytes d) (d ≡ Refuse (pos 21)))
part_decides version least None b bytes fits = (Refuse (pos 3), refl)
part_decides version least (Some part) b bytes fits = acks_decide version b (least part) part bytes fits

produce_decides : (version : ℤ) (config : Configuration) (id : Option (List ℕ)) (acks : ℤ) (named : List ℕ × ProducePart) → HasBytes named → (d : Decision) × ProduceDecides config version id acks named d
produce_decides version config (Some id) acks named fits = (Refuse (pos 42), refl)
produce_decides version config None acks named fits = part_decides version (least_insync config acks) (part_of config named.0 named.1.index) (is_acks acks) (unwrap_or named.1.records []) fits

all_decide : (version : ℤ) (config : Configuration) (id : Option (List ℕ)) (acks : ℤ) (named : List (List ℕ × ProducePart)) → AllByRecursion HasBytes named → (ds : List Decision) × AllZip (ProduceDecides config version id acks) named ds
all_decide version config id acks [] all = ([], tt)
all_decide version config id acks (n ∷ named) all =
    let here = produce_decides version config id acks n all.0 in
    let others = all_decide version config id acks named all.1 in
    (here.0 ∷ others.0, (here.1, others.1))

pub ask_decided : (config : Configuration) (ask : Ask) → CarriesBytes ask → (ds : List Decision) × Decides config ask ds
ask_decided config (Produce version id acks timeout topics) all = all_decide version config id acks (produce_parts topics) all
ask_decided config (Fetch version replica max_wait min_bytes max_bytes isolation topics) all = (_, refl)
ask_decided config (Metadata topics) all = ([], refl)
ask_decided config (Versions version) all = ([], refl)

pub requests_decided : (config : Configuration) (body : List ℕ) (request : Request) → IsBytes body → IsRequest body request → (ds : List Decision) × Decides config request.ask ds
requests_decided config body request fits asked = ask_decided config request.ask (request_bytes body request fits asked)
