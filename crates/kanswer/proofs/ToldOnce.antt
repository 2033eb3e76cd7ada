-- What is told from the readings is the answer's, for a produce and for a fetch. The numbers are those of the request as they
-- are handed on.
use Rattle.std.proofs.Common.{◌≡◌, ℤ, List, ℕ, Option, sym, ap, subst, ◌∙◌}
use Rattle.std.proofs.lemmas.Int.{to_z-of_z}
use Rattle.std.specs.Int.{w8, w16, w32}
use mir.Val.{SFits, of_z, to_z}
use Rattle.kwire.specs.Configuration.{Configuration}
use Rattle.kwire.specs.declared.request.Ask.{Ask}
use Rattle.kwire.specs.declared.request.Ask.TheVariants.{Produce, Fetch}
use Rattle.kwire.specs.declared.request.ProduceTopic.{ProduceTopic}
use Rattle.kwire.specs.declared.request.FetchTopic.{FetchTopic}
use Rattle.kwire.specs.declared.request.Request.{Request}
use Rattle.kwire.specs.declared.reply.ProducedTopic.{ProducedTopic}
use Rattle.kwire.specs.declared.reply.FetchedTopic.{FetchedTopic}
use Rattle.kwire.specs.declared.reply.Reply.{Reply}
use Rattle.kwire.specs.declared.reply.Told.{Told}
use Rattle.kwire.specs.declared.reply.Told.TheVariants.{Produced, Fetched}
use Rattle.kanswer.specs.declared.accepted.Accepted.{Accepted}
use Rattle.kanswer.specs.declared.accepted.Reading.{Reading}
use Rattle.kanswer.specs.Waiting.{Shown}
use Rattle.kanswer.specs.Answer.{first_budget, told_to, answer}
use Rattle.kanswer.specs.LogReadings.{AreReadings}
use Rattle.kanswer.specs.ToldParts.{produced_of, fetched_of}
use Rattle.kanswer.proofs.AnswersAgree.{produced_is, fetched_is}

module _ (config : Configuration) (ask : Ask) (results : List Accepted) (readings : List Reading) (shown : List Shown) (are : AreReadings ask results readings shown) where
  abbrev read_as : Ask → Type 0
  read_as a = AreReadings a results readings shown

  pub produced_told : (version acks timeout : ℤ) (transactional : Option (List ℕ)) (topics ts : List ProduceTopic) (told : List ProducedTopic) → ask ≡ Produce version transactional acks timeout topics
      → SFits w16 version → SFits w16 acks → ts ≡ topics → told ≡ produced_of config (to_z w16 (of_z w16 acks)) ts results readings → Produced (to_z w16 (of_z w16 version)) told ≡ told_to config ask shown
  produced_told version acks timeout transactional topics ts told is version_fits acks_fit same_topics same =
      ap (λ (z : ℤ). Produced z told) (to_z-of_z w16 version version_fits)
      ∙ ap (Produced version) (same
      ∙ ap (λ (z : ℤ). produced_of config z ts results readings) (to_z-of_z w16 acks acks_fit)
      ∙ ap (λ (xs : List ProduceTopic). produced_of config acks xs results readings) same_topics
      ∙ produced_is config acks topics results readings shown (subst read_as is are))
      ∙ ap (λ (a : Ask). told_to config a shown) (sym is)

  pub fetched_told : (version replica max_wait min_bytes max_bytes isolation : ℤ) (topics ts : List FetchTopic) (told : List FetchedTopic) → ask ≡ Fetch version replica max_wait min_bytes max_bytes isolation topics
      → SFits w16 version → SFits w8 isolation → ts ≡ topics → told ≡ fetched_of ts results readings → Fetched (to_z w16 (of_z w16 version)) (to_z w8 (of_z w8 isolation)) told ≡ told_to config ask shown
  fetched_told version replica max_wait min_bytes max_bytes isolation topics ts told is version_fits isolation_fits same_topics same =
      ap (λ (z : ℤ). Fetched z (to_z w8 (of_z w8 isolation)) told) (to_z-of_z w16 version version_fits)
      ∙ ap (λ (z : ℤ). Fetched version z told) (to_z-of_z w8 isolation isolation_fits)
      ∙ ap (Fetched version isolation) (same
      ∙ ap (λ (xs : List FetchTopic). fetched_of xs results readings) same_topics
      ∙ fetched_is replica topics results readings shown (first_budget max_bytes) (subst read_as is are))
      ∙ ap (λ (a : Ask). told_to config a shown) (sym is)

pub answer_told : (config : Configuration) (request : Request) (shown : List Shown) (correlation : ℤ) (told : Told) → SFits w32 correlation → correlation ≡ request.correlation → told ≡ told_to config request.ask shown
    → record { correlation = to_z w32 (of_z w32 correlation); told = told } ≡ answer config request shown
answer_told config request shown correlation told fits same is =
    ap (λ (z : ℤ). let reply : Reply = record { correlation = z; told = told } in reply) (to_z-of_z w32 correlation fits ∙ same)
    ∙ ap (λ (t : Told). let reply : Reply = record { correlation = request.correlation; told = t } in reply) is
