-- The reply to a request comes from what became of its partitions and their logs.
use Rattle.std.proofs.Common.{◌≡◌, ℕ, zero, suc, ℤ, List, [], ◌∷◌, length, take, drop, refl, ap, ◌∙◌}
use Rattle.std.specs.List.{AllByRecursion}
use Rattle.partlog.specs.History.{History}
use Rattle.partlog.specs.Batches.{StoredBatch}
use Rattle.partlog.specs.State.{PartState}
use Rattle.kwire.specs.Configuration.{Configuration}
use Rattle.kwire.specs.declared.request.Request.{Request}
use Rattle.kwire.specs.declared.request.Ask.{Ask}
use Rattle.kwire.specs.declared.request.Ask.TheVariants.{Produce, Fetch, Metadata, Versions}
use Rattle.kwire.specs.declared.request.ProducePart.{ProducePart}
use Rattle.kwire.specs.declared.request.ProduceTopic.{ProduceTopic}
use Rattle.kwire.specs.declared.request.FetchPart.{FetchPart}
use Rattle.kwire.specs.declared.request.FetchTopic.{FetchTopic}
use Rattle.kwire.specs.declared.reply.Reply.{Reply}
use Rattle.kwire.specs.declared.reply.Told.{Told}
use Rattle.kwire.specs.declared.reply.Told.TheVariants.{Produced, Fetched}
use Rattle.kwire.specs.declared.reply.ProducedPart.{ProducedPart}
use Rattle.kwire.specs.declared.reply.ProducedTopic.{ProducedTopic}
use Rattle.kwire.specs.declared.reply.FetchedPart.{FetchedPart}
use Rattle.kwire.specs.declared.reply.FetchedTopic.{FetchedTopic}
use Rattle.kanswer.specs.declared.accepted.Accepted.{Accepted}
use Rattle.kanswer.specs.declared.accepted.Accepted.TheVariants.{Refused, Appended, Seen}
use Rattle.kanswer.specs.declared.accepted.Budget.{Budget}
use Rattle.kanswer.specs.Waiting.{Shown, results_of}
use Rattle.kanswer.specs.Answer.{produced_as, produced_parts, produced_topics, read_of, batches_as, budget_after, fetched_as, fetched_parts, budget_behind, fetched_topics, first_budget, told_to, answer}
use Rattle.lone_broker.specs.Gathered.{state_now, shown_in_logs}
use Rattle.lone_broker.specs.Replying.{ShowsLog, ShowsLogs}

abbrev shown_as : Accepted → PartState → Shown
shown_as result state = record { result = result; state = state }

module _ (parts : List History) where
  abbrev renewed : List Shown → List Shown
  renewed shown = shown_in_logs parts (results_of shown)

  take_renewed : (n : ℕ) (shown : List Shown) → renewed (take n shown) ≡ take n (renewed shown)
  take_renewed zero shown = refl
  take_renewed (suc n) [] = refl
  take_renewed (suc n) (s ∷ shown) = ap (λ (ss : List Shown). shown_as s.result (state_now parts s.result) ∷ ss) (take_renewed n shown)

  drop_renewed : (n : ℕ) (shown : List Shown) → renewed (drop n shown) ≡ drop n (renewed shown)
  drop_renewed zero shown = refl
  drop_renewed (suc n) [] = refl
  drop_renewed (suc n) (s ∷ shown) = drop_renewed n shown

  abbrev Shows : List Shown → Type 0
  Shows shown = AllByRecursion (ShowsLog parts) shown

  take_shows : (n : ℕ) (shown : List Shown) → Shows shown → Shows (take n shown)
  take_shows zero shown h = tt
  take_shows (suc n) [] h = tt
  take_shows (suc n) (s ∷ shown) h = (h.0, take_shows n shown h.1)

  drop_shows : (n : ℕ) (shown : List Shown) → Shows shown → Shows (drop n shown)
  drop_shows zero shown h = h
  drop_shows (suc n) [] h = tt
  drop_shows (suc n) (s ∷ shown) h = drop_shows n shown h.1

  -- ---- a produce

  produced_alike : (config : Configuration) (acks index : ℤ) (result : Accepted) (state : PartState) → ShowsLog parts (record { result = result; state = state }) → produced_as config acks index result state ≡ produced_as config acks index result (state_now parts result)
  produced_alike config acks index (Refused code) state h = refl
  produced_alike config acks index (Appended part base count) state h =
      ap (λ (x : PartState). produced_as config acks index (Appended part base count) x) h
  produced_alike config acks index (Seen part start) state h = refl

  produced_parts_alike : (config : Configuration) (acks : ℤ) (asked : List ProducePart) (shown : List Shown) → Shows shown → produced_parts config acks asked shown ≡ produced_parts config acks asked (renewed shown)
  produced_parts_alike config acks [] shown h = refl
  produced_parts_alike config acks (a ∷ asked) [] h = refl
  produced_parts_alike config acks (a ∷ asked) (s ∷ shown) h =
      ap (λ (p : ProducedPart). p ∷ produced_parts config acks asked shown) (produced_alike config acks a.index s.result s.state h.0)
      ∙ ap (λ (ps : List ProducedPart). produced_as config acks a.index s.result (state_now parts s.result) ∷ ps) (produced_parts_alike config acks asked shown h.1)

  produced_topics_alike : (config : Configuration) (acks : ℤ) (topics : List ProduceTopic) (shown : List Shown) → Shows shown → produced_topics config acks topics shown ≡ produced_topics config acks topics (renewed shown)
  produced_topics_alike config acks [] shown h = refl
  produced_topics_alike config acks (t ∷ topics) shown h =
      let n : ℕ = length t.parts in
      let here = produced_parts_alike config acks t.parts (take n shown) (take_shows n shown h) ∙ ap (λ (ss : List Shown). produced_parts config acks t.parts ss) (take_renewed n shown) in
      let rest = produced_topics_alike config acks topics (drop n shown) (drop_shows n shown h) ∙ ap (λ (ss : List Shown). produced_topics config acks topics ss) (drop_renewed n shown) in
      ap (λ (ps : List ProducedPart). let told : List ProducedTopic = record { name = t.name; parts = ps } ∷ produced_topics config acks topics (drop n shown) in told) here
      ∙ ap (λ (ts : List ProducedTopic). let told : List ProducedTopic = record { name = t.name; parts = produced_parts config acks t.parts (take n (renewed shown)) } ∷ ts in told) rest

  -- ---- a fetch

  batches_alike : (replica : ℤ) (asked : FetchPart) (result : Accepted) (state : PartState) (b : Budget) → ShowsLog parts (record { result = result; state = state }) → batches_as replica asked result state b ≡ batches_as replica asked result (state_now parts result) b
  batches_alike replica asked (Refused code) state b h = refl
  batches_alike replica asked (Appended part base count) state b h = refl
  batches_alike replica asked (Seen part start) state b h = ap (λ (x : PartState). read_of replica asked start x b) h

  fetched_alike : (asked : FetchPart) (result : Accepted) (state : PartState) (bs : List StoredBatch) → ShowsLog parts (record { result = result; state = state }) → fetched_as asked result state bs ≡ fetched_as asked result (state_now parts result) bs
  fetched_alike asked (Refused code) state bs h = refl
  fetched_alike asked (Appended part base count) state bs h = refl
  fetched_alike asked (Seen part start) state bs h = ap (λ (x : PartState). fetched_as asked (Seen part start) x bs) h

  fetched_parts_alike : (replica : ℤ) (asked : List FetchPart) (shown : List Shown) (b : Budget) → AllByRecursion (ShowsLog parts) shown → fetched_parts replica asked shown b ≡ fetched_parts replica asked (renewed shown) b
  fetched_parts_alike replica [] shown b h = refl
  fetched_parts_alike replica (a ∷ asked) [] b h = refl
  fetched_parts_alike replica (a ∷ asked) (s ∷ shown) b h =
      let now : PartState = state_now parts s.result in
      let bs : List StoredBatch = batches_as replica a s.result now b in
      ap (λ (x : List StoredBatch). fetched_as a s.result s.state x ∷ fetched_parts replica asked shown (budget_after x b)) (batches_alike replica a s.result s.state b h.0)
      ∙ ap (λ (p : FetchedPart). p ∷ fetched_parts replica asked shown (budget_after bs b)) (fetched_alike a s.result s.state bs h.0)
      ∙ ap (λ (ps : List FetchedPart). fetched_as a s.result now bs ∷ ps) (fetched_parts_alike replica asked shown (budget_after bs b) h.1)

  behind_alike : (replica : ℤ) (asked : List FetchPart) (shown : List Shown) (b : Budget) → AllByRecursion (ShowsLog parts) shown → budget_behind replica asked shown b ≡ budget_behind replica asked (renewed shown) b
  behind_alike replica [] shown b h = refl
  behind_alike replica (a ∷ asked) [] b h = refl
  behind_alike replica (a ∷ asked) (s ∷ shown) b h =
      ap (λ (x : List StoredBatch). budget_behind replica asked shown (budget_after x b)) (batches_alike replica a s.result s.state b h.0)
      ∙ behind_alike replica asked shown (budget_after (batches_as replica a s.result (state_now parts s.result) b) b) h.1

  fetched_topics_alike : (replica : ℤ) (topics : List FetchTopic) (shown : List Shown) (b : Budget) → AllByRecursion (ShowsLog parts) shown → fetched_topics replica topics shown b ≡ fetched_topics replica topics (renewed shown) b
  fetched_topics_alike replica [] shown b h = refl
  fetched_topics_alike replica (t ∷ topics) shown b h =
      let n : ℕ = length t.parts in
      let first : List Shown = take n (renewed shown) in
      let shows = take_shows n shown h in
      let here = fetched_parts_alike replica t.parts (take n shown) b shows ∙ ap (λ (ss : List Shown). fetched_parts replica t.parts ss b) (take_renewed n shown) in
      let left = behind_alike replica t.parts (take n shown) b shows ∙ ap (λ (ss : List Shown). budget_behind replica t.parts ss b) (take_renewed n shown) in
      let behind : Budget = budget_behind replica t.parts first b in
      let rest = ap (λ (x : Budget). fetched_topics replica topics (drop n shown) x) left ∙ fetched_topics_alike replica topics (drop n shown) behind (drop_shows n shown h) ∙ ap (λ (ss : List Shown). fetched_topics replica topics ss behind) (drop_renewed n shown) in
      ap (λ (ps : List FetchedPart). let told : List FetchedTopic = record { name = t.name; parts = ps } ∷ fetched_topics replica topics (drop n shown) (budget_behind replica t.parts (take n shown) b) in told) here
      ∙ ap (λ (ts : List FetchedTopic). let told : List FetchedTopic = record { name = t.name; parts = fetched_parts replica t.parts first b } ∷ ts in told) rest

told_alike : (config : Configuration) (parts : List History) (ask : Ask) (shown : List Shown) → AllByRecursion (ShowsLog parts) shown → told_to config ask shown ≡ told_to config ask (shown_in_logs parts (results_of shown))
told_alike config parts (Produce version transactional acks timeout topics) shown h = ap (Produced version) (produced_topics_alike parts config acks topics shown h)
told_alike config parts (Fetch version replica max_wait min_bytes max_bytes isolation topics) shown h = ap (Fetched version isolation) (fetched_topics_alike parts replica topics shown (first_budget max_bytes) h)
told_alike config parts (Metadata topics) shown h = refl
told_alike config parts (Versions version) shown h = refl

pub same_answer : (config : Configuration) (parts : List History) (request : Request) (accepted : List Accepted) (shown : List Shown) → ShowsLogs parts accepted shown → answer config request shown ≡ answer config request (shown_in_logs parts accepted)
same_answer config parts request accepted shown h =
    ap (λ (t : Told). let reply : Reply = record { correlation = request.correlation; told = t } in reply) (told_alike config parts request.ask shown h.states)
    ∙ ap (λ (rs : List Accepted). answer config request (shown_in_logs parts rs)) h.results
