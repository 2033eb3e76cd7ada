-- No partition's followers change.
use Rattle.std.proofs.Common.{◌≡◌, ℕ, zero, suc, ◌<◌, List, [], ◌∷◌, length, get_or, map, set, replicate, refl, sym, ap, ◌∙◌, arith, length-append}
use Rattle.std.proofs.lemmas.List.{length-map, length-replicate}
use Rattle.std.proofs.lemmas.List.Sums.{sum_by-cons}
use Rattle.partlog.specs.History.{History}
use Rattle.partlog.specs.State.{state_of}
use Rattle.kwire.specs.declared.config.Topic.{Topic}
use Rattle.kwire.specs.Configuration.{followers_of, partitions_of}
use Rattle.kanswer.specs.Decisions.{Entry, Put, Looked, Followed, Decision, Refuse, AskLog}
use Rattle.audit.specs.broker.Board.{history_at}
use Rattle.kanswer.specs.WithEntry.{entered}
use Rattle.audit.specs.broker.Entering.{accept_all}
use Rattle.lone_broker.specs.Carried.{Came, IsCarried}

pub followers_at : (parts : List History) (part : ℕ) (h : History) → part < length parts → get_or (map (λ (x : History). x.followers) parts) part 0 ≡ (get_or parts part h).followers
followers_at [] part h lt = absurd (omega (arith, lt))
followers_at (p ∷ parts) zero h lt = refl
followers_at (p ∷ parts) (suc part) h lt = followers_at parts part h (omega (arith, lt))

pub followers_size : (topics : List Topic) → length (followers_of topics) ≡ partitions_of topics
followers_size [] = refl
followers_size (topic ∷ topics) =
    length-append (replicate topic.partitions topic.followers) (followers_of topics)
    ∙ omega (arith, length-replicate topic.partitions topic.followers, followers_size topics, sum_by-cons (λ (t : Topic). t.partitions) topic topics)

-- a history for each partition
pub parts_size : (topics : List Topic) (parts : List History) → map (λ (h : History). h.followers) parts ≡ followers_of topics → length parts ≡ partitions_of topics
parts_size topics parts e = sym (length-map parts (λ (h : History). h.followers)) ∙ ap length e ∙ followers_size topics

pub set_followers : (parts : List History) (part : ℕ) (left : History) → left.followers ≡ (history_at parts part).followers → map (λ (h : History). h.followers) (set parts part left) ≡ map (λ (h : History). h.followers) parts
set_followers [] part left e = refl
set_followers (p ∷ parts) zero left e = ap (λ (n : ℕ). n ∷ map (λ (h : History). h.followers) parts) e
set_followers (p ∷ parts) (suc part) left e = ap (λ (ns : List ℕ). p.followers ∷ ns) (set_followers parts part left e)

pub entered_followers : (h : History) (by seq t : ℕ) (entry : Entry) → (entered h by seq t entry).followers ≡ h.followers
entered_followers h by seq t (Put count batch) = refl
entered_followers h by seq t (Followed replica offset) = refl
entered_followers h by seq t Looked = refl

pub accepted_followers : (by seq t : ℕ) (decisions : List Decision) (parts : List History) → map (λ (h : History). h.followers) (accept_all by seq t decisions parts).1 ≡ map (λ (h : History). h.followers) parts
accepted_followers by seq t [] parts = refl
accepted_followers by seq t (Refuse code ∷ decisions) parts = accepted_followers by seq t decisions parts
accepted_followers by seq t (AskLog part outcome ∷ decisions) parts =
    let found = history_at parts part in
    let entry = (outcome (state_of found)).entry in
    accepted_followers by seq t decisions (set parts part (entered found by seq t entry)) ∙ set_followers parts part (entered found by seq t entry) (entered_followers found by seq t entry)

pub carried_followers : (by seq t : ℕ) (decisions : List Decision) (before after : List History) (came later : Came) → IsCarried by seq t decisions before after came later
    → map (λ (h : History). h.followers) after ≡ map (λ (h : History). h.followers) before
carried_followers by seq t decisions before after came later c = ap (map (λ (h : History). h.followers)) c.histories ∙ accepted_followers by seq t decisions before
