-- What is decided of the partitions of a produce or a fetch, one after the other.
use Rattle.std.proofs.Common.{◌≡◌, ℕ, ℤ, List, [], ◌∷◌, ◌++◌, length, map, sym, ap, subst, ◌∙◌}
use Rattle.std.proofs.lemmas.List.{map-append}
use Rattle.std.specs.List.{AllZip}
use Rattle.partlog.specs.History.{History}
use Rattle.lone_broker.specs.Carried.{Came}
use Rattle.kanswer.specs.declared.terms.Terms.{Terms}
use Rattle.kanswer.specs.OnTerms.{OnTerms}
use Rattle.kwire.specs.declared.request.ProducePart.{ProducePart}
use Rattle.kwire.specs.declared.request.ProduceTopic.{ProduceTopic}
use Rattle.kwire.specs.declared.request.FetchPart.{FetchPart}
use Rattle.kwire.specs.declared.request.FetchTopic.{FetchTopic}
use Rattle.kwire.specs.Configuration.{Configuration, part_of}
use Rattle.kanswer.specs.Decisions.{Decision, ProduceDecides, produce_parts, fetch_parts, fetch_decision, fetch_decisions}
use Rattle.lone_broker.specs.Carried.{IsCarried, HasProduced}
use Rattle.lone_broker.proofs.DecisionSteps.{carried_on, carried_none, all_zip_append}
use Rattle.lone_broker.proofs.ResultsStand.{accepted_size}

-- no partition yet
pub produced_none : (config : Configuration) (terms : Terms) (by seq t : ℕ) (topics : List ProduceTopic) (parts : List History) (came : Came) → produce_parts topics ≡ []
    → HasProduced config terms by seq t topics parts parts came came
produced_none config terms by seq t topics parts came none = record {
  decisions = [];
  decided = λ id e. subst (λ (ns : List (List ℕ × ProducePart)). AllZip (ProduceDecides config terms.version id terms.acks) ns []) (sym none) tt;
  carried = carried_none by seq t parts came;
}

-- some partitions, and then others
pub produced_on : (config : Configuration) (terms : Terms) (by seq t : ℕ) (ts us vs : List ProduceTopic) (p0 p1 p2 : List History) (c0 c1 c2 : Came) → produce_parts vs ≡ produce_parts ts ++ produce_parts us
    → HasProduced config terms by seq t ts p0 p1 c0 c1 → HasProduced config terms by seq t us p1 p2 c1 c2 → HasProduced config terms by seq t vs p0 p2 c0 c2
produced_on config terms by seq t ts us vs p0 p1 p2 c0 c1 c2 same a b = record {
  decisions = a.decisions ++ b.decisions;
  decided = λ id e. subst (λ (ns : List (List ℕ × ProducePart)). AllZip (ProduceDecides config terms.version id terms.acks) ns (a.decisions ++ b.decisions)) (sym same)
      (all_zip_append (ProduceDecides config terms.version id terms.acks) (produce_parts ts) (produce_parts us) a.decisions b.decisions (a.decided id e) (b.decided id e));
  carried = carried_on by seq t a.decisions b.decisions p0 p1 p2 c0 c1 c2 a.carried b.carried;
}

pub produced_one : (config : Configuration) (terms : Terms) (by seq t : ℕ) (name : List ℕ) (part : ProducePart) (decision : Decision) (p0 p1 : List History) (c0 c1 : Came)
    → OnTerms terms (λ id. ProduceDecides config terms.version id terms.acks (name, part) decision) → IsCarried by seq t (decision ∷ []) p0 p1 c0 c1
    → HasProduced config terms by seq t (record { name = name; parts = part ∷ [] } ∷ []) p0 p1 c0 c1
produced_one config terms by seq t name part decision p0 p1 c0 c1 decided carried = record { decisions = decision ∷ []; decided = λ id e. (decided id e, tt); carried = carried }

-- the decisions of a fetch, some and then others
pub fetched_on : (config : Configuration) (replica : ℤ) (by seq t : ℕ) (ts us vs : List FetchTopic) (p0 p1 p2 : List History) (c0 c1 c2 : Came) → fetch_parts vs ≡ fetch_parts ts ++ fetch_parts us
    → IsCarried by seq t (fetch_decisions config replica (fetch_parts ts)) p0 p1 c0 c1 → IsCarried by seq t (fetch_decisions config replica (fetch_parts us)) p1 p2 c1 c2
    → IsCarried by seq t (fetch_decisions config replica (fetch_parts vs)) p0 p2 c0 c2
fetched_on config replica by seq t ts us vs p0 p1 p2 c0 c1 c2 same a b =
    let f = λ (named : List ℕ × FetchPart). fetch_decision config replica named (part_of config named.0 named.1.index) in
    subst (λ (ds : List Decision). IsCarried by seq t ds p0 p2 c0 c2) (sym (ap (map f) same ∙ map-append f (fetch_parts ts) (fetch_parts us)))
    (carried_on by seq t (fetch_decisions config replica (fetch_parts ts)) (fetch_decisions config replica (fetch_parts us)) p0 p1 p2 c0 c1 c2 a b)

-- no history comes or goes
pub carried_size : (by seq t : ℕ) (decisions : List Decision) (before after : List History) (came later : Came) → IsCarried by seq t decisions before after came later → length after ≡ length before
carried_size by seq t decisions before after came later c = ap length c.histories ∙ accepted_size by seq t decisions before
