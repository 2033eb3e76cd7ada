-- The rule of the queue, over what it holds and what each pass knows.
use Rattle.std.specs.Prelude.{◌≡◌, List, [], ◌++◌, All, IsPermutation, flat_map, sum_by}
use Rattle.outside.specs.declared.shared.queue.hand.Hand.{Hand}
use Rattle.outside.specs.declared.shared.queue.numbered.Numbered.{Numbered}
use Rattle.outside.specs.declared.shared.queue.queue_pass.TheConstants.{PARTS}

module _ {L : Type 0} where
  -- what all passes put, and what they took
  abbrev pub all_put : List (Hand L) → List (Numbered L)
  all_put views = flat_map (λ v. v.put) views

  abbrev pub all_taken : List (Hand L) → List (Numbered L)
  all_taken views = flat_map (λ v. v.taken) views

  -- a pass with no part has put and taken nothing
  abbrev pub IsIdleEmpty : Hand L → Type 0
  IsIdleEmpty v = v.parts ≡ 0 → (v.put ≡ []) × (v.taken ≡ [])

  -- Between them the passes have every part. What they put is what they took and what the queue holds, in some order. And all that it
  -- holds meets the condition.
  pub record Balanced (fits : Numbered L → Type 0) (items : List (Numbered L)) (views : List (Hand L)) : Type 0 where
    pub parts : sum_by (λ v. v.parts) views ≡ PARTS
    pub moved : IsPermutation (all_put views) (all_taken views ++ items)
    pub idle : All IsIdleEmpty views
    pub fit : All fits items

  -- what a pass with every part learns of what the queue holds
  abbrev pub Told : Hand L → List (Numbered L) → Type 0
  Told v items = v.parts ≡ PARTS → IsPermutation v.put (v.taken ++ items)
