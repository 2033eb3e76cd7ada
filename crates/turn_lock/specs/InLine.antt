-- The rule of the table, which holds between any two steps.
-- Word 0 is the next ticket, word 1 the ticket that is served, and slot 0 has the value, unless a pass has it.
-- There is one history: that of the value at home, or else the one that was found by the pass that has the value.
use Rattle.std.specs.Prelude.{◌≡◌, ℕ, ◌+◌, ◌^◌, ◌<◌, ◌≤◌, Bool, true, false, cond, List, [], ◌∷◌, All, sum_by, Option, Some, None, ◌==◌}
use mathlib.Core.Option.{some, none}
use mathlib.Core.Option as maybe
use lib.ListN.{get_elem?}
use Rattle.atomic_table.specs.Table.{State}
use Rattle.turn_lock.specs.declared.known.Known.{Known}
use Rattle.turn_lock.specs.declared.known.Stage.{Stage}
use Rattle.turn_lock.specs.declared.known.Stage.TheVariants.{Idle, Waits, Has, Late}
use Rattle.turn_lock.specs.StartsWith.{StartsWith}
use Rattle.turn_lock.specs.OfPass.{of_pass}

-- nobody has the value
abbrev pub is_out : {A : Type 0} → maybe.Option A → Bool
is_out (some y) = false
is_out none = true

abbrev pub one_if : Bool → ℕ
one_if b = cond b 1 0

abbrev pub has_turn : Stage → Bool
has_turn (Has ticket) = true
has_turn other = false

abbrev pub is_late : Stage → Bool
is_late Late = true
is_late other = false

-- a number for each pass, added up over the passes of all views
abbrev pub total : {E : Type 0} → (Known E → ℕ) → List (List (Known E)) → ℕ
total f views = sum_by (sum_by f) views

module _ {E : Type 0} (next serving : ℕ) (out : Bool) (holder : ℕ → ℕ) (log : List E) where
  -- A ticket belongs to one pass. The one that is served has the value, or finds it at home
  abbrev pub Stands : ℕ → List E → Stage → Type 0
  Stands number seen Idle = Unit {0}
  Stands number seen (Waits ticket) = (serving ≤ ticket) × (ticket < next) × (holder ticket ≡ number) × (ticket ≡ serving → out ≡ false)
  Stands number seen (Has ticket) = (ticket ≡ serving) × (ticket < next) × (holder ticket ≡ number) × (out ≡ true) × (seen ≡ log)
  Stands number seen Late = Unit {0}

  -- the history begins with what the pass saw, and its own entries are all that the history has of it
  pub record Fits (by : E → ℕ) (passes : ℕ) (name : List ℕ) (k : Known E) : Type 0 where
    pub named : k.name ≡ name
    pub numbered : k.number < passes
    pub seen : StartsWith log k.seen
    pub mine : of_pass by k.number log ≡ k.mine
    pub stands : Stands k.number k.seen k.stage

module _ {T E : Type 0} (entries : T → List E) (by : E → ℕ) (name_of : T → List ℕ) where
  -- a value at home has the history and the name
  abbrev pub AtHome : List E → List ℕ → maybe.Option (Option T) → Type 0
  AtHome log name (some (Some x)) = (entries x ≡ log) × (name_of x ≡ name)
  AtHome log name (some None) = ⊥
  AtHome log name none = Unit {0}

  pub record InLine (passes : ℕ) (name : List ℕ) (s : State (Option T) (List (Known E))) : Type 0 where
    pub next : ℕ
    pub serving : ℕ
    pub home : maybe.Option (Option T)
    pub log : List E
    pub holder : ℕ → ℕ
    pub words : s.words ≡ next ∷ serving ∷ []
    pub homes : s.homes ≡ home ∷ []
    pub at_home : AtHome log name home
    pub line : serving ≤ next
    pub busy : is_out home ≡ true → serving < next
    pub few : passes < 2 ^ 32
    pub whose : All (λ e. by e < passes) log
    pub fits : (id : ℕ) (v : List (Known E)) → get_elem? s.views id ≡ some v → All (Fits next serving (is_out home) holder log by passes name) v
    pub all : total (λ k. 1) s.views ≡ passes
    pub once : (number : ℕ) → total (λ k. one_if (k.number == number)) s.views ≤ 1
    pub turns : total (λ k. one_if (has_turn k.stage)) s.views ≡ one_if (is_out home)
    pub drawn : next ≤ 2 ^ 62 + total (λ k. one_if (is_late k.stage)) s.views
