-- A pass's own session word.
use Rattle.std.proofs.Common.{inl, inr, ◌≡◌, ◌≢◌, ◌∙◌, ℕ, Option, Some, None, ap, refl, subst, sym}
use Rattle.std.specs.Prelude.{IfNone, IfSome}
use Rattle.room_core.specs.declared.event.How.{How}
use Rattle.room_core.specs.declared.parts.Phase.{Phase}
use Rattle.room_core.specs.declared.parts.Phase.TheVariants.{Open, Won}
use Rattle.room_core.specs.declared.parts.Session.{Session}
use Rattle.room_core.specs.declared.parts.Stage.{Stage}
use Rattle.room_core.specs.Packing.{unpacked}
use Rattle.room_core.specs.Passes.{IsOver, peeked, taken_of}
use Rattle.room_core.specs.State.{Caller}
use Rattle.room_table.specs.declared.part.CallerStep.{CallerStep}
use Rattle.room_table.specs.Seats.{CallerView, caller_did, caller_now}
use Rattle.room_table.specs.Tells.{IsOwnWord}
use Rattle.purgatory.specs.scans.Listing.{open_at}
use Rattle.purgatory.specs.declared.outcome.Done.{Done}
use Rattle.purgatory.specs.Going.{IsAtRest}
use Rattle.purgatory.specs.Listed.{Keeps}
use Rattle.purgatory.specs.Polled.{HasPolled, HasTaken, found_open, took, won_at}
use Rattle.purgatory.proofs.Goes.{keeps_by}

-- a word that isn't idle and isn't won is open
open_or : (w : Session) (generation : ℕ) (phase : Phase) → w.phase ≡ phase → w.generation ≡ generation → phase ≢ Phase.Idle → ((how : How) (by : ℕ) → phase ≢ Won how by) → w ≡ open_at generation
open_or w generation Phase.Idle is own busy other = absurd (busy refl)
open_or w generation Open is own busy other = λ i. record { generation = own i; phase = is i }
open_or w generation (Won how by) is own busy other = absurd (other how by refl)

pub word_open : (caller : Caller) (word : ℕ) → IsOwnWord caller word → ((how : How) (by : ℕ) → (unpacked word).phase ≢ Won how by) → unpacked word ≡ open_at caller.generation
word_open caller word is other = open_or (unpacked word) caller.generation (unpacked word).phase refl is.own is.busy other

pub word_won : (caller : Caller) (word : ℕ) (done : Done) → IsOwnWord caller word → (unpacked word).phase ≡ Won done.how done.by → unpacked word ≡ won_at caller.generation done
word_won caller word done is won = λ i. record { generation = is.own i; phase = won i }

-- a pass that finds its word open stays at its stage
pub open_stage : (a b : CallerView) → b ≡ found_open a → (caller_now b).stage ≡ (caller_now a).stage
unfolding peeked
open_stage a b e = ap (λ (v : CallerView). (caller_now v).stage) e

pub stays_open : (a b : CallerView) → b ≡ found_open a → Keeps a b
stays_open a b e = keeps_by a b (CallerStep.Peeked (open_at (caller_now a).generation)) (record { generation = refl; description = refl; owed = refl; taken = refl }) e

over_by : (stage : Stage) (phase : Phase) (how : How) (by : ℕ) → phase ≡ Won how by → IsOver (peeked phase stage)
unfolding peeked
over_by stage phase how by e = subst (λ (p : Phase). IsOver (peeked p stage)) (sym e) tt

-- one that finds it won is over
pub won_over : (a b : CallerView) (found : Session) (how : How) (by : ℕ) → b ≡ caller_did a (CallerStep.Peeked found) → found.phase ≡ Won how by → IsOver (caller_now b).stage
won_over a b found how by e won = subst (λ (v : CallerView). IsOver (caller_now v).stage) (sym e) (over_by (caller_now a).stage found.phase how by won)

-- and takes that
pub takes : (a b : CallerView) (done : Done) → b ≡ took a done → HasTaken (caller_now a).generation done (caller_now a) (caller_now b)
unfolding peeked taken_of
takes a b done e = record {
  idle = ap (λ (v : CallerView). (caller_now v).stage) e;
  generation = ap (λ (v : CallerView). (caller_now v).generation) e;
  taken = ap (λ (v : CallerView). (caller_now v).taken) e;
}

pub took_owed : (a b : CallerView) (done : Done) → b ≡ took a done → (caller_now b).owed ≡ (caller_now a).owed
took_owed a b done e = ap (λ (v : CallerView). (caller_now v).owed) e

-- after a look at its operation a pass is at rest
pub rests : (result : Option Done) (a b : CallerView) → HasPolled result a b → (caller_now a).stage ≡ Stage.Waiting → IsAtRest (caller_now b).stage
rests None a b h waits = inr (open_stage a b h ∙ waits)
rests (Some done) a b h waits = inl (takes a b done h).idle

pub waits_still : (result : Option Done) (a b : CallerView) → HasPolled result a b → (caller_now a).stage ≡ Stage.Waiting → IfNone result ((caller_now b).stage ≡ Stage.Waiting)
waits_still None a b h waits = open_stage a b h ∙ waits
waits_still (Some done) a b h waits = tt

pub has_taken : (result : Option Done) (a b : CallerView) → HasPolled result a b → IfSome result (λ (done : Done). HasTaken (caller_now a).generation done (caller_now a) (caller_now b))
has_taken None a b h = tt
has_taken (Some done) a b h = takes a b done h

-- and owes what it owed
open_owed : (a b : CallerView) → b ≡ found_open a → (caller_now b).owed ≡ (caller_now a).owed
unfolding peeked
open_owed a b e = ap (λ (v : CallerView). (caller_now v).owed) e

pub polled_owed : (result : Option Done) (a b : CallerView) → HasPolled result a b → (caller_now b).owed ≡ (caller_now a).owed
polled_owed None a b h = open_owed a b h
polled_owed (Some done) a b h = took_owed a b done h
