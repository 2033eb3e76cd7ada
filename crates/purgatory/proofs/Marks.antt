-- A pass that looks at the marks of its operation.
use Rattle.std.proofs.Common.{⊎_elim, ◌≡◌, ◌≢◌, ◌∙◌, ℕ, zero, suc, ◌<◌, Bool, true, false, cond, ap, refl, sym, arith}
use Rattle.std.specs.Prelude.{◌==◌}
use Rattle.std.proofs.lemmas.Bool.{and_from, and_right, cases_eq, cond-false, cond-true, eq-eqb, ne_eqb}
use Rattle.room_core.specs.declared.parts.Stage.TheVariants.{Checking, Listing}
use Rattle.room_core.specs.Description.{needs_of}
use Rattle.room_core.specs.Numbers.{clock_mark}
use Rattle.room_core.specs.Passes.{all_below, all_seen, seen_with}
use Rattle.room_core.specs.State.{Caller}
use Rattle.room_core.proofs.Laws.{put_else, put_here}
use Rattle.room_table.specs.declared.part.CallerStep.{CallerStep}
use Rattle.room_table.specs.Seats.{CallerView, caller_did, caller_now}
use Rattle.purgatory.specs.scans.Listing.{open_at}
use Rattle.purgatory.specs.Listed.{BeginsCheck, GoesListing, HasSeenBelow}
use Rattle.purgatory.specs.Polled.{found_open}
use Rattle.purgatory.proofs.Goes.{keeps_by, keeps_far, keeps_same}
use Rattle.purgatory.proofs.Words.{open_stage}

-- the value of a mark that is looked at
abbrev value_at : Caller → ℕ → ℕ → Bool
value_at caller at mark = cond (mark == caller.generation) true (caller.seen at)

true_or : (b c : Bool) → c ≡ true → cond b true c ≡ true
true_or true c h = refl
true_or false c h = h

-- what was seen is seen still
still_seen : (caller : Caller) (at mark i : ℕ) → caller.seen i ≡ true → seen_with caller at mark i ≡ true
still_seen caller at mark i e =
    ⊎_elim
    (λ (here : i ≡ at).
    ap (seen_with caller at mark) here
    ∙ put_here caller.seen at (value_at caller at mark)
    ∙ true_or (mark == caller.generation) (caller.seen at) (ap caller.seen (sym here) ∙ e))
    (λ (n : i ≢ at). put_else caller.seen at (value_at caller at mark) i n ∙ e)
    (cases_eq i at)

-- a mark of the generation is seen
is_seen : (caller : Caller) (at mark : ℕ) → mark ≡ caller.generation → seen_with caller at mark at ≡ true
is_seen caller at mark e =
    put_here caller.seen at (value_at caller at mark)
    ∙ cond-true (mark == caller.generation) true (caller.seen at) (eq-eqb mark caller.generation e)

-- another isn't
isnt_seen : (caller : Caller) (at mark : ℕ) → mark ≢ caller.generation → seen_with caller at mark at ≡ caller.seen at
isnt_seen caller at mark n =
    put_here caller.seen at (value_at caller at mark)
    ∙ cond-false (mark == caller.generation) true (caller.seen at) (ne_eqb mark caller.generation n)

-- while the clock's mark isn't seen, the pass is Listing
lists_on : (words : ℕ → ℕ) (seen : ℕ → Bool) → seen clock_mark ≡ false → cond (all_seen words seen) Checking Listing ≡ Listing
lists_on words seen e = cond-false (all_seen words seen) Checking Listing (and_right (all_below seen (needs_of words)) (seen clock_mark) e)

-- all below a number
all_of : (f : ℕ → Bool) (n : ℕ) → ((i : ℕ) → i < n → f i ≡ true) → all_below f n ≡ true
unfolding all_below
all_of f zero each = refl
all_of f (suc n) each = and_from (all_below f n) (f n) (all_of f n (λ i less. each i (omega (arith, less)))) (each n (omega arith))

-- a look at a mark after which the clock's isn't seen
marks_on : (a b : CallerView) (at mark : ℕ) → b ≡ caller_did a (CallerStep.SawMark at mark) → seen_with (caller_now a) at mark clock_mark ≡ false → GoesListing a b
marks_on a b at mark e unseen = record {
  keeps = keeps_by a b (CallerStep.SawMark at mark) (record { generation = refl; description = refl; owed = refl; taken = refl }) e;
  listing = ap (λ (v : CallerView). (caller_now v).stage) e ∙ lists_on (caller_now a).description (seen_with (caller_now a) at mark) unseen;
  clock = ap (λ (v : CallerView). (caller_now v).seen clock_mark) e ∙ unseen;
  marks = λ i seen. ap (λ (v : CallerView). (caller_now v).seen i) e ∙ still_seen (caller_now a) at mark i seen;
}

-- a need's mark
pub need_marks : (a b : CallerView) (at mark : ℕ) → b ≡ caller_did a (CallerStep.SawMark at mark) → at < clock_mark → (caller_now a).seen clock_mark ≡ false → GoesListing a b
need_marks a b at mark e less clock =
    marks_on a b at mark e (put_else (caller_now a).seen at (value_at (caller_now a) at mark) clock_mark (λ same. omega (arith, same, less)) ∙ clock)

pub need_seen : (a b : CallerView) (at mark : ℕ) → b ≡ caller_did a (CallerStep.SawMark at mark) → mark ≡ (caller_now a).generation → (caller_now b).seen at ≡ true
need_seen a b at mark e is = ap (λ (v : CallerView). (caller_now v).seen at) e ∙ is_seen (caller_now a) at mark is

-- the clock's mark, where it isn't there
pub clock_unmarked : (a b : CallerView) (mark : ℕ) → b ≡ caller_did a (CallerStep.SawMark clock_mark mark) → mark ≢ (caller_now a).generation → (caller_now a).seen clock_mark ≡ false → GoesListing a b
clock_unmarked a b mark e n clock = marks_on a b clock_mark mark e (isnt_seen (caller_now a) clock_mark mark n ∙ clock)

-- and where it is: with all others seen the pass begins its check
pub clock_marked : (a b : CallerView) (mark : ℕ) → b ≡ caller_did a (CallerStep.SawMark clock_mark mark) → mark ≡ (caller_now a).generation
    → HasSeenBelow (needs_of (caller_now a).description) (caller_now a) → BeginsCheck a b
clock_marked a b mark e is each =
    let c = caller_now a in
    let seen = seen_with c clock_mark mark in
    record {
      keeps = keeps_by a b (CallerStep.SawMark clock_mark mark) (record { generation = refl; description = refl; owed = refl; taken = refl }) e;
      checking =
          ap (λ (v : CallerView). (caller_now v).stage) e
          ∙ cond-true (all_seen c.description seen) Checking Listing
          (and_from (all_below seen (needs_of c.description)) (seen clock_mark)
          (all_of seen (needs_of c.description) (λ i less. still_seen c clock_mark mark i (each i less)))
          (is_seen c clock_mark mark is));
    }

-- a pass that goes on Listing
pub listing_same : (a : CallerView) → (caller_now a).stage ≡ Listing → (caller_now a).seen clock_mark ≡ false → GoesListing a a
listing_same a listing clock = record { keeps = keeps_same a; listing = listing; clock = clock; marks = λ i seen. seen }

pub listing_far : (a b c : CallerView) → GoesListing a b → GoesListing b c → GoesListing a c
listing_far a b c g h = record {
  keeps = keeps_far a b c g.keeps h.keeps;
  listing = h.listing;
  clock = h.clock;
  marks = λ i seen. h.marks i (g.marks i seen);
}

-- its word is open still
pub listing_open : (a b : CallerView) → b ≡ found_open a → (caller_now a).stage ≡ Listing → (caller_now a).seen clock_mark ≡ false → GoesListing a b
listing_open a b e listing clock = record {
  keeps = keeps_by a b (CallerStep.Peeked (open_at (caller_now a).generation)) (record { generation = refl; description = refl; owed = refl; taken = refl }) e;
  listing = open_stage a b e ∙ listing;
  clock = ap (λ (v : CallerView). (caller_now v).seen clock_mark) e ∙ clock;
  marks = λ i seen. ap (λ (v : CallerView). (caller_now v).seen i) e ∙ seen;
}
