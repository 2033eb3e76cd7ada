-- Wins where nobody wins, and where one does.
use Rattle.std.proofs.Common.{◌∙◌, ◌-◌, ◌≡◌, ◌≢◌, ℕ, ◌+◌, ◌≤◌, List, [], ◌∷◌, ◌++◌, sym, ap, refl, subst, arith, Bool, true, false, cond}
use Rattle.std.specs.Prelude.{◌&&◌, ◌==◌}
use Rattle.std.proofs.lemmas.Bool.{ne_eqb}
use Rattle.std.proofs.Math.Bool.{and-false}
use Rattle.std.proofs.lemmas.List.Sums.{sum_by-append}
use Rattle.room_core.specs.declared.parts.Phase.{Phase}
use Rattle.room_core.specs.declared.parts.Phase.TheVariants.{Open, Won}
use Rattle.room_core.specs.declared.parts.Taken.{Taken}
use Rattle.room_core.specs.declared.event.How.{How}
use Rattle.room_core.specs.declared.parts.Session.{Session}
use Rattle.room_core.specs.declared.parts.Prize.{Prize}
use Rattle.room_core.specs.Put.{put}
use Rattle.room_core.specs.Wins.{prizes_as, taken_as, won_as, taken_at, won_at, wins_of, is_prize, is_taken_as, is_won_as, is_won}
use Rattle.room_core.specs.State.{State, Caller, Scanner}
use Rattle.room_core.proofs.Facts.{WinsAreSound}
use Rattle.room_core.proofs.Puts.{at-put}

-- the same wins of each part are the same wins by each number
pub wins_of-same : (a b : ℕ → Scanner) (f g : ℕ → Caller) → ((k : ℕ) → (b k).wins ≡ (a k).wins) → ((p : ℕ) → (g p).wins ≡ (f p).wins) → (by : ℕ) → wins_of b g by ≡ wins_of a f by
unfolding wins_of
wins_of-same a b f g scanners callers by = rw (scanners by, callers (by - 17)) refl

same_taken : (s : State) (p : ℕ) (new : Caller) → new.taken ≡ (s.caller p).taken → (pass : ℕ) → (put s.caller p new pass).taken ≡ (s.caller pass).taken
same_taken s p new taken = at-put s.caller p new (λ q x. x.taken ≡ (s.caller q).taken) taken (λ q n. refl)

-- a caller that keeps its wins and what it has taken
pub caller_wins_nothing : (s : State) (p : ℕ) (new : Caller) → new.wins ≡ (s.caller p).wins → new.taken ≡ (s.caller p).taken → WinsAreSound s → WinsAreSound (record s { caller = put s.caller p new })
caller_wins_nothing s p new wins taken w = record {
  counted = λ by pass generation how.
      ap (λ x. prizes_as x pass generation how)
      (wins_of-same s.scanner s.scanner s.caller (put s.caller p new) (λ k. refl)
      (at-put s.caller p new (λ q x. x.wins ≡ (s.caller q).wins) wins (λ q n. refl)) by)
      ∙ w.counted by pass generation how
      ∙ sym (ap (λ x. taken_as x generation how by + won_as (s.session pass) generation how by) (same_taken s p new taken pass));
  once = λ pass generation.
      subst (λ x. taken_at x generation + won_at (s.session pass) generation ≤ 1) (sym (same_taken s p new taken pass)) (w.once pass generation);
}

-- a scanner that keeps its wins
pub scanner_wins_nothing : (s : State) (k : ℕ) (new : Scanner) → new.wins ≡ (s.scanner k).wins → WinsAreSound s → WinsAreSound (record s { scanner = put s.scanner k new })
scanner_wins_nothing s k new wins w = record {
  counted = λ by pass generation how.
      ap (λ x. prizes_as x pass generation how)
      (wins_of-same s.scanner (put s.scanner k new) s.caller s.caller
      (at-put s.scanner k new (λ q x. x.wins ≡ (s.scanner q).wins) wins (λ q n. refl)) (λ p. refl) by)
      ∙ w.counted by pass generation how;
  once = w.once;
}

one_or_none : (b : Bool) → cond b 1 0 ≤ 1
one_or_none true = omega arith
one_or_none false = omega arith

none_as : (phase : Phase) (how : How) (by : ℕ) → is_won phase ≡ false → is_won_as phase how by ≡ false
none_as (Won h b) how by e = absurd (cc)
none_as Phase.Idle how by e = refl
none_as Open how by e = refl

-- a word that isn't won
pub won_as-none : (w : Session) (generation : ℕ) (how : How) (by : ℕ) → is_won w.phase ≡ false → won_as w generation how by ≡ 0
unfolding won_as
won_as-none w generation how by e =
    ap (λ b. cond ((w.generation == generation) && b) 1 0) (none_as w.phase how by e) ∙ ap (λ b. cond b 1 0) (and-false (w.generation == generation))

pub won_at-none : (w : Session) (generation : ℕ) → is_won w.phase ≡ false → won_at w generation ≡ 0
unfolding won_at
won_at-none w generation e =
    ap (λ b. cond ((w.generation == generation) && b) 1 0) e ∙ ap (λ b. cond b 1 0) (and-false (w.generation == generation))

-- more that was taken
pub taken_as-more : (xs ys : List Taken) (generation : ℕ) (how : How) (by : ℕ) → taken_as (xs ++ ys) generation how by ≡ taken_as xs generation how by + taken_as ys generation how by
unfolding taken_as
taken_as-more xs ys generation how by = sum_by-append (λ x. cond (is_taken_as generation how by x) 1 0) xs ys

pub taken_at-more : (xs ys : List Taken) (generation : ℕ) → taken_at (xs ++ ys) generation ≡ taken_at xs generation + taken_at ys generation
unfolding taken_at
taken_at-more xs ys generation = sum_by-append (λ x. cond (x.generation == generation) 1 0) xs ys

pub prizes_as-more : (xs ys : List Prize) (pass generation : ℕ) (how : How) → prizes_as (xs ++ ys) pass generation how ≡ prizes_as xs pass generation how + prizes_as ys pass generation how
unfolding prizes_as
prizes_as-more xs ys pass generation how = sum_by-append (λ x. cond (is_prize pass generation how x) 1 0) xs ys

only : (x : Bool) → 0 + cond x 1 0 ≡ cond (x && true) 1 0
only true = refl
only false = refl

-- what Over says is taken as the word had it
pub over_as : (g : ℕ) (h : How) (b : ℕ) (generation : ℕ) (how : How) (by : ℕ)
    → taken_as (record { generation = g; how = h; by = b } ∷ []) generation how by ≡ won_as (record { generation = g; phase = Won h b }) generation how by
unfolding taken_as won_as
over_as g h b generation how by = omega arith

pub over_at : (g : ℕ) (h : How) (b : ℕ) (generation : ℕ)
    → taken_at (record { generation = g; how = h; by = b } ∷ []) generation ≡ won_at (record { generation = g; phase = Won h b }) generation
unfolding taken_at won_at
over_at g h b generation = only (g == generation)

-- a word of another generation has none
pub won_at-other : (w : Session) (generation : ℕ) → w.generation ≢ generation → won_at w generation ≡ 0
unfolding won_at
won_at-other w generation n = ap (λ b. cond (b && is_won w.phase) 1 0) (ne_eqb w.generation generation n)

pub won_at-one : (w : Session) (generation : ℕ) → won_at w generation ≤ 1
unfolding won_at
won_at-one w generation = one_or_none ((w.generation == generation) && is_won w.phase)
