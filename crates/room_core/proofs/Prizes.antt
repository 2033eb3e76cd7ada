-- A win more: it stands once in one winner's wins, and in the word.
use Rattle.std.proofs.Common.{⊎_elim, ◌≡◌, ◌≢◌, ℕ, ◌+◌, ◌-◌, ◌<◌, ◌≤◌, List, [], ◌∷◌, ◌++◌, Bool, true, false, cond, sym, ap, refl, subst, ◌∙◌, arith}
use Rattle.std.specs.Prelude.{nat_lt, ◌&&◌, ◌==◌}
use Rattle.std.proofs.lemmas.Bool.{cases_eq, cases_lt, lt-ltb, le-ltb, eq-eqb, ne_eqb}
use Rattle.room_core.specs.declared.event.How.{How}
use Rattle.room_core.specs.declared.parts.Phase.{Phase}
use Rattle.room_core.specs.declared.parts.Phase.TheVariants.{Won}
use Rattle.room_core.specs.declared.parts.Session.{Session}
use Rattle.room_core.specs.declared.parts.Prize.{Prize}
use Rattle.room_core.specs.declared.parts.Taken.{Taken}
use Rattle.room_core.specs.declared.parts.Stage.{Stage}
use Rattle.room_core.specs.Put.{put}
use Rattle.room_core.specs.Duty.{IsOpen}
use Rattle.room_core.specs.Sound.{Agree}
use Rattle.room_core.specs.Meetings.{is_live}
use Rattle.room_core.specs.Wins.{prizes_as, taken_as, won_as, taken_at, won_at, wins_of, same_how, is_won}
use Rattle.room_core.specs.Checks.{exchanged, with_prize}
use Rattle.room_core.specs.State.{State, Caller, Scanner}
use Rattle.room_core.proofs.Facts.{WinsAreSound}
use Rattle.room_core.proofs.Puts.{at-put, put-other}
use Rattle.room_core.proofs.Tests.{live_open, live_generation}
use Rattle.room_core.proofs.Words.{exchanged_or}
use Rattle.room_core.proofs.Kept.{IsKept}
use Rattle.std.proofs.Math.Bool.{and-false, and-true}
use Rattle.room_core.proofs.Winners.{prizes_as-more, won_as-none, won_at-one, won_at-other}

-- the wins of a pass, and of a scanner
pub wins_of-pass : (scanner : ℕ → Scanner) (caller : ℕ → Caller) (p : ℕ) → wins_of scanner caller (17 + p) ≡ (caller p).wins
unfolding wins_of
wins_of-pass scanner caller p =
    let e : (17 + p) - 17 ≡ p = omega arith in
    ap (λ b. cond b (scanner (17 + p)).wins (caller ((17 + p) - 17)).wins) (le-ltb (17 + p) 17 (omega arith)) ∙ ap (λ q. (caller q).wins) e

pub wins_of-scanner : (scanner : ℕ → Scanner) (caller : ℕ → Caller) (k : ℕ) → k < 17 → wins_of scanner caller k ≡ (scanner k).wins
unfolding wins_of
wins_of-scanner scanner caller k l = ap (λ b. cond b (scanner k).wins (caller (k - 17)).wins) (lt-ltb k 17 l)

-- and of all others
pub wins_of-but_pass : (scanner : ℕ → Scanner) (caller : ℕ → Caller) (p : ℕ) (new : Caller) (by : ℕ) → by ≢ 17 + p → wins_of scanner (put caller p new) by ≡ wins_of scanner caller by
unfolding wins_of
wins_of-but_pass scanner caller p new by n =
    ⊎_elim
    (λ (l : by < 17).
    ap (λ b. cond b (scanner by).wins (put caller p new (by - 17)).wins) (lt-ltb by 17 l) ∙ sym (ap (λ b. cond b (scanner by).wins (caller (by - 17)).wins) (lt-ltb by 17 l)))
    (λ (l : 17 ≤ by).
    ap (λ c. cond (nat_lt by 17) (scanner by).wins c.wins) (put-other caller p new (by - 17) (λ e. n (omega arith))))
    (cases_lt by 17)

pub wins_of-but_scanner : (scanner : ℕ → Scanner) (caller : ℕ → Caller) (k : ℕ) (new : Scanner) (by : ℕ) → by ≢ k → wins_of (put scanner k new) caller by ≡ wins_of scanner caller by
unfolding wins_of
wins_of-but_scanner scanner caller k new by n = ap (λ c. cond (nat_lt by 17) c.wins (caller (by - 17)).wins) (put-other scanner k new by n)

pub prize_made : (w : Session) (generation : ℕ) (wins : List Prize) (prize : Prize) → is_live w generation ≡ true → with_prize w generation wins prize ≡ wins ++ prize ∷ []
unfolding with_prize
prize_made w generation wins prize e = ap (λ b. cond b (wins ++ prize ∷ []) wins) e

pub no_prize : (w : Session) (generation : ℕ) (wins : List Prize) (prize : Prize) → is_live w generation ≡ false → with_prize w generation wins prize ≡ wins
unfolding with_prize
no_prize w generation wins prize e = ap (λ b. cond b (wins ++ prize ∷ []) wins) e

pub not_exchanged : (w : Session) (generation : ℕ) (how : How) (by : ℕ) → is_live w generation ≡ false → exchanged w generation how by ≡ w
unfolding exchanged
not_exchanged w generation how by e = ap (λ b. cond b (record { generation = w.generation; phase = Won how by }) w) e

none_plus : (b : Bool) (n : ℕ) → n ≡ cond b 1 0 → n ≡ 0 + cond b 1 0
none_plus b n e = omega arith

-- the win in the word, and in the winner's wins
prize_here : (p generation : ℕ) (how : How) (by g : ℕ) (h : How)
    → won_as (record { generation = generation; phase = Won how by }) g h by ≡ prizes_as (record { pass = p; generation = generation; how = how } ∷ []) p g h
unfolding won_as prizes_as
prize_here p generation how by g h =
    none_plus _ _
    (ap (λ b. cond ((generation == g) && (same_how how h && b)) 1 0) (eq-eqb by by refl)
    ∙ ap (λ b. cond ((generation == g) && b) 1 0) (and-true (same_how how h))
    ∙ sym (ap (λ b. cond (b && ((generation == g) && same_how how h)) 1 0) (eq-eqb p p refl)))

prize_there : (p generation : ℕ) (how : How) (q g : ℕ) (h : How) → q ≢ p → prizes_as (record { pass = p; generation = generation; how = how } ∷ []) q g h ≡ 0
unfolding prizes_as
prize_there p generation how q g h n =
    let e : cond ((p == q) && ((generation == g) && same_how how h)) 1 0 ≡ 0 = ap (λ b. cond (b && ((generation == g) && same_how how h)) 1 0) (ne_eqb p q (λ x. n (sym x))) in
    ap (λ x. 0 + x) e ∙ (omega arith)

-- nobody else won it
pub prize_by : (generation : ℕ) (how : How) (by other g : ℕ) (h : How) → other ≢ by → won_as (record { generation = generation; phase = Won how by }) g h other ≡ 0
unfolding won_as
prize_by generation how by other g h n =
    ap (λ b. cond ((generation == g) && (same_how how h && b)) 1 0) (ne_eqb by other (λ x. n (sym x)))
    ∙ ap (λ b. cond ((generation == g) && b) 1 0) (and-false (same_how how h)) ∙ ap (λ b. cond b 1 0) (and-false (generation == g))

module _ (session : ℕ → Session) (p by : ℕ) (how : How) (generation : ℕ) (live : is_live (session p) generation ≡ true) where
  not_won : (g : ℕ) (h : How) (other : ℕ) → won_as (session p) g h other ≡ 0
  not_won g h other = won_as-none (session p) g h other (ap is_won (live_open (session p) generation live))

  is_now : exchanged (session p) generation how by ≡ record { generation = generation; phase = Won how by }
  is_now =
      ⊎_elim
      (λ (e : (is_live (session p) generation ≡ true) × (exchanged (session p) generation how by ≡ record { generation = (session p).generation; phase = Won how by })).
      e.1 ∙ ap (λ g. record { generation = g; phase = Won how by }) (live_generation (session p) generation live))
      (λ (e : (is_live (session p) generation ≡ false) × (exchanged (session p) generation how by ≡ session p)). absurd (cc))
      (exchanged_or (session p) generation how by)

  winner : (q g : ℕ) (h : How) → won_as (put session p (exchanged (session p) generation how by) q) g h by ≡ won_as (session q) g h by + prizes_as (record { pass = p; generation = generation; how = how } ∷ []) q g h
  winner q g h =
      at-put session p (exchanged (session p) generation how by) (λ j w. won_as w g h by ≡ won_as (session j) g h by + prizes_as (record { pass = p; generation = generation; how = how } ∷ []) j g h)
      (let e : won_as (exchanged (session p) generation how by) g h by ≡ won_as (record { generation = generation; phase = Won how by }) g h by = ap (λ w. won_as w g h by) is_now in
      omega (arith, e, prize_here p generation how by g h, not_won g h by))
      (λ j n. omega (arith, prize_there p generation how j g h n)) q

  nobody : (other q g : ℕ) (h : How) → other ≢ by → won_as (put session p (exchanged (session p) generation how by) q) g h other ≡ won_as (session q) g h other
  nobody other q g h n =
      at-put session p (exchanged (session p) generation how by) (λ j w. won_as w g h other ≡ won_as (session j) g h other)
      (let e : won_as (exchanged (session p) generation how by) g h other ≡ won_as (record { generation = generation; phase = Won how by }) g h other = ap (λ w. won_as w g h other) is_now in
      omega (arith, e, prize_by generation how by other g h n, not_won g h other))
      (λ j m. refl) q

  pub prize_counted : (wins now : ℕ → List Prize) (taken : ℕ → List Taken)
      → ((other q g : ℕ) (h : How) → prizes_as (wins other) q g h ≡ taken_as (taken q) g h other + won_as (session q) g h other)
      → now by ≡ wins by ++ record { pass = p; generation = generation; how = how } ∷ [] → ((other : ℕ) → other ≢ by → now other ≡ wins other)
      → (other q g : ℕ) (h : How) → prizes_as (now other) q g h ≡ taken_as (taken q) g h other + won_as (put session p (exchanged (session p) generation how by) q) g h other
  prize_counted wins now taken counted mine others other q g h =
      ⊎_elim
      (λ (e : other ≡ by).
      subst (λ x. prizes_as (now x) q g h ≡ taken_as (taken q) g h x + won_as (put session p (exchanged (session p) generation how by) q) g h x) (sym e)
      (let a : prizes_as (now by) q g h ≡ prizes_as (wins by ++ record { pass = p; generation = generation; how = how } ∷ []) q g h = ap (λ x. prizes_as x q g h) mine in
      omega (arith, a, prizes_as-more (wins by) (record { pass = p; generation = generation; how = how } ∷ []) q g h, counted by q g h, winner q g h)))
      (λ (n : other ≢ by).
      let a : prizes_as (now other) q g h ≡ prizes_as (wins other) q g h = ap (λ x. prizes_as x q g h) (others other n) in
      omega (arith, a, counted other q g h, nobody other q g h n))
      (cases_eq other by)

-- an open pass isn't idle
pub open_busy : (s : State) (p : ℕ) → IsKept s → IsOpen s p → (s.caller p).stage ≢ Stage.Idle
open_busy s p k o e =
    let i : (s.session p).phase ≡ Phase.Idle = subst (λ st. Agree st (s.session p).phase) e (k.owners.stage p) in cc

-- no generation is won twice
pub won_once : (s : State) (p generation : ℕ) (how : How) (by : ℕ) → IsKept s → WinsAreSound s → (q g : ℕ)
    → taken_at (s.caller q).taken g + won_at (put s.session p (exchanged (s.session p) generation how by) q) g ≤ 1
won_once s p generation how by k w q g =
    at-put s.session p (exchanged (s.session p) generation how by) (λ j x. taken_at (s.caller j).taken g + won_at x g ≤ 1)
    (⊎_elim
    (λ (e : (is_live (s.session p) generation ≡ true) × (exchanged (s.session p) generation how by ≡ record { generation = (s.session p).generation; phase = Won how by })).
    subst (λ x. taken_at (s.caller p).taken g + won_at x g ≤ 1) (sym e.1)
    (⊎_elim
    (λ (same : (s.session p).generation ≡ g).
    let none : taken_at (s.caller p).taken (s.session p).generation ≡ 0 = k.generations.untaken p (open_busy s p k (live_open (s.session p) generation e.0)) in
    let here : taken_at (s.caller p).taken g ≡ 0 = subst (λ x. taken_at (s.caller p).taken x ≡ 0) same none in
    omega (arith, here, won_at-one (record { generation = (s.session p).generation; phase = Won how by }) g))
    (λ (n : (s.session p).generation ≢ g).
    omega (arith, w.once p g, won_at-other (record { generation = (s.session p).generation; phase = Won how by }) g n))
    (cases_eq (s.session p).generation g)))
    (λ (e : (is_live (s.session p) generation ≡ false) × (exchanged (s.session p) generation how by ≡ s.session p)).
    subst (λ x. taken_at (s.caller p).taken g + won_at x g ≤ 1) (sym e.1) (w.once p g))
    (exchanged_or (s.session p) generation how by))
    (λ j n. w.once j g) q
