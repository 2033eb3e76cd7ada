-- Win, by the owner: the operation is open no more, and the owner is Over as the word says.
use Rattle.std.proofs.Common.{⊎_elim, ◌≡◌, ℕ, ◌+◌, ◌≤◌, [], ◌∷◌, ◌++◌, true, false, sym, ap, refl, subst, ◌∙◌}
use Rattle.std.proofs.lemmas.Bool.{cases_Bool}
use Rattle.room_core.specs.declared.event.How.{How}
use Rattle.room_core.specs.declared.parts.Phase.TheVariants.{Open}
use Rattle.room_core.specs.declared.parts.Stage.{Stage}
use Rattle.room_core.specs.declared.parts.Stage.TheVariants.{Checking}
use Rattle.room_core.specs.Put.{put}
use Rattle.room_core.specs.Duty.{IsOpen, OwnerFinds, FindsTally, FindsTime}
use Rattle.room_core.specs.Sound.{Agree}
use Rattle.room_core.specs.Meetings.{is_live}
use Rattle.room_core.specs.Wins.{prizes_as, taken_as, won_as, taken_at, won_at, wins_of}
use Rattle.room_core.specs.Passes.{peeked}
use Rattle.room_core.specs.Checks.{CanWinPass, pass_winning, caller_wins, exchanged}
use Rattle.room_core.specs.Carried.{IsUpheld}
use Rattle.room_core.specs.State.{State}
use Rattle.room_core.proofs.Facts.{WinsAreSound}
use Rattle.room_core.proofs.Puts.{at-put, put-same}
use Rattle.room_core.proofs.Words.{kept_by_exchange, with_session}
use Rattle.room_core.proofs.Kept.{IsKept, kept_of, carried}
use Rattle.room_core.proofs.Callers.{CallerStays, kept_by_caller}
use Rattle.room_core.proofs.Peeking.{peeked_agrees, peeked_open}
use Rattle.room_core.proofs.Winners.{wins_of-same}
use Rattle.room_core.proofs.Prizes.{wins_of-pass, wins_of-but_pass, prize_made, no_prize, not_exchanged, prize_counted, won_once}

module _ (s : State) (p : ℕ) (how : How) (k : IsKept s) (can : CanWinPass s p how) where
  middle : IsKept (with_session s p (exchanged (s.session p) (s.caller p).generation how (17 + p)))
  middle = kept_by_exchange s p (s.caller p).generation how (17 + p) k

  here : put s.session p (exchanged (s.session p) (s.caller p).generation how (17 + p)) p ≡ exchanged (s.session p) (s.caller p).generation how (17 + p)
  here = put-same s.session p (exchanged (s.session p) (s.caller p).generation how (17 + p))

  as_before : (P : Stage → Type 0) → IsOpen (with_session s p (exchanged (s.session p) (s.caller p).generation how (17 + p))) p → P (s.caller p).stage
      → P (peeked (exchanged (s.session p) (s.caller p).generation how (17 + p)).phase (s.caller p).stage)
  as_before P o = subst P (sym (peeked_open (exchanged (s.session p) (s.caller p).generation how (17 + p)).phase (s.caller p).stage (subst (λ w. w.phase ≡ Open) here o)))

  stays : CallerStays (with_session s p (exchanged (s.session p) (s.caller p).generation how (17 + p))) p (caller_wins (s.caller p) p how (s.session p))
  stays = record {
    owed = middle.debts.owed p;
    owes = λ g l h. h;
    greatest = middle.readings.greatest p;
    readings = middle.readings.owner p;
    generation = refl;
    description = λ at. refl;
    stage =
        subst (λ w. Agree (peeked (exchanged (s.session p) (s.caller p).generation how (17 + p)).phase (s.caller p).stage) w.phase) (sym here)
        (peeked_agrees (exchanged (s.session p) (s.caller p).generation how (17 + p)).phase (s.caller p).stage
        (subst (λ w. Agree (s.caller p).stage w.phase) here (middle.owners.stage p)));
    busy = λ b e. let c : (s.caller p).stage ≡ Checking = can.1 in cc;
    seen = middle.listings.seen p;
    complete = λ i o n. middle.listings.complete p i o (λ e. let c : (s.caller p).stage ≡ Checking = can.1 in cc);
    tally = λ o f. as_before (λ st. OwnerFinds (FindsTally (s.description p) s.value) (record (caller_wins (s.caller p) p how (s.session p)) { stage = st })) o (record { on_duty = f.on_duty; found = f.found });
    time = λ o f. as_before (λ st. OwnerFinds (FindsTime s.shape (s.description p) s.value) (record (caller_wins (s.caller p) p how (s.session p)) { stage = st })) o (record { on_duty = f.on_duty; found = f.found });
    taken = refl;
  }

  pub kept : IsKept (pass_winning s p how)
  kept = kept_by_caller (with_session s p (exchanged (s.session p) (s.caller p).generation how (17 + p))) p (caller_wins (s.caller p) p how (s.session p)) middle stays

  taken_same : (q : ℕ) → (put s.caller p (caller_wins (s.caller p) p how (s.session p)) q).taken ≡ (s.caller q).taken
  taken_same = at-put s.caller p (caller_wins (s.caller p) p how (s.session p)) (λ q c. c.taken ≡ (s.caller q).taken) refl (λ q n. refl)

  counted : WinsAreSound s → (by pass generation : ℕ) (way : How) → prizes_as (wins_of s.scanner (put s.caller p (caller_wins (s.caller p) p how (s.session p))) by) pass generation way
      ≡ taken_as (s.caller pass).taken generation way by + won_as (put s.session p (exchanged (s.session p) (s.caller p).generation how (17 + p)) pass) generation way by
  counted w by pass generation way =
      ⊎_elim
      (λ (live : is_live (s.session p) (s.caller p).generation ≡ true).
      prize_counted s.session p (17 + p) how (s.caller p).generation live (wins_of s.scanner s.caller) (wins_of s.scanner (put s.caller p (caller_wins (s.caller p) p how (s.session p))))
      (λ q. (s.caller q).taken) w.counted
      (wins_of-pass s.scanner (put s.caller p (caller_wins (s.caller p) p how (s.session p))) p ∙ ap (λ c. c.wins) (put-same s.caller p (caller_wins (s.caller p) p how (s.session p)))
      ∙ prize_made (s.session p) (s.caller p).generation (s.caller p).wins (record { pass = p; generation = (s.caller p).generation; how = how }) live
      ∙ ap (λ x. x ++ record { pass = p; generation = (s.caller p).generation; how = how } ∷ []) (sym (wins_of-pass s.scanner s.caller p)))
      (wins_of-but_pass s.scanner s.caller p (caller_wins (s.caller p) p how (s.session p)))
      by pass generation way)
      (λ (dead : is_live (s.session p) (s.caller p).generation ≡ false).
      ap (λ x. prizes_as x pass generation way)
      (wins_of-same s.scanner s.scanner s.caller (put s.caller p (caller_wins (s.caller p) p how (s.session p))) (λ j. refl)
      (at-put s.caller p (caller_wins (s.caller p) p how (s.session p)) (λ q c. c.wins ≡ (s.caller q).wins) (no_prize (s.session p) (s.caller p).generation (s.caller p).wins (record { pass = p; generation = (s.caller p).generation; how = how }) dead) (λ q n. refl)) by)
      ∙ w.counted by pass generation way
      ∙ ap (λ n. taken_as (s.caller pass).taken generation way by + n)
      (at-put s.session p (exchanged (s.session p) (s.caller p).generation how (17 + p)) (λ q x. won_as (s.session q) generation way by ≡ won_as x generation way by)
      (ap (λ x. won_as x generation way by) (sym (not_exchanged (s.session p) (s.caller p).generation how (17 + p) dead))) (λ q n. refl) pass))
      (cases_Bool (is_live (s.session p) (s.caller p).generation))

  wins : WinsAreSound s → WinsAreSound (pass_winning s p how)
  wins w = record {
    counted = λ by pass generation way.
        counted w by pass generation way
        ∙ ap (λ x. taken_as x generation way by + won_as (put s.session p (exchanged (s.session p) (s.caller p).generation how (17 + p)) pass) generation way by) (sym (taken_same pass));
    once = λ pass generation.
        subst (λ x. taken_at x generation + won_at (put s.session p (exchanged (s.session p) (s.caller p).generation how (17 + p)) pass) generation ≤ 1) (sym (taken_same pass))
        (won_once s p (s.caller p).generation how (17 + p) k w pass generation);
  }

pub keeps : (s : State) (pass : ℕ) (how : How) → IsUpheld s → CanWinPass s pass how → IsUpheld (pass_winning s pass how)
keeps s pass how c can = carried _ (kept s pass how (kept_of s c) can) (wins s pass how (kept_of s c) can c.sound.wins)
