-- How many operations a pass has won, and of how many it has taken the end, after a step.
use Rattle.std.proofs.Common.{⊎_elim, ◌≡◌, ◌≢◌, ◌∙◌, ℕ, ◌+◌, ◌≤◌, Bool, Some, ◌||◌, cond, length, ap, refl, subst, sym, arith}
use Rattle.std.specs.Prelude.{◌↔◌, IsTrue, true, false}
use Rattle.std.proofs.lemmas.List.{length-append, length_push}
use Rattle.room_core.specs.declared.event.How.{How}
use Rattle.room_core.specs.declared.parts.Phase.{Phase}
use Rattle.room_core.specs.declared.parts.Prize.{Prize}
use Rattle.room_core.specs.declared.parts.Session.{Session}
use Rattle.room_core.specs.declared.parts.Stage.{Stage}
use Rattle.room_core.specs.Checks.{caller_leaves, caller_wins, exchanged, is_overdue, is_satisfied}
use Rattle.room_core.specs.Meetings.{is_live}
use Rattle.room_core.specs.Numbers.{scanner_numbers}
use Rattle.room_core.specs.Passes.{IsOver, all_seen, caller_idles, caller_opens, caller_peeks, caller_sees_mark, peeked, seen_with, taken_of}
use Rattle.room_core.specs.Put.{put}
use Rattle.room_core.specs.State.{Caller}
use Rattle.room_core.proofs.Laws.{exchange_cases, no_prize, prize_made}
use Rattle.room_core.specs.declared.shape.Shape.{Shape}
use Rattle.purgatory.specs.Owned.{IsCounted, unsettled, untaken}

busy_one : (stage : Stage) → stage ≢ Stage.Idle → untaken stage ≡ 1
busy_one Stage.Idle n = absurd (n refl)
busy_one Stage.Listing n = refl
busy_one Stage.Checking n = refl
busy_one Stage.Waiting n = refl
busy_one (Stage.Over how by) n = refl

checks_or : (b : Bool) (other : Stage) → unsettled other ≤ 1 → unsettled (cond b Stage.Checking other) ≤ 1
checks_or true other h = omega arith
checks_or false other h = h

checks_busy : (b : Bool) (other : Stage) → untaken other ≡ 1 → untaken (cond b Stage.Checking other) ≡ 1
checks_busy true other h = refl
checks_busy false other h = h

-- a pass that looks at its word is no longer unsettled than before, and has an operation as before
peeks_less : (phase : Phase) (stage : Stage) → unsettled (peeked phase stage) ≤ unsettled stage
unfolding peeked
peeks_less Phase.Idle stage = omega arith
peeks_less Phase.Open stage = omega arith
peeks_less (Phase.Won how by) stage = omega arith

peeks_busy : (phase : Phase) (stage : Stage) → untaken stage ≡ 1 → untaken (peeked phase stage) ≡ 1
unfolding peeked
peeks_busy Phase.Idle stage h = h
peeks_busy Phase.Open stage h = h
peeks_busy (Phase.Won how by) stage h = refl

module _ (wins taken : ℕ) (caller : Caller) (h : IsCounted wins taken caller) where
  -- it opens an operation
  pub counts_open : caller.stage ≡ Stage.Idle → IsCounted wins taken (caller_opens caller)
  counts_open e =
      let few = h.few_wins in
      let all = subst (λ s. taken + untaken s ≡ caller.generation) e h.all_taken in
      record { wins_are = h.wins_are; taken_are = h.taken_are; few_wins = omega (arith, few); all_taken = omega (arith, all) }

  pub counts_mark : (at mark : ℕ) → caller.stage ≡ Stage.Listing → IsCounted wins taken (caller_sees_mark caller at mark)
  counts_mark at mark e =
      let few = subst (λ s. wins + unsettled s ≤ caller.generation) e h.few_wins in
      let all = subst (λ s. taken + untaken s ≡ caller.generation) e h.all_taken in
      record {
        wins_are = h.wins_are;
        taken_are = h.taken_are;
        few_wins = omega (arith, few, checks_or (all_seen caller.description (seen_with caller at mark)) Stage.Listing (omega arith));
        all_taken = omega (arith, all, checks_busy (all_seen caller.description (seen_with caller at mark)) Stage.Listing refl);
      }

  pub counts_leave : (shape : Shape) (gauge value : ℕ) → caller.stage ≡ Stage.Checking → IsCounted wins taken (caller_leaves shape caller gauge value)
  counts_leave shape gauge value e =
      let few = subst (λ s. wins + unsettled s ≤ caller.generation) e h.few_wins in
      let all = subst (λ s. taken + untaken s ≡ caller.generation) e h.all_taken in
      record {
        wins_are = h.wins_are;
        taken_are = h.taken_are;
        few_wins = omega (arith, few, checks_or (is_satisfied caller.description (put caller.readings gauge (Some value)) || is_overdue shape caller.description (put caller.readings gauge (Some value))) Stage.Waiting (omega arith));
        all_taken = omega (arith, all, checks_busy (is_satisfied caller.description (put caller.readings gauge (Some value)) || is_overdue shape caller.description (put caller.readings gauge (Some value))) Stage.Waiting refl);
      }

  -- it looks at its word
  pub counts_peek : (phase : Phase) → caller.stage ≢ Stage.Idle → IsCounted wins taken (caller_peeks caller phase)
  counts_peek phase n =
      let few = h.few_wins in
      let all = h.all_taken in
      let busy = busy_one caller.stage n in
      record {
        wins_are = h.wins_are;
        taken_are = h.taken_are;
        few_wins = omega (arith, few, peeks_less phase caller.stage);
        all_taken = omega (arith, all, busy, peeks_busy phase caller.stage busy);
      }

one_taken : (stage : Stage) (generation : ℕ) → IsOver stage → (length (taken_of stage generation) ≡ 1) × (untaken stage ≡ 1)
unfolding taken_of
one_taken (Stage.Over how by) generation over = (refl, refl)
one_taken Stage.Idle generation over = elim over [ ]
one_taken Stage.Listing generation over = elim over [ ]
one_taken Stage.Checking generation over = elim over [ ]
one_taken Stage.Waiting generation over = elim over [ ]

-- it takes the end of an operation
pub counts_idle : (wins taken : ℕ) (caller : Caller) → IsCounted wins taken caller → IsOver caller.stage → IsCounted wins (taken + 1) (caller_idles caller)
counts_idle wins taken caller h over =
    let one = one_taken caller.stage caller.generation over in
    let few = h.few_wins in
    let all = h.all_taken in
    let before = h.taken_are in
    record {
      wins_are = h.wins_are;
      taken_are = omega (arith, before, length-append caller.taken (taken_of caller.stage caller.generation), one.0);
      few_wins = omega (arith, few);
      all_taken = omega (arith, all, one.1);
    }

-- an exchange that wasn't made found the word not open at the generation
pub dead : (live won : Bool) → IsTrue won ↔ (live ≡ true) → won ≡ false → live ≡ false
dead true won h n = let apart : false ≡ true = sym n ∙ h.1 refl in absurd (cc)
dead false won h n = refl

-- it tries to win its operation
module _ (wins taken : ℕ) (caller : Caller) (h : IsCounted wins taken caller) (e : caller.stage ≡ Stage.Checking) (pass : ℕ) (how : How) (found : Session) where
  abbrev new : Caller
  new = caller_wins caller pass how found

  abbrev prize : Prize
  prize = record { pass = pass; generation = caller.generation; how = how }

  few : wins + 1 ≤ caller.generation
  few = subst (λ s. wins + unsettled s ≤ caller.generation) e h.few_wins

  all : taken + 1 ≡ caller.generation
  all = subst (λ s. taken + untaken s ≡ caller.generation) e h.all_taken

  at_most : unsettled new.stage ≤ 1
  at_most =
      let less = peeks_less (exchanged found caller.generation how (scanner_numbers + pass)).phase caller.stage in
      let one : unsettled caller.stage ≡ 1 = ap unsettled e in
      omega (arith, less, one)

  busy : untaken new.stage ≡ 1
  busy = peeks_busy (exchanged found caller.generation how (scanner_numbers + pass)).phase caller.stage (ap untaken e)

  over_settled : (w : Session) → w.phase ≡ Phase.Won how (scanner_numbers + pass) → unsettled (peeked w.phase caller.stage) ≡ 0
  unfolding peeked
  over_settled w is = ap (λ (p : Phase). unsettled (peeked p caller.stage)) is

  settled : is_live found caller.generation ≡ true → unsettled new.stage ≡ 0
  settled live =
      let w = exchanged found caller.generation how (scanner_numbers + pass) in
      over_settled w
      (⊎_elim
      (λ (t : (is_live found caller.generation ≡ true) × (found ≡ record { generation = caller.generation; phase = Phase.Open }) × (w ≡ record { generation = caller.generation; phase = Phase.Won how (scanner_numbers + pass) })).
      ap (λ (x : Session). x.phase) t.2)
      (λ (t : (is_live found caller.generation ≡ false) × (w ≡ found)). let apart : false ≡ true = sym t.0 ∙ live in absurd (cc))
      (exchange_cases found caller.generation how (scanner_numbers + pass)))

  pub counts_win : is_live found caller.generation ≡ true → IsCounted (wins + 1) taken new
  counts_win live =
      let before = h.wins_are in
      record {
        wins_are = omega (arith, before, ap (λ xs. length xs) (prize_made found caller.generation caller.wins prize live), length_push caller.wins prize);
        taken_are = h.taken_are;
        few_wins = omega (arith, few, settled live);
        all_taken = omega (arith, all, busy);
      }

  pub counts_miss : is_live found caller.generation ≡ false → IsCounted wins taken new
  counts_miss dead = record {
    wins_are = h.wins_are ∙ sym (ap (λ xs. length xs) (no_prize found caller.generation caller.wins prize dead));
    taken_are = h.taken_are;
    few_wins = omega (arith, few, at_most);
    all_taken = omega (arith, all, busy);
  }
