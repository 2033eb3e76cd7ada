-- Who has a deadline to come, or is a suspect, waits: after each call.
use Rattle.std.proofs.Common.{◌≡◌, ◌≢◌, ℕ, ◌<◌, ◌≤◌, ◌↔◌, ◌⊎◌, ⊎_elim, List, Option, Some, None, length, get_or, set, option_map, sym, ap, ◌∙◌, subst, arith, get_or-set_same, get_or-set_other}
use Rattle.std.proofs.lemmas.Bool.{cases_eq}
use Rattle.timing_wheel.specs.declared.timer.Timer.{Timer}
use Rattle.timing_wheel.specs.Timers.{Timers, deadline_of, ids_of, with_entry}
use Rattle.lone_broker.specs.index.Sessions.{Has}
use Rattle.lone_broker.specs.index.Kept.{AreWaiting}
use Rattle.lone_broker.proofs.index.Deadlines.{deadline_other, deadline_same}

-- what stays of a session whose entry and generation stay
module _ (timers timers' : Timers) (live : List ℕ) (suspects suspects' session generation : ℕ) (slot : Option Timer) (are : AreWaiting timers live suspects)
    (changed : timers' ≡ with_entry timers session slot) (others : (other : ℕ) → other ≢ session → Has suspects' other ↔ Has suspects other) where
  abbrev live' : List ℕ
  live' = set live session generation

  other_comes : (other deadline : ℕ) → other ≢ session → deadline_of timers' other ≡ Some deadline → 1 ≤ get_or live' other 0
  other_comes other deadline differs is =
      let same : deadline_of timers' other ≡ deadline_of timers other = ap (λ (t : Timers). deadline_of t other) changed ∙ deadline_other timers session slot other differs in
      let low = are.coming other deadline (sym same ∙ is) in
      let stays : get_or live' other 0 ≡ get_or live other 0 = get_or-set_other live session other generation 0 differs in
      omega arith

  other_suspected : (other : ℕ) → other ≢ session → Has suspects' other → 1 ≤ get_or live' other 0
  other_suspected other differs is =
      let low = are.suspected other ((others other differs).0 is) in
      let stays : get_or live' other 0 ≡ get_or live other 0 = get_or-set_other live session other generation 0 differs in
      omega arith

  pub waiting_begun : session < length live → 1 ≤ generation → AreWaiting timers' live' suspects'
  waiting_begun within low =
      let now : get_or live' session 0 ≡ generation = get_or-set_same live session generation 0 within in
      record {
        coming = λ s deadline is.
            ⊎_elim
            (λ (same : s ≡ session). let at : get_or live' s 0 ≡ get_or live' session 0 = ap (λ n. get_or live' n 0) same in omega arith)
            (λ (differs : s ≢ session). other_comes s deadline differs is)
            (cases_eq s session);
        suspected = λ s is.
            ⊎_elim
            (λ (same : s ≡ session). let at : get_or live' s 0 ≡ get_or live' session 0 = ap (λ n. get_or live' n 0) same in omega arith)
            (λ (differs : s ≢ session). other_suspected s differs is)
            (cases_eq s session);
      }

  pub waiting_ended : session < ids_of timers → slot ≡ None → ¬ Has suspects' session → AreWaiting timers' live' suspects'
  waiting_ended within none gone = record {
    coming = λ s deadline is.
        ⊎_elim
        (λ (same : s ≡ session).
        let at : deadline_of timers' session ≡ Some deadline = subst (λ n. deadline_of timers' n ≡ Some deadline) same is in
        let no : deadline_of timers' session ≡ None =
        ap (λ (t : Timers). deadline_of t session) changed ∙ deadline_same timers session slot within ∙ ap (λ (o : Option Timer). option_map (λ entry. entry.deadline) o) none in
        absurd cc)
        (λ (differs : s ≢ session). other_comes s deadline differs is)
        (cases_eq s session);
    suspected = λ s is.
        ⊎_elim
        (λ (same : s ≡ session). absurd (gone (subst (λ n. Has suspects' n) same is)))
        (λ (differs : s ≢ session). other_suspected s differs is)
        (cases_eq s session);
  }

-- nobody became a suspect but who waits
pub waiting_suspects : (timers timers' : Timers) (live : List ℕ) (suspects suspects' : ℕ) → AreWaiting timers live suspects
    → ((session deadline : ℕ) → deadline_of timers' session ≡ Some deadline → deadline_of timers session ≡ Some deadline)
    → ((session : ℕ) → Has suspects' session → Has suspects session ⊎ (1 ≤ get_or live session 0)) → AreWaiting timers' live suspects'
waiting_suspects timers timers' live suspects suspects' are coming suspected = record {
  coming = λ session deadline is. are.coming session deadline (coming session deadline is);
  suspected = λ session is.
      ⊎_elim
      (λ (old : Has suspects session). are.suspected session old)
      (λ (waits : 1 ≤ get_or live session 0). waits)
      (suspected session is);
}

-- nobody has a deadline to come, and nobody is a suspect
pub waiting_none : (timers : Timers) (live : List ℕ) (suspects : ℕ) → ((session : ℕ) → deadline_of timers session ≡ None) → ((session : ℕ) → ¬ Has suspects session) → AreWaiting timers live suspects
waiting_none timers live suspects none nobody = record {
  coming = λ session deadline is. absurd (let no : None ≡ Some deadline = sym (none session) ∙ is in cc);
  suspected = λ session is. absurd (nobody session is);
}
