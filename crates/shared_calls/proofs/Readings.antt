-- What was read at a call's looks, one after the other.
use Rattle.std.proofs.Common.{◌≡◌, ℕ, ◌-◌, ◌/◌, ◌≤◌, ◌<◌, ℤ, Bool, true, false, ◌||◌, List, [], ◌∷◌, ◌++◌, length, Option, unwrap_or, refl, sym, ap, subst, ◌∙◌, arith}
use Rattle.audit.specs.declared.account.Point.{Point}
use Rattle.kbytes.proofs.Laws.{get_set_same}
use Rattle.kanswer.specs.declared.accepted.Accepted.{Accepted}
use Rattle.kanswer.specs.declared.accepted.Accepted.TheVariants.{Refused, Appended, Seen}
use Rattle.kanswer.specs.declared.accepted.Budget.{Budget}
use Rattle.kanswer.specs.declared.accepted.Reading.{Reading}
use Rattle.kanswer.specs.Answer.{budget_after, budget_behind}
use Rattle.kanswer.specs.LogReadings.{FetchReadings, ProduceReadings}
use Rattle.kanswer.specs.Waiting.{Shown, gauge_value}
use Rattle.kwire.specs.declared.request.FetchPart.{FetchPart}
use Rattle.opcond.specs.declared.need.Need.{Need}
use Rattle.partlog.specs.declared.numbers.Numbers.{Numbers}
use Rattle.partlog.specs.Gauges.{numbers_of}
use Rattle.partlog.specs.History.{History}
use Rattle.partlog.specs.Looked.{looked as looked_at}
use Rattle.partlog.specs.State.{PartState as State, state_of}
use Rattle.audit.specs.broker.Board.{empty_history, history_at}
use Rattle.audit.proofs.broker.Laws.{looked_state}
use Rattle.shared_logs.specs.Asked.{HasLooked, HasRead}
use Rattle.shared_logs.specs.Seen.{HasSeen}
use Rattle.shared_logs.specs.Shared.{LogPassView}
use Rattle.shared_logs.proofs.Laws.{found_within}
use Rattle.kanswer.specs.PartitionGauges.{fetched_gauge}
use Rattle.shared_calls.specs.Fresh.{IsFresh}
use Rattle.shared_calls.specs.Looks.{HaveLooked}
use Rattle.shared_calls.specs.Readings.{WereNumbered, WereRead}
use Rattle.shared_calls.specs.Seen.{seen_as}
use Rattle.shared_calls.proofs.Gauges.{fetch_part}
use Rattle.shared_calls.proofs.Looks.{looked_none, looked_on, looked_one, looked_refused}
use Rattle.shared_calls.proofs.Seen.{behind_append, fetch_append, produce_append, seen_append}

module _ (seq : ℕ) (fresh : ℕ → State → Type 0) where
  pub numbered_none : (a : LogPassView) (p : List Point) → WereNumbered seq fresh a p [] a p []
  numbered_none a p = record { states = []; looked = looked_none seq fresh a p; read = tt }

  pub numbered_on : (a b c : LogPassView) (p q r : List Point) (xs ys : List Accepted) (rs qs : List Reading) → WereNumbered seq fresh a p xs b q rs → WereNumbered seq fresh b q ys c r qs → WereNumbered seq fresh a p (xs ++ ys) c r (rs ++ qs)
  numbered_on a b c p q r xs ys rs qs f g = record {
    states = f.states ++ g.states;
    looked = looked_on seq fresh a b c p q r xs ys f.states g.states f.looked g.looked;
    read = subst (ProduceReadings (xs ++ ys) (rs ++ qs)) (sym (seen_append xs ys f.states g.states f.looked.size))
        (produce_append xs ys rs qs (seen_as xs f.states) (seen_as ys g.states) f.read g.read);
  }

  module _ (replica : ℤ) where
    pub read_none : (a : LogPassView) (p : List Point) (budget : Budget) → WereRead seq fresh replica [] a p [] budget a p budget []
    read_none a p budget = record { states = []; looked = looked_none seq fresh a p; read = tt; left_is = refl }

    pub read_on : (a b c : LogPassView) (p q r : List Point) (xs ys : List Accepted) (rs qs : List Reading) (ps ms : List FetchPart) (before amid after : Budget) → WereRead seq fresh replica ps a p xs before b q amid rs
        → WereRead seq fresh replica ms b q ys amid c r after qs → WereRead seq fresh replica (ps ++ ms) a p (xs ++ ys) before c r after (rs ++ qs)
    read_on a b c p q r xs ys rs qs ps ms before amid after f g =
        let shown = seen_append xs ys f.states g.states f.looked.size in
        record {
          states = f.states ++ g.states;
          looked = looked_on seq fresh a b c p q r xs ys f.states g.states f.looked g.looked;
          read = subst (λ (ss : List Shown). FetchReadings replica (ps ++ ms) (xs ++ ys) (rs ++ qs) ss before) (sym shown)
              (fetch_append replica ps ms xs ys rs qs (seen_as xs f.states) (seen_as ys g.states) before f.read (subst (FetchReadings replica ms ys qs (seen_as ys g.states)) f.left_is g.read));
          left_is = g.left_is
              ∙ ap (budget_behind replica ms (seen_as ys g.states)) f.left_is
              ∙ sym (behind_append replica ps ms xs rs (seen_as xs f.states) (seen_as ys g.states) before f.read)
              ∙ ap (λ (ss : List Shown). budget_behind replica (ps ++ ms) ss before) (sym shown);
        }

-- ---- one partition

none_after : (b : Budget) → budget_after [] b ≡ b
none_after b =
    let left : b.left - 0 ≡ b.left = omega arith in
    ap (λ (n : ℕ). so_much n (b.any || false)) left ∙ ap (so_much b.left) (same b.any)
  where
    so_much : ℕ → Bool → Budget
    so_much left any = record { left = left; any = any }

    same : (any : Bool) → (any || false) ≡ any
    same true = refl
    same false = refl

module _ (seq : ℕ) (fresh : ℕ → State → Type 0) (a : LogPassView) (p : List Point) where
  pub numbered_refused : (code : ℤ) (reading : Reading) → WereNumbered seq fresh a p (Refused code ∷ []) a p (reading ∷ [])
  numbered_refused code reading = record { states = []; looked = looked_refused seq fresh a p (Refused code) refl; read = (refl, tt, tt) }

  pub numbered_asked : (b : LogPassView) (q : List Point) (became : Accepted) (state : State) (reading : Reading) → HaveLooked seq fresh a p (became ∷ []) b q (state ∷ []) → reading.numbers ≡ numbers_of state
      → WereNumbered seq fresh a p (became ∷ []) b q (reading ∷ [])
  numbered_asked b q (Refused code) state reading looked is = absurd (omega (arith, looked.size))
  numbered_asked b q (Appended part base count) state reading looked is = record { states = state ∷ []; looked = looked; read = (refl, is, tt) }
  numbered_asked b q (Seen part start) state reading looked is = record { states = state ∷ []; looked = looked; read = (refl, tt, tt) }

  module _ (replica : ℤ) (asked : FetchPart) where
    pub read_refused : (code : ℤ) (reading : Reading) (budget : Budget) → WereRead seq fresh replica (asked ∷ []) a p (Refused code ∷ []) budget a p budget (reading ∷ [])
    read_refused code reading budget = record { states = []; looked = looked_refused seq fresh a p (Refused code) refl; read = (refl, tt, tt); left_is = sym (none_after budget) }

    pub read_appended : (b : LogPassView) (q : List Point) (part base count : ℕ) (state : State) (reading : Reading) (budget : Budget) → HaveLooked seq fresh a p (Appended part base count ∷ []) b q (state ∷ [])
        → WereRead seq fresh replica (asked ∷ []) a p (Appended part base count ∷ []) budget b q budget (reading ∷ [])
    read_appended b q part base count state reading budget looked = record { states = state ∷ []; looked = looked; read = (refl, tt, tt); left_is = sym (none_after budget) }

    pub read_seen : (b : LogPassView) (q : List Point) (part gauge least place start : ℕ) (numbers : Numbers) (records : List ℕ) (before after : Budget) (h : HasLooked part seq gauge least a b place numbers) → part < length a.parts
        → HaveLooked seq fresh a p (Seen part start ∷ []) b q (state_of (history_at h.found part) ∷ []) → HasRead replica asked (Seen part start) (state_of (history_at b.parts part)) numbers records before after
        → WereRead seq fresh replica (asked ∷ []) a p (Seen part start ∷ []) before b q after (record { numbers = numbers; records = records } ∷ [])
    read_seen b q part gauge least place start numbers records before after h inside looked read =
        let found = history_at h.found part in
        let there = found_within part a b h.found (looked_at found a.number seq) h.turn inside in
        let left : history_at b.parts part ≡ looked_at found a.number seq =
        ap (λ (hs : List History). history_at hs part) h.turn.parts ∙ ap (λ (o : Option History). unwrap_or o (empty_history 0)) (get_set_same h.found part (looked_at found a.number seq) there) in
        let same : state_of (history_at b.parts part) ≡ state_of found = ap state_of left ∙ looked_state found a.number seq in
        let was = subst (λ (s : State). HasRead replica asked (Seen part start) s numbers records before after) same read in
        record { states = state_of found ∷ []; looked = looked; read = (refl, was.read, tt); left_is = was.lowered }

-- ---- the turn in which a fetch reads a partition

module _ (seq : ℕ) (needs : List Need) (values : List ℕ) (a b : LogPassView) (p q : List Point) (replica : ℤ) (part gauge least place start : ℕ) (numbers : Numbers) (gauge_is : gauge ≡ fetched_gauge replica part)
    (turn : HasLooked (gauge / 3) seq gauge least a b place numbers) (point : q ≡ p ++ record { part = gauge / 3; place = place } ∷ []) (before : HasSeen a) (after : HasSeen b) (inside : part < length a.parts)
    (late : (gauges : ℕ → ℕ) (n : ℕ) (state : State) → gauges n ≡ gauge → least ≤ gauge_value gauge state → IsFresh gauges needs values n state) where
  abbrev pub fresh_here : ℕ → State → Type 0
  fresh_here = IsFresh (fetched_gauge replica) needs values

  pub same_part : gauge / 3 ≡ part
  same_part = ap (λ n. n / 3) gauge_is ∙ fetch_part replica part

  abbrev pub turn_here : HasLooked part seq gauge least a b place numbers
  turn_here = subst (λ n. HasLooked n seq gauge least a b place numbers) same_part turn

  abbrev pub state_here : State
  state_here = state_of (history_at turn_here.found part)

  pub turn_looked : HaveLooked seq fresh_here a p (Seen part start ∷ []) b q (state_here ∷ [])
  turn_looked = looked_one seq fresh_here a b p q (Seen part start) part gauge least place numbers refl turn_here (point ∙ ap (λ n. p ++ record { part = n; place = place } ∷ []) same_part) before after inside
      (late (fetched_gauge replica) part state_here (sym gauge_is) turn_here.late)

  pub turn_read : (asked : FetchPart) (records : List ℕ) (budget left : Budget) → HasRead replica asked (Seen (gauge / 3) start) (state_of (history_at b.parts (gauge / 3))) numbers records budget left
      → WereRead seq fresh_here replica (asked ∷ []) a p (Seen part start ∷ []) budget b q left (record { numbers = numbers; records = records } ∷ [])
  turn_read asked records budget left read =
      read_seen seq fresh_here a p replica asked b q part gauge least place start numbers records budget left turn_here inside turn_looked
      (subst (λ n. HasRead replica asked (Seen n start) (state_of (history_at b.parts n)) numbers records budget left) same_part read)
