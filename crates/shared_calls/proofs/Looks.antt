-- A call's looks at the partitions of its operation, one after the other.
use Rattle.std.proofs.lemmas.List.{take-append-drop, take_more}
use Rattle.std.proofs.Common.{◌≡◌, ℕ, zero, suc, ◌+◌, ◌<◌, List, [], ◌∷◌, ◌++◌, length, drop, take, get_or, set, Some, refl, sym, ap, subst, ◌∙◌, arith, append-nil, append_assoc, length-append}
use Rattle.std.specs.Prelude.{slice_get}
use Rattle.audit.specs.declared.account.Call.{Call}
use Rattle.audit.specs.declared.account.Point.{Point}
use Rattle.audit.specs.declared.account.Transcript.{Transcript}
use Rattle.audit.specs.LawfulCall.{operation_parts}
use Rattle.kanswer.specs.declared.accepted.Accepted.{Accepted}
use Rattle.kanswer.specs.Results.{parts_asked}
use Rattle.kwire.specs.Configuration.{Configuration}
use Rattle.partlog.specs.declared.clock_event.ClockEvent.{ClockEvent}
use Rattle.partlog.specs.declared.numbers.Numbers.{Numbers}
use Rattle.partlog.specs.History.{History}
use Rattle.partlog.specs.Looked.{looked}
use Rattle.partlog.specs.State.{PartState as State, state_of}
use Rattle.audit.specs.broker.Board.{history_at}
use Rattle.audit.proofs.broker.Laws.{grown_self}
use Rattle.audit.specs.broker.books.Finishing.{IsFinishing, part_seen}
use Rattle.audit.specs.broker.books.Underway.{Underway, seq_of}
use Rattle.audit.proofs.broker.books.Laws.{finishing_on, others_finishing}
use Rattle.shared_logs.specs.Asked.{HasLooked}
use Rattle.shared_logs.specs.Coming.{HasCaughtUp}
use Rattle.shared_logs.specs.Seen.{HasSeen}
use Rattle.shared_logs.specs.Shared.{LogPassView}
use Rattle.shared_logs.specs.Amid.{amid}
use Rattle.shared_calls.specs.Fresh.{AreFresh}
use Rattle.shared_calls.specs.Looks.{HaveLooked, HaveStopped, IsAt}
use Rattle.shared_logs.proofs.Laws.{grown_on, left_on, left_self, looked_grown, looked_histories, looked_left, same_on, same_self}
use Rattle.shared_calls.proofs.Passes.{seen_histories}
use Rattle.shared_calls.proofs.Seen.{asked_append}

-- ---- states, one more

pub fresh_none : (fresh : ℕ → State → Type 0) (parts : List ℕ) → AreFresh fresh parts []
fresh_none fresh [] = tt
fresh_none fresh (part ∷ parts) = tt

fresh_push : (fresh : ℕ → State → Type 0) (parts : List ℕ) (states : List State) (part : ℕ) (state : State) → AreFresh fresh parts states → slice_get parts (length states) ≡ Some part → fresh part state
    → AreFresh fresh parts (states ++ state ∷ [])
fresh_push fresh [] states part state h next is = nothing states
  where
    nothing : (ss : List State) → AreFresh fresh [] (ss ++ state ∷ [])
    nothing [] = tt
    nothing (s ∷ ss) = tt
fresh_push fresh (p ∷ parts) [] part state h next is = (subst (λ n. fresh n state) (sym (first next)) is, fresh_none fresh parts)
  where
    first : Some p ≡ Some part → p ≡ part
    first e = cc
fresh_push fresh (p ∷ parts) (s ∷ states) part state h next is = (h.0, fresh_push fresh parts states part state h.1 next is)

none_left : (k : ℕ) → drop {A = ℕ} k [] ≡ []
none_left zero = refl
none_left (suc k) = refl

-- the next one, and those behind it
next_one : (xs : List ℕ) (n x : ℕ) (rest : List ℕ) → drop n xs ≡ x ∷ rest → slice_get xs n ≡ Some x
next_one [] n x rest e = absurd (omega (arith, ap (λ (l : List ℕ). length l) (sym (none_left n) ∙ e)))
next_one (y ∷ xs) zero x rest e = ap (λ (l : List ℕ). slice_get l 0) e
next_one (y ∷ xs) (suc n) x rest e = next_one xs n x rest e

rest_behind : (xs : List ℕ) (n x : ℕ) (rest : List ℕ) → drop n xs ≡ x ∷ rest → drop (suc n) xs ≡ rest
rest_behind [] n x rest e = absurd (omega (arith, ap (λ (l : List ℕ). length l) (sym (none_left n) ∙ e)))
rest_behind (y ∷ xs) zero x rest e = ap (drop 1) e
rest_behind (y ∷ xs) (suc n) x rest e = rest_behind xs n x rest e

-- a call of a pass, with these points of its completion
abbrev pub so : Configuration → List Transcript → Transcript → Call → ℕ → List History → List ClockEvent → List Point → Underway
so config front transcript call number parts clock finish =
    record { config = config; number = number; parts = parts; clock = clock; front = front; transcript = transcript; call = record call { finish = finish } }

-- as the turn left it
as_left : (part seq gauge least place : ℕ) (numbers : Numbers) (a b : LogPassView) (p q : List Point) (h : HasLooked part seq gauge least a b place numbers) → q ≡ p ++ record { part = part; place = place } ∷ []
    → (config : Configuration) (front : List Transcript) (transcript : Transcript) (call : Call) → seq_of (amid config front transcript a call) ≡ seq
    → part_seen (record (amid config front transcript a (record call { finish = p })) { parts = h.found }) part ≡ amid config front transcript b (record call { finish = q })
as_left part seq gauge least place numbers a b p q h points config front transcript call number =
    let found = history_at h.found part in
    ap (λ n. so config front transcript call a.number (set h.found part (looked found a.number n)) a.clock (p ++ record { part = part; place = length found.events } ∷ [])) number
    ∙ ap (λ (hs : List History). so config front transcript call a.number hs a.clock (p ++ record { part = part; place = length found.events } ∷ [])) (sym h.turn.parts)
    ∙ ap (λ n. so config front transcript call a.number b.parts a.clock (p ++ record { part = part; place = n } ∷ [])) (sym h.place_is)
    ∙ ap (λ (ps : List Point). so config front transcript call a.number b.parts a.clock ps) (sym points)
    ∙ ap (λ (clock : List ClockEvent). so config front transcript call a.number b.parts clock q) (sym h.turn.clock)
    ∙ ap (λ n. so config front transcript call n b.parts b.clock q) (sym h.turn.same.number)

-- ---- looks, one after the other

module _ (seq : ℕ) (fresh : ℕ → State → Type 0) where
  pub looked_none : (a : LogPassView) (points : List Point) → HaveLooked seq fresh a points [] a points []
  looked_none a points = record {
    same = same_self a;
    ticked = refl;
    grown = grown_self a.parts a.clock;
    left = left_self seq a;
    size = refl;
    goes = λ rest config front transcript call w late seen at. subst (IsAt seq fresh a points rest config front transcript call w late) (sym (append-nil seen)) at;
  }

  pub looked_refused : (a : LogPassView) (points : List Point) (became : Accepted) → parts_asked (became ∷ []) ≡ [] → HaveLooked seq fresh a points (became ∷ []) a points []
  looked_refused a points became none = record {
    same = same_self a;
    ticked = refl;
    grown = grown_self a.parts a.clock;
    left = left_self seq a;
    size = ap (λ (ps : List ℕ). length ps) (sym none);
    goes = λ rest config front transcript call w late seen at. record {
      number = at.number;
      finishing = subst (IsFinishing (amid config front transcript a (record call { finish = points })) w late) (sym (append-nil seen)) at.finishing;
      next_are = ap (λ (ss : List State). drop (length ss) (operation_parts w.steps)) (append-nil seen) ∙ at.next_are ∙ asked_append (became ∷ []) rest ∙ ap (λ (ps : List ℕ). ps ++ parts_asked rest) none;
      are_fresh = subst (AreFresh fresh (operation_parts w.steps)) (sym (append-nil seen)) at.are_fresh;
      enough = at.enough;
    };
  }

  pub looked_on : (a b c : LogPassView) (p q r : List Point) (xs ys : List Accepted) (ss ts : List State) → HaveLooked seq fresh a p xs b q ss → HaveLooked seq fresh b q ys c r ts → HaveLooked seq fresh a p (xs ++ ys) c r (ss ++ ts)
  looked_on a b c p q r xs ys ss ts f g = record {
    same = same_on a b c f.same g.same;
    ticked = g.ticked ∙ f.ticked;
    grown = grown_on a.parts b.parts c.parts a.clock b.clock c.clock f.grown g.grown;
    left = left_on seq a b c f.same.number f.left g.left;
    size = omega (arith, f.size, g.size, length-append ss ts, ap (λ (ps : List ℕ). length ps) (asked_append xs ys), length-append (parts_asked xs) (parts_asked ys));
    goes = λ rest config front transcript call w late seen at.
        let there = f.goes (ys ++ rest) config front transcript call w late seen (subst (λ (zs : List Accepted). IsAt seq fresh a p zs config front transcript call w late seen) (append_assoc xs ys rest) at) in
        let here = g.goes rest config front transcript call w late (seen ++ ss) there in
        subst (IsAt seq fresh c r rest config front transcript call w late) (append_assoc seen ss ts) here;
  }

  -- ---- stopped on the way

  pub looked_stopped : (a b : LogPassView) (p q : List Point) (xs : List Accepted) (ss : List State) → HaveLooked seq fresh a p xs b q ss → HaveStopped seq fresh a p xs b q
  looked_stopped a b p q xs ss f = record {
    same = f.same;
    ticked = f.ticked;
    grown = f.grown;
    states = ss;
    goes = λ rest config front transcript call w late seen at. (f.goes rest config front transcript call w late seen at).finishing;
  }

  pub stopped_on : (a b c : LogPassView) (p q r : List Point) (xs ys : List Accepted) (ss : List State) → HaveLooked seq fresh a p xs b q ss → HaveStopped seq fresh b q ys c r → HaveStopped seq fresh a p (xs ++ ys) c r
  stopped_on a b c p q r xs ys ss f g = record {
    same = same_on a b c f.same g.same;
    ticked = g.ticked ∙ f.ticked;
    grown = grown_on a.parts b.parts c.parts a.clock b.clock c.clock f.grown g.grown;
    states = ss ++ g.states;
    goes = λ rest config front transcript call w late seen at.
        let there = f.goes (ys ++ rest) config front transcript call w late seen (subst (λ (zs : List Accepted). IsAt seq fresh a p zs config front transcript call w late seen) (append_assoc xs ys rest) at) in
        let here = g.goes rest config front transcript call w late (seen ++ ss) there in
        subst (IsFinishing (amid config front transcript c (record call { finish = r })) w late) (append_assoc seen ss g.states) here;
  }

  -- before those behind it
  pub stopped_before : (a b : LogPassView) (p q : List Point) (xs ys : List Accepted) → HaveStopped seq fresh a p xs b q → HaveStopped seq fresh a p (xs ++ ys) b q
  stopped_before a b p q xs ys f = record {
    same = f.same;
    ticked = f.ticked;
    grown = f.grown;
    states = f.states;
    goes = λ rest config front transcript call w late seen at.
        f.goes (ys ++ rest) config front transcript call w late seen (subst (λ (zs : List Accepted). IsAt seq fresh a p zs config front transcript call w late seen) (append_assoc xs ys rest) at);
  }

  -- others alone did anything
  pub caught_up_stopped : (a b : LogPassView) (points : List Point) (xs : List Accepted) → HasCaughtUp a b → HasSeen a → HasSeen b → HaveStopped seq fresh a points xs b points
  caught_up_stopped a b points xs came before after = record {
    same = came.same;
    ticked = came.ticked;
    grown = came.others.grown;
    states = [];
    goes = λ rest config front transcript call w late seen at.
        let u = amid config front transcript a (record call { finish = points }) in
        let histories = seen_histories config a b before after came.same.made at.finishing.delayed.underway.histories in
        let on = others_finishing u w late seen b.parts b.clock came.others.grown came.others.within histories at.finishing in
        subst (IsFinishing (amid config front transcript b (record call { finish = points })) w late) (sym (append-nil seen))
        (subst (λ n. IsFinishing (record (amid config front transcript b (record call { finish = points })) { number = n }) w late seen) (sym came.same.number) on);
  }

  -- ---- one look

  pub looked_one : (a b : LogPassView) (p q : List Point) (became : Accepted) (part gauge least place : ℕ) (numbers : Numbers) → parts_asked (became ∷ []) ≡ part ∷ [] → (h : HasLooked part seq gauge least a b place numbers)
      → q ≡ p ++ record { part = part; place = place } ∷ [] → HasSeen a → HasSeen b → part < length a.parts → fresh part (state_of (history_at h.found part))
      → HaveLooked seq fresh a p (became ∷ []) b q (state_of (history_at h.found part) ∷ [])
  looked_one a b p q became part gauge least place numbers asks h points before after there is = record {
    same = h.turn.same;
    ticked = h.turn.ticked;
    grown = looked_grown part seq gauge least a b place numbers h there;
    left = looked_left part seq gauge least a b place numbers h there;
    size = ap (λ (ps : List ℕ). length ps) (sym asks);
    goes = λ rest config front transcript call w late seen at.
        let parts = operation_parts w.steps in
        let found = history_at h.found part in
        let u = amid config front transcript a (record call { finish = p }) in
        let later : Underway = record u { parts = h.found } in
        let histories = looked_histories config part seq gauge least a b place numbers h before after there at.finishing.delayed.underway.histories in
        let on = others_finishing u w late seen h.found a.clock h.turn.others.grown h.turn.others.within histories at.finishing in
        let behind : drop (length seen) parts ≡ part ∷ parts_asked rest = at.next_are ∙ asked_append (became ∷ []) rest ∙ ap (λ (ps : List ℕ). ps ++ parts_asked rest) asks in
        let next = next_one parts (length seen) part (parts_asked rest) behind in
        let all = fresh_push fresh parts seen part (state_of found) at.are_fresh next is in
        let one : length (seen ++ state_of found ∷ []) ≡ suc (length seen) = length-append seen (state_of found ∷ []) ∙ omega arith in
        let looks = finishing_on later w late seen on part next (λ none size. at.enough none (seen ++ state_of found ∷ []) size all) in
        record {
          number = at.number;
          finishing = subst (λ (v : Underway). IsFinishing v w late (seen ++ state_of found ∷ [])) (as_left part seq gauge least place numbers a b p q h points config front transcript call at.number) looks;
          next_are = ap (λ n. drop n parts) one ∙ rest_behind parts (length seen) part (parts_asked rest) behind;
          are_fresh = all;
          enough = at.enough;
        };
  }

  -- ---- stopped at one of them

  split_at : (xs : List Accepted) (i : ℕ) (d : Accepted) → i < length xs → (take i xs ++ get_or xs i d ∷ []) ++ drop (i + 1) xs ≡ xs
  split_at xs i d lt = ap (λ (front : List Accepted). front ++ drop (i + 1) xs) (sym (take_more xs i d lt)) ∙ take-append-drop (i + 1) xs

  pub stopped_at : (a b c : LogPassView) (p q r : List Point) (xs : List Accepted) (i : ℕ) (d : Accepted) (ss : List State) → i < length xs → HaveLooked seq fresh a p (take i xs) b q ss → HaveStopped seq fresh b q (get_or xs i d ∷ []) c r
      → HaveStopped seq fresh a p xs c r
  stopped_at a b c p q r xs i d ss lt looked stopped =
      subst (λ (zs : List Accepted). HaveStopped seq fresh a p zs c r) (split_at xs i d lt)
      (stopped_before a c p r (take i xs ++ get_or xs i d ∷ []) (drop (i + 1) xs) (stopped_on a b c p q r (take i xs) (get_or xs i d ∷ []) ss looked stopped))

  -- at some of them
  pub stopped_among : (a b c : LogPassView) (p q r : List Point) (xs : List Accepted) (i k : ℕ) (ss : List State) → HaveLooked seq fresh a p (take i xs) b q ss → HaveStopped seq fresh b q (take k (drop i xs)) c r → HaveStopped seq fresh a p xs c r
  stopped_among a b c p q r xs i k ss looked stopped =
      let here = take k (drop i xs) in
      let all : (take i xs ++ here) ++ drop k (drop i xs) ≡ xs =
      append_assoc (take i xs) here (drop k (drop i xs)) ∙ ap (λ (rest : List Accepted). take i xs ++ rest) (take-append-drop k (drop i xs)) ∙ take-append-drop i xs in
      subst (λ (zs : List Accepted). HaveStopped seq fresh a p zs c r) all
      (stopped_before a c p r (take i xs ++ here) (drop k (drop i xs)) (stopped_on a b c p q r (take i xs) here ss looked stopped))
