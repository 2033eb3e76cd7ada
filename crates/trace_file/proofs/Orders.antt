-- What may come after the lines so far.
use Rattle.std.proofs.Common.{◌≡◌, ◌≢◌, ℕ, zero, suc, ◌<◌, ◌≤◌, max, Bool, true, false, eqb, ◌||◌, List, [], ◌∷◌, ◌++◌, length, get_or, refl, sym, ap, ◌∙◌, subst, arith, inl, inr, set, length-set, get_or-set_same, get_or-set_other, eq-eqb, Contains}
use Rattle.std.specs.Prelude.{IsTrue, slice_index_or}
use Rattle.std.specs.List.{All, list_any}
use Rattle.std.proofs.lemmas.Bool.{eqb-true, ne_eqb, cases_eq}
use Rattle.std.proofs.lemmas.List.Folds.{list_any_at, list_any_none, list_any-append}
use Rattle.std.proofs.lemmas.List.Elements.{All-head, All-tail, All-weaker}
use Rattle.trace_file.specs.declared.line.Line.{Line}
use Rattle.trace_file.specs.declared.line.Line.TheVariants.{Topic, Feed, Shut, Clock, End}
use Rattle.trace_file.specs.Contents.{names, shuts, is_shut}
use Rattle.trace_file.specs.IsInOrder.{IsTopic, MayFollow}
use Rattle.trace_file.specs.declared.order.Order.{Order}
use Rattle.trace_file.specs.declared.line.TheConstants.{MOST_SESSIONS}
use Rattle.trace_file.specs.LineFaults.{MayStand}
use Rattle.trace_file.specs.Sees.{is_end, is_no_topic, moment_in, moment_of, Sees}

-- no item passes a test that none passes
not_there : (p : Line → Bool) (lines : List Line) → list_any p lines ≡ false → (k : ℕ) (d : Line) → k < length lines → p (get_or lines k d) ≡ false
not_there p lines none k d lt = by_test (p (get_or lines k d)) refl
  where
    by_test : (b : Bool) → p (get_or lines k d) ≡ b → b ≡ false
    by_test true is = let found : list_any p lines ≡ true = list_any_at p lines k d lt is in absurd cc
    by_test false is = refl

no_end : (line : Line) → is_end line ≡ false → line ≢ End
no_end line isnt is = let e : is_end line ≡ true = ap is_end is in absurd cc

a_topic : (line : Line) → is_no_topic line ≡ false → IsTopic line
a_topic (Topic name partitions followers least) isnt = tt
a_topic (Feed session bytes) isnt = absurd cc
a_topic (Shut session) isnt = absurd cc
a_topic (Clock t) isnt = absurd cc
a_topic End isnt = absurd cc

-- no line has a moment above the greatest
below_moment : (lines : List Line) (k : ℕ) (d : Line) → k < length lines → moment_in (get_or lines k d) ≤ moment_of lines
below_moment [] k d lt = absurd (omega arith)
below_moment (line ∷ lines) zero d lt = omega arith
below_moment (line ∷ lines) (suc k) d lt = let later = below_moment lines k d (omega arith) in omega (arith, later)

-- what lets a line follow all those before it
pub follows_from : (lines : List Line) (line : Line) → list_any is_end lines ≡ false → (IsTopic line → list_any is_no_topic lines ≡ false)
    → ((u : ℕ) → line ≡ Clock u → moment_of lines ≤ u) → ((s : ℕ) → IsTrue (names s line) → is_shut s lines ≡ false)
    → All (λ earlier. MayFollow earlier line) lines
follows_from lines line unended topics moment unshut k d lt = record {
  end_last = no_end (get_or lines k d) (not_there is_end lines unended k d lt);
  topics_first = λ topic. a_topic (get_or lines k d) (not_there is_no_topic lines (topics topic) k d lt);
  no_fall = λ t u is later.
      let at : moment_in (get_or lines k d) ≡ t = ap moment_in is in
      omega (arith, below_moment lines k d lt, moment u later);
  closed_once = λ session is named.
      let none : shuts session (get_or lines k d) ≡ false = not_there (shuts session) lines (unshut session named) k d lt in
      let there : shuts session (get_or lines k d) ≡ eqb session session = ap (shuts session) is in
      absurd (same_session session (sym there ∙ none));
}
  where
    same_session : (session : ℕ) → eqb session session ≡ false → ⊥
    same_session session isnt = grind arith

-- and what follows where it may
pub follows_unended : (lines : List Line) (line : Line) → All (λ earlier. MayFollow earlier line) lines → list_any is_end lines ≡ false
follows_unended lines line all = list_any_none is_end lines (All-weaker (λ earlier. MayFollow earlier line) (λ earlier. is_end earlier ≡ false) none lines all)
  where
    none : (earlier : Line) → MayFollow earlier line → is_end earlier ≡ false
    none (Topic name partitions followers least) may = refl
    none (Feed session bytes) may = refl
    none (Shut session) may = refl
    none (Clock t) may = refl
    none End may = absurd (may.end_last refl)

pub follows_topics : (lines : List Line) (line : Line) → IsTopic line → All (λ earlier. MayFollow earlier line) lines → list_any is_no_topic lines ≡ false
follows_topics lines line topic all = list_any_none is_no_topic lines (All-weaker (λ earlier. MayFollow earlier line) (λ earlier. is_no_topic earlier ≡ false) none lines all)
  where
    none : (earlier : Line) → MayFollow earlier line → is_no_topic earlier ≡ false
    none (Topic name partitions followers least) may = refl
    none (Feed session bytes) may = absurd (may.topics_first topic)
    none (Shut session) may = absurd (may.topics_first topic)
    none (Clock t) may = absurd (may.topics_first topic)
    none End may = absurd (may.topics_first topic)

pub follows_open : (lines : List Line) (line : Line) (s : ℕ) → IsTrue (names s line) → All (λ earlier. MayFollow earlier line) lines → is_shut s lines ≡ false
follows_open lines line s named all = list_any_none (shuts s) lines (All-weaker (λ earlier. MayFollow earlier line) (λ earlier. shuts s earlier ≡ false) none lines all)
  where
    by_test : (session : ℕ) (b : Bool) → eqb session s ≡ b → MayFollow (Shut session) line → b ≡ false
    by_test session true is may = absurd (may.closed_once s (ap Shut (eqb-true session s is)) named)
    by_test session false is may = refl

    none : (earlier : Line) → MayFollow earlier line → shuts s earlier ≡ false
    none (Topic name partitions followers least) may = refl
    none (Feed session bytes) may = refl
    none (Shut session) may = by_test session (eqb session s) refl may
    none (Clock t) may = refl
    none End may = refl

pub follows_moment : (lines : List Line) (u : ℕ) → All (λ earlier. MayFollow earlier (Clock u)) lines → moment_of lines ≤ u
follows_moment [] u all = omega arith
follows_moment (line ∷ lines) u all =
    let later = follows_moment lines u (All-tail (λ earlier. MayFollow earlier (Clock u)) line lines all) in
    omega (arith, later, first line (All-head (λ earlier. MayFollow earlier (Clock u)) line lines all))
  where
    first : (earlier : Line) → MayFollow earlier (Clock u) → moment_in earlier ≤ u
    first (Topic name partitions followers least) may = omega arith
    first (Feed session bytes) may = omega arith
    first (Shut session) may = omega arith
    first (Clock t) may = may.no_fall t u refl refl
    first End may = omega arith

pub moment_of-append : (front : List Line) (line : Line) → moment_of (front ++ line ∷ []) ≡ max (moment_of front) (moment_in line)
moment_of-append [] line = omega arith
moment_of-append (first ∷ front) line = let later = moment_of-append front line in omega (arith, later)

pub refused_ended : (only_topics : Bool) (order : Order) (lines : List Line) (line : Line) → Sees order lines → order.ended ≡ true → MayStand only_topics lines line → ⊥
refused_ended only_topics order lines line sees ended may = let unended = follows_unended lines line may.follows in let e = sees.ended in absurd cc

pub allowed_topic : (only_topics : Bool) (order : Order) (lines : List Line) (name : List ℕ) (partitions followers least : ℕ) → Sees order lines → order.ended ≡ false → order.begun ≡ false
    → MayStand only_topics lines (Topic name partitions followers least)
allowed_topic only_topics order lines name partitions followers least sees unended unbegun = record {
  follows = follows_from lines (Topic name partitions followers least) (sym sees.ended ∙ unended) (λ topic. sym sees.begun ∙ unbegun) (λ u is. absurd cc) (λ s named. absurd cc);
  declares = λ only. tt;
}

pub refused_topic : (only_topics : Bool) (order : Order) (lines : List Line) (name : List ℕ) (partitions followers least : ℕ) → Sees order lines → MayStand only_topics lines (Topic name partitions followers least)
    → order.begun ≡ false
refused_topic only_topics order lines name partitions followers least sees may = sees.begun ∙ follows_topics lines (Topic name partitions followers least) tt may.follows

pub allowed_feed : (order : Order) (lines : List Line) (session : ℕ) (bytes : List ℕ) → Sees order lines → session < MOST_SESSIONS → order.ended ≡ false → slice_index_or order.closed session false ≡ false
    → MayStand false lines (Feed session bytes)
allowed_feed order lines session bytes sees lt unended unshut = record {
  follows = follows_from lines (Feed session bytes) (sym sees.ended ∙ unended) (λ topic. absurd topic) (λ u is. absurd cc)
      (λ s named. subst (λ (t : ℕ). is_shut t lines ≡ false) (eqb-true session s named) (sym (sees.closed session lt) ∙ unshut));
  declares = λ only. absurd cc;
}

pub allowed_shut : (order : Order) (lines : List Line) (session : ℕ) → Sees order lines → session < MOST_SESSIONS → order.ended ≡ false → slice_index_or order.closed session false ≡ false
    → MayStand false lines (Shut session)
allowed_shut order lines session sees lt unended unshut = record {
  follows = follows_from lines (Shut session) (sym sees.ended ∙ unended) (λ topic. absurd topic) (λ u is. absurd cc)
      (λ s named. subst (λ (t : ℕ). is_shut t lines ≡ false) (eqb-true session s named) (sym (sees.closed session lt) ∙ unshut));
  declares = λ only. absurd cc;
}

pub refused_named : (only_topics : Bool) (order : Order) (lines : List Line) (line : Line) (session : ℕ) → Sees order lines → session < MOST_SESSIONS → IsTrue (names session line) → MayStand only_topics lines line
    → slice_index_or order.closed session false ≡ false
refused_named only_topics order lines line session sees lt named may = sees.closed session lt ∙ follows_open lines line session named may.follows

pub allowed_clock : (order : Order) (lines : List Line) (t : ℕ) → Sees order lines → order.ended ≡ false → order.moment ≤ t → MayStand false lines (Clock t)
allowed_clock order lines t sees unended le = record {
  follows = follows_from lines (Clock t) (sym sees.ended ∙ unended) (λ topic. absurd topic)
      (λ u is. let same : t ≡ u = cc in omega (arith, sees.moment)) (λ s named. absurd cc);
  declares = λ only. absurd cc;
}

pub refused_clock : (only_topics : Bool) (order : Order) (lines : List Line) (t : ℕ) → Sees order lines → MayStand only_topics lines (Clock t) → order.moment ≤ t
refused_clock only_topics order lines t sees may = omega (arith, sees.moment, follows_moment lines t may.follows)

pub allowed_end : (only_topics : Bool) (order : Order) (lines : List Line) → Sees order lines → order.ended ≡ false → MayStand only_topics lines End
allowed_end only_topics order lines sees unended = record {
  follows = follows_from lines End (sym sees.ended ∙ unended) (λ topic. absurd topic) (λ u is. absurd cc) (λ s named. absurd cc);
  declares = λ only. tt;
}

-- one more line
or_none : (x : Bool) → (x || false) ≡ x
or_none true = refl
or_none false = refl

or_true : (x : Bool) → (x || true) ≡ true
or_true true = refl
or_true false = refl

test_more : (p : Line → Bool) (lines : List Line) (line : Line) → list_any p (lines ++ line ∷ []) ≡ (list_any p lines || p line)
test_more p lines line = list_any-append p lines (line ∷ []) ∙ ap (λ (x : Bool). list_any p lines || x) (or_none (p line))

test_no : (p : Line → Bool) (lines : List Line) (line : Line) → p line ≡ false → list_any p (lines ++ line ∷ []) ≡ list_any p lines
test_no p lines line is = test_more p lines line ∙ ap (λ (x : Bool). list_any p lines || x) is ∙ or_none (list_any p lines)

test_yes : (p : Line → Bool) (lines : List Line) (line : Line) → p line ≡ true → list_any p (lines ++ line ∷ []) ≡ true
test_yes p lines line is = test_more p lines line ∙ ap (λ (x : Bool). list_any p lines || x) is ∙ or_true (list_any p lines)

pub passed_topic : (order : Order) (lines : List Line) (name : List ℕ) (partitions followers least : ℕ) → Sees order lines → Sees order (lines ++ Topic name partitions followers least ∷ [])
passed_topic order lines name partitions followers least sees =
    let line = Topic name partitions followers least in
    record {
      ended = sees.ended ∙ sym (test_no is_end lines line refl);
      begun = sees.begun ∙ sym (test_no is_no_topic lines line refl);
      moment = omega (arith, sees.moment, moment_of-append lines line);
      room = sees.room;
      closed = λ s lt. sees.closed s lt ∙ sym (test_no (shuts s) lines line refl);
    }

pub passed_feed : (order : Order) (lines : List Line) (session : ℕ) (bytes : List ℕ) → Sees order lines
    → Sees (record { ended = order.ended; begun = true; moment = order.moment; closed = order.closed }) (lines ++ Feed session bytes ∷ [])
passed_feed order lines session bytes sees =
    let line = Feed session bytes in
    record {
      ended = sees.ended ∙ sym (test_no is_end lines line refl);
      begun = sym (test_yes is_no_topic lines line refl);
      moment = omega (arith, sees.moment, moment_of-append lines line);
      room = sees.room;
      closed = λ s lt. sees.closed s lt ∙ sym (test_no (shuts s) lines line refl);
    }

shut_there : (closed : List Bool) (lines : List Line) (session s : ℕ) → session < length closed → slice_index_or closed s false ≡ is_shut s lines
    → slice_index_or (set closed session true) s false ≡ is_shut s (lines ++ Shut session ∷ [])
shut_there closed lines session s lt before =
    elim (cases_eq session s) [
      | inl same ↦
          subst (λ (t : ℕ). slice_index_or (set closed session true) t false ≡ is_shut t (lines ++ Shut session ∷ [])) same
          (get_or-set_same closed session true false lt ∙ sym (test_yes (shuts session) lines (Shut session) (eq-eqb session session refl)))
      | inr other ↦
          get_or-set_other closed session s true false (λ e. other (sym e)) ∙ before ∙ sym (test_no (shuts s) lines (Shut session) (ne_eqb session s other))
    ]

pub passed_shut : (order : Order) (lines : List Line) (session : ℕ) → session < MOST_SESSIONS → Sees order lines
    → Sees (record { ended = order.ended; begun = true; moment = order.moment; closed = set order.closed session true }) (lines ++ Shut session ∷ [])
passed_shut order lines session lt sees =
    let line = Shut session in
    record {
      ended = sees.ended ∙ sym (test_no is_end lines line refl);
      begun = sym (test_yes is_no_topic lines line refl);
      moment = omega (arith, sees.moment, moment_of-append lines line);
      room = length-set order.closed session true ∙ sees.room;
      closed = λ s within. shut_there order.closed lines session s (omega (arith, sees.room)) (sees.closed s within);
    }

pub passed_clock : (order : Order) (lines : List Line) (t moment : ℕ) → moment ≡ max order.moment t → Sees order lines
    → Sees (record { ended = order.ended; begun = true; moment = moment; closed = order.closed }) (lines ++ Clock t ∷ [])
passed_clock order lines t moment is sees =
    let line = Clock t in
    record {
      ended = sees.ended ∙ sym (test_no is_end lines line refl);
      begun = sym (test_yes is_no_topic lines line refl);
      moment = omega (arith, is, sees.moment, moment_of-append lines line);
      room = sees.room;
      closed = λ s lt. sees.closed s lt ∙ sym (test_no (shuts s) lines line refl);
    }

pub passed_end : (order : Order) (lines : List Line) → Sees order lines
    → Sees (record { ended = true; begun = true; moment = order.moment; closed = order.closed }) (lines ++ End ∷ [])
passed_end order lines sees =
    record {
      ended = sym (test_yes is_end lines End refl);
      begun = sym (test_yes is_no_topic lines End refl);
      moment = omega (arith, sees.moment, moment_of-append lines End);
      room = sees.room;
      closed = λ s lt. sees.closed s lt ∙ sym (test_no (shuts s) lines End refl);
    }

pub no_end_there : (lines : List Line) → list_any is_end lines ≡ false → Contains lines End → ⊥
no_end_there lines unended (k, lt, is) = no_end (get_or lines k End) (not_there is_end lines unended k End lt) is
