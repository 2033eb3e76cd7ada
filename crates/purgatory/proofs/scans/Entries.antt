-- A shard beside its scanner's listing, after a step.
use Rattle.std.proofs.Common.{⊎_elim, inl, inr, ◌⊎◌, ◌≡◌, ◌≢◌, ◌∙◌, ◌↔◌, ℕ, Bool, true, false, Option, Some, None, ap, refl, subst, sym, arith}
use Rattle.std.specs.Prelude.{◌==◌, if◌then◌else◌}
use Rattle.std.proofs.lemmas.Bool.{cases_eq, eqb-true, eq-eqb, false≢true}
use Rattle.room_core.specs.declared.parts.Entry.{Entry}
use Rattle.room_core.specs.declared.parts.Session.{Session}
use Rattle.room_core.specs.declared.shape.Shape.{Shape}
use Rattle.room_core.specs.Checks.{other_entry}
use Rattle.room_core.specs.Gauges.{IsGaugeOf}
use Rattle.room_core.specs.Meetings.{is_live, live_entry, scanner_meets}
use Rattle.room_core.specs.Put.{put}
use Rattle.room_core.specs.Sound.{IsEntry}
use Rattle.room_core.specs.State.{Scanner}
use Rattle.room_core.proofs.Laws.{at_put, put_else, put_here}
use Rattle.purgatory.specs.scans.Checked.{without_entry}
use Rattle.purgatory.specs.scans.ShardKeeps.{AreEntries, gauge_of_key}

two : (b : Bool) → (b ≡ true) ⊎ (b ≡ false)
two true = inl refl
two false = inr refl

-- entries that are left

live_is : (b : Bool) (w : Session) (entry : Entry) (g : ℕ) → is_live w entry.generation ≡ b
    → IsEntry (if b then Some entry else None) g ↔ (IsEntry (Some entry) g × (is_live w g ≡ true))
live_is true w entry g e = (λ h. (h, subst (λ n. is_live w n ≡ true) h e), λ p. p.0)
live_is false w entry g e = (λ h. absurd h, λ p. absurd (false≢true (sym e ∙ ap (is_live w) p.0 ∙ p.1)))

live_entry_is : (w : Session) (o : Option Entry) (g : ℕ) → IsEntry (live_entry w o) g ↔ (IsEntry o g × (is_live w g ≡ true))
unfolding live_entry
live_entry_is w None g = (λ h. absurd h, λ p. absurd p.0)
live_entry_is w (Some entry) g = live_is (is_live w entry.generation) w entry g refl

cond_some : (b : Bool) (entry e : Entry) → (if b then Some entry else None) ≡ Some e → Some entry ≡ Some e
cond_some true entry e h = h
cond_some false entry e h = absurd (cc)

pub live_entry_some : (w : Session) (o : Option Entry) (e : Entry) → live_entry w o ≡ Some e → o ≡ Some e
unfolding live_entry
live_entry_some w None e h = h
live_entry_some w (Some entry) e h = cond_some (is_live w entry.generation) entry e h

other_is : (b : Bool) (entry : Entry) (generation g : ℕ) → (entry.generation == generation) ≡ b
    → IsEntry (if b then None else Some entry) g ↔ (IsEntry (Some entry) g × (g ≢ generation))
other_is true entry generation g e = (λ h. absurd h, λ p. absurd (p.1 (sym p.0 ∙ eqb-true _ _ e)))
other_is false entry generation g e = (λ h. (h, λ is. absurd (false≢true (sym e ∙ eq-eqb _ _ (h ∙ is)))), λ p. p.0)

other_entry_is : (o : Option Entry) (generation g : ℕ) → IsEntry (other_entry o generation) g ↔ (IsEntry o g × (g ≢ generation))
unfolding other_entry
other_entry_is None generation g = (λ h. absurd h, λ p. absurd p.0)
other_entry_is (Some entry) generation g = other_is (entry.generation == generation) entry generation g refl

cond_other : (b : Bool) (entry e : Entry) → (if b then None else Some entry) ≡ Some e → Some entry ≡ Some e
cond_other true entry e h = absurd (cc)
cond_other false entry e h = h

other_entry_some : (o : Option Entry) (generation : ℕ) (e : Entry) → other_entry o generation ≡ Some e → o ≡ Some e
unfolding other_entry
other_entry_some None generation e h = h
other_entry_some (Some entry) generation e h = cond_other (entry.generation == generation) entry e h

-- the same, said of an equal listing

pub entries_same : (shape : Shape) (k : ℕ) (listed : ℕ → ℕ → ℕ → Type 0) (s t : Scanner) → AreEntries shape k listed s → t.listing ≡ s.listing → AreEntries shape k listed t
entries_same shape k listed s t a e = record {
  each = λ key pass g. subst (λ (l : ℕ → ℕ → Option Entry). listed key pass g ↔ IsEntry (l (gauge_of_key k key) pass) g) (sym e) (a.each key pass g);
  own = λ gauge pass entry h. a.own gauge pass entry (ap (λ (l : ℕ → ℕ → Option Entry). l gauge pass) (sym e) ∙ h);
}

pub entries_by : (shape : Shape) (k : ℕ) (listed other : ℕ → ℕ → ℕ → Type 0) (s : Scanner) → ((key pass g : ℕ) → other key pass g ↔ listed key pass g)
    → AreEntries shape k listed s → AreEntries shape k other s
entries_by shape k listed other s same a = record {
  each = λ key pass g. (λ h. (a.each key pass g).0 ((same key pass g).0 h), λ h. (same key pass g).1 ((a.each key pass g).1 h));
  own = a.own;
}

-- a meeting leaves of the pass what is live
pub entries_met : (shape : Shape) (k : ℕ) (listed : ℕ → ℕ → ℕ → Type 0) (s : Scanner) (pass : ℕ) (w : Session) → AreEntries shape k listed s
    → AreEntries shape k (λ key p g. listed key p g × (p ≡ pass → is_live w g ≡ true)) (scanner_meets s pass w)
entries_met shape k listed s pass w a = record {
  each = λ key p g.
      let row = s.listing (gauge_of_key k key) in
      at_put row pass (live_entry w (row pass)) (λ q (o : Option Entry). (listed key q g × (q ≡ pass → is_live w g ≡ true)) ↔ IsEntry o g) (
        λ h. (live_entry_is w (row pass) g).1 ((a.each key pass g).0 h.0, h.1 refl),
        λ h. let both = (live_entry_is w (row pass) g).0 h in ((a.each key pass g).1 both.0, λ e. both.1),
      )
      (λ q n. (λ h. (a.each key q g).0 h.0, λ h. ((a.each key q g).1 h, λ e. absurd (n e))))
      p;
  own = λ gauge p entry.
      at_put (s.listing gauge) pass (live_entry w (s.listing gauge pass)) (λ q (o : Option Entry). o ≡ Some entry → IsGaugeOf shape k gauge)
      (λ h. a.own gauge pass entry (live_entry_some w (s.listing gauge pass) entry h))
      (λ q n h. a.own gauge q entry h)
      p;
}

key_apart : (k key other : ℕ) → key ≢ other → gauge_of_key k key ≢ gauge_of_key k other
key_apart k key other n e = n (omega (arith, e))

-- an entry more, in place of an older one
pub entries_marked : (shape : Shape) (k : ℕ) (listed more : ℕ → ℕ → ℕ → Type 0) (s t : Scanner) (key pass : ℕ) (entry : Entry)
    → IsGaugeOf shape k (gauge_of_key k key)
    → ((g : ℕ) → more key pass g ↔ (g ≡ entry.generation))
    → ((i p g : ℕ) → (i ≡ key → p ≢ pass) → more i p g ↔ listed i p g)
    → t.listing ≡ put s.listing (gauge_of_key k key) (put (s.listing (gauge_of_key k key)) pass (Some entry))
    → AreEntries shape k listed s → AreEntries shape k more t
entries_marked shape k listed more s t key pass entry own here others is a =
    let gauge = gauge_of_key k key in
    let row = put (s.listing gauge) pass (Some entry) in
    record {
      each = λ i p g.
          subst (λ (l : ℕ → ℕ → Option Entry). more i p g ↔ IsEntry (l (gauge_of_key k i) p) g) (sym is)
          (⊎_elim
          (λ (e : i ≡ key).
          subst (λ j. more j p g ↔ IsEntry (put s.listing gauge row (gauge_of_key k j) p) g) (sym e)
          (subst (λ (r : ℕ → Option Entry). more key p g ↔ IsEntry (r p) g) (sym (put_here s.listing gauge row))
          (at_put (s.listing gauge) pass (Some entry) (λ q (o : Option Entry). more key q g ↔ IsEntry o g)
          (λ h. sym ((here g).0 h), λ h. (here g).1 (sym h))
          (λ q n. (λ h. (a.each key q g).0 ((others key q g (λ same. n)).0 h), λ h. (others key q g (λ same. n)).1 ((a.each key q g).1 h)))
          p)))
          (λ (n : i ≢ key).
          subst (λ (r : ℕ → Option Entry). more i p g ↔ IsEntry (r p) g) (sym (put_else s.listing gauge row (gauge_of_key k i) (key_apart k i key n)))
          (λ h. (a.each i p g).0 ((others i p g (λ same. absurd (n same))).0 h), λ h. (others i p g (λ same. absurd (n same))).1 ((a.each i p g).1 h)))
          (cases_eq i key));
      own = λ j p e h.
          at_put s.listing gauge row (λ q (r : ℕ → Option Entry). r p ≡ Some e → IsGaugeOf shape k q)
          (λ g. own)
          (λ q n g. a.own q p e g)
          j
          (ap (λ (l : ℕ → ℕ → Option Entry). l j p) (sym is) ∙ h);
    }

-- an entry less
pub entries_dropped : (shape : Shape) (k : ℕ) (listed less : ℕ → ℕ → ℕ → Type 0) (s t : Scanner) (key pass generation : ℕ)
    → ((i p g : ℕ) → less i p g ↔ (listed i p g × (i ≡ key → p ≡ pass → g ≢ generation)))
    → t.listing ≡ without_entry s (gauge_of_key k key) pass generation
    → AreEntries shape k listed s → AreEntries shape k less t
entries_dropped shape k listed less s t key pass generation are is a =
    let gauge = gauge_of_key k key in
    let row = put (s.listing gauge) pass (other_entry (s.listing gauge pass) generation) in
    record {
      each = λ i p g.
          subst (λ (l : ℕ → ℕ → Option Entry). less i p g ↔ IsEntry (l (gauge_of_key k i) p) g) (sym is)
          (⊎_elim
          (λ (e : i ≡ key).
          subst (λ j. less j p g ↔ IsEntry (put s.listing gauge row (gauge_of_key k j) p) g) (sym e)
          (subst (λ (r : ℕ → Option Entry). less key p g ↔ IsEntry (r p) g) (sym (put_here s.listing gauge row))
          (at_put (s.listing gauge) pass (other_entry (s.listing gauge pass) generation) (λ q (o : Option Entry). less key q g ↔ IsEntry o g) (
            λ h. let both = (are key pass g).0 h in (other_entry_is (s.listing gauge pass) generation g).1 ((a.each key pass g).0 both.0, both.1 refl refl),
            λ h. let both = (other_entry_is (s.listing gauge pass) generation g).0 h in (are key pass g).1 ((a.each key pass g).1 both.0, λ x y. both.1),
          )
          (λ q n. (λ h. (a.each key q g).0 ((are key q g).0 h).0, λ h. (are key q g).1 ((a.each key q g).1 h, λ x y. absurd (n y))))
          p)))
          (λ (n : i ≢ key).
          subst (λ (r : ℕ → Option Entry). less i p g ↔ IsEntry (r p) g) (sym (put_else s.listing gauge row (gauge_of_key k i) (key_apart k i key n)))
          (λ h. (a.each i p g).0 ((are i p g).0 h).0, λ h. (are i p g).1 ((a.each i p g).1 h, λ x y. absurd (n x))))
          (cases_eq i key));
      own = λ j p e h.
          at_put s.listing gauge row (λ q (r : ℕ → Option Entry). r p ≡ Some e → IsGaugeOf shape k q)
          (at_put (s.listing gauge) pass (other_entry (s.listing gauge pass) generation) (λ q (o : Option Entry). o ≡ Some e → IsGaugeOf shape k gauge)
          (λ g. a.own gauge pass e (other_entry_some (s.listing gauge pass) generation e g))
          (λ q n g. a.own gauge q e g)
          p)
          (λ q n g. a.own q p e g)
          j
          (ap (λ (l : ℕ → ℕ → Option Entry). l j p) (sym is) ∙ h);
    }
