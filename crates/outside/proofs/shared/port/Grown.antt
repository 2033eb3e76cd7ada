-- A port's history with one entry more.
use Rattle.std.proofs.Common.{◌≡◌, ◌∙◌, ◌≤◌, ◌<◌, ℕ, ◌+◌, Bool, true, false, ◌||◌, List, [], ◌∷◌, ◌++◌, Option, Some, None, ap, append-nil, arith, length, length-append, refl, subst, sym}
use Rattle.std.specs.Prelude.{IfSome}
use Rattle.std.specs.List.{last_or, range_with_len}
use Rattle.std.proofs.Math.Bool.{or-false}
use Rattle.std.proofs.lemmas.List.{map-id}
use Rattle.std.proofs.lemmas.List.Elements.{filter_map-append}
use Rattle.std.proofs.lemmas.List.Folds.{list_any-append}
use Rattle.std.proofs.lemmas.List.FromFn.{length-range_with_len, map-range_with_len_more}
use Rattle.outside.specs.Causes.{Rose}
use Rattle.outside.specs.Told.{Gains}
use Rattle.outside.specs.declared.shared.port.port_entry.PortEntry.{PortEntry}
use Rattle.outside.specs.declared.shared.port.port_entry.PortEntry.TheVariants.{Opened, Accepted, Ended, Faulted}
use Rattle.outside.specs.shared.port.Entries.{accepted, accepted_number, has_ended, has_faulted, is_end, is_fault, opened, opened_number, retired, retired_link}
use Rattle.outside.specs.shared.port.History.{IsHistory, PortFacts, Terms}

last_or_push : {A : Type 0} (o : Option A) (xs : List A) (x : A) → last_or o (xs ++ x ∷ []) ≡ Some x
last_or_push o [] x = refl
last_or_push o (y ∷ xs) x = last_or_push (Some y) xs x

module _ {L : Type 0} (es : List (PortEntry L)) (e : PortEntry L) where
  pub opened-push : opened (es ++ e ∷ []) ≡ opened es ++ opened (e ∷ [])
  opened-push = filter_map-append opened_number es (e ∷ [])

  pub accepted-push : accepted (es ++ e ∷ []) ≡ accepted es ++ accepted (e ∷ [])
  accepted-push = filter_map-append accepted_number es (e ∷ [])

  pub retired-push : retired (es ++ e ∷ []) ≡ retired es ++ retired (e ∷ [])
  retired-push = filter_map-append retired_link es (e ∷ [])

  pub has_ended-push : has_ended (es ++ e ∷ []) ≡ (has_ended es || has_ended (e ∷ []))
  has_ended-push = list_any-append is_end es (e ∷ [])

  pub has_faulted-push : has_faulted (es ++ e ∷ []) ≡ (has_faulted es || has_faulted (e ∷ []))
  has_faulted-push = list_any-append is_fault es (e ∷ [])

  -- an entry of another kind
  module _ where
    pub opened_same : opened (e ∷ []) ≡ [] → opened (es ++ e ∷ []) ≡ opened es
    opened_same none = opened-push ∙ ap (λ l. opened es ++ l) none ∙ append-nil (opened es)

    pub accepted_same : accepted (e ∷ []) ≡ [] → accepted (es ++ e ∷ []) ≡ accepted es
    accepted_same none = accepted-push ∙ ap (λ l. accepted es ++ l) none ∙ append-nil (accepted es)

    pub retired_same : retired (e ∷ []) ≡ [] → retired (es ++ e ∷ []) ≡ retired es
    retired_same none = retired-push ∙ ap (λ l. retired es ++ l) none ∙ append-nil (retired es)

    pub has_ended_same : has_ended (e ∷ []) ≡ false → has_ended (es ++ e ∷ []) ≡ has_ended es
    has_ended_same none = has_ended-push ∙ ap (λ b. has_ended es || b) none ∙ or-false (has_ended es)

    pub has_faulted_same : has_faulted (e ∷ []) ≡ false → has_faulted (es ++ e ∷ []) ≡ has_faulted es
    has_faulted_same none = has_faulted-push ∙ ap (λ b. has_faulted es || b) none ∙ or-false (has_faulted es)

or_true : (b : Bool) → (b || true) ≡ true
or_true true = refl
or_true false = refl

module _ {L : Type 0} (es : List (PortEntry L)) where
  pub has_ended_now : (by : ℕ) → has_ended (es ++ Ended by ∷ []) ≡ true
  has_ended_now by = has_ended-push es (Ended by) ∙ or_true (has_ended es)

  pub has_faulted_now : (by : ℕ) → has_faulted (es ++ Faulted by ∷ []) ≡ true
  has_faulted_now by = has_faulted-push es (Faulted by) ∙ or_true (has_faulted es)

rose_still : (before old new : ℕ) → old ≤ new → Rose before old → Rose before new
rose_still before old new later rose = omega (arith, later, rose)

range_push : (n : ℕ) → range_with_len 0 (n + 1) ≡ range_with_len 0 n ++ n ∷ []
range_push n = sym (map-id (range_with_len 0 (n + 1))) ∙ map-range_with_len_more (λ k. k) 0 n n (omega arith) ∙ ap (λ l. l ++ n ∷ []) (map-id (range_with_len 0 n))

-- as many were given as are entered
pub given_is : {L : Type 0} (terms : Terms) (port : PortFacts L) (es : List (PortEntry L)) → IsHistory terms port es → length (accepted es) ≡ port.given
given_is terms port es was = ap length was.numbers ∙ length-range_with_len 0 port.given

module _ {L : Type 0} (terms : Terms) (old new : PortFacts L) (es : List (PortEntry L)) (was : IsHistory terms old es) where
  pub opened_more : (by number : ℕ) → new.opened_with ≡ Some number → new.given ≡ old.given → new.is_ended ≡ old.is_ended → new.retired_count ≡ old.retired_count → new.retired ≡ old.retired → old.faults ≤ new.faults
      → IsHistory terms new (es ++ Opened by number ∷ [])
  opened_more by number is_opened given ended count links later =
      let e : PortEntry L = Opened by number in
      let before = was.later in
      record {
        opened = is_opened ∙ sym (last_or_push None (opened es) number) ∙ sym (ap (last_or None) (opened-push es e));
        numbers = accepted_same es e refl ∙ was.numbers ∙ ap (range_with_len 0) (sym given);
        limit = let limit = was.limit in omega (arith, given, limit);
        ended = ended ∙ was.ended ∙ sym (has_ended_same es e refl);
        count = count ∙ was.count ∙ sym (ap length (retired_same es e refl));
        links = subst (λ (r : Option (List (ℕ × L))). IfSome r (λ l. l ≡ retired (es ++ e ∷ []))) (sym links) (subst (λ (x : List (ℕ × L)). IfSome old.retired (λ l. l ≡ x)) (sym (retired_same es e refl)) was.links);
        later = omega (arith, before, later);
        cause = λ faulted. rose_still terms.before old.faults new.faults later (was.cause (sym (has_faulted_same es e refl) ∙ faulted));
      }

  pub faulted_more : (by : ℕ) → new.opened_with ≡ old.opened_with → new.given ≡ old.given → new.is_ended ≡ old.is_ended → new.retired_count ≡ old.retired_count → new.retired ≡ old.retired → Rose old.faults new.faults → old.faults ≤ new.faults
      → IsHistory terms new (es ++ Faulted by ∷ [])
  faulted_more by is_opened given ended count links rose later =
      let e : PortEntry L = Faulted by in
      let before = was.later in
      record {
        opened = is_opened ∙ was.opened ∙ sym (ap (last_or None) (opened_same es e refl));
        numbers = accepted_same es e refl ∙ was.numbers ∙ ap (range_with_len 0) (sym given);
        limit = let limit = was.limit in omega (arith, given, limit);
        ended = ended ∙ was.ended ∙ sym (has_ended_same es e refl);
        count = count ∙ was.count ∙ sym (ap length (retired_same es e refl));
        links = subst (λ (r : Option (List (ℕ × L))). IfSome r (λ l. l ≡ retired (es ++ e ∷ []))) (sym links) (subst (λ (x : List (ℕ × L)). IfSome old.retired (λ l. l ≡ x)) (sym (retired_same es e refl)) was.links);
        later = omega (arith, before, later);
        cause = λ faulted. omega (arith, before, rose);
      }

  pub ended_more : (by : ℕ) → new.opened_with ≡ old.opened_with → new.given ≡ old.given → new.is_ended ≡ true → new.retired_count ≡ old.retired_count → new.retired ≡ old.retired → old.faults ≤ new.faults
      → IsHistory terms new (es ++ Ended by ∷ [])
  ended_more by is_opened given ended count links later =
      let e : PortEntry L = Ended by in
      let before = was.later in
      record {
        opened = is_opened ∙ was.opened ∙ sym (ap (last_or None) (opened_same es e refl));
        numbers = accepted_same es e refl ∙ was.numbers ∙ ap (range_with_len 0) (sym given);
        limit = let limit = was.limit in omega (arith, given, limit);
        ended = ended ∙ sym (has_ended_now es by);
        count = count ∙ was.count ∙ sym (ap length (retired_same es e refl));
        links = subst (λ (r : Option (List (ℕ × L))). IfSome r (λ l. l ≡ retired (es ++ e ∷ []))) (sym links) (subst (λ (x : List (ℕ × L)). IfSome old.retired (λ l. l ≡ x)) (sym (retired_same es e refl)) was.links);
        later = omega (arith, before, later);
        cause = λ faulted. rose_still terms.before old.faults new.faults later (was.cause (sym (has_faulted_same es e refl) ∙ faulted));
      }

  -- the next number
  pub numbers_more : (by : ℕ) → accepted (es ++ Accepted by old.given ∷ []) ≡ range_with_len 0 (old.given + 1)
  numbers_more by = accepted-push es (Accepted by old.given) ∙ ap (λ (l : List ℕ). l ++ old.given ∷ []) was.numbers ∙ sym (range_push old.given)

  pub accepted_more : (by : ℕ) → old.given < terms.most → new.opened_with ≡ old.opened_with → new.given ≡ old.given + 1 → new.is_ended ≡ old.is_ended → new.retired_count ≡ old.retired_count → new.retired ≡ old.retired → old.faults ≤ new.faults
      → IsHistory terms new (es ++ Accepted by old.given ∷ [])
  accepted_more by room is_opened given ended count links later =
      let e : PortEntry L = Accepted by old.given in
      let before = was.later in
      record {
        opened = is_opened ∙ was.opened ∙ sym (ap (last_or None) (opened_same es e refl));
        numbers = numbers_more by ∙ ap (range_with_len 0) (sym given);
        limit = omega (arith, given, room);
        ended = ended ∙ was.ended ∙ sym (has_ended_same es e refl);
        count = count ∙ was.count ∙ sym (ap length (retired_same es e refl));
        links = subst (λ (r : Option (List (ℕ × L))). IfSome r (λ l. l ≡ retired (es ++ e ∷ []))) (sym links) (subst (λ (x : List (ℕ × L)). IfSome old.retired (λ l. l ≡ x)) (sym (retired_same es e refl)) was.links);
        later = omega (arith, before, later);
        cause = λ faulted. rose_still terms.before old.faults new.faults later (was.cause (sym (has_faulted_same es e refl) ∙ faulted));
      }

links_more : {L : Type 0} (old new : Option (List (ℕ × L))) (x : ℕ × L) (ls ms : List (ℕ × L)) → ms ≡ ls ++ x ∷ [] → Gains old new x → IfSome old (λ l. l ≡ ls) → IfSome new (λ l. l ≡ ms)
links_more None None x ls ms more gains were = tt
links_more None (Some ys) x ls ms more gains were = absurd gains
links_more (Some xs) None x ls ms more gains were = absurd gains
links_more (Some xs) (Some ys) x ls ms more gains were = gains ∙ ap (λ l. l ++ x ∷ []) were ∙ sym more

module _ {L : Type 0} (terms : Terms) (old new : PortFacts L) (es : List (PortEntry L)) (was : IsHistory terms old es) where
  -- a link came back, as is entered
  pub retired_more : (e : PortEntry L) (link : ℕ × L) → retired (e ∷ []) ≡ link ∷ [] → opened (e ∷ []) ≡ [] → accepted (e ∷ []) ≡ [] → has_ended (e ∷ []) ≡ false → has_faulted (e ∷ []) ≡ false
      → new.opened_with ≡ old.opened_with → new.given ≡ old.given → new.is_ended ≡ old.is_ended → new.retired_count ≡ old.retired_count + 1 → Gains old.retired new.retired link → new.faults ≡ old.faults
      → IsHistory terms new (es ++ e ∷ [])
  retired_more e link is_link not_opened not_accepted not_ended not_faulted is_opened given ended count links faults =
      let before = was.later in
      let more : retired (es ++ e ∷ []) ≡ retired es ++ link ∷ [] = retired-push es e ∙ ap (λ l. retired es ++ l) is_link in
      let longer : length (retired (es ++ e ∷ [])) ≡ length (retired es) + 1 = ap length more ∙ length-append (retired es) (link ∷ []) in
      let counted = was.count in
      record {
        opened = is_opened ∙ was.opened ∙ sym (ap (last_or None) (opened_same es e not_opened));
        numbers = accepted_same es e not_accepted ∙ was.numbers ∙ ap (range_with_len 0) (sym given);
        limit = let limit = was.limit in omega (arith, given, limit);
        ended = ended ∙ was.ended ∙ sym (has_ended_same es e not_ended);
        count = omega (arith, count, counted, longer);
        links = links_more old.retired new.retired link (retired es) (retired (es ++ e ∷ [])) more links was.links;
        later = omega (arith, before, faults);
        cause = λ faulted. subst (λ (n : ℕ). Rose terms.before n) (sym faults) (was.cause (sym (has_faulted_same es e not_faulted) ∙ faulted));
      }
