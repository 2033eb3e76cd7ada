-- What becomes of a partition of a fetch.
use Rattle.std.proofs.Common.{◌≡◌, ◌⊎◌, ℕ, ◌<◌, ◌≤◌, ℤ, pos, negsuc, Bool, true, false, cond, ltb, ◌&&◌, length, refl, sym, ap, subst, ◌∙◌, arith, inl, inr}
use Rattle.std.proofs.lemmas.Bool.{lt-ltb, le-ltb, le-leb}
use Rattle.std.proofs.lemmas.Bool.Decides.{leb_tells}
use Rattle.std.proofs.lemmas.Int.{ints}
use Rattle.std.specs.Prelude.{nat_lt, nat_le, ◌≤ℤ◌}
use lib.Dec.{T}
use lib.Signed.{le_z}
use Rattle.partlog.specs.Added.{log_end_of}
use Rattle.partlog.specs.Follower.{IsFollower}
use Rattle.partlog.specs.Followed.{followed}
use Rattle.partlog.specs.History.{History}
use Rattle.partlog.specs.InRange.{IsInRange}
use Rattle.partlog.specs.State.{PartState, state_of}
use Rattle.partlog.specs.Start.{start_of}
use Rattle.kwire.specs.declared.request.FetchPart.{FetchPart}
use Rattle.kanswer.specs.declared.accepted.Accepted.TheVariants.{Refused, Seen}
use Rattle.kanswer.specs.Decisions.{Entry, Looked, Followed, Outcome, look, offset_of, fetch_outcome, in_range_outcome}
use Rattle.kanswer.specs.WithEntry.{entered}
use Rattle.kanswer.specs.declared.entered.Entered.{Entered}
use Rattle.kanswer.specs.Entered.{HasEntered}

pub not_below : (z : ℤ) → pos 0 ≤ℤ z → (n : ℕ) × (z ≡ pos n)
not_below (pos n) h = (n, refl)
not_below (negsuc n) h = absurd h.le

pub above : (z : ℤ) → le_z (pos 0) z ≡ true → pos 0 ≤ℤ z
above z e = record { le = told (le_z (pos 0) z) e }
  where
    told : (b : Bool) → b ≡ true → T b
    told true e = tt
    told false e = absurd cc

pub negative : (z : ℤ) → le_z (pos 0) z ≡ false → (n : ℕ) × (z ≡ negsuc n)
negative (pos n) e = absurd (grind (arith, ints))
negative (negsuc n) e = (n, refl)

-- the same outcome
pub entered_alike : (by seq t : ℕ) (outcome other : PartState → Outcome) (h after : History) (came : Entered) → outcome (state_of h) ≡ other (state_of h)
    → HasEntered by seq t outcome h after came → HasEntered by seq t other h after came
entered_alike by seq t outcome other h after came same e = record {
  history = e.history ∙ ap (λ (o : Outcome). entered h by seq t o.entry) same;
  became = e.became ∙ ap (λ (o : Outcome). o.result) same;
  place = e.place;
  carriable = e.carriable;
}

pub consumes : (followers part : ℕ) (replica : ℤ) (n : ℕ) (asked : FetchPart) (state : PartState) → replica ≡ negsuc n → in_range_outcome part asked.offset Looked state ≡ fetch_outcome followers replica asked part state
consumes followers part replica n asked state is = sym (ap (λ (r : ℤ). fetch_outcome followers r asked part state) is)

-- ---- an offset, which is out of range or not

pub out_of_range : (part : ℕ) (offset : ℤ) (entry : Entry) (state : PartState) (end : ℕ) → end ≡ state.log_end → ((at : ℕ) → offset ≡ pos at → end < at) → in_range_outcome part offset entry state ≡ look (Refused (pos 1))
out_of_range part (negsuc n) entry state end ends outside = refl
out_of_range part (pos at) entry state end ends outside =
    let yes : ltb state.log_end at ≡ true = lt-ltb state.log_end at (omega (arith, ends, outside at refl)) in
    ap (λ (b : Bool). cond b (look (Refused (pos 1))) (record { result = Seen part (start_of at state); entry = entry })) yes

pub in_range : (part : ℕ) (offset : ℤ) (entry : Entry) (state : PartState) (end at start : ℕ) → end ≡ state.log_end → offset ≡ pos at → at ≤ end → start ≡ start_of at state
    → in_range_outcome part offset entry state ≡ record { result = Seen part start; entry = entry }
in_range part offset entry state end at start ends is le starts =
    let no : ltb state.log_end at ≡ false = le-ltb state.log_end at (omega (arith, ends, le)) in
    ap (λ (z : ℤ). in_range_outcome part z entry state) is
    ∙ ap (λ (b : Bool). cond b (look (Refused (pos 1))) (record { result = Seen part (start_of at state); entry = entry })) no
    ∙ ap (λ (s : ℕ). let o : Outcome = record { result = Seen part s; entry = entry } in o) (sym starts)

-- ---- a replica, which is a follower or not

pub follower_or_not : (replica : ℤ) (followers : ℕ) → IsFollower replica followers ⊎ (IsFollower replica followers → ⊥)
follower_or_not (negsuc n) followers = inr (λ no. no)
follower_or_not (pos r) followers =
    elim (leb_tells r 0) [
      | inl none ↦ inr (λ is. absurd (omega (arith, none.1, is.0)))
      | inr some ↦ elim (leb_tells r followers) [
        | inl few ↦ inl (omega (arith, some.1), few.1)
        | inr many ↦ inr (λ is. absurd (omega (arith, many.1, is.1)))
      ]
    ]

pub range_or_not : (offset : ℤ) (end : ℕ) → IsInRange offset end ⊎ (IsInRange offset end → ⊥)
range_or_not (negsuc n) end = inr (λ no. no)
range_or_not (pos at) end = elim (leb_tells at end) [ inl le ↦ inl le.1 | inr lt ↦ inr (λ is. absurd (omega (arith, lt.1, is))) ]

-- where it can't be otherwise
pub follower_by : (replica : ℤ) (followers : ℕ) → ((IsFollower replica followers → ⊥) → ⊥) → IsFollower replica followers
follower_by replica followers twice = elim (follower_or_not replica followers) [ inl is ↦ is | inr never ↦ absurd (twice never) ]

pub range_by : (offset : ℤ) (end : ℕ) → ((IsInRange offset end → ⊥) → ⊥) → IsInRange offset end
range_by offset end twice = elim (range_or_not offset end) [ inl is ↦ is | inr never ↦ absurd (twice never) ]

abbrev follows : ℕ → ℕ → Bool
follows r followers = nat_lt 0 r && nat_le r followers

follows_is : (r followers : ℕ) → 0 < r → r ≤ followers → follows r followers ≡ true
follows_is r followers some few =
    let a : nat_lt 0 r ≡ true = lt-ltb 0 r some in
    let b : nat_le r followers ≡ true = le-leb r followers few in
    ap (λ (x : Bool). x && nat_le r followers) a ∙ b

follows_not : (r followers : ℕ) → (IsFollower (pos r) followers → ⊥) → follows r followers ≡ false
follows_not r followers never =
    elim (leb_tells r 0) [
      | inl none ↦ let a : nat_lt 0 r ≡ false = le-ltb 0 r (omega (arith, none.1)) in ap (λ (x : Bool). x && nat_le r followers) a
      | inr some ↦ elim (leb_tells r followers) [
        | inl few ↦ absurd (never (omega (arith, some.1), few.1))
        | inr many ↦
            let a : nat_lt 0 r ≡ true = lt-ltb 0 r (omega (arith, some.1)) in
            ap (λ (x : Bool). x && nat_le r followers) a ∙ many.0
      ]
    ]

pub fetch_of_nobody : (followers part : ℕ) (replica : ℤ) (r : ℕ) (asked : FetchPart) (state : PartState) → replica ≡ pos r → (IsFollower replica followers → ⊥) → fetch_outcome followers replica asked part state ≡ look (Refused (pos 9))
fetch_of_nobody followers part replica r asked state is never =
    ap (λ (z : ℤ). fetch_outcome followers z asked part state) is
    ∙ ap (λ (b : Bool). cond b (in_range_outcome part asked.offset (Followed (pos r) (offset_of asked.offset)) state) (look (Refused (pos 9)))) (follows_not r followers (λ f. never (by_sign f)))
  where
    by_sign : IsFollower (pos r) followers → IsFollower replica followers
    by_sign f = subst (λ (z : ℤ). IsFollower z followers) (sym is) f

pub fetch_of_follower : (followers part : ℕ) (replica : ℤ) (r : ℕ) (asked : FetchPart) (state : PartState) → replica ≡ pos r → IsFollower replica followers
    → fetch_outcome followers replica asked part state ≡ in_range_outcome part asked.offset (Followed (pos r) (offset_of asked.offset)) state
fetch_of_follower followers part replica r asked state is f =
    let g : IsFollower (pos r) followers = subst (λ (z : ℤ). IsFollower z followers) is f in
    ap (λ (z : ℤ). fetch_outcome followers z asked part state) is
    ∙ ap (λ (b : Bool). cond b (in_range_outcome part asked.offset (Followed (pos r) (offset_of asked.offset)) state) (look (Refused (pos 9)))) (follows_is r followers g.0 g.1)

pub not_in_range : (part : ℕ) (offset : ℤ) (entry : Entry) (state : PartState) → (IsInRange offset state.log_end → ⊥) → in_range_outcome part offset entry state ≡ look (Refused (pos 1))
not_in_range part offset entry state never =
    out_of_range part offset entry state state.log_end refl (λ at is. elim (leb_tells at state.log_end) [
      | inl le ↦ absurd (never (subst (λ (z : ℤ). IsInRange z state.log_end) (sym is) le.1))
      | inr lt ↦ lt.1
    ])

-- a follower's fetch was entered
pub followed_entered : (by seq t part : ℕ) (replica : ℤ) (r : ℕ) (asked : FetchPart) (h after : History) (at start place : ℕ) → replica ≡ pos r → IsFollower replica h.followers → asked.offset ≡ pos at
    → IsInRange asked.offset (log_end_of h.events) → start ≡ start_of at (state_of h) → place ≡ length h.events → after ≡ followed h by seq replica at t
    → HasEntered by seq t (fetch_outcome h.followers replica asked part) h after (record { became = Seen part start; place = place })
followed_entered by seq t part replica r asked h after at start place is f off range starts placed follows =
    let le : at ≤ log_end_of h.events = subst (λ (z : ℤ). IsInRange z (log_end_of h.events)) off range in
    let entry : Followed (pos r) (offset_of asked.offset) ≡ Followed replica at = ap (λ (z : ℤ). Followed (pos r) (offset_of z)) off ∙ ap (λ (z : ℤ). Followed z at) (sym is) in
    let outcome : fetch_outcome h.followers replica asked part (state_of h) ≡ record { result = Seen part start; entry = Followed replica at } =
    fetch_of_follower h.followers part replica r asked (state_of h) is f
    ∙ in_range part asked.offset (Followed (pos r) (offset_of asked.offset)) (state_of h) (log_end_of h.events) at start refl off le starts
    ∙ ap (λ (x : Entry). let o : Outcome = record { result = Seen part start; entry = x } in o) entry in
    record {
      history = follows ∙ sym (ap (λ (o : Outcome). entered h by seq t o.entry) outcome);
      became = sym (ap (λ (o : Outcome). o.result) outcome);
      place = placed;
      carriable = tt;
    }
