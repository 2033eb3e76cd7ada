-- Histories that go on keep the owners of their entries, and the account that is read off histories goes on from them.
use Rattle.std.proofs.Common.{◌≡◌, ℕ, ◌<◌, Bool, true, false, cond, eqb, List, [], ◌++◌, length, map, Option, Some, None, refl, sym, ap, ◌∙◌, append-nil}
use Rattle.std.proofs.lemmas.List.{length-map, map-append}
use Rattle.std.specs.Prelude.{slice_get}
use Rattle.partlog.specs.declared.clock_event.ClockEvent.{ClockEvent}
use Rattle.partlog.specs.History.{History}
use Rattle.audit.specs.declared.account.Account.{Account}
use Rattle.audit.specs.declared.account.PartAccount.{PartAccount}
use Rattle.audit.specs.Histories.{Owner, owner_of, clock_owner_of, owners_of, owners_in}
use Rattle.kbytes.proofs.Laws.{get_front, get_within}
use Rattle.kwire.specs.Configuration.{Configuration}
use Rattle.audit.specs.Histories.{part_account}
use Rattle.audit.specs.broker.GoesOn.{GoesOn, HaveGrown}
use Rattle.audit.specs.broker.Kept.{owners_here, owners_at}
use Rattle.audit.specs.broker.Sound.{AreHistories}
use Rattle.audit.proofs.broker.Laws.{longer_self, map_get, owned_here}

-- ---- who left the entries

-- the owners of longer histories begin with those of the shorter ones
pub owners_grown : (parts later : List History) (clock behind : List ClockEvent) → HaveGrown parts clock later behind → (part : ℕ)
    → (more : List (Option Owner)) × (owners_at later behind part ≡ owners_at parts clock part ++ more)
owners_grown parts later clock behind grown part = by_test (eqb part 64) (slice_get parts part) refl
  where
    by_test : (b : Bool) (o : Option History) → slice_get parts part ≡ o
        → (more : List (Option Owner)) × (cond b (map clock_owner_of behind) (owners_here (slice_get later part)) ≡ cond b (map clock_owner_of clock) (owners_here o) ++ more)
    by_test true o is = (map clock_owner_of grown.more, ap (map clock_owner_of) grown.events ∙ map-append clock_owner_of clock grown.more)
    by_test false None is = (owners_here (slice_get later part), refl)
    by_test false (Some h) is =
        let l = grown.each part h is in
        (map owner_of l.2.more, ap owners_here l.1 ∙ ap (map owner_of) l.2.events ∙ map-append owner_of h.events l.2.more)

module _ (parts later : List History) (clock behind : List ClockEvent) (grown : HaveGrown parts clock later behind) where
  -- an owner that was seen stands
  pub owner_stands : (part place : ℕ) (o : Option Owner) → slice_get (owners_at parts clock part) place ≡ Some o → slice_get (owners_at later behind part) place ≡ Some o
  owner_stands part place o e =
      let g = owners_grown parts later clock behind grown part in
      ap (λ (os : List (Option Owner)). slice_get os place) g.1 ∙ get_front (owners_at parts clock part) g.0 place o e

  -- and one within what was seen was seen
  pub owner_seen : (part place : ℕ) (o : Option Owner) → place < length (owners_at parts clock part) → slice_get (owners_at later behind part) place ≡ Some o
      → slice_get (owners_at parts clock part) place ≡ Some o
  owner_seen part place o lt e =
      let g = owners_grown parts later clock behind grown part in
      sym (get_within (owners_at parts clock part) g.0 place lt) ∙ sym (ap (λ (os : List (Option Owner)). slice_get os place) g.1) ∙ e

-- ---- as many histories as the configuration has partitions

pub as_many : (config : Configuration) (parts later : List History) (clock behind : List ClockEvent) → AreHistories config parts clock → AreHistories config later behind → length later ≡ length parts
as_many config parts later clock behind h l =
    sym (length-map later (λ (k : History). k.followers)) ∙ ap length (l.followers ∙ sym h.followers) ∙ length-map parts (λ (k : History). k.followers)

-- ---- an account whose parts are these histories

pub account_goes_on : (config : Configuration) (parts : List History) (clock : List ClockEvent) (account : Account) → account.config ≡ config → account.parts ≡ map part_account parts → account.clock ≡ clock
    → GoesOn config parts clock account
account_goes_on config parts clock account same is at = record {
  same = same;
  follows = λ p k e. (part_account k, ap (λ (ps : List PartAccount). slice_get ps p) is ∙ map_get part_account parts p k e, longer_self k);
  more = [];
  events = at ∙ sym (append-nil clock);
}

pub owners_same : (parts : List History) (account : Account) → account.parts ≡ map part_account parts → (p : ℕ) → owners_of account p ≡ owners_at parts account.clock p
owners_same parts account is p =
    ap (λ (ps : List PartAccount). cond (eqb p 64) (map clock_owner_of account.clock) (owners_in (slice_get ps p))) is
    ∙ ap (λ (xs : List (Option Owner)). cond (eqb p 64) (map clock_owner_of account.clock) xs) (owned_here parts p)
