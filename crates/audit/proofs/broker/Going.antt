-- Histories that go on, and what holds in every account that goes on from them.
use Rattle.std.proofs.Common.{◌≡◌, ℕ, ◌+◌, List, [], ◌∷◌, ◌++◌, length, take, set, Some, refl, sym, ap, subst, ◌∙◌, inl, inr, append_assoc, append-nil, length-append}
use Rattle.std.proofs.Math.Seq.{take-append_seam}
use Rattle.std.proofs.lemmas.Option.{slice_get_within}
use Rattle.std.specs.Prelude.{slice_get}
use Rattle.partlog.specs.declared.clock_event.ClockEvent.{ClockEvent}
use Rattle.partlog.specs.declared.clock_event.ClockEvent.TheVariants as clocks
use Rattle.partlog.specs.History.{History}
use Rattle.partlog.specs.Moment.{moment_of}
use Rattle.audit.specs.declared.account.Account.{Account}
use Rattle.audit.specs.declared.account.Point.{Point}
use Rattle.audit.specs.Histories.{clock_part, history_of, moment_at}
use Rattle.audit.specs.LawfulCall.{IsClockLook}
use Rattle.kbytes.proofs.Laws.{same_or_not, get_set_same, get_set_other, get_seam, some_is}
use Rattle.kwire.specs.Configuration.{Configuration}
use Rattle.audit.proofs.broker.Growth.{longer_self, longer_on}
pub use Rattle.audit.specs.broker.GoesOn.{Longer, AllLonger, HaveGrown, GoesOn, Carried}

-- ---- histories

pub all_longer_self : (parts : List History) → AllLonger parts parts
all_longer_self parts p h e = (h, e, longer_self h)

pub all_longer_on : (a b c : List History) → AllLonger a b → AllLonger b c → AllLonger a c
all_longer_on a b c f g p h e =
    let l = f p h e in
    let m = g p l.0 l.1 in
    (m.0, m.1, longer_on h l.0 m.0 l.2 m.2)

-- one history goes on
pub set_longer : (parts : List History) (p : ℕ) (h later : History) → slice_get parts p ≡ Some h → Longer h later → AllLonger parts (set parts p later)
set_longer parts p h later there longer q k e =
    elim (same_or_not q p) [
      | inl same ↦
          let is : h ≡ k = some_is h k (sym there ∙ sym (ap (slice_get parts) same) ∙ e) in
          (later, ap (slice_get (set parts p later)) same ∙ get_set_same parts p later (slice_get_within parts p h there), subst (λ (x : History). Longer x later) is longer)
      | inr other ↦ (k, get_set_other parts p q later other ∙ e, longer_self k)
    ]

-- ---- histories and the clock

pub grown_self : (parts : List History) (clock : List ClockEvent) → HaveGrown parts clock parts clock
grown_self parts clock = record { each = all_longer_self parts; more = []; events = sym (append-nil clock) }

pub grown_parts : (parts later : List History) (clock : List ClockEvent) → AllLonger parts later → HaveGrown parts clock later clock
grown_parts parts later clock longer = record { each = longer; more = []; events = sym (append-nil clock) }

pub grown_clock : (parts later : List History) (clock : List ClockEvent) (event : ClockEvent) → AllLonger parts later → HaveGrown parts clock later (clock ++ event ∷ [])
grown_clock parts later clock event longer = record { each = longer; more = event ∷ []; events = refl }

-- an account that goes on from later histories goes on from the earlier ones
pub goes_back : (config : Configuration) (parts later : List History) (clock behind : List ClockEvent) (account : Account) → HaveGrown parts clock later behind
    → GoesOn config later behind account → GoesOn config parts clock account
goes_back config parts later clock behind account grown on = record {
  same = on.same;
  follows = λ p h e.
      let l = grown.each p h e in
      let f = on.follows p l.0 l.1 in
      (f.0, f.1, longer_on h l.0 (history_of f.0) l.2 f.2);
  more = grown.more ++ on.more;
  events = on.events ∙ ap (λ (events : List ClockEvent). events ++ on.more) grown.events ∙ append_assoc clock grown.more on.more;
}

-- so what was carried is carried on
pub carried_on : (config : Configuration) (parts later : List History) (clock behind : List ClockEvent) (P : Account → Type 0) → HaveGrown parts clock later behind
    → Carried config parts clock P → Carried config later behind P
carried_on config parts later clock behind P grown holds account on = holds account (goes_back config parts later clock behind account grown on)

-- ---- a look at the clock

-- the point of the entry that comes next
abbrev pub clock_point : List ClockEvent → Point
clock_point clock = record { part = clock_part; place = length clock }

pub clock_looked : (config : Configuration) (parts : List History) (clock : List ClockEvent) (by seq : ℕ) (account : Account) → GoesOn config parts (clock ++ clocks.Look by seq ∷ []) account
    → IsClockLook account (clock_point clock)
clock_looked config parts clock by seq account on =
    let event : ClockEvent = clocks.Look by seq in
    let is : account.clock ≡ clock ++ event ∷ on.more = on.events ∙ append_assoc clock (event ∷ []) on.more in
    (refl, by, seq, ap (λ (events : List ClockEvent). slice_get events (length clock)) is ∙ get_seam clock on.more event)

-- the moment there is that of the clock as it was left
pub clock_moment : (config : Configuration) (parts : List History) (clock : List ClockEvent) (event : ClockEvent) (account : Account) → GoesOn config parts (clock ++ event ∷ []) account
    → moment_at account (clock_point clock) ≡ moment_of (clock ++ event ∷ [])
clock_moment config parts clock event account on =
    let size : length clock + 1 ≡ length (clock ++ event ∷ []) = sym (length-append clock (event ∷ [])) in
    ap (λ (n : ℕ). moment_of (take n account.clock)) size
    ∙ ap (λ (events : List ClockEvent). moment_of (take (length (clock ++ event ∷ [])) events)) on.events
    ∙ ap moment_of (take-append_seam (clock ++ event ∷ []) on.more)
