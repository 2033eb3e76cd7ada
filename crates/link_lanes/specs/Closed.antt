-- A hall that is closed: its passes, taken apart, and what the port, the clock and the broker come to.
use Rattle.std.specs.Prelude.{◌≡◌, ◌≤◌, ◌⊎◌, ◌++◌, ℕ, Bool, true, List, [], ◌∷◌, All, map}
use Rattle.audit.specs.declared.account.Account.{Account}
use Rattle.shared_broker.specs.Closing.{IsAccountOf}
use Rattle.shared_broker.specs.Passes as broker
use Rattle.outside.specs.shared.clock.ClockViews as clock
use Rattle.outside.specs.declared.shared.port.port_entry.PortEntry.TheVariants.{Opened, Faulted}
use Rattle.outside.specs.shared.port.Closed.{IsClosed}
use Rattle.outside.specs.shared.port.History.{PortFacts}
use Rattle.outside.specs.shared.port.PortViews as port
use Rattle.link_lanes.specs.Gathered.{IsOver}
use Rattle.link_lanes.specs.Halls.{HallView, ServerView}

module _ {L : Type 0} where
  abbrev pub passes_of : List (ServerView L) → List broker.PassView
  passes_of servers = map (λ (server : ServerView L). server.pass) servers

  abbrev pub seats_of : List (ServerView L) → List clock.PassView
  seats_of servers = map (λ (server : ServerView L). server.seat) servers

  abbrev pub keys_of : List (ServerView L) → List (port.PassView L)
  keys_of servers = map (λ (server : ServerView L). server.key) servers

  -- the port, the clock and the broker were closed with all passes that there are
  pub record HaveClosed (hall : HallView) (servers : List (ServerView L)) (opener : port.PassView L) (account : Account) (facts : PortFacts L) (moment : ℕ) : Type 0 where
    pub port_is : IsClosed hall.port facts (keys_of servers ++ opener ∷ [])
    pub clock_is : All (λ (seat : clock.PassView). seat.told ≤ moment) (seats_of servers)
    pub broker_is : IsAccountOf hall.broker (passes_of servers) account

  -- the pass that opened the port under this number has entered nothing else; or the opening failed, and no server asked the port then
  abbrev pub HasOpened : ℕ → port.PassView L → List (ServerView L) → Type 0
  HasOpened number opener servers =
      (opener.own ≡ Opened opener.number number ∷ [])
      ⊎ ((opener.own ≡ Faulted opener.number ∷ []) × All (λ (server : ServerView L). server.key.own ≡ []) servers)

  -- Why no more links were asked for: as one of the servers saw the history, or since the opening failed.
  abbrev pub HasStopped : HallView → port.PassView L → Bool → List (ServerView L) → Type 0
  HasStopped hall opener failed servers = IsOver hall failed servers ⊎ ((failed ≡ true) × (opener.own ≡ Faulted opener.number ∷ []))
