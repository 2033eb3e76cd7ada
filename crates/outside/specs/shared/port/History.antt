-- What a port says of itself, and the history that says the same.
use Rattle.std.specs.Prelude.{◌≡◌, ◌≤◌, ℕ, Bool, true, false, List, length, Option, None, IfSome}
use Rattle.std.specs.List.{last_or, range_with_len}
use Rattle.outside.specs.Causes.{Rose}
use Rattle.outside.specs.Told.{IsBare}
use Rattle.outside.specs.declared.shared.port.port_entry.PortEntry.{PortEntry}
use Rattle.outside.specs.shared.port.Entries.{accepted, has_ended, has_faulted, opened, retired}

-- on what terms a port is shared: its count of faults as it was handed in, and the most links that it may give
pub record Terms : Type 0 where
  pub before : ℕ
  pub most : ℕ

-- what a port says of itself, as the trait `Port` has it
pub record PortFacts (L : Type 0) : Type 0 where
  pub faults : ℕ
  pub opened_with : Option ℕ
  pub given : ℕ
  pub is_ended : Bool
  pub retired_count : ℕ
  pub retired : Option (List (ℕ × L))

module _ {L : Type 0} where
  -- it isn't opened, it gave and took back no link, and it didn't say that no more come
  pub record IsNewPort (port : PortFacts L) : Type 0 where
    pub unopened : port.opened_with ≡ None
    pub ungiven : port.given ≡ 0
    pub unended : port.is_ended ≡ false
    pub uncounted : port.retired_count ≡ 0
    pub unretired : IsBare port.retired

  -- The port says of itself what the history says: with which number it was opened last, how many links it gave, whether it ended, and which
  -- links it took back. The links have the numbers 0, 1, 2 and so on, and are at most as many as there may be. Where a fault is entered, the
  -- port's count has risen.
  pub record IsHistory (terms : Terms) (port : PortFacts L) (entries : List (PortEntry L)) : Type 0 where
    pub opened : port.opened_with ≡ last_or None (opened entries)
    pub numbers : accepted entries ≡ range_with_len 0 port.given
    pub limit : port.given ≤ terms.most
    pub ended : port.is_ended ≡ has_ended entries
    pub count : port.retired_count ≡ length (retired entries)
    pub links : IfSome port.retired (λ links. links ≡ retired entries)
    pub later : terms.before ≤ port.faults
    pub cause : has_faulted entries ≡ true → Rose terms.before port.faults
