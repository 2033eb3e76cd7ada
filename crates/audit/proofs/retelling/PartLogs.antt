-- The partition of a name and an index: it is in a lawful account, its entries can be played, and its log end is bounded.
use Rattle.std.proofs.Common.{◌≡◌, ◌≤◌, ◌<◌, ℕ, ℤ, List, [], Some, get_or, length, arith}
use Rattle.std.specs.Prelude.{slice_get}
use Rattle.std.proofs.lemmas.Option.{slice_get-get_or}
use Rattle.partlog.specs.Added.{log_end_of}
use Rattle.kwire.specs.Configuration.{part_of, partitions_of}
use Rattle.audit.specs.declared.account.Account.{Account}
use Rattle.audit.specs.declared.account.PartAccount.{PartAccount}
use Rattle.audit.specs.Histories.{history_of}
use Rattle.audit.specs.IsLawful.{IsLawful}
use Rattle.audit.proofs.Laws.{logs_bounded}
use Rattle.audit.proofs.broker.Laws.{part_within}
use Rattle.audit.specs.retelling.Playable.{IsPlayable}
use Rattle.audit.proofs.retelling.LawfulParts.{all_playable, at_place, parts_long}

pub record HasPart (account : Account) (number : ℕ) : Type 0 where
  pub part : PartAccount
  pub there : slice_get account.parts number ≡ Some part
  pub plays : IsPlayable (history_of part)
  pub short : log_end_of part.events ≤ 67108864

pub part_there : (account : Account) (name : List ℕ) (index : ℤ) (number : ℕ) → IsLawful account → partitions_of account.config.topics ≤ 64 → part_of account.config name index ≡ Some number → HasPart account number
part_there account name index number lawful few is =
    let size = parts_long account lawful.logs in
    let within : number < length account.parts = omega (arith, part_within 0 account.config.topics name index number is, size) in
    let nothing : PartAccount = record { followers = 0; log = []; events = [] } in
    let part : PartAccount = get_or account.parts number nothing in
    let there : slice_get account.parts number ≡ Some part = slice_get-get_or account.parts number nothing within in
    record {
      part = part;
      there = there;
      plays = at_place (λ (p : PartAccount). IsPlayable (history_of p)) account.parts number part (all_playable account lawful (omega (arith, size, few))) there;
      short = logs_bounded account lawful few number nothing within;
    }
