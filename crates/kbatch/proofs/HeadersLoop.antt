-- Headers one after the other, as a loop skips them.
use Rattle.std.proofs.Common.{◌≡◌, ℕ, suc, ◌+◌, ◌-◌, ◌<◌, ◌≤◌, List, Option, Some, None, arith}
use Rattle.kbatch.specs.Walk.{after_header, after_headers}

pub goes_on : (count i : ℕ) (bytes after : List ℕ) (total : Option (List ℕ)) → i < count → after_header bytes ≡ Some after → after_headers (count - i) bytes ≡ total → after_headers (count - (i + 1)) after ≡ total
unfolding after_headers
goes_on count i bytes after total lt h so_far =
    let k : count - i ≡ suc (count - (i + 1)) = omega arith in
    rw (k, h) at so_far

pub fails : (count i : ℕ) (bytes : List ℕ) (total : Option (List ℕ)) → i < count → after_header bytes ≡ None → after_headers (count - i) bytes ≡ total → total ≡ None
unfolding after_headers
fails count i bytes total lt h so_far =
    let k : count - i ≡ suc (count - (i + 1)) = omega arith in
    let e = rw (k, h) at so_far in
    cc

pub is_done : (count i : ℕ) (bytes : List ℕ) (total : Option (List ℕ)) → count ≤ i → after_headers (count - i) bytes ≡ total → total ≡ Some bytes
unfolding after_headers
is_done count i bytes total le so_far =
    let k : count - i ≡ 0 = omega arith in
    let e = rw k at so_far in
    cc
