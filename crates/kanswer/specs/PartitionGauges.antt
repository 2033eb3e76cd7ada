-- The gauges of a partition. Each partition has three, and these are numbered over all partitions, in the order of the partitions.
use Rattle.std.specs.Prelude.{ℕ, ◌+◌, ◌*◌, ◌/◌, ℤ, pos, negsuc, Bool, true, false, if◌then◌else◌}

-- its high watermark
abbrev pub high_gauge : ℕ → ℕ
high_gauge part = 3 * part

-- the bytes of its batches wholly below the high watermark
abbrev pub visible_gauge : ℕ → ℕ
visible_gauge part = 3 * part + 1

-- the bytes of all its batches
abbrev pub end_gauge : ℕ → ℕ
end_gauge part = 3 * part + 2

-- the partition that a gauge belongs to
abbrev pub partition_of : ℕ → ℕ
partition_of gauge = gauge / 3

-- a negative replica id is a consumer's
abbrev pub is_consumer : ℤ → Bool
is_consumer (pos n) = false
is_consumer (negsuc n) = true

-- the gauge that a fetch needs of a partition: a consumer the visible bytes, a follower all bytes
abbrev pub fetched_gauge : ℤ → ℕ → ℕ
fetched_gauge replica part = 3 * part + (if is_consumer replica then 1 else 2)
