-- Where a request comes in a load. Requests are numbered from 0. Sixteen that follow each other, one of each session, are a
-- block, and all of a block are of one kind.
use Rattle.std.specs.Prelude.{ℕ, zero, suc, ◌+◌, ◌*◌, ◌/◌, ◌%◌, ◌==◌, if◌then◌else◌}
use Rattle.storm.specs.declared.asking.TheConstants.{PARTITIONS}
use Rattle.storm.specs.declared.kind.Kind.{Kind}
use Rattle.storm.specs.declared.kind.Kind.TheVariants.{AwaitedProduce, FollowerFetch, PromptProduce, ConsumerFetch}
use Rattle.storm.specs.declared.kind.TheConstants.{BLOCK}

abbrev pub block_of : ℕ → ℕ
block_of i = i / BLOCK

abbrev pub session_of : ℕ → ℕ
session_of i = i % BLOCK

-- each block names each partition twice
abbrev pub partition_of : ℕ → ℕ
partition_of i = (i + block_of i) % PARTITIONS

-- the batches that the blocks before this one append to each partition
abbrev pub batches_before : ℕ → ℕ
batches_before block = 2 * ((block + 1) / 2)

-- the kinds take turns
abbrev pub kind_of : ℕ → Kind
kind_of block =
    if block % 4 == 0 then AwaitedProduce
    else if block % 4 == 1 then FollowerFetch
    else if block % 4 == 2 then PromptProduce
    else ConsumerFetch

-- the batches that a block of this kind appends to each partition
abbrev pub batches_by : Kind → ℕ
batches_by AwaitedProduce = 2
batches_by FollowerFetch = 0
batches_by PromptProduce = 2
batches_by ConsumerFetch = 0

-- the draws that a request makes
abbrev pub draws_for : Kind → ℕ
draws_for AwaitedProduce = 1
draws_for FollowerFetch = 1
draws_for PromptProduce = 0
draws_for ConsumerFetch = 3

abbrev pub draws_of : ℕ → ℕ
draws_of i = draws_for (kind_of (block_of i))

-- the draws of all requests before this one
unfoldable pub draws_before : ℕ → ℕ
draws_before zero = 0
draws_before (suc i) = draws_before i + draws_of i
