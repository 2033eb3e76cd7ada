-- The numbers that bound a room.
use Rattle.std.specs.Prelude.{ℕ}

-- a room has at most so many gauges, the clock with them, and so many passes
abbrev pub most_gauges : ℕ
most_gauges = 193

abbrev pub most_passes : ℕ
most_passes = 80

-- an operation has at most so many needs
abbrev pub most_needs : ℕ
most_needs = 64

-- a description's words: the least tally, the deadline, the number of needs, and three of each need
abbrev pub description_words : ℕ
description_words = 195

-- a room with all scanners has so many shards, and a shard of these at most so many gauges
abbrev pub shards : ℕ
shards = 16

abbrev pub shard_gauges : ℕ
shard_gauges = 12

-- the marks of the needs are numbered from 0, and this is the mark of the clock's listing
abbrev pub clock_mark : ℕ
clock_mark = 64

abbrev pub marks_count : ℕ
marks_count = 65

-- the number of the clock's scanner
abbrev pub clock_scanner : ℕ
clock_scanner = 16

-- Scanners have the numbers below this one. As a winner a scanner has its own number, and pass p has this one and p.
abbrev pub scanner_numbers : ℕ
scanner_numbers = 17
