-- What the crates above may cite: laws of lists, of bytes, of integers in each width, and of fields that are read.

-- parts of bytes are bytes
pub use Rattle.kbytes.proofs.Octets.{IsBytes-drop, IsBytes-take}
-- integers of a width, from bytes and back, and what stands at the front of bytes
pub use Rattle.kbytes.proofs.Integers.{IsWide, wide_8, wide_16, wide_32, wide_64, integer_back, Front, cut, whole, front_of, Leads-spells}
-- what was read is spelled by the bytes that were read
pub use Rattle.kbytes.proofs.Sized.{sized_spells, string_spells}
-- what is spelled is read again
pub use Rattle.kbytes.proofs.RoundTrips.{integer_reads, nullable_string_reads, records_reads, string_reads, array_reads}
-- numbers in groups of seven bits
pub use Rattle.kbytes.proofs.Grouped.{grouped_again, grouped_read, varint_kind, varlong_kind}
-- items of lists, by their places
pub use Rattle.kbytes.proofs.ListItems.{some_is, same_or_not, get_set_same, get_set_other, get_there, get_seam, get_front, get_within, get_behind, all_append}
