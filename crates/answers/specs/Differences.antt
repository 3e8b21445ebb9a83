-- The difference list of two readings: entries, their order and bytes.
-- Assumes nothing.
pub use Rattle.spec.specs.Bytes.{same_bytes, difference}
pub use Rattle.spec.specs.Differences.{Entry, entry, entry_bytes, unless, same_body}
unfoldable pub use Rattle.spec.specs.Differences.{same_channel, same_own, same_header, alone, file_entries, channel_entries, record_entries, group_entries, groups_alone, groups_entries, differences, list_length, list_bytes}
