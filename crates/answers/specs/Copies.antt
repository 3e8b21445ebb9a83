-- The canonical copy of a reading: lengths, places and bytes.
-- Assumes nothing.
pub use Rattle.spec.specs.Block.{write_hd}
pub use Rattle.spec.specs.Canonical.{body_length, channels_length, records_length, group_length, groups_length, link_to, link_to_first, body_bytes, cn_of, dg_of, cg_of, hd_of}
unfoldable pub use Rattle.spec.specs.Canonical.{channel_length, copy_length, channel_bytes, channels_bytes, group_bytes, groups_bytes, canonical_copy}
