-- What is compared of a channel and of a header, in parts.
-- Assumes nothing.
use Rattle.std.specs.Prelude.{ℕ, ◌-◌, Bool, ◌&&◌}
use Rattle.answers.specs.Readings.{hd_written, version}
use Rattle.answers.specs.Readings.{Channel, Reading}
use Rattle.answers.specs.Differences.{same_bytes, same_body}

abbrev pub same_fields : Channel → Channel → Bool
same_fields c d = same_bytes c.fields.main d.fields.main && same_bytes c.fields.added d.fields.added

abbrev pub same_bodies : Channel → Channel → Bool
same_bodies c d =
    same_body c.conversion d.conversion
    && same_body c.extension d.extension
    && same_body c.comment d.comment
    && same_body c.long_name d.long_name
    && same_body c.display_name d.display_name

abbrev pub later_length : Reading → ℕ
later_length r = hd_written (version r) - 164
