-- What was said last of each row, over everything that ever came: of the messages that were selected, the last one, where its sender holds
-- its address (ISO 11783-5) ever since.
use Rattle.std.specs.Prelude.{ℕ, ◌+◌, ◌*◌, Bool, false, ◌&&◌, nat_le, List, Option, Some, None, if◌then◌else◌}
use Rattle.readings.specs.declared.reading.Reading.{Reading}
use Rattle.readings.specs.declared.rows.Row.{Row}
use Rattle.readings.specs.declared.rows.Row.TheVariants as row
use Rattle.readings.specs.Rows.{row_of}
use Rattle.claim_table.specs.declared.answer.Holder.{Holder}
use Rattle.history.specs.Choice.{is_usable}
use Rattle.history.specs.Entries.{History}
use Rattle.history.specs.Known.{known, held_since}
use Rattle.history.specs.Settings.{receiver_of, Settings, same_row}
use Rattle.parts.specs.Selected.{Selected, last_of}

-- its sender holds its address since an entry that isn't later
abbrev pub held_by : Option ℕ → Selected → Option Selected
held_by None x = None
held_by (Some since) x = if nat_le since x.index then Some x else None

abbrev pub still_held : List (Option Holder) → Option Selected → Option Selected
still_held holders None = None
still_held holders (Some x) = held_by (held_since holders x.source) x

-- what was said at a moment, where it isn't older at another one than the timeout, which is in milliseconds
abbrev pub unless_old : ℕ → ℕ → ℕ → Reading → Option Reading
unless_old timeout m said_at r = if nat_le m (said_at + 1000 * timeout) then Some r else None

abbrev pub said_within : ℕ → ℕ → Option Selected → Option Reading
said_within timeout m None = None
said_within timeout m (Some x) = unless_old timeout m x.moment x.reading

-- it says where the ship is
abbrev pub says_position : Reading → Bool
says_position r = same_row (row_of r) row.Position && is_usable (Some r)

abbrev pub is_due : Option Selected → Bool
is_due None = false
is_due (Some x) = says_position x.reading

-- what the last one of a row says, where its sender holds its address ever since and it isn't too old
abbrev pub lasting : Settings → ℕ → ℕ → Row → History → ℕ → Option Reading
lasting c s timeout row h m = said_within timeout m (still_held (known (receiver_of c) s h).claims.holders (last_of c s row h))
