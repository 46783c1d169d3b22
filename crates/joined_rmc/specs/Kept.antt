-- What is kept of the messages that RMC is made from, as plain values, and what a step of the gateway makes of it. Nothing here speaks of
-- what came before.
use Rattle.std.specs.Prelude.{ℕ, ◌+◌, ◌%◌, Bool, false, ◌==◌, List, [], Option, Some, None, option_map, if◌then◌else◌}
use Rattle.std.specs.Borrow.{Bor}
use Rattle.n2k_id.specs.declared.name.Name.{Name}
use Rattle.readings.specs.declared.reading.Reading.{Reading}
use Rattle.readings.specs.declared.rows.Row.{Row}
use Rattle.readings.specs.declared.rows.Row.TheVariants as row
use Rattle.readings.specs.Rows.{row_of}
use Rattle.sentence_profile.specs.declared.minimum.Minimum.{Minimum}
use Rattle.tag_block.specs.Tag.{most_count}
use Rattle.history.specs.Settings.{same_row}
use Rattle.parts.specs.SelectedMessage.{SelectedMessage}
use Rattle.joined_rmc.specs.declared.last_of_row.LastOfRow.{LastOfRow}
use Rattle.joined_rmc.specs.Lasting.{says_position, unless_old}
use Rattle.joined_rmc.specs.RmcOut.{datagram_by, minimum_of, timeout_of}

-- a message of each row, and how many lines were said, modulo the greatest count
pub record Join : Type 0 where
  pub talker : List ℕ
  pub sfi : List ℕ
  pub time : LastOfRow
  pub position : LastOfRow
  pub motion : LastOfRow
  pub heading : LastOfRow
  pub count : ℕ

-- what is lent, where something is
abbrev pub lent : Option (Bor Reading) → Option Reading
lent reading = option_map (λ r. r.now) reading

abbrev pub none_yet : ℕ → LastOfRow
none_yet timeout = record { timeout = timeout; message = None }

abbrev pub empty_join : List ℕ → List ℕ → List ℕ → Join
empty_join talker sfi timeouts = record {
  talker = talker;
  sfi = sfi;
  time = none_yet (timeout_of timeouts row.Time);
  position = none_yet (timeout_of timeouts row.Position);
  motion = none_yet (timeout_of timeouts row.CourseSpeed);
  heading = none_yet (timeout_of timeouts row.HeadingMagnetic);
  count = 0;
}

-- ---- the address of a message that is kept changes hands, or not

abbrev pub is_named : Name → Option Name → Bool
is_named name None = false
is_named name (Some other) = other.0 == name.0

abbrev pub held_in : (ℕ → Option Name) → Option SelectedMessage → Option SelectedMessage
held_in holder None = None
held_in holder (Some k) = if is_named k.name (holder k.source) then Some k else None

-- the newer message of a row is kept
abbrev pub newer_message : Row → Option SelectedMessage → Option SelectedMessage → Option SelectedMessage
newer_message row None before = before
newer_message row (Some k) before = if same_row (row_of k.reading) row then Some k else before

abbrev pub last_held : (ℕ → Option Name) → LastOfRow → LastOfRow
last_held holder last = record { timeout = last.timeout; message = held_in holder last.message }

abbrev pub last_with : Row → Option SelectedMessage → LastOfRow → LastOfRow
last_with row new last = record { timeout = last.timeout; message = newer_message row new last.message }

abbrev pub last_after : (ℕ → Option Name) → Row → Option SelectedMessage → LastOfRow → LastOfRow
last_after holder row new last = last_with row new (last_held holder last)

abbrev pub rows_held : (ℕ → Option Name) → Join → Join
rows_held holder j = record j {
  time = last_held holder j.time;
  position = last_held holder j.position;
  motion = last_held holder j.motion;
  heading = last_held holder j.heading;
}

abbrev pub rows_with : Option SelectedMessage → Join → Join
rows_with new j = record j {
  time = last_with row.Time new j.time;
  position = last_with row.Position new j.position;
  motion = last_with row.CourseSpeed new j.motion;
  heading = last_with row.HeadingMagnetic new j.heading;
}

abbrev pub rows_after : (ℕ → Option Name) → Option SelectedMessage → Join → Join
rows_after holder new j = rows_with new (rows_held holder j)

-- ---- what is said

abbrev pub is_due_message : Option SelectedMessage → Bool
is_due_message None = false
is_due_message (Some k) = says_position k.reading

abbrev pub message_within : ℕ → ℕ → Option SelectedMessage → Option Reading
message_within timeout m None = None
message_within timeout m (Some k) = unless_old timeout m k.moment k.reading

abbrev pub in_last : ℕ → LastOfRow → Option Reading
in_last m last = message_within last.timeout m last.message

abbrev pub minimum_in : ℕ → Join → Minimum
minimum_in m j = minimum_of (in_last m j.time) (in_last m j.position) (in_last m j.motion) (in_last m j.heading)

abbrev pub datagram_in : ℕ → Join → List ℕ
datagram_in m j = datagram_by j.sfi j.talker j.count (minimum_in m j)

abbrev pub counted : Join → Join
counted j = record j { count = (j.count + 1) % most_count }

-- ---- a step, after which these hold the addresses

abbrev pub join_with : Option SelectedMessage → Join → Join
join_with new j = if is_due_message new then counted (rows_with new j) else rows_with new j

abbrev pub join_after : (ℕ → Option Name) → Option SelectedMessage → Join → Join
join_after holder new j = join_with new (rows_held holder j)

abbrev pub with_says : ℕ → Option SelectedMessage → Join → Option (List ℕ)
with_says m new j = if is_due_message new then Some (datagram_in m (rows_with new j)) else None

abbrev pub join_says : ℕ → (ℕ → Option Name) → Option SelectedMessage → Join → Option (List ℕ)
join_says m holder new j = with_says m new (rows_held holder j)

abbrev pub bytes_in : Option (List ℕ) → List ℕ
bytes_in None = []
bytes_in (Some bytes) = bytes
