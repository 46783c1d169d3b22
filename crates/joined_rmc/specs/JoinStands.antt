-- When what is kept for RMC stands for everything that ever came, and what each step makes of it and gives.
use Rattle.std.specs.Prelude.{◌≡◌, ℕ, ◌%◌, Bool, List, ◌∷◌, option_map, is_some}
use Rattle.readings.specs.declared.rows.Row.{Row}
use Rattle.readings.specs.declared.rows.Row.TheVariants as row
use Rattle.tag_block.specs.Tag.{most_count}
use Rattle.history.specs.AddressLaws.{AreSettings}
use Rattle.history.specs.Entries.{Entry, History, command}
use Rattle.history.specs.Known.{known}
use Rattle.history.specs.Settings.{receiver_of, Settings}
use Rattle.gate_model.specs.Machine.{Machine}
use Rattle.gate_outbox.specs.Output.{Output}
use Rattle.parts.specs.Promises.{IsTaken}
use Rattle.parts.specs.Picked.{message_of}
use Rattle.parts.specs.Selected.{last_of}
use Rattle.joined_rmc.specs.declared.last_of_row.LastOfRow.{LastOfRow}
use Rattle.joined_rmc.specs.Lasting.{still_held}
use Rattle.joined_rmc.specs.Kept.{Join, bytes_in}
use Rattle.joined_rmc.specs.RmcOut.{RmcRule, lines_before, rmc_datagram, timeout_of}

-- of a row: the last message that was selected, where its sender holds its address ever since
pub record LastStands (timeout : ℕ) (c : Settings) (s : ℕ) (row : Row) (h : History) (last : LastOfRow) : Type 0 where
  pub timeout_is : last.timeout ≡ timeout
  pub kept : last.message ≡ option_map message_of (still_held (known (receiver_of c) s h).claims.holders (last_of c s row h))

pub record JoinStands (r : RmcRule) (c : Settings) (s : ℕ) (h : History) (j : Join) : Type 0 where
  pub talker : j.talker ≡ r.talker
  pub sfi : j.sfi ≡ r.sfi
  pub time : LastStands (timeout_of r.timeouts row.Time) c s row.Time h j.time
  pub position : LastStands (timeout_of r.timeouts row.Position) c s row.Position h j.position
  pub motion : LastStands (timeout_of r.timeouts row.CourseSpeed) c s row.CourseSpeed h j.motion
  pub heading : LastStands (timeout_of r.timeouts row.HeadingMagnetic) c s row.HeadingMagnetic h j.heading
  pub count : j.count ≡ lines_before r c s h % most_count

-- one more entry was joined: the join stands for the history with it; and a datagram is there exactly where the history says so, as it says
pub record IsJoined (r : RmcRule) (c : Settings) (s : ℕ) (h : History) (e : Entry) (after : Join) (said : Bool) (packet : List ℕ) : Type 0 where
  pub stands : JoinStands r c s (e ∷ h) after
  pub said_is : said ≡ is_some (rmc_datagram r c s h e)
  pub packet_is : packet ≡ bytes_in (rmc_datagram r c s h e)

-- for every valid configuration, start moment, history and entry that the gateway took, where the join stood for that history
abbrev pub IsJoinStep : Machine → Output → Join → Join → Bool → List ℕ → Type 0
IsJoinStep gateway left before after said packet =
    (r : RmcRule) (c : Settings) (s : ℕ) (h : History) (e : Entry) → AreSettings c → IsTaken c s h e gateway left
    → JoinStands r c s h before → IsJoined r c s h e after said packet

-- a command to go to an address is no message, and changes no holder: the join stands for the history with it
abbrev pub CommandsKeepJoins : Type 0
CommandsKeepJoins =
    (r : RmcRule) (c : Settings) (s : ℕ) (h : History) (m source address : ℕ) (j : Join)
    → JoinStands r c s h j → JoinStands r c s (command m source address ∷ h) j
