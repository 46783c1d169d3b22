-- A command is no message, and changes no holder.
use Rattle.std.proofs.Common.{ℕ, List, ◌∷◌, sym, ap, ◌∙◌}
use Rattle.std.specs.Prelude.{Option, option_map}
use Rattle.readings.specs.declared.rows.Row.{Row}
use Rattle.readings.specs.declared.rows.Row.TheVariants as row
use Rattle.claim_table.specs.declared.answer.Holder.{Holder}
use Rattle.history.specs.Entries.{History, command}
use Rattle.history.specs.Known.{known}
use Rattle.history.specs.Settings.{receiver_of, Settings}
use Rattle.history.proofs.TraceMoves.{commanded_holders}
use Rattle.parts.specs.Picked.{message_of}
use Rattle.parts.specs.Selected.{last_of}
use Rattle.joined_rmc.specs.Lasting.{still_held}
use Rattle.joined_rmc.specs.JoinStands.{CommandsKeepJoins, LastStands}
use Rattle.joined_rmc.specs.RmcOut.{timeout_of}
use Rattle.joined_rmc.specs.declared.last_of_row.LastOfRow.{LastOfRow}

pub last_stays : (timeout : ℕ) (c : Settings) (s : ℕ) (row : Row) (h : History) (m source address : ℕ) (last : LastOfRow)
    → LastStands timeout c s row h last → LastStands timeout c s row (command m source address ∷ h) last
last_stays timeout c s row h m source address last stands = record {
  timeout_is = stands.timeout_is;
  kept =
      stands.kept
      ∙ ap (λ (holders : List (Option Holder)). option_map message_of (still_held holders (last_of c s row h)))
      (sym (commanded_holders (known (receiver_of c) s h).claims address m));
}

pub commands_keep_joins : CommandsKeepJoins
commands_keep_joins r c s h m source address j stands = record {
  talker = stands.talker;
  sfi = stands.sfi;
  time = last_stays (timeout_of r.timeouts row.Time) c s row.Time h m source address j.time stands.time;
  position = last_stays (timeout_of r.timeouts row.Position) c s row.Position h m source address j.position stands.position;
  motion = last_stays (timeout_of r.timeouts row.CourseSpeed) c s row.CourseSpeed h m source address j.motion stands.motion;
  heading = last_stays (timeout_of r.timeouts row.HeadingMagnetic) c s row.HeadingMagnetic h m source address j.heading stands.heading;
  count = stands.count;
}
