-- Which message was selected last of a row, over everything that ever came: whoever holds its sender's address (ISO 11783-5) since.
use Rattle.std.specs.Prelude.{ℕ, [], ◌∷◌, Option, Some, None, if◌then◌else◌}
use Rattle.readings.specs.declared.reading.Reading.{Reading}
use Rattle.readings.specs.declared.rows.Row.{Row}
use Rattle.readings.specs.Rows.{row_of}
use Rattle.history.specs.Entries.{Entry, History}
use Rattle.history.specs.FromBus.{said_at}
use Rattle.history.specs.Messages.{Message, done}
use Rattle.history.specs.Settings.{receiver_of, Settings, same_row}

-- a message that was selected: by which entry it was complete, when, from whom, and what it says
pub record Selected : Type 0 where
  pub index : ℕ
  pub moment : ℕ
  pub source : ℕ
  pub name : ℕ
  pub reading : Reading

abbrev pub saying : Message → Option Reading → Option Selected
saying d None = None
saying d (Some r) = Some (record { index = d.index; moment = d.moment; source = d.source; name = d.name; reading = r })

abbrev pub selected_with : Option Message → Option Reading → Option Selected
selected_with None says = None
selected_with (Some d) says = saying d says

-- the newer of two messages of a row
abbrev pub newer : Row → Option Selected → Option Selected → Option Selected
newer row None before = before
newer row (Some x) before = if same_row (row_of x.reading) row then Some x else before

module _ (c : Settings) (s : ℕ) where
  -- the message that an entry completes, where it is selected
  abbrev pub selected_at : History → Entry → Option Selected
  selected_at h e = selected_with (done (receiver_of c) s h e) (said_at c s h e)

  -- the last one of a row
  abbrev pub last_of : Row → History → Option Selected
  last_of row [] = None
  last_of row (e ∷ h) = newer row (selected_at h e) (last_of row h)
