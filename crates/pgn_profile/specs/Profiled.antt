-- What a payload says, by the messages of the profile, and the payload of each reading.
use Rattle.std.specs.Prelude.{ℕ, List, [], ◌∷◌, length, ◌==◌, nat_lt, Option, Some, None, find, if◌then◌else◌}
use Rattle.readings.specs.declared.reading.Reading.{Reading}
use Rattle.readings.specs.declared.rows.Row.{Row}
use Rattle.readings.specs.Rows.{about_of, IsValid}
use Rattle.pgn_profile.specs.declared.kinds.Kind.{Kind}
use Rattle.pgn_profile.specs.declared.kinds.Kind.TheVariants.{Outside}
use Rattle.pgn_profile.specs.declared.profiled.Profiled.{Profiled}
use Rattle.pgn_profile.specs.declared.profiled.Profiled.TheVariants as says
use Rattle.pgn_profile.specs.Layout.{Layout, Message, filling, reading_by}
unfoldable pub use Rattle.pgn_profile.specs.Layout.{messages}

-- the message of a PGN
abbrev pub message_in : List Message → ℕ → Option Message
message_in list pgn = find (λ m. m.pgn == pgn) list

abbrev pub kind_by : Option Message → Kind
kind_by None = Outside
kind_by (Some m) = m.kind

-- how a message of the PGN comes
abbrev pub kind_of : ℕ → Kind
kind_of pgn = kind_by (message_in messages pgn)

-- the reading by the first row that selects the payload
abbrev pub by_rows : List Layout → List ℕ → Profiled
by_rows [] payload = says.Outside
by_rows (row ∷ rows) payload = if row.selects payload then says.Reading (reading_by row payload) else by_rows rows payload

abbrev pub by_message : Option Message → List ℕ → Profiled
by_message None payload = says.Outside
by_message (Some m) payload = if nat_lt (length payload) m.least then says.Short else by_rows m.rows payload

-- what the payload of a message of the PGN says
abbrev pub profiled : ℕ → List ℕ → Profiled
profiled pgn payload = by_message (message_in messages pgn) payload

-- a reading, if there is one, is valid
abbrev pub GivesValid : Profiled → Type 0
GivesValid (says.Reading r) = IsValid r
GivesValid says.Outside = Unit {0}
GivesValid says.Short = Unit {0}

-- ---- what is sent

abbrev pub payload_of : Reading → List ℕ
payload_of r = (filling r).payload

-- the PGN under which a row is sent
abbrev pub pgn_of : Row → ℕ
pgn_of row = (about_of row).pgn

abbrev pub priority_of : Row → ℕ
priority_of row = (about_of row).priority
