-- What a datagram gives by its items one after another, and what one more reading adds to what was sent.
use Rattle.std.specs.Prelude.{◌≡◌, ℕ, Bool, ◌&&◌, List, ◌∷◌, ◌++◌, Option, Result, if◌then◌else◌}
use Rattle.readings.specs.Rows.{row_of}
use Rattle.pgn_profile.specs.Profiled.{pgn_of}
use Rattle.sentence_profile.specs.declared.fault.FieldFault.{FieldFault}
use Rattle.history.specs.Settings.{Settings}
use Rattle.history.specs.Heard.{HeardItem, Taken, with_each}
use Rattle.history.specs.NetReadings.{NetReading, with_readings, is_net_selected, is_fast_row, fast_sent}
use Rattle.history.specs.FromNet.{items_give, said_gives}

-- items give what the first of them give by what was heard before, and then what the others give with those heard too; so does what a
-- line says, of which the readings are heard one after another
pub record GiveInOrder (c : Settings) (own : Option ℕ) : Type 0 where
  pub items : (older items more : List HeardItem)
      → items_give c own older (items ++ more) ≡ items_give c own older items ++ items_give c own (with_each older items) more
  pub said : (t : Taken) (older : List NetReading) (said more : List (Result NetReading FieldFault))
      → said_gives c own t older (said ++ more) ≡ said_gives c own t older said ++ said_gives c own t (with_readings older said) more
  pub readings : (older : List NetReading) (said more : List (Result NetReading FieldFault))
      → with_readings older (said ++ more) ≡ with_readings (with_readings older said) more

abbrev pub DatagramsGiveInOrder : Type 0
DatagramsGiveInOrder = (c : Settings) (own : Option ℕ) → GiveInOrder c own

-- the reading is sent on as a fast packet
abbrev pub goes_fast : Settings → List NetReading → NetReading → Bool
goes_fast c older n = is_net_selected c older n && (n.line.ready && is_fast_row (row_of n.reading))

abbrev pub ReadingsCountFast : Type 0
ReadingsCountFast =
    (c : Settings) (older : List NetReading) (n : NetReading)
    → fast_sent c (n ∷ older) ≡ (if goes_fast c older n then pgn_of (row_of n.reading) ∷ fast_sent c older else fast_sent c older)
