-- What a datagram from the network gives (IEC 61162-450): what its items give, in order, each by all that was heard before it.
use Rattle.std.specs.Prelude.{ℕ, not, List, [], ◌∷◌, ◌++◌, map, Option, Some, None, Result, Ok, Err, if◌then◌else◌}
use Rattle.readings.specs.Rows.{row_of}
use Rattle.pgn_profile.specs.Profiled.{payload_of, pgn_of, priority_of}
use Rattle.fast_packet.specs.FastRuns.{frames_of}
use Rattle.sentence_profile.specs.declared.fault.FieldFault.{FieldFault}
use Rattle.datagram450.specs.declared.fault.DatagramFault.{DatagramFault}
use Rattle.datagram450.specs.Datagram.{Item, line, bad}
use Rattle.history.specs.Settings.{Settings}
use Rattle.gate_events.specs.Emit.{Emit}
use Rattle.history.specs.Emits.{sent, reported}
use Rattle.history.specs.Heard.{HeardItem, Taken, is_taken, taken_as, taken_lines, handed_over}
use Rattle.history.specs.NetReadings.{NetReading, line_says, readings_of, is_net_selected, is_fast_row, next_sequence}
use Rattle.history.specs.NetRules.{datagram_breaks, item_breaks, sentence_breaks, reading_breaks}

-- what was heard from a datagram: nothing where it isn't read
abbrev pub items_in : Result (List Item) DatagramFault → List Item
items_in (Ok items) = items
items_in (Err fault) = []

module _ (c : Settings) (own : Option ℕ) where
  -- ---- a reading that is sent on, from the own address to all: in one frame, or as a fast packet

  abbrev pub payload_frames : List NetReading → NetReading → List (List ℕ)
  payload_frames older n = let row = row_of n.reading in
      if is_fast_row row then frames_of (next_sequence c older (pgn_of row)) (payload_of n.reading) else payload_of n.reading ∷ []

  abbrev pub sent_from : Option ℕ → List NetReading → NetReading → List Emit
  sent_from None older n = []
  sent_from (Some address) older n = let row = row_of n.reading in
      map (λ held. sent (priority_of row) (pgn_of row) 255 address held) (payload_frames older n)

  -- a selected reading is sent on where the gateway is ready, else it is reported
  abbrev pub reading_gives : List NetReading → NetReading → List Emit
  reading_gives older n =
      if not (is_net_selected c older n) then []
      else if n.line.ready then sent_from own older n
      else reported (reading_breaks n)

  -- ---- what a line says, in order: each reading by what was heard before it, or the fault of a sentence

  abbrev pub said_gives : Taken → List NetReading → List (Result NetReading FieldFault) → List Emit
  said_gives t older [] = []
  said_gives t older (Ok n ∷ said) = reading_gives older n ++ said_gives t (n ∷ older) said
  said_gives t older (Err fault ∷ said) = reported (sentence_breaks t fault) ++ said_gives t older said

  -- ---- an item: its report, and what the line says

  abbrev pub handed_gives : List Taken → HeardItem → Item → List Emit
  handed_gives lines x (bad rule place) = []
  handed_gives lines x (line place said sentence parts) =
      if is_taken c said
      then (let t = taken_as c lines x place said sentence in
      said_gives t (readings_of c.optional_sentences lines) (line_says c.optional_sentences t (handed_over t lines)))
      else []

  abbrev pub item_gives : List HeardItem → HeardItem → List Emit
  item_gives older x = let lines = taken_lines c older in reported (item_breaks c lines x) ++ handed_gives lines x x.item

  abbrev pub items_give : List HeardItem → List HeardItem → List Emit
  items_give older [] = []
  items_give older (x ∷ items) = item_gives older x ++ items_give (x ∷ older) items

  -- ---- a datagram

  abbrev pub datagram_gives : List HeardItem → List HeardItem → Result (List Item) DatagramFault → List Emit
  datagram_gives older items read = reported (datagram_breaks read) ++ items_give older items
