-- Each event that is accepted, with the command that it completes, keeps a history one; and an entry says at most one datagram, which is
-- counted as it is emitted.
use Rattle.std.specs.Prelude.{◌≡◌, ℕ, List, [], ◌∷◌, length, Some, None}
use Rattle.readings.specs.declared.reading.Reading.{Reading}
use Rattle.readings.specs.Rows.{row_of}
use Rattle.sentence_profile.specs.Writing.{sentences_of}
use Rattle.history.specs.Entries.{Entry, History, frame, datagram, tick, command, IsOffered, IsHistory}
use Rattle.history.specs.Settings.{Settings, RowRule, rule_of}
use Rattle.gate_events.specs.Emit.{Emit, can, net, report}
use Rattle.history.specs.Emits.{datagram_of}
use Rattle.history.specs.FromBus.{said_at}
use Rattle.history.specs.Gate.{out, spoken_of, stepped}

-- commands are made by the gateway, and come from nowhere else
abbrev pub IsEvent : Entry → Type 0
IsEvent (frame m f) = Unit {0}
IsEvent (datagram m bytes) = Unit {0}
IsEvent (tick m) = Unit {0}
IsEvent (command m source address) = ⊥

abbrev pub StepsKeepHistory : Type 0
StepsKeepHistory = (c : Settings) (s : ℕ) (h : History) (e : Entry) → IsHistory h → IsEvent e → IsOffered e → IsHistory (stepped c s h e).after

-- ---- what is said on the network

-- the datagrams among some emits, each with its transmission group
abbrev pub nets_in : List Emit → List (List ℕ × List ℕ)
nets_in [] = []
nets_in (net group bytes ∷ emits) = (group, bytes) ∷ nets_in emits
nets_in (can f ∷ emits) = nets_in emits
nets_in (report r ∷ emits) = nets_in emits

-- an entry that completes no selected message says nothing and counts nothing; any other says the reading of that message in one datagram by all
-- that was said before, and counts its sentences
pub data SaysOne (c : Settings) (s : ℕ) (h : History) (e : Entry) : Type 0 where
  nothing : said_at c s h e ≡ None → nets_in (out c s h e) ≡ [] → spoken_of c s (e ∷ h) ≡ spoken_of c s h → SaysOne c s h e
  one : (r : Reading) (rule : RowRule) (sentences : List (List ℕ)) → said_at c s h e ≡ Some r → rule ≡ rule_of c (row_of r)
      → sentences ≡ sentences_of rule.talker c.ths r
      → nets_in (out c s h e) ≡ (rule.group, datagram_of c.sfi (spoken_of c s h) rule.group sentences) ∷ []
      → spoken_of c s (e ∷ h) ≡ record { group = rule.group; lines = length sentences } ∷ spoken_of c s h → SaysOne c s h e

abbrev pub EntriesSayOne : Type 0
EntriesSayOne = (c : Settings) (s : ℕ) (h : History) (e : Entry) → SaysOne c s h e
