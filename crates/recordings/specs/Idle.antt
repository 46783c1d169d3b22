-- Ticks at which nothing is emitted, and a list of events without them.
use Rattle.std.specs.Prelude.{ℕ, ◌≤◌, Bool, false, ◌&&◌, not, List, [], ◌∷◌, if◌then◌else◌}
use Rattle.history.specs.Emits.{is_there}
use Rattle.history.specs.Entries.{Entry, History, frame, datagram, tick, command, is_accepted, moment_of}
use Rattle.gateway_commands.specs.Gate.{all_out, stepped}
use Rattle.gateway_commands.specs.BridgeSettings.{BridgeSettings}

-- none of the events is earlier than this moment, nor than the one before it
abbrev pub AreFrom : ℕ → List Entry → Type 0
AreFrom m [] = Unit {0}
AreFrom m (e ∷ es) = (m ≤ moment_of e) × AreFrom (moment_of e) es

-- the first of the events isn't earlier than this moment
abbrev pub BeginFrom : ℕ → List Entry → Type 0
BeginFrom m [] = Unit {0}
BeginFrom m (e ∷ es) = m ≤ moment_of e

module _ (p : BridgeSettings) (s : ℕ) where
  abbrev pub is_idle : History → Entry → Bool
  is_idle h (frame m f) = false
  is_idle h (datagram m bytes) = false
  is_idle h (tick m) = is_accepted h (tick m) && not (is_there (all_out p s h (tick m)))
  is_idle h (command m source address) = false

  -- the events without the ticks at which nothing is emitted, by all that came before, such ticks too
  abbrev pub busy : History → List Entry → List Entry
  busy h [] = []
  busy h (e ∷ es) = let rest = busy (stepped p s h e).after es in if is_idle h e then rest else e ∷ rest
