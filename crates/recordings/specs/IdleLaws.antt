-- A tick at which nothing is emitted can be left out of the events or put into them, and nothing that is emitted changes.
use Rattle.std.specs.Prelude.{◌≡◌, ℕ, ◌≤◌, List, [], ◌∷◌}
use Rattle.history.specs.Entries.{Entry, History, now, tick}
use Rattle.gateway_commands.specs.Gate.{all_out, from_events, gate}
use Rattle.gateway_commands.specs.BridgeSettings.{BridgeSettings}
use Rattle.recordings.specs.Idle.{AreFrom, BeginFrom, busy}

-- nothing is emitted at a tick at the moment of the start
abbrev pub StartIsIdle : Type 0
StartIsIdle = (p : BridgeSettings) (s : ℕ) → all_out p s [] (tick s) ≡ []

-- after any history, whatever the events are that come next, as long as the first of them isn't earlier than the tick
abbrev pub IdleTicks : Type 0
IdleTicks =
    (p : BridgeSettings) (s : ℕ) (h : History) (m : ℕ) (es : List Entry) → now h ≤ m → all_out p s h (tick m) ≡ [] → BeginFrom m es
    → from_events p s (tick m ∷ h) es ≡ from_events p s h es

-- all of them at once, where the moments of the events don't go back
abbrev pub BusyEvents : Type 0
BusyEvents = (p : BridgeSettings) (s : ℕ) (h : History) (es : List Entry) → AreFrom (now h) es → from_events p s h (busy p s h es) ≡ from_events p s h es

-- and of all that a bridge is offered since its start
abbrev pub BusyGate : Type 0
BusyGate = (p : BridgeSettings) (s : ℕ) (es : List Entry) → AreFrom 0 es → gate p s (busy p s [] es) ≡ gate p s es
