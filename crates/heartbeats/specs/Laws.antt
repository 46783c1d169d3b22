-- What is promised of heartbeats over whole histories.
use Rattle.std.specs.Prelude.{◌≡◌, ℕ, ◌+◌, ◌*◌, ◌<◌, ◌≤◌, ◌↔◌, true, [], ◌∷◌, ◌++◌, length, List}
use Rattle.claim_table.specs.Claims.{is_ready}
use Rattle.gate_events.specs.Emit.{Emit}
use Rattle.history.specs.Entries.{Entry, History, IsHistory, moment_of, now}
use Rattle.history.specs.EntryLaws.{IsEvent}
use Rattle.history.specs.Settings.{Settings}
use Rattle.settings.specs.declared.heartbeat.NetHeartbeat.{NetHeartbeat}
use Rattle.heartbeats.specs.BeatOut.{beat_out, beats_before, claims_after, hbt_before, hbt_out}
use Rattle.heartbeats.specs.Beats.{Silence}
use Rattle.heartbeats.specs.Due.{due_by}

-- ---- due moments

-- one that comes so many whole intervals after the start, and at least one; so many seconds are an interval
pub record IsDueMoment (every s due : ℕ) : Type 0 where
  pub number : ℕ
  pub some : 1 ≤ number
  pub at : due ≡ s + 1000000 * every * number

-- the moment of the last entry, and before anything came that of the start
abbrev pub moment_before : ℕ → History → ℕ
moment_before s [] = s
moment_before s (e ∷ h) = moment_of e

-- one that lies after what was before, and not after an event
pub record CameDue (every s before m : ℕ) : Type 0 where
  pub due : ℕ
  pub is : IsDueMoment every s due
  pub after : before < due
  pub by : due ≤ m

-- the last one up to a moment
pub record IsLastDue (every s m due : ℕ) : Type 0 where
  pub is : IsDueMoment every s due
  pub by : due ≤ m
  pub last : (other : ℕ) → IsDueMoment every s other → other ≤ m → other ≤ due

-- ---- when there is a beat

-- one exactly where something is so, and never two
pub record IsOneWhere (it : Type 0) (emits : List Emit) : Type 0 where
  pub most : length emits ≤ 1
  pub one : (length emits ≡ 1) ↔ it

abbrev pub HbtIsDue : Type 0
HbtIsDue =
    (silent : Silence) (n : NetHeartbeat) (c : Settings) (s : ℕ) (h : History) (e : Entry) → 1 ≤ n.every_s → IsEvent e
    → IsOneWhere (CameDue n.every_s s (moment_before s h) (moment_of e)) (hbt_out silent n c s h e)

-- it came due, and the gateway was ready at the last due moment
pub record CouldSend (every : ℕ) (c : Settings) (s : ℕ) (h : History) (e : Entry) : Type 0 where
  pub came : CameDue every s (moment_before s h) (moment_of e)
  pub ready : (due : ℕ) → IsLastDue every s (moment_of e) due → is_ready (claims_after c s (e ∷ h)) due ≡ true

abbrev pub FramesAreReady : Type 0
FramesAreReady =
    (every : ℕ) (c : Settings) (s : ℕ) (h : History) (e : Entry) → 1 ≤ every → IsEvent e → IsOneWhere (CouldSend every c s h e) (beat_out every c s h e)

-- ---- how many there are: from one entry to another no more than intervals that begin

abbrev pub HbtKeepsToGrid : Type 0
HbtKeepsToGrid =
    (n : NetHeartbeat) (c : Settings) (s : ℕ) (newer h : History) → IsHistory (newer ++ h)
    → hbt_before n c s (newer ++ h) + due_by n.every_s s (now h) ≤ hbt_before n c s h + due_by n.every_s s (now (newer ++ h))

abbrev pub FramesKeepToGrid : Type 0
FramesKeepToGrid =
    (every : ℕ) (c : Settings) (s : ℕ) (newer h : History) → IsHistory (newer ++ h)
    → beats_before every c s (newer ++ h) + due_by every s (now h) ≤ beats_before every c s h + due_by every s (now (newer ++ h))
