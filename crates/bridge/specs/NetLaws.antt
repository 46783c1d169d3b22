-- Whatever is said on the network can be read: a reader of IEC 61162-450 finds in each datagram just the sentences that were said.
use Rattle.std.specs.Prelude.{◌≡◌, ℕ, map, Some}
use Rattle.datagram450.specs.Datagram.{all_of}
use Rattle.gate_events.specs.Emit.{net}
use Rattle.history.specs.Entries.{Entry, History}
use Rattle.history.specs.EntryLaws.{nets_in}
use Rattle.settings.specs.Setup.{IsSetup, IsTyped}
use Rattle.settings.specs.declared.setup.Setup.{Setup}
use Rattle.plain_out.specs.Pace.{AreAmong}
use Rattle.parts.specs.Voices.{EachSays}
use Rattle.bridge.specs.BridgeSettings.{BridgeSettings, PlainRule, bridge_settings_of}
use Rattle.bridge.specs.Gate.{plain_at, tagged_out}
use Rattle.bridge.specs.Sentences.{all_say, said_again}
use Rattle.bridge.specs.Speaking.{Speaks}

-- at every entry after every history, of all that goes out but plain sentences
abbrev pub DatagramsAreRead : Type 0
DatagramsAreRead = (p : BridgeSettings) (s : ℕ) (h : History) (e : Entry) → Speaks p → EachSays (nets_in (tagged_out p s h e)) (all_say p s h e)

-- so plain sentences that don't pause are those that were said, all of them but the rows that a part is said in place of
abbrev pub PlainSaysAll : Type 0
PlainSaysAll =
    (p : BridgeSettings) (s : ℕ) (h : History) (e : Entry) (rule : PlainRule) → Speaks p → p.plain ≡ Some rule → rule.every ≡ 0
    → plain_at p s h e ≡ map (λ sentences. net rule.group (all_of sentences)) (said_again p s h e)

-- and those that pause are some of them, in their order
abbrev pub PlainSaysNothingElse : Type 0
PlainSaysNothingElse =
    (p : BridgeSettings) (s : ℕ) (h : History) (e : Entry) (rule : PlainRule) → Speaks p → p.plain ≡ Some rule
    → AreAmong (plain_at p s h e) (map (λ sentences. net rule.group (all_of sentences)) (said_again p s h e))

-- ---- what is configured can be understood

abbrev pub ValidSettingsSpeak : Type 0
ValidSettingsSpeak = (x : Setup) → IsTyped x → IsSetup x → Speaks (bridge_settings_of x)
