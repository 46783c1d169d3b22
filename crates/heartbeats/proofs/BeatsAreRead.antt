-- What heartbeats say on the network is read.
use Rattle.std.proofs.Common.{◌≡◌, ℕ, ◌≤◌, Bool, true, false, IsTrue, List, [], ◌∷◌, ◌++◌, refl, sym, ap, subst, ◌∙◌, arith}
use Rattle.std.specs.Prelude.{codes, Option, Some, None, if◌then◌else◌}
use Rattle.std.specs.List.{AllByRecursion}
use Rattle.std.proofs.lemmas.List.{append-nil}
use Rattle.sentence_fields.specs.Field.{IsPrintable, letter_where}
use Rattle.sentence_fields.specs.ReadBack.{parts_by}
use Rattle.sentence_fields.proofs.Bodies.{is_read_back, sentence_fits}
use Rattle.sentence_profile.specs.Laws.{IsOneSentence}
use Rattle.sentence_text.specs.Byte.{is_field_byte}
use Rattle.history.specs.Entries.{Entry, History}
use Rattle.history.specs.EntryLaws.{nets_in}
use Rattle.history.specs.Settings.{Settings}
use Rattle.history.proofs.EntrySteps.{nets_append}
use Rattle.parts.specs.Compose.{maybe_give, maybe_say}
use Rattle.parts.specs.Voices.{EachSays, in_one}
use Rattle.parts.proofs.Lines.{says_one}
use Rattle.parts.proofs.Speaking.{capitals}
use Rattle.settings.specs.Heartbeat.{IsNetHeartbeat}
use Rattle.settings.specs.declared.heartbeat.HeartbeatConfig.{HeartbeatConfig}
use Rattle.settings.specs.declared.heartbeat.NetHeartbeat.{NetHeartbeat}
use Rattle.heartbeats.specs.BeatOut.{beat_from, beat_out, beats_before, claims_after, hbt, hbt_before, hbt_emit, hbt_out, hbt_text, is_beat, is_well}
use Rattle.heartbeats.specs.Beats.{Silence, SpeaksBeats, beats_give_by, beats_say_by, hbt_says}
use Rattle.heartbeats.specs.Due.{is_due}

-- ---- HBT is a sentence

status_byte : (is_well : Bool) → IsTrue (is_field_byte (letter_where is_well 65 86))
status_byte true = refl
status_byte false = refl

printable : (every : ℕ) (is_well : Bool) (before : ℕ) → every ≤ 999 → AllByRecursion IsPrintable (hbt every is_well before)
printable every is_well before few = ((refl, few), (status_byte is_well, (tt, tt)))

hbt_is_a_sentence : (n : NetHeartbeat) (is_well : Bool) (before : ℕ) → IsNetHeartbeat n → IsOneSentence (hbt_text n.talker n.every_s is_well before)
hbt_is_a_sentence n is_well before is =
    let fields = hbt n.every_s is_well before in
    let all = printable n.every_s is_well before is.every.1 in
    record {
      parts = parts_by n.talker (codes "HBT") fields;
      is_read = (is_read_back n.talker (codes "HBT") fields is.talker.len refl (capitals n.talker is.talker) refl all (omega arith)).is_sentence;
      short = sentence_fits n.talker (codes "HBT") fields is.talker.len refl all (omega arith);
    }

hbt_is_read : (silent : Silence) (n : NetHeartbeat) (b : HeartbeatConfig) (c : Settings) (s : ℕ) (h : History) (e : Entry) → SpeaksBeats b c → IsNetHeartbeat n
    → EachSays (nets_in (hbt_out silent n c s h e)) (hbt_says silent n c s h e)
hbt_is_read silent n b c s h e speaks is = by (is_due n.every_s s h e)
  where
    well : Bool
    well = is_well silent c s h e

    before : ℕ
    before = hbt_before n c s h

    by : (due : Bool) → EachSays (nets_in (if due then hbt_emit n c.sfi well before ∷ [] else [])) (if due then in_one (hbt_text n.talker n.every_s well before) else [])
    by true = (says_one c.sfi before (hbt_text n.talker n.every_s well before) speaks.sfi (hbt_is_a_sentence n well before is), tt)
    by false = tt

net_is_read : (silent : Silence) (b : HeartbeatConfig) (c : Settings) (s : ℕ) (h : History) (e : Entry) → SpeaksBeats b c → (n : Option NetHeartbeat) → n ≡ b.net
    → EachSays (nets_in (maybe_give (hbt_out silent) n c s h e)) (maybe_say (hbt_says silent) n c s h e)
net_is_read silent b c s h e speaks None there = tt
net_is_read silent b c s h e speaks (Some n) there = hbt_is_read silent n b c s h e speaks (speaks.net n (sym there))

-- ---- a frame is no datagram

no_datagram : (sent : Bool) (own : Option ℕ) (before : ℕ) → nets_in (if sent then beat_from own before else []) ≡ []
no_datagram true None before = refl
no_datagram true (Some own) before = refl
no_datagram false own before = refl

bus_is_quiet : (every : Option ℕ) (c : Settings) (s : ℕ) (h : History) (e : Entry) → nets_in (maybe_give beat_out every c s h e) ≡ []
bus_is_quiet None c s h e = refl
bus_is_quiet (Some every) c s h e = no_datagram (is_beat every c s h e) (claims_after c s (e ∷ h)).own (beats_before every c s h)

pub beats_are_read : (silent : Silence) (b : HeartbeatConfig) (c : Settings) (s : ℕ) (h : History) (e : Entry) → SpeaksBeats b c
    → EachSays (nets_in (beats_give_by silent b c s h e)) (beats_say_by silent b c s h e)
beats_are_read silent b c s h e speaks =
    let net = maybe_give (hbt_out silent) b.net c s h e in
    let bus = maybe_give beat_out b.bus_every_s c s h e in
    let alone : nets_in (net ++ bus) ≡ nets_in net =
    nets_append net bus ∙ ap (λ (ds : List (List ℕ × List ℕ)). nets_in net ++ ds) (bus_is_quiet b.bus_every_s c s h e) ∙ append-nil (nets_in net) in
    subst (λ (ds : List (List ℕ × List ℕ)). EachSays ds (beats_say_by silent b c s h e)) (sym alone) (net_is_read silent b c s h e speaks b.net refl)
