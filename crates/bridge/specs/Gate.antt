-- What the gateway with the parts beside it emits, over everything that ever came: at each event what the gateway itself emits, then what each
-- part gives, in their order; the datagrams of these once more as plain sentences; and then what it emits at the command that the event completes
-- (ISO 11783-5).
use Rattle.std.specs.Prelude.{◌≡◌, ℕ, Bool, false, List, [], ◌∷◌, ◌++◌, Option, Some, None, option_map, if◌then◌else◌}
use Rattle.gate_events.specs.Emit.{Emit, Emitted}
use Rattle.history.specs.Entries as entry
use Rattle.history.specs.Entries.{Entry, History, moment_of}
use Rattle.history.specs.FromBus.{said_at}
use Rattle.history.specs.Gate as of_gateway
use Rattle.history.specs.Gate.{Stepped, out, with_command_by, stepped_by, events_by, gate_by}
use Rattle.plain_out.specs.Pace.{Utterance, Voice, opened_voice, said_all, uttered}
use Rattle.plain_out.specs.Streams.{reading_stream}
use Rattle.plain_out.specs.declared.stream.Stream.{Stream}
use Rattle.plain_out.specs.declared.stream.Stream.TheVariants as stream
use Rattle.readings.specs.declared.rows.Row.TheVariants as row
use Rattle.parts.specs.Compose.{maybe_give}
use Rattle.ais_bridge.specs.AisOut.{ais_out}
use Rattle.bus_answers.specs.AnsweringPart.{answering_gives}
use Rattle.joined_rmc.specs.RmcPart.{joining_gives}
use Rattle.bridge.specs.Beside.{beside_give, beside_utter, further}
use Rattle.bridge.specs.BridgeSettings.{BridgeSettings, PlainRule}
use Rattle.bridge.specs.declared.replaced.Replaced.{Replaced}

-- ---- plain sentences, where they are said

abbrev pub voice_by : Option PlainRule → Option Voice
voice_by None = None
voice_by (Some rule) = Some (opened_voice rule.group rule.every)

-- of these datagrams at this moment
abbrev pub plain_of : Option Voice → ℕ → List Utterance → List Emit
plain_of None m us = []
plain_of (Some v) m us = (said_all v m us).plain

-- and what is kept then
abbrev pub voice_after : Option Voice → ℕ → List Utterance → Option Voice
voice_after None m us = None
voice_after (Some v) m us = Some (said_all v m us).after

-- ---- a part is said plain in place of a row

abbrev pub is_replaced : Replaced → Option Stream → Bool
is_replaced replaced (Some (stream.Row row.HeadingMagnetic)) = replaced.heading
is_replaced replaced (Some (stream.Row row.CrossTrack)) = replaced.cross_track
is_replaced replaced _ = false

abbrev pub own_uttered : Replaced → Option Stream → List Emit → List Utterance
own_uttered replaced stream emits = if is_replaced replaced stream then [] else uttered stream emits

module _ (p : BridgeSettings) (s : ℕ) where
  -- what the parts beside the gateway give
  abbrev pub given : History → Entry → List Emit
  given h e = beside_give p.parts p.gateway s h e

  -- but for plain sentences
  abbrev pub tagged_out : History → Entry → List Emit
  tagged_out h e = out p.gateway s h e ++ given h e

  -- the datagrams of it that are said plain, each with its stream: the gateway itself says a reading
  abbrev pub own_utters : History → Entry → List Utterance
  own_utters h e = own_uttered p.replaced (option_map reading_stream (said_at p.gateway s h e)) (out p.gateway s h e)

  abbrev pub all_utter : History → Entry → List Utterance
  all_utter h e = own_utters h e ++ beside_utter p.parts p.gateway s h e

  -- what is kept of plain sentences: a command is no event for them
  abbrev pub voice_with : Option Voice → History → Entry → Option Voice
  voice_with voice h (entry.frame m f) = voice_after voice m (all_utter h (entry.frame m f))
  voice_with voice h (entry.datagram m bytes) = voice_after voice m (all_utter h (entry.datagram m bytes))
  voice_with voice h (entry.tick m) = voice_after voice m (all_utter h (entry.tick m))
  voice_with voice h (entry.command m source address) = voice

  abbrev pub voice_in : History → Option Voice
  voice_in [] = voice_by p.plain
  voice_in (e ∷ h) = voice_with (voice_in h) h e

  abbrev pub plain_at : History → Entry → List Emit
  plain_at h e = plain_of (voice_in h) (moment_of e) (all_utter h e)

  abbrev pub all_out : History → Entry → List Emit
  all_out h e = tagged_out h e ++ plain_at h e

  abbrev pub opening : List Emitted
  opening = of_gateway.opening p.gateway s

  -- ---- events that are offered, with the commands that they complete

  abbrev pub with_command : History → Entry → Option Entry → Stepped p.gateway s
  with_command h e ordered = with_command_by p.gateway s all_out h e ordered

  abbrev pub stepped : History → Entry → Stepped p.gateway s
  stepped h e = stepped_by p.gateway s all_out h e

  abbrev pub from_events : History → List Entry → List Emitted
  from_events h events = events_by p.gateway s all_out h events

  abbrev pub gate : List Entry → List Emitted
  gate events = gate_by p.gateway s all_out events

-- where no further key asks for a part, the gateway, its answers, RMC and ships are all
abbrev pub NothingFurther : Type 0
NothingFurther =
    (p : BridgeSettings) (s : ℕ) (h : History) (e : Entry) → p.parts.1.1.1 ≡ further.none → p.plain ≡ None
    → all_out p s h e
    ≡ out p.gateway s h e
    ++ (maybe_give answering_gives p.parts.0 p.gateway s h e
    ++ (maybe_give joining_gives p.parts.1.0 p.gateway s h e ++ maybe_give ais_out p.parts.1.1.0 p.gateway s h e))
