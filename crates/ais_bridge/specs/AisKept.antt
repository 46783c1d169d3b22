-- What the bridge keeps, as plain values, and what an event makes of it and gives. Nothing here speaks of what came before.
use Rattle.std.specs.Prelude.{ℕ, ◌+◌, ◌%◌, List, [], ◌++◌, Option, option_map}
use Rattle.std.specs.declared.cmp.Ordering.{Ordering}
use Rattle.slot_views.specs.Slots.{SlotMap}
use Rattle.fast_packet.specs.declared.key.FastKey.{FastKey}
use Rattle.tag_block.specs.Tag.{most_count}
use Rattle.settings.specs.declared.ais.AisConfig.{AisConfig}
use Rattle.history.specs.Entries.{Entry}
use Rattle.gate_events.specs.Emit.{Emit}
use Rattle.gate_model.specs.Addresses.{AddressesKept}
use Rattle.gate_outbox.specs.Output.{Emitted}
use Rattle.bus_listener.specs.Kept.{Hearing, heard_step}
use Rattle.ais_bridge.specs.AisOut.{report_kinds}
use Rattle.ais_bridge.specs.Reports.{line_count, said_by, said_gives}
use Rattle.ais_bridge.specs.declared.said.Said.{Said}

pub record AisKept : Type 0 where
  -- the transmission group, and the system function identifier by which it speaks
  pub group : List ℕ
  pub sfi : List ℕ
  -- the reports in the making
  pub slots : SlotMap FastKey
  -- how many lines were said, modulo the greatest count
  pub lines : ℕ

abbrev pub ais_opened : AisConfig → List ℕ → AisKept
ais_opened a sfi = record { group = a.group; sfi = sfi; slots = record { limit = a.slots; entries = [] }; lines = 0 }

-- what an event leaves and gives
pub record AisStep : Type 0 where
  pub after : AisKept
  pub emits : Emitted

-- the most that an event tells
abbrev pub most_reports : ℕ
most_reports = 299

-- behind what was told before
abbrev pub behind : List Emit → AisStep → AisStep
behind told x = record { after = x.after; emits = record { told = told ++ x.emits.told; posted = x.emits.posted } }

-- a message is passed on, or breaks a rule
abbrev pub passed_on : AisKept → Option Said → AisStep
passed_on k x = record {
  after = record k { lines = (k.lines + line_count x) % most_count };
  emits = said_gives k.group k.sfi k.lines x;
}

-- an event, by what is heard
abbrev pub with_heard : AisKept → Hearing → AisStep
with_heard k x = behind x.told (passed_on (record k { slots = x.slots }) (option_map said_by x.message))

-- and by what the gateway keeps of the addresses after it
abbrev pub ais_step : (FastKey → FastKey → Ordering) → AddressesKept → AisKept → Entry → AisStep
ais_step cmp g k e = with_heard k (heard_step cmp report_kinds g k.slots e)
