-- All that an event tells finds room.
use Rattle.std.proofs.Common.{ℕ, ◌≤◌, List, Option, Some, None, option_map, Result, Ok, Err, length, length-append, arith}
use Rattle.std.specs.declared.cmp.Ordering.{Ordering}
use Rattle.slot_views.specs.Slots.{IsMap}
use Rattle.fast_packet.specs.declared.key.FastKey.{FastKey}
use Rattle.ais_report.specs.declared.report.AisReport.{AisReport}
use Rattle.ais_report.specs.declared.report.AisFault.{AisFault}
use Rattle.ais_report.specs.declared.report.AisFault.TheVariants.{Short, Outside}
use Rattle.history.specs.Entries.{Entry}
use Rattle.gate_model.specs.Addresses.{AddressesKept}
use Rattle.bus_listener.specs.Kept.{Hearing, heard_step}
use Rattle.bus_listener.proofs.RoomLemmas.{step_fits as heard_fits}
use Rattle.ais_bridge.specs.AisKept.{AisKept, ais_step, most_reports}
use Rattle.ais_bridge.specs.AisOut.{report_kinds}
use Rattle.ais_bridge.specs.Reports.{said_by, said_gives, says_gives}
use Rattle.ais_bridge.specs.declared.said.Said.{Said}

said_room : (group sfi : List ℕ) (before : ℕ) (o : Option Said) → length (said_gives group sfi before o).told ≤ 1
said_room group sfi before None = omega arith
said_room group sfi before (Some x) = by x.source x.pgn x.says
  where
    by : (source pgn : ℕ) (says : Result (AisReport × ℕ) AisFault) → length (says_gives group sfi before source pgn says).told ≤ 1
    by source pgn (Ok y) = omega arith
    by source pgn (Err Short) = omega arith
    by source pgn (Err Outside) = omega arith

pub step_fits : (cmp : FastKey → FastKey → Ordering) (g : AddressesKept) (k : AisKept) (e : Entry) → IsMap cmp k.slots → k.slots.limit ≤ 256
    → length (ais_step cmp g k e).emits.told ≤ most_reports
step_fits cmp g k e map limit =
    let x : Hearing = heard_step cmp report_kinds g k.slots e in
    let says = option_map said_by x.message in
    let a = heard_fits cmp report_kinds g k.slots e map in
    let b = said_room k.group k.sfi k.lines says in
    let sum = length-append x.told (said_gives k.group k.sfi k.lines says).told in
    omega (arith, a, b, sum, limit)
