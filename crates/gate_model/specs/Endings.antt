-- What is reported of the messages and groups that end before they are complete, as the maps hold them: in the order of their keys.
use Rattle.std.specs.Prelude.{ℕ, Bool, List, [], ◌∷◌, filter, Option}
use Rattle.std.specs.List.{flat_map}
use Rattle.report_rules.specs.Rules as rules
use Rattle.gate_events.specs.declared.emit.Detail.TheVariants as detail
use Rattle.slot_views.specs.Slots.{Entry, SlotMap, has_expired}
use Rattle.fast_packet.specs.declared.key.FastKey.{FastKey}
use Rattle.iso_transport.specs.declared.key.IsoKey.{IsoKey}
use Rattle.iso_transport.specs.Verdicts.{pgn_in}
use Rattle.tag_block.specs.declared.group_key.GroupKey.{GroupKey}
use Rattle.gate_events.specs.Emit.{Emit}
use Rattle.history.specs.Emits.{broken, of_source, replied}
use Rattle.history.specs.Endings.{abort_reply}

-- ---- by time

abbrev pub fast_overdue : SlotMap FastKey → ℕ → List Emit
fast_overdue slots m = flat_map (λ e. of_source rules.expired e.0.source e.0.pgn ∷ []) (filter (has_expired m) slots.entries)

-- the sender of an addressed session is told besides
abbrev pub sessions_overdue : Option ℕ → SlotMap IsoKey → ℕ → List Emit
sessions_overdue own slots m =
    flat_map
    (λ e. of_source rules.expired e.0.source (pgn_in e.1) ∷ replied own e.0.source (abort_reply e.0.addressed (pgn_in e.1)))
    (filter (has_expired m) slots.entries)

abbrev pub groups_overdue : SlotMap GroupKey → ℕ → List Emit
groups_overdue slots m = flat_map (λ e. broken rules.group_expired (detail.GroupKey e.0.sfi e.0.code) ∷ []) (filter (has_expired m) slots.entries)

-- ---- because an address changes hands: those that pass a test

abbrev pub fast_lost : (FastKey × Entry → Bool) → SlotMap FastKey → List Emit
fast_lost p slots = flat_map (λ e. of_source rules.claim_lost e.0.source e.0.pgn ∷ []) (filter p slots.entries)

abbrev pub sessions_lost : (IsoKey × Entry → Bool) → SlotMap IsoKey → List Emit
sessions_lost p slots = flat_map (λ e. of_source rules.claim_lost e.0.source (pgn_in e.1) ∷ []) (filter p slots.entries)
