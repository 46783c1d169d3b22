-- The gateway's own address (ISO 11783-5) is told beside it where it changes: behind a move, where none is left, and one event behind a command.
use Rattle.std.specs.Prelude.{◌≡◌, ℕ, true, false, [], ◌∷◌, ◌++◌, Option, Some, None}
use Rattle.report_rules.specs.Rules.{own_address}
use Rattle.gate_events.specs.declared.emit.Detail.TheVariants as detail
use Rattle.gate_events.specs.Emit.{Emit}
use Rattle.history.specs.Cases.{can_frame, emitted, full}
use Rattle.history.specs.Emits.{broken}
use Rattle.history.specs.Entries.{tick}
use Rattle.history.specs.OwnCases.{fixed, fixed_start}
use Rattle.bridge.specs.BridgeSettings.{BridgeSettings}
use Rattle.bridge.specs.Gate.{gate}
use Rattle.bridge.specs.PartCases.{PartsEmit, alone, asking}

abbrev pub telling : BridgeSettings
telling = asking alone None false true

abbrev pub own_is : Option ℕ → Emit
own_is address = broken own_address (detail.Own address)

-- another device wins the address; from the new one the gateway is driven away no more, and a defence is no change
abbrev pub MoveIsTold : Type 0
MoveIsTold =
    PartsEmit telling 10000000
    (full 10300000 0x18EEFFFB 0x0200C0FF00823280 ∷ tick 10400000 ∷ full 10500000 0x18EEFF00 0x0200C0FF008232C0 ∷ [])
    (emitted 10300000 (can_frame 0x18EEFF00 0x0100C0FF008232C0)
    ∷ emitted 10300000 (own_is (Some 0))
    ∷ emitted 10500000 (can_frame 0x18EEFF00 0x0100C0FF008232C0)
    ∷ [])

-- a gateway that can't move has no address any more
abbrev pub LossIsTold : Type 0
LossIsTold =
    gate (record telling { gateway = fixed }) 10000000 (full 10300000 0x18EEFFFB 0x0000000000000000 ∷ tick 10400000 ∷ [])
    ≡ fixed_start ++ (emitted 10300000 (can_frame 0x18EEFFFE 0x0100C0FF00823240) ∷ emitted 10300000 (own_is None) ∷ [])

-- a command of three frames: the claim comes at its last one, and is told at the next event
abbrev pub CommandIsToldNext : Type 0
CommandIsToldNext =
    PartsEmit telling 10000000
    (full 10300000 0x1CECFF17 0x20090002FFD8FE00
    ∷ full 10310000 0x1CEBFF17 0x010100C0FF008232
    ∷ full 10320000 0x1CEBFF17 0x02C007FFFFFFFFFF
    ∷ tick 10330000
    ∷ [])
    (emitted 10320000 (can_frame 0x18EEFF07 0x0100C0FF008232C0) ∷ emitted 10330000 (own_is (Some 7)) ∷ [])
