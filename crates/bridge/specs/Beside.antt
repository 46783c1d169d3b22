-- The parts beside the gateway, in the order in which their emits go out.
use Rattle.std.specs.Prelude.{ℕ, List}
use Rattle.gate_events.specs.Emit.{Emit}
use Rattle.history.specs.Entries.{Entry, History}
use Rattle.history.specs.Settings.{Settings}
use Rattle.plain_out.specs.Pace.{Utterance}
use Rattle.parts.specs.Forms.{Form, both, lane, nothing}
use Rattle.parts.specs.PartSteps.{KeepsCommands}
use Rattle.bus_answers.proofs.Form.{answering}
use Rattle.joined_rmc.proofs.Form.{joined_rmc}
use Rattle.ais_bridge.proofs.Form.{ships}
use Rattle.further_bridge.proofs.Form.{quantities}
use Rattle.source_changes.proofs.Form.{sources}
use Rattle.own_address.proofs.Form.{own_address}
use Rattle.joined_heading.proofs.Form.{joined_headings}
use Rattle.navigation.proofs.Form.{plotters}
use Rattle.supervision.proofs.Form.{supervision}

-- those that further keys ask for
abbrev pub further : Form
further =
    both (lane quantities)
    (both (lane sources)
    (both (lane own_address)
    (both (lane joined_headings)
    (both (lane plotters)
    (both (lane supervision)
    nothing)))))

-- all
abbrev pub beside : Form
beside =
    both (lane answering)
    (both (lane joined_rmc)
    (both (lane ships)
    further))

abbrev pub BesideKept : Type 0
BesideKept = beside.kept

abbrev pub are_beside : beside.rule → Settings → ℕ → History → BesideKept → Type 0
are_beside = beside.stand

abbrev pub beside_give : beside.rule → Settings → ℕ → History → Entry → List Emit
beside_give = beside.give

abbrev pub beside_output : BesideKept → List Emit
beside_output = beside.output

abbrev pub beside_plain : BesideKept → List Emit
beside_plain = beside.plain

-- their datagrams, each with its stream
abbrev pub beside_utter : beside.rule → Settings → ℕ → History → Entry → List Utterance
beside_utter = beside.utter

abbrev pub beside_utterances : BesideKept → List Utterance
beside_utterances = beside.utterances

-- a command to go to an address is no event for them
pub beside_keep_commands : KeepsCommands are_beside
beside_keep_commands = beside.commands
