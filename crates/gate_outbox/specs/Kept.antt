-- Frames and reports, as they are kept.
use Rattle.std.specs.Prelude.{ℕ, Bool, if◌then◌else◌, List, [], ◌∷◌, map, take, Option, Some, None}
use Rattle.std.specs.Borrow.{Bor}
use Rattle.n2k_id.specs.Frame.{IsFrame, bus_frame}
use Rattle.gate_events.specs.Emit.{Emit, can, net}
use Rattle.history.specs.Emits.{broken}
use Rattle.gate_outbox.specs.declared.datagram.Datagram.{Datagram}
use Rattle.gate_outbox.specs.declared.kept.Kept.{Kept}
use Rattle.gate_outbox.specs.declared.kept.Kept.TheVariants as kept

-- a frame is valid
abbrev pub IsKept : Kept → Type 0
IsKept (kept.Frame len id bytes) = IsFrame (record { id = id; len = len; bytes = bytes })
IsKept (kept.Report rule what) = Unit {0}

abbrev pub kept_emit : Kept → Emit
kept_emit (kept.Frame len id bytes) = can (bus_frame (record { id = id; len = len; bytes = bytes }))
kept_emit (kept.Report rule what) = broken rule what

-- the emits of the first cells
abbrev pub first_emits : ℕ → List Kept → List Emit
first_emits count cells = map kept_emit (take count cells)

-- the datagram, where it is there
abbrev pub posted_emits : Bool → Datagram → List Emit
posted_emits posted d = if posted then net d.group d.packet.items ∷ [] else []

-- the same of one that is lent
abbrev pub lent_emits : Option (Bor Datagram) → List Emit
lent_emits None = []
lent_emits (Some d) = net d.now.group d.now.packet.items ∷ []
