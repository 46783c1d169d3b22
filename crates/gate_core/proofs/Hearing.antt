-- What is heard of the network (IEC 61162-450) by whom the gateway hears is what its settings say.
use Rattle.std.proofs.Common.{◌≤◌, length, ap, ◌∙◌}
use Rattle.gate_model.specs.Machine.{Machine}
use Rattle.row_traffic.specs.declared.network.hearing.Hearing.{Hearing}
use Rattle.row_traffic.specs.NetCalls.{Hears, IsHeardBy}
use Rattle.gate_core.specs.Steps.{Stays}

pub still_listed : (g : Machine) (h : Hearing) → Stays g → IsHeardBy g.settings h → length h.sources.now ≤ 254 → Hears h g.network
still_listed g h stays is few = record { few = few; listed = stays.listed ∙ ap length is.sources }
