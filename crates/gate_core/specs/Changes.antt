-- Which addresses changed hands by the last entry (ISO 11783-5).
use Rattle.gate_model.specs.Addresses as plain
use Rattle.gate_core.specs.declared.addresses.Changed.{Changed}

abbrev pub changed_of : Changed → plain.Changed
changed_of c = record { left = c.left; won = c.won }
