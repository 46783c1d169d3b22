-- What goes out on the network once more as plain sentences (IEC 61162-1): of each datagram (IEC 61162-450) the sentences of its lines, in
-- their order, without the header and the TAG blocks.
use Rattle.std.specs.Prelude.{ℕ, List, [], ◌∷◌, Result, Ok, Err}
use Rattle.std.specs.List.{flat_map}
use Rattle.datagram450.specs.declared.fault.DatagramFault.{DatagramFault}
use Rattle.datagram450.specs.Datagram.{Item, line, bad, read}
use Rattle.gate_events.specs.Emit.{Emit, can, net, report}

-- the sentence of a line, its CR and LF included; what is no line has none
abbrev pub sentence_of : Item → List ℕ
sentence_of (line at said text parts) = text
sentence_of (bad rule at) = []

abbrev pub sentences_of : Result (List Item) DatagramFault → List ℕ
sentences_of (Ok items) = flat_map sentence_of items
sentences_of (Err fault) = []

-- the sentences that are read of a datagram
abbrev pub sentences_in : List ℕ → List ℕ
sentences_in datagram = sentences_of (read datagram)

-- of a datagram one for this transmission group
abbrev pub plain_of : List ℕ → Emit → List Emit
plain_of group (can frame) = []
plain_of group (net other datagram) = net group (sentences_in datagram) ∷ []
plain_of group (report what) = []

abbrev pub plain_out : List ℕ → List Emit → List Emit
plain_out group emits = flat_map (plain_of group) emits
