-- What the code hands over of a message that is said on the network, and of its sender.
use Rattle.std.specs.Prelude.{ℕ, List, [], map}
use Rattle.sentence_fields.specs.declared.lines.SentenceText.{SentenceText}
use Rattle.gate_model.specs.Said.{Complete}
use Rattle.row_traffic.specs.declared.said.Sender.{Sender}

-- a message from it; what it says is read already
abbrev pub message_from : Sender → Complete
message_from sender = record { moment = sender.moment; source = sender.source; name = sender.name.0; pgn = 0; payload = [] }

abbrev pub texts : List SentenceText → List (List ℕ)
texts sentences = map (λ text. text.bytes.items) sentences
