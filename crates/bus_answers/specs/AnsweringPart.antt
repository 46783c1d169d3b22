-- The gateway's answers as a part beside it.
use Rattle.std.specs.Prelude.{◌≡◌, ℕ, List, Option, Some}
use Rattle.bus_identity.specs.Answers.{Kept}
use Rattle.bus_identity.specs.Payloads.{information_of}
use Rattle.gate_events.specs.Emit.{Emit}
use Rattle.history.specs.Entries.{Entry, History}
use Rattle.history.specs.Settings.{Settings}
use Rattle.settings.specs.declared.setup.Setup.{Setup}
use Rattle.bus_answers.specs.Answered.{answers, sent_before}
use Rattle.bus_answers.specs.declared.answering.Answering.{Answering}

-- the most frames of an answer
abbrev pub most_answered : ℕ
most_answered = 20

-- every gateway answers, by the payload of its product information
abbrev pub answering_asked : Setup → Option (List ℕ)
answering_asked x = Some (information_of x.settings.product)

-- nothing was answered yet
abbrev pub unanswered : List ℕ → Kept
unanswered information = record { information = information; products = 0; lists = 0 }

abbrev pub answering_stands : List ℕ → Settings → ℕ → History → Answering → Type 0
answering_stands information c s h k = k.identity ≡ sent_before c s information h

abbrev pub answering_gives : List ℕ → Settings → ℕ → History → Entry → List Emit
answering_gives information c s h e = answers c s information h e
