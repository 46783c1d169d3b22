-- By what is kept of each subject and source, its freshness is known.
use Rattle.std.specs.Prelude.{◌≡◌, ℕ, Bool, true, false, ◌&&◌, ◌==◌, List, ◌∷◌, length, Option, Some, None, if◌then◌else◌}
use Rattle.n2k_id.specs.Frame.{BusFrame}
use Rattle.readings.specs.declared.rows.Row.{Row}
use Rattle.claim_table.specs.Claims.{claim}
use Rattle.history.specs.AddressLaws.{IsReceiver}
use Rattle.history.specs.TraceLaws.{is_lost}
use Rattle.history.specs.Entries.{History, frame, command}
use Rattle.history.specs.Settings.{RowRule, Receiver, same_text}
use Rattle.source_choice.specs.declared.told.Told.{Told}
use Rattle.history.specs.Subjects.{is_about, last_of}
use Rattle.history.specs.Known.{known, is_claim, claim_by}
use Rattle.history.specs.Messages.{Message, done, messages_of}
use Rattle.history.specs.Choice.{is_row}
use Rattle.history.specs.NetReadings.{NetReading, last_heard, counts_still, is_net_fresh}

-- the message is of the subject, from the source
abbrev pub is_told : (Message → Option Told) → ℕ → ℕ → Option Message → Bool
is_told tells subject source None = false
is_told tells subject source (Some d) = (d.source == source) && is_about subject (tells d)

-- a message takes the place of the one before, of its subject and its source
abbrev pub MessagesAreKept : Type 0
MessagesAreKept =
    (tells : Message → Option Told) (c : Receiver) (s : ℕ) (h : History) (m : ℕ) (f : BusFrame) (subject source : ℕ) → IsReceiver c → is_claim f ≡ false
    → last_of tells (known c s (frame m f ∷ h)).claims.holders subject source (messages_of c s (frame m f ∷ h))
    ≡ (if is_told tells subject source (done c s h (frame m f)) then done c s h (frame m f)
    else last_of tells (known c s h).claims.holders subject source (messages_of c s h))

-- a claim forgets those of the addresses that were lost by it, and no others
abbrev pub ClaimsForget : Type 0
ClaimsForget =
    (tells : Message → Option Told) (c : Receiver) (s : ℕ) (h : History) (m : ℕ) (f : BusFrame) (subject source : ℕ) → IsReceiver c → is_claim f ≡ true
    → last_of tells (known c s (frame m f ∷ h)).claims.holders subject source (messages_of c s (frame m f ∷ h))
    ≡ (if is_lost (claim (known c s h).claims (claim_by (length h) m f)).step source then None
    else last_of tells (known c s h).claims.holders subject source (messages_of c s h))

-- a command forgets none
abbrev pub CommandsForgetNone : Type 0
CommandsForgetNone =
    (tells : Message → Option Told) (c : Receiver) (s : ℕ) (h : History) (m from address subject source : ℕ)
    → last_of tells (known c s (command m from address ∷ h)).claims.holders subject source (messages_of c s (command m from address ∷ h))
    ≡ last_of tells (known c s h).claims.holders subject source (messages_of c s h)

-- on the network there are no claims: a reading takes the place of the one before, of its row and its source, and none is forgotten
abbrev pub ReadingsAreKept : Type 0
ReadingsAreKept =
    (rule : RowRule) (row : Row) (source : List ℕ) (m : ℕ) (n : NetReading) (older : List NetReading)
    → (is_net_fresh rule row source m older ≡ counts_still rule.timeout m (last_heard row source older))
    × (last_heard row source (n ∷ older) ≡ (if same_text n.line.source source && is_row row (Some n.reading) then Some n else last_heard row source older))
