-- Whose message of a subject is the first, by what is kept of each address, and whose NAME a message is of.
use Rattle.std.specs.Prelude.{◌≡◌, ℕ, zero, suc, ◌≤◌, true, not, ◌==◌, List, [], ◌∷◌, length, Option, Some, None}
use Rattle.std.specs.List.{AllByRecursion, list_any}
use Rattle.readings.specs.declared.rows.Row.{Row}
use Rattle.readings.specs.Rows.{row_of}
use Rattle.claim_table.specs.Claims.{holder_at}
use Rattle.claim_table.specs.declared.answer.Holder.{Holder}
use Rattle.source_choice.specs.declared.note.Note.{Note}
use Rattle.source_choice.specs.declared.rank.Rank.{Rank}
use Rattle.source_choice.specs.Notes.{SubjectNotes, AreFrom, note_of, is_selected}
use Rattle.source_choice.specs.SubjectRules.{SubjectRule}
use Rattle.history.specs.AddressLaws.{IsReceiver}
use Rattle.history.specs.Entries.{History}
use Rattle.history.specs.Settings.{Settings, rule_of, Receiver}
use Rattle.history.specs.Known.{known}
use Rattle.history.specs.Messages.{Message, messages_of}
use Rattle.source_choice.specs.declared.told.Told.{Told}
use Rattle.history.specs.Subjects.{holder_rank, is_first, last_of, outranks}
use Rattle.history.specs.Subjects as subjects
use Rattle.history.specs.Choice.{is_usable}
use Rattle.history.specs.Heard.{place_of}
use Rattle.history.specs.NetReadings.{NetReading, last_heard, is_net_selected}

-- the addresses below a number
abbrev pub addresses : ℕ → List ℕ
addresses zero = []
addresses (suc n) = n ∷ addresses n

-- a rank is the first exactly where none of the addresses that can be held outranks it
abbrev pub FirstByAddresses : Type 0
FirstByAddresses =
    (tells : Message → Option Told) (rule : SubjectRule) (holders : List (Option Holder)) (subject : ℕ) (rank : Rank) (m : ℕ) (older : List Message) (n : ℕ)
    → length holders ≤ n
    → is_first tells rule holders subject m older (Some rank) ≡ not (list_any (outranks tells rule holders subject rank m older) (addresses n))

-- what is noted of an address of a subject: its last message since its holder has it, where that NAME has a rank
abbrev pub noted_with : (Message → Option Told) → ℕ → Option Rank → Option Message → Option Note
noted_with tells a None last = None
noted_with tells a (Some rank) None = None
noted_with tells a (Some rank) (Some d) = Some (record { source = a; rank = rank; moment = d.moment; usable = subjects.is_usable (tells d) })

abbrev pub kept_note : (Message → Option Told) → SubjectRule → List (Option Holder) → ℕ → List Message → ℕ → Option Note
kept_note tells rule holders subject older a = noted_with tells a (holder_rank rule (holder_at holders a)) (last_of tells holders subject a older)

-- notes of a subject that hold this of each address select a message exactly where its rank is the first
pub record HoldsNotes (tells : Message → Option Told) (rule : SubjectRule) (holders : List (Option Holder)) (subject : ℕ) (older : List Message) (s : SubjectNotes) : Type 0 where
  pub timeout : s.timeout ≡ rule.timeout
  pub apart : AreFrom 0 s.sources s.notes
  pub notes : (a : ℕ) → note_of a s.notes ≡ kept_note tells rule holders subject older a

abbrev pub FirstByNotes : Type 0
FirstByNotes =
    (tells : Message → Option Told) (rule : SubjectRule) (holders : List (Option Holder)) (subject : ℕ) (older : List Message) (s : SubjectNotes) (source : ℕ) (rank : Rank) (m : ℕ)
    → HoldsNotes tells rule holders subject older s
    → holder_rank rule (holder_at holders source) ≡ Some rank → is_selected s source rank m ≡ is_first tells rule holders subject m older (Some rank)

-- the same of rows from the network, where a source goes by its place among those that are listed
abbrev pub net_noted : ℕ → Option NetReading → Option Note
net_noted place None = None
net_noted place (Some n) = Some (record {
  source = place;
  rank = record { place = place; name = 0 };
  moment = n.line.moment;
  usable = is_usable (Some n.reading);
})

pub record HoldsNetNotes (c : Settings) (row : Row) (older : List NetReading) (r : SubjectNotes) : Type 0 where
  pub timeout : r.timeout ≡ (rule_of c row).timeout
  pub apart : AreFrom 0 r.sources r.notes
  pub notes : (source : List ℕ) (place : ℕ) → place_of c source ≡ Some place → note_of place r.notes ≡ net_noted place (last_heard row source older)
  pub listed : (place : ℕ) (x : Note) → note_of place r.notes ≡ Some x → (source : List ℕ) × (place_of c source ≡ Some place)

abbrev pub FirstNetByNotes : Type 0
FirstNetByNotes =
    (c : Settings) (older : List NetReading) (n : NetReading) (r : SubjectNotes) (place : ℕ) → HoldsNetNotes c (row_of n.reading) older r
    → place_of c n.line.source ≡ Some place → is_selected r place (record { place = place; name = 0 }) n.line.moment ≡ is_net_selected c older n

-- each message from an address since its holder has it is of the holder's NAME
abbrev pub IsOfHolder : ℕ → Holder → Message → Type 0
IsOfHolder a holder d = (d.source == a) ≡ true → holder.since ≤ d.index → d.name ≡ holder.name.0

abbrev pub MessagesAreOfHolders : Type 0
MessagesAreOfHolders =
    (r : Receiver) (s : ℕ) (h : History) (a : ℕ) (holder : Holder) → IsReceiver r → holder_at (known r s h).claims.holders a ≡ Some holder
    → AllByRecursion (IsOfHolder a holder) (messages_of r s h)
