-- What a device sends alone decides, with the claims and commands, which of its messages are complete.
use Rattle.std.specs.Prelude.{◌≡◌, ℕ, Bool, true, false, ◌&&◌, ◌||◌, ◌==◌, List, [], ◌∷◌, map, filter, is_some}
use Rattle.n2k_id.specs.Identifier.{parts_of}
use Rattle.pgn_profile.specs.declared.kinds.Kind.{Kind}
use Rattle.fast_packet.specs.FastRuns as fast
use Rattle.iso_transport.specs.Audience.{key_of}
use Rattle.iso_transport.specs.IsoRuns as iso
use Rattle.history.specs.AddressLaws.{IsReceiver}
use Rattle.history.specs.Entries.{Entry, History, frame, datagram, tick, command}
use Rattle.history.specs.Settings.{Receiver}
use Rattle.history.specs.Known.{known, is_claim, held_since}
use Rattle.history.specs.Traces.{NotedFrame, iso_piece}
use Rattle.history.specs.Opens.{is_fast}
use Rattle.history.specs.KeyLaws.{concerns, the_note}
use Rattle.history.specs.Messages.{Message, messages_of}
use Rattle.claim_table.specs.Claims.{Claims}

-- the claims, the commands and the frames from an address
abbrev pub keeps : ℕ → Entry → Bool
keeps a (frame m f) = is_claim f || ((parts_of f.id).source == a)
keeps a (datagram m bytes) = false
keeps a (tick m) = false
keeps a (command m source address) = true

abbrev pub narrowed : ℕ → History → History
narrowed a h = filter (keeps a) h

-- a message, whatever came between
pub record Plain : Type 0 where
  pub moment : ℕ
  pub source : ℕ
  pub name : ℕ
  pub pgn : ℕ
  pub payload : List ℕ

abbrev pub plain : Message → Plain
plain d = record { moment = d.moment; source = d.source; name = d.name; pgn = d.pgn; payload = d.payload }

abbrev pub from : ℕ → List Message → List Plain
from a older = map plain (filter (λ d. d.source == a) older)

-- a frame opens a message: it begins a fast packet of a source that holds its address, or a session that concerns the gateway
abbrev pub opens_message : (ℕ → Kind) → Claims → NotedFrame → Bool
opens_message kinds claims n =
    (is_some (held_since claims.holders n.parts.source) && (is_fast (kinds n.parts.pgn) && fast.is_opener n.bytes))
    || (concerns claims n (key_of n.parts) && iso.is_opener (key_of n.parts).addressed (iso_piece n))

-- by what is known when it comes, the frame is no opener from the address, or finds room
abbrev pub FindsRoom : (ℕ → Kind) → ℕ → Claims → NotedFrame → Type 0
FindsRoom kinds a claims n = (n.parts.source == a) ≡ true → opens_message kinds claims n ≡ true → n.admitted ≡ true

-- no opener from the address was refused for want of room
abbrev pub NoneRefused : Receiver → ℕ → History → ℕ → Type 0
NoneRefused c s [] a = Unit {0}
NoneRefused c s (frame m f ∷ h) a = FindsRoom c.kinds a (known c s h).claims (the_note c s h m f) × NoneRefused c s h a
NoneRefused c s (datagram m bytes ∷ h) a = NoneRefused c s h a
NoneRefused c s (tick m ∷ h) a = NoneRefused c s h a
NoneRefused c s (command m source address ∷ h) a = NoneRefused c s h a

abbrev pub Isolation : Type 0
Isolation =
    (c : Receiver) (s : ℕ) (h : History) (a : ℕ) → IsReceiver c → NoneRefused c s h a
    → from a (messages_of c s h) ≡ from a (messages_of c s (narrowed a h))

-- two receivers of one NAME and address, with the same presets and the same messages, that differ in all else as they like: where the
-- claims, the commands and the frames from an address are the same in their histories, with the same moments, so are the messages from it
abbrev pub IsolationOfTwo : Type 0
IsolationOfTwo =
    (c d : Receiver) (s : ℕ) (h g : History) (a : ℕ) → IsReceiver c → d.name ≡ c.name → d.address ≡ c.address
    → d.presets ≡ c.presets → ((p : ℕ) → d.kinds p ≡ c.kinds p)
    → narrowed a g ≡ narrowed a h → NoneRefused c s h a → NoneRefused d s g a
    → from a (messages_of c s h) ≡ from a (messages_of d s g)
