-- What the gateway emits at an entry is the same with a tick before it and without it, where what is overdue at it is.
use Rattle.std.proofs.Common.{◌≡◌, ℕ, List, ◌∷◌, ◌++◌, length, map, refl, sym, ap, ◌∙◌}
use Rattle.std.specs.Prelude.{Option}
use Rattle.datagram450.specs.Datagram as datagrams
use Rattle.n2k_id.specs.Frame.{BusFrame}
use Rattle.n2k_id.specs.Identifier.{parts_of}
use Rattle.readings.specs.declared.reading.Reading.{Reading}
use Rattle.history.specs.Emits.{Spoken, reported}
use Rattle.history.specs.Entries.{Entry, History, frame, datagram, tick, moment_of}
use Rattle.history.specs.Entries as entry
use Rattle.history.specs.FromBus.{answers_by, command_breaks, command_gives, frame_refused, from_command, from_frame, meaning_at, said_at, said_in}
use Rattle.history.specs.FromNet.{datagram_gives}
use Rattle.history.specs.Gate.{datagram_at, expired, handled, out, spoken_of}
use Rattle.history.specs.Heard.{HeardItem}
use Rattle.history.specs.Known.{Known, known}
use Rattle.history.specs.Meanings.{meaning_of}
use Rattle.history.specs.Messages.{done}
use Rattle.history.specs.Opens.{notes_of}
use Rattle.history.specs.Settings.{Receiver, Settings, receiver_of}
use Rattle.history.specs.Traces.{NotedFrame}
use Rattle.recordings.proofs.Places.{closed, place_of}
use Rattle.recordings.proofs.Renumbered.{known_as}
use Rattle.recordings.proofs.Known.{known_without}
use Rattle.recordings.proofs.Traces.{note_as}
use Rattle.recordings.proofs.Noted.{notes_apart, notes_without}
use Rattle.recordings.proofs.Messages.{done_without}
use Rattle.recordings.proofs.Said.{heard_without, items_without, said_without, spoken_without}
use Rattle.recordings.proofs.Gathered.{ap₃, joined}
use Rattle.recordings.proofs.Handled.{answers_are, answers_as, answers_at, command_breaks_as, command_gives_as, meaning_as, refused_as, refused_at}

-- what hangs on the place of an entry, what is known and which frames came
pub with_all : {X : Type 0} (F : ℕ → Known → List NotedFrame → X) (r : Receiver) (s m : ℕ) (h newer : History)
    → F (length (newer ++ h)) (known r s (newer ++ h)) (notes_of r s (newer ++ h))
    ≡ F (closed (length h) (length (newer ++ tick m ∷ h))) (known_as (closed (length h)) (known r s (newer ++ tick m ∷ h)))
    (map (note_as (closed (length h))) (notes_of r s (newer ++ tick m ∷ h)))
with_all F r s m h newer =
    ap₃ F (sym (place_of newer m h)) (known_without r s m h newer) (notes_without r s m h newer)

module _ (r : Receiver) (s m : ℕ) (h newer : History) (t : ℕ) (f : BusFrame) where
  pub refused_without : frame_refused r s (newer ++ h) t f ≡ frame_refused r s (newer ++ tick m ∷ h) t f
  refused_without =
      let with_it = newer ++ tick m ∷ h in
      with_all (λ (i : ℕ) (k : Known) (notes : List NotedFrame). refused_at r t f i k notes (done r s (newer ++ h) (frame t f))) r s m h newer
      ∙ ap (refused_at r t f (closed (length h) (length with_it)) (known_as (closed (length h)) (known r s with_it)) (map (note_as (closed (length h))) (notes_of r s with_it)))
      (done_without r s m h newer (frame t f))
      ∙ refused_as (length h) r (length with_it) (known r s with_it) (notes_of r s with_it) (notes_apart r s m h newer) t f (done r s with_it (frame t f))

  meaning_without : meaning_at r s (newer ++ h) t f ≡ meaning_at r s (newer ++ tick m ∷ h) t f
  meaning_without =
      ap (λ (k : Known). meaning_of r.kinds k.claims.own k.claims.holders (parts_of f.id)) (known_without r s m h newer)
      ∙ (let k = known r s (newer ++ tick m ∷ h) in meaning_as (closed (length h)) r.kinds k.claims.own k.claims.holders (parts_of f.id))

  answers_without : answers_by r s (newer ++ h) t f (meaning_at r s (newer ++ h) t f) ≡ answers_by r s (newer ++ tick m ∷ h) t f (meaning_at r s (newer ++ tick m ∷ h) t f)
  answers_without =
      let with_it = newer ++ tick m ∷ h in
      let meaning = meaning_at r s with_it t f in
      ap (answers_by r s (newer ++ h) t f) meaning_without
      ∙ answers_are r s (newer ++ h) t f meaning
      ∙ with_all (answers_at r t f meaning) r s m h newer
      ∙ answers_as (length h) r (length with_it) (known r s with_it) (notes_of r s with_it) (notes_apart r s m h newer) t f meaning
      ∙ sym (answers_are r s with_it t f meaning)

module _ (c : Settings) (s m : ℕ) (h newer : History) where
  frame_without : (t : ℕ) (f : BusFrame)
      → from_frame c s (newer ++ h) t f (spoken_of c s (newer ++ h)) ≡ from_frame c s (newer ++ tick m ∷ h) t f (spoken_of c s (newer ++ tick m ∷ h))
  frame_without t f =
      let r = receiver_of c in
      let with_it = newer ++ tick m ∷ h in
      joined (joined (ap reported (refused_without r s m h newer t f)) (answers_without r s m h newer t f))
      (ap (λ (x : Option Reading). said_in c (spoken_of c s (newer ++ h)) x) (said_without c s m h newer (frame t f))
      ∙ ap (λ (x : List Spoken). said_in c x (said_at c s with_it (frame t f))) (spoken_without c s m h newer))

  datagram_without : (t : ℕ) (bytes : List ℕ) → datagram_at c s (newer ++ h) t bytes ≡ datagram_at c s (newer ++ tick m ∷ h) t bytes
  datagram_without t bytes =
      ap₃ (λ (k : Known) (older items : List HeardItem). datagram_gives c k.claims.own older items (datagrams.read bytes))
      (known_without (receiver_of c) s m h newer) (heard_without c s m h newer) (items_without c s m h newer (datagram t bytes))

  command_without : (t source address : ℕ) → from_command c s (newer ++ h) t source address ≡ from_command c s (newer ++ tick m ∷ h) t source address
  command_without t source address =
      let r = receiver_of c in
      let with_it = newer ++ tick m ∷ h in
      joined (ap (λ (k : Known). reported (command_breaks k.claims source address)) (known_without r s m h newer)
      ∙ ap reported (command_breaks_as (length h) r (length with_it) (known r s with_it) (notes_of r s with_it) (notes_apart r s m h newer) source address))
      (with_all (λ (i : ℕ) (k : Known) (notes : List NotedFrame). command_gives c.name i k notes t source address) r s m h newer
      ∙ command_gives_as (length h) r (length with_it) (known r s with_it) (notes_of r s with_it) (notes_apart r s m h newer) c.name t source address)

  handled_without : (e : Entry) → handled c s (newer ++ h) e ≡ handled c s (newer ++ tick m ∷ h) e
  handled_without (frame t f) = frame_without t f
  handled_without (datagram t bytes) = datagram_without t bytes
  handled_without (tick t) = refl
  handled_without (entry.command t source address) = command_without t source address

  pub out_without : (e : Entry) → expired c s (newer ++ h) (moment_of e) ≡ expired c s (newer ++ tick m ∷ h) (moment_of e)
      → out c s (newer ++ h) e ≡ out c s (newer ++ tick m ∷ h) e
  out_without e overdue =
      joined overdue (handled_without e)
