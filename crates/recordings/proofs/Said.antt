-- What is said on the network, and what is heard from it, is the same with a tick and without it.
use Rattle.std.proofs.Common.{◌≡◌, ℕ, Bool, List, [], ◌∷◌, ◌++◌, length, map, refl, ap, ◌∙◌}
use Rattle.std.specs.Prelude.{Option, Some, None, option_and_then, option_map, if◌then◌else◌}
use Rattle.datagram450.specs.Datagram as datagrams
use Rattle.readings.specs.declared.reading.Reading.{Reading}
use Rattle.claim_table.specs.Claims.{is_ready}
use Rattle.claim_table.specs.declared.answer.Holder.{Holder}
use Rattle.history.specs.Choice.{reading_of, row_rules, row_told, selected, selected_reading, told_by}
use Rattle.history.specs.Entries.{Entry, History, frame, datagram, tick}
use Rattle.history.specs.Entries as entry
use Rattle.history.specs.FromBus.{said_at, selected_in}
use Rattle.history.specs.FromNet.{items_in}
use Rattle.history.specs.Gate.{heard, items_of, spoken_of, with_spoken}
use Rattle.history.specs.Heard.{HeardItem, heard_items, with_each}
use Rattle.history.specs.Known.{Known, known}
use Rattle.history.specs.Messages.{Message, done, messages_of}
use Rattle.history.specs.Settings.{Settings, receiver_of}
use Rattle.recordings.proofs.Places.{closed}
use Rattle.recordings.proofs.Renumbered.{holder_as}
use Rattle.recordings.proofs.Known.{known_without}
use Rattle.recordings.proofs.Noted.{message_as}
use Rattle.recordings.proofs.Messages.{MessagesApart, chosen_as, done_without, messages_apart, messages_without}
use Rattle.recordings.proofs.Gathered.{ap₃}

-- ---- the message that is selected

module _ (c : Settings) (n : ℕ) (holders : List (Option Holder)) (older : List Message) (apart : MessagesApart n older) where
  selected_as : (d : Message)
      → selected c (map (holder_as (closed n)) holders) (map (message_as (closed n)) older) (message_as (closed n) d) ≡ selected c holders older d
  selected_as d = by (reading_of d)
    where
      by : (r : Option Reading) → option_and_then (selected_reading c (map (holder_as (closed n)) holders) (map (message_as (closed n)) older) (message_as (closed n) d)) r
          ≡ option_and_then (selected_reading c holders older d) r
      by None = refl
      by (Some r) = ap (λ (b : Bool). if b then Some r else None) (chosen_as row_told n (λ x. refl) (row_rules c) holders older d (told_by r) apart)

  pub selected_in_as : (d : Option Message)
      → selected_in c (map (holder_as (closed n)) holders) (map (message_as (closed n)) older) (option_map (message_as (closed n)) d) ≡ selected_in c holders older d
  selected_in_as None = refl
  selected_in_as (Some d) = selected_as d

module _ (c : Settings) (s m : ℕ) (h : History) where
  pub said_without : (newer : History) (e : Entry) → said_at c s (newer ++ h) e ≡ said_at c s (newer ++ tick m ∷ h) e
  said_without newer e =
      ap₃ (λ (k : Known) (older : List Message) (d : Option Message). selected_in c k.claims.holders older d)
      (known_without (receiver_of c) s m h newer) (messages_without (receiver_of c) s m h newer) (done_without (receiver_of c) s m h newer e)
      ∙ selected_in_as c (length h) (known (receiver_of c) s (newer ++ tick m ∷ h)).claims.holders (messages_of (receiver_of c) s (newer ++ tick m ∷ h))
      (messages_apart (receiver_of c) s m h newer) (done (receiver_of c) s (newer ++ tick m ∷ h) e)

  pub spoken_without : (newer : History) → spoken_of c s (newer ++ h) ≡ spoken_of c s (newer ++ tick m ∷ h)
  spoken_without [] = refl
  spoken_without (e ∷ newer) =
      ap (λ (r : Option Reading). with_spoken c s r (spoken_of c s (newer ++ h))) (said_without newer e)
      ∙ ap (with_spoken c s (said_at c s (newer ++ tick m ∷ h) e)) (spoken_without newer)

  -- ---- the items of datagrams

  ready_without : (newer : History) (t : ℕ) → is_ready (known (receiver_of c) s (newer ++ h)).claims t ≡ is_ready (known (receiver_of c) s (newer ++ tick m ∷ h)).claims t
  ready_without newer t = ap (λ (k : Known). is_ready k.claims t) (known_without (receiver_of c) s m h newer)

  pub items_without : (newer : History) (e : Entry) → items_of c s (newer ++ h) e ≡ items_of c s (newer ++ tick m ∷ h) e
  items_without newer (frame t f) = refl
  items_without newer (datagram t bytes) = ap (λ (b : Bool). heard_items t b (items_in (datagrams.read bytes))) (ready_without newer t)
  items_without newer (tick t) = refl
  items_without newer (entry.command t source address) = refl

  pub heard_without : (newer : History) → heard c s (newer ++ h) ≡ heard c s (newer ++ tick m ∷ h)
  heard_without [] = refl
  heard_without (e ∷ newer) =
      ap (with_each (heard c s (newer ++ h))) (items_without newer e)
      ∙ ap (λ (older : List HeardItem). with_each older (items_of c s (newer ++ tick m ∷ h) e)) (heard_without newer)
