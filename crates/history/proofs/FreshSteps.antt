-- The laws of freshness.
use Rattle.std.proofs.Common.{◌≡◌, ℕ, suc, ◌<◌, ◌≤◌, Bool, true, ◌&&◌, List, [], ◌∷◌, ◌⊎◌, length, refl, sym, ap, ◌∙◌, ◌==◌, arith}
use Rattle.std.specs.Prelude.{Option, Some, None, find, if◌then◌else◌, option_map, option_and_then}
use Rattle.std.specs.List.{AllByRecursion}
use Rattle.history.specs.Traces.{NotedFrame}
use Rattle.std.proofs.lemmas.Bool.{and_parts, eqb-true, lt-leb, le-leb}
use Rattle.n2k_id.specs.Frame.{BusFrame}
use Rattle.n2k_id.specs.Identifier.{parts_of}
use Rattle.claim_table.specs.declared.answer.Holder.{Holder}
use Rattle.claim_table.specs.Claims.{holder_at, claim}
use Rattle.history.specs.Entries.{History, frame, datagram, tick, command}
use Rattle.history.specs.Settings.{Receiver}
use Rattle.history.specs.Known.{Known, known, held_since, is_claim, claim_by, followed_by}
use Rattle.history.specs.Messages.{Message, Carried, done, messages_of, said_by, with_message, completed_by}
use Rattle.history.specs.Opens.{note_of, notes_of}
use Rattle.source_choice.specs.declared.told.Told.{Told}
use Rattle.history.specs.Subjects.{is_about, is_of, last_of}
use Rattle.history.specs.AddressLaws.{IsReceiver}
use Rattle.history.specs.TraceLaws.{is_lost}
use Rattle.history.specs.FreshLaws.{is_told, MessagesAreKept, ClaimsForget, CommandsForgetNone, ReadingsAreKept}
use Rattle.history.proofs.Addresses.{addresses_are_sound}
use Rattle.history.proofs.KeySteps.{dated_at, known_same}
use Rattle.history.proofs.TraceMoves.{same_since, moved_since, known_after_claim}
use Rattle.history.proofs.Moves.{Moved}

-- the last message of a subject from a source since an index, where there is one
abbrev pub last_since : (Message → Option Told) → ℕ → ℕ → List Message → Option ℕ → Option Message
last_since tells subject source older since = option_and_then (λ index. find (is_of tells subject source index) older) since

-- each message has the index of an entry of the history
abbrev pub AreBelow : ℕ → List Message → Type 0
AreBelow n older = AllByRecursion (λ d. d.index < n) older

later : (n : ℕ) (older : List Message) → AreBelow n older → AreBelow (suc n) older
later n [] h = tt
later n (d ∷ older) h = (omega (arith, h.0), later n older h.1)

added : (n m source : ℕ) (x : Option Holder) (what : Option Carried) (older : List Message) → AreBelow n older → AreBelow (suc n) (with_message (said_by n m source x what) older)
added n m source x what older h = grind (arith, later)

pub below : (c : Receiver) (s : ℕ) (h : History) → AreBelow (length h) (messages_of c s h)
below c s [] = tt
below c s (frame m f ∷ h) = grind (arith, below c s h, added)
below c s (datagram m bytes ∷ h) = later (length h) (messages_of c s h) (below c s h)
below c s (tick m ∷ h) = later (length h) (messages_of c s h) (below c s h)
below c s (command m source address ∷ h) = later (length h) (messages_of c s h) (below c s h)

-- ---- what is found

found_newest : (tells : Message → Option Told) (subject source since : ℕ) (d : Message) (older : List Message) → since ≤ d.index
    → find (is_of tells subject source since) (d ∷ older) ≡ (if (d.source == source) && is_about subject (tells d) then Some d else find (is_of tells subject source since) older)
found_newest tells subject source since d older le = rw (le-leb since d.index le) refl

none_since : (tells : Message → Option Told) (subject source i : ℕ) (older : List Message) → AreBelow i older → find (is_of tells subject source i) older ≡ None
none_since tells subject source i [] h = refl
none_since tells subject source i (d ∷ older) h = grind (arith, none_since tells subject source i older h.1, lt-leb)

-- ---- a frame that is no claim

abbrev IsDated : Option ℕ → ℕ → Type 0
IsDated None n = Unit {0}
IsDated (Some since) n = since ≤ n

-- a message is of a source that holds its address
abbrev IsHeld : ℕ → Option ℕ → Option Message → Type 0
IsHeld source since None = Unit {0}
IsHeld source since (Some d) = (d.source == source) ≡ true → (x : ℕ) × (since ≡ Some x)

abbrev HasIndex : ℕ → Option Message → Type 0
HasIndex n None = Unit {0}
HasIndex n (Some d) = d.index ≡ n

module _ (tells : Message → Option Told) (subject source n : ℕ) (older : List Message) where
  unheld : (d : Message) (b : Bool) → (d.source == source) ≡ b → IsHeld source None (Some d) → None ≡ (if is_told tells subject source (Some d) then Some d else None)
  unheld d b e held = grind arith

  kept : (since : Option ℕ) (said : Option Message) → IsDated since n → HasIndex n said → IsHeld source since said
      → last_since tells subject source (with_message said older) since ≡ (if is_told tells subject source said then said else last_since tells subject source older since)
  kept since said dated index held = grind (arith, dated, unheld, found_newest)

said_index : (n m from : ℕ) (x : Option Holder) (what : Option Carried) → HasIndex n (said_by n m from x what)
said_index n m from x what = grind arith

said_held : (k : Known) (n m from source : ℕ) (x : Option Holder) (what : Option Carried) → holder_at k.claims.holders from ≡ x → IsHeld source (held_since k.claims.holders source) (said_by n m from x what)
said_held k n m from source None what e = tt
said_held k n m from source (Some x) None e = tt
said_held k n m from source (Some x) (Some w) e =
    λ same. (x.since, ap (λ (a : ℕ). held_since k.claims.holders a) (sym (eqb-true from source same)) ∙ ap (option_map (λ (y : Holder). y.since)) e)

dated : (c : Receiver) (s : ℕ) (h : History) → IsReceiver c → (source : ℕ) (x : Option Holder) → holder_at (known c s h).claims.holders source ≡ x
    → IsDated (option_map (λ (y : Holder). y.since) x) (length h)
dated c s h are source None e = tt
dated c s h are source (Some x) e = dated_at (length h) (known c s h).claims.holders source x (addresses_are_sound c s h are).dated e

pub messages_are_kept : MessagesAreKept
messages_are_kept tells c s h m f subject source are other =
    rw (known_same c s h m f other)
    (kept tells subject source (length h) (messages_of c s h) (held_since (known c s h).claims.holders source) (done c s h (frame m f))
    (dated c s h are source (holder_at (known c s h).claims.holders source) refl)
    (said_index (length h) m (parts_of f.id).source (holder_at (known c s h).claims.holders (parts_of f.id).source) (completed_by c.kinds (known c s h) (note_of c (length h) (known c s h) (notes_of c s h) m f) (notes_of c s h)))
    (said_held (known c s h) (length h) m (parts_of f.id).source source (holder_at (known c s h).claims.holders (parts_of f.id).source) (completed_by c.kinds (known c s h) (note_of c (length h) (known c s h) (notes_of c s h) m f) (notes_of c s h)) refl))

-- ---- a claim

claim_completes_none : (c : Receiver) → IsReceiver c → (k : Known) (n : NotedFrame) (older : List NotedFrame) → n.parts.pgn ≡ 60928 → completed_by c.kinds k n older ≡ None
claim_completes_none c are k n older e = rw (e, are.claims) refl

says_none : (n m from : ℕ) (x : Option Holder) → said_by n m from x None ≡ None
says_none n m from x = grind arith

pub claim_says_none : (c : Receiver) (s : ℕ) (h : History) (m : ℕ) (f : BusFrame) → IsReceiver c → is_claim f ≡ true → messages_of c s (frame m f ∷ h) ≡ messages_of c s h
claim_says_none c s h m f are claims = grind (arith, claim_completes_none, eqb-true, and_parts, says_none)

module _ (tells : Message → Option Told) (subject source i : ℕ) (older : List Message) (below_i : AreBelow i older) where
  forgotten : (after : Option ℕ) → (after ≡ Some i) ⊎ (after ≡ None) → last_since tells subject source older after ≡ None
  forgotten after h = grind (arith, none_since)

  none_before : (lost : Bool) (before : Option ℕ) → (lost ≡ true) ⊎ (before ≡ None) → None ≡ (if lost then None else last_since tells subject source older before)
  none_before lost before h = grind arith

  by_move : (lost : Bool) (before after : Option ℕ) → Moved lost i before after → last_since tells subject source older after ≡ (if lost then None else last_since tells subject source older before)
  by_move lost before after h = grind (arith, kept, forgotten, none_before)

pub claims_forget : ClaimsForget
claims_forget tells c s h m f subject source are claims =
    rw (known_after_claim c s h m f claims)
    (ap (λ (x : List Message). last_of tells (followed_by (length h) (known c s h) (claim (known c s h).claims (claim_by (length h) m f)).after).claims.holders subject source x) (claim_says_none c s h m f are claims)
    ∙ by_move tells subject source (length h) (messages_of c s h) (below c s h) (is_lost (claim (known c s h).claims (claim_by (length h) m f)).step source) (held_since (known c s h).claims.holders source)
    (held_since (followed_by (length h) (known c s h) (claim (known c s h).claims (claim_by (length h) m f)).after).claims.holders source) (moved_since c s h m f are source))

pub commands_forget_none : CommandsForgetNone
commands_forget_none tells c s h m from address subject source = ap (last_since tells subject source (messages_of c s h)) (same_since (length h) (known c s h) address m source)

-- ---- on the network

pub readings_are_kept : ReadingsAreKept
readings_are_kept rule row source m n older = (refl, refl)
