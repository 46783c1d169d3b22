-- When what a gateway keeps of the addresses (ISO 11783-5) stands for the history, and what it tells then: what all that is known of the
-- addresses would tell.
use Rattle.std.specs.Prelude.{◌≡◌, ℕ, ◌≤◌, min, true, false, List, [], ◌∷◌, length, All, Option, option_map, if◌then◌else◌}
use Rattle.n2k_id.specs.Frame.{BusFrame}
use Rattle.n2k_id.specs.Identifier.{parts_of}
use Rattle.n2k_id.specs.declared.identifier_parts.Parts.{Parts}
use Rattle.n2k_id.specs.declared.name.Name.{Name}
use Rattle.pgn_profile.specs.declared.kinds.Kind.{Kind}
use Rattle.claim_table.specs.declared.answer.Holder.{Holder}
use Rattle.claim_table.specs.Claims.{Claims, IsSinceBy, claim, holder_at, is_obeyed, is_ready}
use Rattle.claim_table.specs.Laws.{capped}
use Rattle.history.specs.Entries.{Entry, History, frame, datagram, tick, command}
use Rattle.history.specs.Settings.{Receiver}
use Rattle.history.specs.Known.{known, is_claim, claim_by, address_left, address_won}
use Rattle.history.specs.Meanings.{Meaning, request, meaning_of, is_of_session, is_of_fast_packet}
use Rattle.history.specs.Messages.{Carried, done, said_by}
use Rattle.history.specs.FromBus.{request_gives, own_answer, meaning_at, frame_refused, answers_by, command_breaks}
use Rattle.history.specs.AddressLaws.{IsReceiver}
use Rattle.gate_model.specs.Addresses.{AddressesKept, Changed, last_index, no_change, addresses_at_start, claimed, addresses_after, claim_emits, plain_reports, plain_done}

-- which addresses an entry takes from others: only a claim does
abbrev pub changes_by : Receiver → ℕ → History → Entry → Changed
changes_by r s h (frame m f) =
    let step = (claim (known r s h).claims (claim_by (length h) m f)).step in
    if is_claim f then record { left = address_left step; won = address_won step } else no_change
changes_by r s h (datagram m bytes) = no_change
changes_by r s h (tick m) = no_change
changes_by r s h (command m source address) = no_change

-- and the last one
abbrev pub changes_in : Receiver → ℕ → History → Changed
changes_in r s [] = no_change
changes_in r s (e ∷ h) = changes_by r s h e

-- it is what is known, but that entries are counted up to the last index
pub record StandsAddresses (r : Receiver) (s : ℕ) (h : History) (k : AddressesKept) : Type 0 where
  pub claims : k.claims ≡ capped last_index (known r s h).claims
  pub count : k.count ≡ min last_index (length h)
  pub changed : k.changed ≡ changes_in r s h

-- ---- the start, and each entry

abbrev pub OpeningStandsAddresses : Type 0
OpeningStandsAddresses = (r : Receiver) (s : ℕ) → StandsAddresses r s [] (addresses_at_start r s)

abbrev pub EntriesStandAddresses : Type 0
EntriesStandAddresses =
    (r : Receiver) (s : ℕ) (h : History) (e : Entry) (k : AddressesKept)
    → StandsAddresses r s h k → StandsAddresses r s (e ∷ h) (addresses_after k e)

-- ---- what is asked of it

-- the NAME that holds an address
abbrev pub name_held : List (Option Holder) → ℕ → Option Name
name_held holders a = option_map (λ holder. holder.name) (holder_at holders a)

-- one table tells what another one does, but for the entries since which addresses are held
pub record TellsAlike (c d : Claims) : Type 0 where
  pub name : c.name ≡ d.name
  pub own : c.own ≡ d.own
  pub names : (a : ℕ) → name_held c.holders a ≡ name_held d.holders a
  pub ready : (m : ℕ) → is_ready c m ≡ is_ready d m
  pub obeyed : (a : ℕ) → is_obeyed c a ≡ is_obeyed d a
  -- what a frame is to the gateway, and the message of a source with its holder's NAME
  pub meaning : (kinds : ℕ → Kind) (p : Parts) → meaning_of kinds c.own c.holders p ≡ meaning_of kinds d.own d.holders p
  pub said : (index moment source : ℕ) (what : Option Carried)
      → said_by index moment source (holder_at c.holders source) what ≡ said_by index moment source (holder_at d.holders source) what

abbrev pub StandingTellsAlike : Type 0
StandingTellsAlike = (r : Receiver) (s : ℕ) (h : History) (k : AddressesKept) → StandsAddresses r s h k → TellsAlike k.claims (known r s h).claims

-- the calls can be made: the index has 64 bits, and no address is held since a later one
pub record AddressesFit (k : AddressesKept) : Type 0 where
  pub count : k.count ≤ last_index
  pub dated : All (IsSinceBy k.count) k.claims.holders

abbrev pub StandingFits : Type 0
StandingFits = (r : Receiver) (s : ℕ) (h : History) (k : AddressesKept) → IsReceiver r → StandsAddresses r s h k → AddressesFit k

-- ---- a claim: which addresses were left and won, and what the gateway says of its own

module _ (r : Receiver) (s : ℕ) (h : History) (m : ℕ) (f : BusFrame) (k : AddressesKept) where
  pub record ClaimIsTold : Type 0 where
    pub step : (claimed k m f).step ≡ (claim (known r s h).claims (claim_by (length h) m f)).step
    pub answer : claim_emits r.name k m f
        ≡ own_answer r.name (claim (known r s h).claims (claim_by (length h) m f)).step.own (known r s (frame m f ∷ h)).claims.own

abbrev pub ClaimsAreTold : Type 0
ClaimsAreTold =
    (r : Receiver) (s : ℕ) (h : History) (m : ℕ) (f : BusFrame) (k : AddressesKept)
    → is_claim f ≡ true → StandsAddresses r s h k → ClaimIsTold r s h m f k

-- ---- a command: whether it is obeyed, the rule that it breaks else, and the own address after it

module _ (r : Receiver) (s : ℕ) (h : History) (m source address : ℕ) (k : AddressesKept) where
  pub record CommandIsTold : Type 0 where
    pub obeyed : is_obeyed k.claims address ≡ is_obeyed (known r s h).claims address
    pub reports : command_breaks k.claims source address ≡ command_breaks (known r s h).claims source address
    pub own : (addresses_after k (command m source address)).claims.own ≡ (known r s (command m source address ∷ h)).claims.own

abbrev pub CommandsAreTold : Type 0
CommandsAreTold =
    (r : Receiver) (s : ℕ) (h : History) (m source address : ℕ) (k : AddressesKept) → StandsAddresses r s h k → CommandIsTold r s h m source address k

-- ---- a frame that is neither of a fast packet nor of the transport protocol: the rules that it breaks, the message that it completes, and
-- where it is a request, the gateway's claim

module _ (r : Receiver) (s : ℕ) (h : History) (m : ℕ) (f : BusFrame) (k : AddressesKept) where
  abbrev pub meaning_here : Meaning
  meaning_here = meaning_of r.kinds k.claims.own k.claims.holders (parts_of f.id)

  pub record FrameIsTold : Type 0 where
    pub meaning : meaning_here ≡ meaning_at r s h m f
    pub reports : frame_refused r s h m f ≡ plain_reports r.name meaning_here (parts_of f.id) f.held
    pub completed : done r s h (frame m f)
        ≡ said_by (length h) m (parts_of f.id).source (holder_at k.claims.holders (parts_of f.id).source) (plain_done meaning_here (parts_of f.id) f.held)
    pub answer : request_gives r.name k.claims.own f.held ≡ answers_by r s h m f request

abbrev pub FramesAreTold : Type 0
FramesAreTold =
    (r : Receiver) (s : ℕ) (h : History) (m : ℕ) (f : BusFrame) (k : AddressesKept) → IsReceiver r → StandsAddresses r s h k
    → is_of_session (meaning_at r s h m f) ≡ false → is_of_fast_packet (meaning_at r s h m f) ≡ false → FrameIsTold r s h m f k
