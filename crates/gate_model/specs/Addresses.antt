-- What a gateway keeps of the addresses of the bus (ISO 11783-5, address claims and the commanded address), as plain values, and what a
-- frame and a command make of it and give. Nothing here speaks of what came before.
use Rattle.std.specs.Prelude.{ℕ, ◌+◌, ◌-◌, ◌^◌, min, Bool, ◌&&◌, ◌||◌, not, ◌==◌, nat_lt, List, [], ◌∷◌, length, Option, Some, None, if◌then◌else◌}
use Rattle.report_rules.specs.Rules as rules
use Rattle.gate_events.specs.declared.emit.Report.{Report}
use Rattle.gate_events.specs.declared.emit.Detail.TheVariants as detail
use Rattle.n2k_id.specs.declared.identifier_parts.Parts.{Parts}
use Rattle.n2k_id.specs.Frame.{BusFrame}
use Rattle.n2k_id.specs.Name.{name_at}
use Rattle.claim_table.specs.declared.answer.ClaimStep.{ClaimStep}
use Rattle.claim_table.specs.Claims.{Claims, Outcome, started, claim, command, claims_at_start}
use Rattle.history.specs.Entries as entry
use Rattle.history.specs.Entries.{Entry}
use Rattle.history.specs.Settings.{Receiver}
use Rattle.history.specs.Known.{is_claim, claim_by, address_left, address_won}
use Rattle.history.specs.Meanings.{Meaning, address_claim, own_source, request, from_nobody, transport, single, fast_packet, passed}
use Rattle.history.specs.Messages.{Carried, carried}
use Rattle.gate_events.specs.Emit.{Emit}
use Rattle.history.specs.Emits.{breaks, broken_of, report_of}
use Rattle.history.specs.FromBus.{own_answer}
use Rattle.gate_model.specs.FastPackets.{sender_of}
use Rattle.gate_model.specs.Said.{short_reports}

-- ---- what is kept

-- entries are counted up to the greatest number of 64 bits
unfoldable pub last_index : ℕ
last_index = 2 ^ 64 - 1

-- the addresses that an entry takes from others: the one that a NAME left for another, and the one that was won from another NAME
pub record Changed : Type 0 where
  pub left : Option ℕ
  pub won : Option ℕ

abbrev pub no_change : Changed
no_change = record { left = None; won = None }

abbrev pub changed_by : ClaimStep → Changed
changed_by step = record { left = address_left step; won = address_won step }

pub record AddressesKept : Type 0 where
  -- who holds which address and since which entry, and the own address
  pub claims : Claims
  -- how many entries there were, as far as they are counted: the index of the next one
  pub count : ℕ
  -- which addresses changed hands by the last one
  pub changed : Changed

-- at the start, before any entry
abbrev pub addresses_at_start : Receiver → ℕ → AddressesKept
addresses_at_start r s = record { claims = started (claims_at_start r.name r.address r.presets) s; count = 0; changed = no_change }

abbrev pub counted : ℕ → ℕ
counted count = min last_index (count + 1)

-- ---- an entry: only claims and commands change who holds an address

abbrev pub claimed : AddressesKept → ℕ → BusFrame → Outcome
claimed k m f = claim k.claims (claim_by k.count m f)

abbrev pub claims_after : AddressesKept → Entry → Claims
claims_after k (entry.frame m f) = if is_claim f then (claimed k m f).after else k.claims
claims_after k (entry.datagram m bytes) = k.claims
claims_after k (entry.tick m) = k.claims
claims_after k (entry.command m source address) = command k.claims address m

-- a command moves the gateway's own address alone
abbrev pub changes_after : AddressesKept → Entry → Changed
changes_after k (entry.frame m f) = if is_claim f then changed_by (claimed k m f).step else no_change
changes_after k (entry.datagram m bytes) = no_change
changes_after k (entry.tick m) = no_change
changes_after k (entry.command m source address) = no_change

abbrev pub addresses_after : AddressesKept → Entry → AddressesKept
addresses_after k e = record { claims = claims_after k e; count = counted k.count; changed = changes_after k e }

-- what the gateway says of its own address after a claim
abbrev pub claim_emits : ℕ → AddressesKept → ℕ → BusFrame → List Emit
claim_emits name k m f = own_answer name (claimed k m f).step.own (claimed k m f).after.own

-- ---- the rules that a frame breaks that is neither of a fast packet nor of the transport protocol, by what it is

-- a claim whose bytes are no NAME, or of an address that can't be claimed
abbrev pub is_malformed : Parts → List ℕ → Bool
is_malformed parts bytes = nat_lt (length bytes) 8 || (parts.source == 255)

-- a claim with the gateway's own NAME
abbrev pub has_own_name : ℕ → Parts → List ℕ → Bool
has_own_name name parts bytes = not (is_malformed parts bytes) && (name_at bytes == name)

abbrev pub plain_reports : ℕ → Meaning → Parts → List ℕ → List Report
plain_reports name address_claim parts bytes =
    broken_of
    (breaks (has_own_name name parts bytes) rules.duplicate_name (detail.Address parts.source)
    ∷ breaks (is_malformed parts bytes) rules.claim_or_request_malformed (sender_of parts)
    ∷ [])
plain_reports name own_source parts bytes = report_of rules.own_address_used (sender_of parts) ∷ []
plain_reports name request parts bytes = broken_of (breaks (nat_lt (length bytes) 3) rules.claim_or_request_malformed (sender_of parts) ∷ [])
plain_reports name from_nobody parts bytes = report_of rules.unclaimed (sender_of parts) ∷ []
plain_reports name transport parts bytes = []
plain_reports name single parts bytes = short_reports parts.source (Some (carried parts.pgn bytes))
plain_reports name fast_packet parts bytes = []
plain_reports name passed parts bytes = []

-- and the message that it completes: a single frame is one
abbrev pub plain_done : Meaning → Parts → List ℕ → Option Carried
plain_done address_claim parts bytes = None
plain_done own_source parts bytes = None
plain_done request parts bytes = None
plain_done from_nobody parts bytes = None
plain_done transport parts bytes = None
plain_done single parts bytes = Some (carried parts.pgn bytes)
plain_done fast_packet parts bytes = None
plain_done passed parts bytes = None
