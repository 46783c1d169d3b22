-- What a frame is to the gateway, by its identifier, the own address and who holds an address.
use Rattle.std.specs.Prelude.{ℕ, Bool, true, false, ◌==◌, List, Option, is_some, if◌then◌else◌}
use Rattle.n2k_id.specs.declared.identifier_parts.Parts.{Parts}
use Rattle.claim_table.specs.Claims.{holder_at}
use Rattle.claim_table.specs.declared.answer.Holder.{Holder}
use Rattle.pgn_profile.specs.declared.kinds.Kind.{Kind}
use Rattle.pgn_profile.specs.declared.kinds.Kind.TheVariants.{Single, Fast, Outside}
use Rattle.n2k_id.specs.Identifier.{is_own, is_to}
use Rattle.n2k_id.specs.Pgns as pgns
use Rattle.history.specs.Traces.{is_transport}

-- the first of these
pub data Meaning : Type 0 where
  -- a claim of an address (ISO 11783-5)
  address_claim : Meaning
  -- anything else from the gateway's own address
  own_source : Meaning
  -- a request to all or to the gateway
  request : Meaning
  -- of one of the three kinds that follow, from an address that nobody holds
  from_nobody : Meaning
  -- of the transport protocol (ISO 11783-3), to all or to the gateway
  transport : Meaning
  -- of a message that comes in one frame, or as a fast packet
  single : Meaning
  fast_packet : Meaning
  -- nothing to the gateway
  passed : Meaning

abbrev pub if_held : Bool → Meaning → Meaning
if_held true meaning = meaning
if_held false meaning = from_nobody

abbrev pub by_kind : Kind → Bool → Meaning
by_kind Single held = if_held held single
by_kind Fast held = if_held held fast_packet
by_kind Outside held = passed

abbrev pub meaning_of : (ℕ → Kind) → Option ℕ → List (Option Holder) → Parts → Meaning
meaning_of kinds own holders p =
    let held = is_some (holder_at holders p.source) in
    if p.pgn == pgns.address_claimed then address_claim
    else if is_own own p.source then own_source
    else if p.pgn == pgns.request then (if is_to own p.destination then request else passed)
    else if is_transport p then (if is_to own p.destination then if_held held transport else passed)
    else by_kind (kinds p.pgn) held

-- ---- which one it is

abbrev pub is_address_claim : Meaning → Bool
is_address_claim address_claim = true
is_address_claim _ = false

abbrev pub is_of_session : Meaning → Bool
is_of_session transport = true
is_of_session _ = false

abbrev pub is_of_fast_packet : Meaning → Bool
is_of_fast_packet fast_packet = true
is_of_fast_packet _ = false
