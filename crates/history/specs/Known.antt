-- Who holds which address of the bus (ISO 11783-5, address claims and the commanded address), as a fold over the history.
use Rattle.std.specs.Prelude.{ℕ, Bool, ◌&&◌, not, ◌==◌, nat_le, List, [], ◌∷◌, length, Option, Some, None, option_map, if◌then◌else◌}
use Rattle.n2k_id.specs.Frame.{BusFrame}
use Rattle.n2k_id.specs.Identifier.{parts_of}
use Rattle.n2k_id.specs.Name.{name_at}
use Rattle.claim_table.specs.Claims.{claims_at_start, Claims, Claim, claim_of, started, claim, command, holder_at}
use Rattle.claim_table.specs.declared.answer.ClaimStep.{ClaimStep}
use Rattle.claim_table.specs.declared.answer.Holder.{Holder}
use Rattle.n2k_id.specs.Pgns as pgns
use Rattle.history.specs.Entries as entry
use Rattle.history.specs.Entries.{Entry, History}
use Rattle.history.specs.Settings.{Receiver}

-- what is known of the addresses: their holders and the own address, and the index of the entry by which that became the own one
pub record Known : Type 0 where
  pub claims : Claims
  pub own_since : ℕ

-- since which entry the holder of an address has it
abbrev pub held_since : List (Option Holder) → ℕ → Option ℕ
held_since holders a = option_map (λ holder. holder.since) (holder_at holders a)

-- a claim is a frame of PGN 60928 with the 8 bytes of a NAME, from an address other than 255
abbrev pub is_claim : BusFrame → Bool
is_claim f = let p = parts_of f.id in (p.pgn == pgns.address_claimed) && (nat_le 8 (length f.held) && not (p.source == 255))

abbrev pub claim_by : ℕ → ℕ → BusFrame → Claim
claim_by index moment f = claim_of (parts_of f.id).source (name_at f.held) index moment

-- since which entry the own address is what it is after one more: since that one, where it is another address or there was none before;
-- where there is none now, no frame is to it, whatever the index
abbrev pub since_own : ℕ → ℕ → Option ℕ → Option ℕ → ℕ
since_own index since (Some before) (Some after) = if before == after then since else index
since_own index since None after = index
since_own index since (Some before) None = since

-- what a claim takes away from other holders: the address that its NAME left for the claimed one, and the claimed one where it is won
-- from another NAME; the gateway's own address is neither
abbrev pub address_left : ClaimStep → Option ℕ
address_left step = step.released

abbrev pub address_won : ClaimStep → Option ℕ
address_won step = option_map (λ lost. lost.0) step.lost

abbrev pub followed_by : ℕ → Known → Claims → Known
followed_by index k after = record { claims = after; own_since = since_own index k.own_since k.claims.own after.own }

-- what is known after the entry of this index: only claims and commands change it
abbrev pub known_after : ℕ → Known → Entry → Known
known_after index k (entry.frame m f) = if is_claim f then followed_by index k (claim k.claims (claim_by index m f)).after else k
known_after index k (entry.datagram m bytes) = k
known_after index k (entry.tick m) = k
known_after index k (entry.command m source address) = followed_by index k (command k.claims address m)

module _ (r : Receiver) (s : ℕ) where
  -- what is known at the start: the presets, and the configured address, which may be used 250 ms later
  abbrev pub known_at_start : Known
  known_at_start = record { claims = started (claims_at_start r.name r.address r.presets) s; own_since = 0 }

  -- what is known after a history
  abbrev pub known : History → Known
  known [] = known_at_start
  known (e ∷ h) = known_after (length h) (known h) e
