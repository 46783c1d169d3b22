-- Requests (ISO 11783-3, PGN 59904), and which of them have to be answered.
use Rattle.std.specs.Prelude.{◌≡◌, ◌≢◌, ℕ, ◌≤◌, ◌⊎◌, Bool, ◌&&◌, ◌||◌, not, ◌==◌, nat_le, List, length, Option, Some}
use Rattle.n2k_id.specs.Frame.{BusFrame}
use Rattle.n2k_id.specs.declared.identifier_parts.Parts.{Parts}
use Rattle.n2k_id.specs.Identifier.{parts_of, is_own, is_to}
use Rattle.bus_identity.specs.PgnLists.{pgn_lists, product_information}
use Rattle.n2k_id.specs.Pgns.{request, address_claimed, asked_of}

-- a request to all or to this device, from another one
abbrev pub concerns : Option ℕ → Parts → List ℕ → Bool
concerns own parts held =
    (parts.pgn == request) && (nat_le 3 (length held) && (is_to own parts.destination && not (is_own own parts.source)))

-- What this device has is due to all, and a refusal to who asks it alone. A request for the claim of its address is answered
-- with that claim, and not here.
abbrev pub is_answered : Option ℕ → ℕ → ℕ → Bool
is_answered own destination asked =
    not (asked == address_claimed) && ((asked == product_information) || ((asked == pgn_lists) || is_own own destination))

abbrev pub due_by : Option ℕ → Parts → List ℕ → Bool
due_by own parts held = concerns own parts held && is_answered own parts.destination (asked_of held)

abbrev pub is_due : Option ℕ → BusFrame → Bool
is_due own e = due_by own (parts_of e.id) e.held

-- the same in the words of the standard
pub record IsDueBy (own : Option ℕ) (parts : Parts) (held : List ℕ) : Type 0 where
  pub group : parts.pgn ≡ request
  pub asks : 3 ≤ length held
  pub reaches : (parts.destination ≡ 255) ⊎ (own ≡ Some parts.destination)
  pub of_another : own ≢ Some parts.source
  pub no_claim : asked_of held ≢ address_claimed
  pub has_answer : (asked_of held ≡ product_information) ⊎ (asked_of held ≡ pgn_lists) ⊎ (own ≡ Some parts.destination)

abbrev pub IsDue : Option ℕ → BusFrame → Type 0
IsDue own e = IsDueBy own (parts_of e.id) e.held
