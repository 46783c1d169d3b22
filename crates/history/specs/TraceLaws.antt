-- What a claim or a command does to the frames that count for a source.
use Rattle.std.specs.Prelude.{◌≡◌, ◌≢◌, ℕ, Bool, ◌||◌, not, ◌==◌, [], ◌∷◌, length, Option, Some, None, true, false, if◌then◌else◌}
use Rattle.n2k_id.specs.Frame.{BusFrame}
use Rattle.claim_table.specs.Claims.{claim, is_at}
use Rattle.claim_table.specs.declared.answer.ClaimStep.{ClaimStep}
use Rattle.n2k_id.specs.Pgns as pgns
use Rattle.history.specs.AddressLaws.{IsReceiver}
use Rattle.history.specs.Entries.{Entry, History, frame, command}
use Rattle.history.specs.Settings.{Receiver}
use Rattle.history.specs.Known.{known, is_claim, claim_by, address_left, address_won}
use Rattle.history.specs.Traces.{fast_trace, iso_trace}
use Rattle.history.specs.Opens.{notes_of}

-- its holder lost the address: the claiming NAME left it, or took it from another NAME
abbrev pub is_lost : ClaimStep → ℕ → Bool
is_lost step a = is_at a (address_left step) || is_at a (address_won step)

abbrev pub same_own : Option ℕ → Option ℕ → Bool
same_own None None = true
same_own None (Some b) = false
same_own (Some a) None = false
same_own (Some a) (Some b) = a == b

-- after an entry, nothing counts any more for the addresses that were lost, nor in sessions to an own address that changed; for all
-- others the same frames count
pub record LeavesTraces (c : Receiver) (s : ℕ) (h : History) (e : Entry) (lost : ℕ → Bool) : Type 0 where
  pub fast : (a p : ℕ) → p ≢ pgns.address_claimed
      → fast_trace (known c s (e ∷ h)).claims.holders a p (notes_of c s (e ∷ h))
      ≡ (if lost a then [] else fast_trace (known c s h).claims.holders a p (notes_of c s h))
  pub broadcast : (a : ℕ)
      → iso_trace (known c s (e ∷ h)) false a (notes_of c s (e ∷ h)) ≡ (if lost a then [] else iso_trace (known c s h) false a (notes_of c s h))
  pub addressed : (a : ℕ) → iso_trace (known c s (e ∷ h)) true a (notes_of c s (e ∷ h))
      ≡ (if lost a || not (same_own (known c s h).claims.own (known c s (e ∷ h)).claims.own) then [] else iso_trace (known c s h) true a (notes_of c s h))

abbrev pub ClaimsMoveTraces : Type 0
ClaimsMoveTraces =
    (c : Receiver) (s : ℕ) (h : History) (m : ℕ) (f : BusFrame) → IsReceiver c → is_claim f ≡ true
    → LeavesTraces c s h (frame m f) (is_lost (claim (known c s h).claims (claim_by (length h) m f)).step)

abbrev pub CommandsMoveTraces : Type 0
CommandsMoveTraces = (c : Receiver) (s : ℕ) (h : History) (m source address : ℕ) → LeavesTraces c s h (command m source address) (λ a. false)
