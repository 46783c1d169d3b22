-- What comes over a link in memory.
use Rattle.std.proofs.Common.{◌≡◌, ℕ, zero, suc, ◌+◌, ◌<◌, ◌≤◌, List, [], ◌∷◌, ◌++◌, length, map, get_or, refl, sym, ap, subst, arith}
use Rattle.std.specs.Prelude.{Option, Some, None, Ok}
use Rattle.std.specs.Global.{Vec}
use Rattle.std.proofs.lemmas.List.{take_at, length-append}
use Rattle.gate_outside.specs.declared.link.Arrival.{Arrival}
use Rattle.gate_outside.specs.declared.link.Arrival.TheVariants.{Bytes, Nothing}
use Rattle.gate_outside.specs.Link.{Handed, Attachment, Fits, GoesOn, received_also, outcome_of}
use Rattle.gate_outside.specs.LinkMemory.{QuietTraffic, arrival_of, arrival_at, traffic_of, IsArrivalThere}

pub arrival_past : (script : List (Option (Vec ℕ))) (place : ℕ) → length script ≤ place → arrival_at (map arrival_of script) place ≡ None
arrival_past [] place le = refl
arrival_past (a ∷ script) zero le = absurd (omega arith)
arrival_past (a ∷ script) (suc place) le = arrival_past script place (omega arith)

pub arrival_here : (script : List (Option (Vec ℕ))) (place : ℕ) (a : Option (Vec ℕ)) → place < length script → a ≡ get_or script place a → arrival_at (map arrival_of script) place ≡ arrival_of a
arrival_here [] place a lt is = absurd (omega arith)
arrival_here (b ∷ script) zero a lt is = ap arrival_of (sym is)
arrival_here (b ∷ script) (suc place) a lt is = arrival_here script place a (omega arith) is

pub whole_arrival : (bytes rest : List ℕ) (count : ℕ) (arrival : Option (List ℕ)) → arrival ≡ Some bytes → count ≡ length bytes → IsArrivalThere (bytes ++ rest) arrival (Bytes count)
whole_arrival bytes rest count arrival is len =
    subst (λ (a : Option (List ℕ)). IsArrivalThere (bytes ++ rest) a (Bytes count)) (sym is) (omega (arith, length-append bytes rest), take_at bytes rest count (sym len))

pub no_arrival : (buffer : List ℕ) (arrival : Option (List ℕ)) → arrival ≡ None → IsArrivalThere buffer arrival Nothing
no_arrival buffer arrival is = subst (λ (a : Option (List ℕ)). IsArrivalThere buffer a Nothing) (sym is) tt

pub outcome_is : (buffer : List ℕ) (there : Option (List ℕ)) (arrival : Arrival) → IsArrivalThere buffer there arrival → outcome_of buffer (Ok arrival) ≡ Ok there
outcome_is buffer None (Bytes count) h = absurd h
outcome_is buffer None Nothing h = refl
outcome_is buffer (Some bytes) (Bytes count) h = ap (λ (bs : List ℕ). Ok (Some bs)) h.1
outcome_is buffer (Some bytes) Nothing h = absurd h

pub arrival_fits : (buffer : List ℕ) (arrival : Option (List ℕ)) (result : Arrival) → IsArrivalThere buffer arrival result → Fits buffer (Ok result)
arrival_fits buffer None (Bytes count) there = absurd there
arrival_fits buffer None Nothing there = tt
arrival_fits buffer (Some bytes) (Bytes count) there = there.0
arrival_fits buffer (Some bytes) Nothing there = absurd there

abbrev pub quiet : List (Option (List ℕ)) → ℕ → Option (List Handed) → ℕ → ℕ → Option Attachment → QuietTraffic
quiet script receives handed room most attached = record { script = script; receives = receives; over = record { handed = handed; room = room; most = most }; attached = attached }

-- one more receive
pub received_more : (script : List (Option (List ℕ))) (n m : ℕ) (handed : Option (List Handed)) (room most : ℕ) (attached : Option Attachment) (buffer : List ℕ) (arrival : Arrival)
    → m ≡ n + 1 → IsArrivalThere buffer (arrival_at script n) arrival
    → GoesOn (received_also (outcome_of buffer (Ok arrival))) (traffic_of (quiet script n handed room most attached)) (traffic_of (quiet script m handed room most attached))
received_more script n m None room most attached buffer arrival is there = tt
received_more script n m (Some pairs) room most attached buffer arrival is there =
    let one : m ≡ suc n = omega arith in
    rw (one, outcome_is buffer (arrival_at script n) arrival there) refl
