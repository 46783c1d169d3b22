-- The addresses after every history.
use Rattle.std.proofs.Common.{ℕ, suc, ◌≤◌, true, false, List, [], ◌∷◌, length, arith}
use Rattle.std.specs.Prelude.{All, Option, if◌then◌else◌}
use Rattle.n2k_id.specs.Frame.{BusFrame}
use Rattle.claim_table.specs.Claims.{Claims, IsSinceBy, claim, command}
use Rattle.claim_table.specs.Laws.{IsSound, Step, claimed, commanded}
use Rattle.claim_table.proofs.StepLemmas.{stays_sound}
use Rattle.claim_table.proofs.LawLemmas.{holders_are_dated, since_grows}
use Rattle.claim_table.proofs.OpenedLemmas.{opened_sound, opened_dated}
use Rattle.history.specs.Entries.{Entry, frame, datagram, tick, command as ordered}
use Rattle.history.specs.Known.{Known, known, known_after, since_own, followed_by, is_claim, claim_by}
use Rattle.history.specs.AddressLaws.{AreSound, AddressesAreSound}

own_by : (index since : ℕ) (before after : Option ℕ) → since ≤ index → since_own index since before after ≤ suc index
own_by index since before after h = grind arith

later : (n : ℕ) (k : Known) → AreSound k n → AreSound k (suc n)
later n k h = record { sound = h.sound; dated = since_grows n (suc n) k.claims.holders (omega arith) h.dated; own_dated = omega (arith, h.own_dated) }

by_step : (n : ℕ) (k : Known) (after : Claims) → AreSound k n → IsSound after → All (IsSinceBy (suc n)) after.holders → AreSound (followed_by n k after) (suc n)
by_step n k after h sound dated = record { sound = sound; dated = dated; own_dated = own_by n k.own_since k.claims.own after.own h.own_dated }

by_claim : (n : ℕ) (k : Known) (m : ℕ) (f : BusFrame) → AreSound k n → AreSound (followed_by n k (claim k.claims (claim_by n m f)).after) (suc n)
by_claim n k m f h =
    let step : List Step = claimed (claim_by n m f) ∷ [] in
    by_step n k (claim k.claims (claim_by n m f)).after h (stays_sound k.claims step h.sound)
    (holders_are_dated (suc n) k.claims step (since_grows n (suc n) k.claims.holders (omega arith) h.dated) (omega arith, tt))

by_command : (n : ℕ) (k : Known) (m a : ℕ) → AreSound k n → AreSound (followed_by n k (command k.claims a m)) (suc n)
by_command n k m a h =
    let step : List Step = commanded a m ∷ [] in
    by_step n k (command k.claims a m) h (stays_sound k.claims step h.sound)
    (holders_are_dated (suc n) k.claims step (since_grows n (suc n) k.claims.holders (omega arith) h.dated) tt)

sound_after : (n : ℕ) (k : Known) (e : Entry) → AreSound k n → AreSound (known_after n k e) (suc n)
sound_after n k (frame m f) h =
    elim (is_claim f) as (λ b. AreSound (if b then followed_by n k (claim k.claims (claim_by n m f)).after else k) (suc n)) [ true ↦ by_claim n k m f h | false ↦ later n k h ]
sound_after n k (datagram m bytes) h = later n k h
sound_after n k (tick m) h = later n k h
sound_after n k (ordered m source address) h = by_command n k m address h

pub addresses_are_sound : AddressesAreSound
addresses_are_sound c s [] are =
    let sound = opened_sound c.name c.address c.presets are.address are.apart are.others in
    record {
      sound = record { room = sound.room; one_each = sound.one_each; own_free = sound.own_free; own_within = sound.own_within; others = sound.others };
      dated = opened_dated c.name c.address c.presets;
      own_dated = omega arith;
    }
addresses_are_sound c s (e ∷ h) are = sound_after (length h) (known c s h) e (addresses_are_sound c s h are)
