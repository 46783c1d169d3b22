use Rattle.std.proofs.Common.{◌≡◌, ◌≢◌, ℕ, ◌<◌, ◌⊎◌, Bool, Option, None, Some, [], ◌∷◌, refl, sym, arith}
use Rattle.std.proofs.lemmas.Grind.{common_steps}
use Rattle.std.proofs.lemmas.List.{get_or-set_other}
use Rattle.claim_table.specs.declared.answer.Holder.{Holder}
use Rattle.claim_table.specs.declared.answer.OwnAnswer.TheVariants.{Defend}
use Rattle.claim_table.specs.Cases.{IsCase, duplicate, cannot_claim, defended, given_up, free, kept, won}
use Rattle.claim_table.specs.Claims.{Claims, Claim, Outcome, claim, command, holder_at, is_obeyed, left_by, moved, moved_if, next_own, outcome, with_released, with_taken, without_left}
use Rattle.claim_table.specs.Laws.{DefenceKeeps, IsSound, SmallerNamesKeep, StaysSound, claimed, commanded, state_after}
use Rattle.claim_table.proofs.CaseLemmas.{claim_case}
use Rattle.claim_table.proofs.FirstFreeLemmas.{next_open}
use Rattle.claim_table.proofs.SoundLemmas.{alone, left_elsewhere, taken_holder, taken_sound, vacated_holder, vacated_other, without_left_sound}

-- an own address that isn't the one taken stays free
own_stays_free : (d : Claims) (k : Claim) → IsSound d → d.own ≢ Some k.address → (b : ℕ) → d.own ≡ Some b → holder_at (with_taken d k).holders b ≡ None
own_stays_free d k sound n b e = grind (arith, get_or-set_other)

taken_aside : (c : Claims) (k : Claim) → IsSound c → k.name ≢ c.name → c.own ≢ Some k.address → IsSound (with_taken (without_left c k) k)
taken_aside c k sound n own =
    let d = without_left_sound c k sound in
    taken_sound (without_left c k) k c.own c.counted_from d (alone c k sound) n (own_stays_free (without_left c k) k d own) d.own_within

moved_sound : (c : Claims) (k : Claim) (x : Option ℕ) → IsSound c → k.name ≢ c.name → next_own (with_taken (without_left c k) k) k.address ≡ x → IsSound (moved (with_taken (without_left c k) k) k.moment x).after
moved_sound c k None sound n e =
    taken_sound (without_left c k) k None c.counted_from (without_left_sound c k sound) (alone c k sound) n (λ b f. cc) (λ b f. cc)
moved_sound c k (Some a) sound n e =
    let opened = next_open (with_taken (without_left c k) k) k.address a e in
    taken_sound (without_left c k) k (Some a) k.moment (without_left_sound c k sound) (alone c k sound) n (λ b f. let same : a ≡ b = cc in rw (sym same) opened.free) (λ b f. let same : a ≡ b = cc in rw (sym same) opened.within)

case_sound : (c : Claims) (k : Claim) (o : Outcome) → IsCase c k o → IsSound c → IsSound o.after
case_sound c k o (duplicate n e) sound = rw e sound
case_sound c k o (cannot_claim n a e) sound = rw e (without_left_sound c k sound)
case_sound c k o (defended n own l e) sound = rw e (without_left_sound c k sound)
case_sound c k o (given_up n own l e) sound =
    rw e (moved_sound c k (next_own (with_taken (without_left c k) k) k.address) sound n.name refl)
case_sound c k o (free n own f e) sound = rw e (taken_aside c k sound n.name own)
case_sound c k o (kept n own h at l e) sound = rw e (without_left_sound c k sound)
case_sound c k o (won n own h at l e) sound = rw e (taken_aside c k sound n.name own)

moved_if_sound : (c : Claims) (a m : ℕ) (b : Bool) → IsSound c → is_obeyed c a ≡ b → IsSound (moved_if b c a m)
unfolding is_obeyed
moved_if_sound c a m b sound e = grind arith

command_sound : (c : Claims) (a m : ℕ) → IsSound c → IsSound (command c a m)
unfolding command
command_sound c a m sound = moved_if_sound c a m (is_obeyed c a) sound refl

pub stays_sound : StaysSound
stays_sound c [] sound = sound
stays_sound c (claimed k ∷ older) sound =
    case_sound (state_after c older) k (claim (state_after c older) k) (claim_case (state_after c older) k) (stays_sound c older sound)
stays_sound c (commanded a m ∷ older) sound = command_sound (state_after c older) a m (stays_sound c older sound)

-- a holder that is there after an address was taken and one that was there before, if they aren't one
taken_from : (c : Claims) (k : Claim) (a : ℕ) (h g : Holder) → holder_at c.holders a ≡ Some h → ((x : Holder) → holder_at (without_left c k).holders k.address ≡ Some x → k.name < x.name.0) → holder_at (with_taken (without_left c k) k).holders a ≡ Some g → (g ≡ h) ⊎ (g.name.0 < h.name.0)
taken_from c k a h g was beats now = grind (arith, taken_holder, vacated_other, left_elsewhere, vacated_holder)

left_from : (c : Claims) (k : Claim) (a : ℕ) (h g : Holder) → holder_at c.holders a ≡ Some h → holder_at (without_left c k).holders a ≡ Some g → (g ≡ h) ⊎ (g.name.0 < h.name.0)
left_from c k a h g was now = grind (arith, vacated_holder)

moved_holder : (c : Claims) (m : ℕ) (x : Option ℕ) (a : ℕ) → holder_at (moved c m x).after.holders a ≡ holder_at c.holders a
moved_holder c m x a = grind arith

case_takes : (c : Claims) (k : Claim) (o : Outcome) → IsCase c k o → IsSound c → (a : ℕ) (h g : Holder) → holder_at c.holders a ≡ Some h → holder_at o.after.holders a ≡ Some g → (g ≡ h) ⊎ (g.name.0 < h.name.0)
case_takes c k o h sound a h2 g was now = grind (arith, left_from, vacated_other, left_elsewhere, taken_from, moved_holder)

case_own : (c : Claims) (k : Claim) (o : Outcome) → IsCase c k o → (a : ℕ) → c.own ≡ Some a → o.after.own ≢ Some a → k.name < c.name
case_own c k o h a own lost = grind arith

pub smaller_names_keep : SmallerNamesKeep
smaller_names_keep c steps k sound =
    let d = state_after c steps in
    record {
      holders = case_takes d k (claim d k) (claim_case d k) (stays_sound c steps sound);
      own = case_own d k (claim d k) (claim_case d k);
    }

case_defended : (c : Claims) (k : Claim) (o : Outcome) → IsCase c k o → IsSound c → c.own ≡ Some k.address → c.name < k.name → o ≡ with_released (left_by c k) (outcome (without_left c k) None Defend)
case_defended c k o h sound own l = grind arith

pub defence_keeps : DefenceKeeps
defence_keeps c steps k sound own l = grind (arith, common_steps, case_defended, claim_case, stays_sound)
