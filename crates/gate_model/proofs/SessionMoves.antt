-- Where the gateway's own address is another one.
use Rattle.std.proofs.Common.{◌≡◌, ◌≢◌, ℕ, Bool, true, false, not, List, length, refl, sym, ap, subst, ◌∙◌, arith}
use Rattle.std.specs.Prelude.{Option, Some, None, slice_set}
use Rattle.std.proofs.lemmas.Bool.{eq-eqb, ne_eqb}
use Rattle.std.proofs.lemmas.List.{get_or-set_same, length-set}
use Rattle.claim_table.specs.declared.answer.Holder.{Holder}
use Rattle.claim_table.specs.Claims.{Claims, Claim, Outcome, claim, command, holder_at, holder_by, is_obeyed, left_by, moved, moved_if, next_own, with_taken, without_left, vacated}
use Rattle.claim_table.specs.Cases.{IsCase, duplicate, cannot_claim, defended, given_up, free, kept, won}
use Rattle.claim_table.specs.Laws.{IsSound}
use Rattle.claim_table.proofs.CaseLemmas.{claim_case, obeyed_tells}
use Rattle.claim_table.proofs.FirstFreeLemmas.{next_open}
use Rattle.history.specs.Known.{Known, known, claim_by}
use Rattle.history.specs.TraceLaws.{same_own}
use Rattle.history.proofs.Addresses.{addresses_are_sound}
use Rattle.history.proofs.TraceMoves.{known_after_claim}
use Rattle.gate_model.specs.Sessions.{is_move}
use Rattle.gate_model.specs.SessionLaws.{ClaimsTellMoves, CommandsTellMoves}

own_same : (own : Option ℕ) → same_own own own ≡ true
own_same None = refl
own_same (Some a) = eq-eqb a a refl

-- ---- a command

other_own : (own : Option ℕ) (a : ℕ) → own ≢ Some a → same_own own (Some a) ≡ false
other_own None a other = refl
other_own (Some b) a other = ne_eqb b a (λ same. other (ap (λ (x : ℕ). Some x) same))

commanded : (c : Claims) (a m : ℕ) (b : Bool) → is_obeyed c a ≡ b → not (same_own c.own (moved_if b c a m).own) ≡ b
commanded c a m true obeyed = ap not (other_own c.own a ((obeyed_tells c a).0 obeyed).elsewhere)
commanded c a m false obeyed = ap not (own_same c.own)

command_moves : (c : Claims) (a m : ℕ) → not (same_own c.own (command c a m).own) ≡ is_obeyed c a
unfolding command
command_moves c a m = commanded c a m (is_obeyed c a) refl

pub commands_tell_moves : CommandsTellMoves
commands_tell_moves r s h m source address = command_moves (known r s h).claims address m

-- ---- a claim

vacated_length : (holders : List (Option Holder)) (left : Option ℕ) → length (vacated holders left) ≡ length holders
vacated_length holders None = refl
vacated_length holders (Some b) = length-set holders b None

-- where the gateway goes isn't the address that it lost
next_elsewhere : (c : Claims) (k : Claim) (b : ℕ) → IsSound c → c.own ≡ Some k.address → next_own (with_taken (without_left c k) k) k.address ≡ Some b → k.address ≢ b
next_elsewhere c k b sound own is same =
    let open_there = next_open (with_taken (without_left c k) k) k.address b is in
    let holders : List (Option Holder) = vacated c.holders (left_by c k) in
    let many : length holders ≡ length c.holders = vacated_length c.holders (left_by c k) in
    let room = sound.room in
    let small = sound.own_within k.address own in
    let taken : holder_at (slice_set holders k.address (Some (holder_by k))) k.address ≡ Some (holder_by k) =
    get_or-set_same holders k.address (Some (holder_by k)) None (omega (arith, many, room, small)) in
    let none : holder_at (slice_set holders k.address (Some (holder_by k))) k.address ≡ None =
    ap (λ (a : ℕ). holder_at (slice_set holders k.address (Some (holder_by k))) a) same ∙ open_there.free in
    cc

moved_away : (c : Claims) (k : Claim) → IsSound c → c.own ≡ Some k.address → (o : Option ℕ) → next_own (with_taken (without_left c k) k) k.address ≡ o
    → not (same_own c.own (moved (with_taken (without_left c k) k) k.moment o).after.own) ≡ is_move (moved (with_taken (without_left c k) k) k.moment o).step.own
moved_away c k sound own None is = ap (λ (x : Option ℕ). not (same_own x None)) own
moved_away c k sound own (Some b) is =
    ap (λ (x : Option ℕ). not (same_own x (Some b))) own ∙ ap not (ne_eqb k.address b (next_elsewhere c k b sound own is))

abbrev Tells : Claims → Outcome → Type 0
Tells c o = not (same_own c.own o.after.own) ≡ is_move o.step.own

stays : (own : Option ℕ) → not (same_own own own) ≡ false
stays own = ap not (own_same own)

claim_moves : (c : Claims) (k : Claim) (o : Outcome) → IsSound c → IsCase c k o → Tells c o
claim_moves c k o sound (duplicate n e) = subst (Tells c) (sym e) (stays c.own)
claim_moves c k o sound (cannot_claim n a e) = subst (Tells c) (sym e) (stays c.own)
claim_moves c k o sound (defended n own l e) = subst (Tells c) (sym e) (stays c.own)
claim_moves c k o sound (given_up n own l e) = subst (Tells c) (sym e) (moved_away c k sound own (next_own (with_taken (without_left c k) k) k.address) refl)
claim_moves c k o sound (free n own g e) = subst (Tells c) (sym e) (stays c.own)
claim_moves c k o sound (kept n own y there l e) = subst (Tells c) (sym e) (stays c.own)
claim_moves c k o sound (won n own y there l e) = subst (Tells c) (sym e) (stays c.own)

pub claims_tell_moves : ClaimsTellMoves
claims_tell_moves r s h m f are claims =
    ap (λ (k : Known). not (same_own (known r s h).claims.own k.claims.own)) (known_after_claim r s h m f claims)
    ∙ claim_moves (known r s h).claims (claim_by (length h) m f) (claim (known r s h).claims (claim_by (length h) m f)) (addresses_are_sound r s h are).sound
    (claim_case (known r s h).claims (claim_by (length h) m f))
