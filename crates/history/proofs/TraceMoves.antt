-- The laws of traces: what counts after a claim, and after a command.
use Rattle.std.proofs.Common.{◌≡◌, ℕ, ◌<◌, Bool, true, false, ◌&&◌, ◌||◌, not, List, [], ◌∷◌, ◌⊎◌, length, map, refl, ap, ◌∙◌, ◌==◌, nat_le, arith}
use Rattle.std.specs.Prelude.{Option, Some, None, filter, if◌then◌else◌, option_map}
use Rattle.std.proofs.lemmas.Bool.{eqb-true, ne_eqb, and_parts, lt-leb}
use Rattle.n2k_id.specs.declared.identifier_parts.Parts.{Parts}
use Rattle.n2k_id.specs.Frame.{BusFrame}
use Rattle.n2k_id.specs.Identifier.{parts_of}
use Rattle.claim_table.specs.declared.answer.Holder.{Holder}
use Rattle.claim_table.specs.Claims.{Claims, Claim, Outcome, claim, command, holder_at, is_obeyed, moved_if}
use Rattle.iso_transport.specs.IsoRuns.{IsoPiece}
use Rattle.history.specs.Entries.{History, frame}
use Rattle.history.specs.Settings.{Receiver}
use Rattle.history.specs.Known.{Known, known, is_claim, claim_by, followed_by, held_since, since_own}
use Rattle.history.specs.Traces.{NotedFrame, is_since, fast_piece, fast_trace_since, iso_piece, broadcast_since, addressed_since, is_transport, is_bearing}
use Rattle.history.specs.Opens.{note_of, notes_of}
use Rattle.history.specs.AddressLaws.{IsReceiver}
use Rattle.history.specs.TraceLaws.{is_lost, same_own, LeavesTraces, ClaimsMoveTraces, CommandsMoveTraces}
use Rattle.history.proofs.Addresses.{addresses_are_sound}
use Rattle.history.proofs.Fates.{Fate, stays, begins, fate}
use Rattle.history.proofs.Moves as moves
use Rattle.history.proofs.Moves.{AreBelow, notes_below, trace, Moved, moved_trace, passed_over, and_no}

-- ---- the three kinds of traces as one

fast_as : (since : Option ℕ) (a p : ℕ) (notes : List NotedFrame) → fast_trace_since since a p notes ≡ trace fast_piece (λ n. n.parts.pgn == p) a since notes
fast_as since a p notes = grind arith

broadcast_as : (since : Option ℕ) (a : ℕ) (notes : List NotedFrame) → broadcast_since since a notes ≡ trace iso_piece (λ n. (n.parts.destination == 255) && is_bearing false n) a since notes
broadcast_as since a notes = grind arith

abbrev to_own : ℕ → ℕ → NotedFrame → Bool
to_own own own_since n = (n.parts.destination == own) && (nat_le own_since n.index && is_bearing true n)

addressed_as : (since : Option ℕ) (own own_since a : ℕ) (notes : List NotedFrame) → addressed_since since (Some own) own_since a notes ≡ trace iso_piece (to_own own own_since) a since notes
addressed_as since own own_since a notes = grind arith

no_address : (since : Option ℕ) (own_since a : ℕ) (notes : List NotedFrame) → addressed_since since None own_since a notes ≡ []
no_address since own_since a notes = grind arith

-- ---- a claim is no frame of any of them

no_transport : (p : Parts) → p.pgn ≡ 60928 → is_transport p ≡ false
no_transport p e = rw e refl

bears_not : (addressed : Bool) (n : NotedFrame) → n.parts.pgn ≡ 60928 → is_bearing addressed n ≡ false
bears_not addressed n e = rw (no_transport n.parts e) refl

to_own_not : (own own_since : ℕ) (n : NotedFrame) → n.parts.pgn ≡ 60928 → to_own own own_since n ≡ false
to_own_not own own_since n e = rw (bears_not true n e, and_no (nat_le own_since n.index), and_no (n.parts.destination == own)) refl

to_all_not : (n : NotedFrame) → n.parts.pgn ≡ 60928 → ((n.parts.destination == 255) && is_bearing false n) ≡ false
to_all_not n e = rw (bears_not false n e, and_no (n.parts.destination == 255)) refl

-- nothing was sent to the own address since an entry that comes after all
late_own : (own i : ℕ) (n : NotedFrame) → n.index < i → to_own own i n ≡ false
late_own own i n h = rw (lt-leb i n.index h, and_no (n.parts.destination == own)) refl

nothing_sent : (a since own i : ℕ) (notes : List NotedFrame) → AreBelow i notes → filter (λ n. is_since a since n && to_own own i n) notes ≡ []
nothing_sent a since own i [] h = refl
nothing_sent a since own i (n ∷ notes) h = rw (late_own own i n h.0, and_no (is_since a since n)) (nothing_sent a since own i notes h.1)

nothing_to_new : (since : Option ℕ) (a own i : ℕ) (n : NotedFrame) (notes : List NotedFrame) → AreBelow i notes → n.parts.pgn ≡ 60928 → addressed_since since (Some own) i a (n ∷ notes) ≡ []
nothing_to_new None a own i n notes h e = refl
nothing_to_new (Some since) a own i n notes h e = passed_over iso_piece (to_own own i) a since n notes (to_own_not own i n e) ∙ ap (map iso_piece) (nothing_sent a since own i notes h)

or_true : (b : Bool) → (b || true) ≡ true
or_true b = grind arith

or_false : (b : Bool) → (b || false) ≡ b
or_false b = grind arith

module _ (a i own_since : ℕ) (n : NotedFrame) (notes : List NotedFrame) (below : AreBelow i notes) (claims : n.parts.pgn ≡ 60928) (lost : Bool) (since after : Option ℕ)
    (moved : Moved lost i since after) where
  changed : (rest : List IsoPiece) → [] ≡ (if lost || true then [] else rest)
  changed rest = rw (or_true lost) refl

  to_same : (own : ℕ) (t : Bool) → t ≡ true → addressed_since after (Some own) own_since a (n ∷ notes) ≡ (if lost || not t then [] else addressed_since since (Some own) own_since a notes)
  to_same own t e = grind (arith, addressed_as, after, n, moved_trace, to_own_not, moved, or_false)

  to_other : (before own : ℕ) (t : Bool) → (before == own) ≡ t
      → addressed_since after (Some own) (if t then own_since else i) a (n ∷ notes) ≡ (if lost || not t then [] else addressed_since since (Some before) own_since a notes)
  to_other before own t e = grind (arith, eqb-true, to_same, nothing_to_new, after, n, changed)

  by_own : (before own : Option ℕ)
      → addressed_since after own (since_own i own_since before own) a (n ∷ notes) ≡ (if lost || not (same_own before own) then [] else addressed_since since before own_since a notes)
  by_own before own = grind (arith, no_address, after, n, changed, nothing_to_new, to_other)

-- ---- a claim

since_in : List (Option Holder) → ℕ → Option ℕ
since_in holders a = option_map (λ h. h.since) (holder_at holders a)

moved_of : (c : Claims) (k : Claim) (o : Outcome) (a : ℕ) → Fate c k o a → Moved (is_lost o.step a) k.index (since_in c.holders a) (since_in o.after.holders a)
unfolding since_in
moved_of c k o a (stays kept same) = moves.stays kept (ap (option_map (λ (h : Holder). h.since)) same)
moved_of c k o a (begins new old) = moves.begins (after new) (before old)
  where
    after : (holder_at o.after.holders a ≡ Some (record { name = record { 0 = k.name }; since = k.index })) ⊎ (holder_at o.after.holders a ≡ None)
        → (option_map (λ (h : Holder). h.since) (holder_at o.after.holders a) ≡ Some k.index) ⊎ (option_map (λ (h : Holder). h.since) (holder_at o.after.holders a) ≡ None)
    after h = grind arith

    before : (is_lost o.step a ≡ true) ⊎ (holder_at c.holders a ≡ None) → (is_lost o.step a ≡ true) ⊎ (option_map (λ (h : Holder). h.since) (holder_at c.holders a) ≡ None)
    before h = grind arith

module _ (c : Receiver) (s : ℕ) (h : History) (m : ℕ) (f : BusFrame) (are : IsReceiver c) (claims : is_claim f ≡ true) where
  k : Known
  k = known c s h

  o : Outcome
  o = claim (known c s h).claims (claim_by (length h) m f)

  after : Known
  after = followed_by (length h) (known c s h) (claim (known c s h).claims (claim_by (length h) m f)).after

  n : NotedFrame
  n = note_of c (length h) (known c s h) (notes_of c s h) m f

  known_is : known c s (frame m f ∷ h) ≡ followed_by (length h) (known c s h) (claim (known c s h).claims (claim_by (length h) m f)).after
  known_is = rw claims refl

  pgn_is : (parts_of f.id).pgn ≡ 60928
  pgn_is = eqb-true (parts_of f.id).pgn 60928 (and_parts _ _ claims).0

  moved : (a : ℕ) → Moved (is_lost (claim (known c s h).claims (claim_by (length h) m f)).step a) (length h) (held_since (known c s h).claims.holders a)
      (held_since (followed_by (length h) (known c s h) (claim (known c s h).claims (claim_by (length h) m f)).after).claims.holders a)
  unfolding since_in
  moved a = grind (arith, moved_of, fate, addresses_are_sound)

  pub claim_moves : LeavesTraces c s h (frame m f) (is_lost (claim (known c s h).claims (claim_by (length h) m f)).step)
  unfolding n
  claim_moves = grind (arith, known_is, fast_as, n, moved_trace, notes_below, moved, broadcast_as, to_all_not, pgn_is, by_own, ne_eqb)

-- what of the claim a note of another kind needs: who holds an address after it, and since when
pub known_after_claim : (c : Receiver) (s : ℕ) (h : History) (m : ℕ) (f : BusFrame) → is_claim f ≡ true
    → known c s (frame m f ∷ h) ≡ followed_by (length h) (known c s h) (claim (known c s h).claims (claim_by (length h) m f)).after
known_after_claim c s h m f claims = rw claims refl

pub moved_since : (c : Receiver) (s : ℕ) (h : History) (m : ℕ) (f : BusFrame) → IsReceiver c → (a : ℕ)
    → Moved (is_lost (claim (known c s h).claims (claim_by (length h) m f)).step a) (length h) (held_since (known c s h).claims.holders a)
    (held_since (followed_by (length h) (known c s h) (claim (known c s h).claims (claim_by (length h) m f)).after).claims.holders a)
unfolding since_in
moved_since c s h m f are a = grind (arith, moved_of, fate, addresses_are_sound)

pub claims_move_traces : ClaimsMoveTraces
claims_move_traces c s h m f are claims = claim_moves c s h m f are claims

-- ---- a command

same_holders : (t : Bool) (c : Claims) (a m : ℕ) → (moved_if t c a m).holders ≡ c.holders
same_holders t c a m = grind arith

pub commanded_holders : (c : Claims) (a m : ℕ) → (command c a m).holders ≡ c.holders
unfolding command
commanded_holders c a m = same_holders (is_obeyed c a) c a m

pub same_since : (index : ℕ) (k : Known) (a m source : ℕ) → held_since (followed_by index k (command k.claims a m)).claims.holders source ≡ held_since k.claims.holders source
same_since index k a m source = ap (λ (x : List (Option Holder)). option_map (λ (h : Holder). h.since) (holder_at x source)) (commanded_holders k.claims a m)

module _ (a i own_since : ℕ) (notes : List NotedFrame) (below : AreBelow i notes) where
  none_to : (since : Option ℕ) (own : ℕ) → addressed_since since (Some own) i a notes ≡ []
  none_to None own = refl
  none_to (Some since) own = ap (map iso_piece) (nothing_sent a since own i notes below)

  to_either : (since : Option ℕ) (before own : ℕ) (t : Bool) → (before == own) ≡ t
      → addressed_since since (Some own) (if t then own_since else i) a notes ≡ (if not t then [] else addressed_since since (Some before) own_since a notes)
  to_either since before own t e = grind (arith, eqb-true, none_to)

  by_command : (since before own : Option ℕ)
      → addressed_since since own (since_own i own_since before own) a notes ≡ (if not (same_own before own) then [] else addressed_since since before own_since a notes)
  by_command since before own = grind (arith, no_address, none_to, to_either)

pub commands_move_traces : CommandsMoveTraces
commands_move_traces c s h m source address = record {
  fast = λ a p other. ap (λ (x : Option ℕ). fast_trace_since x a p (notes_of c s h)) (same_since (length h) (known c s h) address m a);
  broadcast = λ a. ap (λ (x : Option ℕ). broadcast_since x a (notes_of c s h)) (same_since (length h) (known c s h) address m a);
  addressed = λ a.
      ap (λ (x : Option ℕ). addressed_since x (command (known c s h).claims address m).own (since_own (length h) (known c s h).own_since (known c s h).claims.own (command (known c s h).claims address m).own) a (notes_of c s h))
      (same_since (length h) (known c s h) address m a)
      ∙ by_command a (length h) (known c s h).own_since (notes_of c s h) (notes_below c s h) (held_since (known c s h).claims.holders a) (known c s h).claims.own (command (known c s h).claims address m).own;
}
