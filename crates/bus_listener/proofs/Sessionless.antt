-- A receiver that has no room for sessions of the transport protocol (ISO 11783-3) completes none.
use Rattle.std.proofs.Common.{◌≡◌, ℕ, Bool, true, false, ◌&&◌, List, [], ◌∷◌, length, map, filter, refl, sym, ap, ◌∙◌, arith}
use Rattle.std.specs.Prelude.{Option, Some, None, ◌||◌, nat_lt, nat_le, not, ◌==◌, if◌then◌else◌}
use Rattle.std.specs.List.{AllByRecursion}
use Rattle.std.proofs.lemmas.Bool.{and_parts, eqb-true}
use Rattle.n2k_id.specs.Frame.{BusFrame}
use Rattle.n2k_id.specs.Identifier.{parts_of, is_own}
use Rattle.claim_table.specs.Claims.{holder_at, is_at}
use Rattle.claim_table.specs.declared.answer.Holder.{Holder}
use Rattle.pgn_profile.specs.declared.kinds.Kind.TheVariants.{Outside}
use Rattle.slot_views.specs.Runs.{Rules, accepted, accepted_after, opener_of, run_of, since_opener}
use Rattle.fast_packet.specs.FastRuns.{FastPiece}
use Rattle.iso_transport.specs.Audience.{key_of}
use Rattle.iso_transport.specs.IsoRuns.{IsoPiece, iso_rules}
use Rattle.history.specs.AddressLaws.{IsReceiver}
use Rattle.history.specs.Entries as entry
use Rattle.history.specs.Entries.{History}
use Rattle.history.specs.Known.{Known, held_since, known}
use Rattle.history.specs.Messages.{by_kind, by_session, completed_by, done, iso_carried, said_by}
use Rattle.history.specs.Opens.{note_of, notes_of}
use Rattle.history.specs.Settings.{Receiver}
use Rattle.history.specs.Traces.{NotedFrame, addressed_since, broadcast_since, fast_trace, is_bearing, is_since, is_transport, iso_piece, iso_trace}
use Rattle.history.proofs.Addresses.{addresses_are_sound}

-- ---- pieces for which there was no room make no run

module _ {X : Type 0} (r : Rules X) where
  abbrev pub AreUnadmitted : List X → Type 0
  AreUnadmitted xs = AllByRecursion (λ x. r.admitted x ≡ false) xs

  since_so : (xs : List X) → AreUnadmitted xs → AreUnadmitted (since_opener r xs)
  since_so [] all = tt
  since_so (x ∷ xs) all = by (r.opens x) (since_so xs all.1)
    where
      by : (b : Bool) → AreUnadmitted (since_opener r xs) → AreUnadmitted (if b then x ∷ [] else x ∷ since_opener r xs)
      by true rest = (all.0, tt)
      by false rest = (all.0, rest)

  abbrev IsUnadmitted : Option (List X) → Type 0
  IsUnadmitted None = Unit {0}
  IsUnadmitted (Some acc) = AreUnadmitted acc

  more_so : (x : X) → r.admitted x ≡ false → (acc : List X) → AreUnadmitted acc → (timely next again : Bool)
      → IsUnadmitted (if timely then (if next then Some (x ∷ acc) else if again then Some acc else None) else None)
  more_so x so acc all false next again = tt
  more_so x so acc all true true again = (so, all)
  more_so x so acc all true false true = all
  more_so x so acc all true false false = tt

  accepted_so : (xs : List X) → AreUnadmitted xs → IsUnadmitted (accepted r xs)
  accepted_so [] all = tt
  accepted_so (x ∷ []) all = by (r.opens x)
    where
      by : (b : Bool) → IsUnadmitted (if b then Some (x ∷ []) else None)
      by true = (all.0, tt)
      by false = tt
  accepted_so (x ∷ y ∷ ys) all = after (accepted r (y ∷ ys)) (accepted_so (y ∷ ys) all.1)
    where
      after : (o : Option (List X)) → IsUnadmitted o → IsUnadmitted (accepted_after r o x)
      after None so = tt
      after (Some acc) so = more_so x all.0 acc so _ _ _

  opener_so : (x : X) (xs : List X) → AreUnadmitted (x ∷ xs) → r.admitted (opener_of x xs) ≡ false
  opener_so x [] all = all.0
  opener_so x (y ∷ ys) all = opener_so y ys all.1

  pub no_run : (xs : List X) → AreUnadmitted xs → run_of r xs ≡ None
  no_run xs all = by (accepted r (since_opener r xs)) refl (accepted_so (since_opener r xs) (since_so xs all))
    where
      by : (o : Option (List X)) → accepted r (since_opener r xs) ≡ o → IsUnadmitted o → run_of r xs ≡ None
      by None is so = rw is refl
      by (Some []) is so = rw is refl
      by (Some (x ∷ acc)) is so = rw (is, opener_so x acc so) refl

-- ---- no session finds room

abbrev Unadmitted : NotedFrame → Type 0
Unadmitted n = is_transport n.parts ≡ true → n.admitted ≡ false

none_below : (n : ℕ) → nat_lt n 0 ≡ false
none_below n = grind arith

module _ (r : Receiver) (none : r.iso_slots ≡ 0) where
  noted_so : (index : ℕ) (k : Known) (notes : List NotedFrame) (m : ℕ) (f : BusFrame) → Unadmitted (note_of r index k notes m f)
  noted_so index k notes m f = λ transports. rw (transports, none) (none_below _)

  all_so : (s : ℕ) (h : History) → AllByRecursion Unadmitted (notes_of r s h)
  all_so s [] = tt
  all_so s (entry.frame m f ∷ h) = (noted_so (length h) (known r s h) (notes_of r s h) m f, all_so s h)
  all_so s (entry.datagram m bytes ∷ h) = all_so s h
  all_so s (entry.tick m ∷ h) = all_so s h
  all_so s (entry.command m source address ∷ h) = all_so s h

pieces_so : (p : NotedFrame → Bool) → ((n : NotedFrame) → p n ≡ true → is_transport n.parts ≡ true) → (notes : List NotedFrame)
    → AllByRecursion Unadmitted notes → AllByRecursion (λ x. x.admitted ≡ false) (map iso_piece (filter p notes))
pieces_so p transport [] all = tt
pieces_so p transport (n ∷ notes) all = by (p n) refl (pieces_so p transport notes all.1)
  where
    by : (b : Bool) → p n ≡ b → AllByRecursion (λ x. x.admitted ≡ false) (map iso_piece (filter p notes))
        → AllByRecursion (λ x. x.admitted ≡ false) (map iso_piece (if b then n ∷ filter p notes else filter p notes))
    by true is rest = (all.0 (transport n is), rest)
    by false is rest = rest

bears : (addressed : Bool) (n : NotedFrame) → is_bearing addressed n ≡ true → is_transport n.parts ≡ true
bears addressed n is = (and_parts _ _ is).0

broadcast_so : (since : Option ℕ) (source : ℕ) (notes : List NotedFrame) → AllByRecursion Unadmitted notes
    → AllByRecursion (λ x. x.admitted ≡ false) (broadcast_since since source notes)
broadcast_so None source notes all = tt
broadcast_so (Some since) source notes all =
    pieces_so _ (λ n is. bears false n (and_parts _ _ (and_parts _ _ is).1).1) notes all

addressed_so : (since own : Option ℕ) (own_since source : ℕ) (notes : List NotedFrame) → AllByRecursion Unadmitted notes
    → AllByRecursion (λ x. x.admitted ≡ false) (addressed_since since own own_since source notes)
addressed_so None own own_since source notes all = tt
addressed_so (Some since) None own_since source notes all = tt
addressed_so (Some since) (Some own) own_since source notes all =
    pieces_so _ (λ n is.
    let to_own = (and_parts (is_since source since n) ((n.parts.destination == own) && (nat_le own_since n.index && is_bearing true n)) is).1 in
    let since_own = (and_parts (n.parts.destination == own) (nat_le own_since n.index && is_bearing true n) to_own).1 in
    bears true n (and_parts (nat_le own_since n.index) (is_bearing true n) since_own).1) notes all

trace_so : (k : Known) (addressed : Bool) (source : ℕ) (notes : List NotedFrame) → AllByRecursion Unadmitted notes
    → AreUnadmitted (iso_rules addressed) (iso_trace k addressed source notes)
trace_so k false source notes all = broadcast_so (held_since k.claims.holders source) source notes all
trace_so k true source notes all = addressed_so (held_since k.claims.holders source) k.claims.own k.own_since source notes all

no_session : (k : Known) (n : NotedFrame) (older : List NotedFrame) → AllByRecursion Unadmitted (n ∷ older) → by_session k n older ≡ None
no_session k n older all =
    let addressed = (key_of n.parts).addressed in
    by ((not addressed || is_at n.parts.destination k.claims.own) && is_bearing addressed n)
    (run_of (iso_rules addressed) (iso_trace k addressed n.parts.source (n ∷ older)))
    (no_run (iso_rules addressed) (iso_trace k addressed n.parts.source (n ∷ older)) (trace_so k addressed n.parts.source (n ∷ older) all))
  where
    by : (b : Bool) (o : Option (List IsoPiece)) → o ≡ None → (if b then iso_carried o else None) ≡ None
    by true o is = ap iso_carried is
    by false o is = refl

-- ---- so what is neither a claim nor a message completes nothing

no_message : (index m source : ℕ) (o : Option Holder) → said_by index m source o None ≡ None
no_message index m source None = refl
no_message index m source (Some x) = refl

module _ (r : Receiver) (none : r.iso_slots ≡ 0) (s : ℕ) (h : History) (m : ℕ) (f : BusFrame) where
  abbrev n : NotedFrame
  n = note_of r (length h) (known r s h) (notes_of r s h) m f

  completes_none : r.kinds (parts_of f.id).pgn ≡ Outside → completed_by r.kinds (known r s h) n (notes_of r s h) ≡ None
  completes_none outside = by (is_transport n.parts)
    where
      session : by_session (known r s h) n (notes_of r s h) ≡ None
      session = no_session (known r s h) n (notes_of r s h) (noted_so r none (length h) (known r s h) (notes_of r s h) m f, all_so r none s h)

      trace : List FastPiece
      trace = fast_trace (known r s h).claims.holders n.parts.source n.parts.pgn (n ∷ notes_of r s h)

      by : (b : Bool) → (if b then by_session (known r s h) n (notes_of r s h) else by_kind (r.kinds n.parts.pgn) n trace) ≡ None
      by true = session
      by false = ap (λ kind. by_kind kind n trace) outside

  pub outside_says_nothing : r.kinds (parts_of f.id).pgn ≡ Outside → done r s h (entry.frame m f) ≡ None
  outside_says_nothing outside =
      ap (said_by (length h) m n.parts.source (holder_at (known r s h).claims.holders n.parts.source)) (completes_none outside)
      ∙ no_message (length h) m n.parts.source (holder_at (known r s h).claims.holders n.parts.source)

  pub own_says_nothing : IsReceiver r → is_own (known r s h).claims.own (parts_of f.id).source ≡ true → done r s h (entry.frame m f) ≡ None
  own_says_nothing are own =
      ap (λ o. said_by (length h) m n.parts.source o (completed_by r.kinds (known r s h) n (notes_of r s h))) (free (known r s h).claims.own refl own)
    where
      free : (o : Option ℕ) → (known r s h).claims.own ≡ o → is_own o (parts_of f.id).source ≡ true
          → holder_at (known r s h).claims.holders n.parts.source ≡ None
      free None is own = cc
      free (Some a) is own =
          (addresses_are_sound r s h are).sound.own_free n.parts.source (is ∙ ap Some (sym (eqb-true n.parts.source a own)))
