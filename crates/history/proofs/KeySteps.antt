-- The laws of one key.
use Rattle.std.proofs.Common.{◌≡◌, ℕ, ◌≤◌, false, ◌&&◌, List, ◌∷◌, length, refl, ap, subst, ◌∙◌, ◌==◌, arith}
use Rattle.std.specs.Prelude.{Option, Some, None, All, option_map}
use Rattle.std.proofs.lemmas.Bool.{eqb-true, eqb-false, ne_eqb, eq-eqb, le-leb, cases_Bool}
use Rattle.n2k_id.specs.declared.identifier_parts.Parts.{Parts}
use Rattle.n2k_id.specs.Frame.{BusFrame}
use Rattle.n2k_id.specs.Identifier.{parts_of}
use Rattle.claim_table.specs.declared.answer.Holder.{Holder}
use Rattle.claim_table.specs.Claims.{IsSinceBy, holder_at}
use Rattle.pgn_profile.specs.declared.kinds.Kind.TheVariants.{Fast, Outside}
use Rattle.slot_views.specs.Runs.{kept_at, open_at, run_of}
use Rattle.slot_views.specs.RunLaws.{fed, finished, OneStep}
use Rattle.slot_views.proofs.RunSteps.{one_step_of}
use Rattle.fast_packet.specs.FastRuns.{FastPiece, fast_rules}
use Rattle.fast_packet.proofs.Lawful.{lawful}
use Rattle.fast_packet.specs.declared.key.FastKey.{FastKey}
use Rattle.history.specs.Entries.{History, frame}
use Rattle.history.specs.Settings.{Receiver}
use Rattle.history.specs.Known.{Known, known, is_claim, held_since}
use Rattle.history.specs.Traces.{NotedFrame, fast_piece, fast_trace, fast_trace_since, is_transport}
use Rattle.history.specs.Opens.{same_fast, fast_open, notes_of}
use Rattle.history.specs.Messages.{completed_by, fast_carried}
use Rattle.history.specs.AddressLaws.{IsReceiver}
use Rattle.history.specs.KeyLaws.{StepsFast, FramesStepFast, FramesKeepFast, TimeEndsFast, fast_key, the_note}
use Rattle.history.proofs.Addresses.{addresses_are_sound}
use Rattle.claim_table.proofs.SoundLemmas.{held_within}
use Rattle.std.proofs.lemmas.List.Elements.{All-get_or}

-- the two laws of runs, of fast packets
pub steps : OneStep fast_rules
steps = one_step_of fast_rules lawful

-- a holder of a table has its address since an entry that came
pub dated_at : (i : ℕ) (holders : List (Option Holder)) (a : ℕ) (x : Holder) → All (IsSinceBy i) holders → holder_at holders a ≡ Some x → x.since ≤ i
dated_at i holders a x all e = subst (IsSinceBy i) e (All-get_or (IsSinceBy i) holders a None (held_within holders a x e) all)

-- a PGN of fast packets is neither that of claims nor one of the transport protocol
not_fast : (c : Receiver) (p q : ℕ) → c.kinds q ≡ Outside → c.kinds p ≡ Fast → (p == q) ≡ false
not_fast c p q outside e = grind (arith, cases_Bool, eqb-true)

pub no_transport : (c : Receiver) → IsReceiver c → (p : Parts) → c.kinds p.pgn ≡ Fast → is_transport p ≡ false
no_transport c are p e = rw (not_fast c p.pgn 60416 are.management e, not_fast c p.pgn 60160 are.data_packets e) refl

no_claim : (c : Receiver) → IsReceiver c → (f : BusFrame) → c.kinds (parts_of f.id).pgn ≡ Fast → is_claim f ≡ false
no_claim c are f e = rw (not_fast c (parts_of f.id).pgn 60928 are.claims e) refl

pub known_same : (c : Receiver) (s : ℕ) (h : History) (m : ℕ) (f : BusFrame) → is_claim f ≡ false → known c s (frame m f ∷ h) ≡ known c s h
known_same c s h m f e = rw e refl

-- the frame is one of its own key
own_piece : (a p since : ℕ) (n : NotedFrame) (notes : List NotedFrame) → n.parts.source ≡ a → n.parts.pgn ≡ p → since ≤ n.index
    → fast_trace_since (Some since) a p (n ∷ notes) ≡ fast_piece n ∷ fast_trace_since (Some since) a p notes
own_piece a p since n notes source pgn le = rw (source, pgn, eq-eqb a a refl, eq-eqb p p refl, le-leb since n.index le) refl

completed_fast : (c : Receiver) → IsReceiver c → (k : Known) (n : NotedFrame) (older : List NotedFrame) → c.kinds n.parts.pgn ≡ Fast
    → completed_by c.kinds k n older ≡ fast_carried n.parts.pgn (run_of fast_rules (fast_trace k.claims.holders n.parts.source n.parts.pgn (n ∷ older)))
completed_fast c are k n older e = rw (no_transport c are n.parts e, e) refl

module _ (c : Receiver) (s : ℕ) (h : History) (m : ℕ) (f : BusFrame) (x : Holder) (are : IsReceiver c) (fast : c.kinds (parts_of f.id).pgn ≡ Fast)
    (holds : holder_at (known c s h).claims.holders (parts_of f.id).source ≡ Some x) where
  since_is : held_since (known c s h).claims.holders (parts_of f.id).source ≡ Some x.since
  since_is = ap (option_map (λ (y : Holder). y.since)) holds

  trace_is : fast_trace (known c s h).claims.holders (parts_of f.id).source (parts_of f.id).pgn (the_note c s h m f ∷ notes_of c s h)
      ≡ fast_piece (the_note c s h m f) ∷ fast_trace (known c s h).claims.holders (parts_of f.id).source (parts_of f.id).pgn (notes_of c s h)
  trace_is =
      rw since_is
      (own_piece (parts_of f.id).source (parts_of f.id).pgn x.since (the_note c s h m f) (notes_of c s h) refl refl
      (dated_at (length h) (known c s h).claims.holders (parts_of f.id).source x (addresses_are_sound c s h are).dated holds))

  left : (n : ℕ) → fast_open (known c s (frame m f ∷ h)).claims.holders (notes_of c s (frame m f ∷ h)) (fast_key c s h m f) n
      ≡ kept_at fast_rules (fed fast_rules (fast_open (known c s h).claims.holders (notes_of c s h) (fast_key c s h m f) m) (fast_piece (the_note c s h m f))) n
  left n = grind (arith, known_same, no_claim, trace_is, steps)

  completes : completed_by c.kinds (known c s h) (the_note c s h m f) (notes_of c s h)
      ≡ fast_carried (parts_of f.id).pgn (finished fast_rules (fast_open (known c s h).claims.holders (notes_of c s h) (fast_key c s h m f) m) (fast_piece (the_note c s h m f)))
  completes =
      completed_fast c are (known c s h) (the_note c s h m f) (notes_of c s h) fast
      ∙ ap (λ (t : List FastPiece). fast_carried (parts_of f.id).pgn (run_of fast_rules t)) trace_is
      ∙ ap (fast_carried (parts_of f.id).pgn) (steps.whole (fast_trace (known c s h).claims.holders (parts_of f.id).source (parts_of f.id).pgn (notes_of c s h)) (fast_piece (the_note c s h m f)))

  pub step : StepsFast c s h m f x
  step = grind (arith, left, completes)

pub fast_steps : FramesStepFast
fast_steps c s h m f x are fast holds = step c s h m f x are fast holds

-- ---- other keys

pub other_piece : (since : Option ℕ) (a p : ℕ) (n : NotedFrame) (notes : List NotedFrame) → ((n.parts.source == a) && (n.parts.pgn == p)) ≡ false
    → fast_trace_since since a p (n ∷ notes) ≡ fast_trace_since since a p notes
other_piece since a p n notes e = grind arith

pub eqb-sym : (a b : ℕ) → (a == b) ≡ (b == a)
eqb-sym a b = grind (arith, cases_Bool, eq-eqb, eqb-true, ne_eqb, eqb-false)

not_same : (key other : FastKey) → same_fast key other ≡ false → ((other.source == key.source) && (other.pgn == key.pgn)) ≡ false
not_same key other e = rw (eqb-sym other.source key.source, eqb-sym other.pgn key.pgn) e

pub fast_keeps : FramesKeepFast
fast_keeps c s h m f e = record {
  others = λ key n apart.
      rw (known_same c s h m f e)
      (ap (λ (t : List FastPiece). open_at fast_rules t n)
      (other_piece (held_since (known c s h).claims.holders key.source) key.source key.pgn (the_note c s h m f) (notes_of c s h) (not_same key (fast_key c s h m f) apart)));
}

pub fast_ends : TimeEndsFast
fast_ends holders notes key m n le = steps.later (fast_trace holders key.source key.pgn notes) m n le
