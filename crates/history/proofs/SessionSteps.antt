-- The laws of one key of the transport protocol.
use Rattle.std.proofs.Common.{◌≡◌, ℕ, ◌≤◌, Bool, true, false, ◌&&◌, ◌||◌, not, List, ◌∷◌, length, map, refl, ap, ◌∙◌, ◌==◌, arith}
use Rattle.std.specs.Prelude.{Option, Some, None, filter, is_some, if◌then◌else◌, option_map}
use Rattle.std.proofs.lemmas.Bool.{eq-eqb, le-leb}
use Rattle.n2k_id.specs.Frame.{BusFrame}
use Rattle.n2k_id.specs.Identifier.{parts_of}
use Rattle.claim_table.specs.declared.answer.Holder.{Holder}
use Rattle.claim_table.specs.Claims.{is_at, holder_at}
use Rattle.slot_views.specs.Runs.{kept_at, open_at, run_of}
use Rattle.slot_views.specs.RunLaws.{fed, finished, OneStep}
use Rattle.slot_views.proofs.RunSteps.{one_step_of}
use Rattle.iso_transport.specs.IsoRuns.{IsoPiece, iso_rules}
use Rattle.iso_transport.proofs.Lawful.{lawful}
use Rattle.iso_transport.specs.Audience.{key_of}
use Rattle.pgn_profile.specs.declared.kinds.Kind.{Kind}
use Rattle.history.specs.Entries.{History}
use Rattle.history.specs.Settings.{Receiver}
use Rattle.history.specs.Known.{Known, known, is_claim, held_since}
use Rattle.history.specs.Traces.{NotedFrame, iso_piece, iso_trace, broadcast_since, addressed_since, is_transport, is_bearing}
use Rattle.history.specs.Opens.{iso_open, notes_of}
use Rattle.history.specs.Messages.{completed_by, by_session, iso_carried}
use Rattle.history.specs.AddressLaws.{IsReceiver}
use Rattle.history.specs.KeyLaws.{is_meant, concerns, StepsIso, CompletesIso, FramesStepIso, FramesCompleteIso, TimeEndsIso, the_note}
use Rattle.history.proofs.Addresses.{addresses_are_sound}
use Rattle.history.proofs.KeySteps.{dated_at, known_same, eqb-sym}

pub steps : (addressed : Bool) → OneStep (iso_rules addressed)
steps addressed = one_step_of (iso_rules addressed) (lawful addressed)

abbrev pub with_piece : Bool → NotedFrame → List IsoPiece → List IsoPiece
with_piece b n rest = if b then iso_piece n ∷ rest else rest

-- a filter's answer on the newest frame, whose index is late enough
kept_if : (q : NotedFrame → Bool) (n : NotedFrame) (notes : List NotedFrame) (b : Bool) → q n ≡ b → map iso_piece (filter q (n ∷ notes)) ≡ with_piece b n (map iso_piece (filter q notes))
kept_if q n notes b e = grind arith

recent : (x y : Bool) → y ≡ true → (x && y) ≡ x
recent x y e = grind arith

broadcast_head : (since a : ℕ) (n : NotedFrame) (notes : List NotedFrame) → since ≤ n.index
    → broadcast_since (Some since) a (n ∷ notes) ≡ with_piece ((n.parts.source == a) && ((n.parts.destination == 255) && is_bearing false n)) n (broadcast_since (Some since) a notes)
broadcast_head since a n notes le = grind (arith, kept_if, le-leb, recent)

addressed_head : (since own own_since a : ℕ) (n : NotedFrame) (notes : List NotedFrame) → since ≤ n.index → own_since ≤ n.index
    → addressed_since (Some since) (Some own) own_since a (n ∷ notes) ≡ with_piece ((n.parts.source == a) && ((own == n.parts.destination) && is_bearing true n)) n (addressed_since (Some since) (Some own) own_since a notes)
addressed_head since own own_since a n notes le late = grind (arith, late, kept_if, le-leb, recent, eqb-sym)

-- ---- the trace of a key with the newest frame

piece_if : (k : Known) (since : Option ℕ) (a : ℕ) (addressed : Bool) (n : NotedFrame) → Bool
piece_if k since a addressed n = is_some since && ((n.parts.source == a) && (is_meant k.claims.own n addressed && is_bearing addressed n))

abbrev pub IsLate : Option ℕ → ℕ → Type 0
IsLate None i = Unit {0}
IsLate (Some since) i = since ≤ i

broadcast_trace : (k : Known) (since : Option ℕ) (a : ℕ) (n : NotedFrame) (notes : List NotedFrame) → IsLate since n.index
    → broadcast_since since a (n ∷ notes) ≡ with_piece (piece_if k since a false n) n (broadcast_since since a notes)
unfolding piece_if
broadcast_trace k since a n notes late = grind (arith, late, broadcast_head)

addressed_trace : (k : Known) (since own : Option ℕ) (own_since a : ℕ) (n : NotedFrame) (notes : List NotedFrame) → k.claims.own ≡ own → IsLate since n.index → own_since ≤ n.index
    → addressed_since since own own_since a (n ∷ notes) ≡ with_piece (piece_if k since a true n) n (addressed_since since own own_since a notes)
unfolding piece_if
addressed_trace k since own own_since a n notes e late own_late = grind (arith, late, addressed_head)

module _ (c : Receiver) (s : ℕ) (h : History) (m : ℕ) (f : BusFrame) (are : IsReceiver c) where
  pub late : (a : ℕ) (o : Option Holder) → holder_at (known c s h).claims.holders a ≡ o → IsLate (option_map (λ (y : Holder). y.since) o) (length h)
  late a None e = tt
  late a (Some x) e = dated_at (length h) (known c s h).claims.holders a x (addresses_are_sound c s h are).dated e

  pub trace_is : (addressed : Bool) (a : ℕ) → iso_trace (known c s h) addressed a (the_note c s h m f ∷ notes_of c s h)
      ≡ with_piece (concerns (known c s h).claims (the_note c s h m f) (record { addressed = addressed; source = a })) (the_note c s h m f) (iso_trace (known c s h) addressed a (notes_of c s h))
  unfolding piece_if
  trace_is false a = broadcast_trace (known c s h) (held_since (known c s h).claims.holders a) a (the_note c s h m f) (notes_of c s h) (late a (holder_at (known c s h).claims.holders a) refl)
  trace_is true a =
      addressed_trace (known c s h) (held_since (known c s h).claims.holders a) (known c s h).claims.own (known c s h).own_since a (the_note c s h m f) (notes_of c s h) refl
      (late a (holder_at (known c s h).claims.holders a) refl) (addresses_are_sound c s h are).own_dated

  -- what is open with the frame or without it
  opens : (addressed : Bool) (t : List IsoPiece) (n : ℕ) (b : Bool)
      → open_at (iso_rules addressed) (with_piece b (the_note c s h m f) t) n
      ≡ (if b then kept_at (iso_rules addressed) (fed (iso_rules addressed) (open_at (iso_rules addressed) t m) (iso_piece (the_note c s h m f))) n else open_at (iso_rules addressed) t n)
  opens addressed t n true = ap (λ (o : Option (List IsoPiece)). kept_at (iso_rules addressed) o n) ((steps addressed).prefix t (iso_piece (the_note c s h m f)))
  opens addressed t n false = refl

  pub step : is_claim f ≡ false → StepsIso c s h m f
  step other = record {
    left = λ key n.
        rw (known_same c s h m f other)
        (ap (λ (t : List IsoPiece). open_at (iso_rules key.addressed) t n) (trace_is key.addressed key.source)
        ∙ opens key.addressed (iso_trace (known c s h) key.addressed key.source (notes_of c s h)) n (concerns (known c s h).claims (the_note c s h m f) key));
  }

pub iso_steps : FramesStepIso
iso_steps c s h m f are other = step c s h m f are other

pub iso_ends : TimeEndsIso
iso_ends k notes key m n le = (steps key.addressed).later (iso_trace k key.addressed key.source notes) m n le

-- ---- what it completes

-- the frame bears on the session of its own key where it is to all or to the gateway
meant_is : (k : Known) (n : NotedFrame) → (not (key_of n.parts).addressed || is_at n.parts.destination k.claims.own) ≡ is_meant k.claims.own n (key_of n.parts).addressed
meant_is k n = grind arith

held_and_own : (k : Known) (n : NotedFrame) (x : ℕ) → held_since k.claims.holders n.parts.source ≡ Some x → (addressed : Bool)
    → concerns k.claims n (record { addressed = addressed; source = n.parts.source }) ≡ (is_meant k.claims.own n addressed && is_bearing addressed n)
held_and_own k n x e addressed = rw (e, eq-eqb n.parts.source n.parts.source refl) refl

pub session_is : (k : Known) (n : NotedFrame) (older : List NotedFrame) (b : Bool) → ((not (key_of n.parts).addressed || is_at n.parts.destination k.claims.own) && is_bearing (key_of n.parts).addressed n) ≡ b
    → by_session k n older ≡ (if b then iso_carried (run_of (iso_rules (key_of n.parts).addressed) (iso_trace k (key_of n.parts).addressed n.parts.source (n ∷ older))) else None)
session_is k n older b e = grind arith

pub completed_iso : (kinds : ℕ → Kind) (k : Known) (n : NotedFrame) (older : List NotedFrame) → is_transport n.parts ≡ true → completed_by kinds k n older ≡ by_session k n older
completed_iso kinds k n older e = rw e refl

module _ (c : Receiver) (s : ℕ) (h : History) (m : ℕ) (f : BusFrame) (x : Holder) (are : IsReceiver c) (transport : is_transport (parts_of f.id) ≡ true)
    (holds : holder_at (known c s h).claims.holders (parts_of f.id).source ≡ Some x) where
  since_is : held_since (known c s h).claims.holders (parts_of f.id).source ≡ Some x.since
  since_is = ap (option_map (λ (y : Holder). y.since)) holds

  concerns_is : concerns (known c s h).claims (the_note c s h m f) (key_of (parts_of f.id))
      ≡ ((not (key_of (parts_of f.id)).addressed || is_at (parts_of f.id).destination (known c s h).claims.own) && is_bearing (key_of (parts_of f.id)).addressed (the_note c s h m f))
  concerns_is = grind (arith, held_and_own, since_is, meant_is)

  -- the run that it ends, or none
  ends : (addressed : Bool) (b : Bool) → concerns (known c s h).claims (the_note c s h m f) (record { addressed = addressed; source = (parts_of f.id).source }) ≡ b
      → (if b then iso_carried (run_of (iso_rules addressed) (iso_trace (known c s h) addressed (parts_of f.id).source (the_note c s h m f ∷ notes_of c s h))) else None)
      ≡ (if b then iso_carried (finished (iso_rules addressed) (iso_open (known c s h) (notes_of c s h) (record { addressed = addressed; source = (parts_of f.id).source }) m) (iso_piece (the_note c s h m f))) else None)
  ends addressed true e =
      ap (λ (t : List IsoPiece). iso_carried (run_of (iso_rules addressed) t))
      (trace_is c s h m f are addressed (parts_of f.id).source ∙ ap (λ (b : Bool). with_piece b (the_note c s h m f) (iso_trace (known c s h) addressed (parts_of f.id).source (notes_of c s h))) e)
      ∙ ap iso_carried ((steps addressed).whole (iso_trace (known c s h) addressed (parts_of f.id).source (notes_of c s h)) (iso_piece (the_note c s h m f)))
  ends addressed false e = refl

  completes : completed_by c.kinds (known c s h) (the_note c s h m f) (notes_of c s h)
      ≡ (if concerns (known c s h).claims (the_note c s h m f) (key_of (parts_of f.id))
      then iso_carried (finished (iso_rules (key_of (parts_of f.id)).addressed) (iso_open (known c s h) (notes_of c s h) (key_of (parts_of f.id)) m) (iso_piece (the_note c s h m f)))
      else None)
  completes = grind (arith, completed_iso, session_is, concerns_is, ends)

  pub complete : CompletesIso c s h m f x
  complete = grind (arith, completes)

pub iso_completes : FramesCompleteIso
iso_completes c s h m f x are transport holds = complete c s h m f x are transport holds
