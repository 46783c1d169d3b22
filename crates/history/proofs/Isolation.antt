-- A device is isolated: its messages in a history are those in the history of the claims, the commands and its own frames.
use Rattle.std.proofs.Common.{◌≡◌, ℕ, Bool, true, false, ◌&&◌, ◌||◌, not, List, [], ◌∷◌, length, map, refl, sym, ap, subst, ◌∙◌, ◌==◌, arith}
use Rattle.std.specs.Prelude.{Option, is_some, if◌then◌else◌, option_map}
use Rattle.std.specs.List.{AllByRecursion}
use Rattle.std.proofs.lemmas.Bool.{eqb-true, and_parts, false≢true}
use Rattle.n2k_id.specs.Frame.{BusFrame}
use Rattle.n2k_id.specs.Identifier.{parts_of}
use Rattle.claim_table.specs.declared.answer.Holder.{Holder}
use Rattle.claim_table.specs.declared.answer.ClaimStep.{ClaimStep}
use Rattle.claim_table.proofs.RenumberedLemmas.{holder_as, claims_as, claim_as, at_as, claimed_as, commanded_as}
use Rattle.claim_table.specs.Claims.{is_at, Claims, Claim, Outcome, claim, command, holder_at, is_ready}
use Rattle.pgn_profile.specs.declared.kinds.Kind.{Kind}
use Rattle.pgn_profile.specs.declared.kinds.Kind.TheVariants.{Fast}
use Rattle.slot_views.specs.Runs.{run_of, open_at}
use Rattle.fast_packet.specs.declared.key.FastKey.{FastKey}
use Rattle.fast_packet.specs.FastRuns.{FastPiece, fast_rules, is_opener}
use Rattle.iso_transport.specs.Audience.{key_of}
use Rattle.iso_transport.specs.IsoRuns.{IsoPiece, iso_rules, is_opener as iso_opener}
use Rattle.iso_transport.specs.declared.key.IsoKey.{IsoKey}
use Rattle.history.specs.Entries.{Entry, History, frame, datagram, tick}
use Rattle.history.specs.Entries as entry
use Rattle.history.specs.Settings.{Receiver}
use Rattle.history.specs.Known.{Known, known, is_claim, claim_by, held_since}
use Rattle.history.specs.Traces.{NotedFrame, fast_trace, iso_piece, iso_trace, is_transport, is_bearing}
use Rattle.history.specs.Opens.{is_fast, notes_of, fast_open, iso_open}
use Rattle.history.specs.Messages.{Message, Carried, messages_of, said_by, with_message, completed_by, by_kind, by_session, fast_carried, iso_carried}
use Rattle.history.specs.AddressLaws.{IsReceiver}
use Rattle.history.specs.TraceLaws.{is_lost, same_own}
use Rattle.history.specs.KeyLaws.{is_meant, concerns, the_note}
use Rattle.history.specs.IsolationLaws.{keeps, narrowed, from, opens_message, FindsRoom, NoneRefused, Isolation, IsolationOfTwo}
use Rattle.history.proofs.KeySteps.{known_same}
use Rattle.history.proofs.SessionSteps.{IsLate, with_piece, late, trace_is, session_is, completed_iso}
use Rattle.history.proofs.SessionSteps.{steps as iso_steps}
use Rattle.history.proofs.KeySteps.{steps as fast_steps}
use Rattle.history.proofs.TraceMoves.{claims_move_traces, commands_move_traces, known_after_claim}
use Rattle.history.proofs.FreshSteps.{claim_says_none}
use Rattle.history.proofs.Addresses.{addresses_are_sound}
use Rattle.history.proofs.Roomy.{Roomy, not_claims_pgn, fast_head, fast_past, fast_with, iso_with, roomy}
use Rattle.history.proofs.Room.{IsOwnKind, fast_room, iso_room}
use Rattle.history.proofs.Normal.{run_of_map, open_at_map}
use Rattle.history.proofs.Unseen.{fast_norm, iso_norm, fast_unseen, iso_unseen, fast_carries, iso_carries}

-- a holder, a table and a claim without the indices
abbrev unseen : ℕ → ℕ
unseen n = 0

abbrev bare : Option Holder → Option Holder
bare = holder_as unseen

abbrev pub erased : Claims → Claims
erased = claims_as unseen

abbrev unnumbered : Claim → Claim
unnumbered = claim_as unseen

-- what of a history of one gateway is as in one of another
pub record Alike (c d : Receiver) (s a : ℕ) (h g : History) : Type 0 where
  pub kinds : (p : ℕ) → d.kinds p ≡ c.kinds p
  pub claims : erased (known c s h).claims ≡ erased (known d s g).claims
  pub fast : (p : ℕ) → c.kinds p ≡ Fast → map fast_norm (fast_trace (known c s h).claims.holders a p (notes_of c s h)) ≡ map fast_norm (fast_trace (known d s g).claims.holders a p (notes_of d s g))
  pub iso : (addressed : Bool) → map iso_norm (iso_trace (known c s h) addressed a (notes_of c s h)) ≡ map iso_norm (iso_trace (known d s g) addressed a (notes_of d s g))
  pub told : from a (messages_of c s h) ≡ from a (messages_of d s g)

-- ---- a claim

claim_is_neither : (c : Receiver) → IsReceiver c → (n : NotedFrame) → n.parts.pgn ≡ 60928 → (is_fast (c.kinds n.parts.pgn) ≡ false) × (is_transport n.parts ≡ false)
claim_is_neither c are n e = (rw e (ap is_fast are.claims), rw e refl)

claim_is_no_kind : (c : Receiver) → IsReceiver c → (a : ℕ) (n : NotedFrame) → n.parts.pgn ≡ 60928 → IsOwnKind c.kinds a n
claim_is_no_kind c are a n e = λ kind. let neither = claim_is_neither c are n e in absurd (false≢true (sym (rw (neither.0, neither.1) refl) ∙ kind))

claim_is_no_opener : (c : Receiver) → IsReceiver c → (a : ℕ) (k : Known) (n : NotedFrame) → n.parts.pgn ≡ 60928 → FindsRoom c.kinds a k.claims n
claim_is_no_opener c are a k n e = grind (arith, claim_is_neither, false≢true)

by_erased : (c d : Claims) (k l : Claim) → erased c ≡ erased d → unnumbered k ≡ unnumbered l → (erased (claim c k).after ≡ erased (claim d l).after) × ((claim c k).step ≡ (claim d l).step)
by_erased c d k l e f =
    let same : claim (erased c) (unnumbered k) ≡ claim (erased d) (unnumbered l) = ap (λ (x : Claims). claim x (unnumbered k)) e ∙ ap (claim (erased d)) f in (
      ap (λ (o : Outcome). o.after) (sym (claimed_as unseen c k)) ∙ ap (λ (o : Outcome). o.after) same ∙ ap (λ (o : Outcome). o.after) (claimed_as unseen d l),
      ap (λ (o : Outcome). o.step) (sym (claimed_as unseen c k)) ∙ ap (λ (o : Outcome). o.step) same ∙ ap (λ (o : Outcome). o.step) (claimed_as unseen d l),
    )

cut_same : {X : Type 0} (f : X → X) (b d : Bool) (t u : List X) → b ≡ d → map f t ≡ map f u → map f (if b then [] else t) ≡ map f (if d then [] else u)
cut_same f b d t u e same = grind arith

module _ (c d : Receiver) (s a : ℕ) (h g : History) (m : ℕ) (f : BusFrame) (are : IsReceiver c) (too : IsReceiver d) (alike : Alike c d s a h g) (claims : is_claim f ≡ true) where
  both : (erased (claim (known c s h).claims (claim_by (length h) m f)).after ≡ erased (claim (known d s g).claims (claim_by (length g) m f)).after)
      × ((claim (known c s h).claims (claim_by (length h) m f)).step ≡ (claim (known d s g).claims (claim_by (length g) m f)).step)
  both = by_erased (known c s h).claims (known d s g).claims (claim_by (length h) m f) (claim_by (length g) m f) alike.claims refl

  same_lost : is_lost (claim (known c s h).claims (claim_by (length h) m f)).step a ≡ is_lost (claim (known d s g).claims (claim_by (length g) m f)).step a
  same_lost = ap (λ (x : ClaimStep). is_lost x a) both.1

  after_claim : erased (known c s (frame m f ∷ h)).claims ≡ erased (known d s (frame m f ∷ g)).claims
  after_claim = rw (known_after_claim c s h m f claims, known_after_claim d s g m f claims) both.0

  same_changed : same_own (known c s h).claims.own (known c s (frame m f ∷ h)).claims.own ≡ same_own (known d s g).claims.own (known d s (frame m f ∷ g)).claims.own
  same_changed = grind (arith, after_claim)

  iso_after : (addressed : Bool) → map iso_norm (iso_trace (known c s (frame m f ∷ h)) addressed a (notes_of c s (frame m f ∷ h))) ≡ map iso_norm (iso_trace (known d s (frame m f ∷ g)) addressed a (notes_of d s (frame m f ∷ g)))
  iso_after false =
      ap (map iso_norm) ((claims_move_traces c s h m f are claims).broadcast a)
      ∙ cut_same iso_norm _ _ (iso_trace (known c s h) false a (notes_of c s h)) (iso_trace (known d s g) false a (notes_of d s g)) same_lost (alike.iso false)
      ∙ ap (map iso_norm) (sym ((claims_move_traces d s g m f too claims).broadcast a))
  iso_after true =
      ap (map iso_norm) ((claims_move_traces c s h m f are claims).addressed a)
      ∙ cut_same iso_norm _ _ (iso_trace (known c s h) true a (notes_of c s h)) (iso_trace (known d s g) true a (notes_of d s g)) (rw (same_lost, same_changed) refl) (alike.iso true)
      ∙ ap (map iso_norm) (sym ((claims_move_traces d s g m f too claims).addressed a))

  pub claim_alike : Alike c d s a (frame m f ∷ h) (frame m f ∷ g)
  claim_alike = record {
    kinds = alike.kinds;
    claims = after_claim;
    fast = λ p fast.
        ap (map fast_norm) ((claims_move_traces c s h m f are claims).fast a p (not_claims_pgn c are p fast))
        ∙ cut_same fast_norm _ _ (fast_trace (known c s h).claims.holders a p (notes_of c s h)) (fast_trace (known d s g).claims.holders a p (notes_of d s g)) same_lost (alike.fast p fast)
        ∙ ap (map fast_norm) (sym ((claims_move_traces d s g m f too claims).fast a p (not_claims_pgn d too p (alike.kinds p ∙ fast))));
    iso = iso_after;
    told = ap (from a) (claim_says_none c s h m f are claims) ∙ alike.told ∙ sym (ap (from a) (claim_says_none d s g m f too claims));
  }

-- ---- a command

module _ (c d : Receiver) (s a : ℕ) (h g : History) (m source address : ℕ) (are : IsReceiver c) (too : IsReceiver d) (alike : Alike c d s a h g) where
  commanded : erased (known c s (entry.command m source address ∷ h)).claims ≡ erased (known d s (entry.command m source address ∷ g)).claims
  commanded =
      sym (commanded_as unseen (known c s h).claims address m) ∙ ap (λ (x : Claims). command x address m) alike.claims ∙ commanded_as unseen (known d s g).claims address m

  own_changed : same_own (known c s h).claims.own (known c s (entry.command m source address ∷ h)).claims.own ≡ same_own (known d s g).claims.own (known d s (entry.command m source address ∷ g)).claims.own
  own_changed = grind (arith, commanded)

  iso_commanded : (addressed : Bool) → map iso_norm (iso_trace (known c s (entry.command m source address ∷ h)) addressed a (notes_of c s (entry.command m source address ∷ h)))
      ≡ map iso_norm (iso_trace (known d s (entry.command m source address ∷ g)) addressed a (notes_of d s (entry.command m source address ∷ g)))
  iso_commanded false =
      ap (map iso_norm) ((commands_move_traces c s h m source address).broadcast a) ∙ alike.iso false ∙ ap (map iso_norm) (sym ((commands_move_traces d s g m source address).broadcast a))
  iso_commanded true =
      ap (map iso_norm) ((commands_move_traces c s h m source address).addressed a)
      ∙ cut_same iso_norm _ _ (iso_trace (known c s h) true a (notes_of c s h)) (iso_trace (known d s g) true a (notes_of d s g)) (ap not own_changed) (alike.iso true)
      ∙ ap (map iso_norm) (sym ((commands_move_traces d s g m source address).addressed a))

  pub command_alike : Alike c d s a (entry.command m source address ∷ h) (entry.command m source address ∷ g)
  command_alike = record {
    kinds = alike.kinds;
    claims = commanded;
    fast = λ p fast.
        ap (map fast_norm) ((commands_move_traces c s h m source address).fast a p (not_claims_pgn c are p fast)) ∙ alike.fast p fast
        ∙ ap (map fast_norm) (sym ((commands_move_traces d s g m source address).fast a p (not_claims_pgn d too p (alike.kinds p ∙ fast))));
    iso = iso_commanded;
    told = alike.told;
  }

-- ---- a frame of the device, which is no claim

some_bare : (x : Option Holder) → is_some (option_map (λ (y : Holder). y.since) x) ≡ is_some (bare x)
some_bare x = grind arith

own_same : (k l : Known) (b : ℕ) → k.claims.own ≡ l.claims.own → is_at b k.claims.own ≡ is_at b l.claims.own
own_same k l b e = grind arith

piece_same : {X : Type 0} (f : X → X) (b d : Bool) (x y : X) (t u : List X) → b ≡ d → f x ≡ f y → map f t ≡ map f u → map f (if b then x ∷ t else t) ≡ map f (if d then y ∷ u else u)
piece_same f b d x y t u e one same = grind arith

-- the same message of two holders of one NAME
said_same : (a i j m src : ℕ) (x y : Option Holder) (v w : Option Carried) (t u : List Message) → bare x ≡ bare y → v ≡ w → from a t ≡ from a u
    → from a (with_message (said_by i m src x v) t) ≡ from a (with_message (said_by j m src y w) u)
said_same a i j m src x y v w t u e f same = grind arith

abbrev own_trace : Known → NotedFrame → List NotedFrame → List FastPiece
own_trace k n older = fast_trace k.claims.holders n.parts.source n.parts.pgn (n ∷ older)

not_session : (kinds : ℕ → Kind) (k : Known) (n : NotedFrame) (older : List NotedFrame) → is_transport n.parts ≡ false → completed_by kinds k n older ≡ by_kind (kinds n.parts.pgn) n (own_trace k n older)
not_session kinds k n older e = rw e refl

module _ (c d : Receiver) (s a : ℕ) (h g : History) (m : ℕ) (f : BusFrame) (are : IsReceiver c) (too : IsReceiver d) (alike : Alike c d s a h g) (other : is_claim f ≡ false)
    (source : ((parts_of f.id).source == a) ≡ true) where
  holders_same : bare (holder_at (known c s h).claims.holders a) ≡ bare (holder_at (known d s g).claims.holders a)
  holders_same = sym (at_as unseen (known c s h).claims.holders a) ∙ ap (λ (x : Claims). holder_at x.holders a) alike.claims ∙ at_as unseen (known d s g).claims.holders a

  held_same : is_some (held_since (known c s h).claims.holders a) ≡ is_some (held_since (known d s g).claims.holders a)
  held_same = some_bare (holder_at (known c s h).claims.holders a) ∙ ap is_some holders_same ∙ sym (some_bare (holder_at (known d s g).claims.holders a))

  owns_same : (known c s h).claims.own ≡ (known d s g).claims.own
  owns_same = ap (λ (x : Claims). x.own) alike.claims

  ready_same : (the_note c s h m f).ready ≡ (the_note d s g m f).ready
  ready_same = ap (λ (x : Claims). is_ready x m) alike.claims

  late_h : IsLate (held_since (known c s h).claims.holders a) (length h)
  late_h = late c s h m f are a (holder_at (known c s h).claims.holders a) refl

  late_g : IsLate (held_since (known d s g).claims.holders a) (length g)
  late_g = late d s g m f too a (holder_at (known d s g).claims.holders a) refl

  fast_own : (p : ℕ) → c.kinds p ≡ Fast
      → map fast_norm (fast_trace (known c s h).claims.holders a p (the_note c s h m f ∷ notes_of c s h)) ≡ map fast_norm (fast_trace (known d s g).claims.holders a p (the_note d s g m f ∷ notes_of d s g))
  fast_own p fast = grind (arith, fast_norm, fast_head, late_h, piece_same, held_same, late_g)

  meant_same : (addressed : Bool) → is_meant (known c s h).claims.own (the_note c s h m f) addressed ≡ is_meant (known d s g).claims.own (the_note d s g m f) addressed
  meant_same addressed = grind (arith, own_same, owns_same)

  bearing_same : (addressed : Bool) → is_bearing addressed (the_note c s h m f) ≡ is_bearing addressed (the_note d s g m f)
  bearing_same addressed = grind (arith, ready_same)

  concerns_same : (addressed : Bool) → concerns (known c s h).claims (the_note c s h m f) (record { addressed = addressed; source = a }) ≡ concerns (known d s g).claims (the_note d s g m f) (record { addressed = addressed; source = a })
  concerns_same addressed = grind (arith, held_same, meant_same, bearing_same)

  iso_own : (addressed : Bool)
      → map iso_norm (iso_trace (known c s h) addressed a (the_note c s h m f ∷ notes_of c s h)) ≡ map iso_norm (iso_trace (known d s g) addressed a (the_note d s g m f ∷ notes_of d s g))
  iso_own addressed = grind (arith, iso_norm, trace_is, piece_same, concerns_same)

  -- what it completes
  module _ (room_h : Roomy c s a h) (room_g : Roomy d s a g) (finds_h : FindsRoom c.kinds a (known c s h).claims (the_note c s h m f)) (finds_g : FindsRoom d.kinds a (known d s g).claims (the_note d s g m f)) where
    from_source : (parts_of f.id).source ≡ a
    from_source = eqb-true (parts_of f.id).source a source

    fast_done : c.kinds (parts_of f.id).pgn ≡ Fast
        → fast_carried (parts_of f.id).pgn (run_of fast_rules (fast_trace (known c s h).claims.holders a (parts_of f.id).pgn (the_note c s h m f ∷ notes_of c s h)))
        ≡ fast_carried (parts_of f.id).pgn (run_of fast_rules (fast_trace (known d s g).claims.holders a (parts_of f.id).pgn (the_note d s g m f ∷ notes_of d s g)))
    fast_done fast =
        sym (fast_carries (parts_of f.id).pgn (run_of fast_rules (fast_trace (known c s h).claims.holders a (parts_of f.id).pgn (the_note c s h m f ∷ notes_of c s h))))
        ∙ ap (fast_carried (parts_of f.id).pgn) (sym (run_of_map fast_rules fast_norm fast_unseen fast_steps (fast_trace (known c s h).claims.holders a (parts_of f.id).pgn (the_note c s h m f ∷ notes_of c s h))
        (fast_with c s a are h m f finds_h room_h (parts_of f.id).pgn fast)))
        ∙ ap (λ (t : List FastPiece). fast_carried (parts_of f.id).pgn (run_of fast_rules t)) (fast_own (parts_of f.id).pgn fast)
        ∙ ap (fast_carried (parts_of f.id).pgn) (run_of_map fast_rules fast_norm fast_unseen fast_steps (fast_trace (known d s g).claims.holders a (parts_of f.id).pgn (the_note d s g m f ∷ notes_of d s g))
        (fast_with d s a too g m f finds_g room_g (parts_of f.id).pgn (alike.kinds (parts_of f.id).pgn ∙ fast)))
        ∙ fast_carries (parts_of f.id).pgn (run_of fast_rules (fast_trace (known d s g).claims.holders a (parts_of f.id).pgn (the_note d s g m f ∷ notes_of d s g)))

    iso_done : (addressed : Bool)
        → iso_carried (run_of (iso_rules addressed) (iso_trace (known c s h) addressed a (the_note c s h m f ∷ notes_of c s h)))
        ≡ iso_carried (run_of (iso_rules addressed) (iso_trace (known d s g) addressed a (the_note d s g m f ∷ notes_of d s g)))
    iso_done addressed =
        sym (iso_carries (run_of (iso_rules addressed) (iso_trace (known c s h) addressed a (the_note c s h m f ∷ notes_of c s h))))
        ∙ ap iso_carried (sym (run_of_map (iso_rules addressed) iso_norm (iso_unseen addressed) (iso_steps addressed) (iso_trace (known c s h) addressed a (the_note c s h m f ∷ notes_of c s h))
        (iso_with c s a are h m f finds_h room_h addressed)))
        ∙ ap (λ (t : List IsoPiece). iso_carried (run_of (iso_rules addressed) t)) (iso_own addressed)
        ∙ ap iso_carried (run_of_map (iso_rules addressed) iso_norm (iso_unseen addressed) (iso_steps addressed) (iso_trace (known d s g) addressed a (the_note d s g m f ∷ notes_of d s g))
        (iso_with d s a too g m f finds_g room_g addressed))
        ∙ iso_carries (run_of (iso_rules addressed) (iso_trace (known d s g) addressed a (the_note d s g m f ∷ notes_of d s g)))

    session_done : by_session (known c s h) (the_note c s h m f) (notes_of c s h) ≡ by_session (known d s g) (the_note d s g m f) (notes_of d s g)
    session_done = grind (arith, session_is, own_same, owns_same, bearing_same, from_source, iso_done)

    kind_done : (kind : Kind) → c.kinds (parts_of f.id).pgn ≡ kind → by_kind kind (the_note c s h m f) (own_trace (known c s h) (the_note c s h m f) (notes_of c s h))
        ≡ by_kind kind (the_note d s g m f) (own_trace (known d s g) (the_note d s g m f) (notes_of d s g))
    kind_done kind e = grind (arith, from_source, fast_done)

    completes : completed_by c.kinds (known c s h) (the_note c s h m f) (notes_of c s h) ≡ completed_by d.kinds (known d s g) (the_note d s g m f) (notes_of d s g)
    completes = grind (arith, completed_iso, session_done, not_session, kind_done)

    pub own_alike : Alike c d s a (frame m f ∷ h) (frame m f ∷ g)
    own_alike = grind (arith, known_same, fast_own, iso_own, said_same, bare, from_source, holders_same, completes)

-- ---- its openers find room where they found it
module _ (c : Receiver) (s a : ℕ) (h g : History) (m : ℕ) (f : BusFrame) (are : IsReceiver c) (alike : Alike c c s a h g) (other : is_claim f ≡ false)
    (source : ((parts_of f.id).source == a) ≡ true) (room_h : Roomy c s a h) (room_g : Roomy c s a g) (only : AllByRecursion (IsOwnKind c.kinds a) (notes_of c s g)) where
  some_map : {X Y : Type 0} (f : X → Y) (o : Option X) → is_some (option_map f o) ≡ is_some o
  some_map f o = grind arith

  fast_is : (kind : Kind) → is_fast kind ≡ true → kind ≡ Fast
  fast_is kind e = grind arith

  fast_open_same : (p : ℕ) → is_fast (c.kinds p) ≡ true → is_some (open_at fast_rules (fast_trace (known c s g).claims.holders a p (notes_of c s g)) m) ≡ is_some (open_at fast_rules (fast_trace (known c s h).claims.holders a p (notes_of c s h)) m)
  fast_open_same p kind =
      sym (some_map (map fast_norm) (open_at fast_rules (fast_trace (known c s g).claims.holders a p (notes_of c s g)) m))
      ∙ ap is_some (sym (open_at_map fast_rules fast_norm fast_unseen fast_steps (fast_trace (known c s g).claims.holders a p (notes_of c s g)) m (room_g.fast p (fast_is (c.kinds p) kind))))
      ∙ ap (λ (t : List FastPiece). is_some (open_at fast_rules t m)) (sym (alike.fast p (fast_is (c.kinds p) kind)))
      ∙ ap is_some (open_at_map fast_rules fast_norm fast_unseen fast_steps (fast_trace (known c s h).claims.holders a p (notes_of c s h)) m (room_h.fast p (fast_is (c.kinds p) kind)))
      ∙ some_map (map fast_norm) (open_at fast_rules (fast_trace (known c s h).claims.holders a p (notes_of c s h)) m)

  fast_opens : (key : FastKey) → ((key.source == a) ≡ true) × (is_fast (c.kinds key.pgn) ≡ true) → is_some (fast_open (known c s g).claims.holders (notes_of c s g) key m) ≡ is_some (fast_open (known c s h).claims.holders (notes_of c s h) key m)
  fast_opens key of = grind (arith, eqb-true, fast_open_same)

  iso_open_same : (addressed : Bool) → is_some (open_at (iso_rules addressed) (iso_trace (known c s g) addressed a (notes_of c s g)) m) ≡ is_some (open_at (iso_rules addressed) (iso_trace (known c s h) addressed a (notes_of c s h)) m)
  iso_open_same addressed =
      sym (some_map (map iso_norm) (open_at (iso_rules addressed) (iso_trace (known c s g) addressed a (notes_of c s g)) m))
      ∙ ap is_some (sym (open_at_map (iso_rules addressed) iso_norm (iso_unseen addressed) (iso_steps addressed) (iso_trace (known c s g) addressed a (notes_of c s g)) m (room_g.iso addressed)))
      ∙ ap (λ (t : List IsoPiece). is_some (open_at (iso_rules addressed) t m)) (sym (alike.iso addressed))
      ∙ ap is_some (open_at_map (iso_rules addressed) iso_norm (iso_unseen addressed) (iso_steps addressed) (iso_trace (known c s h) addressed a (notes_of c s h)) m (room_h.iso addressed))
      ∙ some_map (map iso_norm) (open_at (iso_rules addressed) (iso_trace (known c s h) addressed a (notes_of c s h)) m)

  iso_opens : (key : IsoKey) → (key.source == a) ≡ true → is_some (iso_open (known c s g) (notes_of c s g) key m) ≡ is_some (iso_open (known c s h) (notes_of c s h) key m)
  iso_opens key of = grind (arith, eqb-true, iso_open_same)

  still_admitted : (the_note c s h m f).admitted ≡ true → (the_note c s g m f).admitted ≡ true
  still_admitted room = by (is_transport (parts_of f.id)) refl room
    where
      by : (b : Bool) → is_transport (parts_of f.id) ≡ b → (the_note c s h m f).admitted ≡ true → (the_note c s g m f).admitted ≡ true
      by true e was =
          rw e (iso_room c.kinds a (known c s h) (known c s g) (addresses_are_sound c s h are).sound (notes_of c s h) (notes_of c s g) m only iso_opens c.iso_slots (key_of (parts_of f.id)) (rw e at was))
      by false e was = grind (arith, fast_room, fast_opens)

  from_it : (parts_of f.id).source ≡ a
  from_it = eqb-true (parts_of f.id).source a source

  held_there : is_some (held_since (known c s h).claims.holders (parts_of f.id).source) ≡ is_some (held_since (known c s g).claims.holders (parts_of f.id).source)
  held_there = subst (λ (x : ℕ). is_some (held_since (known c s h).claims.holders x) ≡ is_some (held_since (known c s g).claims.holders x)) (sym from_it) (held_same c c s a h g m f are are alike other source)

  concerns_there : concerns (known c s h).claims (the_note c s h m f) (key_of (parts_of f.id)) ≡ concerns (known c s g).claims (the_note c s g m f) (key_of (parts_of f.id))
  concerns_there = grind (arith, from_it, concerns_same)

  opens_same : opens_message c.kinds (known c s h).claims (the_note c s h m f) ≡ opens_message c.kinds (known c s g).claims (the_note c s g m f)
  opens_same =
      ap (λ (b : Bool). (b && (is_fast (c.kinds (parts_of f.id).pgn) && is_opener f.held)) || (concerns (known c s h).claims (the_note c s h m f) (key_of (parts_of f.id)) && iso_opener (key_of (parts_of f.id)).addressed (iso_piece (the_note c s h m f)))) held_there
      ∙ ap (λ (b : Bool). (is_some (held_since (known c s g).claims.holders (parts_of f.id).source) && (is_fast (c.kinds (parts_of f.id).pgn) && is_opener f.held)) || (b && iso_opener (key_of (parts_of f.id)).addressed (iso_piece (the_note c s h m f)))) concerns_there

  pub room_kept : FindsRoom c.kinds a (known c s h).claims (the_note c s h m f) → FindsRoom c.kinds a (known c s g).claims (the_note c s g m f)
  room_kept room = λ own opening. still_admitted (room own (opens_same ∙ opening))

-- ---- a frame of another device

dropped : (a i m src : ℕ) (x : Option Holder) (w : Option Carried) (t : List Message) → (src == a) ≡ false → from a (with_message (said_by i m src x w) t) ≡ from a t
dropped a i m src x w t e = grind arith

not_concerned : (k : Known) (n : NotedFrame) (a : ℕ) (addressed : Bool) → (n.parts.source == a) ≡ false → concerns k.claims n (record { addressed = addressed; source = a }) ≡ false
not_concerned k n a addressed e = grind arith

module _ (c d : Receiver) (s a : ℕ) (h g : History) (m : ℕ) (f : BusFrame) (are : IsReceiver c) (too : IsReceiver d) (alike : Alike c d s a h g) (other : is_claim f ≡ false)
    (elsewhere : ((parts_of f.id).source == a) ≡ false) where
  iso_past : (addressed : Bool) → iso_trace (known c s h) addressed a (the_note c s h m f ∷ notes_of c s h) ≡ iso_trace (known c s h) addressed a (notes_of c s h)
  iso_past addressed = grind (arith, trace_is, with_piece, not_concerned)

  pub other_alike : Alike c d s a (frame m f ∷ h) g
  other_alike = grind (arith, known_same, fast_norm, fast_past, iso_norm, iso_past, dropped)

-- ---- a whole history

kept_is : (a : ℕ) (e : Entry) (h : History) → keeps a e ≡ true → narrowed a (e ∷ h) ≡ e ∷ narrowed a h
kept_is a e h keep = rw keep refl

gone_is : (a : ℕ) (e : Entry) (h : History) → keeps a e ≡ false → narrowed a (e ∷ h) ≡ narrowed a h
gone_is a e h gone = rw gone refl

module _ (c d : Receiver) (s a : ℕ) (are : IsReceiver c) (too : IsReceiver d) (kinds : (p : ℕ) → d.kinds p ≡ c.kinds p) (start : known c s [] ≡ known d s []) where
  with_claim : (h : History) (m : ℕ) (f : BusFrame) → is_claim f ≡ true → Alike c d s a h (narrowed a h) → Alike c d s a (frame m f ∷ h) (narrowed a (frame m f ∷ h))
  with_claim h m f claims alike = grind (arith, kept_is, claim_alike)

  with_own : (h : History) (m : ℕ) (f : BusFrame) → is_claim f ≡ false → ((parts_of f.id).source == a) ≡ true → NoneRefused c s (frame m f ∷ h) a → NoneRefused d s (frame m f ∷ narrowed a h) a
      → Alike c d s a h (narrowed a h) → Alike c d s a (frame m f ∷ h) (narrowed a (frame m f ∷ h))
  with_own h m f other own rooms kept alike =
      let keep : keeps a (frame m f) ≡ true = rw (other, own) refl in
      subst (Alike c d s a (frame m f ∷ h)) (sym (kept_is a (frame m f) h keep))
      (own_alike c d s a h (narrowed a h) m f are too alike other own (roomy c s a are h rooms.1) (roomy d s a too (narrowed a h) kept.1) rooms.0 kept.0)

  with_other : (h : History) (m : ℕ) (f : BusFrame) → is_claim f ≡ false → ((parts_of f.id).source == a) ≡ false → Alike c d s a h (narrowed a h) → Alike c d s a (frame m f ∷ h) (narrowed a (frame m f ∷ h))
  with_other h m f other elsewhere alike =
      subst (Alike c d s a (frame m f ∷ h)) (sym (gone_is a (frame m f) h (rw (other, elsewhere) refl))) (other_alike c d s a h (narrowed a h) m f are too alike other elsewhere)

  alike_all : (h : History) → NoneRefused c s h a → NoneRefused d s (narrowed a h) a → Alike c d s a h (narrowed a h)
  alike_all [] rooms kept = grind (arith, erased, fast_norm, iso_norm)
  alike_all (frame m f ∷ h) rooms kept = by (is_claim f) refl ((parts_of f.id).source == a) refl (λ found. alike_all h rooms.1 found)
    where
      same : (x : History) → narrowed a (frame m f ∷ h) ≡ x → NoneRefused d s x a
      same x e = subst (λ (y : History). NoneRefused d s y a) e kept

      by : (b : Bool) → is_claim f ≡ b → (e : Bool) → ((parts_of f.id).source == a) ≡ e → (NoneRefused d s (narrowed a h) a → Alike c d s a h (narrowed a h))
          → Alike c d s a (frame m f ∷ h) (narrowed a (frame m f ∷ h))
      by true claims e own before = with_claim h m f claims (before (same (frame m f ∷ narrowed a h) (kept_is a (frame m f) h (rw claims refl))).1)
      by false claims true own before =
          let now = same (frame m f ∷ narrowed a h) (kept_is a (frame m f) h (rw (claims, own) refl)) in
          with_own h m f claims own rooms now (before now.1)
      by false claims false own before = with_other h m f claims own (before (same (narrowed a h) (gone_is a (frame m f) h (rw (claims, own) refl))))
  alike_all (datagram m bytes ∷ h) rooms kept = grind (arith, alike_all h rooms kept)
  alike_all (tick m ∷ h) rooms kept = grind (arith, alike_all h rooms kept)
  alike_all (entry.command m source address ∷ h) rooms kept = command_alike c d s a h (narrowed a h) m source address are too (alike_all h rooms kept)

-- ---- only the device's frames are kept, and its openers find room still

module _ (c : Receiver) (s a : ℕ) (are : IsReceiver c) where
  kept_kinds : (h : History) → AllByRecursion (IsOwnKind c.kinds a) (notes_of c s (narrowed a h))
  kept_kinds [] = tt
  kept_kinds (frame m f ∷ h) = grind (arith, kept_kinds h, IsOwnKind, kept_is, claim_is_no_kind, eqb-true, and_parts, gone_is)
  kept_kinds (datagram m bytes ∷ h) = kept_kinds h
  kept_kinds (tick m ∷ h) = kept_kinds h
  kept_kinds (entry.command m source address ∷ h) = kept_kinds h

  kept_rooms : (h : History) → NoneRefused c s h a → NoneRefused c s (narrowed a h) a
  kept_rooms [] rooms = tt
  kept_rooms (frame m f ∷ h) rooms = by (is_claim f) refl ((parts_of f.id).source == a) refl (kept_rooms h rooms.1)
    where
      same : (x : History) → narrowed a (frame m f ∷ h) ≡ x → NoneRefused c s x a → NoneRefused c s (narrowed a (frame m f ∷ h)) a
      same x e all = subst (λ (y : History). NoneRefused c s y a) (sym e) all

      by : (b : Bool) → is_claim f ≡ b → (e : Bool) → ((parts_of f.id).source == a) ≡ e → NoneRefused c s (narrowed a h) a → NoneRefused c s (narrowed a (frame m f ∷ h)) a
      by true claims e own kept =
          same (frame m f ∷ narrowed a h) (kept_is a (frame m f) h (rw claims refl))
          (claim_is_no_opener c are a (known c s (narrowed a h)) (the_note c s (narrowed a h) m f) (eqb-true (parts_of f.id).pgn 60928 (and_parts _ _ claims).0), kept)
      by false claims true own kept =
          same (frame m f ∷ narrowed a h) (kept_is a (frame m f) h (rw (claims, own) refl))
          (room_kept c s a h (narrowed a h) m f are (alike_all c c s a are are (λ p. refl) refl h rooms.1 kept) claims own (roomy c s a are h rooms.1) (roomy c s a are (narrowed a h) kept) (kept_kinds h) rooms.0, kept)
      by false claims false own kept = same (narrowed a h) (gone_is a (frame m f) h (rw (claims, own) refl)) kept
  kept_rooms (datagram m bytes ∷ h) rooms = kept_rooms h rooms
  kept_rooms (tick m ∷ h) rooms = kept_rooms h rooms
  kept_rooms (entry.command m source address ∷ h) rooms = kept_rooms h rooms

pub isolation : Isolation
isolation c s h a are rooms = (alike_all c c s a are are (λ p. refl) refl h rooms (kept_rooms c s a are h rooms)).told

-- ---- two gateways

alike_settings : (c d : Receiver) → d.name ≡ c.name → d.address ≡ c.address → d.presets ≡ c.presets → ((p : ℕ) → d.kinds p ≡ c.kinds p) → IsReceiver c → IsReceiver d
alike_settings c d name address presets kinds are = grind arith

alike_start : (c d : Receiver) (s : ℕ) → d.name ≡ c.name → d.address ≡ c.address → d.presets ≡ c.presets → known c s [] ≡ known d s []
alike_start c d s name address presets = grind arith

pub isolation_of_two : IsolationOfTwo
isolation_of_two c d s h g a are name address presets kinds same rooms_h rooms_g =
    let too : IsReceiver d = alike_settings c d name address presets kinds are in
    let kept : NoneRefused d s (narrowed a h) a = subst (λ (x : History). NoneRefused d s x a) same (kept_rooms d s a too g rooms_g) in
    (alike_all c d s a are too kinds (alike_start c d s name address presets) h rooms_h kept).told
    ∙ ap (λ (x : History). from a (messages_of d s x)) (sym same)
    ∙ sym (isolation d s g a too rooms_g)
