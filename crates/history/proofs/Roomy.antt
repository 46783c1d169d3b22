-- Where none of a device's openers was refused, every opener that counts for it found room.
use Rattle.std.proofs.Common.{◌≡◌, ◌≢◌, ℕ, Bool, true, false, ◌&&◌, List, [], ◌∷◌, refl, sym, ap, subst, ◌∙◌, ◌==◌, arith}
use Rattle.std.specs.Prelude.{Option, is_some, if◌then◌else◌}
use Rattle.std.specs.List.{AllByRecursion}
use Rattle.std.proofs.lemmas.Bool.{eqb-true, ne_eqb, and_parts, false≢true, le-leb}
use Rattle.n2k_id.specs.Frame.{BusFrame}
use Rattle.n2k_id.specs.Identifier.{parts_of}
use Rattle.claim_table.specs.Claims.{is_at, holder_at}
use Rattle.claim_table.specs.Laws.{IsSound}
use Rattle.pgn_profile.specs.declared.kinds.Kind.{Kind}
use Rattle.pgn_profile.specs.declared.kinds.Kind.TheVariants.{Fast, Outside}
use Rattle.slot_views.specs.Runs.{Rules}
use Rattle.fast_packet.specs.FastRuns.{fast_rules}
use Rattle.iso_transport.specs.Audience.{key_of}
use Rattle.iso_transport.specs.IsoRuns.{iso_rules}
use Rattle.history.specs.Entries.{History, frame, datagram, tick}
use Rattle.history.specs.Entries as entry
use Rattle.history.specs.Settings.{Receiver}
use Rattle.history.specs.Known.{Known, known, is_claim, held_since}
use Rattle.history.specs.Traces.{NotedFrame, fast_piece, fast_trace, iso_piece, iso_trace}
use Rattle.history.specs.Opens.{is_fast, notes_of}
use Rattle.history.specs.AddressLaws.{IsReceiver}
use Rattle.history.specs.KeyLaws.{concerns, the_note}
use Rattle.history.specs.IsolationLaws.{opens_message, FindsRoom, NoneRefused}
use Rattle.history.proofs.Addresses.{addresses_are_sound}
use Rattle.history.proofs.KeySteps.{known_same, other_piece}
use Rattle.history.proofs.SessionSteps.{IsLate, late, trace_is}
use Rattle.history.proofs.TraceMoves.{claims_move_traces, commands_move_traces}

-- every opener of these found room
abbrev pub FoundRoom : {X : Type 0} → Rules X → List X → Type 0
FoundRoom r t = AllByRecursion (λ x. r.opens x ≡ true → r.admitted x ≡ true) t

pub record Roomy (c : Receiver) (s a : ℕ) (h : History) : Type 0 where
  pub fast : (p : ℕ) → c.kinds p ≡ Fast → FoundRoom fast_rules (fast_trace (known c s h).claims.holders a p (notes_of c s h))
  pub iso : (addressed : Bool) → FoundRoom (iso_rules addressed) (iso_trace (known c s h) addressed a (notes_of c s h))

cut_room : {X : Type 0} (r : Rules X) (b : Bool) (t : List X) → FoundRoom r t → FoundRoom r (if b then [] else t)
cut_room r b t room = grind arith

added_room : {X : Type 0} (r : Rules X) (b : Bool) (x : X) (t : List X) → (b ≡ true → r.opens x ≡ true → r.admitted x ≡ true) → FoundRoom r t → FoundRoom r (if b then x ∷ t else t)
added_room r b x t new room = grind arith

pub not_claims_pgn : (c : Receiver) → IsReceiver c → (p : ℕ) → c.kinds p ≡ Fast → p ≢ 60928
not_claims_pgn c are p fast e = let two : Outside ≡ Fast = sym are.claims ∙ subst (λ (x : ℕ). c.kinds x ≡ Fast) e fast in cc

-- ---- the fast frames of a source, with one more

pub fast_head : (k : Known) (a p : ℕ) (n : NotedFrame) (notes : List NotedFrame) → (n.parts.source == a) ≡ true → IsLate (held_since k.claims.holders a) n.index
    → fast_trace k.claims.holders a p (n ∷ notes) ≡ (if is_some (held_since k.claims.holders a) && (n.parts.pgn == p) then fast_piece n ∷ fast_trace k.claims.holders a p notes else fast_trace k.claims.holders a p notes)
fast_head k a p n notes source late = grind (arith, late, le-leb, IsLate)

pub fast_past : (k : Known) (a p : ℕ) (n : NotedFrame) (notes : List NotedFrame) → (n.parts.source == a) ≡ false → fast_trace k.claims.holders a p (n ∷ notes) ≡ fast_trace k.claims.holders a p notes
fast_past k a p n notes e = other_piece (held_since k.claims.holders a) a p n notes (rw e refl)

-- ---- what counts and is an opener of its rules opens a message

fast_opens : (c : Receiver) (k : Known) (n : NotedFrame) (a p : ℕ) → (n.parts.source == a) ≡ true → is_fast (c.kinds p) ≡ true → (is_some (held_since k.claims.holders a) && (n.parts.pgn == p)) ≡ true
    → fast_rules.opens (fast_piece n) ≡ true → opens_message c.kinds k.claims n ≡ true
fast_opens c k n a p source kind counts opening = grind (arith, and_parts, eqb-true)

-- the gateway's own address is none to all
own_small : (k : Known) → IsSound k.claims → (d : ℕ) (own : Option ℕ) → k.claims.own ≡ own → is_at d k.claims.own ≡ true → (d == 255) ≡ false
own_small k sound d own e is = grind (arith, false≢true, eqb-true, ne_eqb)

concerned_source : (k : Known) (n : NotedFrame) (a : ℕ) (addressed : Bool) → concerns k.claims n (record { addressed = addressed; source = a }) ≡ true → (n.parts.source == a) ≡ true
concerned_source k n a addressed e = grind (arith, and_parts)

pub key_is : (k : Known) → IsSound k.claims → (n : NotedFrame) (a : ℕ) (addressed : Bool) → concerns k.claims n (record { addressed = addressed; source = a }) ≡ true
    → key_of n.parts ≡ record { addressed = addressed; source = a }
key_is k sound n a addressed e = grind (arith, and_parts, eqb-true, concerned_source, own_small)

iso_opens : (kinds : ℕ → Kind) (k : Known) → IsSound k.claims → (n : NotedFrame) (a : ℕ) (addressed : Bool) → concerns k.claims n (record { addressed = addressed; source = a }) ≡ true
    → (iso_rules addressed).opens (iso_piece n) ≡ true → opens_message kinds k.claims n ≡ true
iso_opens kinds k sound n a addressed e opening = grind (arith, key_is)

-- ---- a whole history

module _ (c : Receiver) (s a : ℕ) (are : IsReceiver c) where
  module _ (h : History) (m : ℕ) (f : BusFrame) (finds : FindsRoom c.kinds a (known c s h).claims (the_note c s h m f)) (room : Roomy c s a h) where
    pub fast_with : (p : ℕ) → c.kinds p ≡ Fast → FoundRoom fast_rules (fast_trace (known c s h).claims.holders a p (the_note c s h m f ∷ notes_of c s h))
    fast_with p kind = by ((parts_of f.id).source == a) refl
      where
        by : (b : Bool) → ((parts_of f.id).source == a) ≡ b → FoundRoom fast_rules (fast_trace (known c s h).claims.holders a p (the_note c s h m f ∷ notes_of c s h))
        by true e =
            subst (FoundRoom fast_rules) (sym (fast_head (known c s h) a p (the_note c s h m f) (notes_of c s h) e (late c s h m f are a (holder_at (known c s h).claims.holders a) refl)))
            (added_room fast_rules (is_some (held_since (known c s h).claims.holders a) && ((parts_of f.id).pgn == p)) (fast_piece (the_note c s h m f)) (fast_trace (known c s h).claims.holders a p (notes_of c s h))
            (λ counts opening. finds e (fast_opens c (known c s h) (the_note c s h m f) a p e (ap is_fast kind) counts opening)) (room.fast p kind))
        by false e = subst (FoundRoom fast_rules) (sym (fast_past (known c s h) a p (the_note c s h m f) (notes_of c s h) e)) (room.fast p kind)

    pub iso_with : (addressed : Bool) → FoundRoom (iso_rules addressed) (iso_trace (known c s h) addressed a (the_note c s h m f ∷ notes_of c s h))
    iso_with addressed =
        subst (FoundRoom (iso_rules addressed)) (sym (trace_is c s h m f are addressed a))
        (added_room (iso_rules addressed) (concerns (known c s h).claims (the_note c s h m f) (record { addressed = addressed; source = a })) (iso_piece (the_note c s h m f)) (iso_trace (known c s h) addressed a (notes_of c s h))
        (λ counts opening. finds (concerned_source (known c s h) (the_note c s h m f) a addressed counts)
        (iso_opens c.kinds (known c s h) (addresses_are_sound c s h are).sound (the_note c s h m f) a addressed counts opening)) (room.iso addressed))

  start_room : Roomy c s a []
  start_room = grind arith

  claim_room : (h : History) (m : ℕ) (f : BusFrame) → is_claim f ≡ true → Roomy c s a h → Roomy c s a (frame m f ∷ h)
  claim_room h m f claims room = record {
    fast = λ p kind.
        subst (FoundRoom fast_rules) (sym ((claims_move_traces c s h m f are claims).fast a p (not_claims_pgn c are p kind)))
        (cut_room fast_rules _ (fast_trace (known c s h).claims.holders a p (notes_of c s h)) (room.fast p kind));
    iso = cut;
  }
    where
      cut : (addressed : Bool) → FoundRoom (iso_rules addressed) (iso_trace (known c s (frame m f ∷ h)) addressed a (notes_of c s (frame m f ∷ h)))
      cut false =
          subst (FoundRoom (iso_rules false)) (sym ((claims_move_traces c s h m f are claims).broadcast a))
          (cut_room (iso_rules false) _ (iso_trace (known c s h) false a (notes_of c s h)) (room.iso false))
      cut true =
          subst (FoundRoom (iso_rules true)) (sym ((claims_move_traces c s h m f are claims).addressed a))
          (cut_room (iso_rules true) _ (iso_trace (known c s h) true a (notes_of c s h)) (room.iso true))

  frame_room : (h : History) (m : ℕ) (f : BusFrame) → is_claim f ≡ false → FindsRoom c.kinds a (known c s h).claims (the_note c s h m f) → Roomy c s a h → Roomy c s a (frame m f ∷ h)
  frame_room h m f other finds room = record {
    fast = λ p kind. subst (λ (k : Known). FoundRoom fast_rules (fast_trace k.claims.holders a p (the_note c s h m f ∷ notes_of c s h))) (sym (known_same c s h m f other)) (fast_with h m f finds room p kind);
    iso = λ addressed.
        subst (λ (k : Known). FoundRoom (iso_rules addressed) (iso_trace k addressed a (the_note c s h m f ∷ notes_of c s h))) (sym (known_same c s h m f other)) (iso_with h m f finds room addressed);
  }

  command_room : (h : History) (m source address : ℕ) → Roomy c s a h → Roomy c s a (entry.command m source address ∷ h)
  command_room h m source address room = record {
    fast = λ p kind. subst (FoundRoom fast_rules) (sym ((commands_move_traces c s h m source address).fast a p (not_claims_pgn c are p kind))) (room.fast p kind);
    iso = cut;
  }
    where
      cut : (addressed : Bool) → FoundRoom (iso_rules addressed) (iso_trace (known c s (entry.command m source address ∷ h)) addressed a (notes_of c s (entry.command m source address ∷ h)))
      cut false = subst (FoundRoom (iso_rules false)) (sym ((commands_move_traces c s h m source address).broadcast a)) (room.iso false)
      cut true =
          subst (FoundRoom (iso_rules true)) (sym ((commands_move_traces c s h m source address).addressed a))
          (cut_room (iso_rules true) _ (iso_trace (known c s h) true a (notes_of c s h)) (room.iso true))

  pub roomy : (h : History) → NoneRefused c s h a → Roomy c s a h
  roomy [] rooms = start_room
  roomy (frame m f ∷ h) rooms = by (is_claim f) refl (roomy h rooms.1)
    where
      by : (b : Bool) → is_claim f ≡ b → Roomy c s a h → Roomy c s a (frame m f ∷ h)
      by true e before = claim_room h m f e before
      by false e before = frame_room h m f e rooms.0 before
  roomy (datagram m bytes ∷ h) rooms = let same = roomy h rooms in record { fast = same.fast; iso = same.iso }
  roomy (tick m ∷ h) rooms = let same = roomy h rooms in record { fast = same.fast; iso = same.iso }
  roomy (entry.command m source address ∷ h) rooms = command_room h m source address (roomy h rooms)
