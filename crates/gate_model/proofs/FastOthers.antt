-- Which frames are of a fast packet; and entries that are none leave what is kept of the fast packets.
use Rattle.std.proofs.Common.{◌≡◌, ℕ, Bool, true, false, List, [], ◌∷◌, refl, sym, ap, ◌∙◌, ◌==◌, is_some}
use Rattle.std.specs.Prelude.{Option, Some, None, option_map, if◌then◌else◌}
use Rattle.std.specs.declared.cmp.Ordering.{Ordering}
use Rattle.std.proofs.lemmas.Bool.{false≢true, eqb-true}
use Rattle.n2k_id.specs.Frame.{BusFrame}
use Rattle.n2k_id.specs.Identifier.{parts_of, is_own, is_to}
use Rattle.n2k_id.specs.declared.identifier_parts.Parts.{Parts}
use Rattle.claim_table.specs.declared.answer.Holder.{Holder}
use Rattle.claim_table.specs.Claims.{holder_at}
use Rattle.claim_table.specs.Laws.{IsSound}
use Rattle.pgn_profile.specs.declared.kinds.Kind.{Kind}
use Rattle.pgn_profile.specs.declared.kinds.Kind.TheVariants.{Single, Fast, Outside}
use Rattle.slot_views.specs.Runs.{open_at}
use Rattle.slot_views.specs.Slots.{SlotMap}
use Rattle.fast_packet.specs.declared.key.FastKey.{FastKey}
use Rattle.fast_packet.specs.FastRuns.{FastPiece, fast_rules}
use Rattle.fast_packet.specs.RunAssemblies.{assembly_at}
use Rattle.history.specs.Entries.{History, frame}
use Rattle.history.specs.Settings.{Receiver}
use Rattle.history.specs.Known.{Known, known, is_claim}
use Rattle.history.specs.Traces.{NotedFrame, fast_trace, fast_trace_since, is_transport}
use Rattle.history.specs.Opens.{is_fast, same_fast, fast_open, notes_of}
use Rattle.history.specs.Meanings.{Meaning, address_claim, own_source, request, transport, fast_packet, passed, if_held, by_kind, meaning_of, is_of_fast_packet}
use Rattle.history.specs.FromBus.{meaning_at}
use Rattle.history.specs.AddressLaws.{IsReceiver}
use Rattle.history.specs.KeyLaws.{fast_key, the_note}
use Rattle.history.proofs.Addresses.{addresses_are_sound}
use Rattle.history.proofs.FastCounts.{same_is}
use Rattle.history.proofs.KeySteps.{no_transport, known_same, fast_keeps}
use Rattle.gate_model.specs.FastLaws.{StandsFastFor, OthersLeaveFast, DatagramsLeaveFast, TicksLeaveFast}

-- ---- what a frame of a fast packet is

pub record FastFacts (kinds : ℕ → Kind) (holders : List (Option Holder)) (p : Parts) : Type 0 where
  pub fast : kinds p.pgn ≡ Fast
  pub held : is_some (holder_at holders p.source) ≡ true

-- the tests of a meaning, in their order
abbrev pub tested : Bool → Bool → Bool → Bool → Bool → Bool → Kind → Meaning
tested claims owned requests transports ours held kind =
    if claims then address_claim
    else if owned then own_source
    else if requests then (if ours then request else passed)
    else if transports then (if ours then if_held held transport else passed)
    else by_kind kind held

kind_so : (held : Bool) (kind : Kind) → is_of_fast_packet (by_kind kind held) ≡ true → (kind ≡ Fast) × (held ≡ true)
kind_so true Single e = cc
kind_so false Single e = cc
kind_so true Fast e = (refl, refl)
kind_so false Fast e = cc
kind_so held Outside e = cc

tested_so : (claims owned requests transports ours held : Bool) (kind : Kind)
    → is_of_fast_packet (tested claims owned requests transports ours held kind) ≡ true → (kind ≡ Fast) × (held ≡ true)
tested_so true owned requests transports ours held kind e = cc
tested_so false true requests transports ours held kind e = cc
tested_so false false true transports true held kind e = cc
tested_so false false true transports false held kind e = cc
tested_so false false false true true true kind e = cc
tested_so false false false true true false kind e = cc
tested_so false false false true false held kind e = cc
tested_so false false false false ours held kind e = kind_so held kind e

pub fast_facts : (kinds : ℕ → Kind) (own : Option ℕ) (holders : List (Option Holder)) (p : Parts) → meaning_of kinds own holders p ≡ fast_packet
    → FastFacts kinds holders p
fast_facts kinds own holders p e =
    let facts = tested_so (p.pgn == 60928) (is_own own p.source) (p.pgn == 59904) (is_transport p) (is_to own p.destination) (is_some (holder_at holders p.source)) (kinds p.pgn) (ap is_of_fast_packet e) in
    record { fast = facts.0; held = facts.1 }

-- ---- a frame of such a PGN from a source that holds its address is one

-- a holder isn't the gateway
not_own : (own : Option ℕ) (holders : List (Option Holder)) (a : ℕ) → ((b : ℕ) → own ≡ Some b → holder_at holders b ≡ None)
    → is_some (holder_at holders a) ≡ true → is_own own a ≡ false
not_own None holders a free held = refl
not_own (Some b) holders a free held = by (a == b) refl
  where
    by : (c : Bool) → (a == b) ≡ c → (a == b) ≡ false
    by false ec = ec
    by true ec =
        let none : is_some (holder_at holders a) ≡ false = ap (λ (x : ℕ). is_some (holder_at holders x)) (eqb-true a b ec) ∙ ap is_some (free b refl) in
        absurd (false≢true (sym none ∙ held))

is_kind : (kind : Kind) → is_fast kind ≡ true → kind ≡ Fast
is_kind Single e = cc
is_kind Fast e = refl
is_kind Outside e = cc

-- it is of no PGN that has no messages
pub apart : (r : Receiver) (p q : ℕ) → r.kinds q ≡ Outside → r.kinds p ≡ Fast → (p == q) ≡ false
apart r p q outside fast = by (p == q) refl
  where
    by : (c : Bool) → (p == q) ≡ c → c ≡ false
    by false ec = refl
    by true ec = let none : r.kinds p ≡ Outside = rw (eqb-true p q ec) outside in cc

tested_is : (claims owned requests transports ours held : Bool) (kind : Kind) → claims ≡ false → owned ≡ false → requests ≡ false → transports ≡ false
    → kind ≡ Fast → held ≡ true
    → is_of_fast_packet (tested claims owned requests transports ours held kind) ≡ true
tested_is claims owned requests transports ours held kind a b c d e f = rw (a, b, c, d, e, f) refl

held_fast : (r : Receiver) → IsReceiver r → (k : Known) → IsSound k.claims → (p : Parts) → r.kinds p.pgn ≡ Fast
    → is_some (holder_at k.claims.holders p.source) ≡ true
    → is_of_fast_packet (meaning_of r.kinds k.claims.own k.claims.holders p) ≡ true
held_fast r are k sound p fast held =
    tested_is (p.pgn == 60928) (is_own k.claims.own p.source) (p.pgn == 59904) (is_transport p) (is_to k.claims.own p.destination) (is_some (holder_at k.claims.holders p.source)) (r.kinds p.pgn)
    (apart r p.pgn 60928 are.claims fast) (not_own k.claims.own k.claims.holders p.source sound.own_free held) (apart r p.pgn 59904 are.requests fast) (no_transport r are p fast) fast held

-- ---- any other frame that is no claim leaves what is kept

module _ (cmp : FastKey → FastKey → Ordering) (r : Receiver) (s : ℕ) (h : History) (m moment : ℕ) (f : BusFrame) (slots : SlotMap FastKey) (are : IsReceiver r)
    (other : is_claim f ≡ false)
    (passes : is_of_fast_packet (meaning_at r s h moment f) ≡ false) (stands : StandsFastFor cmp r s h m slots) where
  abbrev holders : List (Option Holder)
  holders = (known r s h).claims.holders

  abbrev open_then : FastKey → Option (List FastPiece)
  open_then key = fast_open (known r s (frame moment f ∷ h)).claims.holders (notes_of r s (frame moment f ∷ h)) key m

  -- of a source that holds no address nothing is open
  none_held : (a p : ℕ) (notes : List NotedFrame) (o : Option Holder) → holder_at holders a ≡ o → is_some o ≡ false → fast_trace holders a p notes ≡ []
  none_held a p notes None e none = ap (λ (x : Option Holder). fast_trace_since (option_map (λ (y : Holder). y.since) x) a p notes) e
  none_held a p notes (Some x) e none = cc

  own_key : is_fast (r.kinds (parts_of f.id).pgn) ≡ true → open_then (fast_key r s h moment f) ≡ fast_open holders (notes_of r s h) (fast_key r s h moment f) m
  own_key fast = by (is_some (holder_at holders (parts_of f.id).source)) refl
    where
      by : (b : Bool) → is_some (holder_at holders (parts_of f.id).source) ≡ b
          → open_then (fast_key r s h moment f) ≡ fast_open holders (notes_of r s h) (fast_key r s h moment f) m
      by true held =
          absurd (false≢true (sym passes ∙ held_fast r are (known r s h) (addresses_are_sound r s h are).sound (parts_of f.id) (is_kind (r.kinds (parts_of f.id).pgn) fast) held))
      by false none =
          rw (known_same r s h moment f other)
          (ap (λ (t : List FastPiece). open_at fast_rules t m)
          (none_held (parts_of f.id).source (parts_of f.id).pgn (the_note r s h moment f ∷ notes_of r s h) (holder_at holders (parts_of f.id).source) refl none
          ∙ sym (none_held (parts_of f.id).source (parts_of f.id).pgn (notes_of r s h) (holder_at holders (parts_of f.id).source) refl none)))

  same_open : (key : FastKey) → is_fast (r.kinds key.pgn) ≡ true → open_then key ≡ fast_open holders (notes_of r s h) key m
  same_open key fast = by (same_fast key (fast_key r s h moment f)) refl
    where
      by : (b : Bool) → same_fast key (fast_key r s h moment f) ≡ b → open_then key ≡ fast_open holders (notes_of r s h) key m
      by false e = (fast_keeps r s h moment f other).others key m e
      by true e =
          let is : key ≡ fast_key r s h moment f = same_is key (fast_key r s h moment f) e in
          rw is (own_key (ap (λ (k : FastKey). is_fast (r.kinds k.pgn)) (sym is) ∙ fast))

  pub others : StandsFastFor cmp r s (frame moment f ∷ h) m slots
  others = record {
    limited = stands.limited;
    map = stands.map;
    entries = λ key. stands.entries key ∙ by key (is_fast (r.kinds key.pgn)) refl;
  }
    where
      by : (key : FastKey) (b : Bool) → is_fast (r.kinds key.pgn) ≡ b
          → (if b then assembly_at (fast_open holders (notes_of r s h) key m) else None) ≡ (if b then assembly_at (open_then key) else None)
      by key true fast = ap assembly_at (sym (same_open key fast))
      by key false fast = refl

pub others_leave_fast : OthersLeaveFast
others_leave_fast cmp r s h m moment f slots are other passes stands = others cmp r s h m moment f slots are other passes stands

pub datagrams_leave_fast : DatagramsLeaveFast
datagrams_leave_fast cmp r s h m moment bytes slots stands = record { limited = stands.limited; map = stands.map; entries = stands.entries }

pub ticks_leave_fast : TicksLeaveFast
ticks_leave_fast cmp r s h m moment slots stands = record { limited = stands.limited; map = stands.map; entries = stands.entries }
