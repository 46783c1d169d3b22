-- Which frames bear on a session: those of the transport protocol to all or to the gateway, from a source that holds its address, unless they
-- come too early.
use Rattle.std.proofs.Common.{◌≡◌, ◌≢◌, ℕ, Bool, true, false, ◌&&◌, ◌||◌, not, List, length, refl, sym, ap, ◌∙◌, ◌==◌, nat_le, is_some, arith}
use Rattle.std.specs.Prelude.{Option, Some, None, option_map, if◌then◌else◌}
use Rattle.std.proofs.lemmas.Bool.{and_parts, false≢true, eqb-true, ne_eqb, eq-eqb}
use Rattle.n2k_id.specs.declared.identifier_parts.Parts.{Parts}
use Rattle.claim_table.specs.declared.answer.Holder.{Holder}
use Rattle.claim_table.specs.Claims.{holder_at, is_at}
use Rattle.claim_table.specs.Laws.{IsSound}
use Rattle.pgn_profile.specs.declared.kinds.Kind.{Kind}
use Rattle.pgn_profile.specs.declared.kinds.Kind.TheVariants.{Single, Fast, Outside}
use Rattle.iso_transport.specs.declared.key.IsoKey.{IsoKey}
use Rattle.iso_transport.specs.Connection.{control_at}
use Rattle.n2k_id.specs.Identifier.{is_to, is_own}
use Rattle.iso_transport.specs.Audience.{is_data, is_management, key_of}
use Rattle.iso_transport.specs.Verdicts.{bears}
use Rattle.history.specs.Known.{Known, held_since}
use Rattle.history.specs.Traces.{NotedFrame, iso_piece, is_transport, is_bearing, bears_upon}
use Rattle.history.specs.Meanings.{Meaning, address_claim, own_source, request, transport, passed, if_held, by_kind, meaning_of, is_of_session}
use Rattle.history.specs.BusRules.{is_early}
use Rattle.history.specs.KeyLaws.{is_meant, concerns}
use Rattle.history.proofs.KeySteps.{eqb-sym}
use Rattle.history.proofs.Roomy.{key_is}
use Rattle.gate_model.proofs.SessionTraces.{and_no}

no_session : (kind : Kind) (held : Bool) → is_of_session (by_kind kind held) ≡ false
no_session Single true = refl
no_session Single false = refl
no_session Fast true = refl
no_session Fast false = refl
no_session Outside held = refl

-- what a frame of a session is
pub record SessionFacts (own : Option ℕ) (holders : List (Option Holder)) (p : Parts) : Type 0 where
  pub no_claim : (p.pgn == 60928) ≡ false
  pub transports : is_transport p ≡ true
  pub ours : is_to own p.destination ≡ true
  pub held : is_some (holder_at holders p.source) ≡ true

-- the tests of a meaning, in their order
abbrev tested : Bool → Bool → Bool → Bool → Bool → Bool → Kind → Meaning
tested claims owned requests transports ours held kind =
    if claims then address_claim
    else if owned then own_source
    else if requests then (if ours then request else passed)
    else if transports then (if ours then if_held held transport else passed)
    else by_kind kind held

tested_so : (claims owned requests transports ours held : Bool) (kind : Kind) → is_of_session (tested claims owned requests transports ours held kind) ≡ true
    → (claims ≡ false) × (transports ≡ true) × (ours ≡ true) × (held ≡ true)
tested_so true owned requests transports ours held kind e = cc
tested_so false true requests transports ours held kind e = cc
tested_so false false true transports true held kind e = cc
tested_so false false true transports false held kind e = cc
tested_so false false false true true true kind e = (refl, refl, refl, refl)
tested_so false false false true true false kind e = cc
tested_so false false false true false held kind e = cc
tested_so false false false false ours held kind e = absurd (false≢true (sym (no_session kind held) ∙ e))

pub session_facts : (kinds : ℕ → Kind) (own : Option ℕ) (holders : List (Option Holder)) (p : Parts) → meaning_of kinds own holders p ≡ transport → SessionFacts own holders p
session_facts kinds own holders p e =
    let facts = tested_so (p.pgn == 60928) (is_own own p.source) (p.pgn == 59904) (is_transport p) (is_to own p.destination) (is_some (holder_at holders p.source)) (kinds p.pgn) (ap is_of_session e) in
    record { no_claim = facts.0; transports = facts.1; ours = facts.2; held = facts.3 }

-- ---- a frame that bears on a session is one of these

-- whose address it is, said twice
own_turned : (own : Option ℕ) (a : ℕ) → is_own own a ≡ is_at a own
own_turned None a = refl
own_turned (Some b) a = eqb-sym a b

since_held : (o : Option Holder) → is_some (option_map (λ (x : Holder). x.since) o) ≡ is_some o
since_held None = refl
since_held (Some x) = refl

-- it is to all or to the gateway
pub meant_ours : (k : Known) (n : NotedFrame) (addressed : Bool) → is_meant k.claims.own n addressed ≡ true → is_to k.claims.own n.parts.destination ≡ true
meant_ours k n true e = by (n.parts.destination == 255)
  where
    by : (b : Bool) → (b || is_own k.claims.own n.parts.destination) ≡ true
    by true = refl
    by false = own_turned k.claims.own n.parts.destination ∙ e
meant_ours k n false e = rw e refl

-- and so it is meant, by its own key
pub ours_meant : (k : Known) (n : NotedFrame) → is_to k.claims.own n.parts.destination ≡ true → is_meant k.claims.own n (key_of n.parts).addressed ≡ true
ours_meant k n e = by (n.parts.destination == 255) refl e
  where
    by : (b : Bool) → (n.parts.destination == 255) ≡ b → (b || is_own k.claims.own n.parts.destination) ≡ true → (if not b then is_at n.parts.destination k.claims.own else (n.parts.destination == 255)) ≡ true
    by true eb ours = eb
    by false eb ours = sym (own_turned k.claims.own n.parts.destination) ∙ ours

-- a holder isn't the gateway
not_own : (own : Option ℕ) (holders : List (Option Holder)) (a : ℕ) → ((b : ℕ) → own ≡ Some b → holder_at holders b ≡ None) → is_some (holder_at holders a) ≡ true → is_own own a ≡ false
not_own None holders a free held = refl
not_own (Some b) holders a free held = by (a == b) refl
  where
    by : (c : Bool) → (a == b) ≡ c → (a == b) ≡ false
    by false ec = ec
    by true ec =
        let none : is_some (holder_at holders a) ≡ false = ap (λ (x : ℕ). is_some (holder_at holders x)) (eqb-true a b ec) ∙ ap is_some (free b refl) in
        absurd (false≢true (sym none ∙ held))

-- a frame of the transport protocol is no claim and no request
apart : (p : Parts) (n : ℕ) → n ≢ 60416 → n ≢ 60160 → is_transport p ≡ true → (p.pgn == n) ≡ false
apart p n a b e = by (p.pgn == n) refl
  where
    by : (c : Bool) → (p.pgn == n) ≡ c → c ≡ false
    by false ec = refl
    by true ec =
        let is : p.pgn ≡ n = eqb-true p.pgn n ec in
        let one : (p.pgn == 60416) ≡ false = ne_eqb p.pgn 60416 (λ x. a (sym is ∙ x)) in
        let two : (p.pgn == 60160) ≡ false = ne_eqb p.pgn 60160 (λ x. b (sym is ∙ x)) in
        let none : is_transport p ≡ false = rw (one, two) refl in
        absurd (false≢true (sym none ∙ e))

tested_is : (claims owned requests transports ours held : Bool) (kind : Kind) → claims ≡ false → owned ≡ false → requests ≡ false → transports ≡ true → ours ≡ true → held ≡ true
    → is_of_session (tested claims owned requests transports ours held kind) ≡ true
tested_is claims owned requests transports ours held kind a b c d e f = rw (a, b, c, d, e, f) refl

pub bearing_meant : (kinds : ℕ → Kind) (k : Known) → IsSound k.claims → (n : NotedFrame) (key : IsoKey) → concerns k.claims n key ≡ true
    → is_of_session (meaning_of kinds k.claims.own k.claims.holders n.parts) ≡ true
bearing_meant kinds k sound n key e =
    let first = and_parts (is_some (held_since k.claims.holders key.source)) ((n.parts.source == key.source) && (is_meant k.claims.own n key.addressed && is_bearing key.addressed n)) e in
    let second = and_parts (n.parts.source == key.source) (is_meant k.claims.own n key.addressed && is_bearing key.addressed n) first.1 in
    let third = and_parts (is_meant k.claims.own n key.addressed) (is_bearing key.addressed n) second.1 in
    let transports = (and_parts (is_transport n.parts) _ third.1).0 in
    let held : is_some (holder_at k.claims.holders n.parts.source) ≡ true =
    ap (λ (a : ℕ). is_some (holder_at k.claims.holders a)) (eqb-true n.parts.source key.source second.0) ∙ (sym (since_held (holder_at k.claims.holders key.source)) ∙ first.0) in
    tested_is (n.parts.pgn == 60928) (is_own k.claims.own n.parts.source) (n.parts.pgn == 59904) (is_transport n.parts) (is_to k.claims.own n.parts.destination)
    (is_some (holder_at k.claims.holders n.parts.source)) (kinds n.parts.pgn)
    (apart n.parts 60928 (λ x. omega arith) (λ x. omega arith) transports) (not_own k.claims.own k.claims.holders n.parts.source sound.own_free held)
    (apart n.parts 59904 (λ x. omega arith) (λ x. omega arith) transports) transports (meant_ours k n key.addressed third.0) held

-- ---- which of them bear on their session

-- one that comes too early is a request to send, and bears on none
early_by : (a packet large asks ready : Bool) → (a && ((not packet && (large && asks)) && not ready)) ≡ true → (packet ≡ false) × (asks ≡ true) × (ready ≡ false)
early_by true false true true false e = (refl, refl, refl)
early_by true false true true true e = cc
early_by true false true false ready e = cc
early_by true false false asks ready e = cc
early_by true true large asks ready e = cc
early_by false packet large asks ready e = cc

pub early_idle : (n : NotedFrame) (a addressed : Bool) → is_early a n.ready (iso_piece n) ≡ true → is_bearing addressed n ≡ false
early_idle n a addressed e =
    let asks = early_by a (is_data n.parts) (nat_le 8 (length n.bytes)) (control_at n.bytes == 16) n.ready e in
    rw (asks.0, eqb-true (control_at n.bytes) 16 asks.1, asks.2) (upon (is_management n.parts || false) (nat_le 8 (length n.bytes)) addressed)
  where
    upon : (moves large b : Bool) → (moves && (large && bears_upon b false 16)) ≡ false
    upon moves large true = rw (and_no large, and_no moves) refl
    upon moves large false = rw (and_no large, and_no moves) refl

-- any other that can open, extend or end a session does
timely_to_all : (packet large bam : Bool) → (packet || (large && (bam || false))) ≡ true → (packet || (large && bam)) ≡ true
timely_to_all true large bam bearing = refl
timely_to_all false false bam bearing = bearing
timely_to_all false true true bearing = refl
timely_to_all false true false bearing = bearing

timely_to_one : (packet large rts ends ready : Bool) → ((not packet && (large && rts)) && not ready) ≡ false → (packet || (large && (rts || ends))) ≡ true
    → (packet || (large && (ends || (rts && ready)))) ≡ true
timely_to_one true large rts ends ready early bearing = refl
timely_to_one false false rts ends ready early bearing = bearing
timely_to_one false true rts true ready early bearing = refl
timely_to_one false true true false true early bearing = refl
timely_to_one false true true false false early bearing = cc
timely_to_one false true false false ready early bearing = bearing

pub timely_bearing : (n : NotedFrame) (a : Bool) → is_transport n.parts ≡ true → is_early a n.ready (iso_piece n) ≡ false → bears a (is_data n.parts) n.bytes ≡ true → is_bearing a n ≡ true
timely_bearing n true transports early bearing =
    rw (transports, timely_to_one (is_data n.parts) (nat_le 8 (length n.bytes)) (control_at n.bytes == 16) (control_at n.bytes == 255) n.ready early bearing) refl
timely_bearing n false transports early bearing =
    rw (transports, timely_to_all (is_data n.parts) (nat_le 8 (length n.bytes)) (control_at n.bytes == 32) bearing) refl

-- so it is with the session of its key alone
module _ (k : Known) (sound : IsSound k.claims) (n : NotedFrame) where
  pub concerns_its : (a : Bool) → (key_of n.parts).addressed ≡ a → is_some (holder_at k.claims.holders n.parts.source) ≡ true → is_to k.claims.own n.parts.destination ≡ true
      → is_bearing (key_of n.parts).addressed n ≡ true → concerns k.claims n (key_of n.parts) ≡ true
  concerns_its a is held ours bearing =
      let since : is_some (held_since k.claims.holders n.parts.source) ≡ true = since_held (holder_at k.claims.holders n.parts.source) ∙ held in
      all (is_some (held_since k.claims.holders n.parts.source)) (n.parts.source == n.parts.source) (is_meant k.claims.own n (key_of n.parts).addressed) (is_bearing (key_of n.parts).addressed n)
      since (eq-eqb n.parts.source n.parts.source refl) (ours_meant k n ours) bearing
    where
      all : (w x y z : Bool) → w ≡ true → x ≡ true → y ≡ true → z ≡ true → (w && (x && (y && z))) ≡ true
      all w x y z ew ex ey ez = rw (ew, ex, ey, ez) refl

  pub bearing_of : (key : IsoKey) → concerns k.claims n key ≡ true → is_bearing key.addressed n ≡ true
  bearing_of key e =
      (and_parts (is_meant k.claims.own n key.addressed) (is_bearing key.addressed n)
      (and_parts (n.parts.source == key.source) (is_meant k.claims.own n key.addressed && is_bearing key.addressed n)
      (and_parts (is_some (held_since k.claims.holders key.source)) ((n.parts.source == key.source) && (is_meant k.claims.own n key.addressed && is_bearing key.addressed n)) e).1).1).1

  -- a frame that bears on no session of its own key bears on none
  pub concerns_none : is_bearing (key_of n.parts).addressed n ≡ false → (key : IsoKey) → concerns k.claims n key ≡ false
  concerns_none idle key = by (concerns k.claims n key) refl
    where
      by : (b : Bool) → concerns k.claims n key ≡ b → b ≡ false
      by false e = refl
      by true e =
          let same : is_bearing (key_of n.parts).addressed n ≡ is_bearing key.addressed n = ap (λ (x : IsoKey). is_bearing x.addressed n) (key_is k sound n key.source key.addressed e) in
          absurd (false≢true (sym idle ∙ (same ∙ bearing_of key e)))
