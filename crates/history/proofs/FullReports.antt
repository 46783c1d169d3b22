-- Rule 15 is reported exactly where an opener finds no room.
use Rattle.std.proofs.Common.{◌≡◌, ℕ, Bool, true, false, ◌&&◌, ◌||◌, not, ◌==◌, nat_le, nat_lt, List, [], ◌∷◌, length, is_some, refl, sym, ap, ◌∙◌, arith}
use Rattle.std.specs.Prelude.{Option, None, if◌then◌else◌, option_map}
use Rattle.std.specs.List.{list_any}
use Rattle.std.proofs.lemmas.Bool.{and_parts, eqb-true, eq-eqb, ltb-false, le-leb, false≢true}
use Rattle.report_rules.specs.Rules as rules
use Rattle.claim_table.specs.Claims.{is_at, holder_at}
use Rattle.claim_table.specs.declared.answer.Holder.{Holder}
use Rattle.claim_table.specs.Laws.{IsSound}
use Rattle.pgn_profile.specs.declared.kinds.Kind.{Kind}
use Rattle.pgn_profile.specs.declared.kinds.Kind.TheVariants.{Outside}
use Rattle.fast_packet.specs.FastRuns as fast
use Rattle.fast_packet.specs.FastRuns.{FastPiece}
use Rattle.n2k_id.specs.Identifier.{is_own, is_to}
use Rattle.iso_transport.specs.Audience.{key_of}
use Rattle.iso_transport.specs.Connection.{control_at, cm_by, cm_of}
use Rattle.iso_transport.specs.IsoRuns as iso
use Rattle.iso_transport.specs.IsoRuns.{IsoPiece, is_opener}
use Rattle.history.specs.AddressLaws.{IsReceiver}
use Rattle.history.specs.Entries.{History, frame, datagram, tick, command}
use Rattle.history.specs.Settings.{Receiver}
use Rattle.history.specs.Known.{Known, known, held_since}
use Rattle.history.specs.Emits.{Rule, broken_of}
use Rattle.history.specs.Meanings.{Meaning, address_claim, own_source, request, transport, single, passed, if_held, by_kind, meaning_of, is_of_session, is_of_fast_packet}
use Rattle.history.specs.Messages.{Message, done}
use Rattle.history.specs.Opens.{is_fast, notes_of}
use Rattle.history.specs.Traces.{NotedFrame, iso_piece, is_transport, is_bearing, bears_upon}
use Rattle.history.specs.BusRules.{is_early, opens_session, table_of, frame_breaks}
use Rattle.history.specs.FromBus.{meaning_at, frames_before, packets_before, frame_refused}
use Rattle.history.specs.KeyLaws.{the_note, is_meant, concerns}
use Rattle.history.specs.IsolationLaws.{opens_message, NoneRefused}
use Rattle.history.specs.RoomLaws.{says_full, FullIsReported, NoneFull, RefusalsAreReported}
use Rattle.history.proofs.Addresses.{addresses_are_sound}
use Rattle.history.proofs.KeySteps.{eqb-sym}

-- ---- the rows of rule 15

is_full : Rule → Bool
is_full x = (x.report.rule == rules.slots_full) && x.broken

full_rows : (table : List Rule) → says_full (broken_of table) ≡ list_any is_full table
unfolding is_full
full_rows [] = refl
full_rows (x ∷ table) = grind (arith, full_rows table, is_full)

module _ (name : ℕ) (n : NotedFrame) (frames : Option (List FastPiece)) (packets : Option (List IsoPiece)) (message : Option Message) where
  -- whether the opener of a fast packet, or of a session, finds no room
  abbrev finds_none : Meaning → Bool
  finds_none meaning =
      (is_of_fast_packet meaning && (fast.is_opener n.bytes && not n.admitted))
      || (is_of_session meaning && (opens_session (key_of n.parts).addressed n.ready (iso_piece n) && not n.admitted))

  or_none : (b : Bool) → (b || false) ≡ b
  or_none b = grind arith

  full_by : (meaning : Meaning) (what : Option Message) → message ≡ what → list_any is_full (table_of name n frames packets message meaning) ≡ finds_none meaning
  unfolding is_full
  full_by meaning what e = grind (arith, or_none)

  full_breaks : (meaning : Meaning) → says_full (frame_breaks name meaning n frames packets message) ≡ finds_none meaning
  full_breaks meaning = full_rows (table_of name n frames packets message meaning) ∙ full_by meaning message refl

-- ---- what a frame is to the gateway

and_no : (b : Bool) → (b && false) ≡ false
and_no b = grind arith

held_other : (held : Bool) → is_of_fast_packet (if_held held single) ≡ false
held_other held = grind arith

held_transport : (held : Bool) → is_of_fast_packet (if_held held transport) ≡ false
held_transport held = grind arith

fast_of : (claims own asks moves to held : Bool) (kind : Kind) → (claims ≡ true → kind ≡ Outside) → (own ≡ true → held ≡ false) → (asks ≡ true → kind ≡ Outside)
    → (moves ≡ true → kind ≡ Outside)
    → is_of_fast_packet (if claims then address_claim else if own then own_source else if asks then (if to then request else passed) else if moves then (if to then if_held held transport else passed) else by_kind kind held)
    ≡ (held && is_fast kind)
fast_of claims own asks moves to held kind c o a m = grind (arith, held, and_no, held_transport, held_other)

session_of_kind : (kind : Kind) (held : Bool) → is_of_session (by_kind kind held) ≡ false
session_of_kind kind held = grind (arith, held)

session_of : (claims own asks moves to held : Bool) (kind : Kind) → (claims ≡ true → moves ≡ false) → (own ≡ true → held ≡ false) → (asks ≡ true → moves ≡ false)
    → is_of_session (if claims then address_claim else if own then own_source else if asks then (if to then request else passed) else if moves then (if to then if_held held transport else passed) else by_kind kind held)
    ≡ (held && (to && moves))
session_of claims own asks moves to held kind c o a = grind (arith, held, and_no, session_of_kind)

-- ---- an opener of a session, by its control byte

-- an RTS to this node, or a BAM to all
abbrev kind_test : Bool → ℕ → Bool
kind_test true control = control == 16
kind_test false control = control == 32

opens_by : (addressed : Bool) (control : ℕ) (bytes : List ℕ) (a b c d g : Bool) → (control == 16) ≡ a → (control == 17) ≡ b → (control == 19) ≡ c → (control == 32) ≡ d
    → (control == 255) ≡ g → iso.opens addressed (cm_by control bytes) ≡ true → kind_test addressed control ≡ true
opens_by true control bytes true b c d g ea eb ec ed eg e = ea
opens_by true control bytes false true c d g ea eb ec ed eg e = absurd (false≢true (rw (ea, eb) at e))
opens_by true control bytes false false true d g ea eb ec ed eg e = absurd (false≢true (rw (ea, eb, ec) at e))
opens_by true control bytes false false false true g ea eb ec ed eg e = absurd (false≢true (rw (ea, eb, ec, ed) at e))
opens_by true control bytes false false false false true ea eb ec ed eg e = absurd (false≢true (rw (ea, eb, ec, ed, eg) at e))
opens_by true control bytes false false false false false ea eb ec ed eg e = absurd (false≢true (rw (ea, eb, ec, ed, eg) at e))
opens_by false control bytes true b c d g ea eb ec ed eg e = absurd (false≢true (rw ea at e))
opens_by false control bytes false true c d g ea eb ec ed eg e = absurd (false≢true (rw (ea, eb) at e))
opens_by false control bytes false false true d g ea eb ec ed eg e = absurd (false≢true (rw (ea, eb, ec) at e))
opens_by false control bytes false false false true g ea eb ec ed eg e = ed
opens_by false control bytes false false false false true ea eb ec ed eg e = absurd (false≢true (rw (ea, eb, ec, ed, eg) at e))
opens_by false control bytes false false false false false ea eb ec ed eg e = absurd (false≢true (rw (ea, eb, ec, ed, eg) at e))

not_so : (b : Bool) → not b ≡ true → b ≡ false
not_so b e = grind arith

pub record OpenerFacts (addressed : Bool) (y : IsoPiece) : Type 0 where
  pub managed : y.packet ≡ false
  pub enough : nat_le 8 (length y.bytes) ≡ true
  pub kind : kind_test addressed (control_at y.bytes) ≡ true

opener_facts : (addressed : Bool) (y : IsoPiece) → is_opener addressed y ≡ true → OpenerFacts addressed y
opener_facts addressed y e =
    let parts = and_parts (not y.packet) (iso.opens addressed (cm_of y.bytes)) e in
    by (nat_lt (length y.bytes) 8) refl parts.1 (not_so y.packet parts.0)
  where
    by : (b : Bool) → nat_lt (length y.bytes) 8 ≡ b → iso.opens addressed (if b then None else cm_by (control_at y.bytes) y.bytes) ≡ true → y.packet ≡ false → OpenerFacts addressed y
    by b el opens ep = grind (arith, false≢true, le-leb, ltb-false)

-- an opener that isn't too early bears on its session
bears_where : (addressed ready : Bool) (y : IsoPiece) → OpenerFacts addressed y
    → (y.packet || (nat_le 8 (length y.bytes) && bears_upon addressed ready (control_at y.bytes))) ≡ not (is_early addressed ready y)
bears_where addressed ready y f = grind (arith, eqb-true)

-- ---- the same said of a frame

gathered : (a b c d e : Bool) → ((a && (b && c)) && (d && e)) ≡ ((a && (b && (c && d))) && e)
gathered a b c d e = grind arith

spread : (a b c d e : Bool) → (((a && b) && (c && e)) || (d && e)) ≡ (((a && (b && c)) || d) && e)
spread a b c d e = grind arith

module _ (r : Receiver) (are : IsReceiver r) (k : Known) (sound : IsSound k.claims) (n : NotedFrame) where
  since_held : (x : Option Holder) → is_some (option_map (λ (y : Holder). y.since) x) ≡ is_some x
  since_held x = grind arith

  held : Bool
  held = is_some (holder_at k.claims.holders n.parts.source)

  own_nobody : (own : Option ℕ) → k.claims.own ≡ own → is_own own n.parts.source ≡ true → is_some (holder_at k.claims.holders n.parts.source) ≡ false
  own_nobody own e is = grind (arith, false≢true, eqb-true)

  own_turn : (own : Option ℕ) (d : ℕ) → k.claims.own ≡ own → is_at d k.claims.own ≡ is_own own d
  own_turn own d e = grind (arith, eqb-sym)

  meant_by : (b : Bool) → (n.parts.destination == 255) ≡ b → is_meant k.claims.own n (not b) ≡ is_to k.claims.own n.parts.destination
  meant_by b e = grind (arith, own_turn)

  meant : is_meant k.claims.own n (key_of n.parts).addressed ≡ is_to k.claims.own n.parts.destination
  meant = meant_by (n.parts.destination == 255) refl

  outside_of : (q : ℕ) → r.kinds q ≡ Outside → (n.parts.pgn == q) ≡ true → r.kinds n.parts.pgn ≡ Outside
  outside_of q outside e = ap r.kinds (eqb-true n.parts.pgn q e) ∙ outside

  moved : is_transport n.parts ≡ true → r.kinds n.parts.pgn ≡ Outside
  moved e = grind (arith, outside_of)

  still : (q : ℕ) → (q == 60416) ≡ false → (q == 60160) ≡ false → (n.parts.pgn == q) ≡ true → is_transport n.parts ≡ false
  still q a b e = ap (λ (x : ℕ). (x == 60416) || (x == 60160)) (eqb-true n.parts.pgn q e) ∙ rw (a, b) refl

  fast_is : is_of_fast_packet (meaning_of r.kinds k.claims.own k.claims.holders n.parts) ≡ (is_some (held_since k.claims.holders n.parts.source) && is_fast (r.kinds n.parts.pgn))
  fast_is = grind (arith, fast_of, outside_of, own_nobody, moved, since_held)

  session_is : is_of_session (meaning_of r.kinds k.claims.own k.claims.holders n.parts) ≡ (is_some (held_since k.claims.holders n.parts.source) && (is_meant k.claims.own n (key_of n.parts).addressed && is_transport n.parts))
  session_is = grind (arith, session_of, still, own_nobody, since_held, meant)

  -- what opens a session concerns the.claims gateway
  opens_is : (o : Bool) → is_opener (key_of n.parts).addressed (iso_piece n) ≡ o
      → ((is_some (held_since k.claims.holders n.parts.source) && (is_meant k.claims.own n (key_of n.parts).addressed && is_transport n.parts))
      && ((o && not (is_early (key_of n.parts).addressed n.ready (iso_piece n))) && not n.admitted))
      ≡ ((concerns k.claims n (key_of n.parts) && o) && not n.admitted)
  opens_is false e = rw (and_no (is_some (held_since k.claims.holders n.parts.source) && (is_meant k.claims.own n (key_of n.parts).addressed && is_transport n.parts)), and_no (concerns k.claims n (key_of n.parts))) refl
  opens_is true e =
      let facts = opener_facts (key_of n.parts).addressed (iso_piece n) e in
      gathered (is_some (held_since k.claims.holders n.parts.source)) (is_meant k.claims.own n (key_of n.parts).addressed) (is_transport n.parts) (not (is_early (key_of n.parts).addressed n.ready (iso_piece n))) (not n.admitted)
      ∙ ap (λ (b : Bool). (is_some (held_since k.claims.holders n.parts.source) && (is_meant k.claims.own n (key_of n.parts).addressed && (is_transport n.parts && b))) && not n.admitted)
      (sym (bears_where (key_of n.parts).addressed n.ready (iso_piece n) facts))
      ∙ ap (λ (b : Bool). (is_some (held_since k.claims.holders n.parts.source) && (b && (is_meant k.claims.own n (key_of n.parts).addressed && is_bearing (key_of n.parts).addressed n))) && not n.admitted)
      (sym (eq-eqb n.parts.source n.parts.source refl))
      ∙ ap (λ (b : Bool). b && not n.admitted) (sym (and_yes (concerns k.claims n (key_of n.parts))))
    where
      and_yes : (b : Bool) → (b && true) ≡ b
      and_yes b = grind arith

pub full_is_reported : FullIsReported
full_is_reported r s h m f are =
    let k = known r s h in
    let n = the_note r s h m f in
    let sound = (addresses_are_sound r s h are).sound in
    full_breaks r.name n (frames_before (meaning_at r s h m f) k.claims.holders (notes_of r s h) m n.parts)
    (packets_before (meaning_at r s h m f) k (notes_of r s h) m n.parts) (done r s h (frame m f)) (meaning_at r s h m f)
    ∙ ap (λ (b : Bool). (b && (fast.is_opener n.bytes && not n.admitted))
    || (is_of_session (meaning_at r s h m f) && (opens_session (key_of n.parts).addressed n.ready (iso_piece n) && not n.admitted))) (fast_is r are k sound n)
    ∙ ap (λ (b : Bool). ((is_some (held_since k.claims.holders n.parts.source) && is_fast (r.kinds n.parts.pgn)) && (fast.is_opener n.bytes && not n.admitted))
    || (b && (opens_session (key_of n.parts).addressed n.ready (iso_piece n) && not n.admitted))) (session_is r are k sound n)
    ∙ ap (λ (b : Bool). ((is_some (held_since k.claims.holders n.parts.source) && is_fast (r.kinds n.parts.pgn)) && (fast.is_opener n.bytes && not n.admitted)) || b)
    (opens_is r are k sound n (is_opener (key_of n.parts).addressed (iso_piece n)) refl)
    ∙ spread (is_some (held_since k.claims.holders n.parts.source)) (is_fast (r.kinds n.parts.pgn)) (fast.is_opener n.bytes) (concerns k.claims n (key_of n.parts) && is_opener (key_of n.parts).addressed (iso_piece n)) (not n.admitted)

-- ---- of a whole history

there_is_room : (full opens admitted : Bool) → full ≡ (opens && not admitted) → full ≡ false → opens ≡ true → admitted ≡ true
there_is_room full opens admitted e none o = grind (arith, false≢true)

none_is_full : (full opens admitted : Bool) → full ≡ (opens && not admitted) → (opens ≡ true → admitted ≡ true) → full ≡ false
none_is_full full opens admitted e room = grind arith

pub refusals_are_reported : RefusalsAreReported
refusals_are_reported r s h a are = (to h, from h)
  where
    to : (h : History) → NoneRefused r s h a → NoneFull r s h a
    to [] rooms = tt
    to (frame m f ∷ h) rooms = (
      (λ own. none_is_full (says_full (frame_refused r s h m f)) (opens_message r.kinds (known r s h).claims (the_note r s h m f)) (the_note r s h m f).admitted
          (full_is_reported r s h m f are) (rooms.0 own)),
      to h rooms.1,
    )
    to (datagram m bytes ∷ h) rooms = to h rooms
    to (tick m ∷ h) rooms = to h rooms
    to (command m source address ∷ h) rooms = to h rooms

    from : (h : History) → NoneFull r s h a → NoneRefused r s h a
    from [] none = tt
    from (frame m f ∷ h) none = (
      (λ own opening. there_is_room (says_full (frame_refused r s h m f)) (opens_message r.kinds (known r s h).claims (the_note r s h m f)) (the_note r s h m f).admitted
          (full_is_reported r s h m f are) (none.0 own) opening),
      from h none.1,
    )
    from (datagram m bytes ∷ h) none = from h none
    from (tick m ∷ h) none = from h none
    from (command m source address ∷ h) none = from h none
