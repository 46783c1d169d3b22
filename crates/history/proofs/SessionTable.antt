-- The rules of the transport protocol in the table are those that the assembler's verdict says.
use Rattle.std.proofs.Common.{◌≡◌, ℕ, Bool, true, false, ◌&&◌, ◌||◌, not, ◌==◌, nat_le, nat_lt, List, [], ◌∷◌, ◌++◌, length, is_some, is_none, refl, ap, ◌∙◌, arith}
use Rattle.std.specs.Prelude.{Option, Some, None}
use Rattle.std.proofs.lemmas.Bool.{and_parts, eqb-true, leb-true, le-ltb, lt-leb, ltb-true, le-leb, ltb-false, false≢true}
use Rattle.report_rules.specs.Rules as rules
use Rattle.gate_events.specs.declared.emit.Report.{Report}
use Rattle.gate_events.specs.declared.emit.Detail.{Detail}
use Rattle.gate_events.specs.declared.emit.Detail.TheVariants as detail
use Rattle.iso_transport.specs.Audience.{key_of}
use Rattle.iso_transport.specs.Connection.{control_at, size_at, packets_at}
use Rattle.iso_transport.specs.IsoRuns.{is_size, IsoPiece, end_of, session_of, is_next, is_repeat, left_of_run}
use Rattle.iso_transport.specs.RunVerdicts.{run_verdict}
use Rattle.history.specs.Emits.{Rule, breaks, broken_of}
use Rattle.history.specs.Traces.{NotedFrame, iso_piece}
use Rattle.history.specs.BusRules.{is_early, is_abort, opens_session, is_wrong_kind, is_wrong_size, is_short_packet, is_packet_out_of_order, is_cut_management, message_rule}
use Rattle.history.specs.RuleLaws.{verdict_breaks, SessionRulesAreVerdicts, EarlyBreaksNotReady}
use Rattle.history.specs.Opens.{open_pgn}

not_so : (b : Bool) → not b ≡ true → b ≡ false
not_so b e = grind arith

module _ (n : NotedFrame) (rest : List Rule) (ready : Bool) (y : IsoPiece) where
  abbrev who : ℕ → Detail
  who pgn = detail.Source n.parts.source pgn

  -- the rows of the table on sessions, and what stands behind them
  abbrev rows : Bool → Option (List IsoPiece) → List Report
  rows addressed q =
      broken_of
      (breaks (opens_session addressed ready y && is_some q) rules.restarted (who (open_pgn q))
      ∷ breaks (opens_session addressed ready y && not y.admitted) rules.slots_full (who (session_of (y ∷ [])).pgn)
      ∷ breaks (is_cut_management y || is_wrong_kind addressed y || is_wrong_size addressed ready y || is_short_packet q y) rules.iso_size (who n.parts.pgn)
      ∷ breaks (is_packet_out_of_order q y) rules.iso_order (who n.parts.pgn)
      ∷ breaks (y.packet && is_none q) rules.iso_orphan (who n.parts.pgn)
      ∷ breaks (addressed && (is_abort y && is_some q)) rules.iso_aborted (who (open_pgn q))
      ∷ rest)

  abbrev Is : Bool → Option (List IsoPiece) → Type 0
  Is addressed q = rows addressed q ≡ verdict_breaks n (run_verdict addressed q y) ++ broken_of rest

  -- ---- a packet

  packet_alone : (addressed : Bool) → y.packet ≡ true → Is addressed None
  packet_alone false ep = rw ep refl
  packet_alone true ep = rw ep refl

  packet_by : (addressed : Bool) (acc : List IsoPiece) (short rep nxt : Bool) → y.packet ≡ true → nat_lt (length y.bytes) (end_of (left_of_run acc)) ≡ short → is_repeat acc y ≡ rep
      → is_next acc y ≡ nxt → Is addressed (Some acc)
  packet_by addressed acc short rep nxt ep es er en = grind arith

  -- ---- a frame of connection management

  cut_short : (addressed : Bool) (q : Option (List IsoPiece)) → y.packet ≡ false → nat_lt (length y.bytes) 8 ≡ true → Is addressed q
  cut_short addressed q ep el = grind (arith, lt-leb, ltb-true)

  module _ (ep : y.packet ≡ false) (el : nat_lt (length y.bytes) 8 ≡ false) (eg : nat_le 8 (length y.bytes) ≡ true) where
    rts_by : (q : Option (List IsoPiece)) (addressed sized ad : Bool) → control_at y.bytes ≡ 16 → is_size (size_at y.bytes) (packets_at y.bytes) ≡ sized → y.admitted ≡ ad
        → (ad ≡ false → q ≡ None) → (addressed && not ready) ≡ false → Is addressed q
    rts_by q addressed sized ad ec es ea room early = grind arith

    bam_by : (q : Option (List IsoPiece)) (addressed sized ad : Bool) → control_at y.bytes ≡ 32 → is_size (size_at y.bytes) (packets_at y.bytes) ≡ sized → y.admitted ≡ ad
        → (ad ≡ false → q ≡ None) → Is addressed q
    bam_by q addressed sized ad ec es ea room = grind arith

    abort_by : (q : Option (List IsoPiece)) (addressed : Bool) → control_at y.bytes ≡ 255 → Is addressed q
    abort_by None false ec = rw (ep, el, eg, ec) refl
    abort_by None true ec = rw (ep, el, eg, ec) refl
    abort_by (Some acc) false ec = rw (ep, el, eg, ec) refl
    abort_by (Some acc) true ec = rw (ep, el, eg, ec) refl

    -- of no other control byte
    nothing_by : (q : Option (List IsoPiece)) (addressed a b : Bool) → (control_at y.bytes == 16) ≡ false → (control_at y.bytes == 32) ≡ false → (control_at y.bytes == 255) ≡ false
        → (control_at y.bytes == 17) ≡ a → (control_at y.bytes == 19) ≡ b → Is addressed q
    nothing_by q addressed a b e16 e32 e255 ea eb = grind arith

    managed : (q : Option (List IsoPiece)) (addressed a b c : Bool) → (control_at y.bytes == 16) ≡ a → (control_at y.bytes == 32) ≡ b → (control_at y.bytes == 255) ≡ c
        → (y.admitted ≡ false → q ≡ None) → is_early addressed ready y ≡ false → Is addressed q
    managed q addressed true b c ea eb ec room early = grind (arith, eqb-true, rts_by)
    managed q addressed false true c ea eb ec room early = grind (arith, bam_by, eqb-true)
    managed q addressed false false true ea eb ec room early = abort_by q addressed (eqb-true (control_at y.bytes) 255 ec)
    managed q addressed false false false ea eb ec room early = nothing_by q addressed (control_at y.bytes == 17) (control_at y.bytes == 19) ea eb ec refl refl

  by_length : (addressed : Bool) (q : Option (List IsoPiece)) (b : Bool) → y.packet ≡ false → nat_lt (length y.bytes) 8 ≡ b → (y.admitted ≡ false → q ≡ None)
      → is_early addressed ready y ≡ false → Is addressed q
  by_length addressed q b ep el room early = grind (arith, cut_short, managed, le-leb, ltb-false)

  pub told_so : (addressed : Bool) (q : Option (List IsoPiece)) (packet : Bool) → y.packet ≡ packet → (y.admitted ≡ false → q ≡ None) → is_early addressed ready y ≡ false → Is addressed q
  told_so addressed q packet ep room early = grind (arith, packet_alone, packet_by, by_length)

  -- ---- an RTS that is too early

  early_so : (addressed : Bool) (q : Option (List IsoPiece)) → is_early addressed ready y ≡ true → rows addressed q ≡ broken_of rest
  early_so addressed q early = grind (arith, false≢true, and_parts, managed, not_so, le-ltb, leb-true, eqb-true)

pub session_rules_are_verdicts : SessionRulesAreVerdicts
session_rules_are_verdicts name n packets message room early =
    let addressed = (key_of n.parts).addressed in
    let behind : Bool → List Rule = λ b. message_rule message ∷ breaks b rules.not_ready (detail.Source n.parts.source n.parts.pgn) ∷ [] in
    told_so n (behind (is_early addressed n.ready (iso_piece n))) n.ready (iso_piece n) addressed packets (iso_piece n).packet refl room early
    ∙ ap (λ (b : Bool). verdict_breaks n (run_verdict addressed packets (iso_piece n)) ++ broken_of (behind b)) early

pub early_breaks_not_ready : EarlyBreaksNotReady
early_breaks_not_ready name n packets message early =
    let addressed = (key_of n.parts).addressed in
    let behind : Bool → List Rule = λ b. message_rule message ∷ breaks b rules.not_ready (detail.Source n.parts.source n.parts.pgn) ∷ [] in
    early_so n (behind (is_early addressed n.ready (iso_piece n))) n.ready (iso_piece n) addressed packets early
    ∙ ap (λ (b : Bool). broken_of (behind b)) early
