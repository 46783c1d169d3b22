-- A frame breaks what is open of its key exactly where it leaves nothing open and completes nothing.
use Rattle.std.proofs.Common.{◌≡◌, ℕ, Bool, true, false, ◌&&◌, ◌||◌, not, ◌==◌, nat_lt, List, [], ◌∷◌, length, is_some, is_none, refl, sym, ap, ◌∙◌, arith}
use Rattle.std.proofs.Math.Bool.{and-false}
use Rattle.std.specs.Prelude.{Option, Some, None, if◌then◌else◌, slice_index}
use Rattle.std.proofs.lemmas.Bool.{eqb-true, ne_eqb, leb-true, ltb-true, le-ltb, lt-leb, and_parts, false≢true}
use Rattle.slot_views.specs.Runs.{Rules, is_admitted, is_whole, if_open, if_whole, open_at}
use Rattle.slot_views.specs.RunLaws.{IsLawful}
use Rattle.slot_views.proofs.RunSuffixes.{one_suffix_of}
use Rattle.fast_packet.specs.declared.answers.FastRefusal.{FastRefusal}
use Rattle.fast_packet.specs.declared.answers.FastRefusal.TheVariants.{Order, Length}
use Rattle.fast_packet.specs.FastRuns.{counter_of, is_opener, is_no_later, FastPiece, fast_rules, is_next, is_repeat}
use Rattle.fast_packet.specs.Keys.{refused}
use Rattle.fast_packet.proofs.Lawful.{lawful, no_next, no_repeat}
use Rattle.fast_packet.proofs.Assemblies.{counter_zero}
use Rattle.iso_transport.specs.declared.connection.Cm.TheVariants.{Rts, Bam, Abort}
use Rattle.iso_transport.specs.declared.session.Session.{Session}
use Rattle.iso_transport.specs.Connection.{control_at, size_at, packets_at, limit_at, pgn_at, cm_of}
use Rattle.iso_transport.specs.IsoRuns.{is_size, opens, IsoPiece, iso_rules, end_of, pgn_of, left_of_run}
use Rattle.iso_transport.specs.IsoRuns as iso
use Rattle.iso_transport.specs.Verdicts.{bears, sized_verdict, kind_verdict, management_verdict}
use Rattle.iso_transport.specs.RunVerdicts.{run_verdict, packet_run_verdict}
use Rattle.iso_transport.proofs.Lawful as iso_lawful
use Rattle.history.specs.Traces.{fast_trace, iso_trace}
use Rattle.history.specs.RefusalLaws.{goes_on, FastRefusalsBreak, ends, TransportRefusalsBreak}

module _ {X : Type 0} (r : Rules X) where
  -- what is open was admitted when it opened
  admitted_of : IsLawful r → (h acc : List X) (m : ℕ) → open_at r h m ≡ Some acc → is_admitted r acc ≡ true
  admitted_of law h acc m e = ((one_suffix_of r law).is_open h acc m e).admitted

  -- what was admitted is open or whole
  either_by : (acc : List X) (a w : Bool) → is_admitted r acc ≡ a → is_whole r acc ≡ w → (is_some (if_open r (Some acc)) || is_some (if_whole r (Some acc))) ≡ a
  either_by acc a w ea ew = grind arith

  either : (acc : List X) → (is_some (if_open r (Some acc)) || is_some (if_whole r (Some acc))) ≡ is_admitted r acc
  either acc = either_by acc (is_admitted r acc) (is_whole r acc) refl refl

  more_admitted : (acc : List X) (x : X) → is_admitted r acc ≡ true → is_admitted r (x ∷ acc) ≡ true
  more_admitted acc x e = grind arith

  -- an opener goes on where it is admitted, and a later piece where it is next or a repeat
  opener_goes_on : (o : Option (List X)) (x : X) → r.opens x ≡ true → goes_on r o x ≡ r.admitted x
  opener_goes_on o x opens = rw opens (either (x ∷ []))

  later_goes_on : (acc : List X) (x : X) (n p : Bool) → is_admitted r acc ≡ true → r.opens x ≡ false → r.is_next acc x ≡ n → r.is_repeat acc x ≡ p → goes_on r (Some acc) x ≡ (n || p)
  later_goes_on acc x n p ea eo en ep = grind (arith, either, more_admitted)

  none_goes_on : (x : X) → r.opens x ≡ false → goes_on r None x ≡ false
  none_goes_on x eo = rw eo refl

-- ---- fast packets

module _ (x : FastPiece) where
  opener_free : (o : Option (List FastPiece)) (b : Bool) → is_opener x.bytes ≡ true → x.admitted ≡ b → is_none (refused o x) ≡ b
  opener_free o true opens room = rw (opens, room) refl
  opener_free o false opens room = rw (opens, room) refl

  -- where nothing is open, each later frame is refused
  none_free : (l : Bool) → is_opener x.bytes ≡ false → is_no_later x.bytes ≡ l → is_none (refused None x) ≡ false
  none_free l eo el = grind arith

  first_is_neither : (acc : List FastPiece) → counter_of x.bytes ≡ 0 → (is_next acc x ≡ false) × (is_repeat acc x ≡ false)
  first_is_neither acc h = grind (arith, no_next, no_repeat)

  some_reason : (b : Bool) → is_none (if b then Some Length else Some Order) ≡ false
  some_reason b = grind arith

  later_free : (acc : List FastPiece) (l n p : Bool) → is_opener x.bytes ≡ false → is_no_later x.bytes ≡ l → is_next acc x ≡ n → is_repeat acc x ≡ p → is_none (refused (Some acc) x) ≡ (n || p)
  later_free acc l n p eo el en ep = grind (arith, first_is_neither, counter_zero, some_reason)

  free_by : (o : Option (List FastPiece)) (b : Bool) → ((acc : List FastPiece) → o ≡ Some acc → is_admitted fast_rules acc ≡ true) → is_opener x.bytes ≡ b → is_none (refused o x) ≡ goes_on fast_rules o x
  free_by o true were eo = opener_free o x.admitted eo refl ∙ sym (opener_goes_on fast_rules o x eo)
  free_by None false were eo = none_free (is_no_later x.bytes) eo refl ∙ sym (none_goes_on fast_rules x eo)
  free_by (Some acc) false were eo =
      later_free acc (is_no_later x.bytes) (is_next acc x) (is_repeat acc x) eo refl refl refl
      ∙ sym (later_goes_on fast_rules acc x (is_next acc x) (is_repeat acc x) (were acc refl) eo refl refl)

none_of : (reason : Option FastRefusal) → is_none reason ≡ true → reason ≡ None
none_of reason e = grind arith

pub fast_breaks : FastRefusalsBreak
fast_breaks holders notes key m x =
    let free = free_by x (open_at fast_rules (fast_trace holders key.source key.pgn notes) m) (is_opener x.bytes) (λ acc e. admitted_of fast_rules lawful (fast_trace holders key.source key.pgn notes) acc m e) refl in
    (λ e. sym free ∙ ap is_none e, λ e. none_of (refused (open_at fast_rules (fast_trace holders key.source key.pgn notes) m) x) (free ∙ e))

-- ---- the transport protocol

module _ (addressed : Bool) (x : IsoPiece) where
  -- a packet that is too short is neither the next one nor a repeat
  short_is_no_next : (acc : List IsoPiece) → nat_lt (length x.bytes) (end_of (left_of_run acc)) ≡ true → iso.is_next acc x ≡ false
  short_is_no_next acc short = grind (arith, lt-leb, ltb-true, and-false)

  not_eight : (left : ℕ) → nat_lt (length x.bytes) (end_of left) ≡ true → (length x.bytes == 8) ≡ false
  not_eight left short = let less = ltb-true (length x.bytes) (end_of left) short in ne_eqb (length x.bytes) 8 (λ e. omega arith)

  short_is_no_repeat : (acc : List IsoPiece) → nat_lt (length x.bytes) (end_of (left_of_run acc)) ≡ true → iso.is_repeat acc x ≡ false
  short_is_no_repeat acc short = grind (arith, not_eight, and-false)

  packet_ends : (acc : List IsoPiece) (s n p : Bool) → nat_lt (length x.bytes) (end_of (left_of_run acc)) ≡ s → iso.is_next acc x ≡ n → iso.is_repeat acc x ≡ p
      → ends (packet_run_verdict addressed (Some acc) x) ≡ not (n || p)
  packet_ends acc s n p es en ep = grind (arith, short_is_no_next, short_is_no_repeat)

  -- by the kind of frame
  told_by : (acc : List IsoPiece) (packet : Bool) → x.packet ≡ packet
      → run_verdict addressed (Some acc) x ≡ (if packet then packet_run_verdict addressed (Some acc) x else management_verdict addressed (not x.admitted) (Some (pgn_of acc)) x.bytes)
  told_by acc packet e = grind arith

  -- a frame that is no packet and bears ends the session exactly where it opens none
  sized_ends : (pgn : ℕ) (s : Session) (packets : ℕ) (b : Bool) → is_size s.size packets ≡ b → ends (sized_verdict addressed (not x.admitted) (Some pgn) s packets) ≡ not b
  sized_ends pgn s packets b e = grind arith

-- what such a frame says, by its control byte
module _ (x : IsoPiece) (enough : nat_lt (length x.bytes) 8 ≡ false) where
  bam_is : control_at x.bytes ≡ 32 → cm_of x.bytes ≡ Some (Bam (size_at x.bytes) (packets_at x.bytes) (pgn_at x.bytes))
  bam_is e = rw (enough, e) refl

  rts_is : control_at x.bytes ≡ 16 → cm_of x.bytes ≡ Some (Rts (size_at x.bytes) (packets_at x.bytes) (limit_at x.bytes) (pgn_at x.bytes))
  rts_is e = rw (enough, e) refl

  abort_is : control_at x.bytes ≡ 255 → cm_of x.bytes ≡ Some (Abort (slice_index x.bytes 1) (pgn_at x.bytes))
  abort_is e = rw (enough, e) refl

  kind_ends : (addressed b c : Bool) (pgn : ℕ) → (control_at x.bytes == 16) ≡ b → (control_at x.bytes == 32) ≡ c
      → ((not addressed && (control_at x.bytes == 32)) || (addressed && ((control_at x.bytes == 16) || (control_at x.bytes == 255)))) ≡ true
      → ends (kind_verdict addressed (not x.admitted) (Some pgn) (cm_of x.bytes)) ≡ not (opens addressed (cm_of x.bytes))
  kind_ends addressed b c pgn eb ec kind = grind (arith, bam_is, eqb-true, sized_ends, false≢true, rts_is, abort_is)

module _ (addressed : Bool) (acc : List IsoPiece) (x : IsoPiece) (were : is_admitted (iso_rules addressed) acc ≡ true) where
  -- a frame that is no packet goes on exactly where it is an opener
  managed_goes_on : (b : Bool) → x.packet ≡ false → iso.is_opener addressed x ≡ b → (iso.is_opener addressed x ≡ true → x.admitted ≡ true) → goes_on (iso_rules addressed) (Some acc) x ≡ b
  managed_goes_on b packet eo room = grind (arith, later_goes_on)

  managed_ends : x.packet ≡ false → bears addressed x.packet x.bytes ≡ true → ends (run_verdict addressed (Some acc) x) ≡ not (iso.is_opener addressed x)
  managed_ends packet bear = grind (arith, and_parts, le-ltb, leb-true, told_by, kind_ends)

  ends_by : (packet : Bool) → x.packet ≡ packet → bears addressed x.packet x.bytes ≡ true → (iso.is_opener addressed x ≡ true → x.admitted ≡ true)
      → ends (run_verdict addressed (Some acc) x) ≡ not (goes_on (iso_rules addressed) (Some acc) x)
  ends_by true packet bear room =
      let later : iso.is_opener addressed x ≡ false = rw packet refl in
      ap ends (told_by addressed x acc true packet)
      ∙ packet_ends addressed x acc (nat_lt (length x.bytes) (end_of (left_of_run acc))) (iso.is_next acc x) (iso.is_repeat acc x) refl refl refl
      ∙ sym (ap not (later_goes_on (iso_rules addressed) acc x (iso.is_next acc x) (iso.is_repeat acc x) were later refl refl))
  ends_by false packet bear room = grind (arith, managed_ends, managed_goes_on)

-- of what is open
open_ends : (addressed : Bool) (h : List IsoPiece) (m : ℕ) (x : IsoPiece) (o : Option (List IsoPiece)) → open_at (iso_rules addressed) h m ≡ o → is_some o ≡ true
    → bears addressed x.packet x.bytes ≡ true → (iso.is_opener addressed x ≡ true → x.admitted ≡ true) → ends (run_verdict addressed o x) ≡ not (goes_on (iso_rules addressed) o x)
open_ends addressed h m x None e some bear room = absurd (false≢true some)
open_ends addressed h m x (Some acc) e some bear room =
    ends_by addressed acc x (admitted_of (iso_rules addressed) (iso_lawful.lawful addressed) h acc m e) x.packet refl bear room

pub transport_breaks : TransportRefusalsBreak
transport_breaks k notes key m x some bear room =
    open_ends key.addressed (iso_trace k key.addressed key.source notes) m x (open_at (iso_rules key.addressed) (iso_trace k key.addressed key.source notes) m) refl some bear room
