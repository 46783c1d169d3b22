-- What each call does to the sessions of single keys.
use Rattle.std.proofs.Common.{◌≡◌, ℕ, ◌==◌, ◌&&◌, ◌||◌, not, nat_le, nat_lt, if◌then◌else◌, Bool, true, false, List, length, slice_index, Option, Some, None, option_map, refl, sym, ◌∙◌, ap, subst}
use Rattle.std.proofs.lemmas.Bool.{cond-true, cond-false, eqb-true, eq-eqb, le-leb, ltb-false}
use Rattle.std.specs.Cmp.{IsTotalOrder, bool_cmp_total}
use Rattle.std.proofs.lemmas.Cmp.{nat_cmp_total, on_total, then_total}
use Rattle.std.specs.declared.cmp.Ordering.{Ordering}
use Rattle.std.specs.Ordering.{bool_cmp, nat_cmp, is_eq, ordering_then}
use Rattle.std.specs.BTreeMap.{is_at}
use Rattle.slot_views.specs.Slots.{Entry, SlotMap, IsOrdered, IsMap, Changes, entry_at, is_full}
use Rattle.slot_views.specs.Laws.{TellsApart}
use Rattle.slot_views.specs.Traces.{if_incomplete, grown_entry}
use Rattle.slot_views.proofs.Keeping.{Keeps, changes_of, same_keeps, released_keeps, released_here, begun_keeps, begun_here, grown_keeps, grown_here}
use Rattle.n2k_id.specs.declared.identifier_parts.Parts.{Parts}
use Rattle.iso_transport.specs.declared.connection.Cm.{Cm}
use Rattle.iso_transport.specs.declared.connection.Cm.TheVariants.{Rts, Cts, EndAck, Bam, Abort}
use Rattle.iso_transport.specs.declared.answers.IsoRefusal.TheVariants as refusal
use Rattle.iso_transport.specs.declared.key.IsoKey.{IsoKey}
use Rattle.iso_transport.specs.contracts.key.IsoKeyOrd as key
use Rattle.iso_transport.specs.declared.verdict.Verdict.{Verdict}
use Rattle.iso_transport.specs.declared.verdict.Verdict.TheVariants.{Ignored, Again, Refused, Ends, Opens, Next}
use Rattle.iso_transport.specs.Connection.{control_at, size_at, packets_at, limit_at, pgn_at, cm_by, cm_of}
use Rattle.iso_transport.specs.IsoRuns.{gap_after, IsoPiece}
use Rattle.iso_transport.specs.Audience.{is_data, key_of}
use Rattle.iso_transport.specs.Verdicts.{bears, concerns, pgn_in, VerdictFits, kind_verdict, management_verdict, frame_verdict}
use Rattle.iso_transport.specs.Assembly.{opening, is_crowded, part_to, fed_by, verdict_of, fed_after, key_fits, AreSessions}
use Rattle.iso_transport.specs.RunVerdicts.{verdict_on, extended_by, left_by}
use Rattle.iso_transport.specs.Joining.{piece_of, FeedsItsKey, OrdersKeys}
use Rattle.iso_transport.proofs.Verdicts.{full_where, management_fits, packet_fits}

-- ---- what a frame is to its key, whatever the other keys hold

kind_same : (addressed c d : Bool) (pgn : ℕ) (cm : Option Cm) → kind_verdict addressed c (Some pgn) cm ≡ kind_verdict addressed d (Some pgn) cm
kind_same addressed c d pgn None = refl
kind_same addressed c d pgn (Some (Rts size packets limit p)) = refl
kind_same addressed c d pgn (Some (Cts count next p)) = refl
kind_same addressed c d pgn (Some (EndAck size packets p)) = refl
kind_same addressed c d pgn (Some (Bam size packets p)) = refl
kind_same addressed c d pgn (Some (Abort reason p)) = refl

management_same : (addressed c d : Bool) (pgn : ℕ) (bytes : List ℕ) → management_verdict addressed c (Some pgn) bytes ≡ management_verdict addressed d (Some pgn) bytes
management_same addressed c d pgn bytes = ap (λ v. if nat_lt (length bytes) 8 then Refused refusal.Size None else v) (kind_same addressed c d pgn (cm_of bytes))

-- that as many sessions are open as the limit counts where the key's isn't
pub frame_same : (addressed crowded : Bool) (o : Option Entry) (p : Bool) (bytes : List ℕ) → frame_verdict addressed crowded o p bytes ≡ frame_verdict addressed (not (not (full_where crowded o))) o p bytes
frame_same addressed true None p bytes = refl
frame_same addressed false None p bytes = refl
frame_same addressed crowded (Some e) true bytes = refl
frame_same addressed crowded (Some e) false bytes = management_same addressed crowded false (pgn_in e) bytes

-- what a frame is fits what is kept
pub frame_fits : (addressed crowded : Bool) (o : Option Entry) (p : Bool) (bytes : List ℕ) → VerdictFits (full_where crowded o) o bytes (frame_verdict addressed crowded o p bytes)
frame_fits addressed crowded o true bytes = packet_fits (full_where crowded o) addressed o bytes
frame_fits addressed crowded o false bytes = management_fits crowded o bytes addressed

-- ---- frames that can't open, extend or end a session

module _ (cmp : IsoKey → IsoKey → Ordering) (s : SlotMap IsoKey) (k : IsoKey) (bytes : List ℕ) (moment : ℕ) where
  kind_idle : (addressed crowded : Bool) (o : Option ℕ) (a b c d e : Bool) → ((not addressed && d) || (addressed && (a || e))) ≡ false
      → fed_by cmp s k bytes moment (kind_verdict addressed crowded o (if a then Some (Rts (size_at bytes) (packets_at bytes) (limit_at bytes) (pgn_at bytes)) else if b then Some (Cts (slice_index bytes 1) (slice_index bytes 2) (pgn_at bytes))
      else if c then Some (EndAck (size_at bytes) (packets_at bytes) (pgn_at bytes)) else if d then Some (Bam (size_at bytes) (packets_at bytes) (pgn_at bytes))
      else if e then Some (Abort (slice_index bytes 1) (pgn_at bytes)) else None)) ≡ s
  kind_idle true crowded o true b c d e idle = cc
  kind_idle false crowded o true b c d e idle = refl
  kind_idle addressed crowded o false true c d e idle = refl
  kind_idle addressed crowded o false false true d e idle = refl
  kind_idle true crowded o false false false true e idle = refl
  kind_idle false crowded o false false false true e idle = cc
  kind_idle true crowded o false false false false true idle = cc
  kind_idle false crowded o false false false false true idle = refl
  kind_idle addressed crowded o false false false false false idle = refl

  management_idle : (addressed crowded : Bool) (o : Option ℕ) (t : Bool) → nat_lt (length bytes) 8 ≡ t → (nat_le 8 (length bytes) && ((not addressed && (control_at bytes == 32)) || (addressed && ((control_at bytes == 16) || (control_at bytes == 255))))) ≡ false
      → fed_by cmp s k bytes moment (management_verdict addressed crowded o bytes) ≡ s
  management_idle addressed crowded o true short idle = rw short refl
  management_idle addressed crowded o false long idle =
      let enough : nat_le 8 (length bytes) ≡ true = le-leb 8 (length bytes) (ltb-false (length bytes) 8 long) in
      let whole : management_verdict addressed crowded o bytes ≡ kind_verdict addressed crowded o (cm_by (control_at bytes) bytes) = rw long refl in
      ap (fed_by cmp s k bytes moment) whole
      ∙ kind_idle addressed crowded o (control_at bytes == 16) (control_at bytes == 17) (control_at bytes == 19) (control_at bytes == 32) (control_at bytes == 255) (rw enough at idle)

  frame_idle : (addressed crowded : Bool) (o : Option Entry) (p : Bool) → bears addressed p bytes ≡ false → fed_by cmp s k bytes moment (frame_verdict addressed crowded o p bytes) ≡ s
  frame_idle addressed crowded o true idle = cc
  frame_idle addressed crowded o false idle = management_idle addressed crowded (option_map pgn_in o) _ refl idle

module _ (cmp : IsoKey → IsoKey → Ordering) (o : IsTotalOrder cmp) where
  -- ---- what the steps of the slots do to one key
  module _ (s : SlotMap IsoKey) (k : IsoKey) (x : IsoPiece) (sorted : IsOrdered cmp s.entries) where
    keeps_by : (v : Verdict) → Keeps cmp s k (fed_by cmp s k x.bytes x.moment v)
    keeps_by Ignored = same_keeps o s k sorted
    keeps_by Again = same_keeps o s k sorted
    keeps_by (Refused reason reply) = same_keeps o s k sorted
    keeps_by (Ends reason reply) = released_keeps o s k sorted
    keeps_by (Opens session old) = begun_keeps o s k sorted (opening k.addressed session x.moment)
    keeps_by (Next session number end) = grown_keeps o s k sorted number (part_to end x.bytes) x.moment (gap_after k.addressed session number)

    here_by : x.admitted ≡ not (is_full cmp s k) → (v : Verdict) → VerdictFits (full_where (is_crowded s) (entry_at cmp s k)) (entry_at cmp s k) x.bytes v
        → entry_at cmp (fed_by cmp s k x.bytes x.moment v) k ≡ left_by k.addressed v x (entry_at cmp s k)
    here_by admitted Ignored fits = refl
    here_by admitted Again fits = refl
    here_by admitted (Refused reason reply) fits = refl
    here_by admitted (Ends reason reply) fits = released_here o s k sorted
    here_by admitted (Opens session old) fits =
        begun_here o s k sorted (opening k.addressed session x.moment) ∙ ap (λ b. if b then if_incomplete (opening k.addressed session x.moment) else None) (sym admitted)
    here_by admitted (Next session number end) fits =
        let piece = part_to end x.bytes in
        let gap = gap_after k.addressed session number in
        let grows : grown_entry number piece x.moment gap (Some fits.entry) ≡ extended_by k.addressed session number end x (Some fits.entry) =
        rw (eq-eqb fits.entry.next number (sym fits.awaited)) refl in
        grown_here o s k sorted number piece x.moment gap
        ∙ (ap (grown_entry number piece x.moment gap) fits.held ∙ (grows ∙ ap (extended_by k.addressed session number end x) (sym fits.held)))

  -- ---- a frame, by what it is
  abbrev frame_on : SlotMap IsoKey → IsoKey → IsoPiece → Verdict
  frame_on s k x = frame_verdict k.addressed (is_crowded s) (entry_at cmp s k) x.packet x.bytes

  told_on : (s : SlotMap IsoKey) (k : IsoKey) (x : IsoPiece) → x.admitted ≡ not (is_full cmp s k) → frame_on s k x ≡ verdict_on k.addressed (entry_at cmp s k) x
  told_on s k x admitted =
      frame_same k.addressed (is_crowded s) (entry_at cmp s k) x.packet x.bytes
      ∙ ap (λ b. frame_verdict k.addressed (not b) (entry_at cmp s k) x.packet x.bytes) (sym admitted)

  pub changed : (s : SlotMap IsoKey) (k : IsoKey) (x : IsoPiece) → IsMap cmp s → x.admitted ≡ not (is_full cmp s k)
      → Changes cmp s (fed_by cmp s k x.bytes x.moment (frame_on s k x)) k (left_by k.addressed (verdict_on k.addressed (entry_at cmp s k) x) x (entry_at cmp s k))
  changed s k x map admitted =
      let here = here_by s k x map.ordered admitted (frame_on s k x) (frame_fits k.addressed (is_crowded s) (entry_at cmp s k) x.packet x.bytes) in
      changes_of s (fed_by cmp s k x.bytes x.moment (frame_on s k x)) k (left_by k.addressed (verdict_on k.addressed (entry_at cmp s k) x) x (entry_at cmp s k)) map
      (keeps_by s k x map.ordered (frame_on s k x)) (here ∙ ap (λ v. left_by k.addressed v x (entry_at cmp s k)) (told_on s k x admitted))

  pub concerned : (s : SlotMap IsoKey) (own : Option ℕ) (parts : Parts) (bytes : List ℕ) → concerns own parts ≡ true
      → verdict_of cmp s own parts bytes ≡ frame_verdict (key_of parts).addressed (is_crowded s) (entry_at cmp s (key_of parts)) (is_data parts) bytes
  concerned s own parts bytes ours = cond-true (concerns own parts) (frame_verdict (key_of parts).addressed (is_crowded s) (entry_at cmp s (key_of parts)) (is_data parts) bytes) Ignored ours

  changes_law : (s : SlotMap IsoKey) (own : Option ℕ) (parts : Parts) (bytes : List ℕ) (moment : ℕ) → IsMap cmp s → concerns own parts ≡ true
      → Changes cmp s (fed_after cmp s own parts bytes moment) (key_of parts)
      (left_by (key_of parts).addressed (verdict_on (key_of parts).addressed (entry_at cmp s (key_of parts)) (piece_of cmp s parts bytes moment)) (piece_of cmp s parts bytes moment) (entry_at cmp s (key_of parts)))
  changes_law s own parts bytes moment map ours =
      let x = piece_of cmp s parts bytes moment in
      let o = entry_at cmp s (key_of parts) in
      subst (λ w. Changes cmp s (fed_by cmp s (key_of parts) bytes moment w) (key_of parts) (left_by (key_of parts).addressed (verdict_on (key_of parts).addressed o x) x o)) (sym (concerned s own parts bytes ours))
      (changed s (key_of parts) x map refl)

  passed_by : (s : SlotMap IsoKey) (own : Option ℕ) (parts : Parts) (bytes : List ℕ) (moment : ℕ) (c : Bool) → concerns own parts ≡ c → (c && bears (key_of parts).addressed (is_data parts) bytes) ≡ false → fed_after cmp s own parts bytes moment ≡ s
  passed_by s own parts bytes moment false other idle =
      ap (fed_by cmp s (key_of parts) bytes moment) (cond-false (concerns own parts) (frame_verdict (key_of parts).addressed (is_crowded s) (entry_at cmp s (key_of parts)) (is_data parts) bytes) Ignored other)
  passed_by s own parts bytes moment true ours idle =
      ap (fed_by cmp s (key_of parts) bytes moment) (concerned s own parts bytes ours) ∙ frame_idle cmp s (key_of parts) bytes moment (key_of parts).addressed (is_crowded s) (entry_at cmp s (key_of parts)) (is_data parts) idle

  pub feeds_its_key : FeedsItsKey cmp
  feeds_its_key = record {
    verdict = λ s own parts bytes moment ours. concerned s own parts bytes ours ∙ told_on s (key_of parts) (piece_of cmp s parts bytes moment) refl;
    changes = changes_law;
    passed = λ s own parts bytes moment idle. passed_by s own parts bytes moment _ refl idle;
  }

  -- what holds of all sessions holds of them after a step
  pub still_sessions : (s t : SlotMap IsoKey) (k : IsoKey) → key_fits k ≡ true → AreSessions cmp s → Keeps cmp s k t → AreSessions cmp t
  still_sessions s t k fits are keeps = record { map = (changes_of s t k _ are.map keeps refl).map; fit = keeps.keys key_fits fits are.fit }

-- ---- the order of the keys
pub keys_total : IsTotalOrder key.TheImpl.ghosts.cmp
keys_total = then_total (on_total (λ (k : IsoKey). k.addressed) bool_cmp_total) (on_total (λ (k : IsoKey). k.source) nat_cmp_total)

sources_by : (n m : ℕ) (b c : Bool) → nat_lt n m ≡ b → (n == m) ≡ c → is_eq (nat_cmp n m) ≡ true → m ≡ n
sources_by n m true c less is equal = let none : false ≡ true = simp less at equal in cc
sources_by n m false true less is equal = sym (eqb-true n m is)
sources_by n m false false less is equal = let none : false ≡ true = simp (less, is) at equal in cc

fields_by : (a b : Bool) (n m : ℕ) → is_eq (ordering_then (bool_cmp a b) (nat_cmp n m)) ≡ true → (b ≡ a) × (m ≡ n)
fields_by true true n m equal = (refl, sources_by n m _ _ refl refl equal)
fields_by true false n m equal = cc
fields_by false true n m equal = cc
fields_by false false n m equal = (refl, sources_by n m _ _ refl refl equal)

abbrev key_from : Bool → ℕ → IsoKey
key_from a n = record { addressed = a; source = n }

key_same : (a b : Bool) (n m : ℕ) → b ≡ a → m ≡ n → key_from b m ≡ key_from a n
key_same a b n m e f = rw (e, f) refl

keys_same : (k x : IsoKey) → is_at (key.TheImpl.ghosts.cmp k) x ≡ true → x ≡ k
keys_same k x here =
    let fields = fields_by k.addressed x.addressed k.source x.source here in
    key_same k.addressed x.addressed k.source x.source fields.0 fields.1

pub keys_apart : TellsApart key.TheImpl.ghosts.cmp
keys_apart = record { same = keys_same }

pub orders : OrdersKeys key.TheImpl.ghosts.cmp
orders = record { broadcast_first = λ a b. refl }
