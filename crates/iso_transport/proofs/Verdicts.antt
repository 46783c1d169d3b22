-- What follows from what a frame is.
use Rattle.std.proofs.Common.{◌≡◌, ℕ, ◌^◌, ◌<◌, ◌≤◌, ◌==◌, ◌&&◌, not, nat_lt, Bool, true, false, if◌then◌else◌, List, length, Option, Some, None, option_map, is_some, refl, arith}
use Rattle.std.proofs.lemmas.Bool.{and_parts, leb-true, eqb-true, ltb-false}
use Rattle.std.specs.declared.cmp.Ordering.{Ordering}
use Rattle.slot_views.specs.Slots.{Entry, SlotMap, entry_at}
use Rattle.n2k_id.specs.declared.identifier_parts.Parts.{Parts}
use Rattle.iso_transport.specs.declared.key.IsoKey.{IsoKey}
use Rattle.iso_transport.specs.declared.answers.IsoFed.{IsoFed}
use Rattle.iso_transport.specs.Audience.{key_of}
use Rattle.iso_transport.specs.Assembly.{verdict_of, fed_by, fed_after}
use Rattle.iso_transport.specs.Answers.{restarted_by, reply_by, OutcomeBy, FeedGives}
use Rattle.iso_transport.specs.declared.answers.IsoRefusal.TheVariants as refusal
use Rattle.iso_transport.specs.declared.connection.Cm.{Cm}
use Rattle.iso_transport.specs.declared.connection.Cm.TheVariants.{Rts, Cts, EndAck, Bam, Abort}
use Rattle.iso_transport.specs.declared.session.Session.{Session}
use Rattle.iso_transport.specs.declared.verdict.Verdict.{Verdict}
use Rattle.iso_transport.specs.declared.verdict.Verdict.TheVariants.{Ignored, Again, Refused, Ends, Opens, Next}
use Rattle.iso_transport.specs.Connection.{cm_of}
use Rattle.iso_transport.specs.Sessions.{abort_to}
use Rattle.iso_transport.specs.IsoRuns.{shortest, is_size, announced, number_of, end_of}
use Rattle.iso_transport.specs.Replies.{NamesPgn}
use Rattle.iso_transport.proofs.Sessions.{pgn_small}
use Rattle.iso_transport.specs.Verdicts.{IsSmall, VerdictFits, TellsSmall, opener_verdict, sized_verdict, abort_verdict, kind_verdict, management_verdict, left_of, is_again, packet_verdict, pgn_in}

-- there is no room exactly where none of the key is open, and as many are as the limit
abbrev pub full_where : Bool → Option Entry → Bool
full_where crowded o = not (is_some o) && crowded

abort_names : (addressed : Bool) (reason pgn : ℕ) → pgn < 2 ^ 24 → NamesPgn (abort_to addressed reason pgn)
abort_names true reason pgn small = small
abort_names false reason pgn small = tt

module _ (crowded : Bool) (o : Option Entry) (bytes : List ℕ) where
  opener_fits : (addressed : Bool) (s : Session) → IsSmall s → shortest ≤ s.size → VerdictFits (full_where crowded o) o bytes (opener_verdict addressed crowded (option_map pgn_in o) s)
  opener_fits addressed s small size = by_room crowded o small size
    where
      by_room : (c : Bool) (o : Option Entry) → IsSmall s → shortest ≤ s.size → VerdictFits (full_where c o) o bytes (opener_verdict addressed c (option_map pgn_in o) s)
      by_room c (Some e) small size = record { small = small; size = size; room = refl }
      by_room true None small size = abort_names addressed 1 s.pgn small.pgn
      by_room false None small size = record { small = small; size = size; room = refl }

  sized_fits : (addressed : Bool) (s : Session) (packets : ℕ) → s.pgn < 2 ^ 24 → 1 ≤ s.window → (b : Bool) → is_size s.size packets ≡ b → VerdictFits (full_where crowded o) o bytes (sized_verdict addressed crowded (option_map pgn_in o) s packets)
  sized_fits addressed s packets pgn window true is =
      let one = and_parts _ _ is in
      let two = and_parts _ _ one.1 in
      rw is (opener_fits addressed s (record { pgn = pgn; size = leb-true _ _ two.0; window = window }) (leb-true _ _ one.0))
  sized_fits addressed s packets pgn window false is = rw is (abort_names addressed 2 s.pgn pgn)

  abort_fits : (p : Option ℕ) → VerdictFits (full_where crowded o) o bytes (abort_verdict p)
  abort_fits None = tt
  abort_fits (Some pgn) = tt

  kind_fits : (addressed : Bool) (cm : Option Cm) → (announced cm).pgn < 2 ^ 24 → VerdictFits (full_where crowded o) o bytes (kind_verdict addressed crowded (option_map pgn_in o) cm)
  kind_fits addressed None small = tt
  kind_fits true (Some (Rts size packets limit p)) small = sized_fits true (announced (Some (Rts size packets limit p))) packets small (omega arith) _ refl
  kind_fits false (Some (Rts size packets limit p)) small = tt
  kind_fits addressed (Some (Cts count next p)) small = tt
  kind_fits addressed (Some (EndAck size packets p)) small = tt
  kind_fits true (Some (Bam size packets p)) small = tt
  kind_fits false (Some (Bam size packets p)) small = sized_fits false (announced (Some (Bam size packets p))) packets small (omega arith) _ refl
  kind_fits true (Some (Abort reason p)) small = abort_fits (option_map pgn_in o)
  kind_fits false (Some (Abort reason p)) small = tt

  by_test : (addressed b : Bool) (cm : Option Cm) → (announced cm).pgn < 2 ^ 24 → VerdictFits (full_where crowded o) o bytes (if b then Refused refusal.Size None else kind_verdict addressed crowded (option_map pgn_in o) cm)
  by_test addressed true cm small = tt
  by_test addressed false cm small = kind_fits addressed cm small

  pub management_fits : (addressed : Bool) → VerdictFits (full_where crowded o) o bytes (management_verdict addressed crowded (option_map pgn_in o) bytes)
  management_fits addressed = by_test addressed (nat_lt (length bytes) 8) (cm_of bytes) (pgn_small bytes)

-- what a packet is
packet_by : (full addressed : Bool) (e : Entry) (bytes : List ℕ) (t r n : Bool) → nat_lt (length bytes) (end_of (left_of e)) ≡ t → is_again e bytes ≡ r → (number_of bytes == e.next) ≡ n
    → VerdictFits full (Some e) bytes (packet_verdict addressed (Some e) bytes)
packet_by full addressed e bytes true r n et er en = rw et (abort_names addressed 2 (pgn_in e) (omega arith))
packet_by full addressed e bytes false true n et er en = rw (et, er) tt
packet_by full addressed e bytes false false false et er en = rw (et, er, en) (abort_names addressed 2 (pgn_in e) (omega arith))
packet_by full addressed e bytes false false true et er en = rw (et, er, en) record {
  small = record { pgn = omega arith; size = omega arith; window = omega arith };
  entry = e;
  held = refl;
  number_is = refl;
  awaited = eqb-true _ _ en;
  some = omega arith;
  most = omega arith;
  enough = ltb-false _ _ et;
}

pub packet_fits : (full addressed : Bool) (o : Option Entry) (bytes : List ℕ) → VerdictFits full o bytes (packet_verdict addressed o bytes)
packet_fits full addressed None bytes = tt
packet_fits full addressed (Some e) bytes = packet_by full addressed e bytes _ _ _ refl refl refl

-- what is told of an open session fits a reply
pub tells_small : (full : Bool) (o : Option Entry) (bytes : List ℕ) (v : Verdict) → VerdictFits full o bytes v → TellsSmall v
tells_small full o bytes Ignored fits = tt
tells_small full o bytes Again fits = tt
tells_small full o bytes (Refused reason reply) fits = fits
tells_small full o bytes (Ends reason reply) fits = fits
tells_small full o bytes (Opens s old) fits = fits.small
tells_small full o bytes (Next s number end) fits = fits.small

-- what a frame does, with the names of the code
pub fed_same : (cmp : IsoKey → IsoKey → Ordering) (s : SlotMap IsoKey) (own : Option ℕ) (parts : Parts) (k : IsoKey) (bytes held : List ℕ) (moment : ℕ) (v : Verdict)
    → k ≡ key_of parts → held ≡ bytes → v ≡ verdict_of cmp s own parts held → fed_by cmp s k held moment v ≡ fed_after cmp s own parts bytes moment
fed_same cmp s own parts k bytes held moment v key same is = rw (is, key, same)

pub gives_same : (cmp : IsoKey → IsoKey → Ordering) (s : SlotMap IsoKey) (own : Option ℕ) (parts : Parts) (k : IsoKey) (bytes held : List ℕ) (moment : ℕ) (v : Verdict) (fed : IsoFed)
    → k ≡ key_of parts → held ≡ bytes → v ≡ verdict_of cmp s own parts held
    → fed.restarted ≡ restarted_by v → fed.reply ≡ reply_by k.addressed v → OutcomeBy k.addressed (entry_at cmp s k) held moment v fed.outcome
    → FeedGives cmp s own parts bytes moment fed
gives_same cmp s own parts k bytes held moment v fed key same is restarted reply outcome = record {
  restarted = rw (is, same) at restarted;
  reply = rw (is, key, same) at reply;
  outcome = rw (is, key, same) at outcome;
}
