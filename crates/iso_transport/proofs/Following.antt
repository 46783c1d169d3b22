-- A session is what the frames of its open prefix make.
use Rattle.std.specs.List.{AllByRecursion}
use Rattle.std.proofs.lemmas.Bool.{and_parts, cond-true, cond-false, eqb-false, eqb-true}
use Rattle.std.proofs.Common.{◌≡◌, ℕ, ◌<◌, ◌==◌, not, nat_lt, min, if◌then◌else◌, Bool, true, false, List, [], ◌∷◌, length, drop, Option, Some, None, option_map, length-append, length-take, length-drop, refl, sym, ◌∙◌, ap, subst, arith}
use Rattle.slot_views.specs.Runs.{is_whole, is_admitted, opener_of, since_opener, kept_at, open_of, open_at, run_of}
use Rattle.slot_views.specs.RunLaws.{fed, fed_later, finished, finished_later}
use Rattle.slot_views.specs.Traces.{left_at, entry_after}
use Rattle.slot_views.proofs.Lists.{all_front}
use Rattle.slot_views.proofs.RunSteps.{one_step_of}
use Rattle.slot_views.proofs.RunSuffixes.{one_suffix_of}
use Rattle.iso_transport.specs.declared.answers.IsoRefusal.TheVariants as refusal
use Rattle.iso_transport.specs.declared.session.Session.{Session}
use Rattle.iso_transport.specs.declared.verdict.Verdict.{Verdict}
use Rattle.iso_transport.specs.declared.verdict.Verdict.TheVariants.{Again, Refused, Ends, Next}
use Rattle.iso_transport.specs.Connection.{cm_of}
use Rattle.iso_transport.specs.AbortReasons.{resources_needed}
use Rattle.iso_transport.specs.Sessions.{abort_to}
use Rattle.iso_transport.specs.Answers.{reply_by}
use Rattle.iso_transport.specs.IsoRuns.{IsoPiece, number_of, end_of, part_of, session_of, need_of, is_next, is_repeat, iso_rules, joined, payload, pgn_of, left_of_run}
use Rattle.iso_transport.specs.Verdicts.{pgn_in, packet_verdict, kind_verdict, management_verdict}
use Rattle.iso_transport.specs.RunVerdicts.{packet_run_verdict, run_verdict, message_of, verdict_on, left_by, completed_by, assembly_at}
use Rattle.iso_transport.specs.Replies.{reply_to_packet, reply_to}
use Rattle.iso_transport.specs.Laws.{IsOfTrace, IsTrace, assembly_after, FollowsRuns, HasItsSize}
use Rattle.iso_transport.proofs.Lawful.{lawful}
use Rattle.iso_transport.proofs.Openers.{bears_by, kind_left, kind_completed, kind_quiet, kind_replied}
use Rattle.iso_transport.proofs.Packets.{PacketFollows, packet_follows}
use Rattle.iso_transport.proofs.Packets as packets
use Rattle.iso_transport.proofs.Prefixes.{size_of, next_facts, IsSoFar, Facts, facts_of, so_far, within}
use Rattle.iso_transport.proofs.Sessions.{opened_from, session_kept}

pub later_is : (addressed : Bool) (o : Option (List IsoPiece)) (m : ℕ) → left_at (assembly_at addressed o) m ≡ assembly_at addressed (kept_at (iso_rules addressed) o m)
later_is = packets.later_is

-- ---- what stands open: a prefix of a message that isn't whole
module _ (addressed : Bool) where
  abbrev pub Standing : Option (List IsoPiece) → Type 0
  Standing None = Unit {0}
  Standing (Some []) = ⊥
  Standing (Some (y ∷ ys)) = Facts addressed y ys × (length (y ∷ ys) < need_of (opener_of y ys)) × (is_admitted (iso_rules addressed) (y ∷ ys) ≡ true)

  so_far_stands : (acc : List IsoPiece) → IsSoFar addressed acc → is_admitted (iso_rules addressed) acc ≡ true → is_whole (iso_rules addressed) acc ≡ false → Standing (Some acc)
  so_far_stands [] far admitted awaits = far
  so_far_stands (y ∷ ys) far admitted awaits =
      let other = eqb-false _ _ awaits in
      let most = within addressed y ys far in
      (facts_of addressed y ys far, omega (arith, other, most), admitted)

  pub standing_by : (h : List IsoPiece) (m : ℕ) (q : Option (List IsoPiece)) → IsTrace addressed h → open_at (iso_rules addressed) h m ≡ q → Standing q
  standing_by h m None trace is = tt
  standing_by h m (Some acc) trace is =
      let o = (one_suffix_of (iso_rules addressed) (lawful addressed)).is_open h acc m is in
      let front = all_front (IsOfTrace addressed) (since_opener (iso_rules addressed) h) o.older (subst (AllByRecursion (IsOfTrace addressed)) o.suffix trace) in
      so_far_stands acc (so_far addressed (since_opener (iso_rules addressed) h) acc front o.prefix) o.admitted o.awaits

  -- the message that is open
  message_is : (q : Option (List IsoPiece)) → Standing q → option_map pgn_in (assembly_at addressed q) ≡ option_map pgn_of q
  message_is None stands = refl
  message_is (Some []) stands = absurd stands
  message_is (Some (y ∷ ys)) stands = ap (λ (s : Session). Some s.pgn) (session_kept (session_of (y ∷ ys)) stands.0.opened)

  packet_of : (y : IsoPiece) (ys : List IsoPiece) (x : IsoPiece) (stands : Standing (Some (y ∷ ys))) (packet : x.packet ≡ true) → PacketFollows addressed y ys x stands.0 stands.1 packet
  packet_of y ys x stands packet = packet_follows addressed y ys x stands.0 stands.1 packet stands.2

-- ---- what a frame is to the frames that are open: by its kind
pub told_packet : (addressed : Bool) (q : Option (List IsoPiece)) (x : IsoPiece) → x.packet ≡ true → run_verdict addressed q x ≡ packet_run_verdict addressed q x
told_packet addressed q x packet = cond-true x.packet (packet_run_verdict addressed q x) (management_verdict addressed (not x.admitted) (option_map pgn_of q) x.bytes) packet

pub told_is : (x : IsoPiece) → x.packet ≡ false → (addressed : Bool) (q : Option (List IsoPiece)) → nat_lt (length x.bytes) 8 ≡ false → run_verdict addressed q x ≡ kind_verdict addressed (not x.admitted) (option_map pgn_of q) (cm_of x.bytes)
told_is x management addressed q long =
    let pgn = option_map pgn_of q in
    cond-false x.packet (packet_run_verdict addressed q x) (management_verdict addressed (not x.admitted) pgn x.bytes) management
    ∙ cond-false (nat_lt (length x.bytes) 8) (Refused refusal.Size None) (kind_verdict addressed (not x.admitted) pgn (cm_of x.bytes)) long

-- nobody is told anything of a packet to all
tests_quiet : (s : Session) (left number : ℕ) (short again next : Bool) → reply_by false (if short then Ends refusal.Size (abort_to false resources_needed s.pgn) else if again then Again else if next then Next s number (end_of left) else Ends refusal.Order (abort_to false resources_needed s.pgn)) ≡ None
tests_quiet s left number true again next = refl
tests_quiet s left number false true next = refl
tests_quiet s left number false false true = refl
tests_quiet s left number false false false = refl

packet_quiet : (q : Option (List IsoPiece)) (x : IsoPiece) → reply_by false (packet_run_verdict false q x) ≡ None
packet_quiet None x = refl
packet_quiet (Some acc) x = tests_quiet (session_of acc) (left_of_run acc) (number_of x.bytes) (nat_lt (length x.bytes) (end_of (left_of_run acc))) (is_repeat acc x) (is_next acc x)

packet_replied : (q : Option (List IsoPiece)) (x : IsoPiece) → Standing true q → x.packet ≡ true → reply_by true (packet_run_verdict true q x) ≡ reply_to_packet q x
packet_replied None x stands packet = refl
packet_replied (Some []) x stands packet = absurd stands
packet_replied (Some (y ∷ ys)) x stands packet = (packet_of true y ys x stands packet).replied

-- ---- what it is to the session, and what it leaves of it and completes
record Follows (addressed : Bool) (q : Option (List IsoPiece)) (x : IsoPiece) (v : Verdict) (left whole : Option (List IsoPiece)) : Type 0 where
  leaves : left_by addressed v x (assembly_at addressed q) ≡ assembly_at addressed left
  completes : completed_by addressed v x (assembly_at addressed q) ≡ message_of whole

module _ (addressed : Bool) where
  packet_told : (q : Option (List IsoPiece)) (x : IsoPiece) → Standing addressed q → x.packet ≡ true → packet_verdict addressed (assembly_at addressed q) x.bytes ≡ packet_run_verdict addressed q x
  packet_told None x stands packet = refl
  packet_told (Some []) x stands packet = absurd stands
  packet_told (Some (y ∷ ys)) x stands packet = (packet_of addressed y ys x stands packet).told

  frame_told : (q : Option (List IsoPiece)) (x : IsoPiece) (packet : Bool) → Standing addressed q → x.packet ≡ packet → verdict_on addressed (assembly_at addressed q) x ≡ run_verdict addressed q x
  frame_told q x true stands packet = cond-true x.packet _ _ packet ∙ (packet_told q x stands packet ∙ sym (told_packet addressed q x packet))
  frame_told q x false stands management =
      cond-false x.packet _ _ management
      ∙ (ap (λ pgn. management_verdict addressed (not x.admitted) pgn x.bytes) (message_is addressed q stands) ∙ sym (cond-false x.packet (packet_run_verdict addressed q x) _ management))

  packet_leaves : (q : Option (List IsoPiece)) (x : IsoPiece) → Standing addressed q → x.packet ≡ true → Follows addressed q x (packet_run_verdict addressed q x) (fed_later (iso_rules addressed) q x) (finished_later (iso_rules addressed) q x)
  packet_leaves None x stands packet = record { leaves = refl; completes = refl }
  packet_leaves (Some []) x stands packet = absurd stands
  packet_leaves (Some (y ∷ ys)) x stands packet = let p = packet_of addressed y ys x stands packet in record { leaves = p.left; completes = p.completed }

  frame_leaves : (q : Option (List IsoPiece)) (x : IsoPiece) (packet : Bool) → Standing addressed q → IsOfTrace addressed x → x.packet ≡ packet → Follows addressed q x (run_verdict addressed q x) (fed (iso_rules addressed) q x) (finished (iso_rules addressed) q x)
  frame_leaves q x true stands of packet =
      let told = told_packet addressed q x packet in
      let p = packet_leaves q x stands packet in
      let fed_is : fed (iso_rules addressed) q x ≡ fed_later (iso_rules addressed) q x = rw packet refl in
      let finished_is : finished (iso_rules addressed) q x ≡ finished_later (iso_rules addressed) q x = rw packet refl in
      record {
        leaves = ap (λ v. left_by addressed v x (assembly_at addressed q)) told ∙ (p.leaves ∙ ap (assembly_at addressed) (sym fed_is));
        completes = ap (λ v. completed_by addressed v x (assembly_at addressed q)) told ∙ (p.completes ∙ ap message_of (sym finished_is));
      }
  frame_leaves q x false stands of management =
      let (long, bearing) = bears_by addressed x.packet x.bytes management of.bearing in
      let told = told_is x management addressed q long in
      record {
        leaves = ap (λ v. left_by addressed v x (assembly_at addressed q)) told ∙ kind_left x management addressed q bearing;
        completes = ap (λ v. completed_by addressed v x (assembly_at addressed q)) told ∙ kind_completed x management addressed q (assembly_at addressed q) bearing;
      }

-- what its sender is told
replied : (addressed : Bool) (q : Option (List IsoPiece)) (x : IsoPiece) (packet : Bool) → Standing addressed q → IsOfTrace addressed x → (x.admitted ≡ false → q ≡ None) → x.packet ≡ packet → reply_by addressed (run_verdict addressed q x) ≡ reply_to addressed q x
replied false q x true stands of admits packet = ap (reply_by false) (told_packet false q x packet) ∙ packet_quiet q x
replied true q x true stands of admits packet =
    let right : reply_to true q x ≡ reply_to_packet q x = cond-true x.packet _ _ packet in
    ap (reply_by true) (told_packet true q x packet) ∙ (packet_replied q x stands packet ∙ sym right)
replied false q x false stands of admits management =
    let (long, bearing) = bears_by false x.packet x.bytes management of.bearing in
    ap (reply_by false) (told_is x management false q long) ∙ kind_quiet x management (not x.admitted) (option_map pgn_of q) bearing
replied true q x false stands of admits management =
    let (long, bearing) = bears_by true x.packet x.bytes management of.bearing in
    ap (reply_by true) (told_is x management true q long) ∙ kind_replied x management q admits bearing

-- ---- the laws
module _ (addressed : Bool) where
  told_law : (h : List IsoPiece) (x : IsoPiece) → IsTrace addressed h → verdict_on addressed (assembly_at addressed (open_at (iso_rules addressed) h x.moment)) x ≡ run_verdict addressed (open_at (iso_rules addressed) h x.moment) x
  told_law h x trace = frame_told addressed (open_at (iso_rules addressed) h x.moment) x _ (standing_by addressed h x.moment _ trace refl) refl

  leaves_law : (h : List IsoPiece) (x : IsoPiece) → IsTrace addressed (x ∷ h) → let q = open_at (iso_rules addressed) h x.moment in Follows addressed q x (run_verdict addressed q x) (fed (iso_rules addressed) q x) (finished (iso_rules addressed) q x)
  leaves_law h x trace = frame_leaves addressed (open_at (iso_rules addressed) h x.moment) x _ (standing_by addressed h x.moment _ trace.1 refl) trace.0 refl

  left_law : (h : List IsoPiece) (x : IsoPiece) → IsTrace addressed (x ∷ h)
      → left_by addressed (verdict_on addressed (assembly_at addressed (open_at (iso_rules addressed) h x.moment)) x) x (assembly_at addressed (open_at (iso_rules addressed) h x.moment)) ≡ assembly_at addressed (open_of (iso_rules addressed) (x ∷ h))
  left_law h x trace =
      ap (λ v. left_by addressed v x (assembly_at addressed (open_at (iso_rules addressed) h x.moment))) (told_law h x trace.1)
      ∙ ((leaves_law h x trace).leaves ∙ sym (ap (assembly_at addressed) ((one_step_of (iso_rules addressed) (lawful addressed)).prefix h x)))

  completed_law : (h : List IsoPiece) (x : IsoPiece) → IsTrace addressed (x ∷ h)
      → completed_by addressed (verdict_on addressed (assembly_at addressed (open_at (iso_rules addressed) h x.moment)) x) x (assembly_at addressed (open_at (iso_rules addressed) h x.moment)) ≡ message_of (run_of (iso_rules addressed) (x ∷ h))
  completed_law h x trace =
      ap (λ v. completed_by addressed v x (assembly_at addressed (open_at (iso_rules addressed) h x.moment))) (told_law h x trace.1)
      ∙ ((leaves_law h x trace).completes ∙ sym (ap message_of ((one_step_of (iso_rules addressed) (lawful addressed)).whole h x)))

  replies_law : (h : List IsoPiece) (x : IsoPiece) → IsTrace addressed (x ∷ h) → (x.admitted ≡ false → open_at (iso_rules addressed) h x.moment ≡ None)
      → reply_by addressed (verdict_on addressed (assembly_at addressed (open_at (iso_rules addressed) h x.moment)) x) ≡ reply_to addressed (open_at (iso_rules addressed) h x.moment) x
  replies_law h x trace admits =
      ap (reply_by addressed) (told_law h x trace.1) ∙ replied addressed (open_at (iso_rules addressed) h x.moment) x _ (standing_by addressed h x.moment _ trace.1 refl) trace.0 admits refl

  all_law : (h : List IsoPiece) → IsTrace addressed h → assembly_after addressed h ≡ assembly_at addressed (open_of (iso_rules addressed) h)
  unfolding entry_after
  all_law [] trace = refl
  all_law (x ∷ h) trace =
      let before : left_at (assembly_after addressed h) x.moment ≡ assembly_at addressed (open_at (iso_rules addressed) h x.moment) =
      ap (λ a. left_at a x.moment) (all_law h trace.1) ∙ later_is addressed (open_of (iso_rules addressed) h) x.moment in
      ap (λ o. left_by addressed (verdict_on addressed o x) x o) before ∙ left_law h x trace

  pub follows_runs : FollowsRuns addressed
  follows_runs = record {
    run_verdict = told_law;
    replies = replies_law;
    left = left_law;
    completed = completed_law;
    later = λ h m. later_is addressed (open_of (iso_rules addressed) h) m;
    all = all_law;
  }

  -- a message has the size that its opener announced
  whole_length : (y : IsoPiece) (ys : List IsoPiece) → IsSoFar addressed (y ∷ ys) → (length (y ∷ ys) == need_of (opener_of y ys)) ≡ true → length (payload (y ∷ ys)) ≡ (session_of (y ∷ ys)).size
  whole_length y [] far whole =
      let opened = opened_from addressed y.bytes (and_parts _ _ far).1 in
      let least = opened.least in
      let one : 1 ≡ need_of y = eqb-true 1 (need_of y) whole in
      absurd (omega (arith, least, one))
  whole_length y (z ∷ zs) far whole =
      let n = next_facts z zs y far.0 in
      let f = facts_of addressed z zs far.2 in
      let before = f.joined_length n.fewer in
      let least = f.opened.least in
      let all = eqb-true _ _ whole in
      omega (arith, before, length-append (joined (size_of z zs) (z ∷ zs)) (part_of (left_of_run (z ∷ zs)) y.bytes), length-take (min 7 (left_of_run (z ∷ zs))) (drop 1 y.bytes), length-drop 1 y.bytes, n.enough, all, least)

  has_size : (acc : List IsoPiece) → IsSoFar addressed acc → is_whole (iso_rules addressed) acc ≡ true → length (payload acc) ≡ (session_of acc).size
  has_size [] far whole = absurd far
  has_size (y ∷ ys) far whole = whole_length y ys far whole

  pub sizes : HasItsSize addressed
  sizes h acc trace is =
      let r = (one_suffix_of (iso_rules addressed) (lawful addressed)).is_run h acc is in
      let front = all_front (IsOfTrace addressed) (since_opener (iso_rules addressed) h) r.older (subst (AllByRecursion (IsOfTrace addressed)) r.suffix trace) in
      has_size acc (so_far addressed (since_opener (iso_rules addressed) h) acc front r.prefix) r.whole
