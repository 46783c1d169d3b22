-- The sessions of all keys are those of each key's own frames, and each frame is answered as those say.
use Rattle.std.proofs.Common.{◌≡◌, ℕ, ◌≤◌, ◌&&◌, not, nat_lt, if◌then◌else◌, Bool, true, false, List, [], ◌∷◌, length, Option, Some, None, is_some, option_map, refl, sym, ◌∙◌, ap, subst}
use Rattle.std.proofs.lemmas.Bool.{eq-eqb}
use Rattle.std.specs.List.{AllByRecursion, filter, list_any}
use Rattle.std.specs.Cmp.{IsTotalOrder}
use Rattle.std.specs.BTreeMap.{is_at}
use Rattle.std.specs.declared.cmp.Ordering.{Ordering}
use Rattle.slot_views.specs.Runs.{open_at, run_of}
use Rattle.slot_views.specs.RunLaws.{fed}
use Rattle.slot_views.proofs.RunSteps.{one_step_of}
use Rattle.slot_views.specs.Slots.{Entry, SlotMap, IsOrdered, IsMap, Changes, is_full, entry_at, released, begun_after, grown_after}
use Rattle.slot_views.specs.Traces.{Filling, left_at, entry_after, if_incomplete, grown_entry, unexpired, now_of, pieces_at, keys_in, other_open_keys as other_open_entries, open_keys as open_entries, IsNoted as AreNoted, IsStep, map_after}
use Rattle.slot_views.proofs.Keeping.{Keeps, same_keeps, released_keeps, released_here, begun_keeps, begun_here, grown_keeps, grown_here}
use Rattle.slot_views.proofs.Traces.{joined, joined_before, noted_room}
use Rattle.n2k_id.specs.declared.identifier_parts.Parts.{Parts}
use Rattle.iso_transport.specs.declared.key.IsoKey.{IsoKey}
use Rattle.iso_transport.specs.declared.answers.IsoFed.{IsoFed}
use Rattle.iso_transport.specs.declared.answers.IsoOutcome.{IsoOutcome}
use Rattle.iso_transport.specs.declared.answers.IsoOutcome.TheVariants as became
use Rattle.iso_transport.specs.declared.answers.IsoRefusal.TheVariants as refusal
use Rattle.iso_transport.specs.declared.connection.Cm.{Cm}
use Rattle.iso_transport.specs.declared.connection.Cm.TheVariants.{Rts, Cts, EndAck, Bam, Abort}
use Rattle.iso_transport.specs.declared.session.Session.{Session}
use Rattle.iso_transport.specs.declared.verdict.Verdict.{Verdict}
use Rattle.iso_transport.specs.declared.verdict.Verdict.TheVariants.{Ignored, Again, Refused, Ends, Opens, Next}
use Rattle.iso_transport.specs.Connection.{cm_of}
use Rattle.iso_transport.specs.AbortReasons.{resources_needed}
use Rattle.iso_transport.specs.Sessions.{abort_to}
use Rattle.iso_transport.specs.IsoRuns.{is_size, opens, announced, gap_after, IsoPiece, number_of, end_of, session_of, is_next, is_repeat, iso_rules, pgn_of, left_of_run}
use Rattle.iso_transport.specs.Audience.{key_of, is_data}
use Rattle.iso_transport.specs.Verdicts.{concerns, VerdictFits, opener_verdict, abort_verdict, kind_verdict, frame_verdict}
use Rattle.iso_transport.specs.Assembly.{opening, extended, part_to, is_crowded, fed_by, verdict_of, fed_after}
use Rattle.iso_transport.specs.Answers.{restarted_by, reply_by, NextGives, OutcomeBy, FeedGives}
use Rattle.iso_transport.specs.RunVerdicts.{Message, packet_run_verdict, run_verdict, message_of, verdict_on, extended_by, left_by, completed_by, completed_with, assembly_at}
use Rattle.iso_transport.specs.Laws.{IsOfTrace, IsTrace, assembly_after}
use Rattle.iso_transport.specs.Joining.{StepsWithRuns}
use Rattle.iso_transport.specs.Keys.{is_open_at, given_up, OutcomeIs, AnswerIs, open_keys, other_open_keys, IsNoted, sessions_after, AreFed, sessions, AllFollow, AllAnswered}
use Rattle.iso_transport.proofs.Verdicts.{full_where}
use Rattle.iso_transport.proofs.Lawful.{lawful}
use Rattle.iso_transport.proofs.Joining.{frame_same, frame_fits, concerned, changed}
use Rattle.iso_transport.proofs.Following.{told_is, told_packet, Standing, standing_by, follows_runs}

-- ---- a frame, with whether its key is one of messages to this node: what slots promise of many keys speaks of pieces that say by
-- themselves what they do to a session
pub record Kinded : Type 0 where
  pub addressed : Bool
  pub piece : IsoPiece

abbrev of_kind : Bool → IsoPiece → Kinded
of_kind a x = record { addressed = a; piece = x }

abbrev all_of_kind : Bool → List IsoPiece → List Kinded
all_of_kind a [] = []
all_of_kind a (x ∷ p) = of_kind a x ∷ all_of_kind a p

abbrev kinded : List (IsoKey × IsoPiece) → List (IsoKey × Kinded)
kinded [] = []
kinded (n ∷ h) = (n.0, of_kind n.0.addressed n.1) ∷ kinded h

-- such frames fill sessions
abbrev filling : Filling Kinded
filling = record { moment = λ x. x.piece.moment; admitted = λ x. x.piece.admitted; step = λ o x. left_by x.addressed (verdict_on x.addressed o x.piece) x.piece o }

-- the sessions after one of them, by what it is
module _ (cmp : IsoKey → IsoKey → Ordering) where
  abbrev fed_with : SlotMap IsoKey → IsoKey → Kinded → Verdict → SlotMap IsoKey
  fed_with s k x Ignored = s
  fed_with s k x Again = s
  fed_with s k x (Refused reason reply) = s
  fed_with s k x (Ends reason reply) = released cmp s k
  fed_with s k x (Opens session old) = begun_after cmp s k (opening x.addressed session x.piece.moment)
  fed_with s k x (Next session number end) = grown_after cmp s k number (part_to end x.piece.bytes) x.piece.moment (gap_after x.addressed session number)

  abbrev fed_kinded : SlotMap IsoKey → IsoKey → Kinded → SlotMap IsoKey
  fed_kinded s k x = fed_with s k x (frame_verdict x.addressed (is_crowded s) (entry_at cmp s k) x.piece.packet x.piece.bytes)

  fed_same : (s : SlotMap IsoKey) (k : IsoKey) (x : IsoPiece) (v : Verdict) → fed_with s k (of_kind k.addressed x) v ≡ fed_by cmp s k x.bytes x.moment v
  fed_same s k x Ignored = refl
  fed_same s k x Again = refl
  fed_same s k x (Refused reason reply) = refl
  fed_same s k x (Ends reason reply) = refl
  fed_same s k x (Opens session old) = refl
  fed_same s k x (Next session number end) = refl

-- one frame does to the map what it does to its key's session
module _ {cmp : IsoKey → IsoKey → Ordering} (o : IsTotalOrder cmp) where
  module _ (s : SlotMap IsoKey) (k : IsoKey) (x : Kinded) (sorted : IsOrdered cmp s.entries) where
    keeps_by : (v : Verdict) → Keeps cmp s k (fed_with cmp s k x v)
    keeps_by Ignored = same_keeps o s k sorted
    keeps_by Again = same_keeps o s k sorted
    keeps_by (Refused reason reply) = same_keeps o s k sorted
    keeps_by (Ends reason reply) = released_keeps o s k sorted
    keeps_by (Opens session old) = begun_keeps o s k sorted (opening x.addressed session x.piece.moment)
    keeps_by (Next session number end) = grown_keeps o s k sorted number (part_to end x.piece.bytes) x.piece.moment (gap_after x.addressed session number)

    keeps : Keeps cmp s k (fed_kinded cmp s k x)
    keeps = keeps_by (frame_verdict x.addressed (is_crowded s) (entry_at cmp s k) x.piece.packet x.piece.bytes)

    module _ (admitted : x.piece.admitted ≡ not (is_full cmp s k)) where
      here_by : (v : Verdict) → VerdictFits (full_where (is_crowded s) (entry_at cmp s k)) (entry_at cmp s k) x.piece.bytes v
          → entry_at cmp (fed_with cmp s k x v) k ≡ left_by x.addressed v x.piece (entry_at cmp s k)
      here_by Ignored fits = refl
      here_by Again fits = refl
      here_by (Refused reason reply) fits = refl
      here_by (Ends reason reply) fits = released_here o s k sorted
      here_by (Opens session old) fits =
          begun_here o s k sorted (opening x.addressed session x.piece.moment) ∙ ap (λ b. if b then if_incomplete (opening x.addressed session x.piece.moment) else None) (sym admitted)
      here_by (Next session number end) fits =
          let piece = part_to end x.piece.bytes in
          let gap = gap_after x.addressed session number in
          let grows : grown_entry number piece x.piece.moment gap (Some fits.entry) ≡ extended_by x.addressed session number end x.piece (Some fits.entry) =
          rw (eq-eqb fits.entry.next number (sym fits.awaited)) refl in
          grown_here o s k sorted number piece x.piece.moment gap
          ∙ (ap (grown_entry number piece x.piece.moment gap) fits.held ∙ (grows ∙ ap (extended_by x.addressed session number end x.piece) (sym fits.held)))

      is_told : frame_verdict x.addressed (is_crowded s) (entry_at cmp s k) x.piece.packet x.piece.bytes ≡ verdict_on x.addressed (entry_at cmp s k) x.piece
      is_told =
          frame_same x.addressed (is_crowded s) (entry_at cmp s k) x.piece.packet x.piece.bytes
          ∙ ap (λ b. frame_verdict x.addressed (not b) (entry_at cmp s k) x.piece.packet x.piece.bytes) (sym admitted)

      here : entry_at cmp (fed_kinded cmp s k x) k ≡ left_by x.addressed (verdict_on x.addressed (entry_at cmp s k) x.piece) x.piece (entry_at cmp s k)
      here =
          here_by (frame_verdict x.addressed (is_crowded s) (entry_at cmp s k) x.piece.packet x.piece.bytes) (frame_fits x.addressed (is_crowded s) (entry_at cmp s k) x.piece.packet x.piece.bytes)
          ∙ ap (λ v. left_by x.addressed v x.piece (entry_at cmp s k)) is_told

  step_is : IsStep cmp filling (fed_kinded cmp)
  step_is = record {
    here = λ s k x sorted admitted. here s k x sorted admitted;
    others = λ s k j x sorted other. (keeps s k x sorted).others j other;
    ordered = λ s k x sorted. (keeps s k x sorted).ordered;
    limit = λ s k x sorted. (keeps s k x sorted).limit;
    within = λ s k x sorted le. (keeps s k x sorted).within le;
  }

-- ---- what such frames make of the session of one key
entry_is : (a : Bool) (p : List IsoPiece) → entry_after filling (all_of_kind a p) ≡ assembly_after a p
unfolding entry_after
entry_is a [] = refl
entry_is a (x ∷ p) =
    let before : left_at (entry_after filling (all_of_kind a p)) x.moment ≡ left_at (assembly_after a p) x.moment =
    ap (λ e. left_at e x.moment) (entry_is a p) in
    ap (λ e. left_by a (verdict_on a e x) x e) before

left_is : (a : Bool) (p : List IsoPiece) (m : ℕ) → IsTrace a p → left_at (entry_after filling (all_of_kind a p)) m ≡ assembly_at a (open_at (iso_rules a) p m)
left_is a p m trace =
    ap (λ e. left_at e m) (entry_is a p)
    ∙ (ap (λ e. left_at e m) ((follows_runs a).all p trace) ∙ (follows_runs a).later p m)

some_same : (a : Bool) (q : Option (List IsoPiece)) → Standing a q → is_some (assembly_at a q) ≡ is_some q
some_same a None stands = refl
some_same a (Some []) stands = absurd stands
some_same a (Some (y ∷ ys)) stands = refl

some_is : (a : Bool) (p : List IsoPiece) (m : ℕ) → IsTrace a p → is_some (left_at (entry_after filling (all_of_kind a p)) m) ≡ is_some (open_at (iso_rules a) p m)
some_is a p m trace = ap is_some (left_is a p m trace) ∙ some_same a (open_at (iso_rules a) p m) (standing_by a p m _ trace refl)

-- what passes two tests that agree
filtered_same : {X : Type 0} (p q : X → Bool) → ((x : X) → p x ≡ q x) → (xs : List X) → filter p xs ≡ filter q xs
filtered_same p q same [] = refl
filtered_same p q same (x ∷ xs) = rw (same x, filtered_same p q same xs) refl

-- the frames leave a session open
abbrev leaves_open : List Kinded → ℕ → Bool
leaves_open p m = is_some (left_at (entry_after filling p) m)

module _ {cmp : IsoKey → IsoKey → Ordering} (o : IsTotalOrder cmp) (same : (k x : IsoKey) → is_at (cmp k) x ≡ true → x ≡ k) where
  trace_at : (k : IsoKey) (h : List (IsoKey × IsoPiece)) → AllByRecursion (λ n. IsOfTrace n.0.addressed n.1) h → IsTrace k.addressed (pieces_at cmp k h)
  unfolding pieces_at
  trace_at k [] valid = tt
  trace_at k (n ∷ h) valid = by (is_at (cmp k) n.0) refl (trace_at k h valid.1)
    where
      by : (b : Bool) → is_at (cmp k) n.0 ≡ b → IsTrace k.addressed (pieces_at cmp k h) → IsTrace k.addressed (pieces_at cmp k (n ∷ h))
      by true eb rest = rw eb (subst (λ (j : IsoKey). IsOfTrace j.addressed n.1) (same k n.0 eb) valid.0, rest)
      by false eb rest = rw eb rest

  pieces_are : (k : IsoKey) (h : List (IsoKey × IsoPiece)) → pieces_at cmp k (kinded h) ≡ all_of_kind k.addressed (pieces_at cmp k h)
  unfolding pieces_at
  pieces_are k [] = refl
  pieces_are k (n ∷ h) = by (is_at (cmp k) n.0) refl (pieces_are k h)
    where
      by : (b : Bool) → is_at (cmp k) n.0 ≡ b → pieces_at cmp k (kinded h) ≡ all_of_kind k.addressed (pieces_at cmp k h) → pieces_at cmp k (kinded (n ∷ h)) ≡ all_of_kind k.addressed (pieces_at cmp k (n ∷ h))
      by true eb rest =
          let first : of_kind n.0.addressed n.1 ≡ of_kind k.addressed n.1 = ap (λ (j : IsoKey). of_kind j.addressed n.1) (same k n.0 eb) in
          rw (eb, rest) (ap (λ (f : Kinded). f ∷ all_of_kind k.addressed (pieces_at cmp k h)) first)
      by false eb rest = rw eb rest

  keys_are : (h : List (IsoKey × IsoPiece)) → keys_in cmp (kinded h) ≡ keys_in cmp h
  unfolding keys_in
  keys_are [] = refl
  keys_are (n ∷ h) = ap (λ ks. if list_any (is_at (cmp n.0)) ks then ks else (n.0 ∷ ks)) (keys_are h)

  now_is : (h : List (IsoKey × IsoPiece)) → now_of (λ x. x.piece.moment) (kinded h) ≡ now_of (λ x. x.moment) h
  now_is [] = refl
  now_is (n ∷ h) = refl

  map_is : (limit : ℕ) (h : List (IsoKey × IsoPiece)) → map_after cmp filling (fed_kinded cmp) limit (kinded h) ≡ sessions_after cmp limit h
  unfolding map_after sessions_after
  map_is limit [] = refl
  map_is limit (n ∷ h) =
      let s = unexpired n.1.moment (sessions_after cmp limit h) in
      ap (λ (t : SlotMap IsoKey). fed_kinded cmp (unexpired n.1.moment t) n.0 (of_kind n.0.addressed n.1)) (map_is limit h)
      ∙ fed_same cmp s n.0 n.1 (frame_verdict n.0.addressed (is_crowded s) (entry_at cmp s n.0) n.1.packet n.1.bytes)

  -- the keys that are open
  module _ (h : List (IsoKey × IsoPiece)) (valid : AllByRecursion (λ n. IsOfTrace n.0.addressed n.1) h) (m : ℕ) where
    left_at_key : (k : IsoKey) → left_at (entry_after filling (pieces_at cmp k (kinded h))) m ≡ assembly_at k.addressed (open_at (iso_rules k.addressed) (pieces_at cmp k h) m)
    left_at_key k = ap (λ p. left_at (entry_after filling p) m) (pieces_are k h) ∙ left_is k.addressed (pieces_at cmp k h) m (trace_at k h valid)

    open_is : (k : IsoKey) → leaves_open (pieces_at cmp k (kinded h)) m ≡ is_open_at k (pieces_at cmp k h) m
    open_is k = ap (λ p. leaves_open p m) (pieces_are k h) ∙ some_is k.addressed (pieces_at cmp k h) m (trace_at k h valid)

    all_are : open_entries cmp (λ p. leaves_open p m) (kinded h) ≡ open_keys cmp h m
    all_are =
        filtered_same (λ k. leaves_open (pieces_at cmp k (kinded h)) m) (λ k. is_open_at k (pieces_at cmp k h) m) open_is (keys_in cmp (kinded h))
        ∙ ap (filter (λ k. is_open_at k (pieces_at cmp k h) m)) (keys_are h)

    others_are : (k : IsoKey) → other_open_entries cmp (λ p. leaves_open p m) k (kinded h) ≡ other_open_keys cmp k h m
    others_are k =
        filtered_same (λ j. not (is_at (cmp k) j) && leaves_open (pieces_at cmp j (kinded h)) m) (λ j. not (is_at (cmp k) j) && is_open_at j (pieces_at cmp j h) m) (λ j. ap (λ b. not (is_at (cmp k) j) && b) (open_is j)) (keys_in cmp (kinded h))
        ∙ ap (filter (λ j. not (is_at (cmp k) j) && is_open_at j (pieces_at cmp j h) m)) (keys_are h)

  noted_so : (limit : ℕ) (h : List (IsoKey × IsoPiece)) → AllByRecursion (λ n. IsOfTrace n.0.addressed n.1) h → IsNoted cmp limit h → AreNoted cmp (λ x. x.piece.moment) (λ x. x.piece.admitted) leaves_open limit (kinded h)
  unfolding IsNoted AreNoted
  noted_so limit [] valid noted = tt
  noted_so limit (n ∷ h) valid noted =
      (subst (λ t. t ≤ n.1.moment) (sym (now_is h)) noted.0, noted.1 ∙ ap (λ ks. nat_lt (length ks) limit) (sym (others_are h valid.1 n.1.moment n.0)), noted_so limit h valid.1 noted.2)

  anything : (h : List (IsoKey × IsoPiece)) → AllByRecursion (λ n. Unit {0}) (kinded h)
  anything [] = tt
  anything (n ∷ h) = (tt, anything h)

  -- ---- what is promised
  module _ (limit : ℕ) where
    pub all_follow : (h : List (IsoKey × IsoPiece)) → AreFed cmp limit h → AllFollow cmp limit h
    all_follow h fed =
        let all = joined o filling (fed_kinded cmp) (step_is o) (λ x. Unit {0}) leaves_open (λ p m fits. refl) limit fed.some (kinded h) (anything h) (noted_so limit h fed.valid fed.noted) in
        record {
          entries = λ k m le.
              ap (λ (s : SlotMap IsoKey). entry_at cmp (unexpired m s) k) (sym (map_is limit h))
              ∙ (all.entries k m (subst (λ t. t ≤ m) (sym (now_is h)) le) ∙ left_at_key h fed.valid m k);
          count = λ m le.
              ap (λ (s : SlotMap IsoKey). length (unexpired m s).entries) (sym (map_is limit h))
              ∙ (all.count m (subst (λ t. t ≤ m) (sym (now_is h)) le) ∙ ap length (all_are h fed.valid m));
        }

-- ---- the answer to one frame

-- what the message that is given up is, by what the frame says
sized_restarts : (a crowded : Bool) (pgn : Option ℕ) (s : Session) (b : Bool) → restarted_by (if b then opener_verdict a crowded pgn s else Ends refusal.Size (abort_to a resources_needed s.pgn)) ≡ (if b then pgn else None)
sized_restarts a crowded pgn s false = refl
sized_restarts a crowded (Some old) s true = refl
sized_restarts a true None s true = refl
sized_restarts a false None s true = refl

abort_restarts : (pgn : Option ℕ) → restarted_by (abort_verdict pgn) ≡ None
abort_restarts None = refl
abort_restarts (Some old) = refl

kind_restarts : (a crowded : Bool) (pgn : Option ℕ) (cm : Option Cm) → restarted_by (kind_verdict a crowded pgn cm) ≡ (if opens a cm then pgn else None)
kind_restarts a crowded pgn None = refl
kind_restarts true crowded pgn (Some (Rts size packets limit p)) = sized_restarts true crowded pgn (announced (Some (Rts size packets limit p))) (is_size size packets)
kind_restarts false crowded pgn (Some (Rts size packets limit p)) = refl
kind_restarts a crowded pgn (Some (Cts count next p)) = refl
kind_restarts a crowded pgn (Some (EndAck size packets p)) = refl
kind_restarts true crowded pgn (Some (Bam size packets p)) = refl
kind_restarts false crowded pgn (Some (Bam size packets p)) = sized_restarts false crowded pgn (announced (Some (Bam size packets p))) (is_size size packets)
kind_restarts true crowded pgn (Some (Abort why p)) = abort_restarts pgn
kind_restarts false crowded pgn (Some (Abort why p)) = refl

tests_restart : (s : Session) (left number : ℕ) (short late : Verdict) (t r n : Bool) → restarted_by short ≡ None → restarted_by late ≡ None → restarted_by (if t then short else if r then Again else if n then Next s number (end_of left) else late) ≡ None
tests_restart s left number short late true r n first last = first
tests_restart s left number short late false true n first last = refl
tests_restart s left number short late false false true first last = refl
tests_restart s left number short late false false false first last = last

packet_restarts : (a : Bool) (q : Option (List IsoPiece)) (x : IsoPiece) → restarted_by (packet_run_verdict a q x) ≡ None
packet_restarts a None x = refl
packet_restarts a (Some acc) x =
    tests_restart (session_of acc) (left_of_run acc) (number_of x.bytes) (Ends refusal.Size (abort_to a resources_needed (pgn_of acc))) (Ends refusal.Order (abort_to a resources_needed (pgn_of acc)))
    (nat_lt (length x.bytes) (end_of (left_of_run acc))) (is_repeat acc x) (is_next acc x) refl refl

restarts : (a : Bool) (q : Option (List IsoPiece)) (x : IsoPiece) → restarted_by (run_verdict a q x) ≡ given_up a q x
restarts a q x = by x.packet refl
  where
    given : x.packet ≡ false → given_up a q x ≡ (if opens a (cm_of x.bytes) then option_map pgn_of q else None)
    given other = rw other refl

    none_given : x.packet ≡ true → given_up a q x ≡ None
    none_given packet = rw packet refl

    long_by : (t : Bool) → x.packet ≡ false → nat_lt (length x.bytes) 8 ≡ t → restarted_by (run_verdict a q x) ≡ given_up a q x
    long_by true other short = rw (other, short) refl
    long_by false other long = ap restarted_by (told_is x other a q long) ∙ (kind_restarts a (not x.admitted) (option_map pgn_of q) (cm_of x.bytes) ∙ sym (given other))

    by : (b : Bool) → x.packet ≡ b → restarted_by (run_verdict a q x) ≡ given_up a q x
    by true packet = ap restarted_by (told_packet a q x packet) ∙ (packet_restarts a q x ∙ sym (none_given packet))
    by false other = long_by _ other refl

-- what became of the frame, by what it is to the session
abbrev message : ℕ → List ℕ → Message
message pgn bytes = record { pgn = pgn; bytes = bytes }

message_same : (p q : ℕ) (b c : List ℕ) → p ≡ q → b ≡ c → Some (message q c) ≡ Some (message p b)
message_same p q b c e f = rw (e, f) refl

module _ (a : Bool) (x : IsoPiece) where
  next_outcome : (o : Option Entry) (s : Session) (number end : ℕ) (out : IsoOutcome) → NextGives o s (extended a s number end x.bytes x.moment) out → OutcomeIs (Next s number end) (completed_with a s number end x o) out
  next_outcome o s number end became.Ignored gives = absurd gives
  next_outcome None s number end became.Held gives = absurd gives
  next_outcome (Some e) s number end became.Held gives = (refl, rw gives refl)
  next_outcome None s number end (became.Complete pgn view) gives = absurd gives.1
  next_outcome (Some e) s number end (became.Complete pgn view) gives =
      let (is, rest) = gives in
      let (whole, shows) = rest in
      (refl, rw whole (message_same pgn s.pgn view.bytes.now (extended a s number end x.bytes x.moment e).bytes is shows.bytes))
  next_outcome o s number end became.Repeat gives = absurd gives
  next_outcome o s number end (became.Refused reason) gives = absurd gives

  outcome_by : (o : Option Entry) (v : Verdict) (out : IsoOutcome) → OutcomeBy a o x.bytes x.moment v out → OutcomeIs v (completed_by a v x o) out
  outcome_by o Ignored out is = subst (OutcomeIs Ignored None) (sym is) (refl, refl)
  outcome_by o Again out is = subst (OutcomeIs Again None) (sym is) (refl, refl)
  outcome_by o (Refused reason reply) out is = subst (OutcomeIs (Refused reason reply) None) (sym is) (refl, refl)
  outcome_by o (Ends reason reply) out is = subst (OutcomeIs (Ends reason reply) None) (sym is) (refl, refl)
  outcome_by o (Opens s old) out is = subst (OutcomeIs (Opens s old) None) (sym is) (refl, refl)
  outcome_by o (Next s number end) out gives = next_outcome o s number end out gives

-- an opener of a key that is open is admitted, for the key doesn't count among the others
admits : (a : Bool) (q : Option (List IsoPiece)) (crowded : Bool) → Standing a q → not (not (is_some (assembly_at a q)) && crowded) ≡ false → q ≡ None
admits a None crowded stands none = refl
admits a (Some []) crowded stands none = absurd stands
admits a (Some (y ∷ ys)) crowded stands none = cc

-- the answer to one more frame of a key whose session is that of the frames p that are open
module _ {cmp : IsoKey → IsoKey → Ordering} (o : IsTotalOrder cmp) (s : SlotMap IsoKey) (own : Option ℕ) (parts : Parts) (p : List IsoPiece) (x : IsoPiece)
    (of_trace : IsTrace (key_of parts).addressed (x ∷ p)) (ours : concerns own parts ≡ true) (kind : x.packet ≡ is_data parts)
    (found : entry_at cmp s (key_of parts) ≡ assembly_at (key_of parts).addressed (open_at (iso_rules (key_of parts).addressed) p x.moment)) (admitted : x.admitted ≡ not (is_full cmp s (key_of parts))) where
  abbrev k : IsoKey
  k = key_of parts

  abbrev a : Bool
  a = (key_of parts).addressed

  abbrev q : Option (List IsoPiece)
  q = open_at (iso_rules (key_of parts).addressed) p x.moment

  stands : Standing a q
  stands = standing_by a p x.moment _ of_trace.1 refl

  none_open : x.admitted ≡ false → q ≡ None
  none_open none = admits a q (is_crowded s) stands (sym (ap (λ (e : Option Entry). not (not (is_some e) && is_crowded s)) found) ∙ (sym admitted ∙ none))

  -- the frame as the call sees it, and as the frames of its key do
  called : verdict_of cmp s own parts x.bytes ≡ frame_verdict a (is_crowded s) (entry_at cmp s k) x.packet x.bytes
  called = concerned cmp o s own parts x.bytes ours ∙ ap (λ b. frame_verdict a (is_crowded s) (entry_at cmp s k) b x.bytes) (sym kind)

  on_session : verdict_of cmp s own parts x.bytes ≡ verdict_on a (assembly_at a q) x
  on_session =
      called
      ∙ (frame_same a (is_crowded s) (entry_at cmp s k) x.packet x.bytes
      ∙ (ap (λ b. frame_verdict a (not b) (entry_at cmp s k) x.packet x.bytes) (sym admitted) ∙ ap (λ e. verdict_on a e x) found))

  is_told_so : verdict_of cmp s own parts x.bytes ≡ run_verdict a q x
  is_told_so = on_session ∙ (follows_runs a).run_verdict p x of_trace.1

  done_is : completed_by a (run_verdict a q x) x (assembly_at a q) ≡ message_of (run_of (iso_rules a) (x ∷ p))
  done_is = ap (λ v. completed_by a v x (assembly_at a q)) (sym ((follows_runs a).run_verdict p x of_trace.1)) ∙ (follows_runs a).completed p x of_trace

  answered : (fed : IsoFed) → FeedGives cmp s own parts x.bytes x.moment fed → AnswerIs a q x (message_of (run_of (iso_rules a) (x ∷ p))) fed
  answered fed gives =
      let by_session : OutcomeBy a (assembly_at a q) x.bytes x.moment (verdict_of cmp s own parts x.bytes) fed.outcome =
      subst (λ e. OutcomeBy a e x.bytes x.moment (verdict_of cmp s own parts x.bytes) fed.outcome) found gives.outcome in
      let by_frames : OutcomeBy a (assembly_at a q) x.bytes x.moment (run_verdict a q x) fed.outcome =
      subst (λ v. OutcomeBy a (assembly_at a q) x.bytes x.moment v fed.outcome) is_told_so by_session in
      record {
        restarted = gives.restarted ∙ (ap restarted_by is_told_so ∙ restarts a q x);
        reply = gives.reply ∙ (ap (reply_by a) on_session ∙ (follows_runs a).replies p x of_trace none_open);
        outcome = subst (λ d. OutcomeIs (run_verdict a q x) d fed.outcome) done_is (outcome_by a x (assembly_at a q) (run_verdict a q x) fed.outcome by_frames);
      }

  changed_so : IsMap cmp s → Changes cmp s (fed_after cmp s own parts x.bytes x.moment) k (assembly_at a (fed (iso_rules a) q x))
  changed_so map =
      let step : Changes cmp s (fed_after cmp s own parts x.bytes x.moment) k (left_by a (verdict_on a (entry_at cmp s k) x) x (entry_at cmp s k)) =
      subst (λ v. Changes cmp s (fed_by cmp s k x.bytes x.moment v) k (left_by a (verdict_on a (entry_at cmp s k) x) x (entry_at cmp s k))) (sym called) (changed cmp o s k x map admitted) in
      let leaves : left_by a (verdict_on a (entry_at cmp s k) x) x (entry_at cmp s k) ≡ assembly_at a (fed (iso_rules a) q x) =
      ap (λ e. left_by a (verdict_on a e x) x e) found ∙ ((follows_runs a).left p x of_trace ∙ ap (assembly_at a) ((one_step_of (iso_rules a) (lawful a)).prefix p x)) in
      subst (λ e. Changes cmp s (fed_after cmp s own parts x.bytes x.moment) k e) leaves step

pub steps_with_runs : {cmp : IsoKey → IsoKey → Ordering} → IsTotalOrder cmp → StepsWithRuns cmp
steps_with_runs {cmp} o = record {
  answer = λ s own parts p x fed of_trace ours kind found admitted gives.
      let a = (key_of parts).addressed in
      subst (λ d. AnswerIs (key_of parts).addressed (open_at (iso_rules (key_of parts).addressed) p x.moment) x (message_of d) fed) ((one_step_of (iso_rules a) (lawful a)).whole p x) (answered o s own parts p x of_trace ours kind found admitted fed gives);
  changes = λ s own parts p x of_trace ours kind found admitted map. changed_so o s own parts p x of_trace ours kind found admitted map;
}

module _ {cmp : IsoKey → IsoKey → Ordering} (o : IsTotalOrder cmp) (same : (k x : IsoKey) → is_at (cmp k) x ≡ true → x ≡ k) (limit : ℕ) (h : List (IsoKey × IsoPiece)) (own : Option ℕ) (parts : Parts) (x : IsoPiece)
    (fits : AreFed cmp limit ((key_of parts, x) ∷ h)) (ours : concerns own parts ≡ true) (kind : x.packet ≡ is_data parts) where
  abbrev before : List IsoPiece
  before = pieces_at cmp (key_of parts) h

  abbrev held : SlotMap IsoKey
  held = sessions cmp limit h x.moment

  noted : AreNoted cmp (λ x. x.piece.moment) (λ x. x.piece.admitted) leaves_open limit (kinded ((key_of parts, x) ∷ h))
  noted = noted_so o same limit ((key_of parts, x) ∷ h) fits.valid fits.noted

  found_held : entry_at cmp held (key_of parts) ≡ assembly_at (key_of parts).addressed (open_at (iso_rules (key_of parts).addressed) before x.moment)
  found_held =
      ap (λ (t : SlotMap IsoKey). entry_at cmp (unexpired x.moment t) (key_of parts)) (sym (map_is o same limit h))
      ∙ (joined_before o filling (fed_kinded cmp) (step_is o) (λ x. Unit {0}) leaves_open (λ p m fits. refl) limit fits.some (key_of parts, of_kind (key_of parts).addressed x) (kinded h) (anything o same ((key_of parts, x) ∷ h)) noted (key_of parts)
      ∙ left_at_key o same h fits.valid.1 x.moment (key_of parts))

  admitted_held : x.admitted ≡ not (is_full cmp held (key_of parts))
  admitted_held =
      noted_room o filling (fed_kinded cmp) (step_is o) (λ x. Unit {0}) leaves_open (λ p m fits. refl) limit fits.some (key_of parts, of_kind (key_of parts).addressed x) (kinded h) (anything o same ((key_of parts, x) ∷ h)) noted
      ∙ ap (λ (t : SlotMap IsoKey). not (is_full cmp (unexpired x.moment t) (key_of parts))) (map_is o same limit h)

  of_trace_held : IsTrace (key_of parts).addressed (x ∷ before)
  of_trace_held = (fits.valid.0, trace_at o same (key_of parts) h fits.valid.1)

  fed_so : fed_after cmp held own parts x.bytes x.moment ≡ sessions_after cmp limit ((key_of parts, x) ∷ h)
  unfolding sessions_after
  fed_so = ap (fed_by cmp held (key_of parts) x.bytes x.moment) (called o held own parts before x of_trace_held ours kind found_held admitted_held)

  pub all_answered : AllAnswered cmp limit own parts x h
  all_answered = record { after = fed_so; answer = λ fed gives. answered o held own parts before x of_trace_held ours kind found_held admitted_held fed gives }
