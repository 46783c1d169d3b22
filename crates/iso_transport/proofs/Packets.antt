-- A packet is to the session that is open what it is to the frames of its run.
use Rattle.std.specs.Cmp.Lexicographic.{pointwise}
use Rattle.std.proofs.lemmas.Bool.{and_parts, eqb-false, leb-true, leb-false, ltb-true, ltb-false, eqb-true, ne_eqb, lt-ltb, le-ltb, le-leb, lt-leb}
use Rattle.std.proofs.Common.{◌≡◌, ℕ, ◌+◌, ◌-◌, ◌%◌, ◌<◌, ◌≤◌, ◌==◌, ◌&&◌, not, nat_eq, nat_le, nat_lt, min, if◌then◌else◌, Bool, true, false, List, [], ◌∷◌, length, Option, Some, None, add-one, refl, sym, ◌∙◌, ap, arith}
use Rattle.std.proofs.Math.Bool.{and-false, and-true}
use Rattle.slot_views.specs.Runs.{is_admitted, opener_of, if_open, if_whole, kept_at}
use Rattle.slot_views.specs.RunLaws.{fed_later, finished_later}
use Rattle.slot_views.specs.Slots.{Entry, is_complete}
use Rattle.slot_views.specs.Traces.{left_at}
use Rattle.iso_transport.specs.declared.answers.IsoRefusal.TheVariants as refusal
use Rattle.iso_transport.specs.declared.session.Session.{Session}
use Rattle.iso_transport.specs.declared.verdict.Verdict.{Verdict}
use Rattle.iso_transport.specs.declared.verdict.Verdict.TheVariants.{Again, Ends, Next}
use Rattle.iso_transport.specs.AbortReasons.{resources_needed}
use Rattle.iso_transport.specs.Sessions.{reply_after, abort_to}
use Rattle.iso_transport.specs.IsoRuns.{packets_of, gap_after, IsoPiece, number_of, end_of, session_of, need_of, is_next, is_repeat, iso_rules, payload, pgn_of, left_of_run}
use Rattle.iso_transport.specs.Answers.{reply_by}
use Rattle.iso_transport.specs.Verdicts.{session_in, left_of, is_again, packet_verdict}
use Rattle.iso_transport.specs.Assembly.{extended}
use Rattle.iso_transport.specs.RunVerdicts.{Message, packet_run_verdict, message_of, left_by, completed_by, assembly_of, assembly_at}
use Rattle.iso_transport.specs.Replies.{reply_to_next, reply_to_packet}
use Rattle.iso_transport.proofs.Sessions.{session_kept}
use Rattle.iso_transport.proofs.Prefixes.{size_of, entry, next_facts, Facts}

-- ---- the session at a later moment

kept_by : (m last gap : ℕ) (timely : Bool) → nat_le m (last + gap) ≡ timely → nat_lt gap (m - last) ≡ not timely
kept_by m last gap true timely = let reach = leb-true m (last + gap) timely in le-ltb gap (m - last) (omega (arith, reach))
kept_by m last gap false late = let past = leb-false m (last + gap) late in lt-ltb gap (m - last) (omega (arith, past))

module _ (addressed : Bool) where
  later_by : (y : IsoPiece) (ys : List IsoPiece) (m : ℕ) (timely : Bool) → nat_le m (y.moment + gap_after addressed (session_of (y ∷ ys)) (length (y ∷ ys) - 1)) ≡ timely
      → left_at (assembly_of addressed (y ∷ ys)) m ≡ assembly_at addressed (kept_at (iso_rules addressed) (Some (y ∷ ys)) m)
  later_by y ys m true timely = simp (timely, kept_by m y.moment (gap_after addressed (session_of (y ∷ ys)) (length (y ∷ ys) - 1)) true timely)
  later_by y ys m false late = simp (late, kept_by m y.moment (gap_after addressed (session_of (y ∷ ys)) (length (y ∷ ys) - 1)) false late)

  pub later_is : (o : Option (List IsoPiece)) (m : ℕ) → left_at (assembly_at addressed o) m ≡ assembly_at addressed (kept_at (iso_rules addressed) o m)
  later_is None m = refl
  later_is (Some []) m = refl
  later_is (Some (y ∷ ys)) m = later_by y ys m _ refl

-- ---- what is told after a packet that isn't beyond the last

reply_by_tests : (s : Session) (n : ℕ) (last multiple : Bool) → (n == packets_of s.size) ≡ last → (n % s.window == 0) ≡ multiple → nat_lt n (packets_of s.size) ≡ not last → reply_after true s n ≡ reply_to_next s n
reply_by_tests s n true m last multiple before = simp (last, multiple, before, and-false)
reply_by_tests s n false true last multiple before = simp (last, multiple, before)
reply_by_tests s n false false last multiple before = simp (last, multiple, before)

before_last : (n packets : ℕ) (last : Bool) → n ≤ packets → (n == packets) ≡ last → nat_lt n packets ≡ not last
before_last n packets true most is = let same = eqb-true n packets is in le-ltb n packets (omega arith)
before_last n packets false most is = let other = eqb-false n packets is in lt-ltb n packets (omega (arith, other))

reply_is : (s : Session) (n : ℕ) → n ≤ packets_of s.size → reply_after true s n ≡ reply_to_next s n
reply_is s n most = reply_by_tests s n _ _ refl refl (before_last n (packets_of s.size) _ most refl)

-- ---- a packet, where a session is open

-- what it is, by the session, the bytes left and the tests of a repeat and of the number
abbrev by_tests : Bool → Session → ℕ → Bool → Bool → List ℕ → Verdict
by_tests addressed s left again number bytes =
    if nat_lt (length bytes) (end_of left) then Ends refusal.Size (abort_to addressed resources_needed s.pgn)
    else if again then Again
    else if number then Next s (number_of bytes) (end_of left)
    else Ends refusal.Order (abort_to addressed resources_needed s.pgn)

tests_same : (addressed number : Bool) (bytes : List ℕ) (s t : Session) (i j : ℕ) (a b : Bool) → s ≡ t → i ≡ j → a ≡ b → by_tests addressed s i a number bytes ≡ by_tests addressed t j b number bytes
tests_same addressed number bytes s t i j a b e f g = rw (e, f, g) refl

-- equal byte by byte
same_bytes : (a b : List ℕ) → pointwise nat_eq a b ≡ true → a ≡ b
same_bytes [] [] same = refl
same_bytes [] (b ∷ bs) same = cc
same_bytes (a ∷ as_) [] same = cc
same_bytes (a ∷ as_) (b ∷ bs) same =
    let parts = and_parts _ _ same in
    let head : a ≡ b = eqb-true a b parts.0 in
    let tail = same_bytes as_ bs parts.1 in
    cc

module _ (addressed : Bool) (y : IsoPiece) (ys : List IsoPiece) (x : IsoPiece) (f : Facts addressed y ys) (more : length (y ∷ ys) < need_of (opener_of y ys)) (packet : x.packet ≡ true) where
  -- where what the packet owes ends in it, what it is as the next one, and the session with it then
  abbrev end : ℕ
  end = end_of (left_of_run (y ∷ ys))

  abbrev next_packet : Verdict
  next_packet = Next (session_of (y ∷ ys)) (number_of x.bytes) end

  abbrev with_it : Entry
  with_it = extended addressed (session_of (y ∷ ys)) (number_of x.bytes) end x.bytes x.moment (entry addressed y ys)

  -- ---- the tests of the session are those of the frames
  session_is : session_in (entry addressed y ys) ≡ session_of (y ∷ ys)
  session_is = session_kept (session_of (y ∷ ys)) f.opened

  left_is : left_of (entry addressed y ys) ≡ left_of_run (y ∷ ys)
  left_is =
      let long = f.joined_length more in
      let size : (session_in (entry addressed y ys)).size ≡ size_of y ys = ap (λ (s : Session). s.size) session_is in
      omega (arith, long, size)

  again_by : (two : Bool) → nat_le 2 (length (y ∷ ys)) ≡ two → is_again (entry addressed y ys) x.bytes ≡ is_repeat (y ∷ ys) x
  again_by false two = simp (two, packet, and-false)
  again_by true two =
      rw packet (ap (λ l. (length x.bytes == 8) && (nat_le 2 (length (y ∷ ys)) && (nat_lt (length (y ∷ ys)) (need_of (opener_of y ys)) && pointwise nat_eq x.bytes l))) (sym (f.last_is (leb-true _ _ two) more)))

  told_by_tests : packet_verdict addressed (Some (entry addressed y ys)) x.bytes ≡ by_tests addressed (session_of (y ∷ ys)) (left_of_run (y ∷ ys)) (is_repeat (y ∷ ys) x) (number_of x.bytes == length (y ∷ ys)) x.bytes
  told_by_tests = tests_same addressed (number_of x.bytes == length (y ∷ ys)) x.bytes _ _ _ _ _ _ session_is left_is (again_by _ refl)

  -- ---- each kind of packet excludes the kinds after it: short, the last one again, the next one, any other
  short_next : nat_lt (length x.bytes) end ≡ true → is_next (y ∷ ys) x ≡ false
  short_next short =
      let few : nat_le end (length x.bytes) ≡ false = lt-leb _ _ (ltb-true _ _ short) in
      simp (few, and-false)

  short_repeat : nat_lt (length x.bytes) end ≡ true → is_repeat (y ∷ ys) x ≡ false
  short_repeat short =
      let less = ltb-true _ _ short in
      let few : (length x.bytes == 8) ≡ false = ne_eqb _ _ (λ e. omega (arith, less, e)) in
      simp (few, and-false)

  repeat_next : is_repeat (y ∷ ys) x ≡ true → is_next (y ∷ ys) x ≡ false
  repeat_next again =
      let rest = and_parts _ _ (and_parts _ _ (and_parts _ _ again).1).1 in
      let many = leb-true _ _ rest.0 in
      let last = f.last_number many in
      let same : number_of x.bytes ≡ number_of y.bytes = ap number_of (same_bytes x.bytes y.bytes (and_parts _ _ rest.1).1) in
      let other : (number_of x.bytes == length (y ∷ ys)) ≡ false = ne_eqb _ _ (λ e. omega (arith, last, same, e, many)) in
      simp (packet, other)

  next_is : nat_lt (length x.bytes) end ≡ false → is_next (y ∷ ys) x ≡ (number_of x.bytes == length (y ∷ ys))
  next_is long =
      let fewer : nat_lt (length (y ∷ ys)) (need_of (opener_of y ys)) ≡ true = lt-ltb _ _ more in
      let enough : nat_le end (length x.bytes) ≡ true = le-leb _ _ (ltb-false _ _ long) in
      rw (packet, fewer, enough) (and-true (number_of x.bytes == length (y ∷ ys)))

  -- ---- what the next packet leaves, and what it completes
  complete_is : (whole : Bool) → (length (x ∷ y ∷ ys) == need_of (opener_of y ys)) ≡ whole → is_complete with_it ≡ whole
  complete_is whole is = rw (add-one (length (y ∷ ys))) is

  module _ (next : is_next (y ∷ ys) x ≡ true) (admitted : is_admitted (iso_rules addressed) (y ∷ ys) ≡ true) where
    extended_is : Some with_it ≡ assembly_of addressed (x ∷ y ∷ ys)
    extended_is =
        let n = next_facts y ys x next in
        let count : end - 1 ≡ min 7 (left_of_run (y ∷ ys)) = omega arith in
        let past : length (x ∷ y ∷ ys) - 1 ≡ number_of x.bytes = omega (arith, n.number) in
        rw (count, add-one (length (y ∷ ys)), past) refl

    next_left : (whole : Bool) → (length (x ∷ y ∷ ys) == need_of (opener_of y ys)) ≡ whole → left_by addressed next_packet x (Some (entry addressed y ys)) ≡ assembly_at addressed (if_open (iso_rules addressed) (Some (x ∷ y ∷ ys)))
    next_left true is = let complete = complete_is true is in simp (complete, admitted, is)
    next_left false is =
        let open_still : assembly_at addressed (if_open (iso_rules addressed) (Some (x ∷ y ∷ ys))) ≡ assembly_of addressed (x ∷ y ∷ ys) = simp (admitted, is) in
        (rw (complete_is false is) extended_is) ∙ sym open_still

    next_completed : (whole : Bool) → (length (x ∷ y ∷ ys) == need_of (opener_of y ys)) ≡ whole → completed_by addressed next_packet x (Some (entry addressed y ys)) ≡ message_of (if_whole (iso_rules addressed) (Some (x ∷ y ∷ ys)))
    next_completed false is = let complete = complete_is false is in simp (complete, admitted, is)
    next_completed true is =
        let message : List ℕ → Option Message = λ bytes. Some (record { pgn = pgn_of (y ∷ ys); bytes = bytes }) in
        let count : end - 1 ≡ min 7 (left_of_run (y ∷ ys)) = omega arith in
        let bytes : with_it.bytes ≡ payload (x ∷ y ∷ ys) = rw count refl in
        let whole : message_of (if_whole (iso_rules addressed) (Some (x ∷ y ∷ ys))) ≡ message (payload (x ∷ y ∷ ys)) = simp (admitted, is) in
        (rw (complete_is true is) (ap message bytes)) ∙ sym whole

  -- ---- so the session follows the run
  pub record PacketFollows : Type 0 where
    pub told : packet_verdict addressed (Some (entry addressed y ys)) x.bytes ≡ packet_run_verdict addressed (Some (y ∷ ys)) x
    pub left : left_by addressed (packet_run_verdict addressed (Some (y ∷ ys)) x) x (Some (entry addressed y ys)) ≡ assembly_at addressed (fed_later (iso_rules addressed) (Some (y ∷ ys)) x)
    pub completed : completed_by addressed (packet_run_verdict addressed (Some (y ∷ ys)) x) x (Some (entry addressed y ys)) ≡ message_of (finished_later (iso_rules addressed) (Some (y ∷ ys)) x)
    pub replied : reply_by true (packet_run_verdict true (Some (y ∷ ys)) x) ≡ reply_to_packet (Some (y ∷ ys)) x

  module _ (admitted : is_admitted (iso_rules addressed) (y ∷ ys) ≡ true) where
    next_follows : nat_lt (length x.bytes) end ≡ false → is_repeat (y ∷ ys) x ≡ false → (number_of x.bytes == length (y ∷ ys)) ≡ true → PacketFollows
    next_follows long new number =
        let next = next_is long ∙ number in
        let told : (a : Bool) → packet_run_verdict a (Some (y ∷ ys)) x ≡ next_packet = λ a. simp (long, new, next) in
        let tests : by_tests addressed (session_of (y ∷ ys)) (left_of_run (y ∷ ys)) (is_repeat (y ∷ ys) x) (number_of x.bytes == length (y ∷ ys)) x.bytes ≡ next_packet = simp (long, new, number) in
        let fed : fed_later (iso_rules addressed) (Some (y ∷ ys)) x ≡ if_open (iso_rules addressed) (Some (x ∷ y ∷ ys)) = rw next refl in
        let finished : finished_later (iso_rules addressed) (Some (y ∷ ys)) x ≡ if_whole (iso_rules addressed) (Some (x ∷ y ∷ ys)) = rw next refl in
        let reply : reply_to_packet (Some (y ∷ ys)) x ≡ reply_to_next (session_of (y ∷ ys)) (number_of x.bytes) = rw next refl in
        let is = eqb-true _ _ number in
        let few : number_of x.bytes ≤ packets_of (size_of y ys) = omega (arith, is, more) in
        record {
          told = told_by_tests ∙ (tests ∙ sym (told addressed));
          left = ap (λ v. left_by addressed v x (Some (entry addressed y ys))) (told addressed) ∙ (next_left next admitted _ refl ∙ ap (assembly_at addressed) (sym fed));
          completed = ap (λ v. completed_by addressed v x (Some (entry addressed y ys))) (told addressed) ∙ (next_completed next admitted _ refl ∙ ap message_of (sym finished));
          replied = ap (reply_by true) (told true) ∙ (reply_is (session_of (y ∷ ys)) (number_of x.bytes) few ∙ sym reply);
        }

    follows_by : (short again number : Bool) → nat_lt (length x.bytes) end ≡ short → is_repeat (y ∷ ys) x ≡ again → (number_of x.bytes == length (y ∷ ys)) ≡ number → PacketFollows
    follows_by true again number es er en =
        let repeat = short_repeat es in
        let next = short_next es in
        record { told = told_by_tests ∙ simp es; left = simp (es, next, repeat); completed = simp (es, next); replied = simp (es, next, repeat) }
    follows_by false true number es er en =
        let next = repeat_next er in
        record { told = told_by_tests ∙ simp (es, er); left = simp (es, er, next); completed = simp (es, er, next); replied = simp (es, er, next) }
    follows_by false false true es er en = next_follows es er en
    follows_by false false false es er en =
        let next = next_is es ∙ en in
        record { told = told_by_tests ∙ simp (es, er, en, packet); left = simp (es, er, next); completed = simp (es, er, next); replied = simp (es, er, next) }

    pub packet_follows : PacketFollows
    packet_follows = follows_by _ _ _ refl refl refl
