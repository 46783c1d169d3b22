-- How much an entry emits at most.
use Rattle.std.proofs.Common.{◌≡◌, ℕ, suc, ◌+◌, ◌*◌, ◌≤◌, Bool, true, false, ◌&&◌, List, [], ◌∷◌, ◌++◌, length, length-append, refl, ap, arith}
use Rattle.std.specs.Prelude.{Option, filter, if◌then◌else◌}
use Rattle.std.specs.List.{flat_map}
use Rattle.std.proofs.lemmas.Bool.{and_parts, false≢true}
use Rattle.n2k_id.specs.Frame.{BusFrame}
use Rattle.report_rules.specs.Rules as rules
use Rattle.claim_table.specs.declared.answer.ClaimStep.{ClaimStep}
use Rattle.claim_table.specs.declared.answer.OwnAnswer.{OwnAnswer}
use Rattle.readings.specs.declared.reading.Reading.{Reading}
use Rattle.pgn_profile.specs.Profiled.{kind_of}
use Rattle.pgn_profile.specs.declared.kinds.Kind.{Kind}
use Rattle.fast_packet.specs.declared.key.FastKey.{FastKey}
use Rattle.iso_transport.specs.declared.key.IsoKey.{IsoKey}
use Rattle.iso_transport.specs.declared.reply.Reply.{Reply}
use Rattle.gate_events.specs.declared.emit.Report.{Report}
use Rattle.history.specs.AddressLaws.{IsReceiver}
use Rattle.history.specs.Entries.{History, IsHistory, now, frame, tick, command}
use Rattle.history.specs.Settings.{Settings, receiver_of}
use Rattle.history.specs.Known.{Known, known}
use Rattle.fast_packet.specs.FastRuns.{FastPiece}
use Rattle.iso_transport.specs.IsoRuns.{IsoPiece}
use Rattle.history.specs.Meanings.{Meaning}
use Rattle.history.specs.Messages.{Message}
use Rattle.history.specs.Traces.{NotedFrame}
use Rattle.history.specs.Opens.{fast_keys, iso_keys, open_fast_keys, open_iso_keys, notes_of}
use Rattle.history.specs.Heard.{Taken, open_groups}
use Rattle.gate_events.specs.Emit.{Emit}
use Rattle.history.specs.Emits.{Rule, broken_of, of_source, reported, replied, Spoken}
use Rattle.history.specs.Endings.{fast_ended, iso_ended, session_pgn, abort_reply, fast_expired, iso_expired, groups_expired, fast_lost, iso_lost, lost_at, side}
use Rattle.history.specs.BusRules.{table_of}
use Rattle.history.specs.FromBus.{own_answer, step_gives, said_in, frame_refused, answers_by}
use Rattle.history.specs.Gate.{expired, out}
use Rattle.history.specs.FitLaws.{room_of, AllEntriesFit}
use Rattle.history.proofs.Receivers.{gateways_receive}
use Rattle.history.proofs.FastLimits.{fast_within_limit}
use Rattle.history.proofs.IsoLimits.{iso_within_limit}
use Rattle.history.proofs.GroupLimits.{groups_within_limit}

-- ---- lists

pub fewer_pass : {K : Type 0} (p q : K → Bool) → ((x : K) → p x ≡ true → q x ≡ true) → (ks : List K) → length (filter p ks) ≤ length (filter q ks)
fewer_pass p q so [] = omega arith
fewer_pass p q so (k ∷ ks) = grind (arith, fewer_pass p q so ks, false≢true)

flat_once : {A : Type 0} (f : A → List Emit) → ((x : A) → length (f x) ≤ 1) → (xs : List A) → length (flat_map f xs) ≤ length xs
flat_once f each [] = omega arith
flat_once f each (x ∷ xs) = rw (length-append (f x) (flat_map f xs)) (omega (arith, each x, flat_once f each xs))

flat_twice : {A : Type 0} (f : A → List Emit) → ((x : A) → length (f x) ≤ 2) → (xs : List A) → length (flat_map f xs) ≤ 2 * length xs
flat_twice f each [] = omega arith
flat_twice f each (x ∷ xs) = rw (length-append (f x) (flat_map f xs)) (omega (arith, each x, flat_twice f each xs))

pub reported_length : (rs : List Report) → length (reported rs) ≡ length rs
reported_length [] = refl
reported_length (r ∷ rs) = ap suc (reported_length rs)

pub broken_length : (table : List Rule) → length (broken_of table) ≤ length table
broken_length [] = omega arith
broken_length (x ∷ table) = grind (arith, broken_length table)

reply_length : (own : Option ℕ) (to : ℕ) (o : Option Reply) → length (replied own to o) ≤ 1
reply_length own to o = grind arith

if_length : (b : Bool) (x y : List Emit) (n : ℕ) → length x ≤ n → length y ≤ n → length (if b then x else y) ≤ n
if_length b x y n ex ey = grind arith

pub two_lengths : (a b : List Emit) (n o : ℕ) → length a ≤ n → length b ≤ o → length (a ++ b) ≤ n + o
two_lengths a b n o ea eb = rw (length-append a b) (omega (arith, ea, eb))

-- ---- what ends

-- no table of rules has more than eight
table_length : (name : ℕ) (n : NotedFrame) (frames : Option (List FastPiece)) (packets : Option (List IsoPiece)) (message : Option Message) (meaning : Meaning)
    → length (table_of name n frames packets message meaning) ≤ 8
table_length name n frames packets message meaning = grind arith

module _ (k after : Known) (notes : List NotedFrame) (m n : ℕ) where
  fast_few : (kinds : ℕ → Kind) (is_meant : FastKey → Bool) → length (filter (λ key. is_meant key && fast_ended (side k m) (side after n) notes key) (fast_keys kinds notes)) ≤ length (open_fast_keys kinds k.claims.holders notes m)
  fast_few kinds is_meant = grind (arith, fewer_pass, and_parts)

  iso_few : (is_meant : IsoKey → Bool) → length (filter (λ key. is_meant key && iso_ended (side k m) (side after n) notes key) (iso_keys notes)) ≤ length (open_iso_keys k notes m)
  iso_few is_meant = grind (arith, fewer_pass, and_parts)

module _ (k : Known) (notes : List NotedFrame) (earlier m : ℕ) where
  fast_expired_length : (kinds : ℕ → Kind) → length (fast_expired (side k earlier) (side k m) notes kinds) ≤ length (open_fast_keys kinds k.claims.holders notes earlier)
  fast_expired_length kinds =
      let one = flat_once (λ (key : FastKey). of_source rules.expired key.source key.pgn ∷ []) (λ key. omega arith) (filter (fast_ended (side k earlier) (side k m) notes) (fast_keys kinds notes)) in
      let few = fast_few k k notes earlier m kinds (λ key. true) in
      omega (arith, one, few)

  abbrev ends : IsoKey → List Emit
  ends key = of_source rules.expired key.source (session_pgn (side k earlier) notes key) ∷ replied k.claims.own key.source (abort_reply key.addressed (session_pgn (side k earlier) notes key))

  iso_expired_length : length (iso_expired (side k earlier) (side k m) notes) ≤ 2 * length (open_iso_keys k notes earlier)
  iso_expired_length =
      let two = flat_twice ends (λ key. let more = reply_length k.claims.own key.source (abort_reply key.addressed (session_pgn (side k earlier) notes key)) in omega (arith, more)) (filter (iso_ended (side k earlier) (side k m) notes) (iso_keys notes)) in
      let few = iso_few k k notes earlier m (λ key. true) in
      omega (arith, two, few)

groups_expired_length : (lines : List Taken) (earlier m : ℕ) → length (groups_expired lines earlier m) ≤ length (open_groups lines earlier)
groups_expired_length lines earlier m = grind (arith, flat_once, fewer_pass, and_parts)

module _ (k after : Known) (notes : List NotedFrame) (m : ℕ) where
  iso_lost_length : (is_meant : IsoKey → Bool) → length (iso_lost (side k m) (side after m) notes is_meant) ≤ length (open_iso_keys k notes m)
  iso_lost_length is_meant =
      let one = flat_once (λ (key : IsoKey). of_source rules.claim_lost key.source (session_pgn (side k m) notes key) ∷ []) (λ key. omega arith)
      (filter (λ key. is_meant key && iso_ended (side k m) (side after m) notes key) (iso_keys notes)) in
      let few = iso_few k after notes m m is_meant in
      omega (arith, one, few)

  fast_lost_length : (kinds : ℕ → Kind) (is_meant : FastKey → Bool) → length (fast_lost (side k m) (side after m) notes kinds is_meant) ≤ length (open_fast_keys kinds k.claims.holders notes m)
  fast_lost_length kinds is_meant =
      let one = flat_once (λ (key : FastKey). of_source rules.claim_lost key.source key.pgn ∷ []) (λ key. omega arith)
      (filter (λ key. is_meant key && fast_ended (side k m) (side after m) notes key) (fast_keys kinds notes)) in
      let few = fast_few k after notes m m kinds is_meant in
      omega (arith, one, few)

  lost_length : (kinds : ℕ → Kind) (a : Option ℕ) → length (lost_at (side k m) (side after m) notes kinds a) ≤ length (open_fast_keys kinds k.claims.holders notes m) + length (open_iso_keys k notes m)
  lost_length kinds a = grind (arith, two_lengths, fast_lost_length, iso_lost_length)

-- ---- what a frame and a command give

own_length : (name : ℕ) (answer : OwnAnswer) (own : Option ℕ) → length (own_answer name answer own) ≤ 1
own_length name answer own = grind arith

said_length : (c : Settings) (before : List Spoken) (o : Option Reading) → length (said_in c before o) ≤ 1
said_length c before o = grind arith

step_length : (kinds : ℕ → Kind) (name : ℕ) (k after : Known) (notes : List NotedFrame) (m fast iso : ℕ) (step : ClaimStep) → length (open_fast_keys kinds k.claims.holders notes m) ≤ fast
    → length (open_iso_keys k notes m) ≤ iso → length (step_gives kinds name k after notes m step) ≤ 2 * fast + 3 * iso + 1
step_length kinds name k after notes m fast iso step few_fast few_iso = grind (arith, few_fast, few_iso, lost_length, iso_lost_length, own_length, two_lengths)

module _ (c : Settings) (s : ℕ) (h : History) (m : ℕ) (are : IsReceiver (receiver_of c)) (is : IsHistory h) (le : now h ≤ m) where
  abbrev r_known : Known
  r_known = known (receiver_of c) s h

  abbrev r_notes : List NotedFrame
  r_notes = notes_of (receiver_of c) s h

  few_fast : length (open_fast_keys kind_of r_known.claims.holders r_notes m) ≤ c.fast_slots
  few_fast = fast_within_limit (receiver_of c) s h m are is le

  few_iso : length (open_iso_keys r_known r_notes m) ≤ c.iso_slots
  few_iso = iso_within_limit (receiver_of c) s h m are is le

  expired_length : length (expired c s h m) ≤ room_of c
  expired_length = grind (arith, fast_expired_length, iso_expired_length, groups_expired_length, fast_within_limit, iso_within_limit, groups_within_limit, two_lengths)

  answers_length : (f : BusFrame) (meaning : Meaning) → length (answers_by (receiver_of c) s h m f meaning) ≤ 2 * c.fast_slots + 3 * c.iso_slots + 1
  answers_length f meaning = grind (arith, if_length, step_length, few_fast, few_iso, reply_length)

  refused_length : (f : BusFrame) → length (reported (frame_refused (receiver_of c) s h m f)) ≤ 8
  refused_length f = grind (arith, reported_length, broken_length, table_length)

  frame_length : (f : BusFrame) → length (out c s h (frame m f)) ≤ room_of c + (2 * c.fast_slots + 3 * c.iso_slots) + 20
  frame_length f = grind (arith, two_lengths, refused_length, answers_length, said_length, expired_length)

  command_length : (source address : ℕ) → length (out c s h (command m source address)) ≤ room_of c + c.iso_slots + 2
  command_length source address = grind (arith, reported_length, broken_length, iso_lost_length, two_lengths, few_iso, if_length, expired_length)

  tick_length : length (out c s h (tick m)) ≤ room_of c
  tick_length = let whole = two_lengths (expired c s h m) [] (room_of c) 0 expired_length (omega arith) in omega (arith, whole)

pub all_entries_fit : AllEntriesFit
all_entries_fit c s h m are is le =
    let able = gateways_receive c are in
    record {
      by_time = expired_length c s h m able is le;
      at_tick = tick_length c s h m able is le;
      at_frame = frame_length c s h m able is le;
      at_command = command_length c s h m able is le;
    }
