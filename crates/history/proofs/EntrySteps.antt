-- What an accepted event leaves, and what an entry says.
use Rattle.std.proofs.Common.{◌≡◌, ℕ, ◌<◌, ◌≤◌, ◌/◌, ◌%◌, ◌^◌, Bool, List, [], ◌∷◌, ◌++◌, map, refl, sym, ap, ◌∙◌, arith}
use Rattle.std.specs.Prelude.{Option, Some, None, Result, Ok, Err, if◌then◌else◌}
use Rattle.std.specs.List.{flat_map}
use Rattle.std.proofs.lemmas.Bool.{leb-true}
use Rattle.n2k_id.specs.declared.identifier_parts.Parts.{Parts}
use Rattle.n2k_id.specs.Frame.{BusFrame}
use Rattle.n2k_id.specs.Identifier.{has_destination, parts_at, parts_of}
use Rattle.claim_table.specs.declared.answer.ClaimStep.{ClaimStep}
use Rattle.claim_table.specs.declared.answer.Holder.{Holder}
use Rattle.claim_table.specs.declared.answer.OwnAnswer.{OwnAnswer}
use Rattle.readings.specs.declared.reading.Reading.{Reading}
use Rattle.readings.specs.Rows.{row_of}
use Rattle.pgn_profile.specs.declared.kinds.Kind.{Kind}
use Rattle.iso_transport.specs.declared.key.IsoKey.{IsoKey}
use Rattle.sentence_profile.specs.declared.fault.FieldFault.{FieldFault}
use Rattle.iso_transport.specs.declared.reply.Reply.{Reply}
use Rattle.fast_packet.specs.declared.key.FastKey.{FastKey}
use Rattle.gate_events.specs.declared.emit.Report.{Report}
use Rattle.datagram450.specs.Datagram.{Item}
use Rattle.history.specs.Entries.{Entry, History, frame, datagram, tick, command, moment_of, now, IsTimely, IsHistory}
use Rattle.history.specs.Settings.{Settings, rule_of, Receiver, receiver_of}
use Rattle.history.specs.Known.{Known, known}
use Rattle.history.specs.Meanings.{Meaning}
use Rattle.history.specs.Messages.{Message, Carried, said_by, done, messages_of}
use Rattle.history.specs.Traces.{NotedFrame}
use Rattle.history.specs.Endings.{fast_expired, iso_expired, groups_expired, fast_lost, iso_lost, lost_at, side}
use Rattle.gate_events.specs.Emit.{Emit, can, net, report}
use Rattle.history.specs.Emits.{reported, replied, own_claim}
use Rattle.history.specs.Heard.{HeardItem, Taken}
use Rattle.history.specs.NetReadings.{NetReading}
use Rattle.history.specs.FromBus.{selected_in, said_at, said_in, own_answer, step_gives, from_command, frame_refused, answers_by, meaning_at}
use Rattle.history.specs.FromNet.{sent_from, reading_gives, said_gives, handed_gives, items_give}
use Rattle.history.specs.Gate.{out, with_spoken, spoken_of, with_command, command_in, expired}
use Rattle.history.specs.EntryLaws.{IsEvent, StepsKeepHistory, nets_in, SaysOne, nothing, one, EntriesSayOne}

-- ---- a history that goes on

abbrev SourceFits : Option Message → Type 0
SourceFits None = Unit {0}
SourceFits (Some d) = d.source < 256

either : (b : Bool) (x y : Parts) (n : ℕ) → x.source ≡ n → y.source ≡ n → (if b then x else y).source ≡ n
either b x y n e f = grind arith

at_source : (priority group source : ℕ) → (parts_at priority group source).source ≡ source
unfolding parts_at
at_source priority group source = either (has_destination group) _ _ source refl refl

source_fits : (id : ℕ) → (parts_of id).source < 256
unfolding parts_of
source_fits id = let is = at_source (id / 2 ^ 26) (id / 2 ^ 8 % 2 ^ 18) (id % 2 ^ 8) in omega (arith, is)

said_fits : (index m source : ℕ) (x : Option Holder) (what : Option Carried) → source < 256 → SourceFits (said_by index m source x what)
said_fits index m source x what fits = grind arith

done_fits : (r : Receiver) (s : ℕ) (h : History) (e : Entry) → SourceFits (done r s h e)
done_fits r s h e = grind (arith, said_fits, source_fits)

module _ (c : Settings) (s : ℕ) (h : History) (e : Entry) (now_is : IsHistory (e ∷ h)) where
  ordered : (d : Option Message) → SourceFits d → IsHistory (with_command c s h e (command_in c s d (moment_of e))).after
  ordered d fits = grind arith

timely : (h : History) (e : Entry) → IsEvent e → now h ≤ moment_of e → IsTimely h e
timely h e event le = grind arith

pub steps_keep_history : StepsKeepHistory
steps_keep_history c s h e is event offered = grind (arith, timely, leb-true, ordered, done_fits)

-- ---- what is said on the network

pub nets_append : (a b : List Emit) → nets_in (a ++ b) ≡ nets_in a ++ nets_in b
nets_append [] b = refl
nets_append (net group bytes ∷ a) b = ap (λ (l : List (List ℕ × List ℕ)). (group, bytes) ∷ l) (nets_append a b)
nets_append (can f ∷ a) b = nets_append a b
nets_append (report r ∷ a) b = nets_append a b

pub none : (a b : List Emit) → nets_in a ≡ [] → nets_in b ≡ [] → nets_in (a ++ b) ≡ []
none a b ea eb = nets_append a b ∙ rw (ea, eb) refl

pub no_flat : {A : Type 0} (f : A → List Emit) → ((x : A) → nets_in (f x) ≡ []) → (xs : List A) → nets_in (flat_map f xs) ≡ []
no_flat f each [] = refl
no_flat f each (x ∷ xs) = none (f x) (flat_map f xs) (each x) (no_flat f each xs)

pub no_reports : (rs : List Report) → nets_in (reported rs) ≡ []
no_reports [] = refl
no_reports (r ∷ rs) = no_reports rs

no_reply : (own : Option ℕ) (to : ℕ) (o : Option Reply) → nets_in (replied own to o) ≡ []
no_reply own to o = grind arith

no_frames : (f : List ℕ → Emit) → ((held : List ℕ) → nets_in (f held ∷ []) ≡ []) → (xs : List (List ℕ)) → nets_in (map f xs) ≡ []
no_frames f each [] = refl
no_frames f each (x ∷ xs) = none (f x ∷ []) (map f xs) (each x) (no_frames f each xs)

no_own : (name : ℕ) (own : Option ℕ) → nets_in (own_claim name own ∷ []) ≡ []
no_own name own = grind arith

pub if_none : (b : Bool) (x y : List Emit) → nets_in x ≡ [] → nets_in y ≡ [] → nets_in (if b then x else y) ≡ []
if_none b x y ex ey = grind arith

-- ---- what ends

pub no_fast_expired : (k : Known) (notes : List NotedFrame) (earlier m : ℕ) (kinds : ℕ → Kind) → nets_in (fast_expired (side k earlier) (side k m) notes kinds) ≡ []
no_fast_expired k notes earlier m kinds = grind (arith, no_flat)

no_iso_expired : (k : Known) (notes : List NotedFrame) (earlier m : ℕ) → nets_in (iso_expired (side k earlier) (side k m) notes) ≡ []
no_iso_expired k notes earlier m = grind (arith, no_flat, no_reply)

no_groups_expired : (lines : List Taken) (earlier m : ℕ) → nets_in (groups_expired lines earlier m) ≡ []
no_groups_expired lines earlier m = grind (arith, no_flat)

module _ (k after : Known) (notes : List NotedFrame) (m : ℕ) where
  no_iso_lost : (is_meant : IsoKey → Bool) → nets_in (iso_lost (side k m) (side after m) notes is_meant) ≡ []
  no_iso_lost is_meant = grind (arith, no_flat)

  no_fast_lost : (kinds : ℕ → Kind) (is_meant : FastKey → Bool) → nets_in (fast_lost (side k m) (side after m) notes kinds is_meant) ≡ []
  no_fast_lost kinds is_meant = grind (arith, no_flat)

  no_lost : (kinds : ℕ → Kind) (a : Option ℕ) → nets_in (lost_at (side k m) (side after m) notes kinds a) ≡ []
  no_lost kinds a = grind (arith, none, no_fast_lost, no_iso_lost)

-- ---- a frame and a command

no_own_answer : (name : ℕ) (answer : OwnAnswer) (own : Option ℕ) → nets_in (own_answer name answer own) ≡ []
no_own_answer name answer own = grind (arith, no_own)

no_step : (kinds : ℕ → Kind) (name : ℕ) (k after : Known) (notes : List NotedFrame) (m : ℕ) (step : ClaimStep) → nets_in (step_gives kinds name k after notes m step) ≡ []
no_step kinds name k after notes m step = grind (arith, none, no_lost, no_iso_lost, no_own_answer)

module _ (c : Settings) (s : ℕ) (h : History) (m : ℕ) where
  no_answers : (f : BusFrame) (meaning : Meaning) → nets_in (answers_by (receiver_of c) s h m f meaning) ≡ []
  no_answers f meaning = grind (arith, if_none, no_step, no_own, no_reply)

  no_command : (source address : ℕ) → nets_in (from_command c s h m source address) ≡ []
  no_command source address = grind (arith, none, no_reports, if_none, no_iso_lost, no_own)

  no_expired : nets_in (expired c s h m) ≡ []
  no_expired = grind (arith, none, no_fast_expired, no_iso_expired, no_groups_expired)

-- ---- a datagram

module _ (c : Settings) (own : Option ℕ) where
  no_sent : (address : Option ℕ) (older : List NetReading) (n : NetReading) → nets_in (sent_from c own address older n) ≡ []
  no_sent address older n = grind (arith, no_frames)

  no_reading : (older : List NetReading) (n : NetReading) → nets_in (reading_gives c own older n) ≡ []
  no_reading older n = grind (arith, if_none, no_sent, no_reports)

  no_said : (t : Taken) (older : List NetReading) (said : List (Result NetReading FieldFault)) → nets_in (said_gives c own t older said) ≡ []
  no_said t older [] = refl
  no_said t older (Ok n ∷ said) = none (reading_gives c own older n) (said_gives c own t (n ∷ older) said) (no_reading older n) (no_said t (n ∷ older) said)
  no_said t older (Err fault ∷ said) = grind (arith, no_said t older said, none, no_reports)

  no_handed : (lines : List Taken) (x : HeardItem) (i : Item) → nets_in (handed_gives c own lines x i) ≡ []
  no_handed lines x i = grind (arith, if_none, no_said)

  no_items : (older items : List HeardItem) → nets_in (items_give c own older items) ≡ []
  no_items older [] = refl
  no_items older (x ∷ xs) = grind (arith, no_items (x ∷ older) xs, none, no_reports, no_handed)

-- ---- an entry

module _ (c : Settings) (s : ℕ) (h : History) where
  -- what a frame says is what it is chosen to say
  says : (e : Entry) (quiet : List Emit) (o : Option Reading) → said_at c s h e ≡ o → nets_in (out c s h e) ≡ nets_in quiet ++ nets_in (said_in c (spoken_of c s h) o) → nets_in quiet ≡ []
      → spoken_of c s (e ∷ h) ≡ with_spoken c s o (spoken_of c s h) → SaysOne c s h e
  says e quiet None selected is none_before counted = nothing selected (is ∙ ap (λ (l : List (List ℕ × List ℕ)). l ++ []) none_before) counted
  says e quiet (Some r) selected is none_before counted =
      one r (rule_of c (row_of r)) _ selected refl refl (is ∙ ap (λ (l : List (List ℕ × List ℕ)). l ++ nets_in (said_in c (spoken_of c s h) (Some r))) none_before) counted

pub entries_say_one : EntriesSayOne
entries_say_one c s h (frame m f) =
    let breaks = reported (frame_refused (receiver_of c) s h m f) in
    let answers = answers_by (receiver_of c) s h m f (meaning_at (receiver_of c) s h m f) in
    let o = selected_in c (known (receiver_of c) s h).claims.holders (messages_of (receiver_of c) s h) (done (receiver_of c) s h (frame m f)) in
    let said = said_in c (spoken_of c s h) o in
    let quiet : nets_in (expired c s h m ++ (breaks ++ answers)) ≡ [] =
    none (expired c s h m) (breaks ++ answers) (no_expired c s h m)
    (none breaks answers (no_reports (frame_refused (receiver_of c) s h m f)) (no_answers c s h m f (meaning_at (receiver_of c) s h m f))) in
    says c s h (frame m f) (expired c s h m ++ (breaks ++ answers)) o refl
    (nets_append (expired c s h m) (breaks ++ answers ++ said) ∙ rw (no_expired c s h m)
    (nets_append (breaks ++ answers) said ∙ ap (λ (l : List (List ℕ × List ℕ)). l ++ nets_in said) (none breaks answers (no_reports (frame_refused (receiver_of c) s h m f)) (no_answers c s h m f (meaning_at (receiver_of c) s h m f)) ∙ sym quiet)))
    quiet refl
entries_say_one c s h (datagram m bytes) = grind (arith, none, no_expired, no_reports, no_items)
entries_say_one c s h (tick m) = nothing refl (none (expired c s h m) [] (no_expired c s h m) refl) refl
entries_say_one c s h (command m source address) = grind (arith, none, no_expired, no_command)
