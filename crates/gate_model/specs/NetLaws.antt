-- What is promised of what a gateway keeps of the network (IEC 61162-450): it stands for all that came, and so gives what the definition of
-- what is emitted says.
use Rattle.std.specs.Prelude.{◌≡◌, ℕ, ◌<◌, ◌≤◌, List, [], ◌∷◌, length, Option, IfSome}
use Rattle.std.specs.List.{AllByRecursion}
use Rattle.std.specs.declared.cmp.Ordering.{Ordering}
use Rattle.claim_table.specs.Claims.{is_ready}
use Rattle.n2k_id.specs.Frame.{BusFrame}
use Rattle.readings.specs.declared.reading.Reading.{Reading}
use Rattle.readings.specs.declared.rows.Row.{Row}
use Rattle.slot_views.specs.Slots.{SlotMap}
use Rattle.sentence_text.specs.Sentence.{SentenceParts, longest_line}
use Rattle.tag_block.specs.declared.group_key.GroupKey.{GroupKey}
use Rattle.tag_block.specs.declared.group_answers.GroupFed.{GroupFed}
use Rattle.tag_block.specs.declared.group_part.GroupPart.{GroupPart}
use Rattle.tag_block.specs.Groups.{IsGroupPart}
use Rattle.tag_block.specs.GroupAnswers.{FeedGives}
use Rattle.tag_block.specs.Tag.{Said}
use Rattle.datagram450.specs.Datagram as datagrams
use Rattle.datagram450.specs.Datagram.{IsItem, line}
use Rattle.history.specs.Settings.{Settings, receiver_of}
use Rattle.history.specs.Entries.{History, frame, datagram, tick, command}
use Rattle.history.specs.Known.{known}
use Rattle.history.specs.Endings.{groups_expired}
use Rattle.history.specs.Heard.{HeardItem, several, place_of, taken_lines}
use Rattle.history.specs.FromNet.{item_gives}
use Rattle.history.specs.Gate as gate
use Rattle.history.specs.Gate.{heard}
use Rattle.gate_model.specs.Orders.{OrdersGroups}
use Rattle.gate_model.specs.Endings.{groups_overdue}
use Rattle.gate_model.specs.Net.{ReadingsKept, LineHeard, no_readings, sequence_at, reading_after}
use Rattle.gate_model.specs.NetLines.{NetKept, nothing_kept, kept_until, group_answer, answer_of, item_after, item_emits, datagram_after, datagram_emits}
use Rattle.gate_model.specs.NetStands.{StandsNet}

-- nothing kept stands for no items
abbrev pub OpeningStandsNet : Type 0
OpeningStandsNet = (cmp : GroupKey → GroupKey → Ordering) (c : Settings) (m : ℕ) → StandsNet cmp c [] m (nothing_kept c)

module _ (cmp : GroupKey → GroupKey → Ordering) (c : Settings) (older : List HeardItem) where
  -- at a later moment stands what isn't overdue, and what is, is reported
  pub record LaterStandsNet (earlier m : ℕ) (k : NetKept) : Type 0 where
    pub stands : StandsNet cmp c older m (kept_until m k)
    pub gives : groups_overdue k.groups m ≡ groups_expired (taken_lines c older) earlier m

  -- one more item
  pub record ItemStandsNet (own : Option ℕ) (x : HeardItem) (k : NetKept) : Type 0 where
    pub stands : StandsNet cmp c (x ∷ older) x.moment (item_after cmp c x.moment x.ready k x.item)
    pub gives : item_emits cmp c x.moment x.ready own k x.item ≡ item_gives c own older x

abbrev pub TimeStandsNet : Type 0
TimeStandsNet =
    (cmp : GroupKey → GroupKey → Ordering) (c : Settings) (older : List HeardItem) (earlier m : ℕ) (k : NetKept) → OrdersGroups cmp → earlier ≤ m
    → StandsNet cmp c older earlier k → LaterStandsNet cmp c older earlier m k

abbrev pub ItemsStandNet : Type 0
ItemsStandNet =
    (cmp : GroupKey → GroupKey → Ordering) (c : Settings) (own : Option ℕ) (older : List HeardItem) (x : HeardItem) (k : NetKept) → OrdersGroups cmp
    → IsItem x.item → StandsNet cmp c older x.moment k → ItemStandsNet cmp c older own x k

-- a datagram that comes after a history
module _ (cmp : GroupKey → GroupKey → Ordering) (c : Settings) (s : ℕ) (h : History) (m : ℕ) where
  pub record DatagramStandsNet (bytes : List ℕ) (k : NetKept) : Type 0 where
    pub stands : let claims = (known (receiver_of c) s h).claims in
        StandsNet cmp c (heard c s (datagram m bytes ∷ h)) m (datagram_after cmp c m (is_ready claims m) k (datagrams.read bytes))
    pub gives : let claims = (known (receiver_of c) s h).claims in
        datagram_emits cmp c m (is_ready claims m) claims.own k (datagrams.read bytes) ≡ gate.datagram_at c s h m bytes

  -- nothing else is heard from the network
  pub record OthersStandNet (k : NetKept) : Type 0 where
    pub frames : (n : ℕ) (f : BusFrame) → StandsNet cmp c (heard c s (frame n f ∷ h)) m k
    pub ticks : (n : ℕ) → StandsNet cmp c (heard c s (tick n ∷ h)) m k
    pub commands : (n source address : ℕ) → StandsNet cmp c (heard c s (command n source address ∷ h)) m k

abbrev pub DatagramsStandNet : Type 0
DatagramsStandNet =
    (cmp : GroupKey → GroupKey → Ordering) (c : Settings) (s : ℕ) (h : History) (m : ℕ) (bytes : List ℕ) (k : NetKept) → OrdersGroups cmp
    → StandsNet cmp c (heard c s h) m k → DatagramStandsNet cmp c s h m bytes k

abbrev pub OtherEntriesStandNet : Type 0
OtherEntriesStandNet =
    (cmp : GroupKey → GroupKey → Ordering) (c : Settings) (s : ℕ) (h : History) (m : ℕ) (k : NetKept)
    → StandsNet cmp c (heard c s h) m k → OthersStandNet cmp c s h m k

-- every answer of the assembler of groups is the plain one
abbrev pub AnswersArePlain : Type 0
AnswersArePlain =
    (cmp : GroupKey → GroupKey → Ordering) (s : SlotMap GroupKey) (k : GroupKey) (part : GroupPart) (sentence : List ℕ) (moment : ℕ) (fed : GroupFed)
    → FeedGives cmp s k part sentence moment fed → answer_of fed ≡ group_answer cmp s k part sentence moment

-- ---- what the calls need: a line of a group has a place in one, no sentence is too long, a source is noted by a place among those that are
-- listed, and a sequence is from 0 to 7

pub record ItemFits (c : Settings) (said : Said) (sentence : List ℕ) : Type 0 where
  pub part : IfSome (several said.group) IsGroupPart
  pub few_bytes : length sentence ≤ longest_line
  pub source : IfSome (place_of c said.source) (λ place. place < length c.net_sources)

abbrev pub ItemsFit : Type 0
ItemsFit =
    (c : Settings) (place : ℕ) (said : Said) (sentence : List ℕ) (parts : SentenceParts) → IsItem (line place said sentence parts)
    → ItemFits c said sentence

abbrev pub AreSequences : ReadingsKept → Type 0
AreSequences k = AllByRecursion (λ n. n ≤ 7) k.sequences

pub record SequencesFit : Type 0 where
  pub opening : (c : Settings) → AreSequences (no_readings c)
  pub step : (k : ReadingsKept) (l : LineHeard) (r : Reading) → AreSequences k → AreSequences (reading_after k l r)
  pub next : (k : ReadingsKept) (row : Row) → AreSequences k → sequence_at k row ≤ 7
