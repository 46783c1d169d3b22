-- What is kept stands for the items that came, one after another, and gives what they give.
use Rattle.std.proofs.Common.{◌≡◌, ℕ, Bool, true, false, ◌&&◌, not, List, [], ◌∷◌, ◌++◌, append-nil, refl, sym, ap, subst, ◌∙◌, is_some, arith}
use Rattle.std.specs.Prelude.{Option, Some, None, Result, Ok, Err, IfOk, if◌then◌else◌}
use Rattle.std.specs.List.{AllByRecursion}
use Rattle.std.specs.declared.cmp.Ordering.{Ordering}
use Rattle.claim_table.specs.Claims.{is_ready}
use Rattle.gate_events.specs.declared.emit.Report.{Report}
use Rattle.tag_block.specs.declared.group_key.GroupKey.{GroupKey}
use Rattle.tag_block.specs.declared.group_part.GroupPart.{GroupPart}
use Rattle.tag_block.specs.Tag.{Said}
use Rattle.sentence_text.specs.Sentence.{SentenceParts}
use Rattle.datagram450.specs.declared.fault.DatagramFault.{DatagramFault}
use Rattle.datagram450.specs.Datagram as datagrams
use Rattle.datagram450.specs.Datagram.{IsItem, Item, line, bad}
use Rattle.datagram450.proofs.Datagrams.{is_found}
use Rattle.datagram450.proofs.Items.{each_is}
use Rattle.history.specs.Settings.{Settings, receiver_of}
use Rattle.history.specs.Known.{known}
use Rattle.gate_events.specs.Emit.{Emit}
use Rattle.history.specs.Emits.{reported}
use Rattle.history.specs.Heard as heard_lines
use Rattle.history.specs.Heard.{HeardItem, Taken, heard_items, with_each, several, place_of, is_taken, is_own_line, is_elsewhere, is_line_admitted, handed_over, taken_lines}
use Rattle.history.specs.NetReadings.{line_says, with_readings, readings_of}
use Rattle.history.specs.NetRules.{datagram_breaks, part_breaks, line_breaks}
use Rattle.history.specs.FromNet.{items_in, said_gives, item_gives, items_give}
use Rattle.history.specs.Gate.{heard}
use Rattle.history.proofs.GroupSteps.{lines_alone}
use Rattle.gate_model.specs.Orders.{OrdersGroups}
use Rattle.gate_model.specs.Net.{sentences_after, sentences_emit}
use Rattle.gate_model.specs.NetLines.{NetKept, group_answer, sentences_within, line_at, taken_after, taken_emits, line_after, line_emits, item_after, item_emits, items_after, items_emit}
use Rattle.gate_model.specs.NetStands.{StandsReadings, StandsGroups, StandsNet}
use Rattle.gate_model.specs.NetLaws.{ItemStandsNet, OpeningStandsNet, TimeStandsNet, ItemsStandNet, DatagramsStandNet, OtherEntriesStandNet}
use Rattle.gate_model.proofs.NetReadings.{no_readings_stand, line_is}
use Rattle.gate_model.proofs.NetHeard.{IsHeard, all_heard, several_is}
use Rattle.gate_model.proofs.NetGroups.{later_stands, overdue_same, alone_stands, line_stands}
use Rattle.gate_model.proofs.NetAnswers.{reports_same, sentences_handed}

-- ---- nothing kept, and a later moment

pub opening_stands_net : OpeningStandsNet
opening_stands_net cmp c m = record {
  items = tt;
  groups = record { limited = refl; map = record { ordered = tt; within = omega arith }; entries = λ key. refl };
  readings = no_readings_stand c;
}

pub time_stands_net : TimeStandsNet
time_stands_net cmp c older earlier m k o later st =
    let all = all_heard c older st.items in
    record {
      stands = record {
        items = st.items;
        groups = later_stands cmp o c.group_slots (taken_lines c older) all earlier k.groups st.groups m later;
        readings = st.readings;
      };
      gives = overdue_same cmp o c.group_slots (taken_lines c older) all earlier k.groups st.groups m later;
    }

-- ---- one more item

-- a line of a source that isn't listed isn't taken
untaken : (c : Settings) (said : Said) → place_of c said.source ≡ None → is_taken c said ≡ false
untaken c said e = ap (λ (o : Option ℕ). not (is_own_line c said) && (not (is_elsewhere c said.destination) && is_some o)) e ∙ by (is_own_line c said) (is_elsewhere c said.destination)
  where
    by : (a b : Bool) → (not a && (not b && false)) ≡ false
    by true b = refl
    by false true = refl
    by false false = refl

module _ (cmp : GroupKey → GroupKey → Ordering) (c : Settings) (o : OrdersGroups cmp) (own : Option ℕ) (older : List HeardItem) (m : ℕ) (ready : Bool) (k : NetKept) (st : StandsNet cmp c older m k) where
  abbrev lines : List Taken
  lines = taken_lines c older

  abbrev came : Item → HeardItem
  came i = record { moment = m; ready = ready; item = i }

  -- ---- a line that isn't taken

  module _ (place : ℕ) (said : Said) (sentence : List ℕ) (parts : SentenceParts) (not_taken : is_taken c said ≡ false) where
    abbrev this : Item
    this = line place said sentence parts

    passed_lines : taken_lines c (came this ∷ older) ≡ lines
    passed_lines = ap (λ (b : Bool). if b then heard_lines.taken_as c lines (came this) place said sentence ∷ lines else lines) not_taken

    passed_gives : reported (line_breaks c place said) ≡ item_gives c own older (came this)
    passed_gives =
        let t = heard_lines.taken_as c lines (came this) place said sentence in
        sym (append-nil (reported (line_breaks c place said)))
        ∙ ap (λ (b : Bool). reported (if b then part_breaks lines t (several said.group) else line_breaks c place said)
        ++ (if b then said_gives c own t (readings_of c.optional_sentences lines) (line_says c.optional_sentences t (handed_over t lines)) else [])) (sym not_taken)

  -- ---- a line that is taken

  module _ (place : ℕ) (said : Said) (sentence : List ℕ) (parts : SentenceParts) (is : IsItem (line place said sentence parts)) (taken : is_taken c said ≡ true) (source : ℕ)
      (at : place_of c said.source ≡ Some source) where
    abbrev it : Item
    it = line place said sentence parts

    abbrev t : Taken
    t = heard_lines.taken_as c lines (came it) place said sentence

    more_lines : taken_lines c (came it ∷ older) ≡ t ∷ lines
    more_lines = ap (λ (b : Bool). if b then t ∷ lines else lines) taken

    all : AllByRecursion IsHeard (t ∷ lines)
    all = subst (AllByRecursion IsHeard) more_lines (all_heard c (came it ∷ older) (is, st.items))

    line_gives : item_gives c own older (came it) ≡ reported (part_breaks lines t (several said.group)) ++ said_gives c own t (readings_of c.optional_sentences lines) (line_says c.optional_sentences t (handed_over t lines))
    line_gives =
        ap (λ (b : Bool). reported (if b then part_breaks lines t (several said.group) else line_breaks c place said)
        ++ (if b then said_gives c own t (readings_of c.optional_sentences lines) (line_says c.optional_sentences t (handed_over t lines)) else [])) taken

    record Takes (group : Option GroupPart) : Type 0 where
      groups : StandsGroups cmp c.group_slots (t ∷ lines) m (taken_after cmp c m ready k (line_at cmp c m ready place source) said.source sentence group).groups
      readings : StandsReadings c (readings_of c.optional_sentences (t ∷ lines)) (taken_after cmp c m ready k (line_at cmp c m ready place source) said.source sentence group).readings
      gives : taken_emits cmp c m ready own k (line_at cmp c m ready place source) said.source sentence group
          ≡ reported (part_breaks lines t group) ++ said_gives c own t (readings_of c.optional_sentences lines) (line_says c.optional_sentences t (handed_over t lines))

    takes : (group : Option GroupPart) → several said.group ≡ group → Takes group
    takes None e =
        let handed = (lines_alone t lines e).handed in
        let says = line_is c own t source at (sentence ∷ []) (readings_of c.optional_sentences lines) k.readings st.readings in
        record {
          groups = alone_stands cmp c.group_slots lines t k.groups st.groups e;
          readings = subst (λ (texts : List (List ℕ)). StandsReadings c (with_readings (readings_of c.optional_sentences lines) (line_says c.optional_sentences t texts)) (sentences_after k.readings (line_at cmp c m ready place source) (sentence ∷ []))) (sym handed)
              says.stands;
          gives = says.gives ∙ ap (λ (x : List (List ℕ)). said_gives c own t (readings_of c.optional_sentences lines) (line_says c.optional_sentences t x)) (sym handed);
        }
    takes (Some part) e =
        let admits = ap (λ (g : Option GroupPart). is_line_admitted c lines said.source g m) (several_is said.group part e).0 in
        let handed = sentences_handed cmp o c.group_slots lines t part k.groups all e admits st.groups in
        let texts = sentences_within (group_answer cmp k.groups (record { sfi = said.source; code = part.code }) part sentence m).whole in
        let says = line_is c own t source at texts (readings_of c.optional_sentences lines) k.readings st.readings in
        record {
          groups = line_stands cmp o c.group_slots lines t part k.groups all e admits st.groups;
          readings = subst (λ (x : List (List ℕ)). StandsReadings c (with_readings (readings_of c.optional_sentences lines) (line_says c.optional_sentences t x)) (sentences_after k.readings (line_at cmp c m ready place source) texts)) handed
              says.stands;
          gives =
              ap (λ (r : List Report). reported r ++ sentences_emit own k.readings (line_at cmp c m ready place source) texts) (reports_same cmp o c.group_slots lines t part k.groups all e admits st.groups)
              ∙ ap (λ (x : List Emit). reported (part_breaks lines t (Some part)) ++ x)
              (says.gives ∙ ap (λ (x : List (List ℕ)). said_gives c own t (readings_of c.optional_sentences lines) (line_says c.optional_sentences t x)) handed);
        }

    stands_taken : ItemStandsNet cmp c older own (came it) k
    stands_taken =
        let all_of_it = takes (several said.group) refl in
        let after : item_after cmp c m ready k it ≡ taken_after cmp c m ready k (line_at cmp c m ready place source) said.source sentence (several said.group) =
        ap (line_after cmp c m ready k place said sentence) at
        ∙ ap (λ (b : Bool). if b then taken_after cmp c m ready k (line_at cmp c m ready place source) said.source sentence (several said.group) else k) taken in
        let emits : item_emits cmp c m ready own k it ≡ taken_emits cmp c m ready own k (line_at cmp c m ready place source) said.source sentence (several said.group) =
        ap (line_emits cmp c m ready own k place said sentence) at
        ∙ ap (λ (b : Bool). if b then taken_emits cmp c m ready own k (line_at cmp c m ready place source) said.source sentence (several said.group) else reported (line_breaks c place said)) taken in
        record {
          stands = subst (StandsNet cmp c (came it ∷ older) m) (sym after) (record {
            items = (is, st.items);
            groups = subst (λ (x : List Taken). StandsGroups cmp c.group_slots x m (taken_after cmp c m ready k (line_at cmp c m ready place source) said.source sentence (several said.group)).groups) (sym more_lines) all_of_it.groups;
            readings = subst (λ (x : List Taken). StandsReadings c (readings_of c.optional_sentences x) (taken_after cmp c m ready k (line_at cmp c m ready place source) said.source sentence (several said.group)).readings) (sym more_lines) all_of_it.readings;
          });
          gives = emits ∙ all_of_it.gives ∙ sym line_gives;
        }

  -- ---- any item

  untaken_stands : (place : ℕ) (said : Said) (sentence : List ℕ) (parts : SentenceParts) → IsItem (line place said sentence parts) → is_taken c said ≡ false
      → StandsNet cmp c (came (line place said sentence parts) ∷ older) m k
  untaken_stands place said sentence parts is none =
      let same = passed_lines place said sentence parts none in
      record {
        items = (is, st.items);
        groups = subst (λ (x : List Taken). StandsGroups cmp c.group_slots x m k.groups) (sym same) st.groups;
        readings = subst (λ (x : List Taken). StandsReadings c (readings_of c.optional_sentences x) k.readings) (sym same) st.readings;
      }

  line_stands_by : (place : ℕ) (said : Said) (sentence : List ℕ) (parts : SentenceParts) → IsItem (line place said sentence parts) → (p : Option ℕ) → place_of c said.source ≡ p
      → (b : Bool) → is_taken c said ≡ b → ItemStandsNet cmp c older own (came (line place said sentence parts)) k
  line_stands_by place said sentence parts is None at b eb =
      let none = untaken c said at in
      record {
        stands = subst (λ (p : Option ℕ). StandsNet cmp c (came (line place said sentence parts) ∷ older) m (line_after cmp c m ready k place said sentence p)) (sym at) (untaken_stands place said sentence parts is none);
        gives = ap (line_emits cmp c m ready own k place said sentence) at ∙ passed_gives place said sentence parts none;
      }
  line_stands_by place said sentence parts is (Some source) at true eb = stands_taken place said sentence parts is eb source at
  line_stands_by place said sentence parts is (Some source) at false eb =
      let after : item_after cmp c m ready k (line place said sentence parts) ≡ k =
      ap (line_after cmp c m ready k place said sentence) at
      ∙ ap (λ (b : Bool). if b then taken_after cmp c m ready k (line_at cmp c m ready place source) said.source sentence (several said.group) else k) eb in
      record {
        stands = subst (StandsNet cmp c (came (line place said sentence parts) ∷ older) m) (sym after) (untaken_stands place said sentence parts is eb);
        gives =
            ap (line_emits cmp c m ready own k place said sentence) at
            ∙ ap (λ (b : Bool). if b then taken_emits cmp c m ready own k (line_at cmp c m ready place source) said.source sentence (several said.group) else reported (line_breaks c place said)) eb
            ∙ passed_gives place said sentence parts eb;
      }

  item_stands : (i : Item) → IsItem i → ItemStandsNet cmp c older own (came i) k
  item_stands (line place said sentence parts) is = line_stands_by place said sentence parts is (place_of c said.source) refl (is_taken c said) refl
  item_stands (bad rule place) is = record {
    stands = record { items = (is, st.items); groups = st.groups; readings = st.readings };
    gives = refl;
  }

pub items_stand_net : ItemsStandNet
items_stand_net cmp c own older x k o is st = item_stands cmp c o own older x.moment x.ready k st x.item is

-- ---- a datagram

module _ (cmp : GroupKey → GroupKey → Ordering) (c : Settings) (o : OrdersGroups cmp) (own : Option ℕ) (m : ℕ) (ready : Bool) where
  abbrev came_now : Item → HeardItem
  came_now i = record { moment = m; ready = ready; item = i }

  all_stand : (items : List Item) (older : List HeardItem) (k : NetKept) → AllByRecursion IsItem items → StandsNet cmp c older m k
      → StandsNet cmp c (with_each older (heard_items m ready items)) m (items_after cmp c m ready k items)
  all_stand [] older k each st = st
  all_stand (i ∷ items) older k each st =
      all_stand items (came_now i ∷ older) (item_after cmp c m ready k i) each.1 (item_stands cmp c o own older m ready k st i each.0).stands

  all_give : (items : List Item) (older : List HeardItem) (k : NetKept) → AllByRecursion IsItem items → StandsNet cmp c older m k
      → items_emit cmp c m ready own k items ≡ items_give c own older (heard_items m ready items)
  all_give [] older k each st = refl
  all_give (i ∷ items) older k each st =
      let one = item_stands cmp c o own older m ready k st i each.0 in
      ap (λ (x : List Emit). x ++ items_emit cmp c m ready own (item_after cmp c m ready k i) items) one.gives
      ∙ ap (λ (x : List Emit). item_gives c own older (came_now i) ++ x) (all_give items (came_now i ∷ older) (item_after cmp c m ready k i) each.1 one.stands)

items_are : (r : Result (List Item) DatagramFault) → IfOk r (AllByRecursion IsItem) → AllByRecursion IsItem (items_in r)
items_are (Ok items) is = is
items_are (Err fault) is = tt

pub datagrams_stand_net : DatagramsStandNet
datagrams_stand_net cmp c s h m bytes k o st =
    let claims = (known (receiver_of c) s h).claims in
    let all = items_are (datagrams.read bytes) (each_is bytes (datagrams.read bytes) (is_found bytes (datagrams.read bytes) refl)) in
    record {
      stands = all_stand cmp c o claims.own m (is_ready claims m) (items_in (datagrams.read bytes)) (heard c s h) k all st;
      gives = ap (λ (x : List Emit). reported (datagram_breaks (datagrams.read bytes)) ++ x)
          (all_give cmp c o claims.own m (is_ready claims m) (items_in (datagrams.read bytes)) (heard c s h) k all st);
    }

-- ---- nothing else is heard from the network

pub other_entries_stand_net : OtherEntriesStandNet
other_entries_stand_net cmp c s h m k st = record { frames = λ n f. st; ticks = λ n. st; commands = λ n source address. st }
