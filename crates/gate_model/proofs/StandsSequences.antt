-- The numbers of the next fast packets stay from 0 to 7, whatever comes from the network.
use Rattle.std.proofs.Common.{ℕ, Bool, true, false, List, [], ◌∷◌}
use Rattle.std.specs.Prelude.{Option, Some, None, Result, Ok, Err, if◌then◌else◌}
use Rattle.std.specs.declared.cmp.Ordering.{Ordering}
use Rattle.readings.specs.declared.reading.Reading.{Reading}
use Rattle.sentence_profile.specs.declared.fault.FieldFault.{FieldFault}
use Rattle.tag_block.specs.declared.group_key.GroupKey.{GroupKey}
use Rattle.tag_block.specs.declared.group_part.GroupPart.{GroupPart}
use Rattle.tag_block.specs.Groups.{key_of}
use Rattle.tag_block.specs.Tag.{Said}
use Rattle.datagram450.specs.Datagram.{Item, line, bad}
use Rattle.history.specs.Settings.{Settings}
use Rattle.history.specs.Heard.{several, place_of, is_taken}
use Rattle.history.specs.NetReadings.{read_sentence}
use Rattle.gate_model.specs.Net.{ReadingsKept, LineHeard, reading_after, readings_after, said_after, sentences_after}
use Rattle.gate_model.specs.NetLines.{NetKept, group_answer, sentences_within, line_at, taken_after, line_after, item_after, items_after}
use Rattle.gate_model.specs.NetLaws.{AreSequences}
use Rattle.gate_model.proofs.NetFits.{sequences_fit}

module _ (l : LineHeard) where
  of_readings : (rs : List Reading) (k : ReadingsKept) → AreSequences k → AreSequences (readings_after k l rs)
  of_readings [] k are = are
  of_readings (r ∷ rs) k are = of_readings rs (reading_after k l r) (sequences_fit.step k l r are)

  of_sentence : (said : Result (List Reading) FieldFault) (k : ReadingsKept) → AreSequences k → AreSequences (said_after k l said)
  of_sentence (Ok rs) k are = of_readings rs k are
  of_sentence (Err fault) k are = are

  of_sentences : (texts : List (List ℕ)) (k : ReadingsKept) → AreSequences k → AreSequences (sentences_after k l texts)
  of_sentences [] k are = are
  of_sentences (text ∷ texts) k are =
      of_sentences texts (said_after k l (read_sentence l.optional text)) (of_sentence (read_sentence l.optional text) k are)

module _ (cmp : GroupKey → GroupKey → Ordering) (c : Settings) (m : ℕ) (ready : Bool) where
  of_taken : (k : NetKept) (l : LineHeard) (source sentence : List ℕ) (part : Option GroupPart) → AreSequences k.readings
      → AreSequences (taken_after cmp c m ready k l source sentence part).readings
  of_taken k l source sentence None are = of_sentences l (sentence ∷ []) k.readings are
  of_taken k l source sentence (Some part) are =
      of_sentences l (sentences_within (group_answer cmp k.groups (key_of source part) part sentence m).whole) k.readings are

  of_line : (k : NetKept) (place : ℕ) (said : Said) (sentence : List ℕ) (source : Option ℕ) → AreSequences k.readings
      → AreSequences (line_after cmp c m ready k place said sentence source).readings
  of_line k place said sentence None are = are
  of_line k place said sentence (Some source) are = by (is_taken c said)
    where
      by : (b : Bool)
          → AreSequences (if b then taken_after cmp c m ready k (line_at cmp c m ready place source) said.source sentence (several said.group) else k).readings
      by true = of_taken k (line_at cmp c m ready place source) said.source sentence (several said.group) are
      by false = are

  of_item : (k : NetKept) (i : Item) → AreSequences k.readings → AreSequences (item_after cmp c m ready k i).readings
  of_item k (line place said sentence parts) are = of_line k place said sentence (place_of c said.source) are
  of_item k (bad rule place) are = are

  pub of_items : (items : List Item) (k : NetKept) → AreSequences k.readings → AreSequences (items_after cmp c m ready k items).readings
  of_items [] k are = are
  of_items (i ∷ items) k are = of_items items (item_after cmp c m ready k i) (of_item k i are)
