-- What is noted of sources is of as many of them as before.
use Rattle.std.proofs.Common.{◌≡◌, ℕ, Bool, true, false, List, [], ◌∷◌, Option, Some, None, Result, Ok, Err, refl, ◌∙◌}
use Rattle.std.specs.Prelude.{if◌then◌else◌}
use Rattle.std.specs.declared.cmp.Ordering.{Ordering}
use Rattle.readings.specs.declared.reading.Reading.{Reading}
use Rattle.sentence_profile.specs.declared.fault.FieldFault.{FieldFault}
use Rattle.tag_block.specs.declared.group_key.GroupKey.{GroupKey}
use Rattle.tag_block.specs.declared.group_part.GroupPart.{GroupPart}
use Rattle.tag_block.specs.Groups.{key_of}
use Rattle.tag_block.specs.Tag.{Said}
use Rattle.datagram450.specs.Datagram.{Item, line, bad}
use Rattle.history.specs.Settings.{Settings}
use Rattle.history.specs.Heard.{several, place_of, is_taken}
use Rattle.history.specs.NetReadings.{read_sentence}
use Rattle.gate_model.specs.Net.{ReadingsKept, LineHeard, reading_after, readings_after, said_after, sentences_after}
use Rattle.gate_model.specs.NetLines.{NetKept, group_answer, sentences_within, line_at, taken_after, line_after, item_after}
use Rattle.row_traffic.specs.declared.network.hearing.Hearing.{Hearing}
use Rattle.row_traffic.specs.NetCalls.{Hears, heard_by, after_item}

readings_sources : (k : ReadingsKept) (l : LineHeard) (rs : List Reading) → (readings_after k l rs).choices.sources ≡ k.choices.sources
readings_sources k l [] = refl
readings_sources k l (r ∷ rs) = readings_sources (reading_after k l r) l rs

said_sources : (k : ReadingsKept) (l : LineHeard) (said : Result (List Reading) FieldFault) → (said_after k l said).choices.sources ≡ k.choices.sources
said_sources k l (Ok rs) = readings_sources k l rs
said_sources k l (Err fault) = refl

sentences_sources : (k : ReadingsKept) (l : LineHeard) (texts : List (List ℕ)) → (sentences_after k l texts).choices.sources ≡ k.choices.sources
sentences_sources k l [] = refl
sentences_sources k l (text ∷ texts) = sentences_sources (said_after k l (read_sentence l.optional text)) l texts ∙ said_sources k l (read_sentence l.optional text)

module _ (cmp : GroupKey → GroupKey → Ordering) (c : Settings) (m : ℕ) (ready : Bool) (k : NetKept) where
  taken_sources : (l : LineHeard) (source text : List ℕ) (part : Option GroupPart)
      → (taken_after cmp c m ready k l source text part).readings.choices.sources ≡ k.readings.choices.sources
  taken_sources l source text None = sentences_sources k.readings l (text ∷ [])
  taken_sources l source text (Some part) = sentences_sources k.readings l (sentences_within (group_answer cmp k.groups (key_of source part) part text m).whole)

  line_sources : (place : ℕ) (said : Said) (text : List ℕ) (source : Option ℕ)
      → (line_after cmp c m ready k place said text source).readings.choices.sources ≡ k.readings.choices.sources
  line_sources place said text None = refl
  line_sources place said text (Some source) = by (is_taken c said)
    where
      by : (b : Bool)
          → (if b then taken_after cmp c m ready k (line_at cmp c m ready place source) said.source text (several said.group) else k).readings.choices.sources
          ≡ k.readings.choices.sources
      by true = taken_sources (line_at cmp c m ready place source) said.source text (several said.group)
      by false = refl

  item_sources : (i : Item) → (item_after cmp c m ready k i).readings.choices.sources ≡ k.readings.choices.sources
  item_sources (line place said text parts) = line_sources place said text (place_of c said.source)
  item_sources (bad rule place) = refl

-- who is heard is heard after an item
pub still_hears : (cmp : GroupKey → GroupKey → Ordering) (h : Hearing) (k : NetKept) (i : Item) → Hears h k → Hears h (after_item cmp h k i)
still_hears cmp h k i hears = record {
  few = hears.few;
  listed = item_sources cmp (heard_by h) h.came.moment h.came.ready k i ∙ hears.listed;
}
