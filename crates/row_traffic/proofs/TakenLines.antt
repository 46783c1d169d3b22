-- What a line leaves and gives: one that is the gateway's own, for another device or of a source that isn't listed, and one that is taken.
use Rattle.std.proofs.Common.{◌≡◌, ℕ, true, false, List, [], ◌∷◌, Option, Some, None, refl, ap}
use Rattle.std.specs.declared.cmp.Ordering.{Ordering}
use Rattle.report_rules.specs.Rules as rules
use Rattle.sentence_text.specs.Sentence.{SentenceParts, IsSentence}
use Rattle.sentence_text.proofs.Only.{only}
use Rattle.sentence_profile.specs.declared.optional.OptionalSentences.{OptionalSentences}
use Rattle.sentence_profile.specs.Reading.{read_row}
use Rattle.tag_block.specs.declared.group_key.GroupKey.{GroupKey}
use Rattle.tag_block.specs.Tag.{Said}
use Rattle.gate_events.specs.declared.emit.Detail.TheVariants as detail
use Rattle.history.specs.Emits.{broken}
use Rattle.history.specs.Heard.{several, place_of, is_own_line, is_elsewhere}
use Rattle.history.specs.NetReadings.{read_parts, read_sentence}
use Rattle.gate_model.specs.NetLines.{NetKept, line_at, line_after, line_emits, taken_after, taken_emits}
use Rattle.row_traffic.specs.declared.network.hearing.Hearing.{Hearing}
use Rattle.row_traffic.specs.NetCalls.{heard_by, after_line, line_gives}

-- what a sentence says is what its parts say
pub says_its_row : (optional : OptionalSentences) (parts : SentenceParts) (text : List ℕ) → IsSentence parts text
    → read_sentence optional text ≡ read_row optional parts
says_its_row optional parts text is = ap (read_parts optional) (only text parts is)

module _ (cmp : GroupKey → GroupKey → Ordering) (h : Hearing) (k : NetKept) (place : ℕ) (said : Said) (text : List ℕ) where
  -- it leaves all as it was, and its rule is reported
  pub record IsPassed (rule : ℕ) (source : Option ℕ) : Type 0 where
    pub after : line_after cmp (heard_by h) h.came.moment h.came.ready k place said text source ≡ k
    pub emits : line_emits cmp (heard_by h) h.came.moment h.came.ready h.came.own k place said text source ≡ broken rule (detail.At place) ∷ []

  pub own_line : is_own_line (heard_by h) said ≡ true → IsPassed rules.own_line (place_of (heard_by h) said.source)
  own_line own = by (place_of (heard_by h) said.source)
    where
      by : (source : Option ℕ) → IsPassed rules.own_line source
      by None = record { after = refl; emits = rw own }
      by (Some source) = record { after = rw own; emits = rw own }

  pub line_elsewhere : is_own_line (heard_by h) said ≡ false → is_elsewhere (heard_by h) said.destination ≡ true
      → IsPassed rules.other_destination (place_of (heard_by h) said.source)
  line_elsewhere own elsewhere = by (place_of (heard_by h) said.source)
    where
      by : (source : Option ℕ) → IsPassed rules.other_destination source
      by None = record { after = refl; emits = rw (own, elsewhere) }
      by (Some source) = record { after = rw (own, elsewhere); emits = rw (own, elsewhere) }

  module _ (own : is_own_line (heard_by h) said ≡ false) (elsewhere : is_elsewhere (heard_by h) said.destination ≡ false) where
    pub line_unlisted : place_of (heard_by h) said.source ≡ None → IsPassed rules.unlisted_source (place_of (heard_by h) said.source)
    line_unlisted at = record { after = rw at; emits = rw (at, own, elsewhere, at) }

    -- it leaves and gives what the source's line does
    pub record IsTaken (source : ℕ) : Type 0 where
      pub after : after_line cmp h k place said text
          ≡ taken_after cmp (heard_by h) h.came.moment h.came.ready k (line_at cmp (heard_by h) h.came.moment h.came.ready place source) said.source text (several said.group)
      pub emits : line_gives cmp h k place said text
          ≡ taken_emits cmp (heard_by h) h.came.moment h.came.ready h.came.own k (line_at cmp (heard_by h) h.came.moment h.came.ready place source) said.source text (several said.group)

    pub line_taken : (source : ℕ) → place_of (heard_by h) said.source ≡ Some source → IsTaken source
    line_taken source at = record { after = rw (at, own, elsewhere, at); emits = rw (at, own, elsewhere, at) }
