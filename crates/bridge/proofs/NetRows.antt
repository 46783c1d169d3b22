-- What the gateway itself says is read.
use Rattle.std.proofs.Common.{◌≡◌, ℕ, ◌≤◌, length, ap, subst, ◌∙◌, arith}
use Rattle.std.specs.Prelude.{Option, IfSome}
use Rattle.sentence_text.specs.Names.{IsSfi}
use Rattle.readings.specs.declared.reading.Reading.{Reading}
use Rattle.readings.specs.declared.rows.Row.{Row}
use Rattle.readings.specs.Rows.{IsValid, row_of}
use Rattle.sentence_profile.specs.Writing.{sentences_of}
use Rattle.sentence_profile.proofs.ShortSentences.{each_is_a_sentence, said_briefly}
use Rattle.config_values.specs.Rows.{IsTalker}
use Rattle.history.specs.Entries.{Entry, History}
use Rattle.history.specs.EntryLaws.{SaysOne, nothing, one, nets_in}
use Rattle.history.specs.Gate.{out, spoken_of}
use Rattle.history.specs.Settings.{RowRule, Settings, rule_of}
use Rattle.history.proofs.EntrySteps.{entries_say_one}
use Rattle.parts.specs.Voices.{EachSays}
use Rattle.parts.proofs.Lines.{says_all}
use Rattle.parts.proofs.Speaking.{capitals, said_valid}
use Rattle.bridge.specs.Sentences.{rows_say}

-- ---- the datagram

module _ (c : Settings) (s : ℕ) (h : History) (e : Entry) (sfi : IsSfi c.sfi) (talkers : (row : Row) → IsTalker (rule_of c row).talker) where
  by : SaysOne c s h e → EachSays (nets_in (out c s h e)) (rows_say c s h e)
  by (nothing none quiet counted) = rw (none, quiet) tt
  by (one r rule xs some is_rule are nets counted) =
      let talker = talkers (row_of r) in
      let valid : IsValid r = subst (λ (o : Option Reading). IfSome o IsValid) some (said_valid c s h e) in
      let said = sentences_of (rule_of c (row_of r)).talker c.ths r in
      let same : xs ≡ said = are ∙ ap (λ (x : RowRule). sentences_of x.talker c.ths r) is_rule in
      let few : length said ≤ 9 = omega (arith, (said_briefly (rule_of c (row_of r)).talker c.ths r).few) in
      let each = each_is_a_sentence (rule_of c (row_of r)).talker c.ths r talker.len (capitals _ talker) valid in
      rw (some, nets, same) (says_all c.sfi (spoken_of c s h) rule.group said sfi few each, tt)

  pub rows_are_read : EachSays (nets_in (out c s h e)) (rows_say c s h e)
  rows_are_read = by (entries_say_one c s h e)
