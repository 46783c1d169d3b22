-- What is promised of joined headings: each value is of the one message that says it, and a true heading that is measured comes first.
use Rattle.std.specs.Prelude.{◌≡◌, ◌⊎◌, ℕ, ◌+◌, ◌*◌, ◌≤◌, ℤ, not, true, [], ◌∷◌, Option, Some, None}
use Rattle.readings.specs.declared.rows.Row.TheVariants as row
use Rattle.history.specs.Choice as rows
use Rattle.history.specs.Entries.{Entry, History, moment_of}
use Rattle.history.specs.Known.{held_since, known}
use Rattle.history.specs.Settings.{Settings, receiver_of, rule_of}
use Rattle.parts.specs.Selected.{Selected, last_of, selected_at}
use Rattle.joined_rmc.specs.RmcOut.{variation_in}
use Rattle.counted_lines.specs.CountedLines.{only_where}
use Rattle.joined_heading.specs.declared.magnetic.MagneticHeading.{MagneticHeading}
use Rattle.joined_heading.specs.HeadingOut.{is_measured, magnetic_of, texts_at}
use Rattle.joined_heading.specs.HeadingRule.{HeadingRule}
use Rattle.joined_heading.specs.Sentences.{hdg_text, hdm_text, heading_texts}
use Rattle.joined_heading.specs.Variations.{last_variation}

-- a message counts at the end of a history and at a moment: its sender holds its address ever since, and it isn't older than so many milliseconds
pub record Counts (c : Settings) (s : ℕ) (h : History) (m timeout : ℕ) (y : Selected) : Type 0 where
  pub since : ℕ
  pub held : held_since (known (receiver_of c) s h).claims.holders y.source ≡ Some since
  pub ever : since ≤ y.index
  pub fresh : m ≤ y.moment + 1000 * timeout

module _ (x : HeadingRule) (c : Settings) (s : ℕ) (h : History) (e : Entry) where
  -- the variation of the last message of PGN 127258 that was selected, which counts
  pub record IsOfOther (variation : ℤ) : Type 0 where
    pub message : Selected
    pub last : last_variation x c s (e ∷ h) ≡ Some message
    pub counts : Counts c s (e ∷ h) (moment_of e) x.taken.timeout message
    pub says : variation_in (Some message.reading) ≡ Some variation

  -- of the magnetic heading itself, where that says one; of the other message; or of none, where no variation of the other message counts
  pub data IsVariation (own : Option ℤ) : Option ℤ → Type 0 where
    of_itself : (variation : ℤ) → own ≡ Some variation → IsVariation own (Some variation)
    of_other : (variation : ℤ) → own ≡ None → IsOfOther variation → IsVariation own (Some variation)
    of_none : own ≡ None → ((variation : ℤ) → ¬ (IsOfOther variation)) → IsVariation own None

  -- the values that are joined
  pub record IsJoined (a : MagneticHeading) : Type 0 where
    pub message : Selected
    pub selected : selected_at c s h e ≡ Some message
    pub own : MagneticHeading
    pub reads : magnetic_of message.reading ≡ Some own
    pub heading : a.heading ≡ own.heading
    pub deviation : a.deviation ≡ own.deviation
    pub variation : IsVariation own.variation a.variation
    pub says : texts_at x c s h e ≡ heading_texts x.talker x.hdm (not (is_measured c s (e ∷ h) (moment_of e))) a

  -- nothing is said, since nothing is selected, or what is selected is no magnetic heading
  pub record IsSilent : Type 0 where
    pub nothing : texts_at x c s h e ≡ []
    pub no_heading : (message : Selected) → selected_at c s h e ≡ Some message → magnetic_of message.reading ≡ None

  abbrev pub IsSaid : Type 0
  IsSaid = IsSilent ⊎ ((a : MagneticHeading) × IsJoined a)

  -- the last true heading that was selected is usable, and counts
  pub record IsMeasured : Type 0 where
    pub message : Selected
    pub last : last_of c s row.HeadingTrue (e ∷ h) ≡ Some message
    pub usable : rows.is_usable (Some message.reading) ≡ true
    pub counts : Counts c s (e ∷ h) (moment_of e) (rule_of c row.HeadingTrue).timeout message

  -- nothing but HDG, and HDM where it is asked for
  abbrev pub IsWithoutTrue : Type 0
  IsWithoutTrue =
      (texts_at x c s h e ≡ []) ⊎ ((a : MagneticHeading) × (texts_at x c s h e ≡ hdg_text x.talker a ∷ only_where x.hdm (hdm_text x.talker a)))

abbrev pub ValuesAreOfMessages : Type 0
ValuesAreOfMessages = (x : HeadingRule) (c : Settings) (s : ℕ) (h : History) (e : Entry) → IsSaid x c s h e

abbrev pub MeasuredComeFirst : Type 0
MeasuredComeFirst = (x : HeadingRule) (c : Settings) (s : ℕ) (h : History) (e : Entry) → IsMeasured x c s h e → IsWithoutTrue x c s h e
