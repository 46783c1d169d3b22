-- Each value of a joined heading is of its message, and a true heading that is measured comes first.
use Rattle.std.proofs.Common.{◌≡◌, ℕ, ◌+◌, ◌*◌, ℤ, Bool, true, false, inl, inr, List, ◌∷◌, refl, sym, subst, ap, ◌∙◌}
use Rattle.std.specs.Prelude.{not, nat_le, Option, Some, None, if◌then◌else◌}
use Rattle.std.proofs.lemmas.Bool.{le-leb, leb-true}
use Rattle.std.proofs.lemmas.List.{append-nil}
use Rattle.readings.specs.declared.reading.Reading.{Reading}
use Rattle.readings.specs.declared.rows.Row.TheVariants as row
use Rattle.history.specs.Choice as rows
use Rattle.history.specs.Entries.{Entry, History, moment_of}
use Rattle.history.specs.Known.{held_since, known}
use Rattle.history.specs.Settings.{Settings, receiver_of, rule_of}
use Rattle.parts.specs.Selected.{Selected, selected_at}
use Rattle.joined_rmc.specs.Lasting.{held_by, said_within, still_held}
use Rattle.joined_rmc.specs.RmcOut.{variation_in}
use Rattle.counted_lines.specs.CountedLines.{only_where}
use Rattle.joined_heading.specs.declared.magnetic.MagneticHeading.{MagneticHeading}
use Rattle.joined_heading.specs.HeadingLaws.{Counts, IsMeasured, IsOfOther, IsSaid, IsVariation, IsWithoutTrue, MeasuredComeFirst, ValuesAreOfMessages, of_itself, of_none, of_other}
use Rattle.joined_heading.specs.HeadingOut.{is_measured, magnetic_in, magnetic_of, or_other, texts_at, texts_of}
use Rattle.joined_heading.specs.HeadingRule.{HeadingRule}
use Rattle.joined_heading.specs.Sentences.{hdg_text, hdm_text, heading_texts}
use Rattle.joined_heading.specs.Variations.{last_variation, lasting_variation}

-- ---- what lasts is of the last message, which counts

module _ (c : Settings) (s : ℕ) (h : History) (m timeout : ℕ) where
  abbrev lasts : Option Selected → Option Reading
  lasts last = said_within timeout m (still_held (known (receiver_of c) s h).claims.holders last)

  record IsLast (last : Option Selected) (r : Reading) : Type 0 where
    message : Selected
    is : last ≡ Some message
    reads : message.reading ≡ r
    counts : Counts c s h m timeout message

  of_holder : (y : Selected) (r : Reading) (since : Option ℕ) → held_since (known (receiver_of c) s h).claims.holders y.source ≡ since
      → said_within timeout m (held_by since y) ≡ Some r → IsLast (Some y) r
  of_holder y r None is says = cc
  of_holder y r (Some since) is says = by (nat_le since y.index) refl says
    where
      old : (b : Bool) → nat_le m (y.moment + 1000 * timeout) ≡ b → nat_le since y.index ≡ true → (if b then Some y.reading else None) ≡ Some r → IsLast (Some y) r
      old true fresh ever says =
          let same : y.reading ≡ r = cc in
          record {
            message = y;
            is = refl;
            reads = same;
            counts = record { since = since; held = is; ever = leb-true since y.index ever; fresh = leb-true m (y.moment + 1000 * timeout) fresh };
          }
      old false fresh ever says = cc

      by : (b : Bool) → nat_le since y.index ≡ b → said_within timeout m (if b then Some y else None) ≡ Some r → IsLast (Some y) r
      by true ever says = old (nat_le m (y.moment + 1000 * timeout)) refl ever says
      by false ever says = cc

  is_last : (last : Option Selected) (r : Reading) → lasts last ≡ Some r → IsLast last r
  is_last None r says = cc
  is_last (Some y) r says = of_holder y r (held_since (known (receiver_of c) s h).claims.holders y.source) refl says

  -- and one that counts lasts
  lasts_so : (y : Selected) → Counts c s h m timeout y → lasts (Some y) ≡ Some y.reading
  lasts_so y is =
      ap (λ since. said_within timeout m (held_by since y)) is.held
      ∙ ap (λ b. said_within timeout m (if b then Some y else None)) (le-leb is.since y.index is.ever)
      ∙ ap (λ b. if b then Some y.reading else None) (le-leb m (y.moment + 1000 * timeout) is.fresh)

-- ---- the values

module _ (x : HeadingRule) (c : Settings) (s : ℕ) (h : History) (e : Entry) where
  abbrev m : ℕ
  m = moment_of e

  of_lasting : (v : ℤ) (o : Option Reading) → lasting_variation x c s (e ∷ h) m ≡ o → variation_in o ≡ Some v → IsOfOther x c s h e v
  of_lasting v None is says = cc
  of_lasting v (Some r) is says =
      let last = is_last c s (e ∷ h) m x.taken.timeout (last_variation x c s (e ∷ h)) r is in
      record { message = last.message; last = last.is; counts = last.counts; says = ap (λ r. variation_in (Some r)) last.reads ∙ says }

  none_of_other : variation_in (lasting_variation x c s (e ∷ h) m) ≡ None → (v : ℤ) → ¬ (IsOfOther x c s h e v)
  none_of_other none v other =
      let lasting : lasting_variation x c s (e ∷ h) m ≡ Some other.message.reading =
      ap (λ last. lasts c s (e ∷ h) m x.taken.timeout last) other.last ∙ lasts_so c s (e ∷ h) m x.taken.timeout other.message other.counts in
      let some : variation_in (lasting_variation x c s (e ∷ h) m) ≡ Some v = ap variation_in lasting ∙ other.says in
      cc

  whose : (own other : Option ℤ) → variation_in (lasting_variation x c s (e ∷ h) m) ≡ other → IsVariation x c s h e own (or_other own other)
  whose (Some v) other is = of_itself v refl
  whose None None is = of_none refl (none_of_other is)
  whose None (Some v) is = of_other v refl (of_lasting v (lasting_variation x c s (e ∷ h) m) refl is)

  abbrev says_of : Option MagneticHeading → List (List ℕ)
  says_of o = texts_of x (is_measured c s (e ∷ h) m) (variation_in (lasting_variation x c s (e ∷ h) m)) o

  joined_of : (y : Selected) → selected_at c s h e ≡ Some y → (o : Option MagneticHeading) → magnetic_of y.reading ≡ o → IsSaid x c s h e
  joined_of y is None reads = inl (record {
    nothing = ap (λ o. says_of (magnetic_in o)) is ∙ ap says_of reads;
    no_heading = λ message here. let same : y ≡ message = cc in subst (λ y. magnetic_of y.reading ≡ None) same reads;
  })
  joined_of y is (Some own) reads =
      let other = variation_in (lasting_variation x c s (e ∷ h) m) in
      inr (
        record { heading = own.heading; deviation = own.deviation; variation = or_other own.variation other },
        record {
          message = y;
          selected = is;
          own = own;
          reads = reads;
          heading = refl;
          deviation = refl;
          variation = whose own.variation other refl;
          says = ap (λ o. says_of (magnetic_in o)) is ∙ ap says_of reads;
        },
      )

  values_of : (o : Option Selected) → selected_at c s h e ≡ o → IsSaid x c s h e
  values_of None is = inl (record { nothing = ap (λ o. says_of (magnetic_in o)) is; no_heading = λ message here. let none : None ≡ Some message = sym is ∙ here in cc })
  values_of (Some y) is = joined_of y is (magnetic_of y.reading) refl

  -- ---- a true heading is measured

  measured_is : IsMeasured x c s h e → is_measured c s (e ∷ h) m ≡ true
  measured_is is =
      let timeout = (rule_of c row.HeadingTrue).timeout in
      ap (λ last. rows.is_usable (lasts c s (e ∷ h) m timeout last)) is.last
      ∙ ap rows.is_usable (lasts_so c s (e ∷ h) m timeout is.message is.counts)
      ∙ is.usable

  without_true : IsMeasured x c s h e → (a : MagneticHeading)
      → texts_at x c s h e ≡ heading_texts x.talker x.hdm (not (is_measured c s (e ∷ h) m)) a
      → texts_at x c s h e ≡ hdg_text x.talker a ∷ only_where x.hdm (hdm_text x.talker a)
  without_true is a says =
      says ∙ ap (λ measured. heading_texts x.talker x.hdm (not measured) a) (measured_is is)
      ∙ ap (λ more. hdg_text x.talker a ∷ more) (append-nil (only_where x.hdm (hdm_text x.talker a)))

  first_of : IsMeasured x c s h e → IsSaid x c s h e → IsWithoutTrue x c s h e
  first_of is (inl silent) = inl silent.nothing
  first_of is (inr (a, joined)) = inr (a, without_true is a joined.says)

pub values_are_of_messages : ValuesAreOfMessages
values_are_of_messages x c s h e = values_of x c s h e (selected_at c s h e) refl

pub measured_come_first : MeasuredComeFirst
measured_come_first x c s h e is = first_of x c s h e is (values_of x c s h e (selected_at c s h e) refl)
