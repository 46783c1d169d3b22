-- An event that the gateway has taken: what is kept of joined headings stands for the history with it, and all that the definition over that history
-- says is given.
use Rattle.std.proofs.Common.{◌≡◌, ℕ, ◌+◌, ◌<◌, ◌≤◌, ◌==◌, ◌%◌, Bool, true, false, List, [], ◌∷◌, ◌++◌, length, Option, Some, None, option_map, if◌then◌else◌, refl, sym, ap, subst, ◌∙◌, append_assoc, arith}
use Rattle.std.proofs.Math.Nat.{mod-add-mod}
use Rattle.std.proofs.lemmas.Bool.{lt-ltb}
use Rattle.n2k_id.specs.declared.name.Name.{Name}
use Rattle.readings.specs.declared.rows.Row.TheVariants as row
use Rattle.tag_block.specs.Tag.{most_count}
use Rattle.claim_table.specs.Claims.{places}
use Rattle.source_choice.specs.Choices.{Choices}
use Rattle.source_choice.specs.SubjectRules.{rank_of}
use Rattle.gate_model.specs.Choosing.{is_ranked_chosen, message_noted, ranked_after}
use Rattle.gate_model.specs.Addresses.{Changed}
use Rattle.gate_model.specs.AddressStands.{changes_in, name_held}
use Rattle.gate_model.specs.Machine.{Machine}
use Rattle.gate_model.specs.Said.{complete_of}
use Rattle.gate_model.proofs.AddressTells.{standing_tells_alike}
use Rattle.gate_outbox.specs.Output.{Output, emits_of}
use Rattle.history.specs.AddressLaws.{AreSettings}
use Rattle.history.specs.Choice as rows
use Rattle.history.specs.Emits.{of_source}
use Rattle.history.specs.Entries.{Entry, History, moment_of, now}
use Rattle.history.specs.Known.{Known, known}
use Rattle.history.specs.Messages.{Message, messages_of}
use Rattle.history.specs.Settings.{Settings, receiver_of, rule_of}
use Rattle.history.specs.Subjects.{is_chosen}
use Rattle.source_choice.specs.declared.told.Told.{Told}
use Rattle.history.proofs.ChoiceSteps.{messages_are_of_holders}
use Rattle.history.proofs.FreshSteps.{below}
use Rattle.history.proofs.Receivers.{gateways_receive}
use Rattle.history.proofs.TraceMoves.{commanded_holders}
use Rattle.report_rules.specs.Rules.{short_message}
use Rattle.std.proofs.lemmas.Bool.{eq-eqb}
use Rattle.claim_table.specs.declared.answer.Holder.{Holder}
use Rattle.parts.specs.SelectedMessage.{SelectedMessage}
use Rattle.parts.specs.Picked.{IsPicked, message_of}
use Rattle.parts.specs.Selected.{Selected, selected_at, selected_with}
use Rattle.joined_rmc.specs.JoinStands.{LastStands}
use Rattle.joined_rmc.specs.Kept.{in_last, last_after, last_with, message_within}
use Rattle.joined_rmc.specs.Lasting.{still_held}
use Rattle.joined_rmc.specs.RmcOut.{variation_in}
use Rattle.joined_rmc.specs.declared.last_of_row.LastOfRow.{LastOfRow}
use Rattle.joined_rmc.proofs.Chosen.{Is, Of, message_holds, one_more}
use Rattle.joined_rmc.proofs.Commands.{last_stays}
use Rattle.joined_rmc.proofs.Rows.{CameBefore, last_steps, newer_steps}
use Rattle.joined_rmc.proofs.Steps.{last_says, within_same}
use Rattle.bus_listener.specs.Heard.{heard_out}
use Rattle.bus_listener.specs.Kept.{Hearing}
use Rattle.bus_listener.specs.Noting.{forgotten_of, has_place}
use Rattle.bus_listener.specs.Promises.{IsHeard, IsListening}
use Rattle.bus_listener.proofs.CommandLemmas.{commands_leave_listening}
use Rattle.bus_listener.proofs.Completes.{heard_is_done}
use Rattle.bus_listener.proofs.KnownLemmas.{gateway_stands, is_receiver, same_known}
use Rattle.counted_lines.specs.CountedLines.{posted_of}
use Rattle.counted_lines.proofs.Lines.{posted_modulo}
use Rattle.joined_heading.specs.HeadingOut.{heading_out, is_measured, lines_said, magnetic_in, message_breaks, texts_at, texts_of}
use Rattle.joined_heading.specs.declared.said.Said.{Said}
use Rattle.joined_heading.specs.HeadingRule.{HeadingRule}
use Rattle.joined_heading.specs.Kept.{HeadingKept, HeadingStep, MessageStep, given_up, hearing_by, left_by, magnetic_said, heard_step, measured_with, message_in, message_step, ranked_step, said_by, said_of, said_step, saying_step, step_by, texts_in}
use Rattle.joined_heading.specs.Promises.{CommandsKeepHeadings, IsHeadingStep, IsHeadingTaken, StandsHeading, VariationStands}
use Rattle.joined_heading.specs.Variations.{chosen_variation, is_short, kind_of, last_variation, lasting_variation, told_by, variation_alone, variation_at, variation_done, variation_of, variation_receiver, variation_told}
use Rattle.joined_heading.proofs.Noting.{IsVariationNoted, variation_commanded, variation_noted}
use Rattle.joined_heading.specs.VariationKind.{variation_is_heard}

-- ---- the message of the variation, or none

module _ (x : HeadingRule) (c : Settings) (s : ℕ) (h : History) (settings : AreSettings c) (e : Entry) (k : HeadingKept) (rule_is : k.rule ≡ x) where
  abbrev noted : Option Message → Choices
  noted o = message_noted variation_told (λ subject. x.taken) k.choices o

  abbrev kept_of : Option Message → HeadingKept
  kept_of o = record k { choices = noted o; variation = last_with row.HeadingMagnetic (option_map message_of (selected_with o (chosen_variation x c s h o))) k.variation }

  abbrev told_as : Option Message → MessageStep
  told_as o = record { after = kept_of o; told = message_breaks o }

  abbrev step_of : Option Message → MessageStep
  step_of o = message_step k (option_map said_of (option_map complete_of o))

  abbrev chosen_of : Message → Told → Bool
  chosen_of d told =
      is_chosen variation_told (λ subject. x.taken) (known (variation_receiver c) s h).claims.holders (messages_of (variation_receiver c) s h) d told

  -- one that isn't short: it is kept where it is selected
  ranked : (d : Message) (rule : HeadingRule) (b : Bool) (choices : Choices)
      → (let noted : HeadingKept = record k { rule = rule; choices = choices } in
      if b then record noted { variation = last_with row.HeadingMagnetic (Some (message_in (said_of (complete_of d)))) k.variation } else noted)
      ≡ record k {
        rule = rule;
        choices = choices;
        variation = last_with row.HeadingMagnetic (option_map message_of (selected_with (Some d) (if b then Some (variation_alone (variation_of d.payload)) else None))) k.variation;
      }
  ranked d rule true choices = refl
  ranked d rule false choices = refl

  message_taken : (o : Option Message) → IsVariationNoted x c s h e k.choices o → step_of o ≡ told_as o
  message_taken None is = refl
  message_taken (Some d) is =
      ap (λ b. if b then said_step k (said_of (complete_of d)) else record { after = k; told = [] }) (lt-ltb d.source places is.fits)
      ∙ by (is_short d.payload) refl
    where
      by : (b : Bool) → is_short d.payload ≡ b → said_step k (said_of (complete_of d)) ≡ told_as (Some d)
      by true short = rw short refl
      by false long =
          let chosen : is_ranked_chosen k.choices d.source d.moment (rank_of x.taken d.name) (told_by (variation_of d.payload)) ≡ chosen_of d (told_by (variation_of d.payload)) =
          rw long at is.chosen in
          rw (long, rule_is, chosen) (ap (λ (after : HeadingKept). let y : MessageStep = record { after = after; told = [] } in y)
          (ranked d x (chosen_of d (told_by (variation_of d.payload))) (ranked_after k.choices d.source d.moment (rank_of x.taken d.name) (told_by (variation_of d.payload)))))

-- ---- the last variation

module _ (x : HeadingRule) (c : Settings) (s : ℕ) (settings : AreSettings c) where
  abbrev holders_at : History → List (Option Holder)
  holders_at h = (known (variation_receiver c) s h).claims.holders

  variation_is : (P : ℕ → ℕ → ℕ → Type 0) (h : History) → Of row.HeadingMagnetic P (messages_of (variation_receiver c) s h)
      → Is row.HeadingMagnetic P (last_variation x c s h)
  variation_is P [] of = λ y is. cc
  variation_is P (e ∷ h) of =
      one_more row.HeadingMagnetic P (variation_done x c s h e) (chosen_variation x c s h (variation_done x c s h e)) (messages_of (variation_receiver c) s h)
      (last_variation x c s h) (variation_is P h) of

  came_before : (h : History) (y : Selected) → last_variation x c s h ≡ Some y → CameBefore (holders_at h) (length h) y
  came_before h y is =
      let r = variation_receiver c in
      record {
        index = variation_is (λ i source name. i < length h) h (below r s h) y is;
        name = λ z held since.
            variation_is (λ i source name. (source == y.source) ≡ true → z.since ≤ i → name ≡ z.name.0) h
            (messages_are_of_holders r s h y.source z (is_receiver kind_of 0 c variation_is_heard settings) held) y is (eq-eqb y.source y.source refl) since;
      }

  module _ (h : History) (e : Entry) (holder : ℕ → Option Name)
      (names : (a : ℕ) → holder a ≡ name_held (known (receiver_of c) s (e ∷ h)).claims.holders a) where
    abbrev kept_by : Known → Option Selected → Option SelectedMessage
    kept_by k last = option_map message_of (still_held k.claims.holders last)

    variation_steps : (last : LastOfRow) → VariationStands x c s h last
        → VariationStands x c s (e ∷ h) (last_after holder row.HeadingMagnetic (option_map message_of (variation_at x c s h e)) last)
    variation_steps last stands =
        let r = variation_receiver c in
        let are = is_receiver kind_of 0 c variation_is_heard settings in
        record {
          timeout_is = stands.timeout_is;
          kept =
              newer_steps r s h e are holder
              (λ a. names a ∙ ap (λ (k : Known). name_held k.claims.holders a) (same_known kind_of 0 c s (e ∷ h)))
              row.HeadingMagnetic (last_variation x c s h) (variation_at x c s h e) last.message (came_before h)
              (λ y is. message_holds r s h e (chosen_variation x c s h (variation_done x c s h e)) y are is)
              (stands.kept ∙ ap (λ k. kept_by k (last_variation x c s h)) (same_known kind_of 0 c s h))
              ∙ ap (λ k. kept_by k (last_variation x c s (e ∷ h))) (sym (same_known kind_of 0 c s (e ∷ h)));
        }

  variation_says : (h : History) (last : LastOfRow) (m : ℕ) → VariationStands x c s h last → in_last m last ≡ lasting_variation x c s h m
  variation_says h last m stands =
      ap (λ t. message_within t m last.message) stands.timeout_is ∙ ap (message_within x.taken.timeout m) stands.kept
      ∙ within_same x.taken.timeout m (still_held (known (receiver_of c) s h).claims.holders (last_variation x c s h))

-- ---- what is said

no_more : (n : ℕ) → n % most_count ≡ (n + 0) % most_count
no_more n = ap (λ k. k % most_count) (omega arith)

posted_by : (k : HeadingKept) (texts : List (List ℕ)) → (said_by k texts).posted ≡ posted_of k.rule.group k.sfi k.lines texts
posted_by k [] = refl
posted_by k (text ∷ texts) = refl

-- but for the count all stays
after_by : (k : HeadingKept) (texts : List (List ℕ)) → (said_by k texts).after ≡ record k { lines = (said_by k texts).after.lines }
after_by k [] = refl
after_by k (text ∷ texts) = refl

lines_by : (k : HeadingKept) (texts : List (List ℕ)) (n : ℕ) → k.lines ≡ n % most_count → (said_by k texts).after.lines ≡ (n + length texts) % most_count
lines_by k [] n is = is ∙ no_more n
lines_by k (text ∷ texts) n is = ap (λ before. (before + length (text ∷ texts)) % most_count) is ∙ mod-add-mod n most_count (length (text ∷ texts))

-- ---- an entry

same_magnetic : (o : Option Selected) → magnetic_said (option_map message_of o) ≡ magnetic_in o
same_magnetic None = refl
same_magnetic (Some y) = refl

module _ (x : HeadingRule) (c : Settings) (s : ℕ) (h : History) (settings : AreSettings c) (e : Entry) (before : HeadingKept)
    (it : StandsHeading x c s h before) (heard : Hearing) (hears_it : IsHeard kind_of 0 c s h e heard) (holder : ℕ → Option Name)
    (names : (a : ℕ) → holder a ≡ name_held (known (receiver_of c) s (e ∷ h)).claims.holders a) (new : Option SelectedMessage)
    (picks : new ≡ option_map message_of (selected_at c s h e)) (changed : Changed) (changes : changed ≡ changes_in (variation_receiver c) s (e ∷ h))
    (m : ℕ) (at : m ≡ moment_of e) where
  abbrev left : HeadingKept
  left = given_up holder changed (record before { slots = heard.slots })

  abbrev Noted : Type 0
  Noted = (o : Option Message) × IsVariationNoted x c s h e left.choices o

  note : Noted
  note =
      subst (λ (to : Changed). (o : Option Message) × IsVariationNoted x c s h e (forgotten_of to before.choices) o) (sym changes)
      (variation_noted x c s h settings before.choices it.choices e)

  abbrev taken_of : Option Message → HeadingKept
  taken_of o = kept_of x c s h settings e left it.rule o

  heard_as : (note : Noted) → message_step left (option_map said_of heard.message) ≡ told_as x c s h settings e left it.rule note.0
  heard_as note =
      ap (λ message. message_step left (option_map said_of message))
      (hears_it.message ∙ ap (option_map complete_of) (heard_is_done kind_of 0 c s h variation_is_heard settings e ∙ note.1.completes))
      ∙ message_taken x c s h settings e left it.rule note.0 note.1

  module _ (o : Option Message) (noted : IsVariationNoted x c s h e left.choices o) where
    abbrev with_new : HeadingKept
    with_new = measured_with new (taken_of o)

    measured : LastStands (rule_of c row.HeadingTrue).timeout c s row.HeadingTrue (e ∷ h) with_new.measured
    measured = last_steps c s h e (gateways_receive c settings) holder names row.HeadingTrue (rule_of c row.HeadingTrue).timeout before.measured new picks it.measured

    variation : VariationStands x c s (e ∷ h) with_new.variation
    variation =
        subst (λ d. VariationStands x c s (e ∷ h) (last_after holder row.HeadingMagnetic (option_map message_of (selected_with d (chosen_variation x c s h d))) before.variation))
        noted.completes (variation_steps x c s settings h e holder names before.variation it.variation)

    texts_are : texts_in with_new m (magnetic_said new) ≡ texts_at x c s h e
    texts_are =
        let said = variation_in (in_last m with_new.variation) in
        let is_said = rows.is_usable (in_last m with_new.measured) in
        ap (λ rule. texts_of rule is_said said (magnetic_said new)) it.rule
        ∙ ap (λ a. texts_of x is_said said a) (ap magnetic_said picks ∙ same_magnetic (selected_at c s h e))
        ∙ ap (λ r. texts_of x (rows.is_usable r) said (magnetic_in (selected_at c s h e)))
        (last_says (rule_of c row.HeadingTrue).timeout c s row.HeadingTrue (e ∷ h) with_new.measured m measured)
        ∙ ap (λ r. texts_of x (is_measured c s (e ∷ h) m) (variation_in r) (magnetic_in (selected_at c s h e)))
        (variation_says x c s settings (e ∷ h) with_new.variation m variation)
        ∙ ap (λ n. texts_of x (is_measured c s (e ∷ h) n) (variation_in (lasting_variation x c s (e ∷ h) n)) (magnetic_in (selected_at c s h e))) at

    abbrev said : HeadingStep
    said = saying_step with_new m (magnetic_said new)

    posted_is : said.posted ≡ posted_of x.group c.sfi (lines_said x c s h) (texts_at x c s h e)
    posted_is =
        posted_by with_new (texts_in with_new m (magnetic_said new))
        ∙ ap (λ texts. posted_of before.rule.group before.sfi before.lines texts) texts_are
        ∙ ap (λ (rule : HeadingRule). posted_of rule.group before.sfi before.lines (texts_at x c s h e)) it.rule
        ∙ ap (λ sfi. posted_of x.group sfi before.lines (texts_at x c s h e)) it.sfi
        ∙ ap (λ lines. posted_of x.group c.sfi lines (texts_at x c s h e)) it.lines
        ∙ posted_modulo x.group c.sfi (lines_said x c s h) (texts_at x c s h e)

    stands_after : StandsHeading x c s (e ∷ h) said.after
    stands_after = subst (StandsHeading x c s (e ∷ h)) (sym (after_by with_new (texts_in with_new m (magnetic_said new)))) (record {
      rule = it.rule;
      sfi = it.sfi;
      slots = hears_it.stands;
      choices = noted.stands;
      variation = variation;
      measured = measured;
      lines =
          lines_by with_new (texts_in with_new m (magnetic_said new)) (lines_said x c s h) it.lines
          ∙ ap (λ texts. (lines_said x c s h + length texts) % most_count) texts_are;
    })

    emits_are : (heard.told ++ message_breaks o) ++ said.posted ≡ heading_out x c s h e
    emits_are =
        append_assoc heard.told (message_breaks o) said.posted
        ∙ ap (λ told. told ++ (message_breaks o ++ said.posted)) hears_it.told
        ∙ ap (λ posted. heard_out kind_of 0 c s h e ++ (message_breaks o ++ posted)) posted_is
        ∙ ap (λ d. heard_out kind_of 0 c s h e ++ (message_breaks d ++ posted_of x.group c.sfi (lines_said x c s h) (texts_at x c s h e))) (sym noted.completes)

  abbrev IsTakenAs : MessageStep → Type 0
  IsTakenAs step =
      IsHeadingTaken x c s h e (saying_step (measured_with new step.after) m (magnetic_said new)).after
      ((heard.told ++ step.told) ++ (saying_step (measured_with new step.after) m (magnetic_said new)).posted)

  pub entry_taken : IsTakenAs (message_step left (option_map said_of heard.message))
  entry_taken =
      subst IsTakenAs (sym (heard_as note)) (record { stands = stands_after note.0 note.1; emits = emits_are note.0 note.1 })

-- ---- an event that the gateway has taken

-- a message tells once at most
said_room : (k : HeadingKept) (o : Option Said) → length (message_step k o).told ≤ 1
said_room k None = omega arith
said_room k (Some d) = by (has_place d.source) d.short
  where
    by : (b short : Bool) → length (let step : MessageStep = if b then (if short then record { after = k; told = of_source short_message d.source d.pgn ∷ [] }
        else record { after = ranked_step k d (rank_of k.rule.taken d.name.0); told = [] }) else record { after = k; told = [] } in step).told ≤ 1
    by true true = omega arith
    by true false = omega arith
    by false short = omega arith

pub step_room : (g : Machine) (k : HeadingKept) (x : Hearing) → length (heard_step g k x).told ≤ 1
step_room g k x =
    said_room (given_up (name_held g.addresses.claims.holders) g.addresses.changed (record k { slots = x.slots })) (option_map said_of x.message)

pub taken_step : (g : Machine) (outbox : Output) (new : Option SelectedMessage) → IsPicked g outbox new → (e : Entry) (before : HeadingKept)
    → IsListening kind_of g e before.slots (hearing_by g before e)
    → IsHeadingStep g outbox e before (step_by g new before e).after (emits_of (left_by g new before e))
taken_step g outbox new picked e before listening = λ x s h settings could taken it.
    let c = g.settings in
    entry_taken x c s h settings e before it (hearing_by g before e) (listening 0 s h settings could taken.stands it.slots)
    (name_held g.addresses.claims.holders) ((standing_tells_alike (receiver_of c) s (e ∷ h) g.addresses taken.stands.addresses).names)
    new (picked c s h e taken) g.addresses.changed (gateway_stands kind_of 0 c s (e ∷ h) g.addresses taken.stands.addresses).changed
    g.moment taken.stands.moment

-- ---- a command

pub commands_keep_headings : CommandsKeepHeadings
commands_keep_headings x c s h source address k settings it = record {
  rule = it.rule;
  sfi = it.sfi;
  slots = commands_leave_listening kind_of 0 c s h source address k.slots variation_is_heard settings it.slots;
  choices = variation_commanded x c s h k.choices it.choices (now h) source address;
  variation = record {
    timeout_is = it.variation.timeout_is;
    kept =
        it.variation.kept
        ∙ ap (λ (holders : List (Option Holder)). option_map message_of (still_held holders (last_variation x c s h)))
        (sym (commanded_holders (known (receiver_of c) s h).claims address (now h)));
  };
  measured = last_stays (rule_of c row.HeadingTrue).timeout c s row.HeadingTrue h (now h) source address k.measured it.measured;
  lines = it.lines ∙ no_more (lines_said x c s h);
}
