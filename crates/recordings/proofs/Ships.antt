-- Reports of ships around, and further quantities, are the same with a tick before an entry and without it, where what is overdue at it is.
use Rattle.std.proofs.Common.{◌≡◌, ℕ, ◌+◌, List, [], ◌∷◌, ◌++◌, length, map, refl, sym, ap, ◌∙◌, arith}
use Rattle.std.specs.Prelude.{Bool, Option, Some, None, filter, option_map, if◌then◌else◌}
use Rattle.quantities.specs.Told.{kind_of}
use Rattle.quantities.specs.declared.value.Value.{Value}
use Rattle.claim_table.specs.declared.answer.Holder.{Holder}
use Rattle.settings.specs.declared.ais.AisConfig.{AisConfig}
use Rattle.gate_model.specs.Said.{Complete, complete_of}
use Rattle.gate_outbox.specs.Output.{emits_of}
use Rattle.history.specs.Entries.{Entry, History, moment_of, tick}
use Rattle.history.specs.Known.{Known, known}
use Rattle.history.specs.Messages.{Message, messages_of}
use Rattle.history.specs.Choice.{is_usable}
use Rattle.history.specs.Settings.{Settings, rule_of}
use Rattle.readings.specs.declared.rows.Row.TheVariants as row
use Rattle.bus_listener.specs.Heard.{heard_expired}
use Rattle.ais_bridge.specs.AisOut.{ais_done, ais_out, ais_said, lines_said, report_kinds}
use Rattle.ais_bridge.specs.Reports.{line_count, said_by, said_gives}
use Rattle.further_bridge.specs.FurtherOut as further
use Rattle.further_bridge.specs.FurtherOut.{further_done, further_out, further_receiver, further_utters, has_voice, is_row_said, is_selected, magnetic_in, message_breaks, number_in, quantity_told, said_at, said_utters, selected, selected_in, told_by, values_of}
use Rattle.further_bridge.specs.FurtherRule.{FurtherRule, rule_at}
use Rattle.recordings.proofs.Places.{closed}
use Rattle.recordings.proofs.Renumbered.{holder_as}
use Rattle.recordings.proofs.Known.{known_without}
use Rattle.recordings.proofs.Lasting.{lasting_without}
use Rattle.recordings.proofs.Noted.{message_as}
use Rattle.recordings.proofs.Messages.{MessagesApart, chosen_as, messages_apart, messages_without}
use Rattle.recordings.proofs.Gathered.{ap₃, joined}
use Rattle.recordings.proofs.Listened.{heard_done_without, heard_out_without}

-- ---- ships

complete_as : (f : ℕ → ℕ) (d : Option Message) → option_map complete_of (option_map (message_as f) d) ≡ option_map complete_of d
complete_as f None = refl
complete_as f (Some d) = refl

module _ (a : AisConfig) (c : Settings) (s m : ℕ) (h : History) where
  ais_complete_without : (newer : History) (e : Entry) → option_map complete_of (ais_done a c s (newer ++ h) e) ≡ option_map complete_of (ais_done a c s (newer ++ tick m ∷ h) e)
  ais_complete_without newer e =
      ap (option_map complete_of) (heard_done_without report_kinds a.slots c s m h newer e) ∙ complete_as (closed (length h)) (ais_done a c s (newer ++ tick m ∷ h) e)

  ais_lines_without : (newer : History) → lines_said a c s (newer ++ h) ≡ lines_said a c s (newer ++ tick m ∷ h)
  ais_lines_without [] = by (lines_said a c s h)
    where
      by : (n : ℕ) → n ≡ n + 0
      by n = omega arith
  ais_lines_without (e ∷ newer) =
      ap (λ (d : Option Complete). lines_said a c s (newer ++ h) + line_count (option_map said_by d)) (ais_complete_without newer e)
      ∙ ap (λ (before : ℕ). before + line_count (ais_said a c s (newer ++ tick m ∷ h) e)) (ais_lines_without newer)

  pub ais_without : (newer : History) (e : Entry)
      → heard_expired report_kinds a.slots c s (newer ++ h) (moment_of e) ≡ heard_expired report_kinds a.slots c s (newer ++ tick m ∷ h) (moment_of e)
      → ais_out a c s (newer ++ h) e ≡ ais_out a c s (newer ++ tick m ∷ h) e
  ais_without newer e overdue =
      joined (heard_out_without report_kinds a.slots c s m h newer e overdue)
      (ap (λ (before : ℕ). emits_of (said_gives a.group c.sfi before (ais_said a c s (newer ++ h) e))) (ais_lines_without newer)
      ∙ ap (λ (d : Option Complete). emits_of (said_gives a.group c.sfi (lines_said a c s (newer ++ tick m ∷ h)) (option_map said_by d))) (ais_complete_without newer e))

-- ---- further quantities

same_filter : (p q : Value → Bool) → ((v : Value) → p v ≡ q v) → (values : List Value) → filter p values ≡ filter q values
same_filter p q same [] = refl
same_filter p q same (v ∷ values) =
    ap (λ (b : Bool). if b then v ∷ filter p values else filter p values) (same v)
    ∙ ap (λ (rest : List Value). if q v then v ∷ rest else rest) (same_filter p q same values)

abbrev selected_of : FurtherRule → List (Option Holder) → List Message → Option Message → List Value
selected_of x holders older None = []
selected_of x holders older (Some d) = selected x holders older d

module _ (x : FurtherRule) (n : ℕ) (holders : List (Option Holder)) (older : List Message) (apart : MessagesApart n older) where
  pub values_as : (d : Option Message)
      → selected_of x (map (holder_as (closed n)) holders) (map (message_as (closed n)) older) (option_map (message_as (closed n)) d) ≡ selected_of x holders older d
  values_as None = refl
  values_as (Some d) =
      same_filter (is_selected x (map (holder_as (closed n)) holders) (map (message_as (closed n)) older) (message_as (closed n) d)) (is_selected x holders older d)
      (λ v. chosen_as (quantity_told (number_in v)) n (λ y. refl) (λ subject. rule_at x (number_in v)) holders older d (told_by v) apart) (values_of d)

breaks_as : (f : ℕ → ℕ) (d : Option Message) → message_breaks (option_map (message_as f) d) ≡ message_breaks d
breaks_as f None = refl
breaks_as f (Some d) = refl

magnetic_as : (f : ℕ → ℕ) (d : Option Message) → magnetic_in (option_map (message_as f) d) ≡ magnetic_in d
magnetic_as f None = refl
magnetic_as f (Some d) = refl

selected_is : (x : FurtherRule) (c : Settings) (s : ℕ) (h : History) (d : Option Message)
    → selected_in x c s h d ≡ selected_of x (known (further_receiver x c) s h).claims.holders (messages_of (further_receiver x c) s h) d
selected_is x c s h None = refl
selected_is x c s h (Some d) = refl

module _ (x : FurtherRule) (c : Settings) (s m : ℕ) (h : History) where
  selected_values_without : (newer : History) (e : Entry)
      → selected_in x c s (newer ++ h) (further_done x c s (newer ++ h) e) ≡ selected_in x c s (newer ++ tick m ∷ h) (further_done x c s (newer ++ tick m ∷ h) e)
  selected_values_without newer e =
      let r = further_receiver x c in
      let with_it = newer ++ tick m ∷ h in
      selected_is x c s (newer ++ h) (further_done x c s (newer ++ h) e)
      ∙ ap₃ (λ (k : Known) (older : List Message) (d : Option Message). selected_of x k.claims.holders older d)
      (known_without r s m h newer) (messages_without r s m h newer) (heard_done_without kind_of x.slots c s m h newer e)
      ∙ values_as x (length h) (known r s with_it).claims.holders (messages_of r s with_it) (messages_apart r s m h newer) (further_done x c s with_it e)
      ∙ sym (selected_is x c s with_it (further_done x c s with_it e))

  row_without : (newer : History) (t : ℕ) → is_row_said c s (newer ++ h) t ≡ is_row_said c s (newer ++ tick m ∷ h) t
  row_without newer t = ap is_usable (lasting_without c s m h newer (rule_of c row.WaterTemperature).timeout row.WaterTemperature t)

  values_without : (newer : History) (e : Entry) → said_at x c s (newer ++ h) e ≡ said_at x c s (newer ++ tick m ∷ h) e
  values_without newer e =
      ap (λ (b : Bool). filter (has_voice b) (selected_in x c s (newer ++ h) (further_done x c s (newer ++ h) e))) (row_without (e ∷ newer) (moment_of e))
      ∙ ap (filter (has_voice (is_row_said c s (e ∷ newer ++ tick m ∷ h) (moment_of e)))) (selected_values_without newer e)

  further_lines_without : (newer : History) → further.lines_said x c s (newer ++ h) ≡ further.lines_said x c s (newer ++ tick m ∷ h)
  further_lines_without [] = by (further.lines_said x c s h)
    where
      by : (n : ℕ) → n ≡ n + 0
      by n = omega arith
  further_lines_without (e ∷ newer) =
      ap (λ (vs : List Value). further.lines_said x c s (newer ++ h) + length vs) (values_without newer e)
      ∙ ap (λ (before : ℕ). before + length (said_at x c s (newer ++ tick m ∷ h) e)) (further_lines_without newer)

  pub further_without : (newer : History) (e : Entry)
      → heard_expired kind_of x.slots c s (newer ++ h) (moment_of e) ≡ heard_expired kind_of x.slots c s (newer ++ tick m ∷ h) (moment_of e)
      → further_out x c s (newer ++ h) e ≡ further_out x c s (newer ++ tick m ∷ h) e
  further_without newer e overdue =
      let with_it = newer ++ tick m ∷ h in
      joined (heard_out_without kind_of x.slots c s m h newer e overdue)
      (joined (ap message_breaks (heard_done_without kind_of x.slots c s m h newer e) ∙ breaks_as (closed (length h)) (further_done x c s with_it e))
      (ap (λ (before : ℕ). further.said_gives x c.sfi before (said_at x c s (newer ++ h) e)) (further_lines_without newer)
      ∙ ap (λ (vs : List Value). further.said_gives x c.sfi (further.lines_said x c s with_it) vs) (values_without newer e)))

  -- each with its stream
  pub utters_without : (newer : History) (e : Entry) → further_utters x c s (newer ++ h) e ≡ further_utters x c s (newer ++ tick m ∷ h) e
  utters_without newer e =
      let with_it = newer ++ tick m ∷ h in
      ap (λ (d : Option Message). said_utters x (magnetic_in d) c.sfi (further.lines_said x c s (newer ++ h)) (said_at x c s (newer ++ h) e))
      (heard_done_without kind_of x.slots c s m h newer e)
      ∙ ap (λ (b : Bool). said_utters x b c.sfi (further.lines_said x c s (newer ++ h)) (said_at x c s (newer ++ h) e))
      (magnetic_as (closed (length h)) (further_done x c s with_it e))
      ∙ ap (λ (before : ℕ). said_utters x (magnetic_in (further_done x c s with_it e)) c.sfi before (said_at x c s (newer ++ h) e)) (further_lines_without newer)
      ∙ ap (λ (vs : List Value). said_utters x (magnetic_in (further_done x c s with_it e)) c.sfi (further.lines_said x c s with_it) vs) (values_without newer e)
