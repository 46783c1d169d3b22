-- An event that the gateway has taken: the bridge stands for the history with it, and gives what the definition over that history says.
use Rattle.std.proofs.Common.{◌≡◌, ℕ, ◌+◌, ◌%◌, List, [], ◌∷◌, Option, Some, None, option_map, Result, Ok, Err, refl, sym, ap, subst, ◌∙◌, append_assoc}
use Rattle.std.proofs.Math.Nat.{mod-add-mod}
use Rattle.gate_events.specs.declared.event.Event.{Event}
use Rattle.gate_events.specs.Emit.{net}
use Rattle.tag_block.specs.Tag.{most_count}
use Rattle.datagram450.proofs.Counts.{counted_modulo}
use Rattle.ais_report.specs.declared.report.AisReport.{AisReport}
use Rattle.ais_report.specs.declared.report.AisFault.{AisFault}
use Rattle.ais_report.specs.declared.report.AisFault.TheVariants.{Short, Outside}
use Rattle.settings.specs.declared.ais.AisConfig.{AisConfig}
use Rattle.history.specs.Entries.{Entry, History}
use Rattle.history.specs.Settings.{Settings}
use Rattle.gate_model.specs.Machine.{Machine}
use Rattle.gate_model.proofs.StandsTimes.{joined}
use Rattle.gate_outbox.specs.Output.{Emitted, emits_of}
use Rattle.bus_listener.specs.Steps.{entry_of}
use Rattle.bus_listener.specs.Kept.{Hearing}
use Rattle.bus_listener.specs.Promises.{IsHeard}
use Rattle.bus_listener.proofs.EventLemmas.{is_step as hears_so}
use Rattle.ais_bridge.specs.AisKinds.{reports_are_heard}
use Rattle.ais_bridge.specs.AisKept.{AisKept, with_heard}
use Rattle.ais_bridge.specs.AisOut.{ais_said, lines_said, report_gives, report_kinds}
use Rattle.ais_bridge.specs.Promises.{IsAisStep, IsAisTaken, StandsAis, step_by}
use Rattle.ais_bridge.specs.Reports.{line_count, report_datagram, report_sentence, said_by, said_gives}
use Rattle.ais_bridge.specs.declared.said.Said.{Said}

-- a count is said modulo the greatest one
same_count : (group sfi : List ℕ) (n : ℕ) (x : Option Said) → said_gives group sfi (n % most_count) x ≡ said_gives group sfi n x
unfolding report_datagram
same_count group sfi n None = refl
same_count group sfi n (Some x) = by x.source x.pgn x.says
  where
    by : (source pgn : ℕ) (says : Result (AisReport × ℕ) AisFault)
        → said_gives group sfi (n % most_count) (Some (record { source = source; pgn = pgn; says = says }))
        ≡ said_gives group sfi n (Some (record { source = source; pgn = pgn; says = says }))
    by source pgn (Ok y) = ap (λ bytes. record { told = []; posted = net group bytes ∷ [] }) (counted_modulo sfi n (report_sentence y))
    by source pgn (Err Short) = refl
    by source pgn (Err Outside) = refl

module _ (a : AisConfig) (c : Settings) (s : ℕ) (h : History) (e : Entry) (k : AisKept) (it : StandsAis a c s h k) (x : Hearing)
    (hears : IsHeard report_kinds a.slots c s h e x) where
  abbrev says : Option Said
  says = ais_said a c s h e

  abbrev heard_says : Option Said
  heard_says = option_map said_by x.message

  said_is : heard_says ≡ says
  said_is = ap (option_map said_by) hears.message

  lines_are : (k.lines + line_count heard_says) % most_count ≡ lines_said a c s (e ∷ h) % most_count
  lines_are =
      ap (λ n. (n + line_count heard_says) % most_count) it.lines
      ∙ (mod-add-mod (lines_said a c s h) most_count (line_count heard_says) ∙ ap (λ o. (lines_said a c s h + line_count o) % most_count) said_is)

  gives_is : emits_of (said_gives k.group k.sfi k.lines heard_says) ≡ report_gives a c s h e
  gives_is =
      rw (it.group, it.sfi, it.lines) (ap (λ o. emits_of (said_gives a.group c.sfi (lines_said a c s h % most_count) o)) said_is
      ∙ ap emits_of (same_count a.group c.sfi (lines_said a c s h) says))

  pub is_taken : IsAisTaken a c s h e (with_heard k x).after (emits_of (with_heard k x).emits)
  is_taken = record {
    stands = record { group = it.group; sfi = it.sfi; slots = hears.stands; lines = lines_are };
    emits = append_assoc x.told _ _ ∙ joined hears.told gives_is;
  }

pub taken_step : (g : Machine) (x : Event) (before after : AisKept) (left : Emitted) → after ≡ (step_by g before (entry_of x)).after
    → left ≡ (step_by g before (entry_of x)).emits → IsAisStep g (entry_of x) before after (emits_of left)
taken_step g x before after left is gives = λ a s h settings could gs it.
    let hears = hears_so report_kinds reports_are_heard g x before.slots a.slots s h settings could gs it.slots in
    let taken = is_taken a g.settings s h (entry_of x) before it _ hears in
    record {
      stands = subst (λ k. StandsAis a g.settings s (entry_of x ∷ h) k) (sym is) taken.stands;
      emits = ap emits_of gives ∙ taken.emits;
    }
