-- A change of the device that a row is taken from as a part beside the gateway, as one value: it is told by a report, and says nothing on the network.
use Rattle.std.proofs.Common.{◌≡◌, List, [], refl}
use Rattle.std.specs.Prelude.{Option, Some, None}
use Rattle.n2k_id.specs.declared.name.Name.{Name}
use Rattle.gate_events.specs.declared.emit.Report.{Report}
use Rattle.history.specs.EntryLaws.{nets_in}
use Rattle.parts.specs.Selected.{selected_at}
use Rattle.parts.specs.Utterances.{streamless, utters_datagrams}
use Rattle.parts.specs.Forms.{PartForm, place}
use Rattle.parts.specs.PartSteps.{KeepsCommands}
use Rattle.parts.specs.Voices.{silent}
use Rattle.source_changes.specs.SourceOut.{changed, source_out, told}
use Rattle.source_changes.specs.SourcesPart.{sources_asked, sources_give, sources_stand}

pub keeps_commands : KeepsCommands sources_stand
keeps_commands r c s h source address names are stands = record { long = stands.long; each = stands.each }

pub no_change : (o : Option Report) → nets_in (told o) ≡ []
no_change None = refl
no_change (Some r) = refl

abbrev pub sources : PartForm
sources = record {
  rule = Unit {0};
  asked = sources_asked;
  kept = List (Option Name);
  places = place 1;
  stand = sources_stand;
  give = sources_give;
  utter = streamless sources_give;
  say = λ r c s h e. [];
  speaks = λ r c. Unit {0};
  commands = keeps_commands;
  read = λ r c s h e speaks. silent (source_out c s h e) (no_change (changed c s h (selected_at c s h e)));
  understood = λ x typed valid. λ r is. tt;
  datagrams = utters_datagrams None sources_give;
}
