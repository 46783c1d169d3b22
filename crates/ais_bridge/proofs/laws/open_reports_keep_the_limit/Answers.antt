use Rattle.bus_listener.proofs.CommandLemmas.{messages_keep_the_limit}
use Rattle.ais_bridge.specs.AisKinds.{reports_are_heard}
use Rattle.ais_bridge.specs.AisOut.{report_kinds}
use Rattle.ais_bridge.proofs.laws.open_reports_keep_the_limit.Goals as goal

pub returns : goal.returns
returns c = λ a settings s h m are could later. messages_keep_the_limit report_kinds a.slots settings s h m reports_are_heard are could later
