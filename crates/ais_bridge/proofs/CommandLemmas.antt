-- A bridge that stands for a history stands for it with a command as well.
use Rattle.std.proofs.Common.{ℕ, ◌%◌, ap, ◌∙◌, arith}
use Rattle.tag_block.specs.Tag.{most_count}
use Rattle.bus_listener.proofs.CommandLemmas.{commands_leave_listening}
use Rattle.ais_bridge.specs.AisKinds.{reports_are_heard}
use Rattle.ais_bridge.specs.AisOut.{report_kinds}
use Rattle.ais_bridge.specs.Promises.{CommandsLeaveAis}

pub commands_leave_ais : CommandsLeaveAis
commands_leave_ais a c s h source address k settings it = record {
  group = it.group;
  sfi = it.sfi;
  slots = commands_leave_listening report_kinds a.slots c s h source address k.slots reports_are_heard settings it.slots;
  lines = it.lines ∙ ap (λ (n : ℕ). n % most_count) (omega arith);
}
