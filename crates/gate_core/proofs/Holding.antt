-- As many messages are in the making as keys are open of all that came.
use Rattle.std.proofs.Common.{◌≡◌, ℕ, length, ◌∙◌}
use Rattle.history.specs.Entries.{History, now}
use Rattle.history.specs.Settings.{receiver_of}
use Rattle.history.specs.Known.{known}
use Rattle.history.specs.Opens.{notes_of}
use Rattle.history.specs.Heard.{taken_lines}
use Rattle.history.specs.Gate.{heard}
use Rattle.history.proofs.GroupCounts.{slots_count_groups}
use Rattle.history.proofs.Receivers.{gateways_receive}
use Rattle.gate_model.specs.Machine.{Machine}
use Rattle.gate_model.specs.Stands.{Stands, IsReached}
use Rattle.gate_model.proofs.FastTimes.{standing_holds_fast}
use Rattle.gate_model.proofs.SessionTimes.{standing_holds}
use Rattle.gate_model.proofs.NetHeard.{all_heard}
use Rattle.gate_model.proofs.NetGroups.{holds}
use Rattle.gate_core.specs.declared.gateway.HeldCounts.{HeldCounts}
use Rattle.gate_core.specs.Holding.{IsHeld}
use Rattle.gate_core.specs.Steps.{by_keys}
use Rattle.gate_core.proofs.Promises.{orders}

pub held_is : (g : Machine) (s : ℕ) (h : History) (x : HeldCounts) → IsReached by_keys g → Stands by_keys g.settings s h g
    → x.fast ≡ length g.fast.entries → x.iso ≡ length g.sessions.entries → x.group ≡ length g.network.groups.entries → IsHeld g.settings s h x
held_is g s h x it stands fast iso group =
    let c = g.settings in
    let r = receiver_of c in
    let lines = taken_lines c (heard c s h) in
    record {
      fast =
          fast
          ∙ (standing_holds_fast r.kinds by_keys.fast r.fast_slots (known r s h).claims.holders (notes_of r s h) (now h) g.fast orders.fast
          stands.fast).counts.count;
      iso = iso ∙ (standing_holds by_keys.sessions orders.sessions r s h (now h) g.sessions (gateways_receive c it.settings) stands.sessions).counts.count;
      group =
          group
          ∙ (slots_count_groups by_keys.groups lines (now h) g.network.groups
          (holds by_keys.groups orders.groups c.group_slots lines (all_heard c (heard c s h) stands.network.items) (now h) g.network.groups
          stands.network.groups)).count;
    }
