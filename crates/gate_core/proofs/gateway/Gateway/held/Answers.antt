use Rattle.std.proofs.Common.{◌≤◌, subst, sym}
use Rattle.gate_model.specs.Machine.{Machine}
use Rattle.gate_model.specs.Stands.{Stands}
use Rattle.gate_model.proofs.StandsReached.{all_reached_fits}
use Rattle.gate_core.specs.declared.gateway.HeldCounts.{HeldCounts}
use Rattle.gate_core.specs.Holding.{IsHeld, IsWithin}
use Rattle.gate_core.specs.Steps.{by_keys}
use Rattle.gate_core.proofs.Holding.{held_is}
use Rattle.gate_core.proofs.gateway.Gateway.held.Goals as goal

pub returns-clause-limits : goal.returns-clause-limits
returns-clause-limits c =
    let g = c.self.inside.state in
    let fits = all_reached_fits by_keys g c.self.invariant in
    let x : HeldCounts = record { fast = c.fast_held.result; iso = c.iso_held.result; group = c.groups_held.result } in
    subst (λ (z : Machine). IsWithin z.settings x) c.self.view_is
    (record {
      fast = subst (λ n. n ≤ g.settings.fast_slots) (sym c.fast_held.ensures) fits.fast.within;
      iso = subst (λ n. n ≤ g.settings.iso_slots) (sym c.iso_held.ensures) fits.sessions.within;
      group = subst (λ n. n ≤ g.settings.group_slots) (sym c.groups_held.ensures) fits.groups.within;
    })

pub returns-clause-history : goal.returns-clause-history
returns-clause-history c =
    let g = c.self.inside.state in
    let x : HeldCounts = record { fast = c.fast_held.result; iso = c.iso_held.result; group = c.groups_held.result } in
    λ s h stands. subst (λ (z : Machine). IsHeld z.settings s h x) c.self.view_is
    (held_is g s h x c.self.invariant (subst (λ (z : Machine). Stands by_keys z.settings s h z) (sym c.self.view_is) stands) c.fast_held.ensures
    c.iso_held.ensures c.groups_held.ensures)
