use Rattle.std.proofs.Common.{◌≡◌, ◌≤◌, length, map, ap, subst, sym, ◌∙◌, arith}
use Rattle.std.specs.Prelude.{All}
use Rattle.std.proofs.lemmas.List.{length-map}
use Rattle.slot_views.specs.Slots.{SlotMap}
use Rattle.fast_packet.specs.declared.key.FastKey.{FastKey}
use Rattle.claim_table.specs.Claims.{places}
use Rattle.settings.specs.Setup.{IsQuantity}
use Rattle.source_choice.specs.Choices.{Choices, nothing, opened}
use Rattle.parts.specs.Picked.{IsMessageValid}
use Rattle.joined_rmc.specs.declared.last_of_row.LastOfRow.{LastOfRow}
use Rattle.bus_listener.specs.Promises.{IsOpening}
use Rattle.further_bridge.specs.declared.config.FurtherConfig.{FurtherConfig}
use Rattle.further_bridge.specs.FurtherRule.{further_rule}
use Rattle.further_bridge.specs.Kept.{FurtherKept}
use Rattle.further_bridge.specs.Promises.{IsFurtherOpening}
use Rattle.further_bridge.proofs.Opening.{opened_as, opening_stands, rules_count}
use Rattle.further_bridge.proofs.bridge.FurtherBridge.new.Goals as goal

pub invariant_of-result : goal.invariant_of-result
invariant_of-result c =
    let timeouts : c.timeouts_of.result ≡ map (λ q. q.timeout_ms) c.args.quantities.now.each = rw c.as_slice.ensures.value at c.timeouts_of.ensures in (
      subst (λ (x : FurtherConfig). All IsQuantity x.quantities.each) (sym c.in_ok-config.ensures) c.requires.each,
      subst (λ (slots : SlotMap FastKey). slots.limit ≤ 256) (sym c.in_ok-listener.ensures.value) c.requires.slots.1,
      ap (λ (choices : Choices). choices.sources) c.in_ok-choice.ensures,
      ap (λ (choices : Choices). length choices.subjects) c.in_ok-choice.ensures
          ∙ (length-map c.timeouts_of.result (nothing places)
          ∙ (ap (λ ts. length ts) timeouts ∙ (length-map c.args.quantities.now.each (λ q. q.timeout_ms) ∙ c.as_slice.ensures.count))),
      subst (λ (last : LastOfRow). IsMessageValid last.message) (sym c.new-3.ensures) tt,
      omega arith,
    )

pub returns-clause-value : goal.returns-clause-value
returns-clause-value c =
    let timeouts : c.timeouts_of.result ≡ map (λ q. q.timeout_ms) c.args.quantities.now.each = rw c.as_slice.ensures.value at c.timeouts_of.ensures in
    opened_as c.args.ignored.now c.args.quantities.now c.args.sfi c.args.water_timeout c.in_ok-config.config c.in_ok-listener.listener c.in_ok-choice.choice c.new-3.result
    c.in_ok-config.ensures c.in_ok-listener.ensures.value (c.in_ok-choice.ensures ∙ ap (opened places) timeouts) c.new-3.ensures

pub returns-clause-history : goal.returns-clause-history
unfolding further_rule
returns-clause-history c =
    let x = further_rule c.args.ignored.now.items c.args.quantities.now in
    let listens = subst (λ (slots : SlotMap FastKey). IsOpening c.args.quantities.now.slots slots) c.in_ok-listener.ensures.value
    c.in_ok-listener.ensures.history in
    subst (λ (k : FurtherKept). IsFurtherOpening x c.args.sfi c.args.water_timeout k) (sym (returns-clause-value c))
    (opening_stands x (rules_count c.args.ignored.now c.args.quantities.now c.args.sfi c.args.water_timeout c.as_slice.ensures.count) c.args.sfi c.args.water_timeout listens)
