use Rattle.std.proofs.Common.{rules, arith, ◌≡◌, ◌<◌, None, Option, replicate, length, length-set, ap, sym, ◌∙◌}
use Rattle.std.proofs.lemmas.List.{length-replicate}
use Rattle.std.proofs.lemmas.List.Elements.{All-get_or}
use Rattle.std.proofs.lemmas.Result.{IfOk-from_err}
use Rattle.claim_table.specs.declared.answer.Holder.{Holder}
use Rattle.claim_table.specs.declared.preset.Preset.{Preset}
use Rattle.claim_table.specs.Claims.{places, with_presets}
use Rattle.claim_table.proofs.PresetLemmas.{placed_end, placed_further}
use Rattle.claim_table.proofs.preset.placed.Goals as goal

pub returns-in_err-holders-clause-holders : goal.returns-in_err-holders-clause-holders
returns-in_err-holders-clause-holders c = IfOk-from_err _ _ c.from_residual.ensures.0

pub returns-in_err-holders-clause-room : goal.returns-in_err-holders-clause-room
returns-in_err-holders-clause-room c = IfOk-from_err _ _ c.from_residual.ensures.0

pub loop-preset-init : goal.loop-preset-init
loop-preset-init c =
    let empty : c.in_ok-holders.holders.items ≡ replicate 254 None = c.in_ok-holders.ensures.items_if_clones_equal (λ y is. search rules) in
    record {
      rest = ap (λ holders. with_presets holders c.args.presets.now) empty;
      room = ap length empty ∙ length-replicate {A = Option Holder} 254 None;
    }

pub index_mut-requires : goal.index_mut-requires
index_mut-requires c =
    let within = All-get_or (λ (p : Preset). p.address < places) c.args.presets.now c.loop-preset.preset-index (record { address = 0; name = record { 0 = 0 } }) c.loop-preset-test.true c.requires in
    omega (arith, c.from.ensures, within, c.loop-preset.holders.ok.0, c.loop-preset.invariant.room)

pub loop-preset-preserved : goal.loop-preset-preserved
loop-preset-preserved c =
    rw c.from.ensures record {
      rest = sym (placed_further c.loop-preset.holders.items c.args.presets.now c.loop-preset.preset-index _ c.loop-preset-test.true) ∙ c.loop-preset.invariant.rest;
      room = length-set _ _ _ ∙ c.loop-preset.invariant.room;
    }

pub returns-clause-holders : goal.returns-clause-holders
returns-clause-holders c =
    sym (placed_end c.loop-preset.holders.items c.args.presets.now c.loop-preset.preset-index c.loop-preset-test.false) ∙ c.loop-preset.invariant.rest

pub returns-clause-room : goal.returns-clause-room
returns-clause-room c = c.loop-preset.invariant.room
