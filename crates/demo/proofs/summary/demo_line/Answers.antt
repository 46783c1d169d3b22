use Rattle.std.proofs.Common.{◌≡◌, [], sym, ap, subst, ◌∙◌}
use Rattle.history.specs.Gate.{gate}
use Rattle.history.specs.Settings.{Settings}
use Rattle.gate_model.specs.Stands.{Stands}
use Rattle.gate_core.specs.Steps.{by_keys}
use Rattle.demo.specs.declared.tally.Tally.{Tally}
use Rattle.demo.specs.Demo.{demo_text, lived, open_fast, summary_text}
use Rattle.demo.specs.Input.{events}
use Rattle.demo.specs.Setup.{demo_settings}
use Rattle.demo.specs.Tally.{tally_of}
use Rattle.demo.proofs.summary.demo_line.Goals as goal

pub returns : goal.returns
unfolding demo_text
returns c =
    let g = c.run-tally.new.gateway in
    let es = events c.args.seed c.args.count in
    let h = lived demo_settings 0 [] es in
    let stands = c.run-tally.ensures.stands in
    let here : Stands by_keys g.settings 0 h g = subst (λ (z : Settings). Stands by_keys z 0 h g) (sym stands.settings) stands in
    let fast : c.held.result.fast ≡ open_fast demo_settings 0 h =
    subst (λ (z : Settings). c.held.result.fast ≡ open_fast z 0 h) stands.settings (c.held.ensures.history 0 h here).fast in
    c.summary.ensures ∙ ap (λ (t : Tally). summary_text c.args.count t c.held.result.fast) c.run-tally.ensures.tally
    ∙ ap (summary_text c.args.count (tally_of (gate demo_settings 0 es))) fast
