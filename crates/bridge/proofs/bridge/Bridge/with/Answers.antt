use Rattle.std.proofs.Common.{refl}
use Rattle.config_values.proofs.SettingsLemmas.{are_settings}
use Rattle.bridge.specs.BridgeSettings.{bridge_settings_of}
use Rattle.bridge.proofs.bridge.Bridge.with.Goals as goal

pub returns : goal.returns
unfolding bridge_settings_of
returns c = record {
  settings = (are_settings c.args.setup.now.ignore.items c.args.setup.now.optional_sentences c.args.setup.now.settings.config c.requires.settings.config).settings;
  waits = refl;
  output = c.in_ok-output.ensures;
  gateway = c.in_ok-gateway.ensures;
  parts = c.in_ok-parts.ensures;
  plain = c.in_ok-plain.ensures;
  replaced = c.by.ensures;
  records = refl;
}
