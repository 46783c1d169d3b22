use Rattle.gate_config.proofs.Alone.{files_say_settings, keys_say_settings}
use Rattle.gate_config.proofs.laws.settings_stand_alone.Goals as goal

pub returns-clause-keys : goal.returns-clause-keys
returns-clause-keys c = keys_say_settings

pub returns-clause-files : goal.returns-clause-files
returns-clause-files c = files_say_settings
