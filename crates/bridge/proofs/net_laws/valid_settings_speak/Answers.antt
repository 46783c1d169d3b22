use Rattle.bridge.proofs.NetSpeaking.{valid_settings_speak as they_do}
use Rattle.bridge.proofs.net_laws.valid_settings_speak.Goals as goal

pub returns : goal.returns
returns c = they_do
