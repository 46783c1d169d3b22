use Rattle.iso_transport.proofs.Joining.{keys_total, keys_apart}
use Rattle.iso_transport.proofs.Heard.{hears_what_bears}
use Rattle.iso_transport.proofs.Keys.{all_follow, all_answered}
use Rattle.iso_transport.proofs.laws.all_sessions_follow_runs.Goals as goal

pub returns-clause-follows : goal.returns-clause-follows
returns-clause-follows c limit h fits = all_follow keys_total keys_apart.same limit h fits

pub returns-clause-answers : goal.returns-clause-answers
returns-clause-answers c limit h own parts x fits ours kind = all_answered keys_total keys_apart.same limit h own parts x fits ours kind

pub returns-clause-heard : goal.returns-clause-heard
returns-clause-heard c own limit h order = hears_what_bears keys_total own limit h order
