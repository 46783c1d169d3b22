use Rattle.history.proofs.Fits.{all_entries_fit}
use Rattle.history.proofs.FitRoom.{datagrams_fit, room_suffices}
use Rattle.history.proofs.laws.entries_fit.Goals as goal

pub returns-clause-entries : goal.returns-clause-entries
returns-clause-entries c = all_entries_fit

pub returns-clause-datagrams : goal.returns-clause-datagrams
returns-clause-datagrams c = datagrams_fit

pub returns-clause-room : goal.returns-clause-room
returns-clause-room c = room_suffices
