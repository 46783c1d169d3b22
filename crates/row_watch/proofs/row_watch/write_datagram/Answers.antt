use Rattle.std.proofs.Common.{◌≤◌, ℕ, List, length, sym, subst}
use Rattle.row_watch.specs.Alerts.{longest_alert}
use Rattle.row_watch.proofs.Places.{datagram_short}
use Rattle.row_watch.proofs.row_watch.write_datagram.Goals as goal

pub returns-clause-short : goal.returns-clause-short
returns-clause-short c =
    subst (λ (bytes : List ℕ). length bytes ≤ longest_alert) (sym c.write_sentence.ensures)
    (datagram_short c.args.source c.args.before c.deref.result.now c.as_bytes-form.ensures.form c.deref.ensures.1)
