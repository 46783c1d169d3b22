use Rattle.std.proofs.Common.{◌≡◌, ◌≤◌, false, ap, sym, ◌∙◌, length, subst}
use Rattle.readings.specs.Rows.{row_of}
use Rattle.history.specs.Opens.{is_fast}
use Rattle.history.specs.NetReadings.{is_fast_row}
use Rattle.pgn_profile.specs.Profiled.{kind_of, priority_of}
use Rattle.row_traffic.proofs.Pieces.{can_send_as, fits_a_frame}
use Rattle.row_traffic.proofs.sending.send_reading.Goals as goal

pub send_fast-requires-clause-parts : goal.send_fast-requires-clause-parts
send_fast-requires-clause-parts c =
    can_send_as (row_of c.args.reading.now) c.args.address c.priority.result c.write-pgn.result
    (c.priority.ensures ∙ ap priority_of c.row.ensures) c.write-pgn.ensures.pgn

pub send_single-requires : goal.send_single-requires
send_single-requires c =
    let r = c.args.reading.now in
    let single : is_fast_row (row_of r) ≡ false =
    ap (λ pgn. is_fast (kind_of pgn)) (sym c.write-pgn.ensures.pgn) ∙ ap is_fast (sym c.kind.ensures) ∙ sym c.is_fast.ensures ∙ c.if-is_fast.false in
    record {
      parts =
          can_send_as (row_of r) c.args.address c.priority.result c.write-pgn.result
          (c.priority.ensures ∙ ap priority_of c.row.ensures) c.write-pgn.ensures.pgn;
      fits = subst (λ p. length p ≤ 8) (sym (c.deref-else-is_fast.ensures.0 ∙ c.write-pgn.ensures.payload)) (fits_a_frame r single);
    }

pub write-pgn-requires-clause-valid : goal.write-pgn-requires-clause-valid
write-pgn-requires-clause-valid c = c.requires.valid

pub send_fast-requires-clause-sequence : goal.send_fast-requires-clause-sequence
send_fast-requires-clause-sequence c = c.requires.sequence
