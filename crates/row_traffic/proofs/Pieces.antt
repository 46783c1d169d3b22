-- The frames of a reading.
use Rattle.std.proofs.Common.{◌≡◌, ℕ, ◌≤◌, true, false, length, refl, arith}
use Rattle.std.proofs.lemmas.Bool.{false≢true}
use Rattle.std.proofs.lemmas.Bool.Decides.{nat_tests}
use Rattle.n2k_id.specs.Identifier.{CanJoin, has_destination}
use Rattle.readings.specs.declared.reading.Reading.{Reading}
use Rattle.readings.specs.declared.rows.Row.{Row}
use Rattle.readings.specs.declared.rows.Row.TheVariants as row
use Rattle.readings.specs.Rows.{row_of}
use Rattle.pgn_profile.specs.declared.kinds.Kind.{Kind}
use Rattle.pgn_profile.specs.declared.kinds.Kind.TheVariants.{Single, Fast, Outside}
use Rattle.pgn_profile.specs.Profiled.{kind_of, payload_of, pgn_of, priority_of}
use Rattle.pgn_profile.proofs.Law.{fits, payload_fits}
use Rattle.history.specs.Opens.{is_fast}
use Rattle.history.specs.NetReadings.{is_fast_row}
use Rattle.row_traffic.specs.Sending.{row_parts}

pub can_send : (r : Row) (address : ℕ) → CanJoin (row_parts r address)
unfolding has_destination
can_send row.HeadingTrue address = record { priority = omega arith; pgn = omega arith; destination = refl }
can_send _ address = record { priority = omega arith; pgn = omega arith; destination = refl }

pub can_send_as : (r : Row) (address priority pgn : ℕ) → priority ≡ priority_of r → pgn ≡ pgn_of r
    → CanJoin (record { priority = priority; pgn = pgn; destination = 255; source = address })
can_send_as r address priority pgn is_priority is_pgn = rw (is_priority, is_pgn) (can_send r address)

-- a payload that isn't sent as a fast packet is that of one frame
size_fits : (kind : Kind) (size : ℕ) → fits kind size ≡ true → is_fast kind ≡ false → size ≤ 8
size_fits Single size is single = grind (arith, nat_tests)
size_fits Fast size is single = absurd (let never : true ≡ false = single in cc)
size_fits Outside size is single = absurd (false≢true is)

pub fits_a_frame : (r : Reading) → is_fast_row (row_of r) ≡ false → length (payload_of r) ≤ 8
fits_a_frame r single = size_fits (kind_of (pgn_of (row_of r))) (length (payload_of r)) (payload_fits r) single
