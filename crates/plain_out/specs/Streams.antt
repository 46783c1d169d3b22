-- Streams of plain sentences: what says one thing again and again, so that one datagram of it may stand for the next. A course, a wind and a set of the
-- current from true north (IEC 61162-1) are other streams than those from magnetic north.
use Rattle.std.specs.Prelude.{ℕ, ◌+◌, Bool, if◌then◌else◌}
use Rattle.readings.specs.Rows.{row_number, row_of, rows_count}
use Rattle.readings.specs.declared.reading.Reading.{Reading}
use Rattle.readings.specs.declared.reading.Reading.TheVariants as reading
use Rattle.readings.specs.declared.rows.Row.TheVariants as row
use Rattle.quantities.specs.About.{number_of as quantity_number, quantities_count}
use Rattle.quantities.specs.declared.about.Quantity.{Quantity}
use Rattle.quantities.specs.declared.about.Quantity.TheVariants as quantity
use Rattle.plain_out.specs.declared.stream.Stream.{Stream}
use Rattle.plain_out.specs.declared.stream.Stream.TheVariants as stream

-- of what a row says
abbrev pub reading_stream : Reading → Stream
reading_stream (reading.CourseSpeed m c s) = if m then stream.MagneticCourse else stream.Row row.CourseSpeed
reading_stream (reading.WindNorth m s a) = if m then stream.MagneticWind else stream.Row row.WindNorth
reading_stream r = stream.Row (row_of r)

-- of a further quantity, in a message that speaks of magnetic north or not
abbrev pub quantity_stream : Quantity → Bool → Stream
quantity_stream quantity.SetDrift magnetic = if magnetic then stream.MagneticDrift else stream.Quantity quantity.SetDrift
quantity_stream q magnetic = stream.Quantity q

-- the place of a stream among all, from 0: rows, RMC, quantities, what is from magnetic north, and joined headings
abbrev pub stream_number : Stream → ℕ
stream_number (stream.Row r) = row_number r
stream_number stream.Rmc = rows_count
stream_number (stream.Quantity q) = rows_count + 1 + quantity_number q
stream_number stream.MagneticCourse = rows_count + 1 + quantities_count
stream_number stream.MagneticWind = rows_count + 2 + quantities_count
stream_number stream.MagneticDrift = rows_count + 3 + quantities_count
stream_number stream.JoinedHeading = rows_count + 4 + quantities_count

-- how many there are
abbrev pub streams_count : ℕ
streams_count = rows_count + 5 + quantities_count
