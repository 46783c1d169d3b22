-- What a case unfolds.
use Rattle.std.specs.Prelude.{⊤}
use Rattle.std.specs.Fmt.{digits}
use Rattle.n2k_id.specs.Identifier.{has_destination, parts_at, parts_of, group_of, identifier_of}
use Rattle.n2k_id.specs.Name.{bits_at, is_arbitrary, name_bytes, name_at, fields_of, matches_fields, matches, stating}
use Rattle.claim_table.specs.Claims.{left_by, free_from, next_free, next_own, claim, is_obeyed, command, claims_at_start}
use Rattle.pgn_profile.specs.Profiled.{messages}
use Rattle.unit_fraction.specs.Round.{nearest}
use Rattle.hex.proofs.OnLiterals.{hex_on_literals}
use Rattle.unit_fraction.specs.Reading as decimals
use Rattle.fast_packet.specs.FastRuns.{frames_to}
use Rattle.sentence_text.specs.Reading.{front_fault, end_fault}
use Rattle.sentence_text.specs.Sum.{sum_fault}
use Rattle.tag_block.specs.Reading.{parameter_at, parameters_at, block_end_at, block_at, blocks_at, group_in, settle}
use Rattle.tag_block.specs.Reading as tags
use Rattle.datagram450.specs.Datagram.{items_from}
use Rattle.datagram450.specs.Datagram as items
use Rattle.sentence_profile.specs.Columns as columns
use Rattle.sentence_profile.specs.Reading.{formatter_of}
use Rattle.sentence_profile.specs.Reading as rows
use Rattle.sentence_profile.specs.Calendar.{date_in_year, date_after, civil_date}

unfoldable pub cases : ⊤
unfolding digits has_destination parts_at parts_of group_of identifier_of bits_at is_arbitrary name_bytes name_at fields_of matches_fields matches stating left_by free_from next_free next_own claim is_obeyed command claims_at_start messages hex_on_literals nearest decimals.read frames_to front_fault sum_fault end_fault parameter_at parameters_at block_end_at block_at blocks_at group_in settle tags.read items_from items.item formatter_of date_in_year date_after civil_date columns.text columns.is_blank columns.unkept columns.is_magnetic columns.unit_letter columns.status columns.reference columns.side columns.heading_mode columns.decimal columns.raw_of columns.number columns.measure columns.either_unit columns.sided columns.speed_unit columns.wind_speed columns.fixed_in columns.degrees columns.coordinate columns.time columns.digits columns.day_number columns.are_blank columns.date columns.quality columns.satellites rows.hdt rows.ths rows.hdg rows.rot rows.rsa rows.vhw rows.depth_range rows.dpt rows.dbt rows.vlw rows.gll rows.is_invalid_mode rows.vtg rows.gga rows.zda rows.mwv rows.mwd rows.mtw rows.xte rows.rmc rows.read_sentence
cases = tt
