-- What the reader of each parameter group answers is valid, since it is what the table says of the payload.
use Rattle.pgn_profile.proofs.Law.{what_is_profiled_is_valid}
use Rattle.pgn_profile.proofs.messages.read_in_place.Goals as goal

pub returns-in-127250-clause-valid : goal.returns-in-127250-clause-valid
returns-in-127250-clause-valid c = what_is_profiled_is_valid c.read_heading.result 127250 c.args.payload.now c.read_heading.ensures

pub returns-in-127251-clause-valid : goal.returns-in-127251-clause-valid
returns-in-127251-clause-valid c = what_is_profiled_is_valid c.read_rate_of_turn.result 127251 c.args.payload.now c.read_rate_of_turn.ensures

pub returns-in-127245-clause-valid : goal.returns-in-127245-clause-valid
returns-in-127245-clause-valid c = what_is_profiled_is_valid c.read_rudder.result 127245 c.args.payload.now c.read_rudder.ensures

pub returns-in-128259-clause-valid : goal.returns-in-128259-clause-valid
returns-in-128259-clause-valid c = what_is_profiled_is_valid c.read_water_speed.result 128259 c.args.payload.now c.read_water_speed.ensures

pub returns-in-128267-clause-valid : goal.returns-in-128267-clause-valid
returns-in-128267-clause-valid c = what_is_profiled_is_valid c.read_depth.result 128267 c.args.payload.now c.read_depth.ensures

pub returns-in-128275-clause-valid : goal.returns-in-128275-clause-valid
returns-in-128275-clause-valid c = what_is_profiled_is_valid c.read_distance_log.result 128275 c.args.payload.now c.read_distance_log.ensures

pub returns-in-129025-clause-valid : goal.returns-in-129025-clause-valid
returns-in-129025-clause-valid c = what_is_profiled_is_valid c.read_position.result 129025 c.args.payload.now c.read_position.ensures

pub returns-in-129026-clause-valid : goal.returns-in-129026-clause-valid
returns-in-129026-clause-valid c = what_is_profiled_is_valid c.read_course.result 129026 c.args.payload.now c.read_course.ensures

pub returns-in-129029-clause-valid : goal.returns-in-129029-clause-valid
returns-in-129029-clause-valid c = what_is_profiled_is_valid c.read_fix.result 129029 c.args.payload.now c.read_fix.ensures

pub returns-in-126992-clause-valid : goal.returns-in-126992-clause-valid
returns-in-126992-clause-valid c = what_is_profiled_is_valid c.read_system_time.result 126992 c.args.payload.now c.read_system_time.ensures

pub returns-in-129033-clause-valid : goal.returns-in-129033-clause-valid
returns-in-129033-clause-valid c = what_is_profiled_is_valid c.read_time_and_date.result 129033 c.args.payload.now c.read_time_and_date.ensures

pub returns-in-130306-clause-valid : goal.returns-in-130306-clause-valid
returns-in-130306-clause-valid c = what_is_profiled_is_valid c.read_wind.result 130306 c.args.payload.now c.read_wind.ensures

pub returns-in-130312-clause-valid : goal.returns-in-130312-clause-valid
returns-in-130312-clause-valid c = what_is_profiled_is_valid c.read_temperature.result 130312 c.args.payload.now c.read_temperature.ensures

pub returns-in-130316-clause-valid : goal.returns-in-130316-clause-valid
returns-in-130316-clause-valid c = what_is_profiled_is_valid c.read_extended_temperature.result 130316 c.args.payload.now c.read_extended_temperature.ensures

pub returns-in-129283-clause-valid : goal.returns-in-129283-clause-valid
returns-in-129283-clause-valid c = what_is_profiled_is_valid c.read_cross_track.result 129283 c.args.payload.now c.read_cross_track.ensures
