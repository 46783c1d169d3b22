-- The payloads of one message differ in the byte of the selector alone.
use Rattle.std.proofs.Common.{◌≡◌, ℕ, ℤ, true, false, [], ◌∷◌, ◌++◌, Option, None, refl}
use Rattle.std.specs.Prelude.{slice_index}
use Rattle.pgn_profile.specs.declared.steering.Rudder.{Rudder}
use Rattle.pgn_profile.specs.declared.steering.Rudder.TheVariants.{First, Second}
use Rattle.pgn_profile.specs.declared.wind.Wind.{Wind}
use Rattle.pgn_profile.specs.declared.wind.Wind.TheVariants.{Apparent, North, True}
use Rattle.pgn_profile.specs.Part.{signed_bytes, unsigned_bytes}
use Rattle.pgn_profile.specs.Profiled.{payload_of}
use Rattle.pgn_profile.specs.Selector.{rudder_of, wind_of}

pub rudder_payload : (rudder : Rudder) (position : Option ℤ) → payload_of (rudder_of rudder position)
    ≡ (slice_index (payload_of (rudder_of rudder None)) 0 ∷ 0xFF ∷ 0xFF ∷ 0x7F ∷ []) ++ signed_bytes 2 position ++ (0xFF ∷ 0xFF ∷ [])
rudder_payload First position = refl
rudder_payload Second position = refl

pub wind_payload : (wind : Wind) (speed angle : Option ℤ) → payload_of (wind_of wind speed angle)
    ≡ 0xFF ∷ unsigned_bytes 2 speed ++ unsigned_bytes 2 angle ++ (slice_index (payload_of (wind_of wind None None)) 5 ∷ 0xFF ∷ 0xFF ∷ [])
wind_payload Apparent speed angle = refl
wind_payload True speed angle = refl
wind_payload (North false) speed angle = refl
wind_payload (North true) speed angle = refl
