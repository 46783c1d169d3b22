-- What is made of a payload that can be passed on is a valid report.
use Rattle.std.proofs.Common.{◌≡◌, ℕ, zero, suc, ◌+◌, ◌*◌, ◌%◌, ◌^◌, ◌<◌, ◌≤◌, min, Bool, true, false, ◌||◌, nat_lt, Option, Some, None, List, sym, subst, arith}
use Rattle.std.specs.Prelude.{ℤ, pos, unsigned_abs}
use Rattle.std.specs.Int.{IsInRange}
use Rattle.std.proofs.lemmas.Int.{ints}
use Rattle.std.proofs.lemmas.Nat.{pow_pos}
use Rattle.std.proofs.Math.Nat.{mod-lt}
use Rattle.readings.specs.Numbers.{bits_of, signed_at}
use Rattle.readings.specs.Ranges.{speed}
use Rattle.ais_report.specs.declared.report.AisReport.{AisReport}
use Rattle.ais_report.specs.Fields.{IsReport, most_mmsi}
use Rattle.ais_report.specs.Converted.{bits_in, cog_of, heading_of, is_outside, radio_word, report_in, sog_of, transceiver, unsigned_held, user_id}
use Rattle.ais_report.proofs.FitLemmas.{flag_fits, signed_fits, unsigned_fits}
use Rattle.ais_report.proofs.MinuteLemmas.{position_small}

bits_below : (n low count : ℕ) → bits_of n low count < 2 ^ count
bits_below n low count = mod-lt _ (pow_pos count)

sog_below : (o : Option ℤ) → sog_of o < 2 ^ 10
sog_below None = omega arith
sog_below (Some v) = grind arith

cog_below : (o : Option ℤ) → cog_of o < 2 ^ 12
cog_below None = omega arith
cog_below (Some v) = grind arith

heading_below : (o : Option ℤ) → heading_of o < 2 ^ 9
heading_below None = omega arith
heading_below (Some v) = grind arith

-- a payload is outside for none of the reasons
record AreInside (k u : ℕ) : Type 0 where
  pub kind : IsInRange 1 3 k
  pub user : u ≤ most_mmsi

inside : (kind user transceiver : ℕ) → (nat_lt kind 1 || nat_lt 3 kind || nat_lt most_mmsi user || nat_lt 1 transceiver) ≡ false → AreInside kind user
inside kind user transceiver e = record { kind = (grind (arith, e), grind (arith, e)); user = grind (arith, e) }

pub report_valid : (p : List ℕ) → is_outside p ≡ false → IsReport (report_in p)
report_valid p e = let known = inside (bits_in p 0 0 6) (user_id p) (transceiver p) e in let below : user_id p < 1073741824 = let most : user_id p ≤ 999999999 = known.user in omega (arith, most) in record {
  kind = known.kind;
  mmsi = known.user;
  fits = (
    unsigned_fits 6 _ (bits_below _ 0 6),
    (
      unsigned_fits 2 _ (bits_below _ 6 2),
      (
        unsigned_fits 30 _ below,
        (
          unsigned_fits 4 _ (bits_below _ 0 4),
          (
            (omega (arith, ints), omega (arith, ints)),
            (
              unsigned_fits 10 _ (sog_below (unsigned_held speed p 16)),
              (
                flag_fits _,
                (
                  signed_fits 28 _ (omega (arith, position_small 36000000 108600000 (omega arith) (signed_at p 5 4))),
                  (
                    signed_fits 27 _ (omega (arith, position_small 18000000 54600000 (omega arith) (signed_at p 9 4))),
                    (
                      unsigned_fits 12 _ (cog_below _),
                      (
                        unsigned_fits 9 _ (heading_below _),
                        (
                          unsigned_fits 6 _ (bits_below _ 2 6),
                          (
                            unsigned_fits 2 _ (bits_below _ 4 2),
                            (
                              unsigned_fits 3 0 (omega arith),
                              (
                                flag_fits _,
                                (
                                  unsigned_fits 19 _ (bits_below _ 0 19),
                                  tt,
                                ),
                              ),
                            ),
                          ),
                        ),
                      ),
                    ),
                  ),
                ),
              ),
            ),
          ),
        ),
      ),
    ),
  );
}

pub valid_result : (p : List ℕ) (r : AisReport) → is_outside p ≡ false → r ≡ report_in p → IsReport r
valid_result p r e is = subst IsReport (sym is) (report_valid p e)
