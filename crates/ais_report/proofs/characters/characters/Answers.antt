use Rattle.std.proofs.Common.{◌≡◌, ◌+◌, ◌-◌, ◌*◌, ap, take, drop, length, length-append, ◌∷◌, [], ◌∙◌, arith}
use Rattle.ais_report.specs.Bits.{number_of}
use Rattle.ais_report.specs.Armour.{character}
use Rattle.ais_report.proofs.SixLemmas.{one_more}
use Rattle.ais_report.proofs.characters.characters.Goals as goal

pub loop-place-preserved : goal.loop-place-preserved
loop-place-preserved c = let six : 6 * c.loop-place.place + 6 - 6 * c.loop-place.place ≡ 6 = omega arith in record {
  whole = one_more c.loop-place.text.items c.push.new.self.items c.args.bits.now c.loop-place.place c.character.result c.requires
      (omega (arith, c.loop-place-test.true)) (c.character.ensures ∙ (ap character c.number_of.ensures.number
      ∙ ap (λ n. character (number_of (take n (drop (6 * c.loop-place.place) c.args.bits.now)))) six)) c.push.ensures.items
      c.loop-place.invariant.whole;
  count = omega (arith, ap length c.push.ensures.items, length-append c.loop-place.text.items (c.character.result ∷ []), c.loop-place.invariant.count);
}
