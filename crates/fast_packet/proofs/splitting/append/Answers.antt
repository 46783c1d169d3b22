use Rattle.std.proofs.Common.{◌++◌, [], ◌∷◌, length, ap, ◌∙◌, append_assoc, add-one, length-append, arith}
use Rattle.fast_packet.specs.FastRuns.{frames_to}
use Rattle.fast_packet.proofs.splitting.append.Goals as goal

pub loop-before-init : goal.loop-before-init
unfolding frames_to
loop-before-init c = record {
  frames = c.push.ensures.items ∙ ap (λ f. c.args.out.now.items ++ f ∷ []) c.first_frame.ensures;
  count = omega (arith, ap length c.push.ensures.items, length-append c.args.out.now.items (c.first_frame.result ∷ []));
}

pub loop-before-preserved : goal.loop-before-preserved
unfolding frames_to
loop-before-preserved c = record {
  frames = rw add-one
      (c.push-in-loop-before.ensures.items
      ∙ (ap (λ x. x ++ c.later_frame.result ∷ []) c.loop-before.invariant.frames
      ∙ (append_assoc c.args.out.now.items (frames_to c.args.sequence c.args.payload.now c.loop-before.before) (c.later_frame.result ∷ [])
      ∙ ap (λ f. c.args.out.now.items ++ (frames_to c.args.sequence c.args.payload.now c.loop-before.before ++ f ∷ [])) c.later_frame.ensures)));
  count = omega (arith, ap length c.push-in-loop-before.ensures.items, length-append c.loop-before.out.items (c.later_frame.result ∷ []), c.loop-before.invariant.count);
}
