use Rattle.std.proofs.Common.{◌≡◌, ℤ, true, ◌&&◌, ap, sym, ◌∙◌}
use Rattle.std.specs.Prelude.{Option}
use Rattle.gate_outbox.specs.Output.{Emitted, and_posted}
use Rattle.gate_model.specs.Choosing.{is_ranked_chosen}
use Rattle.source_choice.specs.SubjectRules.{rank_of}
use Rattle.source_choice.specs.declared.rank.Rank.{Rank}
use Rattle.counted_lines.specs.CountedLines.{posted_of}
use Rattle.navigation.specs.Kept.{NavKept, course_at, error_with, has_voice, is_said, leg_kept, texts_by}
use Rattle.navigation.specs.NavOut.{told_by}
use Rattle.navigation.specs.Sentences.{leg_texts}
use Rattle.navigation.proofs.Steps.{posted_by}
use Rattle.navigation.proofs.navigation.Navigation.take_leg.Goals as goal

pub returns-then-has_voice-clause-emits : goal.returns-then-has_voice-clause-emits
returns-then-has_voice-clause-emits c =
    let k = c.args.self.now in
    let d = c.args.said.now in
    let leg = c.args.leg.now in
    let aim = c.args.goal.now in
    let rank = rank_of k.rule.taken d.name.0 in
    let error = c.error_with-error.result in
    let chosen : is_ranked_chosen k.choices d.source d.moment rank (told_by leg) ≡ true =
    sym (c.note-chosen.ensures.chosen ∙ ap (λ (o : Option Rank). is_ranked_chosen k.choices d.source d.moment o (told_by leg)) c.rank-rank.ensures) ∙ c.if-chosen.true in
    let voice : has_voice k d leg aim ≡ true = sym c.has_voice-has_voice.ensures ∙ c.if-has_voice.true in
    let is_true : is_said k d leg aim rank ≡ true = ap (λ b. b && has_voice k d leg aim) chosen ∙ voice in
    let by : NavKept → Option ℤ → Emitted = λ kept error. and_posted c.args.emits.now (posted_of kept.rule.group kept.sfi kept.lines (leg_texts kept.rule.talker leg error)) in
    c.say.ensures.emits
    ∙ ap (and_posted c.args.emits.now) (posted_by _ _)
    ∙ ap (λ kept. by kept error) (c.self-2.view_is ∙ c.note-chosen.ensures.after)
    ∙ ap (λ error. by k error) c.error_with-error.ensures.value
    ∙ ap (λ (kept : NavKept). by k (error_with aim kept.rule.taken.timeout d.moment (course_at kept.courses d.source))) c.self.view_is
    ∙ sym (ap (and_posted c.args.emits.now) (posted_by (leg_kept k d leg aim rank) (texts_by k d (is_said k d leg aim rank) leg aim))
    ∙ ap (λ b. and_posted c.args.emits.now (posted_of k.rule.group k.sfi k.lines (texts_by k d b leg aim))) is_true)
