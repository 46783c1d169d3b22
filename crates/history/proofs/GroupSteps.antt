-- The laws of one group of lines.
use Rattle.std.proofs.Common.{◌≡◌, ℕ, true, List, [], ◌∷◌, refl, ap, ◌∙◌, arith}
use Rattle.std.specs.Prelude.{Some, None}
use Rattle.std.proofs.lemmas.Bool.{eq-eqb}
use Rattle.slot_views.specs.Runs.{open_at}
use Rattle.slot_views.specs.RunLaws.{OneStep}
use Rattle.slot_views.proofs.RunSteps.{one_step_of}
use Rattle.tag_block.specs.declared.group_part.GroupPart.{GroupPart}
use Rattle.tag_block.specs.declared.group_key.GroupKey.{GroupKey}
use Rattle.tag_block.specs.GroupRuns.{GroupLine, group_rules}
use Rattle.tag_block.proofs.GroupPrefixes.{lawful}
use Rattle.history.specs.Heard.{Taken, several, group_line, line_in, group_trace, group_open}
use Rattle.history.specs.Settings.{same_text}
use Rattle.history.specs.GroupLaws.{group_key, StepsGroup, LinesStepGroup, LinesStandAlone, TimeEndsGroup}
use Rattle.history.proofs.GroupCounts.{line_past, trace_past}

-- the laws of runs, of groups
steps : OneStep group_rules
steps = one_step_of group_rules lawful

pub text_same : (a : List ℕ) → same_text a a ≡ true
text_same [] = refl
text_same (x ∷ a) = rw (eq-eqb x x refl) (text_same a)

-- the line is one of its own group
own_line : (t : Taken) (older : List Taken) (part : GroupPart) → line_in (group_key t older part) t (Some part) ≡ Some (group_line t part)
own_line t older part = rw (text_same t.source, eq-eqb part.code part.code refl) refl

trace_with : (key : GroupKey) (t : Taken) (older : List Taken) (l : GroupLine) → line_in key t (several t.group) ≡ Some l → group_trace key (t ∷ older) ≡ l ∷ group_trace key older
trace_with key t older l e = rw e refl

-- what is open of a group that the line isn't of
passed : (key : GroupKey) (t : Taken) (older : List Taken) (n : ℕ) → line_in key t (several t.group) ≡ None → group_open (t ∷ older) key n ≡ group_open older key n
passed key t older n e = ap (λ (lines : List GroupLine). open_at group_rules lines n) (trace_past key t older e)

module _ (t : Taken) (older : List Taken) (part : GroupPart) (is : several t.group ≡ Some part) where
  trace_is : group_trace (group_key t older part) (t ∷ older) ≡ group_line t part ∷ group_trace (group_key t older part) older
  trace_is = trace_with (group_key t older part) t older (group_line t part) (ap (line_in (group_key t older part) t) is ∙ own_line t older part)

  pub step : StepsGroup t older part
  step = grind (arith, trace_is, steps, passed, line_past)

pub group_steps : LinesStepGroup
group_steps t older part is = step t older part is

pub lines_alone : LinesStandAlone
lines_alone t older none = grind (arith, passed)

pub group_ends : TimeEndsGroup
group_ends taken key m n le = steps.later (group_trace key taken) m n le
