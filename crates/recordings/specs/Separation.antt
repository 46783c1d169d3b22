-- How the recording is told from the reports in what a run writes: the second word of a report is `rule`, between two spaces, and no recorded line
-- has that word anywhere.
use Rattle.std.specs.Prelude.{◌≡◌, ℕ, Bool, true, false, ◌||◌, nat_eq, not, List, [], ◌∷◌, ◌++◌, codes, filter}
use Rattle.std.specs.List.{AllByRecursion, flat_map, starts_with}
use Rattle.capture_text.specs.Lines.{is_one_line}
use Rattle.capture_text.specs.Reading.{is_name, second_word}
use Rattle.gateway_commands.specs.Recorded.{recorded_in}
use Rattle.gateway_commands.specs.Served.{Tried, all_due, to_text}

-- ---- lines of a text

-- The text is these lines, each with its LF; no line has one in it, so the text has no other lines.
pub record AreLines (lines : List (List ℕ)) (text : List ℕ) : Type 0 where
  pub joined : text ≡ flat_map (λ line. line ++ 10 ∷ []) lines
  pub each : AllByRecursion (λ line. is_one_line line ≡ true) lines

-- ---- reports among them

-- whether the word of a report stands in it, with the spaces around it
abbrev pub is_report : List ℕ → Bool
is_report [] = false
is_report (c ∷ text) = starts_with nat_eq (c ∷ text) (codes " rule ") || is_report text

abbrev pub without_reports : List (List ℕ) → List (List ℕ)
without_reports lines = filter (λ line. not (is_report line)) lines

-- whether it is the second word
abbrev pub is_rule : List ℕ → Bool
is_rule line = is_name (codes "rule") (second_word line)

abbrev pub without_rules : List (List ℕ) → List (List ℕ)
without_rules lines = filter (λ line. not (is_rule line)) lines

-- the lines of what was written, without the reports, are the recording, however these are told
pub record IsTold (tried : List Tried) : Type 0 where
  pub lines : List (List ℕ)
  pub are : AreLines lines (flat_map to_text tried)
  pub by_text : without_reports lines ≡ recorded_in (all_due tried)
  pub by_word : without_rules lines ≡ recorded_in (all_due tried)
