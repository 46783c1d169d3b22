-- What a run writes, line by line: the recorded lines are those that aren't reports.
use Rattle.std.proofs.Common.{◌≡◌, ℕ, Bool, true, false, not, List, [], ◌∷◌, ◌++◌, map, refl, sym, ap, subst, ◌∙◌}
use Rattle.std.specs.Prelude.{codes, filter, if◌then◌else◌}
use Rattle.std.specs.Fmt.{decimal}
use Rattle.std.specs.List.{AllByRecursion, flat_map}
use Rattle.gate_events.specs.Emit as emits
use Rattle.gate_events.specs.Emit.{Emit}
use Rattle.capture_text.specs.Lines.{is_one_line}
use Rattle.capture_text.specs.Reading.{is_name}
use Rattle.capture_text.specs.Writing.{detail_text, report_text, time_text}
use Rattle.gateway_commands.specs.Recorded.{recorded_in}
use Rattle.gateway_commands.specs.Served.{HasReportLine, ItemHasLine, ReportsAreLines, Tried, all_due, as_text, item_as, item_as_text, item_of, to_text}
use Rattle.gateway_commands.specs.Turns.{Item, made, recorded, told}
use Rattle.recordings.specs.Laws.{RecordingsAreTold}
use Rattle.recordings.specs.Separation.{AreLines, IsTold, is_report, is_rule, without_reports, without_rules}
use Rattle.recordings.proofs.Plain.{IsPlain, plain_is_no_report, plain_is_no_rule, plain_is_one_line, times_report}
use Rattle.recordings.proofs.Run.{served_plain}

-- ---- items

-- their text has these lines, of which those are left that aren't reports
record AreApart (text : List ℕ) (kept : List (List ℕ)) : Type 0 where
  pub lines : List (List ℕ)
  pub are : AreLines lines text
  pub by_text : without_reports lines ≡ kept
  pub by_word : without_rules lines ≡ kept

kept_line : (is : List ℕ → Bool) (line : List ℕ) (lines : List (List ℕ)) → is line ≡ false
    → filter (λ line. not (is line)) (line ∷ lines) ≡ line ∷ filter (λ line. not (is line)) lines
kept_line is line lines other =
    let rest = filter (λ (x : List ℕ). not (is x)) lines in
    ap (λ (b : Bool). if not b then line ∷ rest else rest) other

dropped_line : (is : List ℕ → Bool) (line : List ℕ) (lines : List (List ℕ)) → is line ≡ true
    → filter (λ line. not (is line)) (line ∷ lines) ≡ filter (λ line. not (is line)) lines
dropped_line is line lines one =
    let rest = filter (λ (x : List ℕ). not (is x)) lines in
    ap (λ (b : Bool). if not b then line ∷ rest else rest) one

first_line : (line text : List ℕ) (lines : List (List ℕ)) → is_one_line line ≡ true → AreLines lines text → AreLines (line ∷ lines) ((line ++ 10 ∷ []) ++ text)
first_line line text lines is x = record { joined = ap (λ (t : List ℕ). (line ++ 10 ∷ []) ++ t) x.joined; each = (is, x.each) }

emit_first : (m : ℕ) (e : Emit) (text : List ℕ) (kept : List (List ℕ)) → HasReportLine m e → AreApart text kept → AreApart (as_text m e ++ text) kept
emit_first m (emits.can f) text kept is x = x
emit_first m (emits.net group bytes) text kept is x = x
emit_first m (emits.report r) text kept is x =
    let line = time_text m ++ report_text r in
    record {
      lines = line ∷ x.lines;
      are = first_line line text x.lines is.one x.are;
      by_text = dropped_line is_report line x.lines (times_report m (decimal r.rule ++ detail_text r.detail)) ∙ x.by_text;
      by_word = dropped_line is_rule line x.lines (ap (is_name (codes "rule")) is.word) ∙ x.by_word;
    }

items_apart : (items : List Item) → AllByRecursion IsPlain (recorded_in items) → AllByRecursion ItemHasLine items
    → AreApart (flat_map item_as_text items) (recorded_in items)
items_apart [] plain one = record { lines = []; are = record { joined = refl; each = tt }; by_text = refl; by_word = refl }
items_apart (made e ∷ items) plain one = emit_first e.moment e.emit (flat_map item_as_text items) (recorded_in items) one.0 (items_apart items plain one.1)
items_apart (told e ∷ items) plain one = emit_first e.moment e.emit (flat_map item_as_text items) (recorded_in items) one.0 (items_apart items plain one.1)
items_apart (recorded line ∷ items) plain one =
    let x = items_apart items plain.1 one.1 in
    record {
      lines = line ∷ x.lines;
      are = first_line line (flat_map item_as_text items) x.lines (plain_is_one_line line plain.0) x.are;
      by_text = kept_line is_report line x.lines (plain_is_no_report line plain.0) ∙ ap (λ (ls : List (List ℕ)). line ∷ ls) x.by_text;
      by_word = kept_line is_rule line x.lines (plain_is_no_rule line plain.0) ∙ ap (λ (ls : List (List ℕ)). line ∷ ls) x.by_word;
    }

-- ---- what was tried of them

-- a send that fails changes no recorded line
recorded_as : (failed : Bool) (i : Item) (items : List Item) → recorded_in (item_as failed i ∷ items) ≡ recorded_in (i ∷ items)
recorded_as failed (made e) items = refl
recorded_as failed (told e) items = refl
recorded_as failed (recorded line) items = refl

recorded_first : (i : Item) (xs ys : List Item) → recorded_in xs ≡ recorded_in ys → recorded_in (i ∷ xs) ≡ recorded_in (i ∷ ys)
recorded_first (made e) xs ys same = same
recorded_first (told e) xs ys same = same
recorded_first (recorded line) xs ys same = ap (λ (ls : List (List ℕ)). line ∷ ls) same

recorded_same : (tried : List Tried) → recorded_in (map item_of tried) ≡ recorded_in (all_due tried)
recorded_same [] = refl
recorded_same (t ∷ tried) = recorded_as t.failed t.due (map item_of tried) ∙ recorded_first t.due (map item_of tried) (all_due tried) (recorded_same tried)

text_same : (tried : List Tried) → flat_map item_as_text (map item_of tried) ≡ flat_map to_text tried
text_same [] = refl
text_same (t ∷ tried) = ap (λ (text : List ℕ). to_text t ++ text) (text_same tried)

items_are_lines : (tried : List Tried) → ReportsAreLines tried → AllByRecursion ItemHasLine (map item_of tried)
items_are_lines [] one = tt
items_are_lines (t ∷ tried) one = (one.0, items_are_lines tried one.1)

tried_told : (tried : List Tried) → AllByRecursion IsPlain (recorded_in (all_due tried)) → ReportsAreLines tried → IsTold tried
tried_told tried plain one =
    let plain_items = subst (λ (lines : List (List ℕ)). AllByRecursion IsPlain lines) (sym (recorded_same tried)) plain in
    let x = items_apart (map item_of tried) plain_items (items_are_lines tried one) in
    record {
      lines = x.lines;
      are = subst (λ (text : List ℕ). AreLines x.lines text) (text_same tried) x.are;
      by_text = x.by_text ∙ recorded_same tried;
      by_word = x.by_word ∙ recorded_same tried;
    }

pub recordings_are_told : RecordingsAreTold
recordings_are_told p turns clock clock' old new records y early =
    tried_told y.passed.tried (served_plain p records turns clock clock' old new y early) y.passes.lines
