-- Lines that are joined are found again.
use Rattle.std.proofs.Common.{◌≡◌, ℕ, ◌+◌, Bool, true, false, not, List, [], ◌∷◌, ◌++◌, map, refl, ap, ◌∙◌, append_assoc, arith}
use Rattle.std.specs.Prelude.{◌==◌, if◌then◌else◌, Option, None}
use Rattle.std.specs.List.{AllByRecursion, flat_map, list_all, onto_first, slice_split}
use Rattle.std.proofs.lemmas.Bool.{and_parts}
use Rattle.std.proofs.lemmas.List.Splits.{slice_split-cons_no}
use Rattle.gate_events.specs.Emit.{Emitted}
use Rattle.capture_text.specs.Lines.{front, is_lf, is_one_line, lines_of, without_cr}
use Rattle.capture_stream.specs.Progress.{with_lf}
use Rattle.gateway_commands.specs.BridgeSettings.{BridgeSettings}
use Rattle.gateway_commands.specs.Running.{Running}
use Rattle.gateway_commands.specs.Replayed.{replayed_from, replay_text, with_line, emitted_text}
use Rattle.recordings.proofs.Plain.{IsPlain, is_plain, plain_is_one_line}

-- ---- cut at their LFs

no_lf : (c : ℕ) → not (is_lf c) ≡ true → is_lf c ≡ false
no_lf c is = grind arith

split_line : (line rest : List ℕ) → is_one_line line ≡ true → slice_split is_lf (line ++ 10 ∷ rest) ≡ line ∷ slice_split is_lf rest
split_line [] rest is = refl
split_line (c ∷ line) rest is =
    let p = and_parts (not (is_lf c)) (is_one_line line) is in
    slice_split-cons_no is_lf c (line ++ 10 ∷ rest) (no_lf c p.0) ∙ ap (onto_first c) (split_line line rest p.1)

pub split_lines : (lines : List (List ℕ)) → AllByRecursion (λ line. is_one_line line ≡ true) lines → slice_split is_lf (flat_map with_lf lines) ≡ lines ++ [] ∷ []
split_lines [] each = refl
split_lines (line ∷ lines) each =
    ap (slice_split is_lf) (append_assoc line (10 ∷ []) (flat_map with_lf lines))
    ∙ split_line line (flat_map with_lf lines) each.0
    ∙ ap (λ (ls : List (List ℕ)). line ∷ ls) (split_lines lines each.1)

pub front_of : (xs : List (List ℕ)) (x : List ℕ) → front (xs ++ x ∷ []) ≡ xs
front_of [] x = refl
front_of (y ∷ []) x = refl
front_of (y ∷ z ∷ xs) x = ap (λ (ys : List (List ℕ)). y ∷ ys) (front_of (z ∷ xs) x)

-- ---- read as a capture

no_cr : (c : ℕ) → is_plain c ≡ true → (c == 13) ≡ false
no_cr c is = grind arith

without_none : (line : List ℕ) → IsPlain line → without_cr line ≡ line
without_none [] plain = refl
without_none (b ∷ []) plain = ap (λ (x : Bool). if x then [] else b ∷ []) (no_cr b (and_parts (is_plain b) true plain).0)
without_none (b ∷ c ∷ line) plain = ap (λ (x : List ℕ). b ∷ x) (without_none (c ∷ line) (and_parts (is_plain b) (list_all is_plain (c ∷ line)) plain).1)

each_whole : (lines : List (List ℕ)) → AllByRecursion IsPlain lines → map without_cr (lines ++ [] ∷ []) ≡ lines ++ [] ∷ []
each_whole [] plain = refl
each_whole (line ∷ lines) plain =
    ap (λ (x : List ℕ). x ∷ map without_cr (lines ++ [] ∷ [])) (without_none line plain.0)
    ∙ ap (λ (ls : List (List ℕ)). line ∷ ls) (each_whole lines plain.1)

each_one : (lines : List (List ℕ)) → AllByRecursion IsPlain lines → AllByRecursion (λ line. is_one_line line ≡ true) lines
each_one [] plain = tt
each_one (line ∷ lines) plain = (plain_is_one_line line plain.0, each_one lines plain.1)

pub lines_again : (lines : List (List ℕ)) → AllByRecursion IsPlain lines → lines_of (flat_map with_lf lines) ≡ lines ++ [] ∷ []
lines_again lines plain = ap (map without_cr) (split_lines lines (each_one lines plain)) ∙ each_whole lines plain

-- what follows the last LF is an empty line, which gives nothing
replayed_whole : (p : BridgeSettings) (number : ℕ) (g : Option Running) (lines : List (List ℕ)) → replayed_from p number g (lines ++ [] ∷ []) ≡ replayed_from p number g lines
replayed_whole p number g [] = refl
replayed_whole p number g (line ∷ lines) =
    let x = with_line p number g line in
    ap (λ (es : List Emitted). x.emits ++ es) (replayed_whole p (number + 1) x.after lines)

pub replays_lines : (p : BridgeSettings) (lines : List (List ℕ)) → AllByRecursion IsPlain lines → replay_text p (lines_of (flat_map with_lf lines)) ≡ replay_text p lines
replays_lines p lines plain = ap (replay_text p) (lines_again lines plain) ∙ ap emitted_text (replayed_whole p 1 None lines)
