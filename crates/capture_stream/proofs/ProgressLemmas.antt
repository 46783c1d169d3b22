-- The steps of a command over lines.
use Rattle.std.proofs.Common.{◌≡◌, ℕ, ◌+◌, ◌<◌, List, [], ◌∷◌, ◌++◌, length, map, take, refl, sym, ap, subst, ◌∙◌, append_assoc, arith}
use Rattle.std.specs.List.{flat_map, AllByRecursion, slice_split}
use Rattle.std.proofs.lemmas.List.{append-nil, length-map, map-append, take_at}
use Rattle.std.proofs.lemmas.List.Splits.{slice_split_at, slice_split_none, length-slice_split}
use Rattle.std.proofs.lemmas.Grind.{flat_map-append}
use Rattle.capture_text.specs.Lines.{is_lf, without_cr, front, lines_of, complete_lines}
use Rattle.capture_stream.specs.Lines.{AreTexts}
use Rattle.capture_stream.specs.LineReader.{HasNoLf}
use Rattle.capture_stream.specs.Progress.{with_lf, Cut}

-- ---- lines

parts_behind : (lines : List (List ℕ)) (rest : List ℕ) → AllByRecursion HasNoLf lines → slice_split is_lf (flat_map with_lf lines ++ rest) ≡ lines ++ slice_split is_lf rest
parts_behind [] rest h = refl
parts_behind (line ∷ lines) rest h =
    let shape : flat_map with_lf (line ∷ lines) ++ rest ≡ line ++ 10 ∷ (flat_map with_lf lines ++ rest) = ap (λ (xs : List ℕ). xs ++ rest) (append_assoc line (10 ∷ []) (flat_map with_lf lines)) ∙ append_assoc line (10 ∷ flat_map with_lf lines) rest in
    ap (λ (xs : List ℕ). slice_split is_lf xs) shape ∙ (slice_split_at is_lf line 10 (flat_map with_lf lines ++ rest) h.0 refl ∙ ap (λ (ps : List (List ℕ)). line ∷ ps) (parts_behind lines rest h.1))

pub parts_of_cut : (bytes : List ℕ) (lines : List (List ℕ)) (rest : List ℕ) → Cut bytes lines rest → slice_split is_lf bytes ≡ lines ++ slice_split is_lf rest
parts_of_cut bytes lines rest c = ap (λ (xs : List ℕ). slice_split is_lf xs) c.whole ∙ parts_behind lines rest c.no_lf

front-push : (xs : List (List ℕ)) (x : List ℕ) → front (xs ++ x ∷ []) ≡ xs
front-push [] x = refl
front-push (y ∷ []) x = refl
front-push (y ∷ z ∷ xs) x = ap (λ (ys : List (List ℕ)). y ∷ ys) (front-push (z ∷ xs) x)

front-append : (xs ys : List (List ℕ)) → 0 < length ys → front (xs ++ ys) ≡ xs ++ front ys
front-append [] ys some = refl
front-append (x ∷ []) [] some = absurd (omega arith)
front-append (x ∷ []) (y ∷ ys) some = refl
front-append (x ∷ z ∷ xs) ys some = ap (λ (zs : List (List ℕ)). x ∷ zs) (front-append (z ∷ xs) ys some)

pub AreTexts-push : {A : Type 0} (Gives : A → ℕ → List ℕ → List ℕ → A → Type 0) (first now next : A) (n : ℕ) (lines : List (List ℕ)) (line bytes text : List ℕ)
    → AreTexts Gives first n lines bytes now → Gives now (n + length lines) line text next → AreTexts Gives first n (lines ++ line ∷ []) (bytes ++ text) next
AreTexts-push {A = A} Gives first now next n [] line bytes text h k =
    let none : List (List ℕ) = [] in
    let same : n + length none ≡ n = omega arith in
    let numbered : Gives now n line text next = subst (λ (j : ℕ). Gives now j line text next) same k in
    let begun : Gives first n line text next = subst (λ (a : A). Gives a n line text next) h.1 numbered in
    (text, [], next, begun, (refl, refl), ap (λ (xs : List ℕ). xs ++ text) h.0 ∙ sym (append-nil text))
AreTexts-push Gives first now next n (l ∷ lines) line bytes text h k =
    let j : n + length (l ∷ lines) ≡ n + 1 + length lines = omega arith in
    let more = AreTexts-push Gives h.2 now next (n + 1) lines line h.1 text h.4 (subst (λ (i : ℕ). Gives now i line text next) j k) in
    (h.0, h.1 ++ text, h.2, h.3, more, ap (λ (xs : List ℕ). xs ++ text) h.5 ∙ append_assoc h.0 h.1 text)

-- ---- cuts

pub cut_none : Cut [] [] []
cut_none = record { whole = refl; no_lf = tt }

pub cut_more : (bytes : List ℕ) (lines : List (List ℕ)) (rest piece : List ℕ) → Cut bytes lines rest → Cut (bytes ++ piece) lines (rest ++ piece)
cut_more bytes lines rest piece c = record {
  whole = ap (λ (xs : List ℕ). xs ++ piece) c.whole ∙ append_assoc (flat_map with_lf lines) rest piece;
  no_lf = c.no_lf;
}

no_lf-push : (lines : List (List ℕ)) (raw : List ℕ) → AllByRecursion HasNoLf lines → HasNoLf raw → AllByRecursion HasNoLf (lines ++ raw ∷ [])
no_lf-push [] raw h k = (k, tt)
no_lf-push (line ∷ lines) raw h k = (h.0, no_lf-push lines raw h.1 k)

pub cut_line : (bytes : List ℕ) (lines : List (List ℕ)) (rest raw behind : List ℕ) → Cut bytes lines rest → rest ≡ raw ++ 10 ∷ behind → HasNoLf raw → Cut bytes (lines ++ raw ∷ []) behind
cut_line bytes lines rest raw behind c split no_lf =
    let one : flat_map with_lf (raw ∷ []) ≡ with_lf raw = append-nil (with_lf raw) in
    let lines_are : flat_map with_lf (lines ++ raw ∷ []) ≡ flat_map with_lf lines ++ with_lf raw = flat_map-append with_lf lines (raw ∷ []) ∙ ap (λ (xs : List ℕ). flat_map with_lf lines ++ xs) one in
    let tail : flat_map with_lf lines ++ (raw ++ 10 ∷ behind) ≡ (flat_map with_lf lines ++ with_lf raw) ++ behind =
    ap (λ (xs : List ℕ). flat_map with_lf lines ++ xs) (sym (append_assoc raw (10 ∷ []) behind)) ∙ sym (append_assoc (flat_map with_lf lines) (with_lf raw) behind) in
    record {
      whole = c.whole ∙ (ap (λ (xs : List ℕ). flat_map with_lf lines ++ xs) split ∙ (tail ∙ ap (λ (xs : List ℕ). xs ++ behind) (sym lines_are)));
      no_lf = no_lf-push lines raw c.no_lf no_lf;
    }

-- ---- the lines of what was read

pub complete_of_cut : (read : List ℕ) (lines : List (List ℕ)) (rest : List ℕ) → Cut read lines rest → HasNoLf rest → complete_lines read ≡ map without_cr lines
complete_of_cut read lines rest c no_lf =
    let parts : slice_split is_lf read ≡ lines ++ rest ∷ [] = parts_of_cut read lines rest c ∙ ap (λ (ps : List (List ℕ)). lines ++ ps) (slice_split_none is_lf rest no_lf) in
    ap (λ (ps : List (List ℕ)). map without_cr (front ps)) parts ∙ ap (λ (ps : List (List ℕ)). map without_cr ps) (front-push lines rest)

pub whole_of_cut : (read : List ℕ) (lines : List (List ℕ)) (rest : List ℕ) → Cut read lines rest → HasNoLf rest → lines_of read ≡ map without_cr lines ++ without_cr rest ∷ []
whole_of_cut read lines rest c no_lf =
    let parts : slice_split is_lf read ≡ lines ++ rest ∷ [] = parts_of_cut read lines rest c ∙ ap (λ (ps : List (List ℕ)). lines ++ ps) (slice_split_none is_lf rest no_lf) in
    ap (λ (ps : List (List ℕ)). map without_cr ps) parts ∙ map-append without_cr lines (rest ∷ [])

-- the lines that were taken are the first of the complete ones
pub front_of_cut : (read : List ℕ) (lines : List (List ℕ)) (rest : List ℕ) → Cut read lines rest → take (length lines) (complete_lines read) ≡ map without_cr lines
front_of_cut read lines rest c =
    let parts = parts_of_cut read lines rest c in
    let some : 0 < length (slice_split is_lf rest) = omega (arith, length-slice_split is_lf rest) in
    let fronts : front (slice_split is_lf read) ≡ lines ++ front (slice_split is_lf rest) = ap front parts ∙ front-append lines (slice_split is_lf rest) some in
    let others = map without_cr (front (slice_split is_lf rest)) in
    let e : complete_lines read ≡ map without_cr lines ++ others = ap (λ (ps : List (List ℕ)). map without_cr ps) fronts ∙ map-append without_cr lines (front (slice_split is_lf rest)) in
    ap (λ (ps : List (List ℕ)). take (length lines) ps) e ∙ take_at (map without_cr lines) others (length lines) (length-map lines without_cr)
