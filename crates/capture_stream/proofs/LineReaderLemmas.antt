-- What the steps of a reader of lines amount to.
use Rattle.std.proofs.Common.{◌≡◌, ℕ, ◌+◌, ◌-◌, ◌<◌, ◌≤◌, ◌⊎◌, Bool, true, false, cond, eqb, ltb, ◌||◌, List, [], ◌∷◌, ◌++◌, length, get_or, take, drop, refl, sym, ap, ◌∙◌, subst, inl, inr, arith}
use Rattle.std.proofs.lemmas.Grind.{common_steps}
use Rattle.std.proofs.lemmas.Bool.{and_parts, leb-true, ltb-true, ltb-false, ne_eqb, or_parts}
use Rattle.std.proofs.lemmas.List.Sums.{AllPass-from_list_all}
use Rattle.std.proofs.lemmas.List.{take_all, take-append-drop, drop-drop, drop-take, length-take, take-append-le, length-append}
use Rattle.std.proofs.Math.Seq.{take-append-add}
use Rattle.capture_stream.specs.declared.line_reader.Next.{Next}
use Rattle.capture_stream.specs.declared.line_reader.Next.TheVariants.{Line, Long, Usual}
use Rattle.std.specs.Prelude.{nat_le, Option, Result, Ok, Err, IfOk}
use borrow.Rule.Slice.PartMut.{put_mid, post_of}
use Rattle.gate_outside.specs.declared.Failed.{Failed}
use Rattle.gate_outside.specs.Source.{Reads, TellsEnd}
use Rattle.capture_text.specs.Lines.{without_cr}
use Rattle.capture_text.specs.Usual.{has_no_controls}
use Rattle.n2k_id.specs.declared.frame.Frame.{Frame}
use Rattle.capture_stream.specs.LineReader.{usual_end, BeginsUsual, IsUsual, Held, HasNoLf, Takes, IsLine, EndsLongLine, Advances, Finishes, Came, ReadsBehind}
use Rattle.capture_text.specs.Capture.{longest_line}

-- what is left of a part of the buffer behind so many bytes of it
pub part_behind : (buffer : List ℕ) (start end count : ℕ) → start + count ≤ end → take (end - (start + count)) (drop (start + count) buffer) ≡ drop count (take (end - start) (drop start buffer))
part_behind buffer start end count within =
    let m : end - start ≡ count + (end - (start + count)) = omega arith in
    let a : drop count (take (count + (end - (start + count))) (drop start buffer)) ≡ take (end - (start + count)) (drop count (drop start buffer)) = drop-take count (end - (start + count)) (drop start buffer) in
    let b : drop count (drop start buffer) ≡ drop (start + count) buffer = drop-drop count start buffer in
    rw m (sym (a ∙ ap (λ (xs : List ℕ). take (end - (start + count)) xs) b))

-- a test of two that holds
or_true : (a b : Bool) → (a || b) ≡ true → (a ≡ true) ⊎ (b ≡ true)
or_true true b h = inl refl
or_true false b h = inr h

line_length : (raw : List ℕ) (len : ℕ) → len ≤ length raw → take len raw ≡ without_cr raw → length (without_cr raw) ≡ len
line_length raw len le line = ap length (sym line) ∙ omega (arith, length-take len raw)

is_long : (old : Held) (raw : List ℕ) (len : ℕ) → len ≤ length raw → take len raw ≡ without_cr raw → (old.skipping || ltb longest_line len) ≡ true → EndsLongLine old raw
is_long old raw len le line h =
    elim (or_true old.skipping (ltb longest_line len) h) [
      | inl skipping ↦ inl skipping
      | inr more ↦ inr (let m : longest_line < len = ltb-true longest_line len more in omega (arith, line_length raw len le line))
    ]

is_line : (old new : Held) (raw : List ℕ) (len : ℕ) → len ≤ length raw → take len raw ≡ without_cr raw → new.line ≡ take len raw → (old.skipping || ltb longest_line len) ≡ false → IsLine old new raw
is_line old new raw len le line taken h =
    let b = or_parts old.skipping (ltb longest_line len) h in
    let m : len ≤ longest_line = ltb-false longest_line len b.1 in
    record { whole = b.0; line = taken ∙ line; fits = omega (arith, ap length taken, length-take len raw) }

-- the bytes up to an LF are taken as a line or passed over
answered : (old new : Held) (raw : List ℕ) (len : ℕ) (b : Bool) (next : Next) → Takes old new raw → len ≤ length raw → take len raw ≡ without_cr raw → new.line ≡ take len raw
    → (old.skipping || ltb longest_line len) ≡ b → next ≡ cond b Long Line → Advances old new next
answered old new raw len true next takes le line taken h e = subst (Advances old new) (sym e) (raw, takes, is_long old raw len le line h)
answered old new raw len false next takes le line taken h e = subst (Advances old new) (sym e) (raw, takes, is_line old new raw len le line taken h)

-- the bytes in which the LF was found are those that were unread
pub advances : (old new : Held) (bytes : List ℕ) (at len : ℕ) (next : Next) → bytes ≡ old.unread → at < length bytes → get_or bytes at 0 ≡ 10 → HasNoLf (take at bytes) → len ≤ length (take at bytes)
    → take len (take at bytes) ≡ without_cr (take at bytes) → new.line ≡ take len old.unread → new.unread ≡ drop (at + 1) old.unread → new.skipping ≡ false
    → next ≡ cond (old.skipping || ltb longest_line len) Long Line → Advances old new next
advances old new bytes at len next is lt lf no_lf le line taken rest starts answer =
    let raw : List ℕ = take at bytes in
    let behind : drop at bytes ≡ 10 ∷ drop (at + 1) bytes = grind (arith, common_steps, lf) in
    let rest_is : drop (at + 1) bytes ≡ new.unread = ap (λ (xs : List ℕ). drop (at + 1) xs) is ∙ sym rest in
    let split : bytes ≡ raw ++ 10 ∷ new.unread = sym (take-append-drop at bytes) ∙ (ap (λ (xs : List ℕ). raw ++ xs) behind ∙ ap (λ (xs : List ℕ). raw ++ 10 ∷ xs) rest_is) in
    let takes : Takes old new raw = record { whole = sym is ∙ split; no_lf = no_lf; starts = starts } in
    let short : len ≤ at = omega (arith, length-take at bytes) in
    let front : take len bytes ≡ take len raw = grind (arith, common_steps) in
    answered old new raw len (old.skipping || ltb longest_line len) next takes le line (taken ∙ (ap (λ (xs : List ℕ). take len xs) (sym is) ∙ front)) refl answer

-- the usual line needs no search for its end

no_lf : (line : List ℕ) → has_no_controls line ≡ true → HasNoLf line
no_lf line no_controls k d below =
    let high = leb-true 32 (get_or line k d) (AllPass-from_list_all (λ c. nat_le 32 c) line no_controls k d below) in
    ne_eqb (get_or line k d) 10 (λ e. omega (arith, e, high))

no_cr : (line : List ℕ) → has_no_controls line ≡ true → without_cr line ≡ line
no_cr [] no_controls = refl
no_cr (c ∷ []) no_controls =
    let high = leb-true 32 c (and_parts (nat_le 32 c) true no_controls).0 in
    let other : eqb c 13 ≡ false = ne_eqb c 13 (λ e. omega (arith, e, high)) in
    rw other refl
no_cr (c ∷ d ∷ more) no_controls = ap (λ (xs : List ℕ). c ∷ xs) (no_cr (d ∷ more) (and_parts (nat_le 32 c) (has_no_controls (d ∷ more)) no_controls).1)

pub usual_advances : (old new : Held) (moment : ℕ) (f : Frame) → BeginsUsual old moment f → new.line ≡ take usual_end old.unread → new.unread ≡ drop (usual_end + 1) old.unread → new.skipping ≡ false
    → Advances old new (Usual moment f)
usual_advances old new moment f begins line rest starts =
    let raw = take usual_end old.unread in
    let long : length raw ≡ usual_end = omega (arith, length-take usual_end old.unread, begins.within) in
    let whole : take usual_end raw ≡ raw = take_all usual_end raw (omega (arith, long)) in
    let short : Line ≡ cond (old.skipping || ltb longest_line usual_end) Long Line = sym (ap (λ (s : Bool). cond (s || ltb longest_line usual_end) Long Line) begins.whole) in (
      advances old new old.unread usual_end usual_end Line refl begins.within begins.lf (no_lf raw begins.no_controls) (omega (arith, long)) (whole ∙ sym (no_cr raw begins.no_controls)) line rest starts short,
      subst (λ (xs : List ℕ). IsUsual moment f xs) (sym line) begins.is_usual,
    )

finished : (old new : Held) (len : ℕ) (b : Bool) (next : Next) → len ≤ length old.unread → take len old.unread ≡ without_cr old.unread → new.line ≡ take len old.unread
    → (old.skipping || ltb longest_line len) ≡ b → next ≡ cond b Long Line → Finishes old new next
finished old new len true next le line taken h e = subst (Finishes old new) (sym e) (is_long old old.unread len le line h)
finished old new len false next le line taken h e = subst (Finishes old new) (sym e) (is_line old new old.unread len le line taken h)

pub finishes : (old new : Held) (len : ℕ) (next : Next) → len ≤ length old.unread → take len old.unread ≡ without_cr old.unread → new.line ≡ take len old.unread
    → next ≡ cond (old.skipping || ltb longest_line len) Long Line → Finishes old new next
finishes old new len next le line taken answer = finished old new len (old.skipping || ltb longest_line len) next le line taken refl answer

-- the bytes that were read stand behind those that were kept
pub read_behind : (count read : ℕ) (kept part rest : List ℕ) → count ≤ length kept → read ≤ length part → take (count + read) (take count kept ++ (part ++ rest)) ≡ take count kept ++ take read part
read_behind count read kept part rest le fits =
    let len : length (take count kept) ≡ count = omega (arith, length-take count kept) in
    let a : take (length (take count kept) + read) (take count kept ++ (part ++ rest)) ≡ take count kept ++ take read (part ++ rest) = take-append-add (take count kept) (part ++ rest) read in
    let b : take read (part ++ rest) ≡ take read part = take-append-le read part rest fits in
    ap (λ (n : ℕ). take (n + read) (take count kept ++ (part ++ rest))) (sym len) ∙ (a ∙ ap (λ (xs : List ℕ). take count kept ++ xs) b)

pub reads_behind : (left left' : Option (List ℕ)) (buffer part : List ℕ) (count piece : ℕ) (result : Result ℕ Failed) → count + piece ≤ length buffer → 0 < piece → length part ≡ piece
    → IfOk result (λ read. read ≤ length part) → Reads left left' part result → TellsEnd left part result
    → ReadsBehind left left' (take count buffer) (put_mid count piece buffer part) count result
reads_behind left left' buffer part count piece (Ok read) within some len bound reads end =
    let came : Came left left' read (take read part) = record {
      leaves = reads;
      counted = omega (arith, length-take read part);
      end = λ none bytes told. (end (omega arith) bytes told).0 none;
    } in
    let whole : take (count + read) (put_mid count piece buffer part) ≡ take count buffer ++ take read part = read_behind count read buffer part (post_of count piece buffer) (omega arith) bound in
    (take read part, came, whole, omega (arith, length-append (take count buffer) (part ++ post_of count piece buffer), length-append part (post_of count piece buffer), length-take count buffer))
reads_behind left left' buffer part count piece (Err e) within some len bound reads end = reads
