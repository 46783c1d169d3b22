-- Where the first LF stands, by a search for its byte.
use Rattle.std.proofs.Common.{◌≡◌, ℕ, ◌<◌, ◌≤◌, subst, List, length, get_or, take, ap, ◌∙◌, arith, inl, inr}
use Rattle.std.specs.Prelude.{Option, Some, None, MatchOption}
use Rattle.std.proofs.lemmas.Bool.{cases_Bool, eqb-true}
use Rattle.std.proofs.lemmas.List.{get_or_default, get_or-take, length-take, take_all}
use Rattle.memchr.specs.Find.{IsFirstByte, Nowhere, Passes, is_byte}
use Rattle.capture_text.specs.Lines.{is_lf}
use Rattle.capture_stream.specs.LineReader.{HasNoLf}

none_before : (bytes : List ℕ) (n : ℕ) → n ≤ length bytes → Nowhere (Passes (is_byte 10) bytes) 0 n → HasNoLf (take n bytes)
none_before bytes n le none k d lt =
    let within : k < n = omega (arith, length-take n bytes, lt) in
    let same : get_or (take n bytes) k d ≡ get_or bytes k 0 = get_or-take n bytes k d within ∙ get_or_default bytes k d 0 (omega arith) in
    elim (cases_Bool (is_lf (get_or bytes k 0))) [
      | inl e ↦ absurd (none k (omega arith) within e)
      | inr e ↦ ap is_lf same ∙ e
    ]

pub first_lf : (bytes : List ℕ) (result : Option ℕ) → IsFirstByte (is_byte 10) bytes result
    → MatchOption result (HasNoLf bytes) (λ at. (at < length bytes) × (get_or bytes at 0 ≡ 10) × HasNoLf (take at bytes))
first_lf bytes None h = subst HasNoLf (take_all (length bytes) bytes (omega arith)) (none_before bytes (length bytes) (omega arith) h)
first_lf bytes (Some at) h = (h.0.high, eqb-true (get_or bytes at 0) 10 h.1, none_before bytes at (omega (arith, h.0.high)) h.0.before)
