-- The time of a line: what is read is spelled so, and what is spelled so is read.
use Rattle.std.proofs.Common.{◌≡◌, ℕ, zero, suc, ◌+◌, ◌-◌, ◌<◌, ◌≤◌, ◌^◌, true, false, cond, leb, ◌&&◌, List, [], ◌∷◌, ◌++◌, length, get_or, take, drop, Option, Some, None, refl, sym, ap, subst, ◌∙◌, append_assoc, length-append, arith, take-take}
use Rattle.std.specs.Prelude.{◌==◌}
use Rattle.std.specs.Char.{is_ascii_digit}
use Rattle.std.specs.List.{prefix_len, list_all}
use Rattle.std.proofs.lemmas.Bool.{and_parts, eqb-true, leb-true, le-leb}
use Rattle.std.proofs.lemmas.List.{drop-drop, get_or-drop, length-drop, length-take, take_all, take_at, take_more}
use Rattle.std.proofs.lemmas.List.Sums.{prefix_len-le-length}
use Rattle.std.proofs.Math.Seq.{take-append-add}
use Rattle.sentence_text.proofs.Bytes.{all_parts, front_passes, run_of}
use Rattle.unit_fraction.specs.Digits.{number, number_after}
use Rattle.unit_fraction.proofs.Number.{number_after_append}
use borrow.Rule.Slice.PartMut.{put_mid}
use Rattle.capture_text.specs.Capture.{IsTime}
use Rattle.capture_text.specs.Reading.{HasUsualTime, Timed, seconds_at, micros_at, micros_behind, time_at}
use Rattle.capture_text.proofs.Digits.{few_counted, micros_fit, seconds_fit, ten_fit}
use Rattle.capture_text.proofs.Cuts.{within, cut_found, cut_by_test, cut_at, if_some, put_end, some_is}

pub record TimeRead (line : List ℕ) (t : Timed) : Type 0 where
  pub time : List ℕ
  pub is_time : IsTime t.moment time
  pub spelled : line ≡ time ++ 32 ∷ t.rest

-- ---- digits among the first m bytes

-- those that are counted
front_digits : (m n : ℕ) (text : List ℕ) → prefix_len is_ascii_digit (take m text) ≡ n → list_all is_ascii_digit (take n text) ≡ true
front_digits m n text e =
    let le : n ≤ m = omega (arith, e, prefix_len-le-length is_ascii_digit (take m text), length-take m text) in
    ap (list_all is_ascii_digit) (sym (take-take n m text le))
    ∙ ap (λ (k : ℕ). list_all is_ascii_digit (take k (take m text))) (sym e)
    ∙ front_passes is_ascii_digit (take m text)

pub ten_counted : (text : List ℕ) (count : ℕ) → count ≡ prefix_len is_ascii_digit (take 10 text) → (list_all is_ascii_digit (take count text) ≡ true) × (number_after 0 (take count text) < 10 ^ 10)
ten_counted text count run =
    let digits = front_digits 10 count text (sym run) in
    let few : length (take count text) ≤ 10 = omega (arith, run, few_counted text, length-take count text) in
    (digits, seconds_fit (take count text) digits few)

pub six_counted : (seconds : ℕ) (text : List ℕ) → seconds < 10 ^ 10 → prefix_len is_ascii_digit (take 6 text) ≡ 6 → (list_all is_ascii_digit (take 6 text) ≡ true) × (number_after seconds (take 6 text) < 2 ^ 64)
six_counted seconds text small run =
    let digits = front_digits 6 6 text run in
    (digits, micros_fit seconds text small digits)

-- what a call answers whose rest is a slice to the end
pub with_rest : (text : List ℕ) (n moment : ℕ) (at : Option Timed) → at ≡ Some (record { moment = moment; rest = drop n text })
    → at ≡ Some (record { moment = moment; rest = take (length text - n) (drop n text) })
with_rest text n moment at e =
    rw (take_all (length text - n) (drop n text) (omega (arith, length-drop n text))) e

pub seconds_told : (text : List ℕ) (count moment : ℕ) → count ≡ prefix_len is_ascii_digit (take 10 text) → 1 ≤ count → get_or text count 0 ≡ 46
    → moment ≡ number_after 0 (take count text) → seconds_at text ≡ Some (record { moment = moment; rest = take (length text - (count + 1)) (drop (count + 1) text) })
unfolding seconds_at
seconds_told text count moment run some point value =
    with_rest text (count + 1) moment (seconds_at text) (rw (← run, le-leb 1 count some, point, value) refl)

pub micros_told : (seconds : ℕ) (text : List ℕ) (moment : ℕ) → prefix_len is_ascii_digit (take 6 text) ≡ 6 → get_or text 6 0 ≡ 41 → get_or text 7 0 ≡ 32
    → moment ≡ number_after seconds (take 6 text) → micros_at seconds text ≡ Some (record { moment = moment; rest = take (length text - 8) (drop 8 text) })
unfolding micros_at
micros_told seconds text moment run closed space value =
    with_rest text 8 moment (micros_at seconds text) (rw (run, closed, space, value) refl)

other_first : (k c : ℕ) (rest : List ℕ) → is_ascii_digit c ≡ false → prefix_len is_ascii_digit (take k (c ∷ rest)) ≡ 0
other_first zero c rest e = refl
other_first (suc k) c rest e = rw e refl

-- those that come before another byte
front_run : (m : ℕ) (digits : List ℕ) (c : ℕ) (rest : List ℕ) → list_all is_ascii_digit digits ≡ true → is_ascii_digit c ≡ false → length digits ≤ m
    → prefix_len is_ascii_digit (take m (digits ++ c ∷ rest)) ≡ length digits
front_run m digits c rest all other le =
    let more = m - length digits in
    let whole : m ≡ length digits + more = omega (arith, le) in
    ap (λ (k : ℕ). prefix_len is_ascii_digit (take k (digits ++ c ∷ rest))) whole
    ∙ ap (prefix_len is_ascii_digit) (take-append-add digits (c ∷ rest) more)
    ∙ run_of is_ascii_digit digits (take more (c ∷ rest)) all (other_first more c rest other)

-- ---- what is read is spelled so

record SecondsRead (text : List ℕ) (t : Timed) : Type 0 where
  seconds : List ℕ
  spelled : text ≡ seconds ++ 46 ∷ t.rest
  some : 1 ≤ length seconds
  few : length seconds ≤ 10
  are_digits : list_all is_ascii_digit seconds ≡ true
  value : t.moment ≡ number seconds

seconds_found : (text : List ℕ) (t : Timed) → seconds_at text ≡ Some t → SecondsRead text t
unfolding seconds_at
seconds_found text t e =
    let n = prefix_len is_ascii_digit (take 10 text) in
    let made : Timed = record { moment = number (take n text); rest = drop (n + 1) text } in
    let is = if_some (leb 1 n && (get_or text n 0 == 46)) (Some made) t e in
    let h = and_parts (leb 1 n) (get_or text n 0 == 46) is.0 in
    let point : get_or text n 0 ≡ 46 = eqb-true (get_or text n 0) 46 h.1 in
    let len : length (take n text) ≡ n = omega (arith, length-take n text, within text n 45 point) in
    let one : SecondsRead text made = record {
      seconds = take n text;
      spelled = cut_found text n 45 point;
      some = omega (arith, len, leb-true 1 n h.0);
      few = omega (arith, len, prefix_len-le-length is_ascii_digit (take 10 text), length-take 10 text);
      are_digits = front_digits 10 n text refl;
      value = refl;
    } in
    subst (SecondsRead text) (some_is made t is.1) one

record MicrosRead (before : ℕ) (text : List ℕ) (t : Timed) : Type 0 where
  micros : List ℕ
  spelled : text ≡ (micros ++ 41 ∷ []) ++ 32 ∷ t.rest
  six : length micros ≡ 6
  are_digits : list_all is_ascii_digit micros ≡ true
  value : t.moment ≡ number_after before micros

micros_found : (before : ℕ) (text : List ℕ) (t : Timed) → micros_at before text ≡ Some t → MicrosRead before text t
unfolding micros_at
micros_found before text t e =
    let micros = take 6 text in
    let made : Timed = record { moment = number_after before micros; rest = drop 8 text } in
    let p0 = prefix_len is_ascii_digit micros == 6 in
    let p1 = get_or text 6 0 == 41 in
    let p2 = get_or text 7 0 == 32 in
    let is = if_some (p0 && p1 && p2) (Some made) t e in
    let h2 = and_parts (p0 && p1) p2 is.0 in
    let h1 = and_parts p0 p1 h2.0 in
    let closed : get_or text 6 0 ≡ 41 = eqb-true (get_or text 6 0) 41 h1.1 in
    let room : 6 < length text = within text 6 40 closed in
    let seven : take 7 text ≡ micros ++ 41 ∷ [] = take_more text 6 0 room ∙ ap (λ (c : ℕ). micros ++ c ∷ []) closed in
    let one : MicrosRead before text made = record {
      micros = micros;
      spelled = cut_by_test text 7 31 h2.1 ∙ ap (λ (x : List ℕ). x ++ 32 ∷ drop 8 text) seven;
      six = omega (arith, room, length-take 6 text);
      are_digits = front_digits 6 6 text (eqb-true (prefix_len is_ascii_digit micros) 6 h1.0);
      value = refl;
    } in
    subst (MicrosRead before text) (some_is made t is.1) one

behind_found : (line : List ℕ) (s : Option Timed) (t : Timed) → get_or line 0 0 ≡ 40 → seconds_at (drop 1 line) ≡ s → micros_behind s ≡ Some t → TimeRead line t
behind_found line None t first e f = absurd cc
behind_found line (Some s) t first e f =
    let a = seconds_found (drop 1 line) s e in
    let b = micros_found s.moment s.rest t f in
    let closed : List ℕ = b.micros ++ 41 ∷ [] in
    record {
      time = 40 ∷ (a.seconds ++ 46 ∷ closed);
      is_time = record {
        seconds = a.seconds;
        micros = b.micros;
        spelled = refl;
        some = a.some;
        few = a.few;
        six = b.six;
        seconds_digits = a.are_digits;
        micros_digits = b.are_digits;
        value = b.value ∙ ap (λ (n : ℕ). number_after n b.micros) a.value ∙ sym (number_after_append 0 a.seconds b.micros);
      };
      spelled = cut_found line 0 39 first
          ∙ ap (λ (x : List ℕ). 40 ∷ x) (a.spelled ∙ ap (λ (x : List ℕ). a.seconds ++ 46 ∷ x) b.spelled ∙ sym (append_assoc a.seconds (46 ∷ closed) (32 ∷ t.rest)));
    }

pub time_found : (line : List ℕ) (t : Timed) → time_at line ≡ Some t → TimeRead line t
unfolding time_at
time_found line t e =
    let h = if_some (get_or line 0 0 == 40) (micros_behind (seconds_at (drop 1 line))) t e in
    behind_found line (seconds_at (drop 1 line)) t (eqb-true (get_or line 0 0) 40 h.0) refl h.1

-- ---- what is spelled so is read

abbrev seconds_by : ℕ → ℕ → List ℕ → List ℕ → Option Timed
seconds_by n point front behind = cond (leb 1 n && (point == 46)) (Some (record { moment = number front; rest = behind })) None

seconds_again : (seconds rest : List ℕ) → 1 ≤ length seconds → length seconds ≤ 10 → list_all is_ascii_digit seconds ≡ true
    → seconds_at (seconds ++ 46 ∷ rest) ≡ Some (record { moment = number seconds; rest = rest })
unfolding seconds_at
seconds_again seconds rest some few digits =
    let text = seconds ++ 46 ∷ rest in
    let n = prefix_len is_ascii_digit (take 10 text) in
    let run : n ≡ length seconds = front_run 10 seconds 46 rest digits refl few in
    let cut = cut_at seconds 46 rest n (sym run) in
    let enough : leb 1 (length seconds) ≡ true = le-leb 1 (length seconds) some in
    ap (λ (x : List ℕ). seconds_by n (get_or text n 0) (take n text) x) cut.behind_is
    ∙ ap (λ (x : List ℕ). seconds_by n (get_or text n 0) x rest) cut.front_is
    ∙ ap (λ (x : ℕ). seconds_by n x seconds rest) cut.byte_is
    ∙ ap (λ (x : ℕ). seconds_by x 46 seconds rest) run
    ∙ rw enough refl

micros_again : (before : ℕ) (micros rest : List ℕ) → length micros ≡ 6 → list_all is_ascii_digit micros ≡ true
    → micros_at before (micros ++ 41 ∷ 32 ∷ rest) ≡ Some (record { moment = number_after before micros; rest = rest })
unfolding micros_at
micros_again before micros rest six digits =
    let text = micros ++ 41 ∷ 32 ∷ rest in
    let run : prefix_len is_ascii_digit (take 6 text) ≡ 6 = front_run 6 micros 41 (32 ∷ rest) digits refl (omega (arith, six)) ∙ six in
    let cut = cut_at micros 41 (32 ∷ rest) 6 six in
    let joined : text ≡ (micros ++ 41 ∷ []) ++ 32 ∷ rest = sym (append_assoc micros (41 ∷ []) (32 ∷ rest)) in
    let next = cut_at (micros ++ 41 ∷ []) 32 rest 7 (omega (arith, length-append micros (41 ∷ []), six)) in
    let closed : get_or text 6 0 ≡ 41 = cut.byte_is in
    let space : get_or text 7 0 ≡ 32 = ap (λ (x : List ℕ). get_or x 7 0) joined ∙ next.byte_is in
    let front : take 6 text ≡ micros = cut.front_is in
    let behind : drop 8 text ≡ rest = ap (drop 8) joined ∙ next.behind_is in
    rw (run, closed, space, front, behind) refl

time_by : (text : List ℕ) → time_at (40 ∷ text) ≡ micros_behind (seconds_at text)
unfolding time_at
time_by text = refl

pub time_again : (moment : ℕ) (time rest : List ℕ) → IsTime moment time → time_at (time ++ 32 ∷ rest) ≡ Some (record { moment = moment; rest = rest })
time_again moment time rest h =
    let behind = h.micros ++ 41 ∷ 32 ∷ rest in
    let inner : (h.micros ++ 41 ∷ []) ++ 32 ∷ rest ≡ behind = append_assoc h.micros (41 ∷ []) (32 ∷ rest) in
    let shape : time ++ 32 ∷ rest ≡ 40 ∷ (h.seconds ++ 46 ∷ behind) =
    ap (λ (x : List ℕ). x ++ 32 ∷ rest) h.spelled ∙ ap (λ (x : List ℕ). 40 ∷ x) (append_assoc h.seconds (46 ∷ (h.micros ++ 41 ∷ [])) (32 ∷ rest) ∙ ap (λ (x : List ℕ). h.seconds ++ 46 ∷ x) inner) in
    let value : number_after (number h.seconds) h.micros ≡ moment = sym (number_after_append 0 h.seconds h.micros) ∙ sym h.value in
    ap time_at shape
    ∙ time_by (h.seconds ++ 46 ∷ behind)
    ∙ ap micros_behind (seconds_again h.seconds behind h.some h.few h.seconds_digits)
    ∙ micros_again (number h.seconds) h.micros rest h.six h.micros_digits
    ∙ ap (λ (x : ℕ). Some (record { moment = x; rest = rest })) value

-- a time of twenty bytes, with the space behind it
usual_time : (line : List ℕ) → get_or line 0 0 ≡ 40 → get_or line 11 0 ≡ 46 → get_or line 18 0 ≡ 41 → get_or line 19 0 ≡ 32
    → list_all is_ascii_digit (take 10 (drop 1 line)) ≡ true → list_all is_ascii_digit (take 6 (drop 12 line)) ≡ true
    → time_at line ≡ Some (record { moment = number_after (number (take 10 (drop 1 line))) (take 6 (drop 12 line)); rest = drop 20 line })
usual_time line opened point closed space are_seconds are_micros =
    let text = drop 1 line in
    let seconds = take 10 text in
    let micros = take 6 (drop 12 line) in
    let rest = drop 20 line in
    let behind : List ℕ = micros ++ 41 ∷ 32 ∷ rest in
    let there : get_or text 10 0 ≡ 46 = get_or-drop 1 line 10 0 ∙ point in
    let end : get_or (drop 12 line) 6 0 ≡ 41 = get_or-drop 12 line 6 0 ∙ closed in
    let last : get_or (drop 19 line) 0 0 ≡ 32 = get_or-drop 19 line 0 0 ∙ space in
    let a : text ≡ seconds ++ 46 ∷ drop 12 line = cut_found text 10 45 there ∙ ap (λ (x : List ℕ). seconds ++ 46 ∷ x) (drop-drop 11 1 line) in
    let b : drop 12 line ≡ micros ++ 41 ∷ drop 19 line = cut_found (drop 12 line) 6 40 end ∙ ap (λ (x : List ℕ). micros ++ 41 ∷ x) (drop-drop 7 12 line) in
    let c : drop 19 line ≡ 32 ∷ rest = cut_found (drop 19 line) 0 31 last ∙ ap (λ (x : List ℕ). 32 ∷ x) (drop-drop 1 19 line) in
    let shape : line ≡ 40 ∷ (seconds ++ 46 ∷ behind) = cut_found line 0 39 opened ∙ ap (λ (x : List ℕ). 40 ∷ x) (a ∙ ap (λ (x : List ℕ). seconds ++ 46 ∷ x) (b ∙ ap (λ (x : List ℕ). micros ++ 41 ∷ x) c)) in
    let ten : length seconds ≡ 10 = omega (arith, length-take 10 text, within text 10 45 there) in
    ap time_at shape
    ∙ time_by (seconds ++ 46 ∷ behind)
    ∙ ap micros_behind (seconds_again seconds behind (omega (arith, ten)) (omega (arith, ten)) are_seconds)
    ∙ micros_again (number seconds) micros rest (omega (arith, length-take 6 (drop 12 line), within (drop 12 line) 6 40 end)) are_micros

-- its digits, put behind one another
pub digits_put : (line seconds micros : List ℕ) → 20 ≤ length line → seconds ≡ take 10 (drop 1 line) → micros ≡ take 6 (drop 12 line)
    → put_mid 10 6 (seconds ++ 0 ∷ 0 ∷ 0 ∷ 0 ∷ 0 ∷ 0 ∷ []) micros ≡ take 10 (drop 1 line) ++ take 6 (drop 12 line)
digits_put line seconds micros long e f =
    let room : List ℕ = 0 ∷ 0 ∷ 0 ∷ 0 ∷ 0 ∷ 0 ∷ [] in
    let ten : length seconds ≡ 10 = omega (arith, ap length e, length-take 10 (drop 1 line), length-drop 1 line, long) in
    let six : 6 ≡ length (seconds ++ room) - 10 = omega (arith, length-append seconds room, ten) in
    ap (λ (n : ℕ). put_mid 10 n (seconds ++ room) micros) six
    ∙ put_end (seconds ++ room) micros 10
    ∙ ap (λ (x : List ℕ). x ++ micros) (take_at seconds room 10 ten)
    ∙ rw (e, f) refl

-- which are digits where all of them are
pub both_digits : (line digits : List ℕ) → digits ≡ take 10 (drop 1 line) ++ take 6 (drop 12 line) → list_all is_ascii_digit digits ≡ true
    → (list_all is_ascii_digit (take 10 (drop 1 line)) ≡ true) × (list_all is_ascii_digit (take 6 (drop 12 line)) ≡ true)
both_digits line digits are all = all_parts is_ascii_digit (take 10 (drop 1 line)) (take 6 (drop 12 line)) (ap (list_all is_ascii_digit) (sym are) ∙ all)

pub usual_read : (line : List ℕ) (seconds moment : ℕ) → HasUsualTime line → seconds ≡ number (take 10 (drop 1 line)) → moment ≡ number_after seconds (take 6 (drop 12 line))
    → time_at line ≡ Some (record { moment = moment; rest = drop 20 line })
usual_read line seconds moment h s m =
    let value : moment ≡ number_after (number (take 10 (drop 1 line))) (take 6 (drop 12 line)) = m ∙ ap (λ (n : ℕ). number_after n (take 6 (drop 12 line))) s in
    rw value (usual_time line h.1.0 h.1.1 h.1.2 h.1.3 h.2.0 h.2.1)

pub micros_small : (line : List ℕ) (seconds : ℕ) → HasUsualTime line → seconds ≡ number (take 10 (drop 1 line)) → number_after seconds (take 6 (drop 12 line)) < 2 ^ 64
micros_small line seconds h s = micros_fit seconds (drop 12 line) (omega (arith, s, ten_fit (drop 1 line) h.2.0)) h.2.1
