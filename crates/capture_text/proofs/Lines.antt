-- The laws of a line: what is read is spelled so, what is spelled so is read, and which rule is broken.
use Rattle.std.proofs.Common.{◌≡◌, ◌*◌, ◌≢◌, ℕ, ◌<◌, ◌≤◌, true, false, cond, ltb, leb, ◌&&◌, List, [], ◌∷◌, ◌++◌, length, get_or, take, drop, Option, Some, None, Result, Ok, Err, refl, sym, ap, subst, ◌∙◌, arith, inl, inr}
use Rattle.std.specs.Prelude.{◌==◌, codes}
use Rattle.std.specs.Char.{is_ascii_graphic}
use Rattle.std.specs.List.{prefix_len, list_all}
use Rattle.std.specs.Cmp.Lexicographic.{same_text}
use Rattle.std.proofs.lemmas.Bool.{cases_Bool, cases_lt, and_parts, and_from, eqb-true, eq-eqb, leb-true, le-leb, lt-ltb, le-ltb}
use Rattle.std.proofs.lemmas.List.{length-take, take-append-drop}
use Rattle.std.proofs.lemmas.List.Folds.{length-prefix_len}
use Rattle.hex.specs.Hex.{decode_of}
use Rattle.sentence_text.specs.Names.{IsGroup}
use Rattle.sentence_text.specs.Byte.{is_address_byte}
use Rattle.sentence_text.proofs.Bytes.{front_passes, run_of, splits}
use Rattle.capture_text.specs.declared.line_rule.LineRule.{LineRule}
use Rattle.capture_text.specs.declared.line_rule.LineRule.TheVariants.{Form, Long}
use Rattle.capture_text.specs.Capture.{IsInterface, Begins, is_end, longest_line, most_bytes}
use Rattle.gate_events.specs.Event.{Seen}
use Rattle.capture_text.specs.Reading.{Timed, time_at, Named, interface_at, is_group, bytes_before_end, bytes_at, frame_at, seen_frame, is_name, seen_behind, seen_named, seen_at, read}
use Rattle.capture_text.proofs.Cuts.{within, cut_by_test, cut_found, if_some, some_is, four}
use Rattle.capture_text.proofs.Times.{time_found, time_again}
use Rattle.capture_text.proofs.Data.{BytesFound, bytes_found, bytes_again}

abbrev pub Answer : Type 0
Answer = Result Seen LineRule

abbrev pub given : Seen → Answer
given s = Ok s

abbrev pub refused : LineRule → Answer
refused r = Err r

pub given_is : (a b : Seen) → given a ≡ given b → a ≡ b
given_is a b e = cc

-- ---- the interface

interface_found : (rest : List ℕ) (i : Named) → interface_at rest ≡ Some i → IsInterface i.name × (rest ≡ i.name ++ i.tail)
interface_found rest i e =
    let n = prefix_len is_ascii_graphic rest in
    let made : Named = record { name = take n rest; tail = drop n rest } in
    let h = if_some (leb 1 n && leb n 16) (Some made) i e in
    let p = and_parts (leb 1 n) (leb n 16) h.0 in
    let len = length-prefix_len is_ascii_graphic rest in
    let is : IsInterface (take n rest) = record { some = omega (arith, len, leb-true 1 n p.0); few = omega (arith, len, leb-true n 16 p.1); bytes = front_passes is_ascii_graphic rest } in
    let both : IsInterface made.name × (rest ≡ made.name ++ made.tail) = (is, sym (take-append-drop n rest)) in
    subst (λ (x : Named). IsInterface x.name × (rest ≡ x.name ++ x.tail)) (some_is made i h.1) both

abbrev named_by : ℕ → List ℕ → List ℕ → Option Named
named_by n name tail = cond (leb 1 n && leb n 16) (Some (record { name = name; tail = tail })) None

interface_again : (name tail : List ℕ) → IsInterface name → prefix_len is_ascii_graphic tail ≡ 0 → interface_at (name ++ tail) ≡ Some (record { name = name; tail = tail })
interface_again name tail h stops =
    let text = name ++ tail in
    let s = splits is_ascii_graphic name tail h.bytes stops in
    let some : leb 1 (length name) ≡ true = le-leb 1 (length name) h.some in
    let few : leb (length name) 16 ≡ true = le-leb (length name) 16 h.few in
    ap (λ (x : List ℕ). named_by (prefix_len is_ascii_graphic text) (take (prefix_len is_ascii_graphic text) text) x) s.tail_is
    ∙ ap (λ (x : List ℕ). named_by (prefix_len is_ascii_graphic text) x tail) s.front_is
    ∙ ap (λ (x : ℕ). named_by x name tail) s.run
    ∙ rw (some, few) refl

-- a name of four bytes
pub four_first : (rest : List ℕ) → get_or rest 4 0 ≡ 32 → list_all is_ascii_graphic (take 4 rest) ≡ true → (4 ≤ length rest) × (prefix_len is_ascii_graphic rest ≡ 4)
four_first rest space all =
    let lt : 4 < length rest = within rest 4 31 space in
    let four : length (take 4 rest) ≡ 4 = omega (arith, lt, length-take 4 rest) in
    (omega (arith, lt), ap (prefix_len is_ascii_graphic) (cut_found rest 4 31 space) ∙ run_of is_ascii_graphic (take 4 rest) (32 ∷ drop 5 rest) all refl ∙ four)

pub end_no_name : (rest : List ℕ) → is_end rest ≡ true → prefix_len is_ascii_graphic rest ≡ 0
end_no_name [] h = refl
end_no_name (c ∷ cs) h = rw (eqb-true c 32 h) refl

-- ---- a datagram

pub record DatagramRead (tail bytes : List ℕ) : Type 0 where
  pub group : List ℕ
  pub is_group : IsGroup group
  pub behind : List ℕ
  pub spelled : tail ≡ 32 ∷ (group ++ 35 ∷ behind)
  pub found : BytesFound most_bytes behind bytes

group_found : (group : List ℕ) → is_group group ≡ true → IsGroup group
group_found group e =
    let p = and_parts (length group == 4) (list_all is_address_byte group) e in
    record { len = eqb-true (length group) 4 p.0; bytes = p.1 }

group_again : (group : List ℕ) → IsGroup group → is_group group ≡ true
group_again group h = and_from (length group == 4) (list_all is_address_byte group) (eq-eqb (length group) 4 h.len) h.bytes

pub datagram_found : (tail bytes : List ℕ) → bytes_at tail ≡ Some bytes → DatagramRead tail bytes
unfolding bytes_at
datagram_found tail bytes e =
    let group = take 4 (drop 1 tail) in
    let behind = drop 6 tail in
    let p0 = get_or tail 0 0 == 32 in
    let p2 = get_or tail 5 0 == 35 in
    let h = if_some (p0 && is_group group && p2) (bytes_before_end most_bytes behind) bytes e in
    let h2 = and_parts (p0 && is_group group) p2 h.0 in
    let h1 = and_parts p0 (is_group group) h2.0 in
    let a : tail ≡ 32 ∷ drop 1 tail = cut_by_test tail 0 31 h1.0 in
    let hash : get_or (drop 1 tail) 4 0 ≡ 35 = ap (λ (x : List ℕ). get_or x 5 0) (sym a) ∙ eqb-true (get_or tail 5 0) 35 h2.1 in
    let b : drop 1 tail ≡ group ++ 35 ∷ drop 5 (drop 1 tail) = cut_found (drop 1 tail) 4 34 hash in
    let same : drop 5 (drop 1 tail) ≡ behind = ap (drop 6) (sym a) in
    record {
      group = group;
      is_group = group_found group h1.1;
      behind = behind;
      spelled = a ∙ ap (λ (x : List ℕ). 32 ∷ x) (b ∙ ap (λ (x : List ℕ). group ++ 35 ∷ x) same);
      found = bytes_found most_bytes behind bytes h.1;
    }

datagram_laid_out : (a b c d : ℕ) (behind : List ℕ) → bytes_at (32 ∷ a ∷ b ∷ c ∷ d ∷ 35 ∷ behind) ≡ cond (is_group (a ∷ b ∷ c ∷ d ∷ [])) (bytes_before_end most_bytes behind) None
unfolding bytes_at
datagram_laid_out a b c d behind = grind arith

pub datagram_again : (group digits rest bytes : List ℕ) → IsGroup group → length digits ≤ 2 * most_bytes → decode_of digits ≡ Ok bytes → is_end rest ≡ true
    → bytes_at (32 ∷ (group ++ 35 ∷ (digits ++ rest))) ≡ Some bytes
datagram_again group digits rest bytes g few written ends =
    let f = four group g.len in
    let is : is_group (f.0 ∷ f.1 ∷ f.2 ∷ f.3 ∷ []) ≡ true = ap is_group (sym f.4) ∙ group_again group g in
    let behind = digits ++ rest in
    ap (λ (x : List ℕ). bytes_at (32 ∷ (x ++ 35 ∷ behind))) f.4
    ∙ datagram_laid_out f.0 f.1 f.2 f.3 behind
    ∙ rw is (bytes_again most_bytes digits rest bytes few written ends)

-- ---- the whole line, up to its interface

pub record LineRead (line : List ℕ) : Type 0 where
  pub moment : ℕ
  pub name : List ℕ
  pub tail : List ℕ
  pub begins : Begins moment name tail line
  pub gives : read line ≡ seen_behind moment name tail

pub too_long : (line : List ℕ) → longest_line < length line → read line ≡ Err Long
unfolding read
too_long line more =
    let e : ltb longest_line (length line) ≡ true = lt-ltb longest_line (length line) more in
    rw e refl

short : (line : List ℕ) → length line ≤ longest_line → read line ≡ seen_at (time_at line)
unfolding read
short line le =
    let e : ltb longest_line (length line) ≡ false = le-ltb longest_line (length line) le in
    rw e refl

-- a line is too long, has no time and interface, or has them and gives what its interface says
pub data LineKind (line : List ℕ) : Type 0 where
  long : longest_line < length line → read line ≡ Err Long → LineKind line
  formless : length line ≤ longest_line → read line ≡ Err Form → LineKind line
  laid : LineRead line → LineKind line

pub line_kind : (line : List ℕ) → LineKind line
line_kind line = elim (cases_lt longest_line (length line)) [
  | inl more ↦ long more (too_long line more)
  | inr le ↦ timed (time_at line) refl le
]
  where
    named : (t : Timed) (i : Option Named) → time_at line ≡ Some t → interface_at t.rest ≡ i → length line ≤ longest_line → LineKind line
    named t None e f le = formless le (short line le ∙ ap seen_at e ∙ ap (seen_named t.moment) f)
    named t (Some i) e f le =
        let time = time_found line t e in
        let is = interface_found t.rest i f in
        laid (record {
          moment = t.moment;
          name = i.name;
          tail = i.tail;
          begins = record { time = time.time; is_time = time.is_time; is_interface = is.0; spelled = time.spelled ∙ ap (λ (x : List ℕ). time.time ++ 32 ∷ x) is.1; most = le };
          gives = short line le ∙ ap seen_at e ∙ ap (seen_named t.moment) f;
        })

    timed : (t : Option Timed) → time_at line ≡ t → length line ≤ longest_line → LineKind line
    timed None e le = formless le (short line le ∙ ap seen_at e)
    timed (Some t) e le = named t (interface_at t.rest) e refl le

pub read_begins : (moment : ℕ) (name tail line : List ℕ) → Begins moment name tail line → prefix_len is_ascii_graphic tail ≡ 0 → read line ≡ seen_behind moment name tail
read_begins moment name tail line h stops =
    short line h.most
    ∙ ap (λ (x : List ℕ). seen_at (time_at x)) h.spelled
    ∙ ap seen_at (time_again moment h.time (name ++ tail) h.is_time)
    ∙ ap (seen_named moment) (interface_again name tail h.is_interface stops)

-- ---- by the interface

bus_name : (name : List ℕ) → name ≢ codes "tick" → name ≢ codes "udp0" → (is_name (codes "tick") name ≡ false) × (is_name (codes "udp0") name ≡ false)
bus_name name a b = (differs (codes "tick") a, differs (codes "udp0") b)
  where
    differs : (text : List ℕ) → name ≢ text → is_name text name ≡ false
    differs text other = elim (cases_Bool (is_name text name)) [
      | inl e ↦ absurd (other (same_text name text (sym e)))
      | inr e ↦ e
    ]

pub on_bus_gives : (moment : ℕ) (name tail : List ℕ) → name ≢ codes "tick" → name ≢ codes "udp0" → seen_behind moment name tail ≡ seen_frame moment (frame_at tail)
unfolding seen_behind
on_bus_gives moment name tail a b =
    let n = bus_name name a b in
    let p : is_name (codes "tick") name ≡ false = n.0 in
    let q : is_name (codes "udp0") name ≡ false = n.1 in
    rw (p, q) refl
