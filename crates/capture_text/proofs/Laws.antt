-- The laws of read_line: what is read is spelled so, what is spelled so is read, and which rule is broken.
use Rattle.std.proofs.Common.{◌≡◌, ◌≢◌, ℕ, ◌<◌, ◌≤◌, Bool, true, false, List, ◌∷◌, ◌++◌, length, Option, Some, None, Result, Ok, Err, refl, sym, ap, subst, ◌∙◌, arith, inl, inr}
use Rattle.std.specs.Prelude.{codes, IfOk}
use Rattle.std.specs.Cmp.Lexicographic.{same_text, other_text}
use Rattle.std.proofs.lemmas.Bool.{cases_Bool}
use Rattle.n2k_id.specs.Frame.{BusFrame}
use Rattle.gate_events.specs.declared.event.Event.{Event}
use Rattle.capture_text.specs.declared.line_rule.LineRule.{LineRule}
use Rattle.capture_text.specs.declared.line_rule.LineRule.TheVariants.{Form, NotExtended, Long}
use Rattle.capture_text.specs.Capture.{Begins, is_end, IsDatagram, IsOnBus, IsFrame, IsLine, IsNotExtended, IsNoLine, longest_line}
use Rattle.gate_events.specs.Event.{Seen, frame, datagram, tick, view}
use Rattle.capture_text.specs.Reading.{bytes_at, frame_at, seen_tick, seen_datagram, seen_frame, is_name, seen_behind, read, seen}
use Rattle.capture_text.proofs.Frames.{Layout, frame_found, frame_again, other_found, other_again, frame_never_long}
use Rattle.capture_text.proofs.Lines.{Answer, given, refused, given_is, datagram_found, datagram_again, too_long, LineKind, long, formless, laid, line_kind, read_begins, on_bus_gives, end_no_name}

-- ---- what is read is spelled so

tick_line : (moment : ℕ) (tail line : List ℕ) (ends : Bool) (s : Seen) → Begins moment (codes "tick") tail line → is_end tail ≡ ends → seen_tick moment ends ≡ Ok s → IsLine s line
tick_line moment tail line true s h ends e = subst (λ (x : Seen). IsLine x line) (given_is (tick moment) s e) (record { tail = tail; begins = h; ends = ends })
tick_line moment tail line false s h ends e = absurd (let f : refused Form ≡ Ok s = e in cc)

datagram_line : (moment : ℕ) (tail line : List ℕ) (bytes : Option (List ℕ)) (s : Seen) → Begins moment (codes "udp0") tail line → bytes_at tail ≡ bytes → seen_datagram moment bytes ≡ Ok s → IsLine s line
datagram_line moment tail line None s h b e = absurd (let f : refused Form ≡ Ok s = e in cc)
datagram_line moment tail line (Some bytes) s h b e =
    let r = datagram_found tail bytes b in
    let f = r.found in
    let spelled : tail ≡ 32 ∷ (r.group ++ 35 ∷ (f.digits ++ f.rest)) = r.spelled ∙ ap (λ (x : List ℕ). 32 ∷ (r.group ++ 35 ∷ x)) f.spelled in
    let begins = subst (λ (x : List ℕ). Begins moment (codes "udp0") x line) spelled h in
    let is : IsDatagram moment bytes line = record { group = r.group; digits = f.digits; rest = f.rest; begins = begins; is_group = r.is_group; few = f.few; written = f.written; ends = f.ends } in
    subst (λ (x : Seen). IsLine x line) (given_is (datagram moment bytes) s e) is

on_bus : (moment : ℕ) (name tail line identifier behind : List ℕ) → Begins moment name tail line → name ≢ codes "tick" → name ≢ codes "udp0" → Layout tail identifier behind → IsOnBus moment identifier behind line
on_bus moment name tail line identifier behind h a b l = record {
  name = name;
  begins = subst (λ (x : List ℕ). Begins moment name x line) l.spelled h;
  no_tick = a;
  no_datagram = b;
  digits = l.digits;
}

frame_line : (moment : ℕ) (name tail line : List ℕ) (f : Result BusFrame LineRule) (s : Seen) → Begins moment name tail line → name ≢ codes "tick" → name ≢ codes "udp0"
    → frame_at tail ≡ f → seen_frame moment f ≡ Ok s → IsLine s line
frame_line moment name tail line (Err r) s h a b g e = absurd (let f : refused r ≡ Ok s = e in cc)
frame_line moment name tail line (Ok f) s h a b g e =
    let r = frame_found tail f g in
    let is : IsFrame moment f line = record {
      identifier = r.identifier;
      behind = r.behind;
      on_bus = on_bus moment name tail line r.identifier r.behind h a b r.layout;
      number = r.number;
      fits = r.fits;
      is_data = r.is_data;
    } in
    subst (λ (x : Seen). IsLine x line) (given_is (frame moment f) s e) is

-- the three kinds of interface
data NameKind (moment : ℕ) (name tail : List ℕ) : Type 0 where
  ticks : name ≡ codes "tick" → seen_behind moment name tail ≡ seen_tick moment (is_end tail) → NameKind moment name tail
  carries : name ≡ codes "udp0" → seen_behind moment name tail ≡ seen_datagram moment (bytes_at tail) → NameKind moment name tail
  is_bus : name ≢ codes "tick" → name ≢ codes "udp0" → seen_behind moment name tail ≡ seen_frame moment (frame_at tail) → NameKind moment name tail

name_kind : (moment : ℕ) (name tail : List ℕ) → NameKind moment name tail
unfolding seen_behind
name_kind moment name tail = elim (cases_Bool (is_name (codes "tick") name)) [
  | inl t ↦ ticks (same_text name (codes "tick") (sym t)) (rw t refl)
  | inr nt ↦
      elim (cases_Bool (is_name (codes "udp0") name)) [
        | inl d ↦ carries (same_text name (codes "udp0") (sym d)) (rw (nt, d) refl)
        | inr nd ↦
            let a = other_text name (codes "tick") (sym nt) in
            let b = other_text name (codes "udp0") (sym nd) in
            is_bus a b (rw (nt, nd) refl)
      ]
]

behind_found : (moment : ℕ) (name tail line : List ℕ) (s : Seen) → Begins moment name tail line → seen_behind moment name tail ≡ Ok s → IsLine s line
behind_found moment name tail line s h e = elim (name_kind moment name tail) [
  | ticks n g ↦ tick_line moment tail line (is_end tail) s (subst (λ (x : List ℕ). Begins moment x tail line) n h) refl (sym g ∙ e)
  | carries n g ↦ datagram_line moment tail line (bytes_at tail) s (subst (λ (x : List ℕ). Begins moment x tail line) n h) refl (sym g ∙ e)
  | is_bus a b g ↦ frame_line moment name tail line (frame_at tail) s h a b refl (sym g ∙ e)
]

pub found : (line : List ℕ) (s : Seen) → read line ≡ Ok s → IsLine s line
found line s e = elim (line_kind line) [
  | long more g ↦ absurd (let f : refused Long ≡ Ok s = sym g ∙ e in cc)
  | formless le g ↦ absurd (let f : refused Form ≡ Ok s = sym g ∙ e in cc)
  | laid r ↦ behind_found r.moment r.name r.tail line s r.begins (sym r.gives ∙ e)
]

-- ---- what is spelled so is read

again_frame : (moment : ℕ) (f : BusFrame) (line : List ℕ) → IsFrame moment f line → read line ≡ Ok (frame moment f)
again_frame moment f line h =
    let b = h.on_bus in
    let tail : List ℕ = 32 ∷ (h.identifier ++ 35 ∷ h.behind) in
    let l : Layout tail h.identifier h.behind = record { spelled = refl; digits = b.digits } in
    read_begins moment b.name tail line b.begins refl
    ∙ on_bus_gives moment b.name tail b.no_tick b.no_datagram
    ∙ ap (seen_frame moment) (frame_again tail h.identifier h.behind f l h.number h.fits h.is_data)

tick_gives : (moment : ℕ) (tail : List ℕ) → seen_behind moment (codes "tick") tail ≡ seen_tick moment (is_end tail)
unfolding seen_behind
tick_gives moment tail = refl

datagram_gives : (moment : ℕ) (tail : List ℕ) → seen_behind moment (codes "udp0") tail ≡ seen_datagram moment (bytes_at tail)
unfolding seen_behind
datagram_gives moment tail = refl

pub again : (line : List ℕ) (s : Seen) → IsLine s line → read line ≡ Ok s
again line (frame moment f) h = again_frame moment f line h
again line (datagram moment bytes) h =
    read_begins moment (codes "udp0") (32 ∷ (h.group ++ 35 ∷ (h.digits ++ h.rest))) line h.begins refl
    ∙ datagram_gives moment (32 ∷ (h.group ++ 35 ∷ (h.digits ++ h.rest)))
    ∙ ap (seen_datagram moment) (datagram_again h.group h.digits h.rest bytes h.is_group h.few h.written h.ends)
again line (tick moment) h =
    read_begins moment (codes "tick") h.tail line h.begins (end_no_name h.tail h.ends)
    ∙ tick_gives moment h.tail
    ∙ ap (seen_tick moment) h.ends

-- ---- the rules

tick_refuses : (moment : ℕ) (ends : Bool) (r : LineRule) → seen_tick moment ends ≡ Err r → r ≡ Form
tick_refuses moment true r e = absurd (let f : given (tick moment) ≡ Err r = e in cc)
tick_refuses moment false r e = cc

datagram_refuses : (moment : ℕ) (bytes : Option (List ℕ)) (r : LineRule) → seen_datagram moment bytes ≡ Err r → r ≡ Form
datagram_refuses moment None r e = cc
datagram_refuses moment (Some bytes) r e = absurd (let f : given (datagram moment bytes) ≡ Err r = e in cc)

frame_refuses : (moment : ℕ) (f : Result BusFrame LineRule) (r : LineRule) → seen_frame moment f ≡ Err r → f ≡ Err r
frame_refuses moment (Ok f) r e = absurd (let g : given (frame moment f) ≡ Err r = e in cc)
frame_refuses moment (Err x) r e = cc

-- a line that begins as one is refused for its form, or by its frame
data Refusal (moment : ℕ) (name tail : List ℕ) (r : LineRule) : Type 0 where
  of_form : r ≡ Form → Refusal moment name tail r
  of_frame : name ≢ codes "tick" → name ≢ codes "udp0" → frame_at tail ≡ Err r → Refusal moment name tail r

refusal : (moment : ℕ) (name tail : List ℕ) (r : LineRule) → seen_behind moment name tail ≡ Err r → Refusal moment name tail r
refusal moment name tail r e = elim (name_kind moment name tail) [
  | ticks n g ↦ of_form (tick_refuses moment (is_end tail) r (sym g ∙ e))
  | carries n g ↦ of_form (datagram_refuses moment (bytes_at tail) r (sym g ∙ e))
  | is_bus a b g ↦ of_frame a b (frame_refuses moment (frame_at tail) r (sym g ∙ e))
]

pub long_found : (line : List ℕ) → read line ≡ Err Long → longest_line < length line
long_found line e = elim (line_kind line) [
  | long more g ↦ more
  | formless le g ↦ absurd (let f : refused Form ≡ Err Long = sym g ∙ e in cc)
  | laid r ↦
      elim (refusal r.moment r.name r.tail Long (sym r.gives ∙ e)) [
        | of_form f ↦ absurd (cc)
        | of_frame a b f ↦ absurd (frame_never_long r.tail f)
      ]
]

pub not_extended_found : (line : List ℕ) → read line ≡ Err NotExtended → IsNotExtended line
not_extended_found line e = elim (line_kind line) [
  | long more g ↦ absurd (let f : refused Long ≡ Err NotExtended = sym g ∙ e in cc)
  | formless le g ↦ absurd (let f : refused Form ≡ Err NotExtended = sym g ∙ e in cc)
  | laid r ↦
      elim (refusal r.moment r.name r.tail NotExtended (sym r.gives ∙ e)) [
        | of_form f ↦ absurd (cc)
        | of_frame a b f ↦
            let o = other_found r.tail f in
            record { moment = r.moment; identifier = o.identifier; behind = o.behind; on_bus = on_bus r.moment r.name r.tail line o.identifier o.behind r.begins a b o.layout; other = o.other }
      ]
]

pub not_extended_again : (line : List ℕ) → IsNotExtended line → read line ≡ Err NotExtended
not_extended_again line h =
    let b = h.on_bus in
    let tail : List ℕ = 32 ∷ (h.identifier ++ 35 ∷ h.behind) in
    let l : Layout tail h.identifier h.behind = record { spelled = refl; digits = b.digits } in
    read_begins h.moment b.name tail line b.begins refl
    ∙ on_bus_gives h.moment b.name tail b.no_tick b.no_datagram
    ∙ ap (seen_frame h.moment) (other_again tail h.identifier h.behind l h.other)

no_line_found : (line : List ℕ) → read line ≡ Err Form → IsNoLine line
no_line_found line e = record {
  most = not_long (line_kind line);
  says_nothing = λ s h. (let f : given s ≡ Err Form = sym (again line s h) ∙ e in cc);
  no_frame = λ h. (let f : refused NotExtended ≡ Err Form = sym (not_extended_again line h) ∙ e in cc);
}
  where
    not_long : LineKind line → length line ≤ longest_line
    not_long (long more g) = absurd (let f : refused Long ≡ Err Form = sym g ∙ e in cc)
    not_long (formless le g) = le
    not_long (laid r) = r.begins.most

no_line_again : (line : List ℕ) (r : Answer) → read line ≡ r → IsNoLine line → r ≡ Err Form
no_line_again line (Ok s) e h = absurd (h.says_nothing s (found line s e))
no_line_again line (Err Form) e h = refl
no_line_again line (Err NotExtended) e h = absurd (h.no_frame (not_extended_found line e))
no_line_again line (Err Long) e h = absurd (omega (arith, h.most, long_found line e))

-- ---- the same of what the call answers

pub is_found : (line : List ℕ) (result : Result Event LineRule) → seen result ≡ read line → IfOk result (λ e. IsLine (view e) line)
is_found line (Ok event) e = found line (view event) (sym e)
is_found line (Err r) e = tt

refused_by : (result : Result Event LineRule) (r : LineRule) → seen result ≡ Err r → result ≡ Err r
refused_by (Ok event) r e = absurd (let f : given (view event) ≡ Err r = e in cc)
refused_by (Err x) r e = cc

pub is_long : (line : List ℕ) (result : Result Event LineRule) → seen result ≡ read line → (result ≡ Err Long → longest_line < length line) × (longest_line < length line → result ≡ Err Long)
is_long line result e = (λ r. long_found line (sym e ∙ ap seen r), λ h. refused_by result Long (e ∙ too_long line h))

pub is_not_extended : (line : List ℕ) (result : Result Event LineRule) → seen result ≡ read line → (result ≡ Err NotExtended → IsNotExtended line) × (IsNotExtended line → result ≡ Err NotExtended)
is_not_extended line result e = (λ r. not_extended_found line (sym e ∙ ap seen r), λ h. refused_by result NotExtended (e ∙ not_extended_again line h))

pub is_form : (line : List ℕ) (result : Result Event LineRule) → seen result ≡ read line → (result ≡ Err Form → IsNoLine line) × (IsNoLine line → result ≡ Err Form)
is_form line result e = (λ r. no_line_found line (sym e ∙ ap seen r), λ h. refused_by result Form (e ∙ no_line_again line (read line) refl h))
