-- Frames that bear on no session leave no trace.
use Rattle.std.proofs.Common.{◌≡◌, ℕ, ◌-◌, ◌≤◌, not, Bool, true, false, List, [], ◌∷◌, Option, refl, sym, ◌∙◌, ap, arith}
use Rattle.std.proofs.lemmas.Bool.{and_parts, ltb-true, lt-ltb}
use Rattle.std.specs.List.{filter}
use Rattle.std.specs.Cmp.{IsTotalOrder}
use Rattle.std.specs.declared.cmp.Ordering.{Ordering}
use Rattle.slot_views.specs.Slots.{Entry, SlotMap, with_entries, is_expired, has_expired, entry_at}
use Rattle.slot_views.specs.Traces.{unexpired}
use Rattle.iso_transport.specs.declared.key.IsoKey.{IsoKey}
use Rattle.iso_transport.specs.Audience.{key_of, is_data}
use Rattle.iso_transport.specs.Verdicts.{bears, concerns, frame_verdict}
use Rattle.iso_transport.specs.Assembly.{is_crowded, fed_by, fed_after}
use Rattle.iso_transport.specs.Keys.{fed_one, sessions_after}
use Rattle.iso_transport.specs.Heard.{HeardFrame, is_bearing, bearing_frames, newest, AreInOrder, heard_after, HearsWhatBears}
use Rattle.iso_transport.proofs.Joining.{concerned, feeds_its_key}

-- what has expired stays so
expired_later : (t m : ℕ) (e : Entry) → t ≤ m → is_expired t e ≡ true → is_expired m e ≡ true
expired_later t m e later gone = let past = ltb-true e.gap (t - e.last) gone in lt-ltb e.gap (m - e.last) (omega (arith, past))

left_of_left : (t m : ℕ) → t ≤ m → (es : List (IsoKey × Entry)) → filter (λ e. not (has_expired m e)) (filter (λ e. not (has_expired t e)) es) ≡ filter (λ e. not (has_expired m e)) es
left_of_left t m later [] = refl
left_of_left t m later (e ∷ es) = by (is_expired t e.1) (is_expired m e.1) refl refl (left_of_left t m later es)
  where
    by : (a b : Bool) → is_expired t e.1 ≡ a → is_expired m e.1 ≡ b → filter (λ e. not (has_expired m e)) (filter (λ e. not (has_expired t e)) es) ≡ filter (λ e. not (has_expired m e)) es
        → filter (λ e. not (has_expired m e)) (filter (λ e. not (has_expired t e)) (e ∷ es)) ≡ filter (λ e. not (has_expired m e)) (e ∷ es)
    by true true ea eb rest = rw (ea, eb) rest
    by true false ea eb rest = let gone = expired_later t m e.1 later ea in cc
    by false true ea eb rest = rw (ea, eb) rest
    by false false ea eb rest = rw (ea, eb) (ap {B = List (IsoKey × Entry)} (λ ds. e ∷ ds) rest)

unexpired_twice : (t m : ℕ) → t ≤ m → (s : SlotMap IsoKey) → unexpired m (unexpired t s) ≡ unexpired m s
unexpired_twice t m later s = ap (with_entries s) (left_of_left t m later s.entries)

module _ {cmp : IsoKey → IsoKey → Ordering} (o : IsTotalOrder cmp) (own : Option ℕ) (limit : ℕ) where
  -- the frame as the call sees it, and as the list does
  called_one : (s : SlotMap IsoKey) (n : HeardFrame) → concerns own n.parts ≡ true → n.piece.packet ≡ is_data n.parts
      → fed_after cmp s own n.parts n.piece.bytes n.piece.moment ≡ fed_one cmp s (key_of n.parts) n.piece
  called_one s n ours kind =
      ap (fed_by cmp s (key_of n.parts) n.piece.bytes n.piece.moment)
      (concerned cmp o s own n.parts n.piece.bytes ours ∙ ap (λ b. frame_verdict (key_of n.parts).addressed (is_crowded s) (entry_at cmp s (key_of n.parts)) b n.piece.bytes) (sym kind))

  -- one more frame, where the sessions before it are those of the frames that bear on one
  one_more : (n : HeardFrame) (h : List HeardFrame) (s : SlotMap IsoKey) (m : ℕ) → n.piece.packet ≡ is_data n.parts → n.piece.moment ≤ m
      → unexpired n.piece.moment s ≡ unexpired n.piece.moment (sessions_after cmp limit (bearing_frames own h)) → unexpired m s ≡ unexpired m (sessions_after cmp limit (bearing_frames own h))
      → (b : Bool) → is_bearing own n ≡ b
      → unexpired m (fed_after cmp (unexpired n.piece.moment s) own n.parts n.piece.bytes n.piece.moment) ≡ unexpired m (sessions_after cmp limit (bearing_frames own (n ∷ h)))
  unfolding sessions_after
  one_more n h s m kind le before later true eb =
      let ours = (and_parts (concerns own n.parts) (bears (key_of n.parts).addressed (is_data n.parts) n.piece.bytes) eb).0 in
      rw eb (ap (unexpired m) (ap (λ t. fed_after cmp t own n.parts n.piece.bytes n.piece.moment) before ∙ called_one (unexpired n.piece.moment (sessions_after cmp limit (bearing_frames own h))) n ours kind))
  one_more n h s m kind le before later false eb =
      let passed = (feeds_its_key cmp o).passed (unexpired n.piece.moment s) own n.parts n.piece.bytes n.piece.moment eb in
      rw eb (ap (unexpired m) passed ∙ (unexpired_twice n.piece.moment m le s ∙ later))

  same_sessions : (h : List HeardFrame) → AreInOrder h → (m : ℕ) → newest h ≤ m → unexpired m (heard_after cmp own limit h) ≡ unexpired m (sessions_after cmp limit (bearing_frames own h))
  unfolding heard_after sessions_after
  same_sessions [] order m le = refl
  same_sessions (n ∷ h) order m le =
      one_more n h (heard_after cmp own limit h) m order.1 le (same_sessions h order.2 n.piece.moment order.0) (same_sessions h order.2 m (omega (arith, order.0, le))) _ refl

  pub hears_what_bears : (h : List HeardFrame) → AreInOrder h → HearsWhatBears cmp own limit h
  hears_what_bears h order = record { sessions = same_sessions h order }
