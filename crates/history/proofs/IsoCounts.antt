-- Sessions that are open, and the places of a map.
use Rattle.std.proofs.Common.{◌≡◌, ℕ, ◌<◌, Bool, true, false, ◌&&◌, List, [], ◌∷◌, refl, ◌∙◌, ◌==◌, nat_le, is_some, arith}
use Rattle.std.specs.Prelude.{Option, Some, if◌then◌else◌}
use Rattle.std.specs.List.{AllByRecursion, IsDistinct, list_any}
use Rattle.std.specs.Bool.{beq}
use Rattle.std.specs.Ordering.{eq_by_cmp}
use Rattle.std.specs.declared.cmp.Ordering.{Ordering}
use Rattle.std.proofs.lemmas.Bool.{eqb-true, ne_eqb, and_parts, false≢true}
use Rattle.slot_views.specs.Slots.{SlotMap}
use Rattle.iso_transport.specs.declared.key.IsoKey.{IsoKey}
use Rattle.iso_transport.specs.Audience.{key_of}
use Rattle.claim_table.specs.Laws.{IsSound}
use Rattle.history.specs.Known.{Known}
use Rattle.history.specs.Traces.{NotedFrame, iso_trace, broadcast_since, addressed_since, is_transport, is_bearing}
use Rattle.history.specs.Opens.{with_key, same_iso, precedes_iso, iso_keys, iso_open}
use Rattle.history.specs.CountLaws.{HoldsIso, CountsIso, SlotsCountIso}
use Rattle.history.proofs.KeySteps.{eqb-sym}
use Rattle.history.proofs.Counts.{any_placed, distinct_placed, Held, counted, room}

both_is : (a b : Bool) → beq a b ≡ true → a ≡ b
both_is a b e = grind arith

pub both_turn : (a b : Bool) → beq a b ≡ beq b a
both_turn a b = grind arith

pub same_is : (key one : IsoKey) → same_iso key one ≡ true → key ≡ one
same_is key one e = grind (arith, and_parts, both_is, eqb-true)

all_kinds : (ks : List IsoKey) → AllByRecursion (λ key. true ≡ true) ks
all_kinds [] = tt
all_kinds (k ∷ ks) = (refl, all_kinds ks)

-- a frame that bears on no session of a key
unlike : (x y z : Bool) → (x && z) ≡ false → ((x && y) && z) ≡ false
unlike x y z e = grind arith

and_no : (x : Bool) → (x && false) ≡ false
and_no x = grind arith

or_no_transport : (n : NotedFrame) (addressed : Bool) → is_transport n.parts ≡ false → is_bearing addressed n ≡ false
or_no_transport n addressed e = rw e refl

-- of frames of another key
apart_all : (a : ℕ) (n : NotedFrame) → same_iso (record { addressed = false; source = a }) (key_of n.parts) ≡ false → ((n.parts.source == a) && ((n.parts.destination == 255) && is_bearing false n)) ≡ false
apart_all a n other = grind (arith, eqb-sym, false≢true)

apart_own : (a own : ℕ) (n : NotedFrame) (late : Bool) → own < 252 → same_iso (record { addressed = true; source = a }) (key_of n.parts) ≡ false
    → ((n.parts.source == a) && ((n.parts.destination == own) && (late && is_bearing true n))) ≡ false
apart_own a own n late small other = grind (arith, eqb-true, ne_eqb, eqb-sym, false≢true)

-- a session whose key didn't come has no frames
module _ (k : Known) (sound : IsSound k.claims) where
  broadcast_past : (since : Option ℕ) (a : ℕ) (n : NotedFrame) (notes : List NotedFrame) → ((n.parts.source == a) && ((n.parts.destination == 255) && is_bearing false n)) ≡ false
      → broadcast_since since a (n ∷ notes) ≡ broadcast_since since a notes
  broadcast_past since a n notes e = grind (arith, unlike)

  addressed_past : (since own : Option ℕ) (own_since a : ℕ) (n : NotedFrame) (notes : List NotedFrame)
      → ((x : ℕ) → own ≡ Some x → ((n.parts.source == a) && ((n.parts.destination == x) && (nat_le own_since n.index && is_bearing true n))) ≡ false)
      → addressed_since since own own_since a (n ∷ notes) ≡ addressed_since since own own_since a notes
  addressed_past since own own_since a n notes e = grind (arith, unlike)

  past : (addressed : Bool) (a : ℕ) (n : NotedFrame) (notes : List NotedFrame) → same_iso (record { addressed = addressed; source = a }) (key_of n.parts) ≡ false
      → iso_trace k addressed a (n ∷ notes) ≡ iso_trace k addressed a notes
  past addressed a n notes other = grind (arith, broadcast_past, apart_all, addressed_past, apart_own)

  past_other : (addressed : Bool) (a : ℕ) (n : NotedFrame) (notes : List NotedFrame) → is_transport n.parts ≡ false → iso_trace k addressed a (n ∷ notes) ≡ iso_trace k addressed a notes
  past_other addressed a n notes e = grind (arith, broadcast_past, or_no_transport, and_no, addressed_past)

  no_trace : (addressed : Bool) (a : ℕ) → iso_trace k addressed a [] ≡ []
  no_trace addressed a = grind arith

  pub no_frames : (key : IsoKey) (notes : List NotedFrame) → list_any (same_iso key) (iso_keys notes) ≡ false → iso_trace k key.addressed key.source notes ≡ []
  no_frames key [] none = no_trace key.addressed key.source
  no_frames key (n ∷ notes) none = by (is_transport n.parts) refl none (λ absent. no_frames key notes absent)
    where
      by : (b : Bool) → is_transport n.parts ≡ b
          → list_any (same_iso key) (if b then with_key same_iso precedes_iso (key_of n.parts) (iso_keys notes) else iso_keys notes) ≡ false
          → (list_any (same_iso key) (iso_keys notes) ≡ false → iso_trace k key.addressed key.source notes ≡ [])
          → iso_trace k key.addressed key.source (n ∷ notes) ≡ []
      by true e absent rest =
          let parts = any_placed same_iso precedes_iso same_is key (key_of n.parts) (iso_keys notes) absent in
          past key.addressed key.source n notes parts.0 ∙ rest parts.1
      by false e absent rest = past_other key.addressed key.source n notes e ∙ rest absent

module _ (cmp : IsoKey → IsoKey → Ordering) (k : Known) (notes : List NotedFrame) (m : ℕ) (slots : SlotMap IsoKey) (h : HoldsIso cmp k notes m slots) where
  distinct_keys : (ns : List NotedFrame) → IsDistinct (eq_by_cmp cmp) (iso_keys ns)
  unfolding IsDistinct
  distinct_keys [] = tt
  distinct_keys (n ∷ ns) = by (is_transport n.parts) (distinct_keys ns)
    where
      by : (b : Bool) → IsDistinct (eq_by_cmp cmp) (iso_keys ns) → IsDistinct (eq_by_cmp cmp) (if b then with_key same_iso precedes_iso (key_of n.parts) (iso_keys ns) else iso_keys ns)
      by true rest = distinct_placed h.order same_iso precedes_iso h.tells (key_of n.parts) (iso_keys ns) rest
      by false rest = rest

  among : (key : IsoKey) → true ≡ true → is_some (iso_open k notes key m) ≡ true → list_any (same_iso key) (iso_keys notes) ≡ true
  among key kind is_open = grind (arith, no_frames, false≢true)

  pub held : Held cmp same_iso precedes_iso (iso_keys notes) (λ key. true) (λ key. is_some (iso_open k notes key m)) slots
  held = grind (arith, same_is, both_turn, eqb-sym, distinct_keys, all_kinds, among)

  pub counts : CountsIso cmp k notes m slots
  unfolding held
  counts = record { count = counted held; room = room held }

pub slots_count_iso : SlotsCountIso
slots_count_iso cmp k notes m slots h = counts cmp k notes m slots h
