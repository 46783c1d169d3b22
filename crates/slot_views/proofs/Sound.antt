-- A shelf stands for a map after each edit.
use Rattle.std.proofs.Common.{◌≡◌, ◌≢◌, ℕ, ◌+◌, ◌*◌, ◌<◌, ◌≤◌, List, [], ◌∷◌, ◌++◌, length, get_or, set, refl, sym, ◌∙◌, ap, subst, Option, Some, arith}
use Rattle.std.specs.Vec.{vec_len, vec_capacity}
use Rattle.std.specs.List.{AllByRecursion, insert}
use Rattle.std.specs.Global.{Vec}
use Rattle.std.proofs.lemmas.List.{get_or_default, get_or_push, length-map}
use Rattle.std.specs.Option.{option_to_list}
use Rattle.std.specs.Cmp.{IsTotalOrder}
use Rattle.std.specs.declared.cmp.Ordering.{Ordering}
use Rattle.slot_views.specs.declared.slot.Slot.{Slot}
use Rattle.slot_views.specs.declared.shelf.Shelf.{Shelf}
use Rattle.slot_views.specs.Slots.{Entry, SlotMap, IsMap, with_entries, grown}
use Rattle.slot_views.specs.Shelf.{entry_of, entries_of, HasRoom, HasFinished, seen, IsSound, IsGap, Extends}
use Rattle.slot_views.proofs.Lists.{all_set, all_insert, all_map, all_front, all_back, room_left}
use Rattle.slot_views.proofs.Order.{ordered_set, ordered_insert}

module _ {K : Type 0} {cap piece : ℕ} where
  -- the slot that shows one more piece has the room for the rest
  pub room_grown : (old new : Slot K) (more : List ℕ) (moment gap : ℕ) → HasRoom cap piece old → old.next + 1 < old.need → length more ≤ piece
      → entry_of new ≡ (old.key, grown (entry_of old).1 more moment gap) → vec_capacity old.bytes ≤ vec_capacity new.bytes → vec_len new.bytes ≡ vec_len old.bytes + length more → HasRoom cap piece new
  room_grown old new more moment gap room awaits fits shows capacity len = grind (arith, room_left)

  -- a slot has room for its next piece
  pub room_for_piece : (s : Slot K) → HasRoom cap piece s → vec_len s.bytes + piece ≤ vec_capacity s.bytes
  room_for_piece s room = grind arith

  -- the slot with its first piece has the room for the rest
  pub room_opened : (s : Slot K) (more : List ℕ) → cap ≤ vec_capacity s.bytes → s.next ≡ 1 → 1 < s.need → vec_len s.bytes ≡ length more → length more ≤ piece → s.need * piece ≤ cap → HasRoom cap piece s
  room_opened s more reserved next need len fits room = grind arith

  -- the buffer that came last has the bytes
  pub finished_from : (new : Shelf K cap piece) (spare : List (Vec ℕ)) (last : Vec ℕ) (bytes : List ℕ) → new.spare.items ≡ spare ++ last ∷ [] → length spare + 1 ≡ vec_len new.spare → last.items ≡ bytes → HasFinished new bytes
  finished_from new spare last bytes items len same = grind (arith, get_or_push)

  -- the map that a shelf stands for, by its parts
  pub seen_is : (old new : Shelf K cap piece) (es : List (K × Entry)) → new.limit ≡ old.limit → entries_of new.slots.items ≡ es → seen new ≡ with_entries (seen old) es
  seen_is old new es limit entries = rw (limit, entries) refl

  module _ {cmp : K → K → Ordering} where
    -- another slot stands in the place of the one with its key
    pub sound_set : (old new : Shelf K cap piece) (at : ℕ) (s d : Slot K) → IsSound cmp old → s.key ≡ (get_or old.slots.items at d).key → HasRoom cap piece s
        → new.quiet_until ≤ old.quiet_until → new.quiet_until ≤ s.last + s.gap
        → new.limit ≡ old.limit → new.slots.items ≡ set old.slots.items at s → vec_len new.slots ≡ vec_len old.slots → vec_capacity old.slots ≤ vec_capacity new.slots → new.spare ≡ old.spare → IsSound cmp new
    sound_set old new at s d sound same room others this limit items len capacity spare = record {
      limit_fits = rw limit sound.limit_fits;
      cap_fits = sound.cap_fits;
      buffers = rw (len, spare, limit) sound.buffers;
      slots_reserved = omega (arith, sound.slots_reserved);
      spare_reserved = rw (spare, limit) sound.spare_reserved;
      rooms = rw items (all_set (HasRoom cap piece) old.slots.items at s sound.rooms room);
      spare_rooms = rw spare sound.spare_rooms;
      ordered = rw items (ordered_set cmp old.slots.items at s d same sound.ordered);
      quiet = rw items (all_set (λ x. new.quiet_until ≤ x.last + x.gap) old.slots.items at s (all_map (λ x. old.quiet_until ≤ x.last + x.gap) (λ x. new.quiet_until ≤ x.last + x.gap) (λ x h. omega (arith, h)) old.slots.items sound.quiet) this);
    }

    -- the slot that was read at its place has one more piece
    pub sound_extended : (old new : Shelf K cap piece) (at : ℕ) (slot s : Slot K) (more : List ℕ) (moment gap : ℕ) → IsSound cmp old → HasRoom cap piece slot
        → slot ≡ get_or old.slots.items at slot → (get_or old.slots.items at slot).next + 1 ≢ (get_or old.slots.items at slot).need → length more ≤ piece
        → entry_of s ≡ (slot.key, grown (entry_of slot).1 more moment gap) → vec_capacity slot.bytes ≤ vec_capacity s.bytes → vec_len s.bytes ≡ vec_len slot.bytes + length more
        → new.quiet_until ≤ old.quiet_until → new.quiet_until ≤ moment + gap
        → new.limit ≡ old.limit → new.slots.items ≡ set old.slots.items at s → vec_len new.slots ≡ vec_len old.slots → vec_capacity old.slots ≤ vec_capacity new.slots → new.spare ≡ old.spare → IsSound cmp new
    sound_extended old new at slot s more moment gap sound there read more_to_come fits shows capacity len others this =
        let other : slot.next + 1 ≢ slot.need = subst (λ (x : Slot K). x.next + 1 ≢ x.need) (sym read) more_to_come in
        let waits : slot.next + 1 < slot.need = omega (arith, there.awaits, other) in
        let last : s.last ≡ moment = ap (λ e. e.1.last) shows in
        let far : s.gap ≡ gap = ap (λ e. e.1.gap) shows in
        sound_set old new at s slot sound (ap (λ e. e.0) shows ∙ ap (λ (x : Slot K). x.key) read) (room_grown slot s more moment gap there waits fits shows capacity len) others (omega arith)

    -- a slot came to its place, with the last spare buffer
    pub sound_opened : IsTotalOrder cmp → (old new : Shelf K cap piece) (at : ℕ) (s : Slot K) → IsSound cmp old → IsGap cmp s.key old.slots.items at → HasRoom cap piece s
        → new.quiet_until ≤ old.quiet_until → new.quiet_until ≤ s.last + s.gap
        → new.limit ≡ old.limit → new.slots.items ≡ insert old.slots.items at s → vec_len new.slots ≡ vec_len old.slots + 1 → vec_capacity old.slots ≤ vec_capacity new.slots
        → vec_len new.spare + 1 ≡ vec_len old.spare → vec_capacity old.spare ≤ vec_capacity new.spare → AllByRecursion (λ b. cap ≤ vec_capacity b) new.spare.items → IsSound cmp new
    sound_opened o old new at s sound gap room others this limit items len capacity spare_len spare_capacity spares = grind (arith, all_insert, ordered_insert, all_map)

-- the slot that was read at its place shows another entry now
pub extends_from : {K : Type 0} (old : List (Slot K)) (i : ℕ) (s r : Slot K) (f : Entry → Entry) → i < length old → r ≡ get_or old i r → entry_of s ≡ (r.key, f (entry_of r).1)
    → (d : Slot K) → Extends old (set old i s) i (f (entry_of (get_or old i d)).1)
extends_from {K} old i s r f in_range read shows d =
    let at : (e : Slot K) → r ≡ get_or old i e = λ e. read ∙ get_or_default old i r e in_range in
    (s, refl, λ e. shows ∙ (ap (λ (x : Slot K). (x.key, f (entry_of r).1)) (at e) ∙ ap (λ (x : Slot K). ((get_or old i e).key, f (entry_of x).1)) (at d)))

-- what held of all held of those that are left, and of the one that was taken
pub popped : {X : Type 0} (P : X → Type 0) (old new : List X) (taken : Option X) (x : X) → old ≡ new ++ option_to_list taken → taken ≡ Some x → AllByRecursion P old → AllByRecursion P new × P x
popped P old new taken x items some all = grind (arith, all_front, all_back)

pub slot_map_is : {K : Type 0} (limit : ℕ) (es fs : List (K × Entry)) → es ≡ fs → let s : SlotMap K = record { limit = limit; entries = es } in s ≡ with_entries s fs
slot_map_is limit es fs same = rw same refl

-- a shelf shows as many entries as it has slots
pub count_seen : {K : Type 0} {cap piece : ℕ} (s : Shelf K cap piece) → length (entries_of s.slots.items) ≡ vec_len s.slots
count_seen s = length-map s.slots.items entry_of ∙ sym s.slots.ok.0

-- what it shows is a map
pub map_seen : {K : Type 0} {cap piece : ℕ} {cmp : K → K → Ordering} (s : Shelf K cap piece) → IsSound cmp s → IsMap cmp (seen s)
map_seen s sound = record { ordered = sound.ordered; within = let buffers = sound.buffers in let count = count_seen s in omega arith }
