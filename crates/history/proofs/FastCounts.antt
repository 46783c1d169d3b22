-- Fast keys that are open, and the places of a map.
use Rattle.std.proofs.Common.{◌≡◌, ℕ, Bool, true, false, ◌&&◌, List, [], ◌∷◌, refl, sym, ◌∙◌, ◌==◌, is_some, arith}
use Rattle.std.specs.Prelude.{Option, Some, None, if◌then◌else◌}
use Rattle.std.specs.List.{AllByRecursion, IsDistinct, list_any}
use Rattle.std.specs.Ordering.{eq_by_cmp}
use Rattle.std.specs.declared.cmp.Ordering.{Ordering}
use Rattle.std.proofs.lemmas.Bool.{cases_Bool, eqb-true, and_parts, false≢true}
use Rattle.slot_views.specs.Slots.{SlotMap}
use Rattle.fast_packet.specs.declared.key.FastKey.{FastKey}
use Rattle.pgn_profile.specs.declared.kinds.Kind.{Kind}
use Rattle.history.specs.Traces.{NotedFrame, fast_trace_since}
use Rattle.history.specs.Opens.{with_key, is_fast, same_fast, precedes_fast, fast_keys, fast_open}
use Rattle.history.specs.CountLaws.{HoldsFast, CountsFast, SlotsCountFast}
use Rattle.history.proofs.KeySteps.{eqb-sym, other_piece}
use Rattle.history.proofs.Counts.{all_placed, any_placed, distinct_placed, Held, counted, room}
use Rattle.claim_table.specs.declared.answer.Holder.{Holder}

-- each key that came has a PGN of fast packets
pub fast_all : (kinds : ℕ → Kind) (notes : List NotedFrame) → AllByRecursion (λ key. is_fast (kinds key.pgn) ≡ true) (fast_keys kinds notes)
fast_all kinds [] = tt
fast_all kinds (n ∷ notes) = by (is_fast (kinds n.parts.pgn)) refl (fast_all kinds notes)
  where
    by : (b : Bool) → is_fast (kinds n.parts.pgn) ≡ b → AllByRecursion (λ key. is_fast (kinds key.pgn) ≡ true) (fast_keys kinds notes)
        → AllByRecursion (λ key. is_fast (kinds key.pgn) ≡ true) (if b then with_key same_fast precedes_fast (record { source = n.parts.source; pgn = n.parts.pgn }) (fast_keys kinds notes) else fast_keys kinds notes)
    by true e rest = all_placed (λ key. is_fast (kinds key.pgn) ≡ true) same_fast precedes_fast (record { source = n.parts.source; pgn = n.parts.pgn }) (fast_keys kinds notes) e rest
    by false e rest = rest

-- a key that didn't come has no frames
same_fast_as : (key other : FastKey) → same_fast key other ≡ ((other.source == key.source) && (other.pgn == key.pgn))
same_fast_as key other = rw (eqb-sym other.source key.source, eqb-sym other.pgn key.pgn) refl

pub same_is : (key one : FastKey) → same_fast key one ≡ true → key ≡ one
same_is key one e = grind (arith, and_parts, eqb-true)

pub no_frames : (kinds : ℕ → Kind) (key : FastKey) (since : Option ℕ) (notes : List NotedFrame) → is_fast (kinds key.pgn) ≡ true → list_any (same_fast key) (fast_keys kinds notes) ≡ false
    → fast_trace_since since key.source key.pgn notes ≡ []
no_frames kinds key None notes fast none = refl
no_frames kinds key (Some since) [] fast none = refl
no_frames kinds key (Some since) (n ∷ notes) fast none = by (is_fast (kinds n.parts.pgn)) refl none (λ absent. no_frames kinds key (Some since) notes fast absent)
  where
    other : ((n.parts.source == key.source) && (n.parts.pgn == key.pgn)) ≡ false → fast_trace_since (Some since) key.source key.pgn notes ≡ [] → fast_trace_since (Some since) key.source key.pgn (n ∷ notes) ≡ []
    other apart rest = other_piece (Some since) key.source key.pgn n notes apart ∙ rest

    other_kind : is_fast (kinds n.parts.pgn) ≡ false → (n.parts.pgn == key.pgn) ≡ false
    other_kind e = grind (arith, cases_Bool, eqb-true)

    and_no : (x : Bool) → (x && false) ≡ false
    and_no x = grind arith

    by : (b : Bool) → is_fast (kinds n.parts.pgn) ≡ b
        → list_any (same_fast key) (if b then with_key same_fast precedes_fast (record { source = n.parts.source; pgn = n.parts.pgn }) (fast_keys kinds notes) else fast_keys kinds notes) ≡ false
        → (list_any (same_fast key) (fast_keys kinds notes) ≡ false → fast_trace_since (Some since) key.source key.pgn notes ≡ [])
        → fast_trace_since (Some since) key.source key.pgn (n ∷ notes) ≡ []
    by true e absent rest =
        let parts = any_placed same_fast precedes_fast same_is key (record { source = n.parts.source; pgn = n.parts.pgn }) (fast_keys kinds notes) absent in
        other (sym (same_fast_as key (record { source = n.parts.source; pgn = n.parts.pgn })) ∙ parts.0) (rest parts.1)
    by false e absent rest = other (rw (other_kind e) (and_no (n.parts.source == key.source))) (rest absent)

module _ (kinds : ℕ → Kind) (cmp : FastKey → FastKey → Ordering) (holders : List (Option Holder)) (notes : List NotedFrame) (m : ℕ) (slots : SlotMap FastKey) (h : HoldsFast kinds cmp holders notes m slots) where
  distinct_keys : (ns : List NotedFrame) → IsDistinct (eq_by_cmp cmp) (fast_keys kinds ns)
  unfolding IsDistinct
  distinct_keys [] = tt
  distinct_keys (n ∷ ns) = by (is_fast (kinds n.parts.pgn)) (distinct_keys ns)
    where
      by : (b : Bool) → IsDistinct (eq_by_cmp cmp) (fast_keys kinds ns)
          → IsDistinct (eq_by_cmp cmp) (if b then with_key same_fast precedes_fast (record { source = n.parts.source; pgn = n.parts.pgn }) (fast_keys kinds ns) else fast_keys kinds ns)
      by true rest = distinct_placed h.order same_fast precedes_fast h.tells (record { source = n.parts.source; pgn = n.parts.pgn }) (fast_keys kinds ns) rest
      by false rest = rest

  among : (key : FastKey) → is_fast (kinds key.pgn) ≡ true → is_some (fast_open holders notes key m) ≡ true → list_any (same_fast key) (fast_keys kinds notes) ≡ true
  among key fast is_open = grind (arith, no_frames, false≢true)

  pub held : Held cmp same_fast precedes_fast (fast_keys kinds notes) (λ key. is_fast (kinds key.pgn)) (λ key. is_some (fast_open holders notes key m)) slots
  held = grind (arith, same_is, eqb-sym, distinct_keys, fast_all, among)

  pub counts : CountsFast kinds cmp holders notes m slots
  unfolding held
  counts = record { count = counted held; room = room held }

pub slots_count_fast : SlotsCountFast
slots_count_fast kinds cmp holders notes m slots h = counts kinds cmp holders notes m slots h
