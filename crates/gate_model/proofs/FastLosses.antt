-- What ends of the fast packets when addresses change hands.
use Rattle.std.proofs.Common.{◌≡◌, ◌≢◌, ℕ, Bool, true, false, ◌&&◌, ◌||◌, not, List, [], ◌∷◌, length, refl, sym, ap, ◌∙◌, ◌==◌, is_some, is_none}
use Rattle.std.specs.Prelude.{Option, Some, None, filter, option_map, if◌then◌else◌}
use Rattle.std.specs.List.{flat_map}
use Rattle.std.specs.declared.cmp.Ordering.{Ordering}
use Rattle.std.proofs.lemmas.Bool.{eqb-true, ne_eqb, and_parts}
use Rattle.report_rules.specs.Rules as rules
use Rattle.slot_views.specs.Runs.{open_at}
use Rattle.n2k_id.specs.Frame.{BusFrame}
use Rattle.n2k_id.specs.Identifier.{parts_of}
use Rattle.n2k_id.specs.declared.name.Name.{Name}
use Rattle.claim_table.specs.declared.answer.Holder.{Holder}
use Rattle.claim_table.specs.Claims.{claim, is_at}
use Rattle.claim_table.proofs.LawLemmas.{won_is_not_left}
use Rattle.slot_views.specs.Slots.{Entry, SlotMap, entry_at, remaining}
use Rattle.fast_packet.specs.declared.key.FastKey.{FastKey}
use Rattle.fast_packet.specs.FastRuns.{FastPiece, fast_rules}
use Rattle.fast_packet.specs.Assembly.{is_from}
use Rattle.fast_packet.specs.RunAssemblies.{assembly_at}
use Rattle.history.specs.Entries as entry
use Rattle.history.specs.Entries.{History}
use Rattle.history.specs.Settings.{Receiver}
use Rattle.history.specs.Known.{known, is_claim, claim_by, held_since, address_left, address_won}
use Rattle.history.specs.Traces.{NotedFrame, fast_trace}
use Rattle.history.specs.Opens.{is_fast, fast_open, notes_of}
use Rattle.gate_events.specs.Emit.{Emit}
use Rattle.history.specs.Emits.{of_source}
use Rattle.history.specs.Endings as endings
use Rattle.history.specs.AddressLaws.{IsReceiver}
use Rattle.history.specs.TraceLaws.{LeavesTraces}
use Rattle.history.specs.KeyLaws.{the_note}
use Rattle.history.proofs.KeySteps.{eqb-sym, other_piece}
use Rattle.history.proofs.FastCounts.{same_is}
use Rattle.history.proofs.TraceMoves.{claims_move_traces, commands_move_traces}
use Rattle.gate_model.specs.Orders.{OrdersFast}
use Rattle.gate_model.specs.FastPackets.{without_source, lost_of_source, is_given_up, fast_kept}
use Rattle.gate_model.specs.FastLaws.{StandsFastFor, GivesUpFast, ClaimsGiveUpFast, CommandsLeaveFast}
use Rattle.history.specs.Endings.{Side, side, fast_lost_at}
use Rattle.gate_model.proofs.FastMaps.{filtered_twice, filtered_same, filtered_all, told_of_keys, remaining_map, remaining_at}
use Rattle.gate_model.proofs.FastTimes.{is_held, none_is, found_fast, found_open, holds_all}

and_no : (x : Bool) → (x && false) ≡ false
and_no true = refl
and_no false = refl

-- ---- slots without some entries

-- of an address that changes hands
abbrev at_source : Option ℕ → FastKey × Entry → Bool
at_source o e = is_at e.0.source o

from_is : (a : ℕ) (e : FastKey × Entry) → is_from a e ≡ at_source (Some a) e
from_is a e = eqb-sym e.0.source a

-- the entries without those of a source
source_gone : (o : Option ℕ) (slots : SlotMap FastKey) → (without_source o slots).entries ≡ filter (λ e. not (at_source o e)) slots.entries
source_gone None slots = sym (filtered_all slots.entries)
source_gone (Some a) slots = filtered_same (λ e. not (is_from a e)) (λ e. not (at_source (Some a) e)) (λ e. ap not (from_is a e)) slots.entries

neither : (a b : Bool) → not (a || b) ≡ (not a && not b)
neither true b = refl
neither false b = refl

source_limit : (o : Option ℕ) (slots : SlotMap FastKey) → (without_source o slots).limit ≡ slots.limit
source_limit None slots = refl
source_limit (Some a) slots = refl

module _ (left won : Option ℕ) (slots : SlotMap FastKey) where
  both_gone : (fast_kept left won slots).entries ≡ filter (λ e. not (is_given_up left won e)) slots.entries
  both_gone =
      source_gone won (without_source left slots)
      ∙ (ap (filter (λ (e : FastKey × Entry). not (at_source won e))) (source_gone left slots)
      ∙ filtered_twice (λ e. not (at_source won e)) (λ e. not (at_source left e)) (λ e. not (is_given_up left won e)) (λ e. neither (at_source left e) (at_source won e)) slots.entries)

  kept_is : fast_kept left won slots ≡ remaining (is_given_up left won) slots
  kept_is =
      ap (λ (n : ℕ). made n (fast_kept left won slots).entries) (source_limit won (without_source left slots) ∙ source_limit left slots) ∙ ap (made slots.limit) both_gone
    where
      made : ℕ → List (FastKey × Entry) → SlotMap FastKey
      made limit entries = record { limit = limit; entries = entries }

-- ---- a key of fast packets is none of claims

no_claims : (r : Receiver) → IsReceiver r → (p : ℕ) → is_fast (r.kinds p) ≡ true → p ≢ 60928
no_claims r are p fast same = let outside : is_fast (r.kinds p) ≡ false = ap (λ (n : ℕ). is_fast (r.kinds n)) same ∙ ap is_fast are.claims in cc

-- ---- an entry by which addresses change hands

module _ (r : Receiver) (s : ℕ) (h : History) (e : entry.Entry) (m : ℕ) (lost : ℕ → Bool) (are : IsReceiver r)
    (leaves : LeavesTraces r s h e lost) where
  abbrev before : List (Option Holder)
  before = (known r s h).claims.holders

  abbrev later : List (Option Holder)
  later = (known r s (e ∷ h)).claims.holders

  cut : (b : Bool) (t : List FastPiece) → open_at fast_rules (if b then [] else t) m ≡ (if b then None else open_at fast_rules t m)
  cut true t = refl
  cut false t = refl

  open_after : (key : FastKey) → is_fast (r.kinds key.pgn) ≡ true
      → fast_open later (notes_of r s (e ∷ h)) key m ≡ (if lost key.source then None else fast_open before (notes_of r s h) key m)
  open_after key fast =
      ap (λ (t : List FastPiece). open_at fast_rules t m) (leaves.fast key.source key.pgn (no_claims r are key.pgn fast))
      ∙ cut (lost key.source) (fast_trace before key.source key.pgn (notes_of r s h))

  -- an entry that stood stands, unless its address was lost
  entry_after : (key : FastKey) (o : Option Entry) → o ≡ (if is_fast (r.kinds key.pgn) then assembly_at (fast_open before (notes_of r s h) key m) else None)
      → (if lost key.source then None else o) ≡ (if is_fast (r.kinds key.pgn) then assembly_at (fast_open later (notes_of r s (e ∷ h)) key m) else None)
  entry_after key o stood = by (is_fast (r.kinds key.pgn)) refl stood
    where
      gone : (b : Bool) → o ≡ None → (if b then None else o) ≡ None
      gone true is = refl
      gone false is = is

      kept : (b : Bool) (q : Option (List FastPiece)) → o ≡ assembly_at q → (if b then None else o) ≡ assembly_at (if b then None else q)
      kept true q is = refl
      kept false q is = is

      by : (b : Bool) → is_fast (r.kinds key.pgn) ≡ b → o ≡ (if b then assembly_at (fast_open before (notes_of r s h) key m) else None)
          → (if lost key.source then None else o) ≡ (if b then assembly_at (fast_open later (notes_of r s (e ∷ h)) key m) else None)
      by true fast is = kept (lost key.source) (fast_open before (notes_of r s h) key m) is ∙ ap assembly_at (sym (open_after key fast))
      by false fast is = gone (lost key.source) is

module _ (cmp : FastKey → FastKey → Ordering) (orders : OrdersFast cmp) (r : Receiver) (s : ℕ) (h : History) (m : ℕ) (f : BusFrame) (slots : SlotMap FastKey)
    (left won : Option ℕ)
    (are : IsReceiver r) (claims : is_claim f ≡ true) (stands : StandsFastFor cmp r s h m slots)
    (leaves : LeavesTraces r s h (entry.frame m f) (λ a. is_at a left || is_at a won))
    (apart : (a b : ℕ) → left ≡ Some a → won ≡ Some b → a ≢ b) where
  abbrev holders : List (Option Holder)
  holders = (known r s h).claims.holders

  abbrev after : List (Option Holder)
  after = (known r s (entry.frame m f ∷ h)).claims.holders

  abbrev notes : List NotedFrame
  notes = notes_of r s h

  abbrev before_it : Side
  before_it = side (known r s h) m

  abbrev after_it : Side
  after_it = side (known r s (entry.frame m f ∷ h)) m

  abbrev given : FastKey → Bool
  given key = is_at key.source left || is_at key.source won

  remaining_stands : StandsFastFor cmp r s (entry.frame m f ∷ h) m (remaining (is_given_up left won) slots)
  remaining_stands = record {
    limited = stands.limited;
    map = remaining_map orders.order (is_given_up left won) slots stands.map;
    entries = λ key.
        remaining_at orders.order (λ a b there. same_is a b (sym (orders.tells a b) ∙ there)) given slots key
        ∙ entry_after r s h (entry.frame m f) m (λ a. is_at a left || is_at a won) are leaves key (entry_at cmp slots key) (stands.entries key);
  }

  -- ---- what is told of those that end

  abbrev of_key : FastKey → List Emit
  of_key key = of_source rules.claim_lost key.source key.pgn ∷ []

  -- the claim is no frame of a fast packet
  claim_past : (key : FastKey) → is_fast (r.kinds key.pgn) ≡ true
      → fast_trace after key.source key.pgn (notes_of r s (entry.frame m f ∷ h)) ≡ fast_trace after key.source key.pgn notes
  claim_past key fast = other_piece (held_since after key.source) key.source key.pgn (the_note r s h m f) notes other
    where
      pgn_is : (parts_of f.id).pgn ≡ 60928
      pgn_is = eqb-true (parts_of f.id).pgn 60928 (and_parts ((parts_of f.id).pgn == 60928) _ claims).0

      elsewhere : ((parts_of f.id).pgn == key.pgn) ≡ false
      elsewhere = ne_eqb (parts_of f.id).pgn key.pgn (λ same. no_claims r are key.pgn fast (sym same ∙ pgn_is))

      other : (((parts_of f.id).source == key.source) && ((parts_of f.id).pgn == key.pgn)) ≡ false
      other = ap (λ (b : Bool). ((parts_of f.id).source == key.source) && b) elsewhere ∙ and_no ((parts_of f.id).source == key.source)

  -- with the frames of before
  open_still : (key : FastKey) → is_fast (r.kinds key.pgn) ≡ true → fast_open after notes key m ≡ (if given key then None else fast_open holders notes key m)
  open_still key fast =
      ap (λ (t : List FastPiece). open_at fast_rules t m) (sym (claim_past key fast))
      ∙ open_after r s h (entry.frame m f) m (λ a. is_at a left || is_at a won) are leaves key fast

  ended_by : (b : Bool) (q : Option (List FastPiece)) → is_some q ≡ true → is_none (if b then None else q) ≡ b
  ended_by true q there = refl
  ended_by false q there = none_is q ∙ ap not there

  -- of a key that is held, nothing is open any more exactly where it is given up
  ended_so : (key : FastKey) (x : Entry) → entry_at cmp slots key ≡ Some x → is_none (fast_open after notes key m) ≡ given key
  ended_so key x there =
      ap is_none (open_still key (found_fast r.kinds cmp r.fast_slots holders notes m slots orders stands key x there))
      ∙ ended_by (given key) (fast_open holders notes key m)
      (sym (is_held (fast_trace holders key.source key.pgn notes) m)
      ∙ ap is_some (found_open r.kinds cmp r.fast_slots holders notes m slots orders stands key x there))

  -- the entries that pass a test are told as the keys that are meant by it
  all_told : (q : FastKey × Entry → Bool) (meant : FastKey → Bool) → ((x : FastKey × Entry) → q x ≡ (meant x.0 && given x.0))
      → flat_map (λ x. of_key x.0) (filter q slots.entries) ≡ endings.fast_lost before_it after_it notes r.kinds meant
  all_told q meant passes =
      told_of_keys of_key (filter q slots.entries)
      ∙ ap (flat_map of_key)
      ((holds_all r.kinds cmp r.fast_slots holders notes m slots orders stands).lists.ending meant after m q
      (λ key x there. passes (key, x) ∙ ap (λ (b : Bool). meant key && b) (sym (ended_so key x there))))

  -- ---- of the address that was left, and of the one that was won

  from_left : (a : ℕ) → left ≡ Some a → (x : FastKey × Entry) → is_from a x ≡ (is_from a x && given x.0)
  from_left a there x = by (is_from a x) refl
    where
      by : (b : Bool) → is_from a x ≡ b → b ≡ (b && given x.0)
      by false eb = refl
      by true eb = let here : is_at x.0.source left ≡ true = ap (is_at x.0.source) there ∙ (sym (from_is a x) ∙ eb) in rw here refl

  left_told : (o : Option ℕ) → left ≡ o → lost_of_source o slots ≡ fast_lost_at before_it after_it notes r.kinds o
  left_told None there = refl
  left_told (Some a) there = all_told (is_from a) (λ key. key.source == a) (from_left a there)

  other : (b : ℕ) → won ≡ Some b → (x : FastKey × Entry) → is_from b x ≡ true → (o : Option ℕ) → left ≡ o → at_source o x ≡ false
  other b there x from None is_left = refl
  other b there x from (Some a) is_left =
      let source : x.0.source ≡ b = eqb-true x.0.source b from in
      ne_eqb a x.0.source (λ same. apart a b is_left there (same ∙ source))

  from_won : (b : ℕ) → won ≡ Some b → (x : FastKey × Entry) → (not (at_source left x) && is_from b x) ≡ (is_from b x && given x.0)
  from_won b there x = by (is_from b x) refl
    where
      by : (c : Bool) → is_from b x ≡ c → (not (at_source left x) && c) ≡ (c && given x.0)
      by false ec = and_no (not (at_source left x))
      by true ec =
          let stays : at_source left x ≡ false = other b there x ec left refl in
          let here : is_at x.0.source won ≡ true = ap (is_at x.0.source) there ∙ (sym (from_is b x) ∙ ec) in
          rw (stays, here) refl

  won_told : (o : Option ℕ) → won ≡ o → lost_of_source o (without_source left slots) ≡ fast_lost_at before_it after_it notes r.kinds o
  won_told None there = refl
  won_told (Some b) there =
      ap (λ (xs : List (FastKey × Entry)). flat_map (λ x. of_key x.0) (filter (is_from b) xs)) (source_gone left slots)
      ∙ (ap (flat_map (λ x. of_key x.0)) (filtered_twice (is_from b) (λ x. not (at_source left x)) (λ x. not (at_source left x) && is_from b x) (λ x. refl) slots.entries)
      ∙ all_told (λ x. not (at_source left x) && is_from b x) (λ key. key.source == b) (from_won b there))

  pub gives_up : GivesUpFast cmp r s h (entry.frame m f) m slots left won
  gives_up = record {
    stands = rw (kept_is left won slots) remaining_stands;
    kept = kept_is left won slots;
    left_told = left_told left refl;
    won_told = won_told won refl;
  }

-- ---- claims, and commands

-- an address isn't left and won at once
claim_apart : (r : Receiver) (s : ℕ) (h : History) (m : ℕ) (f : BusFrame) (a b : ℕ)
    → address_left (claim (known r s h).claims (claim_by (length h) m f)).step ≡ Some a
    → address_won (claim (known r s h).claims (claim_by (length h) m f)).step ≡ Some b → a ≢ b
claim_apart r s h m f a b left won same = by (claim (known r s h).claims (claim_by (length h) m f)).step.lost refl won
  where
    by : (o : Option (ℕ × Name)) → (claim (known r s h).claims (claim_by (length h) m f)).step.lost ≡ o → option_map (λ (x : ℕ × Name). x.0) o ≡ Some b → ⊥
    by None is there = cc
    by (Some w) is there =
        let there_is : w.0 ≡ b = cc in
        (won_is_not_left (known r s h).claims (claim_by (length h) m f) w is).1 (left ∙ ap (λ (n : ℕ). Some n) (same ∙ sym there_is))

pub claims_give_up_fast : ClaimsGiveUpFast
claims_give_up_fast cmp orders r s h m f slots are claims stands =
    gives_up cmp orders r s h m f slots
    (address_left (claim (known r s h).claims (claim_by (length h) m f)).step) (address_won (claim (known r s h).claims (claim_by (length h) m f)).step)
    are claims stands (claims_move_traces r s h m f are claims) (claim_apart r s h m f)

pub commands_leave_fast : CommandsLeaveFast
commands_leave_fast cmp r s h m moment source address slots are stands = record {
  limited = stands.limited;
  map = stands.map;
  entries = λ key.
      entry_after r s h (entry.command moment source address) m (λ a. false) are (commands_move_traces r s h moment source address) key (entry_at cmp slots key) (stands.entries key);
}
