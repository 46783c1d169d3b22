-- At what was reached the calls can be made that the gateway makes.
use Rattle.std.proofs.Common.{◌≡◌, ℕ, suc, ◌-◌, ◌%◌, ◌<◌, ◌≤◌, min, Bool, true, false, IsTrue, ◌&&◌, ◌==◌, eqb-true, List, [], ◌∷◌, length, get_or, refl, sym, ap, subst, ◌∙◌, nat_lt, arith}
use Rattle.std.specs.Prelude.{Option, Some, None}
use Rattle.std.specs.List.{AllByRecursion}
use Rattle.std.specs.declared.cmp.Ordering.{Ordering}
use Rattle.std.proofs.lemmas.List.{length-map, get_or_past}
use Rattle.std.proofs.lemmas.Bool.{and_parts, ltb-true, ltb-false}
use Rattle.readings.specs.declared.rows.Row.{Row}
use Rattle.readings.specs.Rows.{every_row, row_number}
use Rattle.claim_table.specs.declared.answer.Holder.{Holder}
use Rattle.claim_table.specs.Claims.{Claims, holder_at, claims_at_start}
use Rattle.claim_table.specs.Laws.{IsSound, capped, capped_holder, claimed, commanded}
use Rattle.claim_table.proofs.LawLemmas.{name_stays}
use Rattle.slot_views.specs.Slots.{SlotMap, IsMap}
use Rattle.tag_block.specs.Tag.{most_count}
use Rattle.history.specs.Settings.{Receiver, receiver_of}
use Rattle.history.specs.Entries as entry
use Rattle.history.specs.Entries.{History}
use Rattle.history.specs.Known.{known, is_claim, claim_by}
use Rattle.history.specs.AddressLaws.{IsReceiver}
use Rattle.history.proofs.Addresses.{addresses_are_sound}
use Rattle.history.proofs.Receivers.{gateways_receive}
use Rattle.gate_model.specs.Addresses.{last_index}
use Rattle.gate_model.specs.Net.{row_numbers}
use Rattle.gate_model.proofs.NetRows.{row_below}
use Rattle.gate_model.specs.StandsFits.{SlotsFit, AllReachedFits}
use Rattle.gate_model.proofs.AddressTells.{at_capped, standing_fits}

-- ---- the addresses: a table that counts indices no further is as sound

module _ (n : ℕ) (c : Claims) (sound : IsSound c) where
  abbrev counted_so : Holder → Holder
  counted_so g = record { name = g.name; since = min n g.since }

  of_some : (x : Option Holder) (h : Holder) → capped_holder n x ≡ Some h → (g : Holder) × (x ≡ Some g) × (g.name ≡ h.name)
  of_some None h e = cc
  of_some (Some g) h e = (g, refl, named e)
    where
      named : Some (counted_so g) ≡ Some h → g.name ≡ h.name
      named e = let same : counted_so g ≡ h = cc in ap (λ (x : Holder). x.name) same

  held : (a : ℕ) (h : Holder) → holder_at (capped n c).holders a ≡ Some h → (g : Holder) × (holder_at c.holders a ≡ Some g) × (g.name ≡ h.name)
  held a h e = of_some (holder_at c.holders a) h (sym (at_capped n c a) ∙ e)

  capped_sound : IsSound (capped n c)
  capped_sound = record {
    room = length-map c.holders (capped_holder n) ∙ sound.room;
    one_each = λ a b h g x y same. one_each a b h g (held a h x) (held b g y) same;
    own_free = λ a own. at_capped n c a ∙ ap (capped_holder n) (sound.own_free a own);
    own_within = sound.own_within;
    others = λ a h x same. others a h (held a h x) same;
  }
    where
      one_each : (a b : ℕ) (h g : Holder) → ((x : Holder) × (holder_at c.holders a ≡ Some x) × (x.name ≡ h.name))
          → ((y : Holder) × (holder_at c.holders b ≡ Some y) × (y.name ≡ g.name)) → h.name.0 ≡ g.name.0 → a ≡ b
      one_each a b h g (x, at_a, is_h) (y, at_b, is_g) same = sound.one_each a b x y at_a at_b (cc)

      others : (a : ℕ) (h : Holder) → ((x : Holder) × (holder_at c.holders a ≡ Some x) × (x.name ≡ h.name)) → h.name.0 ≡ c.name → ⊥
      others a h (x, at_a, is_h) same = sound.others a x at_a (cc)

-- a holder has a place
placed : (holders : List (Option Holder)) (a : ℕ) (h : Holder) → holder_at holders a ≡ Some h → a < length holders
placed holders a h e = by (nat_lt a (length holders)) refl
  where
    by : (b : Bool) → nat_lt a (length holders) ≡ b → a < length holders
    by true lt = ltb-true a (length holders) lt
    by false past =
        let none : holder_at holders a ≡ None = get_or_past holders a None (ltb-false a (length holders) past) in cc

-- no entry gives the gateway another NAME
known_name : (r : Receiver) (s : ℕ) (h : History) → (known r s h).claims.name ≡ r.name
unfolding claims_at_start
known_name r s [] = refl
known_name r s (entry.frame m f ∷ h) = by (is_claim f) refl (known_name r s h)
  where
    by : (b : Bool) → is_claim f ≡ b → (known r s h).claims.name ≡ r.name → (known r s (entry.frame m f ∷ h)).claims.name ≡ r.name
    by true e before = rw e (name_stays (known r s h).claims (claimed (claim_by (length h) m f)) ∙ before)
    by false e before = rw e before
known_name r s (entry.datagram m bytes ∷ h) = known_name r s h
known_name r s (entry.tick m ∷ h) = known_name r s h
known_name r s (entry.command m source address ∷ h) = name_stays (known r s h).claims (commanded address m) ∙ known_name r s h

-- ---- what is in the making

slots_fit : {K : Type 0} (cmp : K → K → Ordering) (slots : SlotMap K) (configured most : ℕ) → slots.limit ≡ configured → configured ≤ most → IsMap cmp slots
    → SlotsFit cmp slots configured most
slots_fit cmp slots configured most limit few map =
    record { limit = limit; few = few; map = map; within = subst (λ (n : ℕ). length slots.entries ≤ n) limit map.within }

-- ---- a list of one number for each row has only small ones where each row's is small

-- the rows' numbers go up by one
abbrev is_numbered : ℕ → List Row → Bool
is_numbered n [] = true
is_numbered n (r ∷ rs) = (row_number r == n) && is_numbered (suc n) rs

each_small : (most n : ℕ) (rs : List Row) (xs : List ℕ) → IsTrue (is_numbered n rs) → length xs ≡ length rs
    → ((r : Row) → n ≤ row_number r → get_or xs (row_number r - n) 0 < most) → AllByRecursion (λ x. x < most) xs
each_small most n [] [] numbered same small = tt
each_small most n [] (x ∷ xs) numbered same small = absurd (omega (arith, same))
each_small most n (r ∷ rs) [] numbered same small = absurd (omega (arith, same))
each_small most n (r ∷ rs) (x ∷ xs) numbered same small = (first, each_small most (suc n) rs xs parts.1 (omega (arith, same)) rest)
  where
    parts : IsTrue (row_number r == n) × IsTrue (is_numbered (suc n) rs)
    parts = and_parts (row_number r == n) (is_numbered (suc n) rs) numbered

    placed : row_number r ≡ n
    placed = eqb-true (row_number r) n parts.0

    first : x < most
    first =
        let none : row_number r - n ≡ 0 = omega (arith, placed) in
        subst (λ (i : ℕ). get_or (x ∷ xs) i 0 < most) none (small r (omega (arith, placed)))

    rest : (q : Row) → suc n ≤ row_number q → get_or xs (row_number q - suc n) 0 < most
    rest q le =
        let one : row_number q - n ≡ suc (row_number q - suc n) = omega (arith, le) in
        subst (λ (i : ℕ). get_or (x ∷ xs) i 0 < most) one (small q (omega (arith, le)))

all_small : (most : ℕ) (xs : List ℕ) → length xs ≡ length row_numbers → ((r : Row) → get_or xs (row_number r) 0 < most) → AllByRecursion (λ x. x < most) xs
all_small most xs same small =
    each_small most 0 every_row xs refl same
    (λ r le. let same_place : row_number r ≡ row_number r - 0 = omega arith in
    subst (λ (i : ℕ). get_or xs i 0 < most) same_place (small r))

a_rest : (x n : ℕ) → x ≡ n % most_count → x < most_count
a_rest x n e = omega (arith, e)

pub all_reached_fits : AllReachedFits
all_reached_fits o g it =
    let stands = it.stands in
    let r : Receiver = receiver_of g.settings in
    let able : IsReceiver r = gateways_receive g.settings it.settings in
    let sound : IsSound g.addresses.claims =
    subst IsSound (sym stands.addresses.claims)
    (capped_sound last_index (known r it.start it.past).claims (addresses_are_sound r it.start it.past able).sound) in
    record {
      addresses = standing_fits r it.start it.past g.addresses able stands.addresses;
      sound = sound;
      held = λ a h e. subst (λ (n : ℕ). a < n) sound.room (placed g.addresses.claims.holders a h e);
      name = ap (λ (c : Claims). c.name) stands.addresses.claims ∙ known_name r it.start it.past;
      fast = slots_fit o.fast g.fast g.settings.fast_slots 256 stands.fast.limited it.limits.fast stands.fast.map;
      sessions = slots_fit o.sessions g.sessions g.settings.iso_slots 32 stands.sessions.limited it.limits.iso stands.sessions.map;
      groups = slots_fit o.groups g.network.groups g.settings.group_slots 32 stands.network.groups.limited it.limits.groups stands.network.groups.map;
      bus = record {
        sources = stands.said.choices.sources;
        rows = stands.said.choices.subjects;
        each_row = λ row. stands.said.choices.each_subject (row_number row) (row_below row);
      };
      net = record {
        sources = stands.network.readings.sources;
        rows = stands.network.readings.rows;
        each_row = stands.network.readings.each_row;
      };
      lines = stands.said.numbers;
      counts = record {
        lines = all_small most_count g.said.lines stands.said.numbers (λ q. a_rest _ _ (stands.said.lines q));
        groups = omega (arith, stands.said.groups);
      };
      numbers = stands.network.readings.numbers;
      sequences = it.sequences;
    }
