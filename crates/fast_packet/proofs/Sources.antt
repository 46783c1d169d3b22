-- The keys of a source are those from its least one to its greatest.
use Rattle.std.proofs.Common.{◌≡◌, ℕ, ◌==◌, ◌&&◌, not, nat_le, nat_lt, Bool, true, false, List, [], ◌∷◌, Option, Some, None, option_map, refl, sym, ◌∙◌, ap, arith}
use Rattle.std.proofs.lemmas.Bool.{eqb-false, eqb-true, ltb-true, ltb-false, leb-true, leb-false}
use Rattle.std.proofs.Math.Dec.{leb-zero}
use Rattle.std.specs.List.{AllByRecursion}
use Rattle.std.specs.Ordering.{nat_cmp, is_gt, ordering_then, is_eq}
use Rattle.slot_views.specs.declared.answers.Ended.{Ended}
use Rattle.slot_views.specs.Answers.{ended_of as slot_ended}
use Rattle.fast_packet.specs.Answers.{ended_of}
use Rattle.slot_views.specs.Laws.{TellsApart}
use Rattle.slot_views.specs.Slots.{Entry, SlotMap, is_between, without}
use Rattle.fast_packet.specs.declared.key.FastKey.{FastKey}
use Rattle.fast_packet.specs.contracts.key.FastKeyOrd as key
use Rattle.fast_packet.specs.Assembly.{is_from, key_fits, AreAssemblies}
use Rattle.slot_views.proofs.Endings.{all_without, map_without}

above_by : (n m : ℕ) (a b c : Bool) → nat_lt n m ≡ a → (n == m) ≡ b → nat_le n m ≡ c → not (is_gt (nat_cmp n m)) ≡ c
above_by n m true b true less same le = simp less
above_by n m true b false less same le = let under = ltb-true n m less in let over = leb-false n m le in absurd (omega (arith, under, over))
above_by n m false true true less same le = simp (less, same)
above_by n m false true false less same le = let is = eqb-true n m same in let over = leb-false n m le in absurd (omega (arith, is, over))
above_by n m false false true less same le = let past = ltb-false n m less in let under = leb-true n m le in absurd (eqb-false n m same (omega (arith, past, under)))
above_by n m false false false less same le = simp (less, same)

not_above : (n m : ℕ) → not (is_gt (nat_cmp n m)) ≡ nat_le n m
not_above n m = above_by n m _ _ _ refl refl refl

and_true : (a b : Bool) → b ≡ true → (a && b) ≡ a
and_true true b is = is
and_true false b is = refl

-- a key, by how its source lies to this one
between_by : (n m p top : ℕ) (a b c d : Bool) → nat_lt n m ≡ a → (n == m) ≡ b → nat_lt m n ≡ c → (m == n) ≡ d
    → (not (is_gt (ordering_then (nat_cmp n m) (nat_cmp 0 p))) && not (is_gt (ordering_then (nat_cmp m n) (nat_cmp p top)))) ≡ ((m == n) && nat_le p top)
between_by n m p top true b c true less same more equal = let under = ltb-true n m less in let is = eqb-true m n equal in absurd (omega (arith, under, is))
between_by n m p top true b true false less same more equal = let under = ltb-true n m less in let over = ltb-true m n more in absurd (omega (arith, under, over))
between_by n m p top true b false false less same more equal = simp (less, more, equal)
between_by n m p top false true true d less same more equal = let is = eqb-true n m same in let over = ltb-true m n more in absurd (omega (arith, is, over))
between_by n m p top false true false true less same more equal =
    let low : not (is_gt (nat_cmp 0 p)) ≡ true = not_above 0 p ∙ leb-zero p in
    let high = not_above p top in
    simp (less, same, more, equal, low, high)
between_by n m p top false true false false less same more equal = let is = eqb-true n m same in absurd (eqb-false m n equal (omega (arith, is)))
between_by n m p top false false c true less same more equal = let is = eqb-true m n equal in absurd (eqb-false n m same (omega (arith, is)))
between_by n m p top false false c false less same more equal = simp (less, same, equal)

ranged : (source : ℕ) (e : FastKey × Entry) → key_fits e.0 ≡ true → is_between key.TheImpl.ghosts.cmp (record { source = source; pgn = 0 }) (record { source = source; pgn = 4294967295 }) e ≡ is_from source e
ranged source e fits = between_by source e.0.source e.0.pgn 4294967295 _ _ _ _ refl refl refl refl ∙ and_true (e.0.source == source) (key_fits e.0) fits

-- so it is with all assemblies whose keys fit
pub ranged_all : (source : ℕ) (es : List (FastKey × Entry)) → AllByRecursion (λ e. key_fits e.0 ≡ true) es
    → AllByRecursion (λ e. is_between key.TheImpl.ghosts.cmp (record { source = source; pgn = 0 }) (record { source = source; pgn = 4294967295 }) e ≡ is_from source e) es
ranged_all source [] all = tt
ranged_all source (e ∷ es) all = (ranged source e all.0, ranged_all source es all.1)

-- what is left of them when one has ended
pub without_assemblies : (s : SlotMap FastKey) (p : FastKey × Entry → Bool) → AreAssemblies key.TheImpl.ghosts.cmp s → AreAssemblies key.TheImpl.ghosts.cmp (without s p)
without_assemblies s p are = record {
  map = map_without key.TheImpl.Laws.total-law s p are.map;
  fit = all_without (λ e. key_fits e.0 ≡ true) p s.entries are.fit;
}

-- the key of the assembly that was taken out
pub key_ended : (o : Option (FastKey × Entry)) (e : Ended FastKey) → Some e ≡ option_map slot_ended o → Some e.key ≡ option_map ended_of o
key_ended None e is = cc
key_ended (Some d) e is = let same : e ≡ slot_ended d = cc in ap (λ (x : Ended FastKey). Some x.key) same

pub none_ended : (o : Option (FastKey × Entry)) → None ≡ option_map slot_ended o → None ≡ option_map ended_of o
none_ended None is = refl
none_ended (Some d) is = cc

-- keys at one place are one key
numbers_by : (n m : ℕ) (b c : Bool) → nat_lt n m ≡ b → (n == m) ≡ c → is_eq (nat_cmp n m) ≡ true → m ≡ n
numbers_by n m true c less is equal = let none : false ≡ true = simp less at equal in cc
numbers_by n m false true less is equal = sym (eqb-true n m is)
numbers_by n m false false less is equal = let none : false ≡ true = simp (less, is) at equal in cc

fields_by : (n m p q : ℕ) (b c : Bool) → nat_lt n m ≡ b → (n == m) ≡ c → is_eq (ordering_then (nat_cmp n m) (nat_cmp p q)) ≡ true → (m ≡ n) × (q ≡ p)
fields_by n m p q true c less is equal = let none : false ≡ true = simp less at equal in cc
fields_by n m p q false true less is equal = let rest : is_eq (nat_cmp p q) ≡ true = simp (less, is) at equal in (sym (eqb-true n m is), numbers_by p q _ _ refl refl rest)
fields_by n m p q false false less is equal = let none : false ≡ true = simp (less, is) at equal in cc

abbrev key_from : ℕ → ℕ → FastKey
key_from n p = record { source = n; pgn = p }

key_same : (n m p q : ℕ) → m ≡ n → q ≡ p → key_from m q ≡ key_from n p
key_same n m p q e f = rw (e, f) refl

pub keys_apart : TellsApart key.TheImpl.ghosts.cmp
keys_apart = record {
  same = λ k j here. let fields = fields_by k.source j.source k.pgn j.pgn _ _ refl refl here in key_same k.source j.source k.pgn j.pgn fields.0 fields.1;
}
