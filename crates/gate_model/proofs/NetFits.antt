-- What the calls need that are made of what comes from the network.
use Rattle.std.proofs.Common.{◌≡◌, ℕ, zero, suc, ◌+◌, ◌%◌, ◌<◌, ◌≤◌, Bool, true, false, List, [], ◌∷◌, length, get_or, set, refl, arith, nat_le}
use Rattle.std.specs.Prelude.{Option, Some, None, IfSome, if◌then◌else◌}
use Rattle.std.specs.List.{AllByRecursion}
use Rattle.std.proofs.lemmas.Bool.{leb-true}
use Rattle.readings.specs.declared.reading.Reading.{Reading}
use Rattle.readings.specs.Rows.{row_of, row_number}
use Rattle.tag_block.specs.declared.group_part.GroupPart.{GroupPart}
use Rattle.tag_block.specs.Groups.{IsGroupPart}
use Rattle.tag_block.specs.Tag.{IsGroupRead}
use Rattle.history.specs.Settings.{Settings}
use Rattle.history.specs.Heard.{several, place_of}
use Rattle.gate_model.specs.Net.{ReadingsKept, LineHeard, sequence_at, is_counted, sequences_after}
use Rattle.gate_model.specs.NetLaws.{ItemsFit, AreSequences, SequencesFit}
use Rattle.gate_model.proofs.NetRows.{place_below}

-- ---- an item

part_fits : (g : Option GroupPart) → IfSome g IsGroupRead → IfSome (several g) IsGroupPart
part_fits None read = tt
part_fits (Some part) read = by (nat_le 2 part.total) refl
  where
    by : (b : Bool) → nat_le 2 part.total ≡ b → IfSome (if b then Some part else None) IsGroupPart
    by true le = record { several = leb-true 2 part.total le; most = read.most; first = read.first; last = read.within }
    by false le = tt

place_fits : (c : Settings) (source : List ℕ) (p : Option ℕ) → place_of c source ≡ p → IfSome p (λ place. place < length c.net_sources)
place_fits c source None e = tt
place_fits c source (Some place) e = place_below c source place e

pub items_fit : ItemsFit
items_fit c place said sentence parts is = record {
  part = part_fits said.group is.ranges.group;
  few_bytes = is.sentence.most;
  source = place_fits c said.source (place_of c said.source) refl;
}

-- ---- the sequences

abbrev AreSmall : List ℕ → Type 0
AreSmall xs = AllByRecursion (λ n. n ≤ 7) xs

small_set : (xs : List ℕ) (i n : ℕ) → n ≤ 7 → AreSmall xs → AreSmall (set xs i n)
small_set [] i n le all = tt
small_set (x ∷ xs) zero n le all = (le, all.1)
small_set (x ∷ xs) (suc i) n le all = (all.0, small_set xs i n le all.1)

small_at : (xs : List ℕ) (i : ℕ) → AreSmall xs → get_or xs i 0 ≤ 7
small_at [] i all = omega arith
small_at (x ∷ xs) zero all = all.0
small_at (x ∷ xs) (suc i) all = small_at xs i all.1

of_eight : (n : ℕ) → n % 8 ≤ 7
of_eight n = omega arith

stay_small : (k : ReadingsKept) (l : LineHeard) (r : Reading) → AreSequences k → (b : Bool) → is_counted k l r ≡ b → AreSmall (sequences_after k l r)
stay_small k l r all true e = rw e (small_set k.sequences (row_number (row_of r)) ((sequence_at k (row_of r) + 1) % 8) (of_eight (sequence_at k (row_of r) + 1)) all)
stay_small k l r all false e = rw e all

pub sequences_fit : SequencesFit
sequences_fit = record {
  opening = λ c. omega arith;
  step = λ k l r all. stay_small k l r all (is_counted k l r) refl;
  next = λ k row all. small_at k.sequences (row_number row) all;
}
