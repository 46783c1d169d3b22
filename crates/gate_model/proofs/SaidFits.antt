-- What the calls need that are made of what is kept of what was said.
use Rattle.std.proofs.Common.{◌≡◌, ℕ, zero, suc, ◌+◌, ◌*◌, ◌%◌, ◌<◌, ◌≤◌, Bool, true, false, List, [], ◌∷◌, ◌++◌, map, length, length-append, get_or, refl, arith}
use Rattle.std.specs.Prelude.{Option, Some, None, IfSome, nat_le, if◌then◌else◌}
use Rattle.std.specs.Fmt.{decimal}
use Rattle.std.specs.List.{AllByRecursion}
use Rattle.std.proofs.lemmas.Bool.{leb-true}
use Rattle.std.proofs.lemmas.Fmt.{length-decimal-le}
use Rattle.readings.specs.declared.reading.Reading.{Reading}
use Rattle.readings.specs.Rows.{row_of}
use Rattle.source_choice.specs.declared.rank.Rank.{Rank}
use Rattle.sentence_text.specs.Names.{IsSfi}
use Rattle.tag_block.specs.declared.group_part.GroupPart.{GroupPart}
use Rattle.tag_block.specs.Tag.{block_text, most_count}
use Rattle.tag_block.specs.Writing.{IsWritable, IsWritableGroup, block_of, block_with, most_written_code}
use Rattle.datagram450.specs.Datagram.{line_text}
use Rattle.history.specs.Settings.{Settings, rule_at, rule_of, same_text}
use Rattle.history.specs.Known.{address_left, address_won}
use Rattle.history.specs.Emits.{part_of, lines_from}
use Rattle.gate_model.specs.Net.{row_numbers}
use Rattle.gate_model.specs.Said.{SaidKept, Complete, sentences_by, lines_at, message_after, lines_more, groups_more, counted, is_chosen, noted_by, ranked_after, rank_by, profiled_after, reading_by, without_source}
use Rattle.gate_model.specs.SaidFits.{AreCounts, CountsFit, LinesFit, tag_of, ReadingsFit}
use Rattle.sentence_profile.proofs.ShortSentences.{said_briefly}

-- ---- the counts

abbrev AreSmall : List ℕ → Type 0
AreSmall xs = AllByRecursion (λ n. n < most_count) xs

small_at : (xs : List ℕ) (i : ℕ) → AreSmall xs → get_or xs i 0 < most_count
small_at [] i all = omega arith
small_at (x ∷ xs) zero all = all.0
small_at (x ∷ xs) (suc i) all = small_at xs i all.1

small_map : (f : ℕ → ℕ) → ((i : ℕ) → f i < most_count) → (xs : List ℕ) → AreSmall (map f xs)
small_map f each [] = tt
small_map f each (x ∷ xs) = (each x, small_map f each xs)

more_small : (c : Settings) (k : SaidKept) (group : List ℕ) (count number : ℕ) → AreSmall k.lines → lines_more c k group count number < most_count
more_small c k group count number all = by (same_text group (rule_at c.rows number).group)
  where
    by : (b : Bool) → (if b then (get_or k.lines number 0 + count) % most_count else get_or k.lines number 0) < most_count
    by true = omega arith
    by false = small_at k.lines number all

groups_small : (k : SaidKept) (count : ℕ) → k.groups < most_written_code → groups_more k count < most_written_code
groups_small k count less = by (nat_le 2 count)
  where
    by : (b : Bool) → (if b then (k.groups + 1) % most_written_code else k.groups) < most_written_code
    by true = omega arith
    by false = less

counted_small : (c : Settings) (k : SaidKept) (r : Reading) → AreCounts k → AreCounts (counted c k r)
counted_small c k r are = record {
  lines = small_map (lines_more c k (rule_of c (row_of r)).group (length (sentences_by c r)))
      (λ number. more_small c k (rule_of c (row_of r)).group (length (sentences_by c r)) number are.lines) row_numbers;
  groups = groups_small k (length (sentences_by c r)) are.groups;
}

ranked_small : (c : Settings) (k : SaidKept) (d : Complete) (r : Reading) (p : Option Rank) → AreCounts k → AreCounts (ranked_after c k d r p)
ranked_small c k d r None are = are
ranked_small c k d r (Some rank) are = by (is_chosen k d rank r)
  where
    noted : AreCounts (noted_by k d rank r)
    noted = record { lines = are.lines; groups = are.groups }

    by : (b : Bool) → AreCounts (if b then counted c (noted_by k d rank r) r else noted_by k d rank r)
    by true = counted_small c (noted_by k d rank r) r noted
    by false = noted

profiled_small : (c : Settings) (k : SaidKept) (d : Complete) (o : Option Reading) → AreCounts k → AreCounts (profiled_after c k d o)
profiled_small c k d None are = are
profiled_small c k d (Some r) are = ranked_small c k d r (rank_by c d r) are

message_small : (c : Settings) (k : SaidKept) (d : Option Complete) → AreCounts k → AreCounts (message_after c k d)
message_small c k None are = are
message_small c k (Some d) are = profiled_small c k d (reading_by d) are

without_small : (o : Option ℕ) (k : SaidKept) → AreCounts k → AreCounts (without_source o k)
without_small None k are = are
without_small (Some a) k are = record { lines = are.lines; groups = are.groups }

pub counts_fit : CountsFit
counts_fit = record {
  opening = λ c. record { lines = small_map (λ number. 0) (λ number. omega arith) row_numbers; groups = omega arith };
  message = message_small;
  claim = λ step k are. without_small (address_won step) (without_source (address_left step) k) (without_small (address_left step) k are);
}

-- ---- a line

decimal_short : (n : ℕ) → n < 1000 → length (decimal n) ≤ 3
decimal_short n le = length-decimal-le 3 n (omega arith) (omega (arith, le)) (omega (arith, le))

code_short : (n : ℕ) → n < 100 → length (decimal n) ≤ 2
code_short n le = length-decimal-le 2 n (omega arith) (omega (arith, le)) (omega (arith, le))

block_short : (part : Option GroupPart) (source : List ℕ) (count : ℕ) → IfSome part IsWritableGroup → length source ≡ 6 → count ≤ most_count
    → length (block_text (block_with part source count)) ≤ 32
block_short None source count is six le = let n = decimal_short count (omega (arith, le)) in simp length-append (omega (arith, n, six))
block_short (Some part) source count is six le =
    let n = decimal_short count (omega (arith, le)) in
    let code = code_short part.code (omega (arith, is.small)) in
    simp length-append (omega (arith, n, six, code))

both_short : (block sentence : List ℕ) → length block ≤ 32 → length sentence ≤ 82 → length (block ++ sentence) ≤ 114
both_short block sentence first second = simp length-append (omega (arith, first, second))

pub lines_fit : LinesFit
lines_fit tag sentence is sfi short = both_short (block_text (block_of tag)) sentence
    (block_short tag.group tag.source tag.count is.group sfi.len is.small) short

-- ---- a reading that is said

code_fits : (n : ℕ) → n < most_written_code → n + 1 ≤ most_written_code
code_fits n less = omega (arith, less)

pub group_fits : (total code number : ℕ) → total ≤ 9 → 1 ≤ code → code ≤ most_written_code → 1 ≤ number → number ≤ total → IfSome (part_of total code number) IsWritableGroup
group_fits total code number most first small one within = by (nat_le 2 total) refl
  where
    by : (b : Bool) → nat_le 2 total ≡ b → IfSome (if b then Some (record { number = number; total = total; code = code }) else None) IsWritableGroup
    by true le = record { first = one; within = within; several = leb-true 2 total le; most = most; code = first; small = small }
    by false le = tt

module _ (c : Settings) (k : SaidKept) (r : Reading) (sfi : IsSfi c.sfi) (are : AreCounts k) where
  tags : (number before : ℕ) → 1 ≤ number → number ≤ length (sentences_by c r) → IsWritable (tag_of c k r number before)
  tags number before one within = record {
    group = group_fits (length (sentences_by c r)) (k.groups + 1) number (omega (arith, (said_briefly (rule_of c (row_of r)).talker c.ths r).few)) (omega arith)
        (code_fits k.groups are.groups) one within;
    count = omega arith;
    small = omega arith;
  }

  -- the lines from one on, of at most 114 bytes each
  rest_fits : (before number : ℕ) (xs : List (List ℕ)) → AllByRecursion (λ x. length x ≤ 82) xs → 1 ≤ number
      → number + length xs ≤ length (sentences_by c r) + 1
      → length (lines_from c.sfi (length (sentences_by c r)) (k.groups + 1) before number xs) ≤ 114 * length xs
  rest_fits before number [] short one within = omega arith
  rest_fits before number (x ∷ xs) short one within =
      let line = lines_fit (tag_of c k r number before) x (tags number before one (omega (arith, within))) sfi short.0 in
      let rest = rest_fits (before + 1) (number + 1) xs short.1 (omega arith) (omega (arith, within)) in
      first_and_rest (line_text (tag_of c k r number before) x) (lines_from c.sfi (length (sentences_by c r)) (k.groups + 1) (before + 1) (number + 1) xs)
      (length xs) line rest
    where
      first_and_rest : (a b : List ℕ) (n : ℕ) → length a ≤ 114 → length b ≤ 114 * n → length (a ++ b) ≤ 114 * suc n
      first_and_rest a b n la lb = simp length-append (omega (arith, la, lb))

pub readings_fit : ReadingsFit
readings_fit c k r sfi two valid are =
    let talker = (rule_of c (row_of r)).talker in
    let said = said_briefly talker c.ths r in
    let short = said.short two valid in
    let few = said.few in
    let all = rest_fits c k r sfi are (lines_at k (row_of r)) 1 (sentences_by c r) short (omega arith) (omega arith) in
    record {
      some = said.some;
      few = few;
      short = short;
      tags = tags c k r sfi are;
      room = omega (arith, all, few);
    }
