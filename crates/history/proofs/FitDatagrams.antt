-- How much a datagram makes the gateway emit at most.
use Rattle.std.proofs.Common.{◌≡◌, ℕ, zero, suc, ◌+◌, ◌*◌, ◌≤◌, Bool, true, false, List, [], ◌∷◌, ◌++◌, length, length-append, refl, arith}
use Rattle.std.specs.Prelude.{Option, Result, Ok, Err, if◌then◌else◌}
use Rattle.datagram450.specs.declared.fault.DatagramFault.{DatagramFault}
use Rattle.datagram450.specs.declared.fault.DatagramFault.TheVariants.{Header, Long}
use Rattle.datagram450.specs.Datagram as datagrams
use Rattle.datagram450.specs.Datagram.{Item, line, bad}
use Rattle.tag_block.specs.declared.group_part.GroupPart.{GroupPart}
use Rattle.tag_block.specs.Tag.{Said}
use Rattle.history.specs.Settings.{Settings}
use Rattle.history.specs.Emits.{reported}
use Rattle.history.specs.Heard.{HeardItem, Taken, heard_items, handed_over, is_taken, taken_lines, several, taken_as, with_item, with_each}
use Rattle.history.specs.Held.{lines_held}
use Rattle.history.specs.NetReadings.{NetReading, read_sentence, sentence_says, line_says, with_readings, readings_of}
use Rattle.history.specs.NetRules.{datagram_breaks, item_breaks_as, line_breaks, part_breaks}
use Rattle.history.specs.FromNet.{datagram_gives, handed_gives, item_gives, items_give, items_in, said_gives}
use Rattle.history.proofs.FitHandedOver.{handed_by_lines}
use Rattle.history.proofs.FitSentences.{sentence_gives_few}
use Rattle.history.proofs.HeardSteps.{datagrams_give_in_order}
use Rattle.history.proofs.Fits.{broken_length, reported_length, two_lengths}

-- ---- reports

line_reports : (c : Settings) (place : ℕ) (said : Said) → length (line_breaks c place said) ≤ 3
line_reports c place said = grind (arith, broken_length)

part_reports : (lines : List Taken) (t : Taken) (part : Option GroupPart) → length (part_breaks lines t part) ≤ 3
part_reports lines t part = grind (arith, broken_length)

datagram_reports : {A : Type 0} (read : Result A DatagramFault) → length (datagram_breaks read) ≤ 1
datagram_reports (Ok items) = omega arith
datagram_reports (Err (Header place)) = omega arith
datagram_reports (Err Long) = omega arith

-- ---- items of a datagram: its lines, and one more

items_few : (left at : ℕ) (ls : List (List ℕ)) (rest : List ℕ) → length (datagrams.items_at left at ls rest) ≤ left + 1
items_few left at [] [] = omega arith
items_few left at [] (x ∷ rest) = omega arith
items_few zero at (l ∷ ls) rest = omega arith
items_few (suc left) at (l ∷ ls) rest = let others = items_few left (at + length l) ls rest in omega (arith, others)

module _ (c : Settings) (own : Option ℕ) where
  sentences_few : (t : Taken) (older : List NetReading) (texts : List (List ℕ)) → length (said_gives c own t older (line_says c.optional_sentences t texts)) ≤ 7 * length texts
  sentences_few t older [] = omega arith
  sentences_few t older (text ∷ texts) =
      let says = sentence_says t (read_sentence c.optional_sentences text) in
      let others = line_says c.optional_sentences t texts in
      let in_order = (datagrams_give_in_order c own).said t older says others in
      let both = two_lengths (said_gives c own t older says) (said_gives c own t (with_readings older says) others) 7 (7 * length texts) (sentence_gives_few c own t older text) (sentences_few t (with_readings older says) texts) in
      rw in_order (omega (arith, both))

  -- an item with what it leaves held gives no more than what was held and ten
  item_few : (older : List HeardItem) (x : HeardItem) (i : Item) → length (reported (item_breaks_as c (taken_lines c older) x i) ++ handed_gives c own (taken_lines c older) x i) + 7 * lines_held (with_item c (taken_lines c older) x i) x.moment
      ≤ 7 * lines_held (taken_lines c older) x.moment + 10
  item_few older x (bad rule place) = omega arith
  item_few older x (line place said sentence parts) = by (is_taken c said) refl
    where
      lines : List Taken
      lines = taken_lines c older

      t : Taken
      t = taken_as c lines x place said sentence

      by : (b : Bool) → is_taken c said ≡ b → length (reported (if b then part_breaks lines t (several said.group) else line_breaks c place said) ++ (if b then said_gives c own t (readings_of c.optional_sentences lines) (line_says c.optional_sentences t (handed_over t lines)) else []))
          + 7 * lines_held (if b then t ∷ lines else lines) x.moment ≤ 7 * lines_held lines x.moment + 10
      by true is =
          let told = part_reports lines t (several said.group) in
          let same = reported_length (part_breaks lines t (several said.group)) in
          let given = sentences_few t (readings_of c.optional_sentences lines) (handed_over t lines) in
          let step = handed_by_lines t lines in
          let both = two_lengths (reported (part_breaks lines t (several said.group))) (said_gives c own t (readings_of c.optional_sentences lines) (line_says c.optional_sentences t (handed_over t lines))) 3 (7 * length (handed_over t lines)) (omega (arith, told, same)) given in
          omega (arith, both, step)
      by false isnt = grind (arith, line_reports, reported_length, two_lengths)

  -- items that come at one moment
  all_few : (older : List HeardItem) (m : ℕ) (ready : Bool) (is : List Item) → length (items_give c own older (heard_items m ready is)) + 7 * lines_held (taken_lines c (with_each older (heard_items m ready is))) m
      ≤ 7 * lines_held (taken_lines c older) m + 10 * length is
  all_few older m ready [] = omega arith
  all_few older m ready (i ∷ is) =
      let x : HeardItem = record { moment = m; ready = ready; item = i } in
      let one = item_few older x i in
      let others = all_few (x ∷ older) m ready is in
      let sum = length-append (item_gives c own older x) (items_give c own (x ∷ older) (heard_items m ready is)) in
      omega (arith, one, others, sum)

  pub datagram_few : (older : List HeardItem) (m : ℕ) (ready : Bool) (read : Result (List Item) DatagramFault) → length (items_in read) ≤ 65
      → length (datagram_gives c own older (heard_items m ready (items_in read)) read) ≤ 7 * lines_held (taken_lines c older) m + 651
  datagram_few older m ready read few =
      let told = datagram_reports read in
      let same = reported_length (datagram_breaks read) in
      let given = all_few older m ready (items_in read) in
      let both = length-append (reported (datagram_breaks read)) (items_give c own older (heard_items m ready (items_in read))) in
      omega (arith, told, same, given, both, few)

-- ---- the items of a datagram that is read

few_in : (place : ℕ) (long : Bool) (bytes : List ℕ) → (a : Bool) → length (items_in (if a then Err (Header place) else if long then Err Long else Ok (datagrams.items_from datagrams.most_lines 6 bytes))) ≤ 65
unfolding datagrams.items_from
few_in place long bytes a = grind (arith, items_few)

pub read_few : (bytes : List ℕ) → length (items_in (datagrams.read bytes)) ≤ 65
read_few bytes = few_in _ _ _ _
