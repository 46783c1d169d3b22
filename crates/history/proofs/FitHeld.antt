-- How many lines of open groups wait at most.
use Rattle.std.proofs.Common.{◌≡◌, ℕ, ◌*◌, ◌≤◌, Bool, false, List, [], ◌∷◌, length, refl, sym, ap, subst, arith, is_some}
use Rattle.std.specs.Prelude.{Option, Some, None, Result, IfOk, IfSome, filter, if◌then◌else◌}
use Rattle.std.specs.List.{AllByRecursion, sum_by}
use Rattle.std.proofs.lemmas.Bool.{leb-true}
use Rattle.std.proofs.lemmas.List.Sums.{sum_by-cons}
use Rattle.claim_table.specs.Claims.{is_ready}
use Rattle.slot_views.specs.Runs.{accepted, accepted_after, opener_of, since_opener, open_at}
use Rattle.slot_views.proofs.RunSuffixes.{one_suffix_of}
use Rattle.tag_block.specs.declared.group_key.GroupKey.{GroupKey}
use Rattle.tag_block.specs.Groups.{IsGroupPart}
use Rattle.tag_block.specs.GroupRuns.{GroupLine, group_rules}
use Rattle.tag_block.specs.Tag.{IsGroupRead}
use Rattle.tag_block.proofs.GroupPrefixes.{lawful, all_front, far_by, more_of}
use Rattle.datagram450.specs.declared.fault.DatagramFault.{DatagramFault}
use Rattle.datagram450.specs.Datagram as datagrams
use Rattle.datagram450.specs.Datagram.{IsItem, Item}
use Rattle.datagram450.proofs.Datagrams.{is_found}
use Rattle.datagram450.proofs.Items.{each_is}
use Rattle.history.specs.Entries.{History, IsHistory, now, frame, datagram, tick}
use Rattle.history.specs.Entries as entry
use Rattle.history.specs.Settings.{Settings, receiver_of}
use Rattle.history.specs.Known.{known}
use Rattle.history.specs.Heard.{HeardItem, Taken, heard_items, with_each, group_trace, group_keys, group_open, open_groups, with_item, taken_lines}
use Rattle.history.specs.FromNet.{items_in}
use Rattle.history.specs.Gate.{heard}
use Rattle.history.specs.Held.{held_in, lines_held}
use Rattle.history.proofs.GroupLimits.{groups_within_limit}

-- ---- an open group has fewer lines than its total, which is at most 9

abbrev IsValid : GroupLine → Type 0
IsValid x = IsGroupPart x.part

same_lines : (a b : List GroupLine) → Some a ≡ Some b → b ≡ a
same_lines a b e = cc

-- no line is a repeat, so all lines of a prefix are accepted
all_accepted : (p acc : List GroupLine) → accepted group_rules p ≡ Some acc → acc ≡ p
all_accepted [] acc is = cc
all_accepted (x ∷ []) acc is = grind (arith, same_lines)
all_accepted (x ∷ y ∷ ys) acc is = by (accepted group_rules (y ∷ ys)) refl is (λ a was. all_accepted (y ∷ ys) a was)
  where
    more : (a : List GroupLine) (t n : Bool) → (if t then (if n then Some (x ∷ a) else if false then Some a else None) else None) ≡ Some acc → acc ≡ x ∷ a
    more a t n e = grind (arith, same_lines)

    by : (o : Option (List GroupLine)) → accepted group_rules (y ∷ ys) ≡ o → accepted_after group_rules o x ≡ Some acc
        → ((a : List GroupLine) → accepted group_rules (y ∷ ys) ≡ Some a → a ≡ y ∷ ys) → acc ≡ x ∷ y ∷ ys
    by o was e before = grind (arith, more)

opener_valid : (y : GroupLine) (ys : List GroupLine) → AllByRecursion IsValid (y ∷ ys) → IsValid (opener_of y ys)
opener_valid y [] valid = valid.0
opener_valid y (z ∷ zs) valid = opener_valid z zs valid.1

held_few : (t : List GroupLine) (m : ℕ) → AllByRecursion IsValid t → (o : Option (List GroupLine)) → open_at group_rules t m ≡ o → held_in o ≤ 8
held_few t m valid None is = omega arith
held_few t m valid (Some []) is = omega arith
held_few t m valid (Some (y ∷ ys)) is =
    let far = far_by t valid m (y ∷ ys) is in
    let o = (one_suffix_of group_rules lawful).is_open t (y ∷ ys) m is in
    let front = all_front IsValid (since_opener group_rules t) o.older (subst (AllByRecursion IsValid) o.suffix valid) in
    let all : AllByRecursion IsValid (y ∷ ys) = subst (AllByRecursion IsValid) (sym (all_accepted (since_opener group_rules t) (y ∷ ys) o.prefix)) front in
    omega (arith, more_of y ys far.0 far.2, (opener_valid y ys all).most)

-- ---- the lines that are taken

abbrev IsRead : Taken → Type 0
IsRead t = IfSome t.group IsGroupRead

trace_valid : (key : GroupKey) (lines : List Taken) → AllByRecursion IsRead lines → AllByRecursion IsValid (group_trace key lines)
trace_valid key [] read = tt
trace_valid key (t ∷ older) read = grind (arith, trace_valid key older read.1, leb-true)

module _ (c : Settings) where
  item_read : (lines : List Taken) (x : HeardItem) (i : Item) → IsItem i → AllByRecursion IsRead lines → AllByRecursion IsRead (with_item c lines x i)
  item_read lines x i is read = grind arith

  all_read : (older : List HeardItem) (m : ℕ) (ready : Bool) (items : List Item) → AllByRecursion IsItem items → AllByRecursion IsRead (taken_lines c older)
      → AllByRecursion IsRead (taken_lines c (with_each older (heard_items m ready items)))
  all_read older m ready [] is read = read
  all_read older m ready (i ∷ items) is read = grind (arith, all_read (record { moment = m; ready = ready; item = i } ∷ older) m ready items is.1, item_read)

items_are : (r : Result (List Item) DatagramFault) → IfOk r (AllByRecursion IsItem) → AllByRecursion IsItem (items_in r)
items_are r is = grind arith

module _ (c : Settings) (s : ℕ) where
  heard_read : (h : History) → AllByRecursion IsRead (taken_lines c (heard c s h))
  heard_read [] = tt
  heard_read (frame m f ∷ h) = heard_read h
  heard_read (datagram m bytes ∷ h) =
      all_read c (heard c s h) m (is_ready (known (receiver_of c) s h).claims m) (items_in (datagrams.read bytes))
      (items_are (datagrams.read bytes) (each_is bytes (datagrams.read bytes) (is_found bytes (datagrams.read bytes) refl))) (heard_read h)
  heard_read (tick m ∷ h) = heard_read h
  heard_read (entry.command m source address ∷ h) = heard_read h

-- ---- the sum over the keys

sum_few : {K : Type 0} (o : K → Option (List GroupLine)) → ((key : K) → held_in (o key) ≤ 8) → (keys : List K)
    → sum_by (λ key. held_in (o key)) keys ≤ 8 * length (filter (λ key. is_some (o key)) keys)
sum_few o few [] = omega arith
sum_few o few (k ∷ keys) = by (o k) refl (few k) (sum_few o few keys)
  where
    by : (q : Option (List GroupLine)) → o k ≡ q → held_in (o k) ≤ 8 → sum_by (λ key. held_in (o key)) keys ≤ 8 * length (filter (λ key. is_some (o key)) keys)
        → sum_by (λ key. held_in (o key)) (k ∷ keys) ≤ 8 * length (filter (λ key. is_some (o key)) (k ∷ keys))
    by None e one rest = grind (arith, sum_by-cons)
    by (Some acc) e one rest = rw (ap is_some e) (omega (arith, one, sum_by-cons (λ key. held_in (o key)) k keys, rest))

-- ---- an open group holds at most 8 lines

held_by_open : (lines : List Taken) (m : ℕ) → AllByRecursion IsRead lines → lines_held lines m ≤ 8 * length (open_groups lines m)
held_by_open lines m read = sum_few (λ key. group_open lines key m) (λ key. held_few (group_trace key lines) m (trace_valid key lines read) (group_open lines key m) refl) (group_keys lines)

pub held_fits : (c : Settings) (s : ℕ) (h : History) (m : ℕ) → IsHistory h → now h ≤ m → lines_held (taken_lines c (heard c s h)) m ≤ 8 * c.group_slots
held_fits c s h m is le = omega (arith, held_by_open (taken_lines c (heard c s h)) m (heard_read c s h), groups_within_limit c s h m is le)
