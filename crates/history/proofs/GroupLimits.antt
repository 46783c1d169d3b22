-- The open groups of lines are within their limit.
use Rattle.std.proofs.Common.{◌≡◌, ℕ, ◌≤◌, Bool, true, false, List, [], ◌∷◌, length, refl, sym, ap, subst, ◌∙◌, arith, is_some}
use Rattle.std.specs.Prelude.{Option, Some, None, if◌then◌else◌}
use Rattle.std.specs.List.{AllByRecursion, list_any}
use Rattle.std.proofs.lemmas.Bool.{eq-eqb, false≢true}
use Rattle.claim_table.specs.Claims.{is_ready}
use Rattle.slot_views.specs.RunLaws.{fed}
use Rattle.tag_block.specs.declared.group_key.GroupKey.{GroupKey}
use Rattle.tag_block.specs.declared.group_part.GroupPart.{GroupPart}
use Rattle.tag_block.specs.GroupRuns.{group_rules}
use Rattle.datagram450.specs.Datagram as datagrams
use Rattle.datagram450.specs.Datagram.{Item, line, bad}
use Rattle.history.specs.Entries.{History, IsHistory, now, frame, datagram, tick}
use Rattle.history.specs.Entries as entry
use Rattle.history.specs.Settings.{Settings, receiver_of}
use Rattle.history.specs.Known.{known}
use Rattle.history.specs.Heard.{HeardItem, Taken, heard_items, with_each, same_group, precedes_group, several, group_line, key_with, group_keys, group_open, open_groups, is_group_admitted, is_taken, is_line_admitted, taken_as, with_item, taken_lines}
use Rattle.history.specs.FromNet.{items_in}
use Rattle.history.specs.Gate.{heard}
use Rattle.history.specs.GroupLaws.{group_key}
use Rattle.history.specs.LimitLaws.{GroupsWithinLimit}
use Rattle.history.proofs.KeySteps.{eqb-sym}
use Rattle.history.proofs.GroupCounts.{text_turn, same_is, no_lines}
use Rattle.history.proofs.GroupSteps.{text_same, group_steps, lines_alone, group_ends}
use Rattle.history.proofs.Fewer.{Apart, apart_placed, among_filtered}
use Rattle.history.proofs.Limits.{kept_some, fed_some, fewer, one_more}

pub turn : (a b : GroupKey) → same_group a b ≡ same_group b a
turn a b = rw (text_turn a.sfi b.sfi, eqb-sym a.code b.code) refl

pub itself : (a : GroupKey) → same_group a a ≡ true
itself a = rw (text_same a.sfi, eq-eqb a.code a.code refl) refl

pub apart : (taken : List Taken) → Apart same_group same_is turn itself (group_keys taken)
apart [] = tt
apart (t ∷ older) = by (several t.group) (apart older)
  where
    by : (part : Option GroupPart) → Apart same_group same_is turn itself (group_keys older) → Apart same_group same_is turn itself (key_with t.source part (group_keys older))
    by None rest = rest
    by (Some part) rest = apart_placed same_group same_is turn itself precedes_group (record { sfi = t.source; code = part.code }) (group_keys older) rest

Any : GroupKey → Type 0
Any key = Unit {0}

any_all : (ks : List GroupKey) → AllByRecursion Any ks
unfolding Any
any_all [] = tt
any_all (k ∷ ks) = (tt, any_all ks)

came : (taken : List Taken) (m : ℕ) (key : GroupKey) → is_some (group_open taken key m) ≡ true → list_any (same_group key) (group_keys taken) ≡ true
came taken m key is_open = grind (arith, no_lines, false≢true)

among_open : (taken : List Taken) (n : ℕ) (key : GroupKey) → is_some (group_open taken key n) ≡ true → list_any (same_group key) (open_groups taken n) ≡ true
among_open taken n key is = among_filtered same_group same_is turn itself (λ x. is_some (group_open taken x n)) key (group_keys taken) is (came taken n key is)

earlier : (taken : List Taken) (key : GroupKey) (m n : ℕ) → m ≤ n → is_some (group_open taken key n) ≡ true → is_some (group_open taken key m) ≡ true
earlier taken key m n le is = kept_some group_rules (group_open taken key m) n (sym (ap is_some (group_ends taken key m n le)) ∙ is)

-- from a moment on, no more groups are open than the limit
abbrev Within : ℕ → ℕ → List Taken → Type 0
Within limit m taken = (n : ℕ) → m ≤ n → length (open_groups taken n) ≤ limit

-- ---- one more line, which finds room where there is some

module _ (limit : ℕ) (t : Taken) (older : List Taken) (within : Within limit t.moment older)
    (admits : (part : GroupPart) → several t.group ≡ Some part → t.admitted ≡ is_group_admitted limit older (group_key t older part) t.moment) where
  with_one : Within limit t.moment (t ∷ older)
  with_one n le = by (several t.group) refl
    where
      few : length (open_groups older t.moment) ≤ limit
      few = within t.moment (omega arith)

      by : (o : Option GroupPart) → several t.group ≡ o → length (open_groups (t ∷ older) n) ≤ limit
      by None e =
          omega (
            arith,
            few,
            fewer same_group same_is turn itself Any (λ key. is_some (group_open (t ∷ older) key n)) (group_keys (t ∷ older)) (open_groups older t.moment) (apart (t ∷ older)) (any_all (group_keys (t ∷ older)))
                (λ key any is. among_open older t.moment key (earlier older key t.moment n le (sym (ap is_some ((lines_alone t older e).others key n)) ∙ is))),
          )
      by (Some part) e =
          one_more same_group same_is turn itself Any (λ key. is_some (group_open (t ∷ older) key n)) (group_keys (t ∷ older)) (open_groups older t.moment) (group_key t older part) limit
          (apart (t ∷ older)) (any_all (group_keys (t ∷ older)))
          (λ key any other is. among_open older t.moment key (earlier older key t.moment n le (sym (ap is_some ((group_steps t older part e).others key n other)) ∙ is)))
          own few
        where
          own : (key : GroupKey) → Any key → same_group key (group_key t older part) ≡ true → is_group_admitted limit older (group_key t older part) t.moment ≡ false
              → is_some (group_open (t ∷ older) key n) ≡ true → list_any (same_group key) (open_groups older t.moment) ≡ true
          own key any same full is =
              let one : key ≡ group_key t older part = same_is key (group_key t older part) same in
              let left : is_some (group_open (t ∷ older) (group_key t older part) n) ≡ true = subst (λ (x : GroupKey). is_some (group_open (t ∷ older) x n) ≡ true) one is in
              subst (λ (x : GroupKey). list_any (same_group x) (open_groups older t.moment) ≡ true) (sym one)
              (among_open older t.moment (group_key t older part)
              (fed_some group_rules (group_open older (group_key t older part) t.moment) (group_line t part) (admits part e ∙ full)
              (kept_some group_rules (fed group_rules (group_open older (group_key t older part) t.moment) (group_line t part)) n (sym (ap is_some ((group_steps t older part e).left n)) ∙ left))))

-- ---- a datagram

several_is : (g : Option GroupPart) (part : GroupPart) → several g ≡ Some part → g ≡ Some part
several_is g part e = grind arith

module _ (c : Settings) (m : ℕ) where
  -- the lines after an item that came at the moment
  item_within : (lines : List Taken) (x : HeardItem) (i : Item) → x.moment ≡ m → Within c.group_slots m lines → Within c.group_slots m (with_item c lines x i)
  item_within lines x (line place said sentence parts) now within = by (is_taken c said)
    where
      t : Taken
      t = taken_as c lines x place said sentence

      by : (b : Bool) → Within c.group_slots m (if b then t ∷ lines else lines)
      by true =
          subst (λ (n : ℕ). Within c.group_slots n (t ∷ lines)) now
          (with_one c.group_slots t lines (subst (λ (n : ℕ). Within c.group_slots n lines) (sym now) within)
          (λ part e. ap (λ (g : Option GroupPart). is_line_admitted c lines said.source g x.moment) (several_is said.group part e)))
      by false = within
  item_within lines x (bad rule place) now within = within

  -- after all items of a datagram
  all_within : (older : List HeardItem) (ready : Bool) (items : List Item) → Within c.group_slots m (taken_lines c older)
      → Within c.group_slots m (taken_lines c (with_each older (heard_items m ready items)))
  all_within older ready [] within = within
  all_within older ready (i ∷ items) within = grind (arith, all_within (record { moment = m; ready = ready; item = i } ∷ older) ready items, item_within)

module _ (c : Settings) (s : ℕ) where
  limited : (h : History) → IsHistory h → Within c.group_slots (now h) (taken_lines c (heard c s h))
  limited [] is n le = omega arith
  limited (frame m f ∷ h) is n le = limited h is.2 n (omega (arith, is.1, le))
  limited (datagram m bytes ∷ h) is n le =
      all_within c m (heard c s h) (is_ready (known (receiver_of c) s h).claims m) (items_in (datagrams.read bytes))
      (λ i after. limited h is.2 i (omega (arith, is.1, after))) n le
  limited (tick m ∷ h) is n le = limited h is.2 n (omega (arith, is.1, le))
  limited (entry.command m source address ∷ h) is n le = limited h is.2 n (omega (arith, is.1, le))

pub groups_within_limit : GroupsWithinLimit
groups_within_limit c s h m is le = limited c s h is m le
