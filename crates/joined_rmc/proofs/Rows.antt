-- What is kept of a row stands for the history with one more entry.
use Rattle.std.proofs.Common.{◌≡◌, ℕ, ◌<◌, ◌≤◌, Bool, true, false, List, ◌∷◌, length, refl, sym, ap, ◌∙◌, arith}
use Rattle.std.specs.Prelude.{Option, Some, None, option_map, nat_le, if◌then◌else◌}
use Rattle.std.proofs.lemmas.Bool.{eq-eqb, ne_eqb, leb-true, lt-leb}
use Rattle.n2k_id.specs.declared.name.Name.{Name}
use Rattle.readings.specs.declared.rows.Row.{Row}
use Rattle.readings.specs.Rows.{row_of}
use Rattle.claim_table.specs.declared.answer.Holder.{Holder}
use Rattle.claim_table.specs.Claims.{holder_at}
use Rattle.history.specs.AddressLaws.{IsReceiver}
use Rattle.history.specs.Entries.{Entry, History}
use Rattle.history.specs.Known.{known}
use Rattle.history.specs.Settings.{Receiver, receiver_of, Settings, same_row}
use Rattle.gate_model.specs.AddressStands.{name_held}
use Rattle.parts.specs.SelectedMessage.{SelectedMessage}
use Rattle.parts.specs.Picked.{message_of}
use Rattle.parts.specs.Selected.{Selected, selected_at, last_of, newer}
use Rattle.joined_rmc.specs.Lasting.{held_by, still_held}
use Rattle.joined_rmc.specs.JoinStands.{LastStands}
use Rattle.joined_rmc.specs.Kept.{held_in, is_named, newer_message, last_after}
use Rattle.joined_rmc.specs.declared.last_of_row.LastOfRow.{LastOfRow}
use Rattle.joined_rmc.proofs.Chosen.{chosen_holds, index_before, name_of_holder}
use Rattle.joined_rmc.proofs.Holders.{Handed, stays, gone, new, handed}

-- ---- one message, by who holds its source before the entry and after it

module _ (holder : ℕ → Option Name) (x : Selected) where
  abbrev left : Option ℕ → Option SelectedMessage
  left since = held_in holder (option_map message_of (held_by since x))

  abbrev right : Option ℕ → Option SelectedMessage
  right since = option_map message_of (held_by since x)

  abbrev named : Bool
  named = is_named (message_of x).name (holder x.source)

  abbrev since_of : Option Holder → Option ℕ
  since_of o = option_map (λ y. y.since) o

  lost : (since : Option ℕ) → ((n : ℕ) → since ≡ Some n → n ≤ x.index → named ≡ false) → left since ≡ None
  lost None other = refl
  lost (Some n) other = by (nat_le n x.index) refl
    where
      by : (b : Bool) → nat_le n x.index ≡ b → held_in holder (option_map message_of (if b then Some x else None)) ≡ None
      by true le = ap (λ b. if b then Some (message_of x) else None) (other n refl (leb-true n x.index le))
      by false le = refl

  held : (since : Option ℕ) → ((n : ℕ) → since ≡ Some n → n ≤ x.index → named ≡ true) → left since ≡ right since
  held None same = refl
  held (Some n) same = by (nat_le n x.index) refl
    where
      by : (b : Bool) → nat_le n x.index ≡ b
          → held_in holder (option_map message_of (if b then Some x else None)) ≡ option_map message_of (if b then Some x else None)
      by true le = ap (λ b. if b then Some (message_of x) else None) (same n refl (leb-true n x.index le))
      by false le = refl

  too_late : (n : ℕ) → x.index < n → right (Some n) ≡ None
  too_late n late = ap (λ b. option_map message_of (if b then Some x else None)) (lt-leb n x.index late)

  -- the message is of the NAME that held its source
  abbrev IsOf : Option Holder → Type 0
  IsOf before = (y : Holder) → before ≡ Some y → y.since ≤ x.index → x.name ≡ y.name.0

  abbrev names : Option Holder → Option Name
  names o = option_map (λ y. y.name) o

  one_step : (i : ℕ) (before after : Option Holder) → holder x.source ≡ names after → x.index < i → IsOf before → Handed i before after
      → left (since_of before) ≡ right (since_of after)
  one_step i None after told early of (stays same) = ap (λ o. right (since_of o)) (sym same)
  one_step i None after told early of (gone none) = ap (λ o. right (since_of o)) (sym none)
  one_step i None after told early of (new g there since other) =
      sym (ap (λ o. right (since_of o)) there ∙ too_late g.since (omega (arith, early, since)))
  one_step i (Some y) after told early of (stays same) = held (Some y.since) is_same ∙ ap (λ o. right (since_of o)) (sym same)
    where
      is_same : (n : ℕ) → Some y.since ≡ Some n → n ≤ x.index → named ≡ true
      is_same n e le =
          let one : y.since ≡ n = cc in
          ap (is_named (message_of x).name) (told ∙ ap names same) ∙ eq-eqb y.name.0 x.name (sym (of y refl (omega (arith, one, le))))
  one_step i (Some y) after told early of (gone none) = lost (Some y.since) (λ n e le. ap (is_named (message_of x).name) (told ∙ ap names none)) ∙ ap (λ o. right (since_of o)) (sym none)
  one_step i (Some y) after told early of (new g there since other) = lost (Some y.since) isnt ∙ sym (ap (λ o. right (since_of o)) there ∙ too_late g.since (omega (arith, early, since)))
    where
      isnt : (n : ℕ) → Some y.since ≡ Some n → n ≤ x.index → named ≡ false
      isnt n e le =
          let one : y.since ≡ n = cc in
          let name = of y refl (omega (arith, one, le)) in
          ap (is_named (message_of x).name) (told ∙ ap names there) ∙ ne_eqb g.name.0 x.name (λ q. other y refl (q ∙ name))

-- ---- a row

combined : (row : Row) (holders : List (Option Holder)) (x before : Option Selected) (kept : Option SelectedMessage)
    → ((y : Selected) → x ≡ Some y → still_held holders (Some y) ≡ Some y) → kept ≡ option_map message_of (still_held holders before)
    → newer_message row (option_map message_of x) kept ≡ option_map message_of (still_held holders (newer row x before))
combined row holders None before kept holds is = is
combined row holders (Some y) before kept holds is = by (same_row (row_of y.reading) row)
  where
    by : (b : Bool) → (if b then Some (message_of y) else kept) ≡ option_map message_of (still_held holders (if b then Some y else before))
    by true = sym (ap (option_map message_of) (holds y refl))
    by false = is

-- a message that came before, of the NAME that held its source
pub record CameBefore (holders : List (Option Holder)) (count : ℕ) (x : Selected) : Type 0 where
  pub index : x.index < count
  pub name : (y : Holder) → holder_at holders x.source ≡ Some y → y.since ≤ x.index → x.name ≡ y.name.0

module _ (r : Receiver) (s : ℕ) (h : History) (e : Entry) (are : IsReceiver r) (holder : ℕ → Option Name)
    (tells : (a : ℕ) → holder a ≡ name_held (known r s (e ∷ h)).claims.holders a) where
  older : (last : Option Selected) → ((x : Selected) → last ≡ Some x → CameBefore (known r s h).claims.holders (length h) x)
      → held_in holder (option_map message_of (still_held (known r s h).claims.holders last))
      ≡ option_map message_of (still_held (known r s (e ∷ h)).claims.holders last)
  older None came = refl
  older (Some x) came =
      one_step holder x (length h) (holder_at (known r s h).claims.holders x.source)
      (holder_at (known r s (e ∷ h)).claims.holders x.source) (tells x.source) (came x refl).index
      (came x refl).name (handed r s h e are x.source)

  -- the last message, and a newer one that its sender holds, or none
  pub newer_steps : (row : Row) (last x : Option Selected) (kept : Option SelectedMessage)
      → ((y : Selected) → last ≡ Some y → CameBefore (known r s h).claims.holders (length h) y)
      → ((y : Selected) → x ≡ Some y → still_held (known r s (e ∷ h)).claims.holders (Some y) ≡ Some y)
      → kept ≡ option_map message_of (still_held (known r s h).claims.holders last)
      → newer_message row (option_map message_of x) (held_in holder kept) ≡ option_map message_of (still_held (known r s (e ∷ h)).claims.holders (newer row x last))
  newer_steps row last x kept came holds is =
      combined row (known r s (e ∷ h)).claims.holders x last (held_in holder kept) holds (ap (held_in holder) is ∙ older last came)

module _ (c : Settings) (s : ℕ) (h : History) (e : Entry) (are : IsReceiver (receiver_of c)) (holder : ℕ → Option Name)
    (tells : (a : ℕ) → holder a ≡ name_held (known (receiver_of c) s (e ∷ h)).claims.holders a) where
  pub last_steps : (row : Row) (timeout : ℕ) (last : LastOfRow) (chosen : Option SelectedMessage) → chosen ≡ option_map message_of (selected_at c s h e)
      → LastStands timeout c s row h last → LastStands timeout c s row (e ∷ h) (last_after holder row chosen last)
  last_steps row timeout last chosen is stands = record {
    timeout_is = stands.timeout_is;
    kept =
        ap (λ k. newer_message row k (held_in holder last.message)) is
        ∙ newer_steps (receiver_of c) s h e are holder tells row (last_of c s row h) (selected_at c s h e) last.message
        (λ y there. record { index = index_before row c s h y there; name = name_of_holder row c s h y are there })
        (λ y there. chosen_holds c s h e y are there) stands.kept;
  }
