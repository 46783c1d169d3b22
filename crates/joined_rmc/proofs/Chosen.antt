-- What is known of the last message of a row that was selected: which entry completed it, and whose NAME it has.
use Rattle.std.proofs.Common.{◌≡◌, ℕ, ◌<◌, ◌≤◌, Bool, true, false, List, [], ◌∷◌, length, All, refl, sym, ap, subst, ◌∙◌, ◌==◌, arith}
use Rattle.std.specs.Prelude.{Option, Some, None, option_map, if◌then◌else◌}
use Rattle.std.specs.List.{AllByRecursion}
use Rattle.std.proofs.lemmas.Bool.{eq-eqb, le-leb}
use Rattle.readings.specs.declared.reading.Reading.{Reading}
use Rattle.readings.specs.declared.rows.Row.{Row}
use Rattle.readings.specs.Rows.{row_of}
use Rattle.claim_table.specs.declared.answer.Holder.{Holder}
use Rattle.claim_table.specs.Claims.{IsSinceBy, holder_at}
use Rattle.claim_table.proofs.SoundLemmas.{held_within}
use Rattle.history.specs.AddressLaws.{IsReceiver}
use Rattle.history.specs.Entries.{Entry, History, frame, datagram, tick, command}
use Rattle.history.specs.FromBus.{selected_in}
use Rattle.history.specs.Known.{Known, known, is_claim}
use Rattle.history.specs.Messages.{Message, done, messages_of, with_message}
use Rattle.history.specs.Settings.{Receiver, receiver_of, Settings, same_row}
use Rattle.history.proofs.Addresses.{addresses_are_sound}
use Rattle.history.proofs.ChoiceSteps.{messages_are_of_holders}
use Rattle.history.proofs.FreshSteps.{below, claim_says_none}
use Rattle.history.proofs.KeySteps.{known_same}
use Rattle.parts.specs.Selected.{Selected, selected_at, selected_with, last_of, newer}
use Rattle.gate_core.proofs.Completed.{done_by}
use Rattle.joined_rmc.specs.Lasting.{held_by, still_held}

-- ---- the last one of a row is one of all messages

module _ (row : Row) (P : ℕ → ℕ → ℕ → Type 0) where
  abbrev pub Of : List Message → Type 0
  Of older = AllByRecursion (λ d. P d.index d.source d.name) older

  abbrev pub Is : Option Selected → Type 0
  Is before = (x : Selected) → before ≡ Some x → P x.index x.source x.name

  pub one_more : (d : Option Message) (says : Option Reading) (older : List Message) (before : Option Selected)
      → (Of older → Is before) → Of (with_message d older) → Is (newer row (selected_with d says) before)
  one_more None says older before all of = all of
  one_more (Some d) None older before all of = all of.1
  one_more (Some d) (Some r) older before all of = by (same_row (row_of r) row)
    where
      y : Selected
      y = record { index = d.index; moment = d.moment; source = d.source; name = d.name; reading = r }

      by : (b : Bool) → Is (if b then Some y else before)
      by true = λ x is. let same : y ≡ x = cc in subst (λ (z : Selected). P z.index z.source z.name) same of.0
      by false = all of.1

  pub last_is : (c : Settings) (s : ℕ) (h : History) → Of (messages_of (receiver_of c) s h) → Is (last_of c s row h)
  last_is c s [] of = λ x is. cc
  last_is c s (e ∷ h) of =
      let r = receiver_of c in
      one_more (done r s h e) (selected_in c (known r s h).claims.holders (messages_of r s h) (done r s h e)) (messages_of r s h) (last_of c s row h)
      (last_is c s h) of

pub index_before : (row : Row) (c : Settings) (s : ℕ) (h : History) (x : Selected) → last_of c s row h ≡ Some x → x.index < length h
index_before row c s h x is = last_is row (λ i source name. i < length h) c s h (below (receiver_of c) s h) x is

pub name_of_holder : (row : Row) (c : Settings) (s : ℕ) (h : History) (x : Selected) → IsReceiver (receiver_of c) → last_of c s row h ≡ Some x
    → (y : Holder) → holder_at (known (receiver_of c) s h).claims.holders x.source ≡ Some y → y.since ≤ x.index → x.name ≡ y.name.0
name_of_holder row c s h x are is y held since =
    last_is row (λ i source name. (source == x.source) ≡ true → y.since ≤ i → name ≡ y.name.0) c s h
    (messages_are_of_holders (receiver_of c) s h x.source y are held) x is (eq-eqb x.source x.source refl) since

-- ---- the message that an entry completes

-- a claim completes none
no_more : (d : Option Message) (older : List Message) → with_message d older ≡ older → d ≡ None
no_more None older is = refl
no_more (Some d) older is = let same = ap length is in absurd (omega (arith, same))

-- an entry that completes one changes no holder
pub same_holders : (r : Receiver) (s : ℕ) (h : History) (e : Entry) (d : Message) → IsReceiver r → done r s h e ≡ Some d
    → known r s (e ∷ h) ≡ known r s h
same_holders r s h (frame m f) d are is = by (is_claim f) refl
  where
    by : (b : Bool) → is_claim f ≡ b → known r s (frame m f ∷ h) ≡ known r s h
    by false other = known_same r s h m f other
    by true claims =
        let no : None ≡ Some d = sym (no_more (done r s h (frame m f)) (messages_of r s h) (claim_says_none r s h m f are claims)) ∙ is in cc
same_holders r s h (datagram m bytes) d are is = refl
same_holders r s h (tick m) d are is = refl
same_holders r s h (command m source address) d are is = cc

-- ---- what was selected is held by its sender still

chosen_from : (d : Option Message) (says : Option Reading) (x : Selected) → selected_with d says ≡ Some x
    → (y : Message) × (d ≡ Some y) × (x.index ≡ y.index) × (x.source ≡ y.source)
chosen_from None says x is = cc
chosen_from (Some y) None x is = cc
chosen_from (Some y) (Some r) x is =
    let z : Selected = record { index = y.index; moment = y.moment; source = y.source; name = y.name; reading = r } in
    let same : z ≡ x = cc in
    (y, refl, ap (λ (w : Selected). w.index) (sym same), ap (λ (w : Selected). w.source) (sym same))

since_by : (i : ℕ) (holders : List (Option Holder)) (a : ℕ) (y : Holder) → All (IsSinceBy i) holders → holder_at holders a ≡ Some y → y.since ≤ i
since_by i holders a y all held = subst (IsSinceBy i) held (all a None (held_within holders a y held))

held_now : (holders : List (Option Holder)) (x : Selected) (y : Holder) → holder_at holders x.source ≡ Some y → y.since ≤ x.index
    → still_held holders (Some x) ≡ Some x
held_now holders x y held since =
    ap (λ (o : Option Holder). by_since (option_map (λ z. z.since) o)) held ∙ ap (λ b. if b then Some x else None) (le-leb y.since x.index since)
  where
    by_since : Option ℕ → Option Selected
    by_since n = held_by n x

-- of a message that a receiver completes
pub message_holds : (r : Receiver) (s : ℕ) (h : History) (e : Entry) (says : Option Reading) (x : Selected) → IsReceiver r
    → selected_with (done r s h e) says ≡ Some x → still_held (known r s (e ∷ h)).claims.holders (Some x) ≡ Some x
message_holds r s h e says x are is =
    let from = chosen_from (done r s h e) says x is in
    let by = done_by r s h e from.0 from.1 in
    let same = same_holders r s h e from.0 are from.1 in
    let held : holder_at (known r s (e ∷ h)).claims.holders x.source ≡ Some by.holder =
    ap (λ (k : Known). holder_at k.claims.holders x.source) same ∙ ap (holder_at (known r s h).claims.holders) from.3 ∙ by.held in
    let dated = (addresses_are_sound r s h are).dated in
    let since = since_by (length h) (known r s h).claims.holders from.0.source by.holder dated by.held in
    let index = from.2 in
    let first = by.index in
    held_now (known r s (e ∷ h)).claims.holders x by.holder held (omega (arith, since, index, first))

pub chosen_holds : (c : Settings) (s : ℕ) (h : History) (e : Entry) (x : Selected) → IsReceiver (receiver_of c) → selected_at c s h e ≡ Some x
    → still_held (known (receiver_of c) s (e ∷ h)).claims.holders (Some x) ≡ Some x
chosen_holds c s h e x are is =
    let r = receiver_of c in
    message_holds r s h e (selected_in c (known r s h).claims.holders (messages_of r s h) (done r s h e)) x are is
