-- The message that was selected last of a row is the same with a tick and without it, but for the place of its entry; so is whether its sender
-- holds its address ever since.
use Rattle.std.proofs.Common.{◌≡◌, ◌≢◌, ℕ, suc, ◌<◌, Bool, true, false, List, [], ◌∷◌, ◌++◌, length, map, refl, sym, ap, subst, ◌∙◌, nat_le, arith}
use Rattle.std.specs.Prelude.{Option, Some, None, option_map, if◌then◌else◌}
use Rattle.claim_table.specs.declared.answer.Holder.{Holder}
use Rattle.readings.specs.Rows.{row_of}
use Rattle.readings.specs.declared.reading.Reading.{Reading}
use Rattle.readings.specs.declared.rows.Row.{Row}
use Rattle.history.specs.Entries.{Entry, History, tick}
use Rattle.history.specs.FromBus.{said_at}
use Rattle.history.specs.Known.{Known, held_since, known}
use Rattle.history.specs.Messages.{Message, done}
use Rattle.history.specs.Settings.{Receiver, Settings, receiver_of, same_row}
use Rattle.gate_core.specs.Selected.{Selected, last_of, newer as newest, saying, selected_at, selected_with}
use Rattle.gateway_commands.proofs.Completed.{done_by}
use Rattle.joined_rmc.specs.Lasting.{held_by, lasting, said_within, still_held}
use Rattle.recordings.proofs.Places.{apart_from, closed, closed_before, closed_order}
use Rattle.recordings.proofs.Renumbered.{holder_as, since_as}
use Rattle.recordings.proofs.Known.{known_without}
use Rattle.recordings.proofs.Noted.{message_as}
use Rattle.recordings.proofs.Messages.{done_without}
use Rattle.recordings.proofs.Said.{said_without}

abbrev pub selected_as : (ℕ → ℕ) → Selected → Selected
selected_as f x = record x { index = f x.index }

-- of a place, where there is one
abbrev pub IsWhere : (ℕ → Type 0) → Option Selected → Type 0
IsWhere P None = Unit {0}
IsWhere P (Some x) = P x.index

pub with_as : (f : ℕ → ℕ) (d : Option Message) (says : Option Reading) → selected_with (option_map (message_as f) d) says ≡ option_map (selected_as f) (selected_with d says)
with_as f None says = refl
with_as f (Some d) None = refl
with_as f (Some d) (Some r) = refl

pub newer_as : (f : ℕ → ℕ) (row : Row) (x before : Option Selected)
    → newest row (option_map (selected_as f) x) (option_map (selected_as f) before) ≡ option_map (selected_as f) (newest row x before)
newer_as f row None before = refl
newer_as f row (Some x) before = by (same_row (row_of x.reading) row)
  where
    by : (b : Bool) → (if b then Some (selected_as f x) else option_map (selected_as f) before) ≡ option_map (selected_as f) (if b then Some x else before)
    by true = refl
    by false = refl

module _ (P : ℕ → Type 0) where
  pub newer_where : (row : Row) (x before : Option Selected) → IsWhere P x → IsWhere P before → IsWhere P (newest row x before)
  newer_where row None before one all = all
  newer_where row (Some x) before one all = by (same_row (row_of x.reading) row)
    where
      by : (b : Bool) → IsWhere P (if b then Some x else before)
      by true = one
      by false = all

  saying_where : (d : Message) (says : Option Reading) → P d.index → IsWhere P (saying d says)
  saying_where d None here = tt
  saying_where d (Some r) here = here

  pub done_where : (r : Receiver) (s : ℕ) (h : History) (e : Entry) (says : Option Reading) → P (length h) → IsWhere P (selected_with (done r s h e) says)
  done_where r s h e says here = by (done r s h e) refl
    where
      by : (d : Option Message) → done r s h e ≡ d → IsWhere P (selected_with d says)
      by None is = tt
      by (Some d) is = saying_where d says (subst P (sym (done_by r s h e d is).index) here)

  selected_where : (c : Settings) (s : ℕ) (h : History) (e : Entry) → P (length h) → IsWhere P (selected_at c s h e)
  selected_where c s h e here = done_where (receiver_of c) s h e (said_at c s h e) here

pub weaker : (P Q : ℕ → Type 0) (x : Option Selected) → ((i : ℕ) → P i → Q i) → IsWhere P x → IsWhere Q x
weaker P Q None to here = tt
weaker P Q (Some x) to here = to x.index here

-- the last one of a history is by one of its entries
last_under : (c : Settings) (s : ℕ) (row : Row) (h : History) → IsWhere (λ i. i < length h) (last_of c s row h)
last_under c s row [] = tt
last_under c s row (e ∷ h) =
    newer_where (λ i. i < suc (length h)) row (selected_at c s h e) (last_of c s row h) (selected_where (λ i. i < suc (length h)) c s h e (omega arith))
    (weaker (λ i. i < length h) (λ i. i < suc (length h)) (last_of c s row h) (λ i lt. omega (arith, lt)) (last_under c s row h))

pub last_stays : (n : ℕ) (x : Option Selected) → IsWhere (λ i. i < n) x → option_map (selected_as (closed n)) x ≡ x
last_stays n None under = refl
last_stays n (Some x) under = ap (λ (i : ℕ). Some (record x { index = i })) (closed_before n x.index (omega (arith, under)))

module _ (c : Settings) (s m : ℕ) (h : History) where
  pub selected_without : (newer : History) (e : Entry) → selected_at c s (newer ++ h) e ≡ option_map (selected_as (closed (length h))) (selected_at c s (newer ++ tick m ∷ h) e)
  selected_without newer e =
      ap (selected_with (done (receiver_of c) s (newer ++ h) e)) (said_without c s m h newer e)
      ∙ ap (λ (d : Option Message). selected_with d (said_at c s (newer ++ tick m ∷ h) e)) (done_without (receiver_of c) s m h newer e)
      ∙ with_as (closed (length h)) (done (receiver_of c) s (newer ++ tick m ∷ h) e) (said_at c s (newer ++ tick m ∷ h) e)

  pub last_without : (row : Row) (newer : History) → last_of c s row (newer ++ h) ≡ option_map (selected_as (closed (length h))) (last_of c s row (newer ++ tick m ∷ h))
  last_without row [] = sym (last_stays (length h) (last_of c s row h) (last_under c s row h))
  last_without row (e ∷ newer) =
      ap (λ (x : Option Selected). newest row x (last_of c s row (newer ++ h))) (selected_without newer e)
      ∙ ap (newest row (option_map (selected_as (closed (length h))) (selected_at c s (newer ++ tick m ∷ h) e))) (last_without row newer)
      ∙ newer_as (closed (length h)) row (selected_at c s (newer ++ tick m ∷ h) e) (last_of c s row (newer ++ tick m ∷ h))

  last_apart : (row : Row) (newer : History) → IsWhere (λ i. i ≢ length h) (last_of c s row (newer ++ tick m ∷ h))
  last_apart row [] = weaker (λ i. i < length h) (λ i. i ≢ length h) (last_of c s row h) (λ i lt same. omega (arith, lt, same)) (last_under c s row h)
  last_apart row (e ∷ newer) =
      newer_where (λ i. i ≢ length h) row (selected_at c s (newer ++ tick m ∷ h) e) (last_of c s row (newer ++ tick m ∷ h))
      (selected_where (λ i. i ≢ length h) c s (newer ++ tick m ∷ h) e (apart_from newer m h)) (last_apart row newer)

-- ---- its sender holds its address ever since

held_as : (n : ℕ) (since : Option ℕ) (x : Selected) → x.index ≢ n
    → held_by (option_map (closed n) since) (selected_as (closed n) x) ≡ option_map (selected_as (closed n)) (held_by since x)
held_as n None x apart = refl
held_as n (Some since) x apart = rw (closed_order n since x.index apart) (by (nat_le since x.index))
  where
    by : (b : Bool) → (if b then Some (selected_as (closed n) x) else None) ≡ option_map (selected_as (closed n)) (if b then Some x else None)
    by true = refl
    by false = refl

pub still_as : (n : ℕ) (holders : List (Option Holder)) (x : Option Selected) → IsWhere (λ i. i ≢ n) x
    → still_held (map (holder_as (closed n)) holders) (option_map (selected_as (closed n)) x) ≡ option_map (selected_as (closed n)) (still_held holders x)
still_as n holders None apart = refl
still_as n holders (Some x) apart =
    ap (λ (since : Option ℕ). held_by since (selected_as (closed n) x)) (since_as (closed n) holders x.source) ∙ held_as n (held_since holders x.source) x apart

pub within_as : (f : ℕ → ℕ) (timeout t : ℕ) (x : Option Selected) → said_within timeout t (option_map (selected_as f) x) ≡ said_within timeout t x
within_as f timeout t None = refl
within_as f timeout t (Some x) = refl

pub lasting_without : (c : Settings) (s m : ℕ) (h newer : History) (timeout : ℕ) (row : Row) (t : ℕ)
    → lasting c s timeout row (newer ++ h) t ≡ lasting c s timeout row (newer ++ tick m ∷ h) t
lasting_without c s m h newer timeout row t =
    ap (λ (k : Known). said_within timeout t (still_held k.claims.holders (last_of c s row (newer ++ h)))) (known_without (receiver_of c) s m h newer)
    ∙ ap (λ (x : Option Selected). said_within timeout t (still_held (map (holder_as (closed (length h))) (known (receiver_of c) s (newer ++ tick m ∷ h)).claims.holders) x))
    (last_without c s m h row newer)
    ∙ ap (said_within timeout t)
    (still_as (length h) (known (receiver_of c) s (newer ++ tick m ∷ h)).claims.holders (last_of c s row (newer ++ tick m ∷ h)) (last_apart c s m h row newer))
    ∙ within_as (closed (length h)) timeout t (still_held (known (receiver_of c) s (newer ++ tick m ∷ h)).claims.holders (last_of c s row (newer ++ tick m ∷ h)))
