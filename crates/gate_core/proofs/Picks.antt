-- What a step leaves tells which message was selected.
use Rattle.std.proofs.Common.{◌≡◌, ℕ, Bool, true, false, List, refl, sym, ap, ◌∙◌}
use Rattle.std.specs.Prelude.{Option, Some, None, is_some, option_map, if◌then◌else◌, option_and_then}
use Rattle.readings.specs.declared.reading.Reading.{Reading}
use Rattle.readings.specs.Rows.{row_of}
use Rattle.claim_table.specs.declared.answer.Holder.{Holder}
use Rattle.history.specs.Choice.{is_first, rank_of, reading_of, selected_reading}
use Rattle.history.specs.Entries.{Entry, History, moment_of}
use Rattle.history.specs.FromBus.{selected_in}
use Rattle.history.specs.Known.{known}
use Rattle.history.specs.Messages.{Message, done, messages_of}
use Rattle.history.specs.Settings.{receiver_of, Settings, rule_of}
use Rattle.gate_core.specs.Promises.{done_told}
use Rattle.gate_model.specs.Machine.{Machine}
use Rattle.gate_outbox.specs.Output.{Output}
use Rattle.gate_core.specs.declared.selected_message.SelectedMessage.{SelectedMessage}
use Rattle.gate_core.specs.Picked.{IsPicked, done_at, last_picked, message_of, picked_at, read_at}
use Rattle.gate_core.specs.Selected.{saying, selected_at, selected_with}
use Rattle.gate_core.proofs.Completed.{done_by}

-- what is chosen is what is read
is_read : (c : Settings) (holders : List (Option Holder)) (older : List Message) (d : Message) (q : Option Reading) (r : Reading)
    → option_and_then (selected_reading c holders older d) q ≡ Some r → q ≡ Some r
is_read c holders older d None r is = cc
is_read c holders older d (Some q) r is =
    by (is_first (rule_of c (row_of q)) holders (row_of q) d.moment older (rank_of (rule_of c (row_of q)) d.name)) is
  where
    by : (b : Bool) → (if b then Some q else None) ≡ Some r → Some q ≡ Some r
    by true e = e
    by false e = cc

told : (m : ℕ) (d : Message) (r : Reading) → d.moment ≡ m → reading_of d ≡ Some r
    → done_at m (Some (done_told d)) ≡ option_map message_of (saying d (Some r))
told m d r at reads =
    ap (λ (q : Option Reading). read_at m (done_told d) q) reads
    ∙ ap (λ n. let k : SelectedMessage = record { source = d.source; name = record { 0 = d.name }; moment = n; reading = r } in Some k) (sym at)

module _ (c : Settings) (s : ℕ) (h : History) where
  none_picked : (m : ℕ) (b : Bool) → (if b then done_at m None else None) ≡ None
  none_picked m true = refl
  none_picked m false = refl

  abbrev choice : Option Message → Option Reading
  choice d = selected_in c (known (receiver_of c) s h).claims.holders (messages_of (receiver_of c) s h) d

  by_done : (m : ℕ) (b : Bool) (d : Option Message) → (b ≡ is_some (choice d)) → ((y : Message) → d ≡ Some y → y.moment ≡ m)
      → (if b then done_at m (option_map done_told d) else None) ≡ option_map message_of (selected_with d (choice d))
  by_done m b None said at = none_picked m b
  by_done m b (Some d) said at = by (choice (Some d)) refl
    where
      by : (q : Option Reading) → choice (Some d) ≡ q
          → (if b then done_at m (Some (done_told d)) else None) ≡ option_map message_of (saying d (choice (Some d)))
      by None is =
          ap (λ t. if t then done_at m (Some (done_told d)) else None) (said ∙ ap is_some is) ∙ ap (λ q. option_map message_of (saying d q)) (sym is)
      by (Some r) is =
          ap (λ t. if t then done_at m (Some (done_told d)) else None) (said ∙ ap is_some is)
          ∙ told m d r (at d refl) (is_read c (known (receiver_of c) s h).claims.holders (messages_of (receiver_of c) s h) d (reading_of d) r is)
          ∙ ap (λ q. option_map message_of (saying d q)) (sym is)

  -- what the step left says of its message whether it is selected
  picked_is_chosen : (e : Entry) (left : Output) → left.selected ≡ is_some (choice (done (receiver_of c) s h e))
      → left.done ≡ option_map done_told (done (receiver_of c) s h e)
      → picked_at (moment_of e) left ≡ option_map message_of (selected_at c s h e)
  picked_is_chosen e left selects done_is =
      ap (λ d. if left.selected then done_at (moment_of e) d else None) done_is
      ∙ by_done (moment_of e) left.selected (done (receiver_of c) s h e) selects
      (λ y is. (done_by (receiver_of c) s h e y is).moment)

pub is_picked : (g : Machine) (left : Output) (m : ℕ) (picked : Option SelectedMessage) → m ≡ g.moment → picked ≡ picked_at m left → IsPicked g left picked
is_picked g left m picked at is c s h e taken =
    is ∙ ap (λ n. picked_at n left) (at ∙ taken.stands.moment) ∙ picked_is_chosen c s h e left taken.selected taken.told

-- what the step left is picked
pub last_is_picked : (g : Machine) (left : Output) → IsPicked g left (last_picked g left)
last_is_picked g left = is_picked g left g.moment (last_picked g left) refl refl

-- none, where the step selected none
pub none_is_picked : (g : Machine) (left : Output) → left.selected ≡ false → IsPicked g left None
none_is_picked g left none = is_picked g left g.moment None refl (sym (ap (λ b. if b then done_at g.moment left.done else None) none))
