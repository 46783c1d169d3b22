-- An entry that gives a command to go to an address (ISO 11783-5) says nothing on the network: no row is read of its message.
use Rattle.std.proofs.Common.{◌≡◌, ℕ, Bool, true, false, List, [], ◌∷◌, Option, Some, None, refl, sym, ap, subst, ◌∙◌}
use Rattle.std.specs.Prelude.{◌==◌, is_some, option_map}
use Rattle.std.proofs.lemmas.Bool.{eqb-true}
use Rattle.n2k_id.specs.Pgns as pgns
use Rattle.claim_table.specs.declared.answer.Holder.{Holder}
use Rattle.gate_events.specs.Emit.{Emit}
use Rattle.history.specs.Choice.{reading_of}
use Rattle.history.specs.Emits.{is_there}
use Rattle.history.specs.Entries.{Entry, History, moment_of}
use Rattle.history.specs.FromBus.{selected_in}
use Rattle.history.specs.Gate.{command_in}
use Rattle.history.specs.Known.{known}
use Rattle.history.specs.Messages.{Message, done, messages_of, ordered_in}
use Rattle.history.specs.Settings.{Settings, receiver_of}
use Rattle.pgn_profile.specs.Layout.{messages}
use Rattle.gate_model.specs.Machine.{Machine}
use Rattle.gate_outbox.specs.declared.done.Command.{Command}
use Rattle.gate_outbox.specs.Output.{Output}
use Rattle.gate_core.specs.Promises.{IsTaken, entry_by}

-- the message of a command is no row's
abbrev of_pgn : Message → ℕ → Message
of_pgn d pgn = record d { pgn = pgn }

no_row : (d : Message) → reading_of (of_pgn d pgns.commanded_address) ≡ None
unfolding messages
no_row d = refl

unread : (name : ℕ) (d : Message) (is : Bool) → (d.pgn == pgns.commanded_address) ≡ is → is_some (ordered_in name d.pgn d.payload) ≡ true → reading_of d ≡ None
unread name d true same orders =
    subst (λ (n : ℕ). reading_of (of_pgn d n) ≡ None) (sym (eqb-true d.pgn pgns.commanded_address same)) (no_row d)
unread name d false other orders = let never : false ≡ true = rw other at orders in absurd cc

module _ (c : Settings) (s : ℕ) (holders : List (Option Holder)) (older : List Message) where
  unsaid : (d : Option Message) (m : ℕ) (next : Entry) → Some next ≡ command_in c s d m → is_some (selected_in c holders older d) ≡ false
  unsaid None m next is = absurd cc
  unsaid (Some d) m next is = by (ordered_in c.name d.pgn d.payload) refl
    where
      by : (o : Option ℕ) → ordered_in c.name d.pgn d.payload ≡ o → is_some (selected_in c holders older (Some d)) ≡ false
      by None none = let never : Some next ≡ None = rw none at is in absurd cc
      by (Some address) some =
          rw (unread c.name d (d.pgn == pgns.commanded_address) refl (ap is_some some)) refl

none_there : (posted : List Emit) → is_there posted ≡ false → posted ≡ []
none_there [] is = refl
none_there (e ∷ es) is = absurd cc

pub unposted : (c : Settings) (s : ℕ) (h : History) (e : Entry) (g : Machine) (left : Output) → IsTaken c s h e g left
    → (o : Command) → left.command ≡ Some o → left.emits.posted ≡ []
unposted c s h e g left taken o some =
    let r = receiver_of c in
    let given : Some (entry_by (moment_of e) o) ≡ command_in c s (done r s h e) (moment_of e) =
    sym (ap (option_map (entry_by (moment_of e))) some) ∙ taken.ordered in
    none_there left.emits.posted
    (taken.posted ∙ unsaid c s (known r s h).claims.holders (messages_of r s h) (done r s h e) (moment_of e) (entry_by (moment_of e) o) given)
