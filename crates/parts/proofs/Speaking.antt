-- What is said on the network has a reading and a talker that a sentence (IEC 61162-1) can have.
use Rattle.std.proofs.Common.{◌≡◌, subst, List, [], ◌∷◌, Bool, true, false, refl, All, ℕ}
use Rattle.std.specs.Prelude.{Option, Some, None, option_map, IfSome, IsTrue, option_and_then, if◌then◌else◌}
use Rattle.std.specs.List.{list_all}
use Rattle.std.specs.Option.{ForSome}
use Rattle.std.proofs.lemmas.List.Elements.{All-head, All-tail}
use Rattle.sentence_text.specs.Byte.{is_capital}
use Rattle.readings.specs.declared.reading.Reading.{Reading}
use Rattle.readings.specs.Rows.{IsValid}
use Rattle.gate_events.specs.Emit.{Emit, can, net, report}
use Rattle.plain_out.specs.Pace.{uttered}
use Rattle.plain_out.specs.declared.stream.Stream.{Stream}
use Rattle.pgn_profile.specs.declared.profiled.Profiled.{Profiled}
use Rattle.pgn_profile.specs.declared.profiled.Profiled.TheVariants as says
use Rattle.pgn_profile.specs.Profiled.{GivesValid, profiled}
use Rattle.pgn_profile.proofs.Law.{profiled_valid}
use Rattle.claim_table.specs.declared.answer.Holder.{Holder}
use Rattle.config_values.specs.Rows.{IsTalker}
use Rattle.history.specs.Choice.{reading_in, reading_of, row_rules, row_told, selected_reading, told_by}
use Rattle.history.specs.Entries.{Entry, History}
use Rattle.history.specs.EntryLaws.{nets_in}
use Rattle.history.specs.FromBus.{said_at, selected_in}
use Rattle.history.specs.Known.{known}
use Rattle.history.specs.Messages.{Message, done, messages_of}
use Rattle.history.specs.Settings.{Settings, receiver_of}
use Rattle.history.specs.Subjects.{is_chosen}

-- ---- what is selected is valid

valid_in : (x : Profiled) → GivesValid x → IfSome (reading_in x) IsValid
valid_in (says.Reading r) v = v
valid_in says.Outside v = tt
valid_in says.Short v = tt

module _ (c : Settings) (holders : List (Option Holder)) (older : List Message) where
  valid_if : (b : Bool) (r : Reading) → IsValid r → IfSome (if b then Some r else None) IsValid
  valid_if true r v = v
  valid_if false r v = tt

  valid_selected : (d : Message) (o : Option Reading) → IfSome o IsValid → IfSome (option_and_then (selected_reading c holders older d) o) IsValid
  valid_selected d None v = tt
  valid_selected d (Some r) v = valid_if (is_chosen row_told (row_rules c) holders older d (told_by r)) r v

  valid_of : (o : Option Message) → IfSome (selected_in c holders older o) IsValid
  valid_of None = tt
  valid_of (Some d) = valid_selected d (reading_of d) (valid_in (profiled d.pgn d.payload) (profiled_valid d.pgn d.payload))

pub said_valid : (c : Settings) (s : ℕ) (h : History) (e : Entry) → IfSome (said_at c s h e) IsValid
said_valid c s h e =
    valid_of c (known (receiver_of c) s h).claims.holders (messages_of (receiver_of c) s h) (done (receiver_of c) s h e)

-- what has no datagram says none
pub quiet_unsaid : (stream : Option Stream) (es : List Emit) → nets_in es ≡ [] → uttered stream es ≡ []
quiet_unsaid stream [] none = refl
quiet_unsaid stream (can f ∷ es) none = quiet_unsaid stream es none
quiet_unsaid stream (report r ∷ es) none = quiet_unsaid stream es none
quiet_unsaid stream (net group bytes ∷ es) none = absurd cc

-- ---- a talker's letters

letters : (xs : List ℕ) → All (λ letter. IsTrue (is_capital letter)) xs → IsTrue (list_all is_capital xs)
letters [] all = refl
letters (x ∷ xs) all = let first = All-head (λ letter. IsTrue (is_capital letter)) x xs all in rw first (letters xs (All-tail (λ letter. IsTrue (is_capital letter)) x xs all))

pub capitals : (talker : List ℕ) → IsTalker talker → IsTrue (list_all is_capital talker)
capitals talker is = letters talker is.letters

-- ---- what may be there

same_some : {A : Type 0} (x y : A) → Some x ≡ Some y → x ≡ y
same_some x y e = cc

pub if_mapped : {A B : Type 0} (f : A → B) (P : B → Type 0) (o : Option A) → ((x : A) → o ≡ Some x → P (f x)) → ForSome (option_map f o) P
if_mapped f P None is = λ y e. absurd cc
if_mapped f P (Some x) is = λ y e. subst P (same_some (f x) y e) (is x refl)
