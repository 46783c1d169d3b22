-- What is noted of addresses that change hands is forgotten, and every other entry leaves what is kept of what was said as it is.
use Rattle.std.proofs.Common.{◌≡◌, ℕ, true, List, ◌∷◌, length, sym, subst}
use Rattle.std.specs.Prelude.{Option}
use Rattle.n2k_id.specs.Frame.{BusFrame}
use Rattle.claim_table.specs.Claims.{Outcome, claim}
use Rattle.claim_table.specs.declared.answer.Holder.{Holder}
use Rattle.history.specs.AddressLaws.{AreSettings}
use Rattle.history.specs.Entries.{History, frame}
use Rattle.history.specs.Settings.{Settings, receiver_of}
use Rattle.history.specs.Known.{Known, known, is_claim, claim_by}
use Rattle.history.specs.Messages.{Message, messages_of, with_message}
use Rattle.history.specs.Choice.{row_rules, row_told}
use Rattle.history.specs.FromBus.{selected_in}
use Rattle.history.specs.Gate.{with_spoken, spoken_of}
use Rattle.history.proofs.Receivers.{gateways_receive}
use Rattle.history.proofs.TraceMoves.{known_after_claim, commanded_holders}
use Rattle.gate_model.specs.Net.{row_numbers}
use Rattle.gate_model.specs.Said.{SaidKept, claimed_after}
use Rattle.gate_model.specs.SaidStands.{StandsSaid, SaidStandsFor}
use Rattle.gate_model.specs.SaidLaws.{ClaimStandsSaid, ClaimsStandSaid, OtherEntriesStandSaid}
use Rattle.gate_model.proofs.ChoiceClaims.{claimed_stand, silent}

-- ---- a claim

module _ (c : Settings) (s : ℕ) (h : History) (m : ℕ) (f : BusFrame) (k : SaidKept) (are : AreSettings c) (claims : is_claim f ≡ true)
    (st : SaidStandsFor c s h k) where
  abbrev older : List Message
  older = messages_of (receiver_of c) s h

  abbrev holders : List (Option Holder)
  holders = (known (receiver_of c) s h).claims.holders

  abbrev o : Outcome
  o = claim (known (receiver_of c) s h).claims (claim_by (length h) m f)

  stands_then : StandsSaid c o.after.holders older (spoken_of c s h) (claimed_after o.step k)
  stands_then = record {
    choices = claimed_stand row_told (row_rules c) (length row_numbers) (receiver_of c) s h m f k.choices (gateways_receive c are) claims st.choices;
    numbers = st.numbers;
    lines = st.lines;
    groups = st.groups;
  }

  pub claim_stands : ClaimStandsSaid c s h m f k
  claim_stands =
      let none = silent (receiver_of c) s h m f (gateways_receive c are) claims in
      record {
        stands =
            subst (λ (n : Known). StandsSaid c n.claims.holders (messages_of (receiver_of c) s (frame m f ∷ h)) (spoken_of c s (frame m f ∷ h))
            (claimed_after o.step k))
            (sym (known_after_claim (receiver_of c) s h m f claims))
            (subst (λ (d : Option Message). StandsSaid c o.after.holders (with_message d older) (with_spoken c s (selected_in c holders older d) (spoken_of c s h))
            (claimed_after o.step k)) (sym none) stands_then);
        silent = none;
      }

pub claims_stand_said : ClaimsStandSaid
claims_stand_said c s h m f k are claims st = claim_stands c s h m f k are claims st

-- ---- every other entry

pub other_entries_stand_said : OtherEntriesStandSaid
other_entries_stand_said c s h k st = record {
  datagrams = λ m bytes. st;
  ticks = λ m. st;
  commands = λ m source address.
      subst (λ (holders : List (Option Holder)). StandsSaid c holders (messages_of (receiver_of c) s h) (spoken_of c s h) k)
      (sym (commanded_holders (known (receiver_of c) s h).claims address m)) st;
}
