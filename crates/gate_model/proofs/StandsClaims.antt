-- What a claim (ISO 11783-5) makes of what a gateway keeps stands for the history with it, and is what the history says.
use Rattle.std.proofs.Common.{◌≡◌, ℕ, Bool, true, not, List, [], ◌∷◌, ◌++◌, length, refl, sym, ap, subst, ◌∙◌}
use Rattle.std.specs.Prelude.{Option, None, is_some, option_map, if◌then◌else◌}
use Rattle.n2k_id.specs.Frame.{BusFrame}
use Rattle.n2k_id.specs.Identifier.{parts_of}
use Rattle.n2k_id.specs.declared.identifier_parts.Parts.{Parts}
use Rattle.claim_table.specs.declared.answer.ClaimStep.{ClaimStep}
use Rattle.claim_table.specs.Claims.{Outcome, claim}
use Rattle.history.specs.Settings.{Receiver, receiver_of}
use Rattle.history.specs.Entries.{History, IsHistory, frame}
use Rattle.history.specs.Known.{Known, known, is_claim, claim_by, address_left, address_won}
use Rattle.history.specs.Traces.{NotedFrame}
use Rattle.history.specs.TraceLaws.{same_own}
use Rattle.history.specs.Opens.{notes_of}
use Rattle.history.specs.Meanings as meanings
use Rattle.history.specs.Meanings.{Meaning, is_of_session, is_of_fast_packet}
use Rattle.history.specs.Messages.{done, messages_of}
use Rattle.gate_events.specs.Emit.{Emit}
use Rattle.history.specs.Emits.{reported}
use Rattle.history.specs.FromBus.{meaning_at, frame_refused, answers_by, own_answer, step_gives, selected_in, said_in}
use Rattle.history.specs.Gate.{spoken_of}
use Rattle.history.specs.AddressLaws.{IsReceiver, AreSettings}
use Rattle.history.proofs.Receivers.{gateways_receive}
use Rattle.history.proofs.TraceMoves.{known_after_claim}
use Rattle.gate_model.specs.Addresses.{claimed, plain_reports}
use Rattle.gate_model.specs.AddressStands.{FrameIsTold}
use Rattle.gate_model.specs.FastPackets.{fast_kept}
use Rattle.gate_model.specs.FastLaws.{StandsFastFor, GivesUpFast}
use Rattle.gate_model.specs.Sessions.{sessions_kept, lost_addressed}
use Rattle.gate_model.specs.SessionLaws.{StandsFor, GivesUp, is_moved}
use Rattle.gate_model.specs.Said.{complete_of, claimed_after}
use Rattle.gate_model.specs.SaidLaws.{ClaimStandsSaid}
use Rattle.gate_model.specs.SaidStands.{SaidStandsFor}
use Rattle.gate_model.specs.Machine.{Compared, Machine, Step}
use Rattle.gate_model.specs.MachineSteps.{lost_at, without, claim_takes, claim_tells}
use Rattle.gate_model.specs.Stands.{AreOrders, StandsAt}
use Rattle.gate_model.proofs.AddressSteps.{claimed_is}
use Rattle.gate_model.proofs.AddressTells.{standing_tells_alike}
use Rattle.gate_model.proofs.AddressFrames.{frames_are_told}
use Rattle.gate_model.proofs.FastLosses.{claims_give_up_fast}
use Rattle.gate_model.proofs.SessionLosses.{claims_give_up}
use Rattle.gate_model.proofs.SaidClaims.{claims_stand_said}
use Rattle.gate_model.proofs.NetItems.{other_entries_stand_net}
use Rattle.gate_model.proofs.StandsTimes.{joined, three}
use Rattle.gate_model.proofs.StandsFrames.{IsHandled, addresses_stand, claims_meant}

four : {a b c x y z : List Emit} (d : List Emit) → a ≡ x → b ≡ y → c ≡ z → a ++ b ++ c ++ d ≡ x ++ y ++ z ++ d
four d p q r = cc

module _ (o : Compared) (s : ℕ) (h : History) (m : ℕ) (f : BusFrame) (g : Machine) (orders : AreOrders o) (are : AreSettings g.settings)
    (is : IsHistory (frame m f ∷ h)) (stands : StandsAt o g.settings s h m g) (claims : is_claim f ≡ true) where
  abbrev r : Receiver
  r = receiver_of g.settings

  abbrev k : Known
  k = known r s h

  abbrev after : Known
  after = known r s (frame m f ∷ h)

  abbrev notes : List NotedFrame
  notes = notes_of r s h

  abbrev parts : Parts
  parts = parts_of f.id

  -- what it makes of the addresses, as they are kept and as they are known
  abbrev x : Outcome
  x = claimed g.addresses m f

  abbrev step : ClaimStep
  step = (claim k.claims (claim_by (length h) m f)).step

  abbrev moved : Bool
  moved = not (same_own g.addresses.claims.own x.after.own)

  able : IsReceiver r
  able = gateways_receive g.settings are

  step_is : x.step ≡ step
  step_is = ap (λ (o : Outcome). o.step) (claimed_is r s h g.addresses stands.addresses m f)

  own_is : x.after.own ≡ after.claims.own
  own_is =
      ap (λ (o : Outcome). o.after.own) (claimed_is r s h g.addresses stands.addresses m f)
      ∙ sym (ap (λ (k : Known). k.claims.own) (known_after_claim r s h m f claims))

  moved_is : moved ≡ is_moved r s h (frame m f)
  moved_is =
      ap (λ (own : Option ℕ). not (same_own own x.after.own)) (standing_tells_alike r s h g.addresses stands.addresses).own
      ∙ ap (λ (own : Option ℕ). not (same_own k.claims.own own)) own_is

  fast_ends : GivesUpFast o.fast r s h (frame m f) m g.fast (address_left step) (address_won step)
  fast_ends = claims_give_up_fast o.fast orders.fast r s h m f g.fast able claims stands.fast

  sessions_end : GivesUp o.sessions r s h (frame m f) m g.sessions (address_left step) (address_won step)
  sessions_end = claims_give_up o.sessions orders.sessions r s h m f g.sessions able is.2 claims stands.sessions

  unsaid_here : ClaimStandsSaid g.settings s h m f g.said
  unsaid_here = claims_stand_said g.settings s h m f g.said are claims stands.said

  -- ---- what it leaves

  fast_left : StandsFastFor o.fast r s (frame m f ∷ h) m (fast_kept (address_left x.step) (address_won x.step) g.fast)
  fast_left =
      subst (λ (st : ClaimStep). StandsFastFor o.fast r s (frame m f ∷ h) m (fast_kept (address_left st) (address_won st) g.fast)) (sym step_is)
      fast_ends.stands

  abbrev LeavesSessions : ClaimStep → Bool → Type 0
  LeavesSessions st b = StandsFor o.sessions r s (frame m f ∷ h) m (sessions_kept (address_left st) (address_won st) b g.sessions)

  sessions_left : LeavesSessions x.step moved
  sessions_left = subst (λ (st : ClaimStep). LeavesSessions st moved) (sym step_is) (subst (LeavesSessions step) (sym moved_is) sessions_end.stands)

  said_left : SaidStandsFor g.settings s (frame m f ∷ h) (claimed_after x.step g.said)
  said_left = subst (λ (st : ClaimStep). SaidStandsFor g.settings s (frame m f ∷ h) (claimed_after st g.said)) (sym step_is) unsaid_here.stands

  -- ---- what it gives

  abbrev given : ClaimStep → Bool → Option ℕ → List Emit
  given st b own =
      lost_at (address_left st) g ++ lost_at (address_won st) (without (address_left st) g)
      ++ lost_addressed b (without (address_won st) (without (address_left st) g)).sessions
      ++ own_answer g.settings.name st.own own

  given_so : given step (is_moved r s h (frame m f)) after.claims.own ≡ step_gives r.kinds r.name k after notes m step
  given_so =
      four (own_answer g.settings.name step.own after.claims.own)
      (joined fast_ends.left_told sessions_end.left_told)
      (joined fast_ends.won_told sessions_end.won_told)
      sessions_end.elsewhere_told

  -- in the order of the model
  tells : claim_tells g.settings.name g x ≡ given x.step moved x.after.own
  unfolding claim_tells
  tells = refl

  gives : claim_tells g.settings.name g x ≡ answers_by r s h m f (meaning_at r s h m f)
  gives =
      tells
      ∙ (ap (λ (st : ClaimStep). given st moved x.after.own) step_is
      ∙ (ap (λ (b : Bool). given step b x.after.own) moved_is
      ∙ (ap (given step (is_moved r s h (frame m f))) own_is
      ∙ (given_so
      ∙ sym (ap (answers_by r s h m f) (claims_meant r s h m f claims)
      ∙ ap (λ (b : Bool). if b then step_gives r.kinds r.name k after notes m step else []) claims)))))

  -- ---- the rules that it breaks

  breaks : plain_reports g.settings.name meanings.address_claim parts f.held ≡ frame_refused r s h m f
  breaks =
      let meant = claims_meant r s h m f claims in
      let told : FrameIsTold r s h m f g.addresses =
      frames_are_told r s h m f g.addresses able stands.addresses (ap is_of_session meant) (ap is_of_fast_packet meant) in
      sym (told.reports ∙ ap (λ (meaning : Meaning). plain_reports g.settings.name meaning parts f.held) (told.meaning ∙ meant))

  none_chosen : selected_in g.settings k.claims.holders (messages_of r s h) (done r s h (frame m f)) ≡ None
  none_chosen = ap (selected_in g.settings k.claims.holders (messages_of r s h)) unsaid_here.silent

  nothing_said : said_in g.settings (spoken_of g.settings s h) (selected_in g.settings k.claims.holders (messages_of r s h) (done r s h (frame m f))) ≡ []
  nothing_said = ap (said_in g.settings (spoken_of g.settings s h)) none_chosen

  abbrev claim_here : Step
  claim_here = let t = claim_takes g.settings.name g x in
      record t { told = reported (plain_reports g.settings.name meanings.address_claim parts f.held) ++ t.told }

  pub claim_handled : IsHandled o g.settings s h (frame m f) g.addresses claim_here
  claim_handled = record {
    stands = record {
      settings = refl;
      addresses = addresses_stand o s h m f g orders are is stands true claims;
      moment = stands.moment;
      fast = fast_left;
      sessions = sessions_left;
      said = said_left;
      network = (other_entries_stand_net o.groups g.settings s h m g.network stands.network).frames m f;
    };
    emits = three (ap reported breaks) gives (sym nothing_said);
    selected = sym (ap is_some none_chosen);
    complete = sym (ap (option_map complete_of) unsaid_here.silent);
  }
