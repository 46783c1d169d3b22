-- A frame leaves a listener that stands for the history with it, tells what the definition over that history says, and gives the message that
-- it says is complete.
use Rattle.std.proofs.Common.{◌≡◌, ℕ, Bool, true, false, ◌&&◌, ◌==◌, List, [], ◌∷◌, ◌++◌, length, Option, Some, None, option_map, is_some, if◌then◌else◌, refl, sym, ap, subst, ◌∙◌}
use Rattle.n2k_id.specs.Frame.{BusFrame}
use Rattle.n2k_id.specs.Identifier.{parts_of}
use Rattle.n2k_id.specs.declared.identifier_parts.Parts.{Parts}
use Rattle.report_rules.specs.Rules as rules
use Rattle.gate_events.specs.declared.emit.Report.{Report}
use Rattle.gate_events.specs.Emit.{Emit}
use Rattle.claim_table.specs.Claims.{claim, holder_at}
use Rattle.claim_table.specs.declared.answer.Holder.{Holder}
use Rattle.claim_table.specs.declared.answer.ClaimStep.{ClaimStep}
use Rattle.slot_views.specs.Slots.{SlotMap}
use Rattle.fast_packet.specs.declared.key.FastKey.{FastKey}
use Rattle.pgn_profile.specs.declared.kinds.Kind.{Kind}
use Rattle.pgn_profile.specs.declared.kinds.Kind.TheVariants.{Single, Fast, Outside}
use Rattle.history.specs.AddressLaws.{AreSettings, IsReceiver}
use Rattle.history.specs.Entries as entry
use Rattle.history.specs.Entries.{Entry, History, IsHistory}
use Rattle.history.specs.Emits.{of_source, reported}
use Rattle.history.specs.Known.{known, is_claim, claim_by, address_left, address_won}
use Rattle.history.specs.Meanings.{by_kind, from_nobody, is_of_fast_packet, single}
use Rattle.history.specs.Messages.{Message, carried, done, said_by}
use Rattle.history.specs.FromBus.{frame_refused, meaning_at}
use Rattle.history.specs.Settings.{Receiver, Settings}
use Rattle.gate_model.specs.Addresses.{AddressesKept, Changed, changed_by, no_change}
use Rattle.gate_model.specs.AddressStands.{StandsAddresses, TellsAlike, name_held}
use Rattle.gate_model.specs.FastLaws.{FastFramesStand, GivesUpFast, StandsFastFor}
use Rattle.gate_model.specs.FastPackets.{FastAnswer}
use Rattle.gate_model.specs.Said.{complete_of}
use Rattle.gate_model.proofs.AddressTells.{standing_tells_alike}
use Rattle.gate_model.proofs.FastFrames.{frames_stand_fast}
use Rattle.gate_model.proofs.FastLosses.{claims_give_up_fast}
use Rattle.gate_model.proofs.FastOthers.{others_leave_fast}
use Rattle.gate_model.proofs.KeyOrders.{fast_in_order}
use Rattle.gate_model.proofs.StandsTimes.{joined}
use Rattle.gate_core.specs.Steps.{by_keys}
use Rattle.bus_listener.specs.Heard.{claim_loses, heard_done, heard_refused, hears, is_heard, listener, step_loses}
use Rattle.bus_listener.specs.Kept.{Hearing, answer_here, behind, complete_from, framed, given_up, heard, lost, no_message, taken_as, taken_from, unclaimed_told}
use Rattle.bus_listener.specs.Kinds.{AreHeard, is_message, is_told}
use Rattle.bus_listener.proofs.FrameLemmas.{nobody_done, nobody_refused, single_done, single_refused}
use Rattle.bus_listener.proofs.KindLemmas.{claim_unheard, heard_is, message_comes, none_short, not_heard, reports_are}
use Rattle.bus_listener.proofs.KnownLemmas.{is_receiver}

-- a message of a holder, without the entry by which it was complete
message_said : (index m : ℕ) (p : Parts) (x : Holder) (payload : Option (List ℕ))
    → option_map complete_of (said_by index m p.source (Some x) (option_map (λ b. carried p.pgn b) payload)) ≡ option_map (complete_from m p x.name) payload
message_said index m p x None = refl
message_said index m p x (Some b) = refl

-- a claim's PGN
claim_pgn : (b d : Bool) → (b && d) ≡ true → b ≡ true
claim_pgn true d e = refl
claim_pgn false d e = cc

module _ (kinds : ℕ → Kind) (are : AreHeard kinds) (limit : ℕ) (c : Settings) (s : ℕ) (h : History) (m : ℕ) (f : BusFrame) (settings : AreSettings c)
    (could : IsHistory (entry.frame m f ∷ h)) where
  abbrev r : Receiver
  r = listener kinds limit c

  abbrev p : Parts
  p = parts_of f.id

  abbrev e : Entry
  e = entry.frame m f

  abbrev holders : List (Option Holder)
  holders = (known r s h).claims.holders

  receives : IsReceiver r
  receives = is_receiver kinds limit c are settings

  abbrev Stood : SlotMap FastKey → Type 0
  Stood slots = StandsFastFor by_keys.fast r s h m slots

  abbrev is_here : Bool
  is_here = hears kinds limit c s h f

  abbrev refused : List Report
  refused = heard_refused kinds limit c s h m f

  abbrev completed : Option Message
  completed = heard_done kinds limit c s h e

  abbrev losses : List Emit
  losses = claim_loses kinds limit c s h m f

  -- what a frame leaves, when time has passed, and what it gives
  pub record Taken (x : Hearing) : Type 0 where
    pub stands : StandsFastFor by_keys.fast r s (e ∷ h) m x.slots
    pub told : x.told ≡ losses ++ reported refused
    pub message : x.message ≡ option_map complete_of completed

  -- ---- the definition, by what the frame is

  unheard_done : is_here ≡ false → completed ≡ None
  unheard_done unheard = rw unheard refl

  unheard_refused : is_here ≡ false → refused ≡ []
  unheard_refused unheard = rw unheard refl

  refused_by : {b t : Bool} → is_here ≡ b → is_told p.pgn ≡ t → refused ≡ (if b && t then frame_refused r s h m f else [])
  refused_by here told = rw (here, told) refl

  heard_completes : is_here ≡ true → completed ≡ done r s h e
  heard_completes hearing = rw hearing refl

  loses_nothing : is_claim f ≡ false → losses ≡ []
  loses_nothing unclaimed = rw unclaimed refl

  -- ---- a claim

  module _ (slots : SlotMap FastKey) (it : Stood slots) (claims : is_claim f ≡ true) where
    abbrev step : ClaimStep
    step = (claim (known r s h).claims (claim_by (length h) m f)).step

    gives_up : GivesUpFast by_keys.fast r s h e m slots (address_left step) (address_won step)
    gives_up = claims_give_up_fast by_keys.fast fast_in_order r s h m f slots receives claims it

    unheard : is_here ≡ false
    unheard = claim_unheard kinds are (known r s h).claims.own p (claim_pgn (p.pgn == 60928) _ claims)

    losses_are : losses ≡ step_loses kinds limit c s h e m step
    losses_are = rw claims refl

    lost_is : lost (changed_by step) slots ≡ losses
    lost_is = joined gives_up.left_told gives_up.won_told ∙ sym losses_are

    from_claim : Taken (behind (lost (changed_by step) slots) (no_message (given_up (changed_by step) slots)))
    from_claim = record {
      stands = gives_up.stands;
      told = joined lost_is (sym (ap reported (unheard_refused unheard)));
      message = sym (ap (option_map complete_of) (unheard_done unheard));
    }

  -- ---- a frame that is no claim

  module _ (slots : SlotMap FastKey) (it : Stood slots) (unclaimed : is_claim f ≡ false) where
    -- it tells the rules that it breaks
    tells : {told : List Emit} → told ≡ reported refused → told ≡ losses ++ reported refused
    tells is = is ∙ sym (ap (λ before. before ++ reported refused) (loses_nothing unclaimed))

    other_stands : is_of_fast_packet (meaning_at r s h m f) ≡ false → StandsFastFor by_keys.fast r s (e ∷ h) m slots
    other_stands other = others_leave_fast by_keys.fast r s h m m f slots receives unclaimed other it

    -- that isn't heard
    passed : is_here ≡ false → Taken (no_message slots)
    passed unheard = record {
      stands = other_stands (not_heard kinds (known r s h).claims.own holders p unheard);
      told = tells (sym (ap reported (unheard_refused unheard)));
      message = sym (ap (option_map complete_of) (unheard_done unheard));
    }

    module _ (hearing : is_here ≡ true) where
      means : meaning_at r s h m f ≡ by_kind (kinds p.pgn) (is_some (holder_at holders p.source))
      means = heard_is kinds (known r s h).claims.own holders p are hearing

      comes : is_message (kinds p.pgn) ≡ true
      comes = message_comes kinds (known r s h).claims.own holders p hearing

      -- from an address that nobody holds
      nobody_means : (kind : Kind) → is_message kind ≡ true → by_kind kind false ≡ from_nobody
      nobody_means Single is = refl
      nobody_means Fast is = refl
      nobody_means Outside is = cc

      abbrev tells_it : Bool → List Emit
      tells_it b = if b then of_source rules.unclaimed p.source p.pgn ∷ [] else []

      from_none : is_some (holder_at holders p.source) ≡ false → Taken (taken_from by_keys.fast slots p f.held m (kinds p.pgn) None)
      from_none free =
          let is : meaning_at r s h m f ≡ from_nobody = means ∙ (ap (by_kind (kinds p.pgn)) free ∙ nobody_means (kinds p.pgn) comes) in
          record {
            stands = other_stands (ap is_of_fast_packet is);
            told = tells (unclaimed_is is (is_told p.pgn) refl);
            message = sym (ap (option_map complete_of) (heard_completes hearing ∙ nobody_done r s h m f receives is));
          }
        where
          unclaimed_is : meaning_at r s h m f ≡ from_nobody → (t : Bool) → is_told p.pgn ≡ t → unclaimed_told p ≡ reported refused
          unclaimed_is is true told = ap tells_it told ∙ sym (ap reported (refused_by hearing told ∙ nobody_refused r s h m f receives is))
          unclaimed_is is false told = ap tells_it told ∙ sym (ap reported (refused_by hearing told))

      -- from an address that somebody holds
      module _ (x : Holder) (held : holder_at holders p.source ≡ Some x) where
        held_means : meaning_at r s h m f ≡ by_kind (kinds p.pgn) true
        held_means = means ∙ ap (λ o. by_kind (kinds p.pgn) (is_some o)) held

        message_is : (payload : Option (List ℕ)) → done r s h e ≡ said_by (length h) m p.source (holder_at holders p.source) (option_map (λ b. carried p.pgn b) payload)
            → option_map (complete_from m p x.name) payload ≡ option_map complete_of completed
        message_is payload is =
            sym (message_said (length h) m p x payload)
            ∙ ap (option_map complete_of)
            (ap (λ o. said_by (length h) m p.source o (option_map (λ b. carried p.pgn b) payload)) (sym held) ∙ (sym is ∙ sym (heard_completes hearing)))

        -- a message by itself
        by_itself : kinds p.pgn ≡ Single → Taken (taken_as by_keys.fast slots p f.held m Single x.name)
        by_itself comes_so =
            let is : meaning_at r s h m f ≡ single = held_means ∙ ap (λ kind. by_kind kind true) comes_so in
            record {
              stands = other_stands (ap is_of_fast_packet is);
              told = tells (nothing_is is (is_told p.pgn) refl);
              message = message_is (Some f.held) (single_done r s h m f receives is);
            }
          where
            nothing_is : meaning_at r s h m f ≡ single → (t : Bool) → is_told p.pgn ≡ t → [] ≡ reported refused
            nothing_is is true told =
                sym (ap reported (refused_by hearing told ∙ (single_refused r s h m f receives is ∙ none_short p.source p.pgn told (Some f.held))))
            nothing_is is false told = sym (ap reported (refused_by hearing told))

        -- of a fast packet
        module _ (comes_so : kinds p.pgn ≡ Fast) where
          abbrev answer : FastAnswer
          answer = answer_here by_keys.fast slots p f.held m

          told_here : is_told p.pgn ≡ true
          told_here = are.assembled p.pgn comes_so

          stand : FastFramesStand by_keys.fast r s h m f slots
          stand = frames_stand_fast by_keys.fast fast_in_order r s h m f slots receives could (held_means ∙ ap (λ kind. by_kind kind true) comes_so) it

          of_packet : Taken (taken_as by_keys.fast slots p f.held m Fast x.name)
          of_packet = record {
            stands = stand.stands;
            told = tells (ap reported (sym (refused_by hearing told_here ∙ (stand.reports ∙ reports_are p answer told_here))));
            message = message_is answer.payload stand.completed;
          }

        by_coming : (kind : Kind) → kinds p.pgn ≡ kind → Taken (taken_as by_keys.fast slots p f.held m kind x.name)
        by_coming Single so = by_itself so
        by_coming Fast so = of_packet so
        by_coming Outside so = let none : is_message Outside ≡ true = ap is_message (sym so) ∙ comes in cc

  -- ---- any frame, by what the gateway keeps of the addresses after it

  module _ (g : AddressesKept) (gs : StandsAddresses r s (e ∷ h) g) (slots : SlotMap FastKey) (it : Stood slots) where
    told : TellsAlike g.claims (known r s (e ∷ h)).claims
    told = standing_tells_alike r s (e ∷ h) g gs

    by_holder : (unclaimed : is_claim f ≡ false) → is_here ≡ true → (o : Option Holder) → holder_at holders p.source ≡ o
        → Taken (taken_from by_keys.fast slots p f.held m (kinds p.pgn) (option_map (λ x. x.name) o))
    by_holder unclaimed hearing None free = from_none slots it unclaimed hearing (ap is_some free)
    by_holder unclaimed hearing (Some x) held = by_coming slots it unclaimed hearing x held (kinds p.pgn) refl

    by_hearing : (unclaimed : is_claim f ≡ false) (b : Bool) → is_here ≡ b
        → Taken (if b then taken_from by_keys.fast slots p f.held m (kinds p.pgn) (name_held holders p.source) else no_message slots)
    by_hearing unclaimed true hearing = by_holder unclaimed hearing (holder_at holders p.source) refl
    by_hearing unclaimed false unheard = passed slots it unclaimed unheard

    hears_is : known r s (e ∷ h) ≡ known r s h → is_heard kinds g.claims.own p ≡ is_here
    hears_is same = ap (λ o. is_heard kinds o p) (told.own ∙ ap (λ w. w.claims.own) same)

    -- with these addresses that changed hands
    abbrev framed_with : Changed → Hearing
    framed_with changed = behind (lost changed slots) (heard by_keys.fast kinds g (given_up changed slots) p f.held m)

    by_claim : (b : Bool) → is_claim f ≡ b → Taken (framed by_keys.fast kinds g slots m f)
    by_claim true claims =
        let changed : g.changed ≡ changed_by (step slots it claims) = rw claims at gs.changed in
        subst (λ changed. Taken (framed_with changed)) (sym changed)
        (rw (claim_unheard kinds are g.claims.own p (claim_pgn (p.pgn == 60928) _ claims)) (from_claim slots it claims))
    by_claim false unclaimed =
        let changed : g.changed ≡ no_change = rw unclaimed at gs.changed in
        let same : known r s (e ∷ h) ≡ known r s h = rw unclaimed refl in
        subst (λ changed. Taken (framed_with changed)) (sym changed)
        (rw (hears_is same, told.names p.source, unclaimed) (by_hearing unclaimed is_here refl))

    pub frame_taken : Taken (framed by_keys.fast kinds g slots m f)
    frame_taken = by_claim (is_claim f) refl
