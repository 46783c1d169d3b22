-- What each entry makes of what a gateway keeps stands for the history with it, and is what the history says.
use Rattle.std.proofs.Common.{◌≡◌, ℕ, ◌≤◌, Bool, true, false, List, [], ◌∷◌, ◌++◌, append-nil, append_assoc, length, refl, sym, ap, subst, ◌∙◌, arith}
use Rattle.std.specs.Prelude.{Option, None, if◌then◌else◌}
use Rattle.n2k_id.specs.Frame.{BusFrame}
use Rattle.n2k_id.specs.Identifier.{parts_of}
use Rattle.claim_table.specs.Claims.{command, is_obeyed, is_ready}
use Rattle.pgn_profile.specs.Profiled.{kind_of}
use Rattle.datagram450.specs.Datagram as datagrams
use Rattle.history.specs.Settings.{Settings, Receiver, receiver_of}
use Rattle.history.specs.Entries as entry
use Rattle.history.specs.Entries.{Entry, History, IsHistory, moment_of, now}
use Rattle.history.specs.Known.{Known, known, is_claim}
use Rattle.history.specs.Opens.{notes_of}
use Rattle.history.specs.Meanings as meanings
use Rattle.history.specs.Meanings.{Meaning}
use Rattle.gate_events.specs.Emit.{Emit}
use Rattle.history.specs.Emits.{own_claim, reported}
use Rattle.history.specs.FromBus.{meaning_at, answers_by, command_gives, request_gives}
use Rattle.history.specs.Gate as gate
use Rattle.history.specs.AddressLaws.{IsReceiver, AreSettings}
use Rattle.history.proofs.Receivers.{gateways_receive}
use Rattle.gate_model.specs.Addresses.{no_change}
use Rattle.gate_model.specs.AddressStands.{TellsAlike, CommandIsTold}
use Rattle.gate_model.specs.NetLines.{datagram_after, datagram_emits}
use Rattle.gate_model.specs.Sessions.{lost_addressed, without_addressed}
use Rattle.gate_model.specs.SessionLaws.{StandsFor, GivesUp, is_moved}
use Rattle.gate_model.specs.Machine.{Compared, Machine, Step, later, overdue, counted_in}
use Rattle.gate_model.specs.MachineSteps.{plain_frame, claim_frame, frame_step, frame_here, datagram_here, command_here, handled, entered, commanded}
use Rattle.gate_model.specs.Stands.{AreOrders, StandsAt, Stands}
use Rattle.gate_model.specs.StandsLaws.{IsStepOf, EntriesStand, CommandsStand, TooEarlyIsTold}
use Rattle.gate_model.proofs.AddressSteps.{entries_stand_addresses}
use Rattle.gate_model.proofs.AddressTells.{standing_tells_alike, commands_are_told}
use Rattle.gate_model.proofs.FastLosses.{commands_leave_fast}
use Rattle.gate_model.proofs.FastOthers.{datagrams_leave_fast, ticks_leave_fast}
use Rattle.gate_model.proofs.SessionLosses.{commands_give_up}
use Rattle.gate_model.proofs.SessionMoves.{commands_tell_moves}
use Rattle.gate_model.proofs.SessionOthers.{datagrams_leave_sessions, ticks_leave_sessions}
use Rattle.gate_model.proofs.SaidClaims.{other_entries_stand_said}
use Rattle.gate_model.proofs.NetItems.{datagrams_stand_net, other_entries_stand_net}
use Rattle.gate_model.proofs.StandsTimes.{joined, time_stands, none_expires}
use Rattle.gate_model.proofs.StandsFrames.{IsHandled, not_claimed, plain_handled, fast_handled, session_handled}
use Rattle.gate_model.proofs.StandsClaims.{claim_handled}

nothing_posted : (a : List Emit) {x : List Emit} → a ≡ x → a ++ [] ≡ x
nothing_posted a told = append-nil a ∙ told

module _ (o : Compared) (s : ℕ) (h : History) (g : Machine) (orders : AreOrders o) (are : AreSettings g.settings) where
  abbrev r : Receiver
  r = receiver_of g.settings

  abbrev k : Known
  k = known r s h

  able : IsReceiver r
  able = gateways_receive g.settings are

  -- ---- a frame, by what it is

  module _ (m : ℕ) (f : BusFrame) (is : IsHistory (entry.frame m f ∷ h)) (stands : StandsAt o g.settings s h m g) where
    abbrev Handled : Step → Type 0
    Handled x = IsHandled o g.settings s h (entry.frame m f) g.addresses x

    of_claims : meaning_at r s h m f ≡ meanings.address_claim → Handled (claim_frame o g m f)
    of_claims e = by (is_claim f) refl
      where
        by : (b : Bool) → is_claim f ≡ b → Handled (claim_frame o g m f)
        by true claims = rw claims (claim_handled o s h m f g orders are is stands claims)
        by false other =
            rw other (plain_handled o s h m f g orders are is stands meanings.address_claim e refl refl other [] (rw other refl))

    plain : (meaning : Meaning) → meaning_at r s h m f ≡ meaning → meanings.is_of_session meaning ≡ false → meanings.is_of_fast_packet meaning ≡ false
        → meanings.is_address_claim meaning ≡ false
        → (answers : List Emit) → answers ≡ answers_by r s h m f meaning → Handled (plain_frame o g m f meaning answers)
    plain meaning e no_session no_fast no_claim answers given =
        plain_handled o s h m f g orders are is stands meaning e no_session no_fast
        (not_claimed r s h m f (ap meanings.is_address_claim e ∙ no_claim)) answers given

    by_meaning : (meaning : Meaning) → meaning_at r s h m f ≡ meaning → Handled (frame_step o g m f meaning)
    by_meaning meanings.address_claim e = of_claims e
    by_meaning meanings.own_source e = plain meanings.own_source e refl refl refl [] refl
    by_meaning meanings.request e =
        plain meanings.request e refl refl refl (request_gives g.settings.name g.addresses.claims.own f.held)
        (ap (λ (own : Option ℕ). request_gives g.settings.name own f.held) (standing_tells_alike r s h g.addresses stands.addresses).own)
    by_meaning meanings.from_nobody e = plain meanings.from_nobody e refl refl refl [] refl
    by_meaning meanings.transport e = session_handled o s h m f g orders are is stands e
    by_meaning meanings.single e = plain meanings.single e refl refl refl [] refl
    by_meaning meanings.fast_packet e = fast_handled o s h m f g orders are is stands e
    by_meaning meanings.passed e = plain meanings.passed e refl refl refl [] refl

    frame_handled : Handled (frame_here o g m f)
    frame_handled =
        subst (λ (meaning : Meaning). Handled (frame_step o g m f meaning))
        (sym ((standing_tells_alike r s h g.addresses stands.addresses).meaning kind_of (parts_of f.id)))
        (by_meaning (meaning_at r s h m f) refl)

  -- ---- a datagram

  module _ (m : ℕ) (bytes : List ℕ) (stands : StandsAt o g.settings s h m g) where
    abbrev datagram_by : Option ℕ → Bool → Step
    datagram_by own ready = record {
      after = record g { network = datagram_after o.groups g.settings m ready g.network (datagrams.read bytes) };
      told = datagram_emits o.groups g.settings m ready own g.network (datagrams.read bytes);
      posted = [];
      complete = None;
    }

    datagram_known : IsHandled o g.settings s h (entry.datagram m bytes) g.addresses (datagram_by k.claims.own (is_ready k.claims m))
    datagram_known =
        let law = datagrams_stand_net o.groups g.settings s h m bytes g.network orders.groups stands.network in
        record {
          stands = record {
            settings = refl;
            addresses = entries_stand_addresses r s h (entry.datagram m bytes) g.addresses stands.addresses;
            moment = stands.moment;
            fast = datagrams_leave_fast o.fast r s h m m bytes g.fast stands.fast;
            sessions = datagrams_leave_sessions o.sessions r s h m m bytes g.sessions stands.sessions;
            said = (other_entries_stand_said g.settings s h g.said stands.said).datagrams m bytes;
            network = law.stands;
          };
          emits = nothing_posted (datagram_by k.claims.own (is_ready k.claims m)).told law.gives;
          selected = refl;
          complete = refl;
        }

    datagram_handled : IsHandled o g.settings s h (entry.datagram m bytes) g.addresses (datagram_here o g m bytes)
    datagram_handled =
        let alike : TellsAlike g.addresses.claims k.claims = standing_tells_alike r s h g.addresses stands.addresses in
        subst (λ (own : Option ℕ). IsHandled o g.settings s h (entry.datagram m bytes) g.addresses (datagram_by own (is_ready g.addresses.claims m))) (sym alike.own)
        (subst (λ (ready : Bool). IsHandled o g.settings s h (entry.datagram m bytes) g.addresses (datagram_by k.claims.own ready)) (sym (alike.ready m))
        datagram_known)

  -- ---- a tick

  tick_handled : (m : ℕ) → StandsAt o g.settings s h m g → IsHandled o g.settings s h (entry.tick m) g.addresses (handled o g (entry.tick m))
  tick_handled m stands = record {
    stands = record {
      settings = refl;
      addresses = entries_stand_addresses r s h (entry.tick m) g.addresses stands.addresses;
      moment = stands.moment;
      fast = ticks_leave_fast o.fast r s h m m g.fast stands.fast;
      sessions = ticks_leave_sessions o.sessions r s h m m g.sessions stands.sessions;
      said = (other_entries_stand_said g.settings s h g.said stands.said).ticks m;
      network = (other_entries_stand_net o.groups g.settings s h m g.network stands.network).ticks m;
    };
    emits = refl;
    selected = refl;
    complete = refl;
  }

  -- ---- a command

  module _ (m source address : ℕ) (is : IsHistory h) (stands : StandsAt o g.settings s h m g) where
    abbrev after : Known
    after = known r s (entry.command m source address ∷ h)

    abbrev obeyed : Bool
    obeyed = is_obeyed g.addresses.claims address

    ends : GivesUp o.sessions r s h (entry.command m source address) m g.sessions None None
    ends = commands_give_up o.sessions orders.sessions r s h m source address g.sessions able is stands.sessions

    told : CommandIsTold r s h m source address g.addresses
    told = commands_are_told r s h m source address g.addresses stands.addresses

    moves : obeyed ≡ is_moved r s h (entry.command m source address)
    moves = told.obeyed ∙ sym (commands_tell_moves r s h m source address)

    abbrev command_by : Bool → Bool → Option ℕ → List Emit
    command_by obeys moved own = if obeys then lost_addressed moved g.sessions ++ own_claim g.settings.name own ∷ [] else []

    command_tells : command_by obeyed obeyed (command g.addresses.claims address m).own
        ≡ command_gives g.settings.name (length h) k (notes_of r s h) m source address
    command_tells =
        ap (λ (own : Option ℕ). command_by obeyed obeyed own) told.own
        ∙ (ap (λ (moved : Bool). command_by obeyed moved after.claims.own) moves
        ∙ (ap (λ (obeys : Bool). command_by obeys (is_moved r s h (entry.command m source address)) after.claims.own) told.obeyed
        ∙ ap (λ (lost : List Emit). if is_obeyed k.claims address then lost ++ own_claim g.settings.name after.claims.own ∷ [] else []) ends.elsewhere_told))

    command_handled : IsHandled o g.settings s h (entry.command m source address) g.addresses (command_here g m source address)
    command_handled = record {
      stands = record {
        settings = refl;
        addresses = entries_stand_addresses r s h (entry.command m source address) g.addresses stands.addresses;
        moment = stands.moment;
        fast = commands_leave_fast o.fast r s h m m source address g.fast able stands.fast;
        sessions =
            subst (λ (moved : Bool). StandsFor o.sessions r s (entry.command m source address ∷ h) m (without_addressed moved g.sessions)) (sym moves)
            ends.stands;
        said = (other_entries_stand_said g.settings s h g.said stands.said).commands m source address;
        network = (other_entries_stand_net o.groups g.settings s h m g.network stands.network).commands m source address;
      };
      emits = nothing_posted (command_here g m source address).told (joined (ap reported told.reports) command_tells);
      selected = refl;
      complete = refl;
    }

  -- ---- each entry

  entry_handled : (e : Entry) → IsHistory (e ∷ h) → StandsAt o g.settings s h (moment_of e) g → IsHandled o g.settings s h e g.addresses (handled o g e)
  entry_handled (entry.frame m f) is stands = frame_handled m f is stands
  entry_handled (entry.datagram m bytes) is stands = datagram_handled m bytes stands
  entry_handled (entry.tick m) is stands = tick_handled m stands
  entry_handled (entry.command m source address) is stands = command_handled m source address is.2 stands

-- no entry is earlier than the last one
pub timely : (h : History) (e : Entry) → IsHistory (e ∷ h) → now h ≤ moment_of e
timely h (entry.frame m f) is = is.1
timely h (entry.datagram m bytes) is = is.1
timely h (entry.tick m) is = is.1
timely h (entry.command m source address) is = let same = is.1 in omega (arith, same)

history_before : (h : History) (e : Entry) → IsHistory (e ∷ h) → IsHistory h
history_before h e is = is.2

module _ (o : Compared) (s : ℕ) (h : History) (g : Machine) (orders : AreOrders o) where
  entered_stands : (e : Entry) → IsHistory (e ∷ h) → AreSettings g.settings → Stands o g.settings s h g
      → IsStepOf o g.settings s h e (entered o g e)
  entered_stands e is are stands =
      let time = time_stands o g.settings s h (moment_of e) g orders are (history_before h e is) (timely h e is) stands in
      let done = entry_handled o s h (later (moment_of e) g) orders are e is time.stands in
      record {
        stands = done.stands;
        emits =
            append_assoc (overdue (moment_of e) g) (handled o (later (moment_of e) g) e).told (handled o (later (moment_of e) g) e).posted
            ∙ joined time.told done.emits;
        selected = done.selected;
        complete = done.complete;
      }

  -- a command comes at the moment of the last entry, when nothing is overdue
  module _ (source address : ℕ) where
    abbrev ordered : Entry
    ordered = entry.command (now h) source address

    -- what it makes at a moment, and gives
    abbrev commanded_at : ℕ → Step
    commanded_at m = let x = command_here g m source address in record x { after = counted_in no_change x.after }

    commanded_now : IsHistory (ordered ∷ h) → AreSettings g.settings → Stands o g.settings s h g → IsStepOf o g.settings s h ordered (commanded_at (now h))
    commanded_now is are stands =
        let done = entry_handled o s h g orders are ordered is stands in
        record {
          stands = done.stands;
          emits = done.emits ∙ ap (λ (emits : List Emit). emits ++ gate.handled g.settings s h ordered) (sym (none_expires g.settings s h));
          selected = done.selected;
          complete = done.complete;
        }

    commanded_stands : IsHistory (ordered ∷ h) → AreSettings g.settings → Stands o g.settings s h g
        → IsStepOf o g.settings s h ordered (commanded g source address)
    commanded_stands is are stands =
        subst (λ (m : ℕ). IsStepOf o g.settings s h ordered (commanded_at m)) (sym stands.moment) (commanded_now is are stands)

pub entries_stand : EntriesStand
entries_stand o c s h e g orders are is stands =
    subst (λ (c : Settings). AreSettings c → Stands o c s h g → IsStepOf o c s h e (entered o g e)) stands.settings
    (entered_stands o s h g orders e is) are stands

pub commands_stand : CommandsStand
commands_stand o c s h source address g orders are is stands =
    subst (λ (c : Settings). AreSettings c → Stands o c s h g → IsStepOf o c s h (entry.command (now h) source address) (commanded g source address))
    stands.settings (commanded_stands o s h g orders source address is) are stands

pub too_early_is_told : TooEarlyIsTold
too_early_is_told o c s h e g stands = rw stands.moment refl
