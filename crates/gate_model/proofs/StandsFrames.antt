-- What a frame from the bus that is no claim makes of what a gateway keeps stands for the history with it, and is what the history says.
use Rattle.std.proofs.Common.{◌≡◌, ℕ, Bool, true, false, ◌&&◌, not, List, [], ◌∷◌, length, refl, sym, ap, subst, ◌∙◌, ◌==◌, nat_le}
use Rattle.std.proofs.lemmas.Bool.{and_parts}
use Rattle.std.specs.Prelude.{Option, Some, None, is_some, option_map, if◌then◌else◌}
use Rattle.n2k_id.specs.Frame.{BusFrame}
use Rattle.readings.specs.declared.reading.Reading.{Reading}
use Rattle.n2k_id.specs.Identifier.{parts_of}
use Rattle.n2k_id.specs.declared.identifier_parts.Parts.{Parts}
use Rattle.gate_events.specs.declared.emit.Report.{Report}
use Rattle.claim_table.specs.Claims.{holder_at, is_ready}
use Rattle.slot_views.specs.Slots.{SlotMap}
use Rattle.fast_packet.specs.declared.key.FastKey.{FastKey}
use Rattle.iso_transport.specs.declared.key.IsoKey.{IsoKey}
use Rattle.n2k_id.specs.Pgns as pgns
use Rattle.history.specs.Settings.{Settings, Receiver, receiver_of}
use Rattle.history.specs.Entries.{Entry, History, IsHistory, frame, moment_of}
use Rattle.history.specs.Known.{Known, known, is_claim}
use Rattle.history.specs.Meanings as meanings
use Rattle.history.specs.Meanings.{Meaning, is_address_claim, is_of_session, is_of_fast_packet}
use Rattle.history.specs.Messages.{Carried, done, messages_of, said_by}
use Rattle.gate_events.specs.Emit.{Emit}
use Rattle.history.specs.Emits.{reported, replied, is_there, Spoken}
use Rattle.history.specs.FromBus.{meaning_at, frame_refused, answers_by, selected_in, said_in}
use Rattle.history.specs.Gate as gate
use Rattle.history.specs.Gate.{spoken_of}
use Rattle.history.specs.AddressLaws.{IsReceiver, AreSettings}
use Rattle.history.proofs.Receivers.{gateways_receive}
use Rattle.gate_model.specs.Addresses.{AddressesKept, counted, claimed, changes_after, plain_reports, plain_done}
use Rattle.gate_model.specs.AddressStands.{StandsAddresses, TellsAlike, FrameIsTold}
use Rattle.gate_model.specs.FastPackets.{fast_step}
use Rattle.gate_model.specs.FastLaws.{StandsFastFor}
use Rattle.gate_model.specs.Sessions.{session_step}
use Rattle.gate_model.specs.SessionLaws.{StandsFor}
use Rattle.gate_model.specs.Said.{Complete, complete_of, complete_by, message_after, message_emits}
use Rattle.gate_model.specs.SaidStands.{SaidStandsFor}
use Rattle.gate_model.specs.Machine.{Compared, Machine, Step, gives, counted_in}
use Rattle.gate_model.specs.MachineSteps.{with_message, plain_frame, session_frame, fast_frame}
use Rattle.gate_model.specs.Stands.{AreOrders, StandsAt}
use Rattle.gate_model.proofs.AddressSteps.{entries_stand_addresses}
use Rattle.gate_model.proofs.AddressTells.{standing_tells_alike}
use Rattle.gate_model.proofs.AddressFrames.{frames_are_told}
use Rattle.gate_model.proofs.FastFrames.{frames_stand_fast}
use Rattle.gate_model.proofs.FastOthers.{others_leave_fast}
use Rattle.gate_model.proofs.SessionFrames.{session_frames_stand}
use Rattle.gate_model.proofs.SessionOthers.{others_leave_sessions}
use Rattle.gate_model.proofs.SaidMessages.{messages_stand_said}
use Rattle.gate_model.proofs.SaidTold.{messages_are_told}
use Rattle.gate_model.proofs.NetItems.{other_entries_stand_net}
use Rattle.gate_model.proofs.StandsTimes.{three}

-- what an entry makes of what is kept where nothing is overdue, and what it gives by itself
module _ (o : Compared) (c : Settings) (s : ℕ) (h : History) (e : Entry) (addresses : AddressesKept) (x : Step) where
  pub record IsHandled : Type 0 where
    pub stands : StandsAt o c s (e ∷ h) (moment_of e) (counted_in (changes_after addresses e) x.after)
    pub emits : gives x ≡ gate.handled c s h e
    pub selected : let r = receiver_of c in
        is_there x.posted ≡ is_some (selected_in c (known r s h).claims.holders (messages_of r s h) (done r s h e))
    pub complete : x.complete ≡ option_map complete_of (done (receiver_of c) s h e)

-- a datagram is there where a message is selected
said_there : (c : Settings) (before : List Spoken) (r : Option Reading) → is_there (said_in c before r) ≡ is_some r
said_there c before None = refl
said_there c before (Some r) = refl

-- ---- a claim is one by what a frame is to the gateway

pub claims_meant : (r : Receiver) (s : ℕ) (h : History) (m : ℕ) (f : BusFrame) → is_claim f ≡ true → meaning_at r s h m f ≡ meanings.address_claim
claims_meant r s h m f claims =
    let p = parts_of f.id in
    let is : (p.pgn == pgns.address_claimed) ≡ true =
    (and_parts (p.pgn == pgns.address_claimed) (nat_le 8 (length f.held) && not (p.source == 255)) claims).0 in rw is refl

pub not_claimed : (r : Receiver) (s : ℕ) (h : History) (m : ℕ) (f : BusFrame) → is_address_claim (meaning_at r s h m f) ≡ false → is_claim f ≡ false
not_claimed r s h m f none = by (is_claim f) refl
  where
    by : (b : Bool) → is_claim f ≡ b → b ≡ false
    by false e = refl
    by true e = ap is_address_claim (sym (claims_meant r s h m f e)) ∙ none

module _ (o : Compared) (s : ℕ) (h : History) (m : ℕ) (f : BusFrame) (g : Machine) (orders : AreOrders o) (are : AreSettings g.settings)
    (is : IsHistory (frame m f ∷ h)) (stands : StandsAt o g.settings s h m g) where
  abbrev r : Receiver
  r = receiver_of g.settings

  abbrev k : Known
  k = known r s h

  abbrev parts : Parts
  parts = parts_of f.id

  abbrev Handled : Step → Type 0
  Handled x = IsHandled o g.settings s h (frame m f) g.addresses x

  able : IsReceiver r
  able = gateways_receive g.settings are

  alike : TellsAlike g.addresses.claims k.claims
  alike = standing_tells_alike r s h g.addresses stands.addresses

  abbrev counted_addresses : Bool → AddressesKept
  counted_addresses b = record {
    claims = if b then (claimed g.addresses m f).after else g.addresses.claims;
    count = counted g.addresses.count;
    changed = changes_after g.addresses (frame m f);
  }

  pub addresses_stand : (b : Bool) → is_claim f ≡ b → StandsAddresses r s (frame m f ∷ h) (counted_addresses b)
  addresses_stand b e =
      subst (λ (b : Bool). StandsAddresses r s (frame m f ∷ h) (counted_addresses b)) e
      (entries_stand_addresses r s h (frame m f) g.addresses stands.addresses)

  -- ---- by the message that it completes, or none

  message_handled : (fast : SlotMap FastKey) (sessions : SlotMap IsoKey) (reports : List Report) (replies : List Emit) (d : Option Complete)
      → is_claim f ≡ false
      → StandsFastFor o.fast r s (frame m f ∷ h) m fast → StandsFor o.sessions r s (frame m f ∷ h) m sessions
      → reports ≡ frame_refused r s h m f
      → replies ≡ answers_by r s h m f (meaning_at r s h m f)
      → d ≡ option_map complete_of (done r s h (frame m f))
      → Handled (with_message (record g { fast = fast; sessions = sessions }) reports replies d)
  message_handled fast sessions reports replies d other fast_stands session_stands reports_are replies_are d_is =
      let said = messages_stand_said g.settings s h m f g.said are other stands.said in
      let posts = ap (λ (d : Option Complete). message_emits g.settings g.said d) d_is ∙ said.gives in
      record {
        stands = record {
          settings = refl;
          addresses = addresses_stand false other;
          moment = stands.moment;
          fast = fast_stands;
          sessions = session_stands;
          said = subst (λ (d : Option Complete). SaidStandsFor g.settings s (frame m f ∷ h) (message_after g.settings g.said d)) (sym d_is) said.stands;
          network = (other_entries_stand_net o.groups g.settings s h m g.network stands.network).frames m f;
        };
        emits = three (ap reported reports_are) replies_are posts;
        selected = ap is_there posts ∙ said_there g.settings (spoken_of g.settings s h) _;
        complete = d_is;
      }

  -- what a frame completes of the holder of its source
  completes : (what : Option Carried) → done r s h (frame m f) ≡ said_by (length h) m parts.source (holder_at k.claims.holders parts.source) what
      → complete_by m parts.source (holder_at g.addresses.claims.holders parts.source) what ≡ option_map complete_of (done r s h (frame m f))
  completes what e =
      sym (ap (option_map complete_of) (e ∙ sym (alike.said (length h) m parts.source what))
      ∙ (messages_are_told g.settings s).complete (length h) m parts.source (holder_at g.addresses.claims.holders parts.source) what)

  -- ---- a frame that is neither of a fast packet nor of a session

  pub plain_handled : (meaning : Meaning) → meaning_at r s h m f ≡ meaning → is_of_session meaning ≡ false → is_of_fast_packet meaning ≡ false
      → is_claim f ≡ false
      → (answers : List Emit) → answers ≡ answers_by r s h m f meaning → Handled (plain_frame o g m f meaning answers)
  plain_handled meaning is_meant no_session no_fast other answers given =
      let a : is_of_session (meaning_at r s h m f) ≡ false = ap is_of_session is_meant ∙ no_session in
      let b : is_of_fast_packet (meaning_at r s h m f) ≡ false = ap is_of_fast_packet is_meant ∙ no_fast in
      let told : FrameIsTold r s h m f g.addresses = frames_are_told r s h m f g.addresses able stands.addresses a b in
      message_handled g.fast g.sessions (plain_reports g.settings.name meaning parts f.held) answers
      (complete_by m parts.source (holder_at g.addresses.claims.holders parts.source) (plain_done meaning parts f.held)) other
      (others_leave_fast o.fast r s h m m f g.fast able other b stands.fast)
      (others_leave_sessions o.sessions r s h m m f g.sessions able other a stands.sessions)
      (sym (told.reports ∙ ap (λ (x : Meaning). plain_reports g.settings.name x parts f.held) (told.meaning ∙ is_meant)))
      (given ∙ ap (answers_by r s h m f) (sym is_meant))
      (completes (plain_done meaning parts f.held)
      (told.completed
      ∙ (alike.said (length h) m parts.source _
      ∙ ap (λ (x : Meaning). said_by (length h) m parts.source (holder_at k.claims.holders parts.source) (plain_done x parts f.held))
      (told.meaning ∙ is_meant))))

  -- ---- a frame of a fast packet

  pub fast_handled : meaning_at r s h m f ≡ meanings.fast_packet → Handled (fast_frame o g m f)
  fast_handled is_meant =
      let law = frames_stand_fast o.fast orders.fast r s h m f g.fast able is is_meant stands.fast in
      let other : is_claim f ≡ false = not_claimed r s h m f (ap is_address_claim is_meant) in
      let x = fast_step o.fast g.fast parts f.held m in
      message_handled x.slots g.sessions x.reports []
      (complete_by m parts.source (holder_at g.addresses.claims.holders parts.source) x.done) other law.stands
      (others_leave_sessions o.sessions r s h m m f g.sessions able other (ap is_of_session is_meant) stands.sessions)
      (sym law.reports) (ap (answers_by r s h m f) (sym is_meant)) (completes x.done law.completed)

  -- ---- a frame of a session

  abbrev by_own : Option ℕ → Bool → Step
  by_own own ready = let x = session_step o.sessions g.sessions own parts f.held m ready in
      with_message (record g { sessions = x.slots }) x.reports (replied own parts.source x.reply)
      (complete_by m parts.source (holder_at g.addresses.claims.holders parts.source) x.done)

  by_known : meaning_at r s h m f ≡ meanings.transport → Handled (by_own k.claims.own (is_ready k.claims m))
  by_known is_meant =
      let law = session_frames_stand o.sessions orders.sessions r s h m f g.sessions able is is_meant stands.sessions in
      let other : is_claim f ≡ false = not_claimed r s h m f (ap is_address_claim is_meant) in
      let x = session_step o.sessions g.sessions k.claims.own parts f.held m (is_ready k.claims m) in
      message_handled g.fast x.slots x.reports (replied k.claims.own parts.source x.reply)
      (complete_by m parts.source (holder_at g.addresses.claims.holders parts.source) x.done) other
      (others_leave_fast o.fast r s h m m f g.fast able other (ap is_of_fast_packet is_meant) stands.fast)
      law.stands (sym law.reports) (sym (ap (answers_by r s h m f) is_meant ∙ law.reply)) (completes x.done law.completed)

  pub session_handled : meaning_at r s h m f ≡ meanings.transport → Handled (session_frame o g m f)
  session_handled is_meant =
      subst (λ (own : Option ℕ). Handled (by_own own (is_ready g.addresses.claims m))) (sym alike.own)
      (subst (λ (ready : Bool). Handled (by_own k.claims.own ready)) (sym (alike.ready m)) (by_known is_meant))
