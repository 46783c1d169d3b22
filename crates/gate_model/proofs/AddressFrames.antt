-- What a frame gives that is neither of a fast packet nor of the transport protocol is told by what is kept of the addresses alone.
use Rattle.std.proofs.Common.{◌≡◌, ℕ, Bool, true, false, ◌||◌, List, ◌∷◌, ◌⊎◌, inl, inr, length, refl, sym, ap, subst, ◌∙◌, ◌==◌, is_some}
use Rattle.std.specs.Prelude.{Option, Some, None, if◌then◌else◌}
use Rattle.std.proofs.lemmas.Bool.{eqb-true, false≢true}
use Rattle.n2k_id.specs.Frame.{BusFrame}
use Rattle.n2k_id.specs.Identifier.{parts_of, is_own, is_to}
use Rattle.n2k_id.specs.declared.identifier_parts.Parts.{Parts}
use Rattle.claim_table.specs.declared.answer.Holder.{Holder}
use Rattle.claim_table.specs.Claims.{holder_at, is_at}
use Rattle.claim_table.specs.Laws.{IsSound}
use Rattle.pgn_profile.specs.declared.kinds.Kind.{Kind}
use Rattle.pgn_profile.specs.declared.kinds.Kind.TheVariants.{Single, Fast, Outside}
use Rattle.iso_transport.specs.Audience.{key_of}
use Rattle.history.specs.Entries.{History, frame}
use Rattle.history.specs.Settings.{Receiver}
use Rattle.history.specs.Known.{Known, known}
use Rattle.history.specs.Traces.{NotedFrame, fast_trace, is_transport}
use Rattle.history.specs.Opens.{fast_open, iso_open, notes_of}
use Rattle.fast_packet.specs.FastRuns.{FastPiece}
use Rattle.iso_transport.specs.IsoRuns.{IsoPiece}
use Rattle.history.specs.Meanings.{Meaning, address_claim, own_source, request, from_nobody, transport, single, fast_packet, passed, meaning_of, is_of_session, is_of_fast_packet}
use Rattle.history.specs.Messages.{Message, Carried, carried, done, said_by, by_session, completed_by}
use Rattle.history.specs.Messages as messages
use Rattle.history.specs.Emits.{breaks}
use Rattle.history.specs.BusRules.{frame_breaks}
use Rattle.history.specs.FromBus.{request_gives, meaning_at, frame_refused}
use Rattle.history.specs.AddressLaws.{IsReceiver}
use Rattle.history.specs.KeyLaws.{the_note}
use Rattle.history.proofs.Addresses.{addresses_are_sound}
use Rattle.history.proofs.KeySteps.{eqb-sym}
use Rattle.gate_model.specs.Addresses.{AddressesKept, plain_reports, plain_done}
use Rattle.gate_model.specs.AddressStands.{StandsAddresses, TellsAlike, FrameIsTold, FramesAreTold, meaning_here}
use Rattle.gate_model.proofs.SaidTold.{message_said}
use Rattle.gate_model.proofs.FastOthers.{tested}
use Rattle.gate_model.proofs.AddressTells.{standing_tells_alike}

-- ---- what follows from what a frame is

abbrev IsSo : Bool → Bool → Bool → Bool → Bool → Bool → Kind → Meaning → Type 0
IsSo claims owned requests transports ours held kind address_claim = claims ≡ true
IsSo claims owned requests transports ours held kind own_source = owned ≡ true
IsSo claims owned requests transports ours held kind request = requests ≡ true
IsSo claims owned requests transports ours held kind from_nobody = held ≡ false
IsSo claims owned requests transports ours held kind transport = Unit {0}
IsSo claims owned requests transports ours held kind single = (transports ≡ false) × (kind ≡ Single) × (held ≡ true)
IsSo claims owned requests transports ours held kind fast_packet = Unit {0}
IsSo claims owned requests transports ours held kind passed =
    (requests ≡ true) ⊎ ((transports ≡ true) × (ours ≡ false)) ⊎ ((transports ≡ false) × (kind ≡ Outside))

is_so : (claims owned requests transports ours held : Bool) (kind : Kind)
    → IsSo claims owned requests transports ours held kind (tested claims owned requests transports ours held kind)
is_so true owned requests transports ours held kind = refl
is_so false true requests transports ours held kind = refl
is_so false false true transports true held kind = refl
is_so false false true transports false held kind = inl refl
is_so false false false true true true kind = tt
is_so false false false true true false kind = refl
is_so false false false true false held kind = inr (inl (refl, refl))
is_so false false false false ours true Single = (refl, refl, refl)
is_so false false false false ours false Single = refl
is_so false false false false ours true Fast = tt
is_so false false false false ours false Fast = refl
is_so false false false false ours held Outside = inr (inr (refl, refl))

no_message : (index moment source : ℕ) (o : Option Holder) → said_by index moment source o None ≡ None
no_message index moment source None = refl
no_message index moment source (Some x) = refl

nobody : (index moment source : ℕ) (o : Option Holder) (what : Option Carried) → is_some o ≡ false → said_by index moment source o what ≡ None
nobody index moment source None what e = refl
nobody index moment source (Some x) what e = cc

module _ (r : Receiver) (are : IsReceiver r) (k : Known) (sound : IsSound k.claims) (n : NotedFrame) (older : List NotedFrame) (index moment : ℕ) where
  abbrev p : Parts
  p = n.parts

  abbrev holder : Option Holder
  holder = holder_at k.claims.holders p.source

  -- what follows from what it is
  abbrev Follows : Meaning → Type 0
  Follows meaning =
      IsSo (p.pgn == 60928) (is_own k.claims.own p.source) (p.pgn == 59904) (is_transport p) (is_to k.claims.own p.destination)
      (is_some holder) (r.kinds p.pgn) meaning

  abbrev completed : Option Carried
  completed = completed_by r.kinds k n older

  abbrev said : Option Carried → Option Message
  said what = said_by index moment p.source holder what

  -- of a PGN that has no messages, and that isn't one of the transport protocol, none comes
  outside : is_transport p ≡ false → r.kinds p.pgn ≡ Outside → completed ≡ None
  outside transports kind = rw (transports, kind) refl

  no_transport : (q : ℕ) → ((q == 60416) || (q == 60160)) ≡ false → (p.pgn == q) ≡ true → is_transport p ≡ false
  no_transport q other is = ap (λ (x : ℕ). (x == 60416) || (x == 60160)) (eqb-true p.pgn q is) ∙ other

  of_pgn : (q : ℕ) → ((q == 60416) || (q == 60160)) ≡ false → r.kinds q ≡ Outside → (p.pgn == q) ≡ true → said completed ≡ None
  of_pgn q other kind is =
      ap said (outside (no_transport q other is) (ap r.kinds (eqb-true p.pgn q is) ∙ kind)) ∙ no_message index moment p.source holder

  -- from the gateway's own address, which nobody else holds
  from_own : (own : Option ℕ) → k.claims.own ≡ own → is_own own p.source ≡ true → said completed ≡ None
  from_own None e is = absurd (false≢true is)
  from_own (Some a) e is =
      nobody index moment p.source holder completed (ap is_some (ap (holder_at k.claims.holders) (eqb-true p.source a is) ∙ sound.own_free a e))

  -- to another address
  is_at_own : (own : Option ℕ) (a : ℕ) → is_at a own ≡ is_own own a
  is_at_own None a = refl
  is_at_own (Some b) a = eqb-sym b a

  to_another : is_transport p ≡ true → is_to k.claims.own p.destination ≡ false → completed ≡ None
  to_another transports elsewhere =
      ap (λ (b : Bool). if b then by_session k n older else messages.by_kind (r.kinds p.pgn) n (fast_trace k.claims.holders p.source p.pgn (n ∷ older))) transports
      ∙ by (p.destination == 255) refl elsewhere
    where
      by : (b : Bool) → (p.destination == 255) ≡ b → (b || is_own k.claims.own p.destination) ≡ false → by_session k n older ≡ None
      by true e none = absurd (false≢true (sym none))
      by false e none = rw (e, is_at_own k.claims.own p.destination, none) refl

  passes : Follows passed → said completed ≡ None
  passes (inl requests) = of_pgn 59904 refl are.requests requests
  passes (inr (inl (transports, elsewhere))) = ap said (to_another transports elsewhere) ∙ no_message index moment p.source holder
  passes (inr (inr (transports, kind))) = ap said (outside transports kind) ∙ no_message index moment p.source holder

  done_by : (meaning : Meaning)
      → Follows meaning
      → is_of_session meaning ≡ false → is_of_fast_packet meaning ≡ false → said completed ≡ said (plain_done meaning p n.bytes)
  done_by address_claim so a b = of_pgn 60928 refl are.claims so ∙ sym (no_message index moment p.source holder)
  done_by own_source so a b = from_own k.claims.own refl so ∙ sym (no_message index moment p.source holder)
  done_by request so a b = of_pgn 59904 refl are.requests so ∙ sym (no_message index moment p.source holder)
  done_by from_nobody so a b = nobody index moment p.source holder completed so ∙ sym (no_message index moment p.source holder)
  done_by transport so a b = cc
  done_by single (transports, kind, held) a b = ap said (rw (transports, kind) refl)
  done_by fast_packet so a b = cc
  done_by passed so a b = passes so ∙ sym (no_message index moment p.source holder)

  is_meaning : Follows (meaning_of r.kinds k.claims.own k.claims.holders p)
  is_meaning =
      is_so (p.pgn == 60928) (is_own k.claims.own p.source) (p.pgn == 59904) (is_transport p) (is_to k.claims.own p.destination)
      (is_some holder) (r.kinds p.pgn)

  pub plain_message : is_of_session (meaning_of r.kinds k.claims.own k.claims.holders p) ≡ false
      → is_of_fast_packet (meaning_of r.kinds k.claims.own k.claims.holders p) ≡ false
      → said completed ≡ said (plain_done (meaning_of r.kinds k.claims.own k.claims.holders p) p n.bytes)
  plain_message a b = done_by (meaning_of r.kinds k.claims.own k.claims.holders p) is_meaning a b

  -- ---- the rules that it breaks

  -- by a message that it doesn't complete, or by the one that is a single frame
  abbrev Breaks : Meaning → Option Message → Type 0
  Breaks meaning d = frame_breaks r.name meaning n None None d ≡ plain_reports r.name meaning p n.bytes

  none_breaks : (meaning : Meaning) → Breaks meaning None → (d : Option Message) → d ≡ said None → Breaks meaning d
  none_breaks meaning breaks d is = subst (Breaks meaning) (sym (is ∙ no_message index moment p.source holder)) breaks

  single_breaks : (o : Option Holder) → is_some o ≡ true → (d : Option Message) → d ≡ said_by index moment p.source o (Some (carried p.pgn n.bytes))
      → Breaks single d
  single_breaks None held d is = absurd (false≢true held)
  single_breaks (Some x) held d is = subst (Breaks single) (sym is) (message_said index moment p.source x (Some (carried p.pgn n.bytes)))

  breaks_by : (meaning : Meaning)
      → Follows meaning
      → is_of_session meaning ≡ false → is_of_fast_packet meaning ≡ false → (d : Option Message) → d ≡ said (plain_done meaning p n.bytes) → Breaks meaning d
  breaks_by address_claim so a b = none_breaks address_claim refl
  breaks_by own_source so a b = none_breaks own_source refl
  breaks_by request so a b = none_breaks request refl
  breaks_by from_nobody so a b = none_breaks from_nobody refl
  breaks_by transport so a b = cc
  breaks_by single (transports, kind, held) a b = single_breaks holder held
  breaks_by fast_packet so a b = cc
  breaks_by passed so a b = none_breaks passed refl

  pub plain_breaks : (meaning : Meaning) → meaning_of r.kinds k.claims.own k.claims.holders p ≡ meaning → is_of_session meaning ≡ false
      → is_of_fast_packet meaning ≡ false
      → (d : Option Message) → d ≡ said (plain_done meaning p n.bytes) → Breaks meaning d
  plain_breaks meaning is a b =
      breaks_by meaning
      (subst Follows is is_meaning) a b

-- nothing is open of it that is looked at
none_before : (meaning : Meaning) (r : Receiver) (n : NotedFrame) (frames : Option (List FastPiece)) (packets : Option (List IsoPiece)) (d : Option Message)
    → is_of_session meaning ≡ false
    → is_of_fast_packet meaning ≡ false
    → frame_breaks r.name meaning n (if is_of_fast_packet meaning then frames else None)
    (if is_of_session meaning then packets else None) d
    ≡ frame_breaks r.name meaning n None None d
none_before meaning r n frames packets d a b = rw (a, b) refl

module _ (r : Receiver) (s : ℕ) (h : History) (m : ℕ) (f : BusFrame) (k : AddressesKept) (are : IsReceiver r) (stands : StandsAddresses r s h k)
    (a : is_of_session (meaning_at r s h m f) ≡ false) (b : is_of_fast_packet (meaning_at r s h m f) ≡ false) where
  abbrev here : Parts
  here = parts_of f.id

  sound : IsSound (known r s h).claims
  sound = (addresses_are_sound r s h are).sound

  alike : TellsAlike k.claims (known r s h).claims
  alike = standing_tells_alike r s h k stands

  meaning_is : meaning_here r s h m f k ≡ meaning_at r s h m f
  meaning_is = alike.meaning r.kinds here

  message_is : done r s h (frame m f)
      ≡ said_by (length h) m here.source (holder_at (known r s h).claims.holders here.source) (plain_done (meaning_at r s h m f) here f.held)
  message_is = plain_message r are (known r s h) sound (the_note r s h m f) (notes_of r s h) (length h) m a b

  reports_are : frame_refused r s h m f ≡ plain_reports r.name (meaning_at r s h m f) here f.held
  reports_are =
      none_before (meaning_at r s h m f) r (the_note r s h m f)
      (fast_open (known r s h).claims.holders (notes_of r s h) (record { source = here.source; pgn = here.pgn }) m)
      (iso_open (known r s h) (notes_of r s h) (key_of here) m) (done r s h (frame m f)) a b
      ∙ plain_breaks r are (known r s h) sound (the_note r s h m f) (notes_of r s h) (length h) m
      (meaning_at r s h m f) refl a b (done r s h (frame m f)) message_is

  pub frame_is_told : FrameIsTold r s h m f k
  frame_is_told = record {
    meaning = meaning_is;
    reports = reports_are ∙ ap (λ (meaning : Meaning). plain_reports r.name meaning here f.held) (sym meaning_is);
    completed =
        message_is
        ∙ (ap (λ (meaning : Meaning). said_by (length h) m here.source (holder_at (known r s h).claims.holders here.source) (plain_done meaning here f.held))
        (sym meaning_is)
        ∙ sym (alike.said (length h) m here.source (plain_done (meaning_here r s h m f k) here f.held)));
    answer = ap (λ (own : Option ℕ). request_gives r.name own f.held) alike.own;
  }

pub frames_are_told : FramesAreTold
frames_are_told r s h m f k are stands a b = frame_is_told r s h m f k are stands a b
