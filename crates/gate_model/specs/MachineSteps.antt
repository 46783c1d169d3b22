-- What each entry makes of what a gateway keeps, and gives, as plain values. Nothing here speaks of what came before.
use Rattle.std.specs.Prelude.{ℕ, Bool, not, nat_le, List, [], ◌∷◌, ◌++◌, Option, None, if◌then◌else◌}
use Rattle.n2k_id.specs.declared.identifier_parts.Parts.{Parts}
use Rattle.n2k_id.specs.Frame.{BusFrame}
use Rattle.n2k_id.specs.Identifier.{parts_of}
use Rattle.report_rules.specs.Rules as rules
use Rattle.gate_events.specs.declared.emit.Detail.TheVariants as detail
use Rattle.gate_events.specs.declared.emit.Report.{Report}
use Rattle.claim_table.specs.Claims.{Outcome, command, holder_at, is_obeyed, is_ready}
use Rattle.pgn_profile.specs.Profiled.{kind_of}
use Rattle.datagram450.specs.Datagram as datagrams
use Rattle.history.specs.Entries as entry
use Rattle.history.specs.Entries.{Entry, moment_of}
use Rattle.history.specs.Known.{is_claim, address_left, address_won}
use Rattle.history.specs.TraceLaws.{same_own}
use Rattle.history.specs.Messages.{Carried}
use Rattle.history.specs.Meanings.{Meaning, address_claim, own_source, request, from_nobody, transport, single, fast_packet, passed, meaning_of}
use Rattle.gate_events.specs.Emit.{Emit}
use Rattle.history.specs.Emits.{broken, reported, own_claim, replied}
use Rattle.history.specs.FromBus.{own_answer, request_gives, command_breaks}
use Rattle.gate_model.specs.Machine.{Compared, Machine, Step, later, overdue, counted_in}
use Rattle.gate_model.specs.Addresses.{no_change, claimed, changes_after, plain_reports, plain_done}
use Rattle.gate_model.specs.FastPackets as fast
use Rattle.gate_model.specs.FastPackets.{fast_step, fast_kept}
use Rattle.gate_model.specs.Sessions as sessions
use Rattle.gate_model.specs.Sessions.{session_step, sessions_kept, without_addressed, lost_addressed}
use Rattle.gate_model.specs.Said.{Complete, complete_by, message_after, message_emits, claimed_after}
use Rattle.gate_model.specs.NetLines.{datagram_after, datagram_emits}

-- the rules that are broken, then what is sent on the bus, then the datagram of the message that is complete, where it is said
abbrev pub with_message : Machine → List Report → List Emit → Option Complete → Step
with_message g reports replies d = record {
  after = record g { said = message_after g.settings g.said d };
  told = reported reports ++ replies;
  posted = message_emits g.settings g.said d;
  complete = d;
}

-- ---- a claim (ISO 11783-5): what is in the making of the address that its NAME left, then of the one that was won; then the sessions to the
-- gateway, where its own address is another one; then what it says of that

abbrev pub lost_at : Option ℕ → Machine → List Emit
lost_at a g = fast.lost_of_source a g.fast ++ sessions.lost_of_source a g.sessions

abbrev pub without : Option ℕ → Machine → Machine
without a g = record g { fast = fast.without_source a g.fast; sessions = sessions.without_source a g.sessions }

-- whether the gateway's own address is another one after it
abbrev pub moved_by : Machine → Outcome → Bool
moved_by g x = not (same_own g.addresses.claims.own x.after.own)

-- what it tells, in this order
unfoldable pub claim_tells : ℕ → Machine → Outcome → List Emit
claim_tells name g x =
    let left = address_left x.step in
    let won = address_won x.step in
    lost_at left g ++ lost_at won (without left g) ++ lost_addressed (moved_by g x) (without won (without left g)).sessions
    ++ own_answer name x.step.own x.after.own

abbrev pub claim_takes : ℕ → Machine → Outcome → Step
claim_takes name g x =
    let rest = without (address_won x.step) (without (address_left x.step) g) in
    record {
      after = record g {
        addresses = record g.addresses { claims = x.after };
        fast = rest.fast;
        sessions = without_addressed (moved_by g x) rest.sessions;
        said = claimed_after x.step g.said;
      };
      told = claim_tells name g x;
      posted = [];
      complete = None;
    }

-- ---- a frame, by what it is

module _ (o : Compared) (g : Machine) (m : ℕ) (f : BusFrame) where
  abbrev pub parts_here : Parts
  parts_here = parts_of f.id

  abbrev pub own_here : Option ℕ
  own_here = g.addresses.claims.own

  -- what it carries is a message of the holder of its source
  abbrev pub complete_here : Option Carried → Option Complete
  complete_here what = complete_by m parts_here.source (holder_at g.addresses.claims.holders parts_here.source) what

  abbrev pub plain_frame : Meaning → List Emit → Step
  plain_frame meaning answers =
      with_message g (plain_reports g.settings.name meaning parts_here f.held) answers (complete_here (plain_done meaning parts_here f.held))

  abbrev pub claim_frame : Step
  claim_frame = if is_claim f then
      (let x = claim_takes g.settings.name g (claimed g.addresses m f) in
      record x { told = reported (plain_reports g.settings.name address_claim parts_here f.held) ++ x.told })
      else plain_frame address_claim []

  abbrev pub session_frame : Step
  session_frame = let x = session_step o.sessions g.sessions own_here parts_here f.held m (is_ready g.addresses.claims m) in
      with_message (record g { sessions = x.slots }) x.reports (replied own_here parts_here.source x.reply) (complete_here x.done)

  abbrev pub fast_frame : Step
  fast_frame = let x = fast_step o.fast g.fast parts_here f.held m in
      with_message (record g { fast = x.slots }) x.reports [] (complete_here x.done)

  abbrev pub frame_step : Meaning → Step
  frame_step address_claim = claim_frame
  frame_step own_source = plain_frame own_source []
  frame_step request = plain_frame request (request_gives g.settings.name own_here f.held)
  frame_step from_nobody = plain_frame from_nobody []
  frame_step transport = session_frame
  frame_step single = plain_frame single []
  frame_step fast_packet = fast_frame
  frame_step passed = plain_frame passed []

  abbrev pub frame_here : Step
  frame_here = frame_step (meaning_of kind_of own_here g.addresses.claims.holders parts_here)

-- ---- the other entries

abbrev pub datagram_here : Compared → Machine → ℕ → List ℕ → Step
datagram_here o g m bytes =
    let read = datagrams.read bytes in
    let ready = is_ready g.addresses.claims m in
    record {
      after = record g { network = datagram_after o.groups g.settings m ready g.network read };
      told = datagram_emits o.groups g.settings m ready g.addresses.claims.own g.network read;
      posted = [];
      complete = None;
    }

-- a command to go to an address (ISO 11783-5, commanded address), which is obeyed or is rule 26
abbrev pub command_here : Machine → ℕ → ℕ → ℕ → Step
command_here g m source address =
    let claims = g.addresses.claims in
    let after = command claims address m in
    let obeyed = is_obeyed claims address in
    record {
      after = record g { addresses = record g.addresses { claims = after }; sessions = without_addressed obeyed g.sessions };
      told = reported (command_breaks claims source address)
          ++ (if obeyed then lost_addressed obeyed g.sessions ++ own_claim g.settings.name after.own ∷ [] else []);
      posted = [];
      complete = None;
    }

abbrev pub handled : Compared → Machine → Entry → Step
handled o g (entry.frame m f) = frame_here o g m f
handled o g (entry.datagram m bytes) = datagram_here o g m bytes
handled o g (entry.tick m) = record { after = g; told = []; posted = []; complete = None }
handled o g (entry.command m source address) = command_here g m source address

-- an entry that isn't earlier than the last: what is overdue ends first
abbrev pub entered : Compared → Machine → Entry → Step
entered o g e = let x = handled o (later (moment_of e) g) e in
    record {
      after = counted_in (changes_after g.addresses e) x.after;
      told = overdue (moment_of e) g ++ x.told;
      posted = x.posted;
      complete = x.complete;
    }

-- an event: where it is too early it is reported, and changes nothing (rule 3)
abbrev pub stepped : Compared → Machine → Entry → Step
stepped o g e =
    if nat_le g.moment (moment_of e) then entered o g e
    else record { after = g; told = broken rules.moment_back detail.Nothing ∷ []; posted = []; complete = None }

-- a command comes at the moment of the event that gave it, when nothing is overdue, and takes no address from another device
abbrev pub commanded : Machine → ℕ → ℕ → Step
commanded g source address = let x = command_here g g.moment source address in
    record x { after = counted_in no_change x.after }
