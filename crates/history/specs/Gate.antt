-- What the gateway emits at each entry, over the history before it: what is overdue ends, then the entry is handled, and then the command
-- that it completes (ISO 11783-5).
use Rattle.std.specs.Prelude.{ℕ, List, [], ◌∷◌, ◌++◌, length, Option, Some, None, option_map, option_and_then, Result, if◌then◌else◌}
use Rattle.claim_table.specs.Claims.{is_ready}
use Rattle.readings.specs.declared.reading.Reading.{Reading}
use Rattle.readings.specs.Rows.{row_of}
use Rattle.sentence_profile.specs.Writing.{sentences_of}
use Rattle.datagram450.specs.declared.fault.DatagramFault.{DatagramFault}
use Rattle.datagram450.specs.Datagram as datagrams
use Rattle.datagram450.specs.Datagram.{Item}
use Rattle.gate_events.specs.declared.emit.Report.{Report}
use Rattle.gate_events.specs.declared.emit.Detail.TheVariants as detail
use Rattle.report_rules.specs.Rules as rules
use Rattle.history.specs.Entries as entry
use Rattle.history.specs.Entries.{Entry, History, now, moment_of, is_accepted}
use Rattle.pgn_profile.specs.Profiled.{kind_of}
use Rattle.history.specs.Settings.{Settings, rule_of, receiver_of}
use Rattle.history.specs.Known.{known}
use Rattle.history.specs.Opens.{notes_of}
use Rattle.history.specs.Messages.{Message, done, ordered_in}
use Rattle.gate_events.specs.Emit.{Emit, Emitted, can, net, report}
use Rattle.history.specs.Emits.{at, broken, own_claim, request_for_claims, Spoken}
use Rattle.history.specs.Endings.{fast_expired, iso_expired, groups_expired, side}
use Rattle.history.specs.Heard.{HeardItem, heard_items, with_each, taken_lines}
use Rattle.history.specs.FromNet.{items_in, datagram_gives}
use Rattle.history.specs.FromBus.{said_at, frame_refused, from_frame, command_breaks, from_command}

-- at the start: the own claim, and the request for the claims of all
abbrev pub opening_emits : Settings → List Emit
opening_emits c = own_claim c.name (Some c.address) ∷ request_for_claims c.address ∷ []

module _ (c : Settings) (s : ℕ) where
  -- what an entry makes the gateway say on the network
  abbrev pub with_spoken : Option Reading → List Spoken → List Spoken
  with_spoken None before = before
  with_spoken (Some r) before = let rule = rule_of c (row_of r) in
      record { group = rule.group; lines = length (sentences_of rule.talker c.ths r) } ∷ before

  abbrev pub spoken_of : History → List Spoken
  spoken_of [] = []
  spoken_of (e ∷ h) = with_spoken (said_at c s h e) (spoken_of h)

  -- the items of a datagram that comes after a history
  abbrev pub items_at : History → ℕ → Result (List Item) DatagramFault → List HeardItem
  items_at h m read = heard_items m (is_ready (known (receiver_of c) s h).claims m) (items_in read)

  abbrev pub items_of : History → Entry → List HeardItem
  items_of h (entry.frame m f) = []
  items_of h (entry.datagram m bytes) = items_at h m (datagrams.read bytes)
  items_of h (entry.tick m) = []
  items_of h (entry.command m source address) = []

  -- the items of all datagrams, the newest first
  abbrev pub heard : History → List HeardItem
  heard [] = []
  heard (e ∷ h) = with_each (heard h) (items_of h e)

  -- what is overdue ends first
  abbrev pub expired : History → ℕ → List Emit
  expired h m =
      let k = known (receiver_of c) s h in
      let notes = notes_of (receiver_of c) s h in
      fast_expired (side k (now h)) (side k m) notes kind_of ++ iso_expired (side k (now h)) (side k m) notes ++ groups_expired (taken_lines c (heard h)) (now h) m

  -- the rules that an entry breaks; of a datagram, the reports among what it gives
  abbrev pub reports_in : List Emit → List Report
  reports_in [] = []
  reports_in (report r ∷ emits) = r ∷ reports_in emits
  reports_in (can f ∷ emits) = reports_in emits
  reports_in (net group bytes ∷ emits) = reports_in emits

  abbrev pub datagram_at : History → ℕ → List ℕ → List Emit
  datagram_at h m bytes = let read = datagrams.read bytes in datagram_gives c (known (receiver_of c) s h).claims.own (heard h) (items_at h m read) read

  abbrev pub broken_by : History → Entry → List Report
  broken_by h (entry.frame m f) = frame_refused (receiver_of c) s h m f
  broken_by h (entry.datagram m bytes) = reports_in (datagram_at h m bytes)
  broken_by h (entry.tick m) = []
  broken_by h (entry.command m source address) = command_breaks (known (receiver_of c) s h).claims source address

  -- what an entry gives by itself
  abbrev pub handled : History → Entry → List Emit
  handled h (entry.frame m f) = from_frame c s h m f (spoken_of h)
  handled h (entry.datagram m bytes) = datagram_at h m bytes
  handled h (entry.tick m) = []
  handled h (entry.command m source address) = from_command c s h m source address

  abbrev pub out : History → Entry → List Emit
  out h e = expired h (moment_of e) ++ handled h e

  -- the command to the gateway that an entry completes
  abbrev pub command_in : Option Message → ℕ → Option Entry
  command_in message m = option_and_then (λ d. option_map (λ address. entry.command m d.source address) (ordered_in c.name d.pgn d.payload)) message

  abbrev pub opening : List Emitted
  opening = at s (opening_emits c)

  -- ---- events that are offered, by what an entry gives: of the gateway alone, or with parts beside it

  -- what an event emits, and the history then
  pub record Stepped : Type 0 where
    pub emits : List Emitted
    pub after : History

  module _ (gives : History → Entry → List Emit) where
    -- with the command that it completes, which is the next entry and concerns the gateway alone
    abbrev pub with_command_by : History → Entry → Option Entry → Stepped
    with_command_by h e None = record { emits = at (moment_of e) (gives h e); after = e ∷ h }
    with_command_by h e (Some ordered) = record { emits = at (moment_of e) (gives h e ++ out (e ∷ h) ordered); after = ordered ∷ e ∷ h }

    -- an event that is too early is reported and changes nothing (rule 3)
    abbrev pub stepped_by : History → Entry → Stepped
    stepped_by h e =
        if is_accepted h e then with_command_by h e (command_in (done (receiver_of c) s h e) (moment_of e))
        else record { emits = at (now h) (broken rules.moment_back detail.Nothing ∷ []); after = h }

    -- a list of events, in the order in which they come
    abbrev pub events_by : History → List Entry → List Emitted
    events_by h [] = []
    events_by h (e ∷ es) = let x = stepped_by h e in x.emits ++ events_by x.after es

    abbrev pub gate_by : List Entry → List Emitted
    gate_by events = opening ++ events_by [] events

  -- ---- the gateway alone

  abbrev pub with_command : History → Entry → Option Entry → Stepped
  with_command h e ordered = with_command_by out h e ordered

  abbrev pub stepped : History → Entry → Stepped
  stepped h e = stepped_by out h e

  abbrev pub from_events : History → List Entry → List Emitted
  from_events h events = events_by out h events

  abbrev pub gate : List Entry → List Emitted
  gate events = gate_by out events
