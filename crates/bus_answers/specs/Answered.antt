-- What the gateway answers who asks on the bus who it is (NMEA 2000 PGNs 126996 and 126464; ISO 11783-3, request and acknowledgement), over
-- everything that ever came.
use Rattle.std.specs.Prelude.{ℕ, ◌+◌, ◌*◌, ◌%◌, Bool, false, ◌&&◌, ◌==◌, List, [], ◌∷◌, map, Option, if◌then◌else◌}
use Rattle.n2k_id.specs.Frame.{BusFrame}
use Rattle.n2k_id.specs.Identifier.{parts_of}
use Rattle.report_rules.specs.Rules as rules
use Rattle.claim_table.specs.Claims.{is_ready}
use Rattle.n2k_id.specs.Pgns as pgns
use Rattle.gate_events.specs.Emit.{Emit, can}
use Rattle.history.specs.Emits.{of_source}
use Rattle.history.specs.Entries as entry
use Rattle.history.specs.Entries.{Entry, History, moment_of}
use Rattle.history.specs.Known.{known}
use Rattle.history.specs.Settings.{receiver_of, Settings}
use Rattle.bus_identity.specs.Answers.{Kept, frames_from}
use Rattle.bus_identity.specs.PgnLists.{product_information, pgn_lists}
use Rattle.n2k_id.specs.Pgns.{asked_of}
use Rattle.bus_identity.specs.Requests.{is_due}

-- the answer of a gateway with this address; a request that comes before it is ready is reported
abbrev pub answer_by : Kept → Option ℕ → Bool → BusFrame → List Emit
answer_by k own ready f =
    if is_due own f then (if ready then map can (frames_from k own f) else of_source rules.not_ready (parts_of f.id).source pgns.request ∷ []) else []

module _ (c : Settings) (s : ℕ) where
  -- the gateway's address once an entry was handled, and whether it may send
  abbrev pub own_after : History → Entry → Option ℕ
  own_after h e = (known (receiver_of c) s (e ∷ h)).claims.own

  abbrev pub ready_after : History → Entry → Bool
  ready_after h e = is_ready (known (receiver_of c) s (e ∷ h)).claims (moment_of e)

  -- the entry is a request for a parameter group that has to be answered, and the gateway is ready
  abbrev pub is_answered : ℕ → History → Entry → Bool
  is_answered pgn h (entry.frame m f) =
      is_due (own_after h (entry.frame m f)) f && (ready_after h (entry.frame m f) && (asked_of f.held == pgn))
  is_answered pgn h (entry.datagram m bytes) = false
  is_answered pgn h (entry.tick m) = false
  is_answered pgn h (entry.command m source address) = false

  -- how many such there were
  abbrev pub answered_before : ℕ → History → ℕ
  answered_before pgn [] = 0
  answered_before pgn (e ∷ h) = if is_answered pgn h e then answered_before pgn h + 1 else answered_before pgn h

  -- the messages that were sent before: product information is one, the lists are two; sequences count modulo 8
  abbrev pub sent_before : List ℕ → History → Kept
  sent_before information h = record {
    information = information;
    products = answered_before product_information h % 8;
    lists = (2 * answered_before pgn_lists h) % 8;
  }

  -- what an entry makes the gateway answer
  abbrev pub answers : List ℕ → History → Entry → List Emit
  answers information h (entry.frame m f) =
      answer_by (sent_before information h) (own_after h (entry.frame m f)) (ready_after h (entry.frame m f)) f
  answers information h (entry.datagram m bytes) = []
  answers information h (entry.tick m) = []
  answers information h (entry.command m source address) = []
