-- What a device answers who is asked who it is.
use Rattle.std.specs.Prelude.{ℕ, ◌+◌, ◌%◌, Bool, ◌&&◌, ◌==◌, nat_le, if◌then◌else◌, List, [], ◌∷◌, ◌++◌, map, take, Option, Some, None}
use Rattle.n2k_id.specs.Frame.{BusFrame}
use Rattle.n2k_id.specs.declared.identifier_parts.Parts.{Parts}
use Rattle.n2k_id.specs.Identifier.{identifier_of, parts_of}
use Rattle.fast_packet.specs.FastRuns.{frames_of}
use Rattle.bus_identity.specs.declared.identity.Answered.{Answered}
use Rattle.bus_identity.specs.declared.identity.Answered.TheVariants.{Nothing, Sent, NotReady}
use Rattle.bus_identity.specs.PgnLists.{pgn_lists, product_information}
use Rattle.n2k_id.specs.Pgns.{acknowledgement, asked_of}
use Rattle.bus_identity.specs.Payloads.{sent_list, received_list, refusal_of}
use Rattle.bus_identity.specs.Requests.{is_due}

-- what is kept: the payload of product information, and how many messages of it and how many lists were sent, modulo 8
pub record Kept : Type 0 where
  pub information : List ℕ
  pub products : ℕ
  pub lists : ℕ

-- ---- what is sent

-- the parts of an answer's identifier; all answers have priority 6
abbrev pub answer_parts : ℕ → ℕ → ℕ → Parts
answer_parts pgn destination own = record { priority = 6; pgn = pgn; destination = destination; source = own }

-- a frame of this identifier
abbrev pub frame_of : ℕ → List ℕ → BusFrame
frame_of id held = record { id = id; held = held }

-- a frame with these parts
abbrev pub frame_by : Parts → List ℕ → BusFrame
frame_by parts held = frame_of (identifier_of parts) held

-- a message as a fast packet, whose sequence is the number of messages sent before, modulo 8
abbrev pub message_by : Parts → ℕ → List ℕ → List BusFrame
message_by parts before payload = map (frame_by parts) (frames_of (before % 8) payload)

-- who asked is answered; a sender without an address of its own hears what goes to all
abbrev pub answered_address : ℕ → ℕ
answered_address source = if nat_le source 253 then source else 255

abbrev pub product_frames : Kept → ℕ → List BusFrame
product_frames k own = message_by (answer_parts product_information 255 own) k.products k.information

-- the list of what is sent goes first
abbrev pub list_frames : Kept → ℕ → ℕ → List BusFrame
list_frames k own asker =
    message_by (answer_parts pgn_lists asker own) k.lists sent_list ++ message_by (answer_parts pgn_lists asker own) (k.lists + 1) received_list

abbrev pub refusal_frames : ℕ → ℕ → List ℕ → List BusFrame
refusal_frames own asker asked = frame_by (answer_parts acknowledgement asker own) (refusal_of asked) ∷ []

-- the answer of the device at this address to who asked in these bytes
abbrev pub frames_to : Kept → ℕ → ℕ → List ℕ → List BusFrame
frames_to k own asker held =
    if asked_of held == product_information then product_frames k own
    else if asked_of held == pgn_lists then list_frames k own asker
    else refusal_frames own asker (take 3 held)

abbrev pub counted : Kept → ℕ → Kept
counted k asked =
    if asked == product_information then record k { products = (k.products + 1) % 8 }
    else if asked == pgn_lists then record k { lists = (k.lists + 2) % 8 }
    else k

-- ---- the answer to a frame, by the own address and readiness

abbrev pub answered_by : Bool → Bool → Answered
answered_by due ready = if due then (if ready then Sent else NotReady) else Nothing

abbrev pub answered : Option ℕ → Bool → BusFrame → Answered
answered own ready e = answered_by (is_due own e) ready

abbrev pub frames_from : Kept → Option ℕ → BusFrame → List BusFrame
frames_from k None e = []
frames_from k (Some own) e = frames_to k own (answered_address (parts_of e.id).source) e.held

abbrev pub answer_frames : Kept → Option ℕ → Bool → BusFrame → List BusFrame
answer_frames k own ready e = if is_due own e && ready then frames_from k own e else []

abbrev pub kept_after : Kept → Option ℕ → Bool → BusFrame → Kept
kept_after k own ready e = if is_due own e && ready then counted k (asked_of e.held) else k
