-- What is promised of all answers.
use Rattle.std.specs.Prelude.{◌≡◌, ◌≢◌, ℕ, ◌+◌, ◌%◌, ◌<◌, ◌≤◌, ◌^◌, IsTrue, Bool, true, false, ◌&&◌, nat_lt, ◌==◌, if◌then◌else◌, List, [], ◌∷◌, length, map, take, Option, Some}
use Rattle.std.specs.List.{AllByRecursion, list_all}
use Rattle.n2k_id.specs.Frame.{BusFrame}
use Rattle.n2k_id.specs.declared.identifier_parts.Parts.{Parts}
use Rattle.n2k_id.specs.Identifier.{CanJoin, parts_of}
use Rattle.fast_packet.specs.FastRuns.{longest}
use Rattle.fast_packet.specs.Laws.{IsRunOf}
use Rattle.readings.specs.Rows.{every_row}
use Rattle.bus_identity.specs.PgnLists.{has, pgn_lists, product_information, received, sent, sent_by, taken_by}
use Rattle.n2k_id.specs.Pgns.{asked_of}
use Rattle.bus_identity.specs.Requests.{is_due, IsDue}
use Rattle.bus_identity.specs.Answers.{Kept, answer_frames, answered_address, kept_after, list_frames, message_by, product_frames, refusal_frames}

-- ---- each request that has to be answered has exactly its one answer

-- what a frame makes a device send, and what it keeps then
abbrev pub Gives : Kept → Option ℕ → Bool → BusFrame → List BusFrame → Kept → Type 0
Gives k own ready e frames after = (answer_frames k own ready e ≡ frames) × (kept_after k own ready e ≡ after)

abbrev pub asker_of : BusFrame → ℕ
asker_of e = answered_address (parts_of e.id).source

-- a request that has to be answered, to a device that is ready, at this address
pub record HasOneAnswer (k : Kept) (own : ℕ) (e : BusFrame) : Type 0 where
  pub product : IsDue (Some own) e → asked_of e.held ≡ product_information
      → Gives k (Some own) true e (product_frames k own) (record k { products = (k.products + 1) % 8 })
  pub lists : IsDue (Some own) e → asked_of e.held ≡ pgn_lists
      → Gives k (Some own) true e (list_frames k own (asker_of e)) (record k { lists = (k.lists + 2) % 8 })
  pub refusal : IsDue (Some own) e → asked_of e.held ≢ product_information → asked_of e.held ≢ pgn_lists
      → ((parts_of e.id).destination ≡ own) × Gives k (Some own) true e (refusal_frames own (asker_of e) (take 3 e.held)) k

abbrev pub RequestsHaveOneAnswer : Type 0
RequestsHaveOneAnswer = (k : Kept) (own : ℕ) (e : BusFrame) → HasOneAnswer k own e

-- nothing is sent for another frame, nor before the device is ready
abbrev pub OthersHaveNone : Type 0
OthersHaveNone = (k : Kept) (own : Option ℕ) (ready : Bool) (e : BusFrame) → (¬ IsDue own e → Gives k own ready e [] k) × Gives k own false e [] k

-- ---- what is sent is heard

-- the frames have these parts, and are a run of the message, with the number of messages before it, modulo 8, as its sequence
pub record IsHeard (parts : Parts) (before : ℕ) (payload : List ℕ) (frames : List BusFrame) : Type 0 where
  pub each : AllByRecursion (λ f. parts_of f.id ≡ parts) frames
  pub run : IsRunOf (before % 8) payload (map (λ f. f.held) frames)

abbrev pub MessagesAreHeard : Type 0
MessagesAreHeard =
    (parts : Parts) (before : ℕ) (payload : List ℕ) → CanJoin parts → parts.destination < 2 ^ 8 → parts.source < 2 ^ 8 → 1 ≤ length payload
    → length payload ≤ longest → IsHeard parts before payload (message_by parts before payload)

-- ---- sequences count what was sent

-- a frame, with the address and the readiness of the device as it came
pub record Call : Type 0 where
  pub own : Option ℕ
  pub ready : Bool
  pub frame : BusFrame

-- what is kept after these, of which the newest is the first
abbrev pub kept_by : List ℕ → List Call → Kept
kept_by information [] = record { information = information; products = 0; lists = 0 }
kept_by information (c ∷ h) = kept_after (kept_by information h) c.own c.ready c.frame

-- an answer was sent, and this was asked for
abbrev pub is_sent : ℕ → Call → Bool
is_sent pgn c = (is_due c.own c.frame && c.ready) && (asked_of c.frame.held == pgn)

-- how many messages of product information were sent, and how many lists: two at a time
abbrev pub products_sent : List Call → ℕ
products_sent [] = 0
products_sent (c ∷ h) = products_sent h + (if is_sent product_information c then 1 else 0)

abbrev pub lists_sent : List Call → ℕ
lists_sent [] = 0
lists_sent (c ∷ h) = lists_sent h + (if is_sent pgn_lists c then 2 else 0)

pub record Counts (information : List ℕ) (h : List Call) : Type 0 where
  pub information_stays : (kept_by information h).information ≡ information
  pub products : (kept_by information h).products ≡ products_sent h % 8
  pub lists : (kept_by information h).lists ≡ lists_sent h % 8

abbrev pub SequencesCount : Type 0
SequencesCount = (information : List ℕ) (h : List Call) → Counts information h

-- ---- the lists of parameter groups

-- each number is below the next
abbrev pub rises : List ℕ → Bool
rises [] = true
rises (pgn ∷ more) = list_all (nat_lt pgn) more && rises more

-- no group stands twice, and what a row is sent and taken in by is there
pub record ListsAreOfTheRows : Type 0 where
  pub sent_rises : IsTrue (rises sent)
  pub received_rises : IsTrue (rises received)
  pub each_sent : IsTrue (list_all (λ r. list_all (has sent) (sent_by r)) every_row)
  pub each_taken : IsTrue (list_all (λ r. list_all (has received) (taken_by r)) every_row)
