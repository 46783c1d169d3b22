-- A device's messages, with and without another device between them.
use Rattle.std.specs.Prelude.{◌≡◌, ℕ, ◌+◌, List, [], ◌∷◌, reverse, map}
use Rattle.history.specs.Entries.{Entry, tick}
use Rattle.history.specs.Settings.{receiver_of}
use Rattle.history.specs.Messages.{messages_of}
use Rattle.history.specs.IsolationLaws.{from, NoneRefused}
use Rattle.history.specs.Cases.{Emits, full, can_frame, emitted, two_devices, fix, when_ready}
use Rattle.history.specs.TransportCases.{one_slot}

-- a position fix of 23 alone, and with one of 24 in turn
abbrev pub alone : List Entry
alone = fix 1000000 23 0 ∷ fix 1001000 23 1 ∷ fix 1002000 23 2 ∷ fix 1003000 23 3 ∷ fix 1004000 23 4 ∷ fix 1005000 23 5 ∷ fix 1006000 23 6 ∷ []

abbrev pub in_turn : List Entry
in_turn =
    fix 1000000 23 0 ∷ fix 1000500 24 0 ∷ fix 1001000 23 1 ∷ fix 1001500 24 1 ∷ fix 1002000 23 2 ∷ fix 1002500 24 2 ∷ fix 1003000 23 3 ∷ fix 1003500 24 3
    ∷ fix 1004000 23 4 ∷ fix 1004500 24 4 ∷ fix 1005000 23 5 ∷ fix 1005500 24 5 ∷ fix 1006000 23 6 ∷ fix 1006500 24 6 ∷ []

abbrev pub done_from : List Entry → List ℕ
done_from events = map (λ p. p.moment) (from 23 (messages_of (receiver_of two_devices) 0 (reverse events)))

-- one message in each, the same
abbrev pub SameAlone : Type 0
SameAlone = from 23 (messages_of (receiver_of two_devices) 0 (reverse in_turn)) ≡ from 23 (messages_of (receiver_of two_devices) 0 (reverse alone))

abbrev pub OneDone : Type 0
OneDone = done_from alone ≡ 1006000 ∷ []

-- while 24 has the one session for which there is room, 23 asks the node at 50 for one: that is no matter of the gateway, which
-- says nothing of it and has refused nothing of 23
abbrev pub elsewhere : List Entry
elsewhere = tick 10000000 ∷ full when_ready 0x1CECFB18 0x10F906FFFF05F801 ∷ full (when_ready + 1000) 0x1CEC3217 0x10F906FFFF05F801 ∷ []

abbrev pub Unheard : Type 0
Unheard = Emits one_slot 10000000 elsewhere (emitted when_ready (can_frame 0x1CEC18FB 0x110801FFFF05F801) ∷ [])

abbrev pub NotRefused : Type 0
NotRefused = NoneRefused (receiver_of one_slot) 10000000 (reverse elsewhere) 23
