-- Turns between two links, whose receives and sends fail at times.
use Rattle.std.specs.Prelude.{◌≡◌, Bool, true, false, List, [], ◌∷◌, ◌++◌, Some, None, Ok, Err, codes}
use Rattle.std.specs.List.{flat_map}
use Rattle.report_rules.specs.Rules.{capture_form, datagram_header, expired, receive_failed, unclaimed}
use Rattle.gate_events.specs.declared.emit.Detail.TheVariants.{At, Bus, Line, Net, Source}
use Rattle.gate_outside.specs.Link.{Outcome}
use Rattle.history.specs.Cases.{can_frame, emitted, navd, started}
use Rattle.history.specs.Emits.{broken}
use Rattle.capture_stream.specs.Progress.{with_lf}
use Rattle.bridge.specs.PartCases.{alone}
use Rattle.bridge.specs.BridgeSettings.{BridgeSettings}
use Rattle.serving.specs.Served.{Tried, to_bus, to_text}
use Rattle.serving.specs.Turns.{all_made, due_of, made, recorded, told}

abbrev pub nothing : Outcome
nothing = Ok None

abbrev pub failed : Outcome
failed = Err (record {})

-- A heading from the bus while the network fails; then the bus fails, and the clock has gone back; then a text that is no frame comes; then the
-- same heading from a device that nobody has heard of. A frame's own time is none, and the end of its line is no part of it.
abbrev pub ReceivesFail : Type 0
ReceivesFail =
    due_of alone (10000000 ∷ 10100000 ∷ 10050000 ∷ 10200000 ∷ 10300000 ∷ [])
    (nothing
    ∷ Ok (Some (codes "(1.000000) can0 09F11217#005C3DFF7FFF7FFC" ++ 13 ∷ 10 ∷ []))
    ∷ failed
    ∷ Ok (Some (codes "(1.000000) tick"))
    ∷ Ok (Some (codes "(1.000000) can0 09F11219#005C3DFF7FFF7FFC"))
    ∷ [])
    (nothing ∷ failed ∷ nothing ∷ nothing ∷ nothing ∷ [])
    ≡ all_made (started 10000000)
    ++ (made (emitted 10100000 (navd (codes "s:II0001,n:1*01") (codes "$HEHDT,90.0,T*16")))
    ∷ told (emitted 10100000 (broken receive_failed Net))
    ∷ told (emitted 10100000 (broken receive_failed Bus))
    ∷ told (emitted 10200000 (broken capture_form (Line 4)))
    ∷ made (emitted 10300000 (broken unclaimed (Source 25 127250)))
    ∷ [])

abbrev pub recording : BridgeSettings
recording = record alone { records = true }

-- A run that is recorded: the start, at which nothing comes; a heading, whose own time is none; the first frame of a message, and a datagram of
-- no bytes; and then nothing, so that the message is given up while the bus fails.
abbrev pub ARunIsRecorded : Type 0
ARunIsRecorded =
    due_of recording (10000000 ∷ 10100000 ∷ 10200000 ∷ 12000000 ∷ [])
    (nothing
    ∷ Ok (Some (codes "(1.000000) can0 09F11217#005C3DFF7FFF7FFC"))
    ∷ Ok (Some (codes "(1.000000) can0 0DF80517#002B020304050607"))
    ∷ failed
    ∷ [])
    (nothing ∷ nothing ∷ Ok (Some []) ∷ nothing ∷ [])
    ≡ (recorded (codes "(10.000000) tick start") ∷ all_made (started 10000000))
    ++ (recorded (codes "(10.100000) can0 09F11217#005C3DFF7FFF7FFC")
    ∷ made (emitted 10100000 (navd (codes "s:II0001,n:1*01") (codes "$HEHDT,90.0,T*16")))
    ∷ recorded (codes "(10.200000) can0 0DF80517#002B020304050607")
    ∷ recorded (codes "(10.200000) udp0 RECV#")
    ∷ made (emitted 10200000 (broken datagram_header (At 0)))
    ∷ told (emitted 12000000 (broken receive_failed Bus))
    ∷ recorded (codes "(12.000000) tick")
    ∷ made (emitted 12000000 (broken expired (Source 23 129029)))
    ∷ [])

-- a frame, a datagram and a report, where the sends of the first two fail, and where they don't
abbrev pub three : Bool → List Tried
three fails =
    record { due = made (emitted 10000000 (can_frame 0x18EEFFFB 0x0100C0FF008232C0)); failed = fails }
    ∷ record { due = made (emitted 10100000 (navd (codes "s:II0001,n:1*01") (codes "$HEHDT,90.0,T*16"))); failed = fails }
    ∷ record { due = told (emitted 10200000 (broken capture_form (Line 4))); failed = false }
    ∷ []

-- what couldn't be sent is reported in its place
abbrev pub SendsFail : Type 0
SendsFail =
    flat_map to_text (three true)
    ≡ flat_map with_lf (codes "(10.000000) rule 50 link=bus" ∷ codes "(10.100000) rule 50 link=net" ∷ codes "(10.200000) rule 1 line=4" ∷ [])

abbrev pub FramesAreLines : Type 0
FramesAreLines = flat_map to_bus (three false) ≡ (codes "CAN0", codes "(10.000000) can0 18EEFFFB#0100C0FF008232C0") ∷ []

abbrev pub ReportsAreLines : Type 0
ReportsAreLines = flat_map to_text (three false) ≡ flat_map with_lf (codes "(10.200000) rule 1 line=4" ∷ [])
