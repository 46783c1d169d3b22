-- The rules that a report can name, in the order of their numbers: definitions cite them, and the constants of the code are
-- these numbers.
use Rattle.std.specs.Prelude.{ℕ, List, [], ◌∷◌}

-- a line of a capture has none of the forms of a capture
abbrev pub capture_form : ℕ
capture_form = 1

-- a line of a capture has more bytes than a line may have
abbrev pub line_long : ℕ
line_long = 2

-- an event is earlier than one that came before it
abbrev pub moment_back : ℕ
moment_back = 3

-- a frame of a capture is no data frame with a 29-bit identifier
abbrev pub not_extended : ℕ
not_extended = 4

-- a line of a capture says something that has no sentence
abbrev pub not_converted : ℕ
not_converted = 5

-- the gateway's own address is another one, or it has none any more
abbrev pub own_address : ℕ
own_address = 9

-- a frame came from an address that no device has claimed
abbrev pub unclaimed : ℕ
unclaimed = 10

-- a frame of a fast packet isn't the next one of what is open
abbrev pub fast_order : ℕ
fast_order = 11

-- a later frame of a fast packet has no open one that it could go on with
abbrev pub fast_orphan : ℕ
fast_orphan = 12

-- a frame of a fast packet announces no length that can be, or is shorter than it owes
abbrev pub fast_length : ℕ
fast_length = 13

-- a message began again before the one that was open had ended
abbrev pub restarted : ℕ
restarted = 14

-- a message began while as many were open as there is room for
abbrev pub slots_full : ℕ
slots_full = 15

-- a message wasn't gone on with in time
abbrev pub expired : ℕ
expired = 16

-- a message was open of an address that changed hands
abbrev pub claim_lost : ℕ
claim_lost = 17

-- a frame of the transport protocol announces what can't be, or is shorter than it owes
abbrev pub iso_size : ℕ
iso_size = 18

-- a data packet isn't the next one of its session
abbrev pub iso_order : ℕ
iso_order = 19

-- a data packet belongs to no open session
abbrev pub iso_orphan : ℕ
iso_orphan = 20

-- the sender gave up an open session
abbrev pub iso_aborted : ℕ
iso_aborted = 21

-- a message has fewer bytes than the least that its PGN needs
abbrev pub short_message : ℕ
short_message = 22

-- another device claims an address by the gateway's own NAME
abbrev pub duplicate_name : ℕ
duplicate_name = 23

-- a frame came from the gateway's own address
abbrev pub own_address_used : ℕ
own_address_used = 24

-- a claim has no NAME or no address that can be claimed, or a request doesn't say for what
abbrev pub claim_or_request_malformed : ℕ
claim_or_request_malformed = 25

-- a command to go to an address can't be obeyed
abbrev pub command_not_obeyed : ℕ
command_not_obeyed = 26

-- a report of a ship around says what can't be passed on: another kind of message, no number of a ship, or a transceiver that isn't known
abbrev pub ais_report_outside : ℕ
ais_report_outside = 27

-- a row is taken from another device than before
abbrev pub source_changed : ℕ
source_changed = 28

-- a row that has to be said isn't said, or is said again
abbrev pub row_watched : ℕ
row_watched = 29

-- a datagram doesn't begin with its header
abbrev pub datagram_header : ℕ
datagram_header = 30

-- what follows the last line of a datagram is no line
abbrev pub line_form : ℕ
line_form = 31

-- a TAG block isn't of its form
abbrev pub tag_form : ℕ
tag_form = 32

-- a TAG block has another sum than its bytes
abbrev pub tag_sum : ℕ
tag_sum = 33

-- a line doesn't name its source
abbrev pub no_source : ℕ
no_source = 34

-- a sentence isn't of its form
abbrev pub sentence_form : ℕ
sentence_form = 35

-- a sentence has another sum than its bytes
abbrev pub sentence_sum : ℕ
sentence_sum = 36

-- a line comes from a source that isn't listed
abbrev pub unlisted_source : ℕ
unlisted_source = 37

-- a line comes from the gateway itself
abbrev pub own_line : ℕ
own_line = 38

-- a line is for another than the gateway
abbrev pub other_destination : ℕ
other_destination = 39

-- a line isn't the next one of its group of lines
abbrev pub group_order : ℕ
group_order = 40

-- a group of lines began while as many were open as there is room for
abbrev pub group_slots_full : ℕ
group_slots_full = 41

-- a group of lines wasn't gone on with in time
abbrev pub group_expired : ℕ
group_expired = 42

-- a field of a sentence isn't of its form
abbrev pub field_form : ℕ
field_form = 43

-- a field of a sentence is out of its range
abbrev pub field_range : ℕ
field_range = 44

-- the gateway can't act yet, since its claim of an address is too young or lost
abbrev pub not_ready : ℕ
not_ready = 45

-- a datagram has more lines than a datagram may have
abbrev pub too_many_lines : ℕ
too_many_lines = 46

-- a datagram has more bytes than a datagram may have
abbrev pub datagram_long : ℕ
datagram_long = 47

-- a frame or a datagram couldn't be sent
abbrev pub send_failed : ℕ
send_failed = 50

-- what came over a link couldn't be received
abbrev pub receive_failed : ℕ
receive_failed = 51

-- of the lines of a capture, and of events
abbrev pub capture_rules : List ℕ
capture_rules = capture_form ∷ line_long ∷ moment_back ∷ not_extended ∷ not_converted ∷ []

-- of the bus
abbrev pub bus_rules : List ℕ
bus_rules = own_address ∷ unclaimed ∷ fast_order ∷ fast_orphan ∷ fast_length ∷ restarted ∷ slots_full ∷ expired ∷ claim_lost ∷ iso_size ∷
    iso_order ∷ iso_orphan ∷ iso_aborted ∷ short_message ∷ duplicate_name ∷ own_address_used ∷ claim_or_request_malformed ∷
    command_not_obeyed ∷ ais_report_outside ∷ source_changed ∷ row_watched ∷ []

-- of datagrams from the network
abbrev pub network_rules : List ℕ
network_rules = datagram_header ∷ line_form ∷ tag_form ∷ tag_sum ∷ no_source ∷ sentence_form ∷ sentence_sum ∷ unlisted_source ∷ own_line
    ∷ other_destination ∷ group_order ∷ group_slots_full ∷ group_expired ∷ field_form ∷ field_range ∷ not_ready ∷
    too_many_lines ∷ datagram_long ∷ []

-- of the two links
abbrev pub link_rules : List ℕ
link_rules = send_failed ∷ receive_failed ∷ []
