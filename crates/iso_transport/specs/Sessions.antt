-- What the sender of a message is told after each packet, and a session as one number.
use Rattle.std.specs.Prelude.{ℕ, ◌+◌, ◌-◌, ◌*◌, ◌/◌, ◌%◌, ◌^◌, Bool, ◌&&◌, ◌==◌, min, if◌then◌else◌, Option, Some, None}
use Rattle.iso_transport.specs.declared.reply.Reply.{Reply}
use Rattle.iso_transport.specs.declared.reply.Reply.TheVariants as reply
use Rattle.iso_transport.specs.declared.session.Session.{Session}
use Rattle.iso_transport.specs.IsoRuns.{longest, greatest_window, packets_of, waits_after}

-- what its sender is told: what it may send next, of what is left no more than the window, or that the message came whole
abbrev pub granted : Session → ℕ → Reply
granted s number = reply.Cts (min s.window (packets_of s.size - number)) (number + 1) s.pgn

abbrev pub acknowledged : Session → Reply
acknowledged s = reply.EndAck s.size (packets_of s.size) s.pgn

abbrev pub reply_after : Bool → Session → ℕ → Option Reply
reply_after addressed s number = if waits_after addressed s number then Some (granted s number)
    else if addressed && (number == packets_of s.size) then Some (acknowledged s) else None

-- an addressed sender is told that its message is given up
abbrev pub abort_to : Bool → ℕ → ℕ → Option Reply
abort_to addressed reason pgn = if addressed then Some (reply.Abort reason pgn) else None

-- a session as one number, whose digits are the window, the size and the PGN
abbrev pub mark_of : Session → ℕ
mark_of s = (s.pgn * (longest + 1) + s.size) * greatest_window + (s.window - 1)

abbrev pub session_at : ℕ → Session
session_at mark =
    record { pgn = mark / (greatest_window * (longest + 1)) % 2 ^ 24; size = mark / greatest_window % (longest + 1); window = mark % greatest_window + 1 }
