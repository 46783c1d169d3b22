-- What a gateway emits: reports, claims, requests and replies; and the datagram in which a selected message is said (IEC 61162-450), with
-- the counters of what was said.
use Rattle.std.specs.Prelude.{ℕ, Bool, true, false, List, [], ◌∷◌, ◌++◌, map, Option, Some, None, if◌then◌else◌, ◌+◌, ◌%◌, nat_le, length}
use Rattle.n2k_id.specs.Identifier.{identifier_of}
use Rattle.n2k_id.specs.Name.{name_bytes}
use Rattle.gate_events.specs.declared.emit.Detail.{Detail}
use Rattle.gate_events.specs.declared.emit.Detail.TheVariants as detail
use Rattle.gate_events.specs.declared.emit.Report.{Report}
use Rattle.gate_events.specs.Emit.{Emit, Emitted, can, report}
use Rattle.iso_transport.specs.declared.reply.Reply.{Reply}
use Rattle.iso_transport.specs.Replies.{reply_bytes}
use Rattle.n2k_id.specs.Pgns as pgns
use Rattle.tag_block.specs.declared.group_part.GroupPart.{GroupPart}
use Rattle.tag_block.specs.Tag.{most_count}
use Rattle.tag_block.specs.Writing.{most_written_code}
use Rattle.datagram450.specs.Datagram.{header, line_text}
use Rattle.history.specs.Settings.{same_text}

abbrev pub at : ℕ → List Emit → List Emitted
at m emits = map (λ e. record { moment = m; emit = e }) emits

-- a rule that was broken
abbrev pub report_of : ℕ → Detail → Report
report_of rule what = record { rule = rule; detail = what }

-- a row of a table of rules: whether the rule was broken, and what is reported then
pub record Rule : Type 0 where
  pub broken : Bool
  pub report : Report

abbrev pub breaks : Bool → ℕ → Detail → Rule
breaks it rule what = record { broken = it; report = report_of rule what }

-- the rules of a table that were broken, in its order
abbrev pub broken_of : List Rule → List Report
broken_of [] = []
broken_of (rule ∷ table) = (if rule.broken then rule.report ∷ [] else []) ++ broken_of table

abbrev pub reported : List Report → List Emit
reported reports = map report reports

abbrev pub broken : ℕ → Detail → Emit
broken rule what = report (report_of rule what)

-- with the source and the PGN
abbrev pub of_source : ℕ → ℕ → ℕ → Emit
of_source rule source pgn = broken rule (detail.Source source pgn)

abbrev pub sent : ℕ → ℕ → ℕ → ℕ → List ℕ → Emit
sent priority pgn destination source held =
    can (record { id = identifier_of (record { priority = priority; pgn = pgn; destination = destination; source = source }); held = held })

-- the claim of an address by a NAME (ISO 11783-5); a device that can claim none says so from address 254
abbrev pub claim_frame : ℕ → ℕ → Emit
claim_frame name address = sent 6 pgns.address_claimed 255 address (name_bytes name)

abbrev pub own_claim : ℕ → Option ℕ → Emit
own_claim name None = claim_frame name 254
own_claim name (Some address) = claim_frame name address

-- the request for the claims of all
abbrev pub request_for_claims : ℕ → Emit
request_for_claims address = sent 6 pgns.request 255 address (0x00 ∷ 0xEE ∷ 0x00 ∷ [])

-- a reply of the transport protocol (ISO 11783-3); without an own address there is none
abbrev pub reply_from : Option ℕ → ℕ → Reply → List Emit
reply_from None destination reply = []
reply_from (Some own) destination reply = sent 7 pgns.connection_management destination own (reply_bytes reply) ∷ []

abbrev pub replied : Option ℕ → ℕ → Option Reply → List Emit
replied own destination None = []
replied own destination (Some reply) = reply_from own destination reply

-- whether anything is emitted
abbrev pub is_there : List Emit → Bool
is_there [] = false
is_there (e ∷ es) = true

-- ---- counters (IEC 61162-450): over all that was spoken before

-- a datagram that was said: its transmission group, and how many sentences it had
pub record Spoken : Type 0 where
  pub group : List ℕ
  pub lines : ℕ

-- the sentences on a transmission group, and the groups of lines, whichever transmission group they were on
abbrev pub lines_on : List ℕ → List Spoken → ℕ
lines_on group [] = 0
lines_on group (x ∷ xs) = if same_text x.group group then lines_on group xs + x.lines else lines_on group xs

abbrev pub line_groups : List Spoken → ℕ
line_groups [] = 0
line_groups (x ∷ xs) = if nat_le 2 x.lines then line_groups xs + 1 else line_groups xs

-- the code of a line group is from 1 to 99, in turn
abbrev pub next_code : List Spoken → ℕ
next_code before = line_groups before % most_written_code + 1

-- ---- the datagram

-- a sentence by itself has no group; of several each has its number
abbrev pub part_of : ℕ → ℕ → ℕ → Option GroupPart
part_of total code number = if nat_le 2 total then Some (record { number = number; total = total; code = code }) else None

-- so many lines were said before on the transmission group, modulo the greatest count
abbrev pub lines_from : List ℕ → ℕ → ℕ → ℕ → ℕ → List (List ℕ) → List ℕ
lines_from sfi total code before number [] = []
lines_from sfi total code before number (x ∷ xs) =
    line_text (record { group = part_of total code number; source = sfi; count = before % most_count + 1 }) x
    ++ lines_from sfi total code (before + 1) (number + 1) xs

abbrev pub datagram_of : List ℕ → List Spoken → List ℕ → List (List ℕ) → List ℕ
datagram_of sfi before group sentences = header ++ lines_from sfi (length sentences) (next_code before) (lines_on group before) 1 sentences
