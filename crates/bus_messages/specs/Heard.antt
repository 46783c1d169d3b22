-- What is reported of a frame of a fast packet (canboat), and the payload that is lent.
use Rattle.std.specs.Prelude.{ℕ, List, ◌++◌, Option, option_map}
use Rattle.std.specs.Borrow.{Bor}
use Rattle.gate_events.specs.declared.emit.Report.{Report}
use Rattle.n2k_id.specs.declared.identifier_parts.Parts.{Parts}
use Rattle.history.specs.RuleLaws.{fast_refusal_breaks}
use Rattle.gate_model.specs.FastPackets.{FastAnswer, sender_of, restarted_reports}

-- the rules that it breaks, before what its payload says is known
abbrev pub heard_reports : Parts → FastAnswer → List Report
heard_reports parts answer = restarted_reports parts answer.restarted ++ fast_refusal_breaks (sender_of parts) answer.refused

abbrev pub lent_payload : Option (Bor (List ℕ)) → Option (List ℕ)
lent_payload lent = option_map (λ bytes. bytes.now) lent
