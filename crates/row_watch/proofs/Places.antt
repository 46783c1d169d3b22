-- Datagrams that are said once more as plain sentences, and their lengths.
use Rattle.std.proofs.Common.{◌≡◌, ℕ, ◌+◌, ◌%◌, ◌<◌, ◌≤◌, List, ◌++◌, length, length-append, drop, get_or, map, sym, ap, ◌∙◌, append_assoc, arith}
use Rattle.std.proofs.lemmas.List.{at_drop_more}
use Rattle.std.proofs.lemmas.List.Concat.{flat_map-cons}
use Rattle.std.specs.Prelude.{None}
use Rattle.sentence_text.specs.Names.{IsSfi}
use Rattle.tag_block.specs.Tag.{most_count}
use Rattle.tag_block.specs.declared.writing.TagParts.{TagParts}
use Rattle.datagram450.specs.Datagram.{header, line_text, sentence_datagram}
use Rattle.gate_events.specs.Emit.{Emit}
use Rattle.gate_model.proofs.SaidFits.{lines_fit}
use Rattle.plain_out.specs.Plain.{plain_of, plain_out}
use Rattle.row_watch.specs.Alerts.{longest_alert, told_emit}
use Rattle.row_watch.specs.declared.alerts.Told.{Told}

-- one more is said
pub one_more : (group : List ℕ) (all : List Told) (i : ℕ) (d : Told) (said more : List Emit) → i < length all → more ≡ said ++ plain_of group (told_emit (get_or all i d))
    → more ++ plain_out group (map told_emit (drop (i + 1) all)) ≡ said ++ plain_out group (map told_emit (drop i all))
one_more group all i d said more within is =
    ap (λ (es : List Emit). es ++ plain_out group (map told_emit (drop (i + 1) all))) is
    ∙ append_assoc said (plain_of group (told_emit (get_or all i d))) (plain_out group (map told_emit (drop (i + 1) all)))
    ∙ ap (λ (es : List Emit). said ++ es)
    (sym (at_drop_more (λ rest. plain_out group (map told_emit rest)) all i d within
    ∙ flat_map-cons (plain_of group) (told_emit (get_or all i d)) (map told_emit (drop (i + 1) all))))

-- the datagram of a sentence that is written has at most 120 bytes
pub datagram_short : (source : List ℕ) (before : ℕ) (sentence : List ℕ) → IsSfi source → length sentence ≤ 82 → length (sentence_datagram source before sentence) ≤ longest_alert
unfolding sentence_datagram
datagram_short source before sentence sfi short =
    let tag : TagParts = record { group = None; source = source; count = before % most_count + 1 } in
    let line = lines_fit tag sentence (record { group = tt; count = omega arith; small = omega arith }) sfi short in
    omega (arith, line, length-append header (line_text tag sentence))
