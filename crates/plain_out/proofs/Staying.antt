-- Lines of TAG blocks and a sentence each are read as these sentences, and the sentences stay.
use Rattle.std.proofs.Common.{◌≡◌, ℕ, zero, suc, ◌+◌, ◌≤◌, List, [], ◌∷◌, ◌++◌, All, length, refl, sym, ap, subst, ◌∙◌, arith}
use Rattle.std.specs.List.{flat_map}
use Rattle.std.proofs.lemmas.List.{append-nil}
use Rattle.std.proofs.lemmas.List.Concat.{flat_map-cons}
use Rattle.std.proofs.lemmas.List.Elements.{All-nil, All-cons}
use Rattle.datagram450.specs.Datagram.{DatagramOf, IsLine, Item, all_of, bad, header, items_at, line, most_lines}
use Rattle.datagram450.proofs.Datagrams.{is_read}
use Rattle.datagram450.proofs.LineBytes.{is_line}
use Rattle.datagram450.proofs.Spelled.{line_read}
use Rattle.plain_out.specs.Laws.{AreLinesOf, AreSaid, LinesAreRead, SentencesStay, WhatIsReadStays}
use Rattle.plain_out.specs.Plain.{sentence_of, sentences_of}

are_lines : (ls ts : List (List ℕ)) → AreLinesOf ls ts → All IsLine ls
are_lines [] ts are = All-nil IsLine
are_lines (l ∷ ls) [] are = absurd are
are_lines (l ∷ ls) (t ∷ ts) are = All-cons IsLine l ls (is_line are.0.0 t are.0.1 l are.0.2) (are_lines ls ts are.1)

all_said : (left at : ℕ) (ls ts : List (List ℕ)) → AreLinesOf ls ts → length ls ≤ left → AreSaid (items_at left at ls []) ts
all_said left at [] [] are few = tt
all_said left at [] (t ∷ ts) are few = absurd are
all_said left at (l ∷ ls) [] are few = absurd are
all_said zero at (l ∷ ls) (t ∷ ts) are few = absurd (omega (arith, few))
all_said (suc left) at (l ∷ ls) (t ∷ ts) are few =
    let more = items_at left (at + length l) ls [] in
    subst (λ (i : Item). AreSaid (i ∷ more) (t ∷ ts)) (sym (line_read at are.0.0 t are.0.1 l are.0.2))
    (refl, all_said left (at + length l) ls ts are.1 (omega (arith, few)))

pub lines_are_read : LinesAreRead
lines_are_read ls ts are few short =
    let items = items_at most_lines 6 ls [] in
    let whole : DatagramOf items (header ++ all_of ls) = record {
      body = all_of ls;
      cut = record { lines = ls; rest = [] };
      is_cut = record { each = are_lines ls ts are; last = refl; spelled = sym (append-nil (all_of ls)) };
      begins = refl;
      most = short;
      gives = refl;
    } in
    record { items = items; is_read = is_read items (header ++ all_of ls) whole; are_said = all_said most_lines 6 ls ts are few }

said_stay : (items : List Item) (ts : List (List ℕ)) → AreSaid items ts → flat_map sentence_of items ≡ all_of ts
said_stay [] [] are = refl
said_stay [] (t ∷ ts) are = absurd are
said_stay (line at said text parts ∷ items) (t ∷ ts) are =
    flat_map-cons sentence_of (line at said text parts) items
    ∙ ap (λ (x : List ℕ). x ++ flat_map sentence_of items) are.0
    ∙ ap (λ (x : List ℕ). t ++ x) (said_stay items ts are.1)
    ∙ sym (flat_map-cons (λ (x : List ℕ). x) t ts)
said_stay (line at said text parts ∷ items) [] are = absurd are
said_stay (bad rule at ∷ items) ts are = absurd are

pub what_is_read_stays : WhatIsReadStays
what_is_read_stays bytes ts says = ap sentences_of says.is_read ∙ said_stay says.items ts says.are_said

pub sentences_stay : SentencesStay
sentences_stay ls ts are few short = what_is_read_stays (header ++ all_of ls) ts (lines_are_read ls ts are few short)
