-- What is sent, as it is heard.
use Rattle.std.specs.List.{AllByRecursion}
use Rattle.std.proofs.Common.{◌≡◌, ℕ, ◌%◌, List, [], ◌∷◌, map, refl, ap, arith}
use Rattle.n2k_id.specs.Frame.{BusFrame}
use Rattle.n2k_id.specs.declared.identifier_parts.Parts.{Parts}
use Rattle.n2k_id.specs.Identifier.{identifier_of, parts_of}
use Rattle.n2k_id.proofs.PartsLemmas.{parts_of_identifier_of}
use Rattle.fast_packet.specs.FastRuns.{frames_of}
use Rattle.fast_packet.proofs.SplitRuns.{split_runs}
use Rattle.bus_identity.specs.Answers.{frame_by}
use Rattle.bus_identity.specs.Laws.{MessagesAreHeard}

each_has : (parts : Parts) (pieces : List (List ℕ)) → parts_of (identifier_of parts) ≡ parts
    → AllByRecursion (λ (f : BusFrame). parts_of f.id ≡ parts) (map (frame_by parts) pieces)
each_has parts [] same = tt
each_has parts (x ∷ xs) same = (same, each_has parts xs same)

held_is : (parts : Parts) (pieces : List (List ℕ)) → map (λ (f : BusFrame). f.held) (map (frame_by parts) pieces) ≡ pieces
held_is parts [] = refl
held_is parts (x ∷ xs) = ap {B = List (List ℕ)} (λ l. x ∷ l) (held_is parts xs)

pub heard : MessagesAreHeard
heard parts before payload can destination source some fits =
    let held = held_is parts (frames_of (before % 8) payload) in
    record {
      each = each_has parts (frames_of (before % 8) payload) (parts_of_identifier_of parts can destination source);
      run = rw held (split_runs (before % 8) payload (omega arith) some fits);
    }
