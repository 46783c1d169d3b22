-- The assembly that stands for the frames of its key, and what a frame leaves of it.
use Rattle.std.specs.Prelude.{ℕ, if◌then◌else◌, List, [], ◌∷◌, length, Option, Some, None}
use Rattle.slot_views.specs.Runs.{opener_of}
use Rattle.slot_views.specs.Slots.{Entry}
use Rattle.slot_views.specs.Traces.{Filling, if_incomplete, entry_after}
use Rattle.fast_packet.specs.declared.verdict.Verdict.{Verdict}
use Rattle.fast_packet.specs.declared.verdict.Verdict.TheVariants.{Short, Opens, Orphan, Again, OutOfOrder, Next}
use Rattle.fast_packet.specs.FastRuns.{gap, sequence_of, length_of, need_of, FastPiece, joined}
use Rattle.fast_packet.specs.Assembly.{mark_of, verdict, opening, extended}

-- the assembly that the frames accepted so far make
abbrev pub assembly_of : List FastPiece → Option Entry
assembly_of [] = None
assembly_of (x ∷ xs) =
    let first = (opener_of x xs).bytes in
    Some (record {
      bytes = joined (length_of first) (x ∷ xs);
      next = length (x ∷ xs);
      need = need_of (length_of first);
      last = x.moment;
      gap = gap;
      mark = mark_of (sequence_of first) (length_of first);
    })

abbrev pub assembly_at : Option (List FastPiece) → Option Entry
assembly_at None = None
assembly_at (Some acc) = assembly_of acc

-- what a frame leaves of the assembly of its key
abbrev pub grown_by : ℕ → FastPiece → Option Entry → Option Entry
grown_by end x None = None
grown_by end x (Some e) = if_incomplete (extended end x.bytes x.moment e)

abbrev pub left_by : Verdict → FastPiece → Option Entry → Option Entry
left_by Short x o = None
left_by Opens x o = if x.admitted then if_incomplete (opening x.bytes x.moment) else None
left_by Orphan x o = o
left_by Again x o = o
left_by OutOfOrder x o = None
left_by (Next end) x o = grown_by end x o

-- frames fill assemblies
abbrev pub filling : Filling FastPiece
filling = record { moment = λ x. x.moment; admitted = λ x. x.admitted; step = λ o x. left_by (verdict o x.bytes) x o }

-- the assembly of one key after its frames
abbrev pub assembly_after : List FastPiece → Option Entry
assembly_after h = entry_after filling h
