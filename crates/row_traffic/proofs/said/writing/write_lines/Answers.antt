use Rattle.std.proofs.Common.{◌≡◌, ℕ, ◌+◌, ◌%◌, List, ◌++◌, length, ap, sym, ◌∙◌, length-append, arith}
use Rattle.tag_block.specs.Tag.{most_count}
use Rattle.tag_block.specs.Writing.{longest_packet}
use Rattle.datagram450.specs.Datagram.{line_text}
use Rattle.history.specs.Emits.{lines_from, part_of}
use Rattle.row_traffic.specs.Saying.{texts}
use Rattle.row_traffic.proofs.Saying.{line_here, lines_after, next_line, goes_on, has_room}
use Rattle.row_traffic.proofs.said.writing.write_lines.Goals as goal

pub loop-place-preserved : goal.loop-place-preserved
loop-place-preserved c =
    let x = c.index-sentences-place.result in
    let source : List ℕ = c.args.source in
    let code = c.args.code in
    let before = c.args.before in
    let sentences = c.args.sentences.now in
    let place = c.loop-place.place in
    let old = c.loop-place.packet.items in
    let number = (before + place) % most_count + 1 in
    let here = next_line source code before sentences place x c.loop-place-test.true (sym c.index-sentences-place.is) in
    let rest = lines_after source code before sentences place in
    let line = line_text (record { group = c.part_of.result; source = source; count = number }) c.deref.result.now in
    let same : line ≡ line_here source code before sentences place x =
    ap (λ part. line_text (record { group = part; source = source; count = number }) c.deref.result.now) c.part_of.ensures
    ∙ ap (λ bytes. line_text (record { group = part_of (length sentences) code (place + 1); source = source; count = number }) bytes)
    (c.deref.ensures.0 ∙ ap (λ t. t.bytes.items) (sym c.index-sentences-place.is)) in
    let all = lines_from source (length sentences) code before 1 (texts sentences) in
    let whole = c.args.packet.now.items ++ all in
    let is : old ++ (line ++ rest) ≡ whole =
    ap (λ l. old ++ (l ++ rest)) same ∙ ap (λ more. old ++ more) (sym here) ∙ c.loop-place.invariant.whole in
    let sum = length-append c.args.packet.now.items all in
    let room = c.requires.room in
    let fits = has_room old line rest whole longest_packet is (omega (arith, sum, room)) in
    record { whole = goes_on old c.push_line-fits.new.out.items line rest whole (c.push_line-fits.ensures.written (c.push_line-fits.ensures.fits.1 fits)) is }
