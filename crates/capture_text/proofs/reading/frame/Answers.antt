use Rattle.std.proofs.Common.{refl, sym, ◌∙◌}
use Rattle.capture_text.proofs.Frames.{no_hash_told, short_told, wide_told}
use Rattle.capture_text.proofs.reading.frame.Goals as goal

pub returns-in-Some-clause-reads : goal.returns-in-Some-clause-reads
returns-in-Some-clause-reads c =
    short_told c.args.tail.now _ _ _ _ (sym c.byte_at.ensures ∙ c.if-byte_at-ne32.false) refl c.in-Some.ensures c.short_frame.ensures

pub returns-in-Some-split_at_hash-clause-reads : goal.returns-in-Some-split_at_hash-clause-reads
returns-in-Some-split_at_hash-clause-reads c =
    wide_told c.args.tail.now _ _ _ _ (sym c.byte_at.ensures ∙ c.if-byte_at-ne32.false) refl c.in_default.ensures c.in-Some-split_at_hash.ensures c.wide_frame.ensures.reads

pub returns-in-None-clause-reads : goal.returns-in-None-clause-reads
returns-in-None-clause-reads c =
    no_hash_told c.args.tail.now _ (sym c.byte_at.ensures ∙ c.if-byte_at-ne32.false) refl c.in_default.ensures c.in-None.ensures
