-- A block's content and its sum, while the content is read.
use Rattle.std.specs.Prelude.{ℕ, ◌-◌, List, length, take, Result, Ok, Err}
use Rattle.tag_block.specs.declared.fault.TagFault.{TagFault}
use Rattle.tag_block.specs.declared.values.Content.{Content}
use Rattle.tag_block.specs.Reading.{Scan, scan}

-- the bytes read since these were still to be read, where those are now
abbrev pub bytes_between : List ℕ → List ℕ → List ℕ
bytes_between before after = take (length before - length after) before

-- what was read, without its sum
abbrev pub seen_content : Result Content TagFault → Result Scan TagFault
seen_content (Ok c) = Ok (scan c.scan)
seen_content (Err f) = Err f
