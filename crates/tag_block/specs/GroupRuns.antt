-- What a group of lines is: a run of lines of one sender and code, numbered from 1, with one total.
use Rattle.std.specs.Prelude.{ℕ, ◌+◌, Bool, false, ◌&&◌, ◌==◌, nat_lt, List, [], ◌∷◌, ◌++◌, length}
use Rattle.slot_views.specs.Runs.{Rules, opener_of}
use Rattle.tag_block.specs.declared.group_part.GroupPart.{GroupPart}

-- how long the next line of a group may take, in microseconds
abbrev pub group_gap : ℕ
group_gap = 750000

-- a line, as it is to its group
pub record GroupLine : Type 0 where
  pub moment : ℕ
  pub part : GroupPart
  pub sentence : List ℕ
  pub admitted : Bool

-- the next line has the number after those so far, and the total of the first
abbrev pub is_next : List GroupLine → GroupLine → Bool
is_next [] x = false
is_next (y ∷ ys) x =
    let total = (opener_of y ys).part.total in
    let k = length (y ∷ ys) in
    (x.part.number == k + 1) && ((x.part.total == total) && nat_lt k total)

-- no line is a repeat; each may take 750 ms
abbrev pub group_rules : Rules GroupLine
group_rules = record {
  moment = λ x. x.moment;
  admitted = λ x. x.admitted;
  opens = λ x. x.part.number == 1;
  need = λ x. x.part.total;
  is_next = is_next;
  is_repeat = λ acc x. false;
  gap = λ acc. group_gap;
}

-- the sentences of some lines, one after the other
abbrev pub sentences_of : List GroupLine → List ℕ
sentences_of [] = []
sentences_of (x ∷ []) = x.sentence
sentences_of (x ∷ y ∷ ys) = sentences_of (y ∷ ys) ++ x.sentence
