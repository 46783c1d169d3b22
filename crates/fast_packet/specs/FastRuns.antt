-- Fast packets, as canboat describes them: how a frame is laid out, which frames of one sender and PGN are a message, and the frames
-- in which a message is sent.
--
-- Byte 0 of a frame holds the frame counter in its low 5 bits and the sequence in its high 3 bits; frame 0 has the length of the message
-- in byte 1, and 6 bytes of it from byte 2 on; each later frame has 7 from byte 1 on.
use Rattle.std.specs.Prelude.{ℕ, zero, suc, ◌+◌, ◌-◌, ◌*◌, ◌/◌, ◌%◌, Bool, ◌&&◌, ◌||◌, ◌==◌, nat_le, min, if◌then◌else◌, List, length, take, drop, slice_index, false, nat_eq, nat_lt, [], ◌∷◌, ◌++◌, ◌≤◌, slice_index_or}
use Rattle.std.specs.Cmp.Lexicographic.{pointwise}
use Rattle.slot_views.specs.Runs.{Rules, opener_of}

-- the longest message, in bytes
abbrev pub longest : ℕ
longest = 223

-- how long the next frame may take, in microseconds
abbrev pub gap : ℕ
gap = 750000

abbrev pub counter_of : List ℕ → ℕ
counter_of bytes = slice_index bytes 0 % 32

abbrev pub sequence_of : List ℕ → ℕ
sequence_of bytes = slice_index bytes 0 / 32

-- the length that frame 0 announces
abbrev pub length_of : List ℕ → ℕ
length_of bytes = slice_index bytes 1

-- how many frames a message of this length has: 6 bytes are in frame 0, and 7 in each other, the last one filled up
abbrev pub need_of : ℕ → ℕ
need_of len = if nat_le len 6 then 1 else 1 + ((len - 6) + 6) / 7

-- how many bytes of a message are left after its first k frames, where k is at least 1
abbrev pub left_after : ℕ → ℕ → ℕ
left_after len k = (len - 6) - 7 * (k - 1)

-- a frame 0 with a length from 1 to the longest that holds what it owes
abbrev pub is_opener : List ℕ → Bool
is_opener bytes = (counter_of bytes == 0) && (nat_le 1 (length_of bytes) && (nat_le (length_of bytes) longest
    && nat_le (2 + min 6 (length_of bytes)) (length bytes)))

-- no later frame: it has no byte, or the counter 0
abbrev pub is_no_later : List ℕ → Bool
is_no_later bytes = (length bytes == 0) || (counter_of bytes == 0)

-- the bytes of the message that the two kinds owe
abbrev pub first_piece : List ℕ → List ℕ
first_piece bytes = take (min 6 (length_of bytes)) (drop 2 bytes)

abbrev pub later_piece : ℕ → List ℕ → List ℕ
later_piece left bytes = take (min 7 left) (drop 1 bytes)

-- ---- a message is a run of frames

-- a frame, as it is to its run
pub record FastPiece : Type 0 where
  pub moment : ℕ
  pub bytes : List ℕ
  pub admitted : Bool

-- the frame has the sequence of the frames that are open and the counter of the next one
abbrev pub is_awaited : List FastPiece → FastPiece → Bool
is_awaited [] x = false
is_awaited (y ∷ ys) x = (counter_of x.bytes == length (y ∷ ys)) && (sequence_of x.bytes == sequence_of (opener_of y ys).bytes)

-- the next frame has the number of frames so far as its counter, the sequence of frame 0, and what it owes
abbrev pub is_next : List FastPiece → FastPiece → Bool
is_next [] x = false
is_next (y ∷ ys) x =
    let first = (opener_of y ys).bytes in
    let k = length (y ∷ ys) in
    (counter_of x.bytes == k) && ((sequence_of x.bytes == sequence_of first) && (nat_lt k (need_of (length_of first))
    && nat_le (1 + min 7 (left_after (length_of first) k)) (length x.bytes)))

-- a repeat is the last frame again, of 8 bytes, where that was a next one, so not frame 0, and isn't the last frame of the message
abbrev pub is_repeat : List FastPiece → FastPiece → Bool
is_repeat [] x = false
is_repeat (y ∷ ys) x =
    (length x.bytes == 8) && (is_next ys y && (nat_lt (length (y ∷ ys)) (need_of (length_of (opener_of y ys).bytes)) && pointwise nat_eq x.bytes y.bytes))

abbrev pub fast_rules : Rules FastPiece
fast_rules = record {
  moment = λ x. x.moment;
  admitted = λ x. x.admitted;
  opens = λ x. is_opener x.bytes;
  need = λ x. need_of (length_of x.bytes);
  is_next = is_next;
  is_repeat = is_repeat;
  gap = λ acc. gap;
}

-- the bytes of a message of this length in some of its frames, in order
abbrev pub joined : ℕ → List FastPiece → List ℕ
joined len [] = []
joined len (x ∷ []) = first_piece x.bytes
joined len (x ∷ y ∷ ys) = joined len (y ∷ ys) ++ later_piece (left_after len (length (y ∷ ys))) x.bytes

-- the payload of a run
abbrev pub payload : List FastPiece → List ℕ
payload [] = []
payload (x ∷ xs) = joined (length_of (opener_of x xs).bytes) (x ∷ xs)

-- ---- the frames of a message

-- m bytes of a message from place o on, and 255 past its end
abbrev pub filled : List ℕ → ℕ → ℕ → List ℕ
filled p o zero = []
filled p o (suc m) = slice_index_or p o 255 ∷ filled p (o + 1) m

abbrev pub first_frame : ℕ → List ℕ → List ℕ
first_frame sequence p = (32 * sequence) ∷ length p ∷ filled p 0 6

-- frame j + 1
abbrev pub later_frame : ℕ → List ℕ → ℕ → List ℕ
later_frame sequence p j = (32 * sequence + (j + 1)) ∷ filled p (6 + 7 * j) 7

-- frames 0 to j
unfoldable pub frames_to : ℕ → List ℕ → ℕ → List (List ℕ)
frames_to sequence p zero = first_frame sequence p ∷ []
frames_to sequence p (suc j) = frames_to sequence p j ++ later_frame sequence p j ∷ []

abbrev pub frames_of : ℕ → List ℕ → List (List ℕ)
frames_of sequence p = frames_to sequence p (need_of (length p) - 1)

-- the message has frames, and there is room for them after those that are there
pub record CanSplit (sequence : ℕ) (p : List ℕ) (frames : List (List ℕ)) : Type 0 where
  pub sequence_fits : sequence ≤ 7
  pub some : 1 ≤ length p
  pub fits : length p ≤ longest
  pub room : length frames + need_of (length p) ≤ 32
