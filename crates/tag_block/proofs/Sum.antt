-- The sum of the bytes that are passed while a block's content is read.
use Rattle.std.proofs.Common.{◌≡◌, ℕ, suc, ◌+◌, List, [], ◌∷◌, ◌++◌, take, drop, Ok, sym, ap, ◌∙◌, append_assoc, refl}
use Rattle.std.specs.Prelude.{slice_index, bit_xor}
use Rattle.std.specs.List.{fold}
use Rattle.std.proofs.lemmas.List.{take-append-drop}
use Rattle.std.proofs.lemmas.List.Sums.{fold-append}
use Rattle.tag_block.specs.Reading.{Scan, parameter_at}
use Rattle.tag_block.specs.Content.{bytes_between}
use Rattle.tag_block.specs.Tag.{parameter_text, xor_of}
use Rattle.tag_block.proofs.Found.{split_at_byte, content_taken, parameter_found}

-- this is the sum of the bytes between the start and here
pub record Summed (start here : List ℕ) (sum : ℕ) : Type 0 where
  pub front : List ℕ
  pub whole : start ≡ front ++ here
  pub sum_is : sum ≡ xor_of front

pub summed_between : (start here : List ℕ) (sum : ℕ) → Summed start here sum → sum ≡ xor_of (bytes_between start here)
summed_between start here sum s = s.sum_is ∙ ap xor_of (sym (content_taken s.front here start s.whole))

summed_more : (start here bytes next : List ℕ) (sum after : ℕ) → here ≡ bytes ++ next → after ≡ fold bit_xor sum bytes → Summed start here sum → Summed start next after
summed_more start here bytes next sum after whole e s = record {
  front = s.front ++ bytes;
  whole = s.whole ∙ ap (λ (x : List ℕ). s.front ++ x) whole ∙ sym (append_assoc s.front bytes next);
  sum_is = e ∙ ap (λ (n : ℕ). fold bit_xor n bytes) s.sum_is ∙ sym (fold-append bit_xor 0 s.front bytes);
}

pub summed_byte : (start here : List ℕ) (c sum : ℕ) → slice_index here 0 ≡ suc c → Summed start here sum → Summed start (drop 1 here) (bit_xor sum (suc c))
summed_byte start here c sum e s = summed_more start here (suc c ∷ []) (drop 1 here) sum (bit_xor sum (suc c)) (split_at_byte here 0 c e) refl s

pub summed_parameter : (total : ℕ) (start : List ℕ) (here t : Scan) (sum after : ℕ) → Ok t ≡ parameter_at total here → after ≡ fold bit_xor sum (bytes_between here.rest t.rest)
    → Summed start here.rest sum → Summed start t.rest after
summed_parameter total start here t sum after e f s =
    let one = parameter_found total here t (sym e) in
    let bytes = parameter_text one.p in
    summed_more start here.rest bytes t.rest sum after one.spelled (f ∙ ap (fold bit_xor sum) (content_taken bytes t.rest here.rest one.spelled)) s

-- a code of n bytes, `:`, and a value of v bytes
pub parameter_sum : (rest : List ℕ) (sum n v : ℕ) → slice_index rest n ≡ 58
    → fold bit_xor (bit_xor (fold bit_xor sum (take n rest)) 58) (take v (drop (n + 1) rest)) ≡ fold bit_xor sum (bytes_between rest (drop v (drop (n + 1) rest)))
parameter_sum rest sum n v colon =
    let text = drop (n + 1) rest in
    let bytes = take n rest ++ 58 ∷ take v text in
    let whole : rest ≡ bytes ++ drop v text =
    split_at_byte rest n 57 colon ∙ ap (λ (x : List ℕ). take n rest ++ 58 ∷ x) (sym (take-append-drop v text)) ∙ sym (append_assoc (take n rest) (58 ∷ take v text) (drop v text)) in
    sym (fold-append bit_xor sum (take n rest) (58 ∷ take v text)) ∙ ap (fold bit_xor sum) (sym (content_taken bytes (drop v text) rest whole))
