use Rattle.std.proofs.Common.{ℕ, ◌+◌, length, ap, length-append, ◌∙◌, arith}
use Rattle.hex.specs.Hex.{encode_upper, upper_digits}
use Rattle.hex.proofs.HexLemmas.{length-encode_with}
use Rattle.capture_text.proofs.Cuts.{put_back}
use Rattle.capture_text.proofs.writing.append_hex.Goals as goal

pub returns : goal.returns
returns c =
    let old = c.args.out.now.items in
    let bytes = c.args.bytes.now in
    let text = put_back _ old _ _ _ _ (encode_upper bytes) c.append.ensures.text c.as_mut_slice.ensures.value c.len-start.ensures.value c.put_from.ensures c.put_from.auto.text in
    record {
      text = text;
      len = ap length text ∙ length-append old (encode_upper bytes) ∙ ap (λ (n : ℕ). length old + n) (length-encode_with upper_digits bytes);
      fit = λ i. omega (arith, c.type_inv.bytes i);
    }
