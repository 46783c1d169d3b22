-- What is read of a content up to one byte more than a limit.
use Rattle.std.proofs.Common.{◌≡◌, ℕ, ◌+◌, ◌^◌, ◌≤◌, List, ◌∙◌, [], ◌++◌, length, take, ap, subst, arith}
use Rattle.std.specs.Prelude.{Option, Some, None, Ok, option_map, IfSome}
use Rattle.std.specs.Global.{Vec}
use Rattle.std.proofs.lemmas.List.{length-take, take_all}
use Rattle.gate_outside.specs.Files.{Loads}

whole : (n : ℕ) (content : List ℕ) → length (take (n + 1) content) ≤ n → take (n + 1) content ≡ content
whole n content le = take_all (n + 1) content (omega (arith, le, length-take (n + 1) content))

within : (n : ℕ) (content bytes : List ℕ) → bytes ≡ take (n + 1) content → length bytes ≤ n → (bytes ≡ content) × (length content ≤ n)
within n content bytes is le =
    let same : bytes ≡ content = is ∙ whole n content (omega (arith, le, ap length is)) in
    (same, omega (arith, le, ap length same))

-- what is read to its end within the limit is the whole content
loads_known : (known : Option (List ℕ)) (bytes : Vec ℕ) → IfSome (option_map (λ content. take (2 ^ 20 + 1) content) known) (λ some. bytes.items ≡ some)
    → length bytes.items ≤ 2 ^ 20 → Loads known (Ok bytes)
loads_known None bytes is le = le
loads_known (Some content) bytes is le = within (2 ^ 20) content bytes.items is le

abbrev Reads : Option (List ℕ) → ℕ → List ℕ → List ℕ → Type 0
Reads known limit old bytes = IfSome (option_map (λ content. take limit content) known) (λ some. bytes ≡ old ++ some)

pub loads_whole : (R : Type 0) (remaining : R → Option (List ℕ)) (reader inner : R) (limit : ℕ) (old : List ℕ) (bytes : Vec ℕ) → limit ≡ 2 ^ 20 + 1 → inner ≡ reader → old ≡ []
    → IfSome (option_map (λ content. take limit content) (remaining inner)) (λ some. bytes.items ≡ old ++ some) → length bytes.items ≤ 2 ^ 20 → Loads (remaining reader) (Ok bytes)
loads_whole R remaining reader inner limit old bytes upto within none reads le =
    let by_limit : Reads (remaining inner) (2 ^ 20 + 1) old bytes.items = subst (λ (n : ℕ). Reads (remaining inner) n old bytes.items) upto reads in
    let by_reader : Reads (remaining reader) (2 ^ 20 + 1) old bytes.items = subst (λ (r : R). Reads (remaining r) (2 ^ 20 + 1) old bytes.items) within by_limit in
    let from_none : Reads (remaining reader) (2 ^ 20 + 1) [] bytes.items = subst (λ (xs : List ℕ). Reads (remaining reader) (2 ^ 20 + 1) xs bytes.items) none by_reader in
    loads_known (remaining reader) bytes from_none le
