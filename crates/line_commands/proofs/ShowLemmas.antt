-- The line that `show` writes of an item of a datagram, put together from its pieces.
use Rattle.std.proofs.Common.{◌≡◌, ℕ, List, [], ◌∷◌, ◌++◌, sym, ap, ◌∙◌}
use Rattle.std.specs.Prelude.{option_map}
use Rattle.std.specs.Borrow.{Bor}
use Rattle.tag_block.specs.declared.tag.Tag.{Tag}
use Rattle.sentence_text.specs.declared.sentence.Sentence.{Sentence}
use Rattle.datagram450.specs.declared.item.LineItem.{LineItem}
use Rattle.datagram450.specs.declared.item.LineItem.TheVariants.{Line, Bad}
use Rattle.datagram450.specs.Datagram.{item_view}
use Rattle.line_commands.specs.Show.{place_text, text_or_dash, without_end, front_text, middle_text, item_text}

pub line_is : (number at : ℕ) (tag : Tag) (text : Bor (List ℕ)) (sentence : Sentence) (item : LineItem) (front destination middle bared : List ℕ) → item ≡ Line at tag text sentence
    → front ≡ front_text number at tag.source → destination ≡ text_or_dash (option_map (λ d. d.now) tag.destination) → middle ≡ middle_text tag.group tag.count → bared ≡ without_end text.now
    → front ++ (destination ++ (middle ++ (bared ++ 10 ∷ []))) ≡ item_text number (item_view item)
line_is number at tag text sentence item front destination middle bared is f d m b =
    let front' = front_text number at tag.source in
    let destination' = text_or_dash (option_map (λ d. d.now) tag.destination) in
    let middle' = middle_text tag.group tag.count in
    ap (λ (x : List ℕ). x ++ (destination ++ (middle ++ (bared ++ 10 ∷ [])))) f
    ∙ ap (λ (x : List ℕ). front' ++ (x ++ (middle ++ (bared ++ 10 ∷ [])))) d
    ∙ ap (λ (x : List ℕ). front' ++ (destination' ++ (x ++ (bared ++ 10 ∷ [])))) m
    ∙ ap (λ (x : List ℕ). front' ++ (destination' ++ (middle' ++ (x ++ 10 ∷ [])))) b
    ∙ sym (ap (λ (i : LineItem). item_text number (item_view i)) is)

pub bad_is : (number rule at : ℕ) (item : LineItem) (text : List ℕ) → item ≡ Bad rule at → text ≡ place_text number at rule → text ≡ item_text number (item_view item)
bad_is number rule at item text is t = t ∙ sym (ap (λ (i : LineItem). item_text number (item_view i)) is)
