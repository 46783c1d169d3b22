-- What is read from a line's front is TAG blocks, up to a byte that begins no block.
use Rattle.std.proofs.Common.{◌≡◌, ℕ, ◌+◌, ◌-◌, ◌≤◌, Bool, true, false, cond, List, [], ◌∷◌, ◌++◌, length, take, drop, Option, Some, Result, Ok, Err, refl, sym, ap, subst, ◌∙◌, length-append, arith}
use Rattle.std.specs.Prelude.{◌==◌, slice_index, IfOk}
use Rattle.tag_block.specs.declared.tag.Tag.{Tag}
use Rattle.std.specs.List.{flat_map}
use Rattle.std.proofs.lemmas.Bool.{eqb-true, eq-eqb}
use Rattle.std.proofs.lemmas.List.Concat.{flat_map-cons}
use Rattle.std.proofs.lemmas.List.{drop_at}
use Rattle.sentence_text.specs.Names.{IsSfi}
use Rattle.tag_block.specs.declared.fault.TagFault.{TagFault}
use Rattle.tag_block.specs.declared.fault.TagRule.TheVariants as rules
use Rattle.tag_block.specs.declared.group_part.GroupPart.{GroupPart}
use Rattle.tag_block.specs.Tag.{Block, block_text, Standing, standing, Said, IsTag, IsGroupOf, IsCountOf, Fronts}
use Rattle.tag_block.specs.Reading.{Scan, no_values, blocks_at, settle, group_said, count_said, source_said, text_of, read, said, seen, ◌>>=◌}
use Rattle.tag_block.proofs.Found.{standing_of, bind_ok, blocks_found, content_taken}
use Rattle.tag_block.proofs.Settling.{group_said_found, count_said_found, source_said_found, group_said_again, count_said_again, source_said_again}
use Rattle.tag_block.proofs.Again.{blocks_again}

if_ok : {A : Type 0} (b : Bool) (x : Result A TagFault) (f : TagFault) (y : A) → cond b x (Err f) ≡ Ok y → (b ≡ true) × (x ≡ Ok y)
if_ok true x f y e = (refl, e)
if_ok false x f y e = absurd cc

abbrev answer : Said → ℕ → Result (Said × ℕ) TagFault
answer said n = Ok (said, n)

abbrev given : Said × ℕ → Result (Said × ℕ) TagFault
given x = Ok x

pair_is : (x y : Said × ℕ) → given x ≡ given y → x ≡ y
pair_is x y e = cc

answer_is : (x y : Said) (m n : ℕ) → answer x m ≡ answer y n → (x ≡ y) × (m ≡ n)
answer_is x y m n e =
    let same = pair_is (x, m) (y, n) e in
    (ap (λ (p : Said × ℕ). p.0) same, ap (λ (p : Said × ℕ). p.1) same)

record Settled (total : ℕ) (t : Scan) (said : Said) (n : ℕ) : Type 0 where
  source : text_of t.values.source ≡ Some said.source
  is_sfi : (text_of t.values.source ≡ Some said.source) × IsSfi said.source
  destination : said.destination ≡ text_of t.values.destination
  group : IsGroupOf (text_of t.values.group) said.group
  count : IsCountOf (text_of t.values.count) said.count
  end : n ≡ total - length t.rest

settled : (total : ℕ) (t : Scan) (said : Said) (n : ℕ) → settle total t ≡ Ok (said, n) → Settled total t said n
unfolding settle
settled total t said n e =
    let end = total - length t.rest in
    let made = λ (g : Option GroupPart) (k : Option ℕ) (s : List ℕ). answer (record { source = s; destination = text_of t.values.destination; group = g; count = k }) end in
    let g = bind_ok (group_said t.values.group) (λ g. count_said t.values.count >>= λ k. source_said end t.values.source >>= λ s. made g k s) (said, n) e in
    let k = bind_ok (count_said t.values.count) (λ k. source_said end t.values.source >>= λ s. made g.0 k s) (said, n) g.2 in
    let s = bind_ok (source_said end t.values.source) (λ s. made g.0 k.0 s) (said, n) k.2 in
    let is = answer_is (record { source = s.0; destination = text_of t.values.destination; group = g.0; count = k.0 }) said end n s.2 in
    let source = source_said_found end t.values.source s.0 s.1 in
    let one : Settled total t (record { source = s.0; destination = text_of t.values.destination; group = g.0; count = k.0 }) end = record {
      source = source.0;
      is_sfi = source;
      destination = refl;
      group = group_said_found t.values.group g.0 g.1;
      count = count_said_found t.values.count k.0 k.1;
      end = refl;
    } in
    subst (λ (x : Said). Settled total t x n) is.0 (subst (λ (x : ℕ). Settled total t (record { source = s.0; destination = text_of t.values.destination; group = g.0; count = k.0 }) x) is.1 one)

some_block : (blocks : List Block) (line tail : List ℕ) → line ≡ flat_map block_text blocks ++ tail → slice_index line 0 ≡ 92 → (slice_index tail 0 ≡ 92 → ⊥) → 1 ≤ length blocks
some_block [] line tail e begins stops = absurd (stops (ap (λ (x : List ℕ). slice_index x 0) (sym e) ∙ begins))
some_block (b ∷ bs) line tail e begins stops = omega arith

pub fronts : (line : List ℕ) (said : Said) (n : ℕ) → read line ≡ Ok (said, n) → Fronts line said n
unfolding read
fronts line said n e =
    let start : Scan = record { values = no_values; rest = line } in
    let len = length line in
    let p = if_ok (slice_index line 0 == 92) (blocks_at (len + 1) len start >>= settle len) (record { rule = rules.NoSource; place = 0 }) (said, n) e in
    let b = bind_ok (blocks_at (len + 1) len start) (settle len) (said, n) p.1 in
    let t = b.0 in
    let r = blocks_found (len + 1) len start t (omega arith) b.1 in
    let s = settled len t said n b.2 in
    let text = flat_map block_text r.blocks in
    let begins : slice_index line 0 ≡ 92 = eqb-true (slice_index line 0) 92 p.0 in
    let long : n ≡ length text = omega (arith, s.end, ap length r.spelled, length-append text t.rest) in
    let taken : take n line ≡ text = ap (λ (k : ℕ). take k line) s.end ∙ content_taken text t.rest line r.spelled in
    let left : drop n line ≡ t.rest = ap (λ (k : ℕ). drop k line) long ∙ ap (λ (x : List ℕ). drop (length text) x) r.spelled ∙ drop_at text t.rest (length text) refl in
    let stood : standing_of t.values ≡ standing r.blocks = r.stood in
    record {
      within = omega (arith, s.end);
      is = record {
        blocks = r.blocks;
        some = some_block r.blocks line t.rest r.spelled begins r.stops;
        each = r.are;
        spelled = taken;
        source = ap (λ (v : Standing). v.source) (sym stood) ∙ s.source;
        is_sfi = s.is_sfi.1;
        destination = s.destination ∙ ap (λ (v : Standing). v.destination) stood;
        group = subst (λ (v : Standing). IsGroupOf v.group said.group) stood s.group;
        count = subst (λ (v : Standing). IsCountOf v.count said.count) stood s.count;
      };
      stops = λ h. r.stops (ap (λ (x : List ℕ). slice_index x 0) (sym left) ∙ h);
    }

-- ---- the other way

settle_again : (total : ℕ) (t : Scan) (said : Said) → text_of t.values.source ≡ Some said.source → IsSfi said.source → said.destination ≡ text_of t.values.destination
    → IsGroupOf (text_of t.values.group) said.group → IsCountOf (text_of t.values.count) said.count → settle total t ≡ Ok (said, total - length t.rest)
unfolding settle
settle_again total t said source sfi destination group count =
    let end = total - length t.rest in
    let g = group_said_again t.values.group said.group group in
    let k = count_said_again t.values.count said.count count in
    let s = source_said_again end t.values.source said.source source sfi in
    rw (g, k, s) (ap (λ (d : Option (List ℕ)). answer (record { source = said.source; destination = d; group = said.group; count = said.count }) end) (sym destination))

read_by : (line : List ℕ) (t : Scan) (x : Said × ℕ) → slice_index line 0 ≡ 92 → blocks_at (length line + 1) (length line) (record { values = no_values; rest = line }) ≡ Ok t → settle (length line) t ≡ Ok x → read line ≡ Ok x
unfolding read
read_by line t x begins e f =
    let test : (slice_index line 0 == 92) ≡ true = eq-eqb (slice_index line 0) 92 begins in
    rw (test, e) f

blocks_begin : (blocks : List Block) (tail : List ℕ) → 1 ≤ length blocks → slice_index (flat_map block_text blocks ++ tail) 0 ≡ 92
blocks_begin [] tail some = absurd (omega arith)
blocks_begin (b ∷ bs) tail some = ap (λ (x : List ℕ). slice_index (x ++ tail) 0) (flat_map-cons block_text b bs)

blocks_shorter : (blocks : List Block) → length blocks ≤ length (flat_map block_text blocks)
blocks_shorter [] = omega arith
blocks_shorter (b ∷ bs) = omega (arith, blocks_shorter bs, ap length (flat_map-cons block_text b bs), length-append (block_text b) (flat_map block_text bs))

pub is_read : (said : Said) (bytes rest : List ℕ) → IsTag said bytes → (slice_index rest 0 ≡ 92 → ⊥) → read (bytes ++ rest) ≡ Ok (said, length bytes)
is_read said bytes rest h stops =
    let text = flat_map block_text h.blocks in
    let line = text ++ rest in
    let r = blocks_again (length line + 1) (length line) no_values h.blocks rest (omega (arith, blocks_shorter h.blocks, length-append text rest)) h.each stops in
    let t : Scan = record { values = r.values; rest = rest } in
    let stood : standing_of r.values ≡ standing h.blocks = r.stands in
    let settles = settle_again (length line) t said
    (ap (λ (v : Standing). v.source) stood ∙ h.source) h.is_sfi
    (h.destination ∙ ap (λ (v : Standing). v.destination) (sym stood))
    (subst (λ (v : Standing). IsGroupOf v.group said.group) (sym stood) h.group)
    (subst (λ (v : Standing). IsCountOf v.count said.count) (sym stood) h.count) in
    let end : length line - length rest ≡ length bytes = omega (arith, length-append text rest, ap length h.spelled) in
    ap (λ (x : List ℕ). read (x ++ rest)) h.spelled
    ∙ read_by line t (said, length line - length rest) (blocks_begin h.blocks rest h.some) r.is settles
    ∙ ap (λ (n : ℕ). answer said n) end

pub is_found : (line : List ℕ) (result : Result (Tag × ℕ) TagFault) → seen result ≡ read line → IfOk result (λ t. Fronts line (said t.0) t.1)
is_found line (Ok t) e = fronts line (said t.0) t.1 (sym e)
is_found line (Err f) e = tt
