-- What is read as a datagram is one, and the other way round.
use Rattle.std.proofs.Common.{◌≡◌, ℕ, suc, ◌+◌, ◌≤◌, Bool, true, false, cond, List, [], ◌∷◌, ◌++◌, length, drop, Result, Ok, Err, refl, sym, ap, ◌∙◌, arith}
use Rattle.std.specs.Prelude.{◌==◌, nat_lt, IfOk}
use Rattle.std.proofs.lemmas.Bool.{eqb-true, eq-eqb}
use Rattle.datagram450.specs.declared.fault.DatagramFault.{DatagramFault}
use Rattle.datagram450.specs.declared.fault.DatagramFault.TheVariants.{Header, Long}
use Rattle.datagram450.specs.Datagram.{Item, header, Cut, items_at, items_from, cut, read, DatagramOf, longest_datagram, most_lines}
use Rattle.datagram450.proofs.CommonRun.{common_len}
use Rattle.datagram450.proofs.Cuts.{is_cut, only_cut}

begins_with : (wanted bytes : List ℕ) → length wanted ≤ common_len wanted bytes → bytes ≡ wanted ++ drop (length wanted) bytes
begins_with [] bytes h = refl
begins_with (w ∷ ws) [] h = absurd (omega (arith, h))
begins_with (w ∷ ws) (c ∷ cs) h = go (w == c) refl h (begins_with ws cs)
  where
    go : (b : Bool) → (w == c) ≡ b → suc (length ws) ≤ cond b (1 + common_len ws cs) 0 → (length ws ≤ common_len ws cs → cs ≡ ws ++ drop (length ws) cs) → c ∷ cs ≡ w ∷ (ws ++ drop (length ws) cs)
    go true e h others = ap (λ (x : ℕ). x ∷ cs) (sym (eqb-true w c e)) ∙ ap (λ (x : List ℕ). w ∷ x) (others (omega (arith, h)))
    go false e h others = absurd (omega (arith, h))

pub header_common : (wanted body : List ℕ) → common_len wanted (wanted ++ body) ≡ length wanted
header_common [] body = refl
header_common (w ∷ ws) body =
    let same : (w == w) ≡ true = eq-eqb w w refl in
    rw same (omega (arith, header_common ws body))

at_most : (n m : ℕ) → nat_lt n m ≡ false → m ≤ n
at_most n m h = grind (arith, h)

not_below : (n m : ℕ) → m ≤ n → nat_lt n m ≡ false
not_below n m h = grind (arith, h)

record Read (bytes : List ℕ) (items : List Item) : Type 0 where
  begins : 6 ≤ common_len header bytes
  most : length bytes ≤ longest_datagram
  gives : items ≡ items_from most_lines 6 (drop 6 bytes)

abbrev answer : List Item → Result (List Item) DatagramFault
answer items = Ok items

read_where : (bytes : List ℕ) (items : List Item) → read bytes ≡ answer items → Read bytes items
read_where bytes items e = go (nat_lt (common_len header bytes) 6) (nat_lt longest_datagram (length bytes)) refl refl e
  where
    go : (a b : Bool) → nat_lt (common_len header bytes) 6 ≡ a → nat_lt longest_datagram (length bytes) ≡ b
        → cond a (Err (Header (common_len header bytes))) (cond b (Err Long) (answer (items_from most_lines 6 (drop 6 bytes)))) ≡ answer items → Read bytes items
    go true b f g e = absurd cc
    go false true f g e = absurd cc
    go false false f g e = record { begins = at_most (common_len header bytes) 6 f; most = at_most longest_datagram (length bytes) g; gives = cc }

is_datagram : (bytes : List ℕ) (items : List Item) → Read bytes items → DatagramOf items bytes
unfolding items_from
is_datagram bytes items p = record {
  body = drop 6 bytes;
  cut = cut (drop 6 bytes);
  is_cut = is_cut (drop 6 bytes);
  begins = begins_with header bytes p.begins;
  most = p.most;
  gives = p.gives;
}

pub is_found : (bytes : List ℕ) (result : Result (List Item) DatagramFault) → result ≡ read bytes → IfOk result (λ items. DatagramOf items bytes)
is_found bytes (Ok items) e = is_datagram bytes items (read_where bytes items (sym e))
is_found bytes (Err f) e = tt

gives_items : (items : List Item) (bytes : List ℕ) (h : DatagramOf items bytes) → items_from most_lines 6 h.body ≡ items
unfolding items_from
gives_items items bytes h = ap (λ (k : Cut). items_at most_lines 6 k.lines k.rest) (only_cut h.cut h.body h.is_cut) ∙ sym h.gives

pub read_by : (bytes : List ℕ) → 6 ≤ common_len header bytes → length bytes ≤ longest_datagram → read bytes ≡ answer (items_from most_lines 6 (drop 6 bytes))
read_by bytes begins most = rw (not_below (common_len header bytes) 6 begins, not_below longest_datagram (length bytes) most) refl

pub is_read : (items : List Item) (bytes : List ℕ) → DatagramOf items bytes → read bytes ≡ answer items
is_read items bytes h =
    let begins : 6 ≤ common_len header bytes = omega (arith, ap (common_len header) h.begins, header_common header h.body) in
    read_by bytes begins h.most ∙ ap (λ (x : List ℕ). answer (items_from most_lines 6 (drop 6 x))) h.begins ∙ ap answer (gives_items items bytes h)
