-- What is written in several calls.
use Rattle.std.proofs.Common.{◌≡◌, ◌≢◌, ℕ, suc, ◌+◌, ◌-◌, ◌<◌, ◌≤◌, Bool, true, false, get_or, drop-cons, add-one, List, [], ◌∷◌, ◌++◌, length, take, drop, refl, sym, ap, subst, ◌∙◌, append_assoc, arith}
use Rattle.std.specs.Prelude.{◌==◌, Option, Some, None, Result, Ok, Err}
use Rattle.std.proofs.lemmas.List.{append-nil, take-append-drop, take_all, length-drop, drop_all}
use Rattle.std.specs.Borrow.{Bor}
use Rattle.std.specs.List.{flat_map}
use Rattle.std.proofs.lemmas.List.Concat.{flat_map-cons}
use Rattle.gate_outside.specs.Told.{Joins}
use Rattle.capture_stream.specs.Writer.{Sends, SendsPart, Writes}

pub Joins-nil : (told : Option (List ℕ)) → Joins told told []
Joins-nil None = tt
Joins-nil (Some t) = sym (append-nil t)

pub Joins-then : (a b c : Option (List ℕ)) (x y : List ℕ) → Joins a b x → Joins b c y → Joins a c (x ++ y)
Joins-then a b None x y p q = tt
Joins-then a None (Some c) x y p q = absurd q
Joins-then None (Some b) (Some c) x y p q = absurd p
Joins-then (Some a) (Some b) (Some c) x y p q = q ∙ (ap (λ (t : List ℕ). t ++ y) p ∙ append_assoc a x y)

-- some more of what is left is written
pub Sends-more : (a b c : Option (List ℕ)) (bytes left more rest : List ℕ) → Sends a b bytes left → Joins b c more → more ++ rest ≡ left → Sends a c bytes rest
Sends-more a b c bytes left more rest s joins split = record {
  sent = s.sent ++ more;
  joins = Joins-then a b c s.sent more s.joins joins;
  whole = append_assoc s.sent more rest ∙ (ap (λ (xs : List ℕ). s.sent ++ xs) split ∙ s.whole);
}

pub Sends-none : (told : Option (List ℕ)) (bytes : List ℕ) → Sends told told bytes bytes
Sends-none told bytes = record { sent = []; joins = Joins-nil told; whole = refl }

-- what is left stands before what comes behind it
pub Sends-behind : (a b : Option (List ℕ)) (bytes left text : List ℕ) → Sends a b bytes left → Sends a b (bytes ++ text) (left ++ text)
Sends-behind a b bytes left text s = record {
  sent = s.sent;
  joins = s.joins;
  whole = sym (append_assoc s.sent left text) ∙ ap (λ (xs : List ℕ). xs ++ text) s.whole;
}

-- a write takes some first bytes of what is left
pub Sends-write : (a b c : Option (List ℕ)) (bytes left : List ℕ) (count : ℕ) → Sends a b bytes left → Joins b c (take count left) → Sends a c bytes (take (length left - count) (drop count left))
Sends-write a b c bytes left count s joins =
    let all : take (length left - count) (drop count left) ≡ drop count left = take_all (length left - count) (drop count left) (omega (arith, length-drop count left)) in
    rw all (Sends-more a b c bytes left (take count left) (drop count left) s joins (take-append-drop count left))

-- a write fails while bytes are left
not_empty : (left : List ℕ) (answer : Bool) → answer ≡ (length left == 0) → answer ≡ false → left ≢ []
not_empty [] answer is test same = let never : true ≡ false = sym is ∙ test in absurd cc
not_empty (x ∷ xs) answer is test same = absurd cc

pub part-of : (a b c : Option (List ℕ)) (bytes left : List ℕ) (answer : Bool) → Sends a b bytes left → Joins b c [] → answer ≡ (length left == 0) → answer ≡ false
    → SendsPart a c bytes
part-of a b c bytes left answer s joins is test = record {
  left = left;
  sends = Sends-more a b c bytes left [] left s joins refl;
  some = not_empty left answer is test;
}

-- more text came behind what waited, and more was written
pub Sends-then : (a b c : Option (List ℕ)) (done text waiting left : List ℕ) → Sends a b done waiting → Sends b c (waiting ++ text) left → Sends a c (done ++ text) left
Sends-then a b c done text waiting left s t = record {
  sent = s.sent ++ t.sent;
  joins = Joins-then a b c s.sent t.sent s.joins t.joins;
  whole = append_assoc s.sent t.sent left ∙ (ap (λ (xs : List ℕ). s.sent ++ xs) t.whole ∙ (sym (append_assoc s.sent waiting text) ∙ ap (λ (xs : List ℕ). xs ++ text) s.whole));
}

-- what waited was written, and then a text
pub flushed_send : {T E : Type 0} (a b c : Option (List ℕ)) (waiting text left : List ℕ) (result : Result T E) → Sends a b waiting [] → Writes b c text [] result → left ≡ [] → Writes a c (waiting ++ text) left result
flushed_send a b c waiting text left (Ok done) s t none = subst (Sends a c (waiting ++ text)) (sym none) (Sends-then a b c waiting text [] [] s t)
flushed_send a b c waiting text left (Err e) s t none = (t.0, Sends-then a b c waiting text [] t.0 s t.1)

-- the same text by another name
pub writes_as : {T E : Type 0} (a b : Option (List ℕ)) (waiting text same left : List ℕ) (result : Result T E) → text ≡ same → Writes a b (waiting ++ text) left result → Writes a b (waiting ++ same) left result
writes_as a b waiting text same left result e h = subst (λ (x : List ℕ). Writes a b (waiting ++ x) left result) e h

-- ---- a text that is put piece by piece

-- of all that is to come behind the start, this rest has not been put
pub record Partly (all rest start : List ℕ) (told told' : Option (List ℕ)) (waiting : List ℕ) : Type 0 where
  pub done : List ℕ
  pub split : done ++ rest ≡ all
  pub sends : Sends told told' (start ++ done) waiting

pub partly_none : (all start : List ℕ) (told : Option (List ℕ)) → Partly all all start told told start
partly_none all start told = record { done = []; split = refl; sends = subst (λ (x : List ℕ). Sends told told x start) (sym (append-nil start)) (Sends-none told start) }

pub partly_more : (all rest rest' start text : List ℕ) (a b c : Option (List ℕ)) (waiting waiting' : List ℕ) → Partly all rest start a b waiting → rest ≡ text ++ rest' → Sends b c (waiting ++ text) waiting'
    → Partly all rest' start a c waiting'
partly_more all rest rest' start text a b c waiting waiting' p split sends = record {
  done = p.done ++ text;
  split = append_assoc p.done text rest' ∙ (ap (λ (x : List ℕ). p.done ++ x) (sym split) ∙ p.split);
  sends = subst (λ (x : List ℕ). Sends a c x waiting') (append_assoc start p.done text) (Sends-then a b c (start ++ p.done) text waiting waiting' p.sends sends);
}

pub partly_all : (all rest start : List ℕ) (a b : Option (List ℕ)) (waiting : List ℕ) → Partly all rest start a b waiting → rest ≡ [] → Sends a b (start ++ all) waiting
partly_all all rest start a b waiting p none =
    let whole : p.done ≡ all = sym (append-nil p.done) ∙ (ap (λ (x : List ℕ). p.done ++ x) (sym none) ∙ p.split) in
    subst (λ (x : List ℕ). Sends a b (start ++ x) waiting) whole p.sends

-- a piece was written in part, and no more
pub partly_stopped : (all rest rest' start text : List ℕ) (a b c : Option (List ℕ)) (waiting some : List ℕ) → Partly all rest start a b waiting → rest ≡ text ++ rest' → Sends b c (waiting ++ text) some
    → (left : List ℕ) × Sends a c (start ++ all) left
partly_stopped all rest rest' start text a b c waiting some p split sends =
    let q = partly_more all rest rest' start text a b c waiting some p split sends in
    (some ++ rest', subst (λ (x : List ℕ). Sends a c x (some ++ rest')) (append_assoc start q.done rest' ∙ ap (λ (x : List ℕ). start ++ x) q.split) (Sends-behind a c (start ++ q.done) some rest' q.sends))

-- ---- pieces that lie apart

abbrev pub pieces_text : List (Bor (List ℕ)) → List ℕ
pieces_text pieces = flat_map (λ piece. piece.now) pieces

pub next_piece : (pieces : List (Bor (List ℕ))) (i : ℕ) (other : Bor (List ℕ)) → i < length pieces → pieces_text (drop i pieces) ≡ (get_or pieces i other).now ++ pieces_text (drop (i + 1) pieces)
next_piece pieces i other lt =
    ap pieces_text (drop-cons pieces i other lt)
    ∙ flat_map-cons (λ p. p.now) (get_or pieces i other) (drop (suc i) pieces)
    ∙ ap (λ (k : ℕ). (get_or pieces i other).now ++ pieces_text (drop k pieces)) (sym (add-one i))

pub no_piece : (pieces : List (Bor (List ℕ))) (i : ℕ) → length pieces ≤ i → pieces_text (drop i pieces) ≡ []
no_piece pieces i le = ap pieces_text (drop_all i pieces le)
