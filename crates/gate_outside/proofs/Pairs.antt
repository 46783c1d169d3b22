-- Pairs whose bytes stand behind one another.
use Rattle.std.proofs.Common.{◌≡◌, ℕ, zero, suc, ◌+◌, ◌<◌, ◌≤◌, get_or, Bool, true, false, cond, leb, ◌&&◌, List, [], ◌∷◌, ◌++◌, length, take, drop, refl, sym, ap, subst, ◌∙◌, arith}
use Rattle.std.specs.Prelude.{Option, Some, None, slice_get}
use Rattle.std.proofs.lemmas.List.{length-take, length-drop, take-append-le, drop-append-le, take_all, drop-drop}
use Rattle.std.proofs.lemmas.Bool.{leb-true, and_parts}
use Rattle.gate_outside.specs.declared.handover.Parcel.{Parcel}
use Rattle.gate_outside.specs.Link.{Handed}
use Rattle.gate_outside.specs.LinkMemory.{HandedOver, pairs_of, total_len, bytes_in, told_after}

length-pairs_of : (parcels : List Parcel) (bytes : List ℕ) → length (pairs_of parcels bytes) ≡ length parcels
length-pairs_of [] bytes = refl
length-pairs_of (p ∷ parcels) bytes = omega (arith, length-pairs_of parcels (drop p.len bytes))

bytes_in-pairs_of : (parcels : List Parcel) (bytes : List ℕ) → total_len parcels ≡ length bytes → bytes_in (pairs_of parcels bytes) ≡ length bytes
bytes_in-pairs_of [] bytes e = e
bytes_in-pairs_of (p ∷ parcels) bytes e =
    omega (arith, length-take p.len bytes, length-drop p.len bytes, bytes_in-pairs_of parcels (drop p.len bytes) (omega (arith, length-drop p.len bytes)))

pairs_of-push : (parcels : List Parcel) (bytes piece : List ℕ) (parcel : Parcel) → total_len parcels ≡ length bytes → parcel.len ≡ length piece
    → pairs_of (parcels ++ parcel ∷ []) (bytes ++ piece) ≡ pairs_of parcels bytes ++ (parcel.group, piece) ∷ []
pairs_of-push [] [] piece parcel e len = ap (λ (xs : List ℕ). (parcel.group, xs) ∷ []) (take_all parcel.len piece (omega arith))
pairs_of-push [] (b ∷ bytes) piece parcel e len = absurd (omega arith)
pairs_of-push (p ∷ parcels) bytes piece parcel e len =
    let fits : p.len ≤ length bytes = omega arith in
    let rest : total_len parcels ≡ length (drop p.len bytes) = omega (arith, length-drop p.len bytes) in
    rw (take-append-le p.len bytes piece fits, drop-append-le p.len bytes piece fits) (ap (λ (ps : List Handed). (p.group, take p.len bytes) ∷ ps) (pairs_of-push parcels (drop p.len bytes) piece parcel rest len))

fits_by_counts : (parcels : List Parcel) (bytes piece : List ℕ) (parcel : Parcel) (room most : ℕ) (b : Bool) → total_len parcels ≡ length bytes → parcel.len ≡ length piece
    → cond b (Some (pairs_of parcels bytes ++ (parcel.group, piece) ∷ [])) None ≡ cond b (Some (pairs_of (parcels ++ parcel ∷ []) (bytes ++ piece))) None
fits_by_counts parcels bytes piece parcel room most b e len = ap (λ (ps : List Handed). cond b (Some ps) None) (sym (pairs_of-push parcels bytes piece parcel e len))

-- what is told after one more pair, by what is kept
pub told_by_counts : (told : Bool) (parcels : List Parcel) (bytes piece : List ℕ) (parcel : Parcel) (room most : ℕ) → total_len parcels ≡ length bytes → parcel.len ≡ length piece
    → told_after (cond told (Some (pairs_of parcels bytes)) None) room most (parcel.group, piece)
    ≡ cond (told && (leb (length parcels + 1) most && leb (length bytes + length piece) room)) (Some (pairs_of (parcels ++ parcel ∷ []) (bytes ++ piece))) None
told_by_counts false parcels bytes piece parcel room most e len = refl
told_by_counts true parcels bytes piece parcel room most e len =
    rw (length-pairs_of parcels bytes, bytes_in-pairs_of parcels bytes e) (fits_by_counts parcels bytes piece parcel room most (leb (length parcels + 1) most && leb (length bytes + length piece) room) e len)

pub total_len-push : (parcels : List Parcel) (parcel : Parcel) → total_len (parcels ++ parcel ∷ []) ≡ total_len parcels + parcel.len
total_len-push [] parcel = omega arith
total_len-push (p ∷ parcels) parcel = omega (arith, total_len-push parcels parcel)

-- ---- what a handover tells after one more pair

abbrev pub told_of : Bool → List Parcel → List ℕ → Option (List Handed)
told_of told parcels bytes = cond told (Some (pairs_of parcels bytes)) None

abbrev pub seen : Option (List Handed) → ℕ → ℕ → HandedOver
seen handed room most = record { handed = handed; room = room; most = most }

told_is : (old : HandedOver) (handed handed' : Option (List Handed)) (room most : ℕ) (pair : Handed) → seen handed room most ≡ old → handed' ≡ told_after handed room most pair
    → seen handed' room most ≡ seen (told_after old.handed old.room old.most pair) old.room old.most
told_is old handed handed' room most pair is e =
    subst (λ (o : HandedOver). seen handed' room most ≡ seen (told_after o.handed o.room o.most pair) o.room o.most) is (ap (λ (h : Option (List Handed)). seen h room most) e)

-- nothing is told any more
pub still_untold : (old : HandedOver) (room most : ℕ) (pair : Handed) → seen None room most ≡ old → seen None room most ≡ seen (told_after old.handed old.room old.most pair) old.room old.most
still_untold old room most pair is = told_is old None None room most pair is refl

abbrev pub fits_test : List Parcel → List ℕ → List ℕ → ℕ → ℕ → Bool
fits_test parcels kept piece room most = leb (length parcels + 1) most && leb (length kept + length piece) room

pub more_than_told : (old : HandedOver) (parcels : List Parcel) (kept piece : List ℕ) (parcel : Parcel) (room most : ℕ) → seen (Some (pairs_of parcels kept)) room most ≡ old
    → total_len parcels ≡ length kept → parcel.len ≡ length piece → fits_test parcels kept piece room most ≡ false
    → seen None room most ≡ seen (told_after old.handed old.room old.most (parcel.group, piece)) old.room old.most
more_than_told old parcels kept piece parcel room most is e len refused =
    told_is old (Some (pairs_of parcels kept)) None room most (parcel.group, piece) is
    (sym (told_by_counts true parcels kept piece parcel room most e len ∙ ap (λ (b : Bool). cond b (Some (pairs_of (parcels ++ parcel ∷ []) (kept ++ piece))) None) refused))

pub one_more_told : (old : HandedOver) (parcels : List Parcel) (kept piece : List ℕ) (parcel : Parcel) (room most : ℕ) → seen (Some (pairs_of parcels kept)) room most ≡ old
    → total_len parcels ≡ length kept → parcel.len ≡ length piece → fits_test parcels kept piece room most ≡ true
    → seen (Some (pairs_of (parcels ++ parcel ∷ []) (kept ++ piece))) room most ≡ seen (told_after old.handed old.room old.most (parcel.group, piece)) old.room old.most
one_more_told old parcels kept piece parcel room most is e len accepted =
    told_is old (Some (pairs_of parcels kept)) (Some (pairs_of (parcels ++ parcel ∷ []) (kept ++ piece))) room most (parcel.group, piece) is
    (sym (told_by_counts true parcels kept piece parcel room most e len ∙ ap (λ (b : Bool). cond b (Some (pairs_of (parcels ++ parcel ∷ []) (kept ++ piece))) None) accepted))

pub within_room : (parcels : List Parcel) (kept piece : List ℕ) (room most : ℕ) → fits_test parcels kept piece room most ≡ true → (length parcels + 1 ≤ most) × (length kept + length piece ≤ room)
within_room parcels kept piece room most h =
    let b = and_parts (leb (length parcels + 1) most) (leb (length kept + length piece) room) h in
    (leb-true (length parcels + 1) most b.0, leb-true (length kept + length piece) room b.1)

-- the test of the code, by the counts that it takes
pub test_of : (parcels : List Parcel) (kept piece : List ℕ) (room most m n : ℕ) (b : Bool) → m ≡ length parcels → n ≡ length kept → b ≡ (leb (m + 1) most && leb (n + length piece) room) → fits_test parcels kept piece room most ≡ b
test_of parcels kept piece room most m n b pairs bytes is = rw (← pairs, ← bytes) (sym is)

-- ---- the pair at a place

pub total_len_take : (parcels : List Parcel) (place : ℕ) → total_len (take place parcels) ≤ total_len parcels
total_len_take [] zero = omega arith
total_len_take [] (suc place) = omega arith
total_len_take (p ∷ parcels) zero = omega arith
total_len_take (p ∷ parcels) (suc place) = omega (arith, total_len_take parcels place)

total_len_suc : (parcels : List Parcel) (place : ℕ) (d : Parcel) → place < length parcels → total_len (take (suc place) parcels) ≡ total_len (take place parcels) + (get_or parcels place d).len
total_len_suc [] place d lt = absurd (omega arith)
total_len_suc (p ∷ parcels) zero d lt = omega arith
total_len_suc (p ∷ parcels) (suc place) d lt = omega (arith, total_len_suc parcels place d (omega arith))

pub total_len_next : (parcels : List Parcel) (place : ℕ) (d : Parcel) → place < length parcels → total_len (take (place + 1) parcels) ≡ total_len (take place parcels) + (get_or parcels place d).len
total_len_next parcels place d lt =
    let one : suc place ≡ place + 1 = omega arith in
    subst (λ (n : ℕ). total_len (take n parcels) ≡ total_len (take place parcels) + (get_or parcels place d).len) one (total_len_suc parcels place d lt)

drop-split : (m n : ℕ) (bytes : List ℕ) → drop (m + n) bytes ≡ drop n (drop m bytes)
drop-split m n bytes = sym (drop-drop n m bytes)

pub pair_past : (parcels : List Parcel) (bytes : List ℕ) (place : ℕ) → length parcels ≤ place → slice_get (pairs_of parcels bytes) place ≡ None
pair_past [] bytes place le = refl
pair_past (p ∷ parcels) bytes zero le = absurd (omega arith)
pair_past (p ∷ parcels) bytes (suc place) le = pair_past parcels (drop p.len bytes) place (omega arith)

pub pair_here : (parcels : List Parcel) (bytes : List ℕ) (place start len : ℕ) (p : Parcel) → place < length parcels → p ≡ get_or parcels place p
    → start ≡ total_len (take place parcels) → len ≡ p.len → slice_get (pairs_of parcels bytes) place ≡ Some (p.group, take len (drop start bytes))
pair_here [] bytes place start len p lt is from to = absurd (omega arith)
pair_here (q ∷ parcels) bytes zero start len p lt is from to = rw (from, to, ← is) refl
pair_here (q ∷ parcels) bytes (suc place) start len p lt is from to =
    rw (from, drop-split q.len (total_len (take place parcels)) bytes) (pair_here parcels (drop q.len bytes) place (total_len (take place parcels)) len p (omega arith) is refl to)

pub ends_within : (parcels : List Parcel) (place : ℕ) (p : Parcel) → place < length parcels → p ≡ get_or parcels place p → total_len (take place parcels) + p.len ≤ total_len parcels
ends_within [] place p lt is = absurd (omega arith)
ends_within (q ∷ parcels) zero p lt is = omega (arith, ap (λ (r : Parcel). r.len) is)
ends_within (q ∷ parcels) (suc place) p lt is = omega (arith, ends_within parcels place p (omega arith) is)
