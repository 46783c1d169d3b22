-- What follows from what a frame is.
use Rattle.std.proofs.Common.{◌≡◌, ℕ, ◌+◌, min, Bool, true, false, List, [], Option, Some, None, option_map, unwrap_or, refl}
use Rattle.std.proofs.lemmas.Bool.{leb-true, eqb-true, and_parts}
use Rattle.slot_views.specs.declared.answers.Kept.{Kept}
use Rattle.slot_views.specs.Slots.{Entry}
use Rattle.slot_views.specs.Answers.{kept_of, as_entry}
use Rattle.fast_packet.specs.declared.verdict.Verdict.{Verdict}
use Rattle.fast_packet.specs.declared.verdict.Verdict.TheVariants.{Short, Opens, Orphan, Again, OutOfOrder, Next}
use Rattle.fast_packet.specs.FastRuns.{is_opener, is_no_later}
use Rattle.fast_packet.specs.Verdicts.{IsNext, IsOpener, VerdictFits}
use Rattle.fast_packet.specs.Assembly.{left_of, is_again, follows, is_enough, later_verdict, verdict}

-- by what is told of the assembly
pub kept_verdict : (o : Option Entry) (kept : Kept) (held bytes : List ℕ) (r : Verdict) → Some kept ≡ option_map kept_of o → held ≡ unwrap_or (option_map (λ e. e.bytes) o) [] → r ≡ later_verdict (Some (as_entry kept held)) bytes
    → r ≡ later_verdict o bytes
kept_verdict None kept held bytes r told bytes_told is = cc
kept_verdict (Some e) kept held bytes r told bytes_told is =
    let same : kept ≡ kept_of e = cc in
    rw (same, bytes_told) at is

later_next : (o : Option Entry) (bytes : List ℕ) (end : ℕ) → Next end ≡ later_verdict o bytes → IsNext o bytes end
later_next None bytes end is = cc
later_next (Some e) bytes end is = by_tests (is_again e bytes) (follows e bytes) (is_enough e bytes) refl refl refl
  where
    by_tests : (a f n : Bool) → is_again e bytes ≡ a → follows e bytes ≡ f → is_enough e bytes ≡ n → IsNext (Some e) bytes end
    by_tests true f n ea ef en = let other : Next end ≡ Again = simp ea at is in cc
    by_tests false false n ea ef en = let other : Next end ≡ OutOfOrder = simp (ea, ef) at is in cc
    by_tests false true false ea ef en = let other : Next end ≡ Short = simp (ea, ef, en) at is in cc
    by_tests false true true ea ef en =
        let same : Next end ≡ Next (1 + min 7 (left_of e)) = simp (ea, ef, en) at is in
        let reach : end ≡ 1 + min 7 (left_of e) = cc in
        record { entry = e; held = refl; counter = eqb-true _ _ (and_parts _ _ ef).0; reach = reach; enough = rw reach (leb-true _ _ en) }

next_from : (o : Option Entry) (bytes : List ℕ) (end : ℕ) → Next end ≡ verdict o bytes → IsNext o bytes end
next_from o bytes end is = by_tests (is_opener bytes) (is_no_later bytes) refl refl
  where
    by_tests : (a b : Bool) → is_opener bytes ≡ a → is_no_later bytes ≡ b → IsNext o bytes end
    by_tests true b ea eb = let other : Next end ≡ Opens = simp ea at is in cc
    by_tests false true ea eb = let other : Next end ≡ Short = simp (ea, eb) at is in cc
    by_tests false false ea eb = later_next o bytes end (simp (ea, eb) at is)

-- an opener holds what it owes
opener_from : (bytes : List ℕ) → is_opener bytes ≡ true → IsOpener bytes
opener_from bytes opens =
    let one = and_parts _ _ opens in
    let two = and_parts _ _ one.1 in
    let three = and_parts _ _ two.1 in
    record { least = leb-true _ _ two.0; most = leb-true _ _ three.0; enough = leb-true _ _ three.1 }

later_opens : (o : Option Entry) (bytes : List ℕ) → Opens ≡ later_verdict o bytes → ⊥
later_opens None bytes is = cc
later_opens (Some e) bytes is = by_tests (is_again e bytes) (follows e bytes) (is_enough e bytes) refl refl refl
  where
    by_tests : (a f n : Bool) → is_again e bytes ≡ a → follows e bytes ≡ f → is_enough e bytes ≡ n → ⊥
    by_tests true f n ea ef en = let other : Opens ≡ Again = simp ea at is in cc
    by_tests false false n ea ef en = let other : Opens ≡ OutOfOrder = simp (ea, ef) at is in cc
    by_tests false true false ea ef en = let other : Opens ≡ Short = simp (ea, ef, en) at is in cc
    by_tests false true true ea ef en = let other : Opens ≡ Next (1 + min 7 (left_of e)) = simp (ea, ef, en) at is in cc

opens_from : (o : Option Entry) (bytes : List ℕ) → Opens ≡ verdict o bytes → IsOpener bytes
opens_from o bytes is = by_tests (is_opener bytes) (is_no_later bytes) refl refl
  where
    by_tests : (a b : Bool) → is_opener bytes ≡ a → is_no_later bytes ≡ b → IsOpener bytes
    by_tests true b ea eb = opener_from bytes ea
    by_tests false true ea eb = let other : Opens ≡ Short = simp (ea, eb) at is in cc
    by_tests false false ea eb = absurd (later_opens o bytes (simp (ea, eb) at is))

pub fits_from : (o : Option Entry) (bytes : List ℕ) (r : Verdict) → r ≡ verdict o bytes → VerdictFits o bytes r
fits_from o bytes Short is = tt
fits_from o bytes Opens is = opens_from o bytes is
fits_from o bytes Orphan is = tt
fits_from o bytes Again is = tt
fits_from o bytes OutOfOrder is = tt
fits_from o bytes (Next end) is = next_from o bytes end is

-- a frame that is neither is tried as a later one
pub verdict_later : (o : Option Entry) (bytes : List ℕ) → is_opener bytes ≡ false → is_no_later bytes ≡ false → verdict o bytes ≡ later_verdict o bytes
verdict_later o bytes first none = simp (first, none)
