use Rattle.std.proofs.Common.{◌≡◌, ℕ, ◌+◌, ◌-◌, ◌^◌, ◌<◌, ◌≤◌, List, ◌++◌, length, take, drop, replicate, ap, sym, ◌∙◌, arith, length-append}
use Rattle.std.proofs.lemmas.List.{take-append-drop, length-take-le, length-replicate}
use Rattle.std.proofs.Math.Seq.{take-append_seam, drop-append_seam}
use Rattle.n2k_id.specs.declared.frame.Frame.{Frame}
use Rattle.n2k_id.specs.Frame.{BusFrame, Carries}

-- the data bytes with 0 beyond them make a valid frame
pub padded_carries : (id : ℕ) (xs : List ℕ) → id < 2 ^ 29 → length xs ≤ 8 → Carries (record { id = id; held = xs }) (record { id = id; len = length xs; bytes = xs ++ replicate (8 - length xs) 0 })
padded_carries id xs h k = record {
  valid = record {
    identifier = h;
    room = length-append xs (replicate (8 - length xs) 0) ∙ ap (λ n. length xs + n) (length-replicate (8 - length xs) 0) ∙ omega arith;
    fits = k;
    beyond = drop-append_seam xs (replicate (8 - length xs) 0);
  };
  carried = rw take-append_seam;
}

-- a frame is its three fields
frame_of_fields : (frame : Frame) (id len : ℕ) (bytes : List ℕ) → frame.id ≡ id → frame.len ≡ len → frame.bytes ≡ bytes → frame ≡ record { id = id; len = len; bytes = bytes }
frame_of_fields frame id len bytes e f g = rw (← e, ← f, ← g)

-- a valid frame is known by what the bus carries of it
pub carries_only : (id : ℕ) (xs : List ℕ) (frame : Frame) → Carries (record { id = id; held = xs }) frame → frame ≡ record { id = id; len = length xs; bytes = xs ++ replicate (8 - length xs) 0 }
carries_only id xs frame c =
    let room : frame.len ≤ length frame.bytes = omega (arith, c.valid.room, c.valid.fits) in
    let held : take frame.len frame.bytes ≡ xs = ap (λ (s : BusFrame). s.held) c.carried in
    let len : frame.len ≡ length xs = sym (length-take-le frame.len frame.bytes room) ∙ ap length held in
    let same : frame.id ≡ id = ap (λ (s : BusFrame). s.id) c.carried in
    let beyond : drop frame.len frame.bytes ≡ replicate (8 - length xs) 0 = c.valid.beyond ∙ ap (λ n. replicate (8 - n) 0) len in
    let bytes : frame.bytes ≡ xs ++ replicate (8 - length xs) 0 = sym (take-append-drop frame.len frame.bytes) ∙ ap (λ b. b ++ drop frame.len frame.bytes) held ∙ ap (λ b. xs ++ b) beyond in
    frame_of_fields frame id (length xs) (xs ++ replicate (8 - length xs) 0) same len bytes
