use Rattle.std.proofs.Common.{◌≡◌, ◌++◌, ◌∷◌, [], Bool, length, List, ℕ, refl, ap, subst, ◌∙◌, arith}
use Rattle.std.specs.Prelude.{Option, Some}
use Rattle.gate_outside.specs.declared.handover.Parcel.{Parcel}
use Rattle.gate_outside.specs.Link.{Handed}
use Rattle.gate_outside.specs.LinkMemory.{pairs_of, total_len}
use Rattle.gate_outside.proofs.Pairs.{more_than_told, one_more_told, total_len-push, told_of, seen, within_room, test_of}
use Rattle.gate_outside.proofs.handover.Handover.add.Goals as goal

pub returns-then-not-fits : goal.returns-then-not-fits
returns-then-not-fits c =
    let r = c.self.inside in
    let parcel : Parcel = record { group = c.args.group; len = length c.args.piece.now } in
    let is : seen (Some (pairs_of r.parcels.items r.bytes.items)) r.room r.most ≡ c.args.self.now = subst (λ (b : Bool). seen (told_of b r.parcels.items r.bytes.items) r.room r.most ≡ c.args.self.now) c.if-not-self.false c.self.view_is in
    let counts : total_len r.parcels.items ≡ length r.bytes.items = omega arith in
    more_than_told c.args.self.now r.parcels.items r.bytes.items c.args.piece.now parcel r.room r.most is counts refl (test_of r.parcels.items r.bytes.items c.args.piece.now r.room r.most c.len.result c.len-2.result c.fits.result (omega arith) (omega arith) c.fits.ensures ∙ c.if-not-fits.true)

pub invariant_of-self-2 : goal.invariant_of-self-2
invariant_of-self-2 c =
    let r = c.self.inside in
    let parcel : Parcel = record { group = c.args.group; len = length c.args.piece.now } in
    let w = within_room r.parcels.items r.bytes.items c.args.piece.now r.room r.most (test_of r.parcels.items r.bytes.items c.args.piece.now r.room r.most c.len.result c.len-2.result c.fits.result (omega arith) (omega arith) c.fits.ensures ∙ c.if-not-fits.false) in (
      omega (arith, c.store.ensures.bytes_len, w.1),
      omega (arith, c.store.ensures.bytes_room),
      omega (arith, c.store.ensures.parcels_len, w.0),
      omega (arith, c.store.ensures.parcels_room),
      omega (arith, ap total_len c.store.ensures.parcels, total_len-push r.parcels.items parcel, c.store.ensures.bytes_len),
    )

pub returns : goal.returns
returns c =
    let r = c.self.inside in
    let parcel : Parcel = record { group = c.args.group; len = length c.args.piece.now } in
    let is : seen (Some (pairs_of r.parcels.items r.bytes.items)) r.room r.most ≡ c.args.self.now = subst (λ (b : Bool). seen (told_of b r.parcels.items r.bytes.items) r.room r.most ≡ c.args.self.now) c.if-not-self.false c.self.view_is in
    let counts : total_len r.parcels.items ≡ length r.bytes.items = omega arith in
    let more = one_more_told c.args.self.now r.parcels.items r.bytes.items c.args.piece.now parcel r.room r.most is counts refl (test_of r.parcels.items r.bytes.items c.args.piece.now r.room r.most c.len.result c.len-2.result c.fits.result (omega arith) (omega arith) c.fits.ensures ∙ c.if-not-fits.false) in
    let told : told_of r.told c.store.new.parcels.items c.store.new.bytes.items ≡ Some (pairs_of c.store.new.parcels.items c.store.new.bytes.items) = ap (λ (b : Bool). told_of b c.store.new.parcels.items c.store.new.bytes.items) c.if-not-self.false in
    let pairs : pairs_of c.store.new.parcels.items c.store.new.bytes.items ≡ pairs_of (r.parcels.items ++ parcel ∷ []) (r.bytes.items ++ c.args.piece.now) =
    ap (λ (ps : List Parcel). pairs_of ps c.store.new.bytes.items) c.store.ensures.parcels ∙ ap (λ (bs : List ℕ). pairs_of (r.parcels.items ++ parcel ∷ []) bs) c.store.ensures.bytes in
    ap (λ (h : Option (List Handed)). seen h r.room r.most) (told ∙ ap (λ (ps : List Handed). Some ps) pairs) ∙ more
