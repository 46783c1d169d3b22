-- A frame that claims an address (ISO 11783-5) is meant as a claim.
use Rattle.std.proofs.Common.{◌≡◌, ℕ, true, ◌==◌, refl, ap}
use Rattle.std.proofs.lemmas.Bool.{and_parts}
use Rattle.n2k_id.specs.Frame.{BusFrame}
use Rattle.n2k_id.specs.Identifier.{parts_of}
use Rattle.pgn_profile.specs.Profiled.{kind_of}
use Rattle.history.specs.Known.{is_claim}
use Rattle.n2k_id.specs.Pgns as pgns
use Rattle.history.specs.Meanings.{address_claim, meaning_of}
use Rattle.gate_model.specs.Machine.{Compared, Machine}
use Rattle.gate_model.specs.MachineSteps.{claim_frame, frame_here, frame_step}

pub claims_are_meant : (o : Compared) (g : Machine) (m : ℕ) (f : BusFrame) → is_claim f ≡ true → frame_here o g m f ≡ claim_frame o g m f
claims_are_meant o g m f claims =
    let is : ((parts_of f.id).pgn == pgns.address_claimed) ≡ true = (and_parts ((parts_of f.id).pgn == pgns.address_claimed) _ claims).0 in
    let meant : meaning_of kind_of g.addresses.claims.own g.addresses.claims.holders (parts_of f.id) ≡ address_claim = rw is refl in
    ap (frame_step o g m f) meant
