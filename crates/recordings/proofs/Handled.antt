-- What an entry gives by itself is the same whatever the places of entries, as long as their order stays.
use Rattle.std.proofs.Common.{◌≡◌, ℕ, Bool, not, List, [], ◌∷◌, ◌++◌, length, map, refl, ap, ◌∙◌}
use Rattle.std.specs.Prelude.{Option, Some, None, option_map, if◌then◌else◌}
use Rattle.report_rules.specs.Rules as rules
use Rattle.n2k_id.specs.Frame.{BusFrame}
use Rattle.n2k_id.specs.Identifier.{parts_of}
use Rattle.n2k_id.specs.Pgns as pgns
use Rattle.n2k_id.specs.declared.identifier_parts.Parts.{Parts}
use Rattle.claim_table.specs.Claims.{claim, is_obeyed}
use Rattle.claim_table.specs.declared.answer.ClaimStep.{ClaimStep}
use Rattle.claim_table.specs.declared.answer.Holder.{Holder}
use Rattle.pgn_profile.specs.declared.kinds.Kind.{Kind}
use Rattle.fast_packet.specs.FastRuns.{FastPiece}
use Rattle.iso_transport.specs.Audience.{key_of}
use Rattle.iso_transport.specs.IsoRuns.{IsoPiece}
use Rattle.gate_events.specs.Emit.{Emit}
use Rattle.gate_events.specs.declared.emit.Detail.TheVariants as detail
use Rattle.gate_events.specs.declared.emit.Report.{Report}
use Rattle.history.specs.BusRules.{frame_breaks}
use Rattle.history.specs.Emits.{breaks, broken_of, own_claim}
use Rattle.history.specs.Endings.{lost_elsewhere, side}
use Rattle.history.specs.Entries.{History, frame}
use Rattle.history.specs.Entries as entry
use Rattle.history.specs.FromBus.{answers_by, claim_gives, command_breaks, command_gives, frames_before, own_answer, packets_before, request_gives, session_gives, step_gives}
use Rattle.history.specs.Known.{Known, address_left, address_won, claim_by, is_claim, known, known_after}
use Rattle.history.specs.Meanings.{Meaning, address_claim, own_source, request, from_nobody, transport, single, fast_packet, passed, is_of_fast_packet, is_of_session, meaning_of}
use Rattle.history.specs.Messages.{Message}
use Rattle.history.specs.Opens.{note_of, notes_of}
use Rattle.history.specs.Settings.{Receiver}
use Rattle.history.specs.Traces.{NotedFrame}
use Rattle.recordings.proofs.Places.{closed}
use Rattle.recordings.proofs.Renumbered.{after_as, holder_as, is_held_as, known_as, obeyed_as, step_as}
use Rattle.recordings.proofs.Traces.{AreApart, note_as, fast_open_as, iso_open_as}
use Rattle.recordings.proofs.Noted.{message_as, the_note_as}
use Rattle.recordings.proofs.Gathered.{joined}
use Rattle.recordings.proofs.Endings.{elsewhere_as, lost_at_as}

-- ---- what a frame is, and which rules it breaks

pub meaning_as : (f : ℕ → ℕ) (kinds : ℕ → Kind) (own : Option ℕ) (holders : List (Option Holder)) (p : Parts)
    → meaning_of kinds own (map (holder_as f) holders) p ≡ meaning_of kinds own holders p
meaning_as f kinds own holders p = rw (is_held_as f holders p.source) refl

breaks_as : (f : ℕ → ℕ) (name : ℕ) (meaning : Meaning) (x : NotedFrame) (frames : Option (List FastPiece)) (packets : Option (List IsoPiece)) (d : Option Message)
    → frame_breaks name meaning (note_as f x) frames packets (option_map (message_as f) d) ≡ frame_breaks name meaning x frames packets d
breaks_as f name address_claim x frames packets d = refl
breaks_as f name own_source x frames packets d = refl
breaks_as f name request x frames packets d = refl
breaks_as f name from_nobody x frames packets d = refl
breaks_as f name transport x frames packets None = refl
breaks_as f name transport x frames packets (Some d) = refl
breaks_as f name single x frames packets None = refl
breaks_as f name single x frames packets (Some d) = refl
breaks_as f name fast_packet x frames packets None = refl
breaks_as f name fast_packet x frames packets (Some d) = refl
breaks_as f name passed x frames packets d = refl

-- by what is known before it
abbrev pub refused_at : Receiver → ℕ → BusFrame → ℕ → Known → List NotedFrame → Option Message → List Report
refused_at r m f i k notes d =
    let meaning = meaning_of r.kinds k.claims.own k.claims.holders (parts_of f.id) in
    let x = note_of r i k notes m f in
    frame_breaks r.name meaning x (frames_before meaning k.claims.holders notes m x.parts) (packets_before meaning k notes m x.parts) d

abbrev pub answers_at : Receiver → ℕ → BusFrame → Meaning → ℕ → Known → List NotedFrame → List Emit
answers_at r m f address_claim i k notes = claim_gives r.kinds r.name i k notes m f
answers_at r m f request i k notes = request_gives r.name k.claims.own f.held
answers_at r m f transport i k notes = session_gives k.claims.own (packets_before transport k notes m (parts_of f.id)) (note_of r i k notes m f)
answers_at r m f _ i k notes = []

pub answers_are : (r : Receiver) (s : ℕ) (h : History) (m : ℕ) (f : BusFrame) (meaning : Meaning)
    → answers_by r s h m f meaning ≡ answers_at r m f meaning (length h) (known r s h) (notes_of r s h)
answers_are r s h m f address_claim = refl
answers_are r s h m f own_source = refl
answers_are r s h m f request = refl
answers_are r s h m f from_nobody = refl
answers_are r s h m f transport = refl
answers_are r s h m f single = refl
answers_are r s h m f fast_packet = refl
answers_are r s h m f passed = refl

module _ (n : ℕ) (r : Receiver) (i : ℕ) (k : Known) (notes : List NotedFrame) (apart : AreApart n notes) where
  frames_as : (meaning : Meaning) (m : ℕ) (p : Parts)
      → frames_before meaning (map (holder_as (closed n)) k.claims.holders) (map (note_as (closed n)) notes) m p ≡ frames_before meaning k.claims.holders notes m p
  frames_as meaning m p =
      ap (λ (o : Option (List FastPiece)). if is_of_fast_packet meaning then o else None)
      (fast_open_as n k.claims.holders notes (record { source = p.source; pgn = p.pgn }) m apart)

  packets_as : (meaning : Meaning) (m : ℕ) (p : Parts)
      → packets_before meaning (known_as (closed n) k) (map (note_as (closed n)) notes) m p ≡ packets_before meaning k notes m p
  packets_as meaning m p =
      ap (λ (o : Option (List IsoPiece)). if is_of_session meaning then o else None) (iso_open_as n k notes (key_of p) m apart)

  pub refused_as : (m : ℕ) (f : BusFrame) (d : Option Message)
      → refused_at r m f (closed n i) (known_as (closed n) k) (map (note_as (closed n)) notes) (option_map (message_as (closed n)) d) ≡ refused_at r m f i k notes d
  refused_as m f d =
      let p = parts_of f.id in
      let k' = known_as (closed n) k in
      let notes' = map (note_as (closed n)) notes in
      let d' = option_map (message_as (closed n)) d in
      let meaning = meaning_of r.kinds k.claims.own k.claims.holders p in
      let x = note_of r i k notes m f in
      ap (λ (y : Meaning). frame_breaks r.name y (note_of r (closed n i) k' notes' m f) (frames_before y k'.claims.holders notes' m p) (packets_before y k' notes' m p) d')
      (meaning_as (closed n) r.kinds k.claims.own k.claims.holders (parts_of f.id))
      ∙ ap (λ (y : NotedFrame). frame_breaks r.name meaning y (frames_before meaning k'.claims.holders notes' m p) (packets_before meaning k' notes' m p) d')
      (the_note_as n r i k notes apart m f)
      ∙ ap (λ (o : Option (List FastPiece)). frame_breaks r.name meaning (note_as (closed n) x) o (packets_before meaning k' notes' m p) d') (frames_as meaning m p)
      ∙ ap (λ (o : Option (List IsoPiece)). frame_breaks r.name meaning (note_as (closed n) x) (frames_before meaning k.claims.holders notes m p) o d') (packets_as meaning m p)
      ∙ breaks_as (closed n) r.name meaning x (frames_before meaning k.claims.holders notes m p) (packets_before meaning k notes m p) d

  -- ---- what it is answered

  step_gives_as : (kinds : ℕ → Kind) (name : ℕ) (after : Known) (m : ℕ) (step : ClaimStep)
      → step_gives kinds name (known_as (closed n) k) (known_as (closed n) after) (map (note_as (closed n)) notes) m step ≡ step_gives kinds name k after notes m step
  step_gives_as kinds name after m step =
      ap (λ (es : List Emit). es ++ own_answer name step.own after.claims.own)
      (joined
      (joined (lost_at_as n notes apart (side k m) (side after m) kinds (address_left step)) (lost_at_as n notes apart (side k m) (side after m) kinds (address_won step)))
      (elsewhere_as n notes apart (side k m) (side after m) (address_left step) (address_won step)))

  claim_gives_as : (m : ℕ) (f : BusFrame)
      → claim_gives r.kinds r.name (closed n i) (known_as (closed n) k) (map (note_as (closed n)) notes) m f ≡ claim_gives r.kinds r.name i k notes m f
  claim_gives_as m f =
      let k' = known_as (closed n) k in
      let notes' = map (note_as (closed n)) notes in
      let after = known_after i k (frame m f) in
      ap (λ (x : Known). if is_claim f then step_gives r.kinds r.name k' x notes' m (claim k'.claims (claim_by (closed n i) m f)).step else [])
      (after_as (closed n) i k (frame m f))
      ∙ ap (λ (x : ClaimStep). if is_claim f then step_gives r.kinds r.name k' (known_as (closed n) after) notes' m x else []) (step_as (closed n) i k m f)
      ∙ ap (λ (x : List Emit). if is_claim f then x else []) (step_gives_as r.kinds r.name after m (claim k.claims (claim_by i m f)).step)

  session_gives_as : (m : ℕ) (f : BusFrame)
      → session_gives k.claims.own (packets_before transport (known_as (closed n) k) (map (note_as (closed n)) notes) m (parts_of f.id))
      (note_of r (closed n i) (known_as (closed n) k) (map (note_as (closed n)) notes) m f)
      ≡ session_gives k.claims.own (packets_before transport k notes m (parts_of f.id)) (note_of r i k notes m f)
  session_gives_as m f =
      ap (λ (x : NotedFrame). session_gives k.claims.own (packets_before transport (known_as (closed n) k) (map (note_as (closed n)) notes) m (parts_of f.id)) x)
      (the_note_as n r i k notes apart m f)
      ∙ ap (λ (o : Option (List IsoPiece)). session_gives k.claims.own o (note_of r i k notes m f)) (packets_as transport m (parts_of f.id))

  pub answers_as : (m : ℕ) (f : BusFrame) (meaning : Meaning)
      → answers_at r m f meaning (closed n i) (known_as (closed n) k) (map (note_as (closed n)) notes) ≡ answers_at r m f meaning i k notes
  answers_as m f address_claim = claim_gives_as m f
  answers_as m f own_source = refl
  answers_as m f request = refl
  answers_as m f from_nobody = refl
  answers_as m f transport = session_gives_as m f
  answers_as m f single = refl
  answers_as m f fast_packet = refl
  answers_as m f passed = refl

  -- ---- what a command does

  pub command_breaks_as : (source address : ℕ) → command_breaks (known_as (closed n) k).claims source address ≡ command_breaks k.claims source address
  command_breaks_as source address =
      ap (λ (b : Bool). broken_of (breaks (not b) rules.command_not_obeyed (detail.Source source pgns.commanded_address) ∷ [])) (obeyed_as (closed n) k.claims address)

  pub command_gives_as : (name m source address : ℕ)
      → command_gives name (closed n i) (known_as (closed n) k) (map (note_as (closed n)) notes) m source address ≡ command_gives name i k notes m source address
  command_gives_as name m source address =
      let k' = known_as (closed n) k in
      let notes' = map (note_as (closed n)) notes in
      let after = known_after i k (entry.command m source address) in
      ap (λ (x : Known). if is_obeyed k'.claims address then lost_elsewhere (side k' m) (side x m) notes' None None ++ own_claim name x.claims.own ∷ [] else [])
      (after_as (closed n) i k (entry.command m source address))
      ∙ ap (λ (b : Bool). if b then lost_elsewhere (side k' m) (side (known_as (closed n) after) m) notes' None None ++ own_claim name after.claims.own ∷ [] else [])
      (obeyed_as (closed n) k.claims address)
      ∙ ap (λ (x : List Emit). if is_obeyed k.claims address then x ++ own_claim name after.claims.own ∷ [] else [])
      (elsewhere_as n notes apart (side k m) (side after m) None None)
