-- What is promised of heartbeats over whole histories.
use Rattle.std.proofs.Common.{◌≡◌, ℕ, ◌+◌, ◌≤◌, Bool, true, false, [], ◌∷◌, ◌++◌, refl, sym, subst, ◌∙◌, arith}
use Rattle.std.specs.Prelude.{◌&&◌, nat_lt, nat_le, Option, Some, None, is_some, if◌then◌else◌}
use Rattle.std.proofs.lemmas.Bool.{ltb-true}
use Rattle.claim_table.specs.Claims.{Claims, claim_wait, is_ready}
use Rattle.history.specs.Entries.{Entry, History, moment_of, now}
use Rattle.history.specs.Settings.{Settings}
use Rattle.heartbeats.specs.BeatOut.{beat_from, beats_before, claims_after, hbt_before, hbt_emit, is_beat, is_well}
use Rattle.heartbeats.specs.Due.{due_by, is_due, last_due}
use Rattle.heartbeats.specs.Laws.{CouldSend, FramesAreReady, FramesKeepToGrid, HbtIsDue, HbtKeepsToGrid, IsOneWhere}
use Rattle.heartbeats.proofs.Grid.{came_due, due_of_event, entry_more, is_due_by, is_last, one_if, one_last}

pub hbt_is_due : HbtIsDue
hbt_is_due silent n c s h e some event =
    let is = due_of_event n.every_s s h e event in
    one_if _ (is_due n.every_s s h e) (hbt_emit n c.sfi (is_well silent c s h e) (hbt_before n c s h))
    (λ due. came_due n.every_s s some h (moment_of e) (sym is ∙ due))
    (λ came. is ∙ is_due_by n.every_s s some h (moment_of e) came)

-- ---- a frame is sent where one is due and the gateway was ready, and then it has an address

one_frame : (it : Type 0) (due late : Bool) (own : Option ℕ) (before : ℕ) → (due ≡ true → (is_some own && late) ≡ true → it)
    → (it → (due ≡ true) × ((is_some own && late) ≡ true)) → IsOneWhere it (if due && (is_some own && late) then beat_from own before else [])
one_frame it true true (Some own) before to from = record { most = omega arith; one = (λ is. to refl refl, λ p. refl) }
one_frame it true false (Some own) before to from = record { most = omega arith; one = (λ is. absurd cc, λ p. let never = (from p).1 in absurd cc) }
one_frame it true late None before to from = record { most = omega arith; one = (λ is. absurd cc, λ p. let never = (from p).1 in absurd cc) }
one_frame it false late own before to from = record { most = omega arith; one = (λ is. absurd cc, λ p. let never = (from p).0 in absurd cc) }

module _ (every : ℕ) (c : Settings) (s : ℕ) (h : History) (e : Entry) (some : 1 ≤ every) (is : is_due every s h e ≡ nat_lt (due_by every s (now h)) (due_by every s (moment_of e))) where
  abbrev claims : Claims
  claims = claims_after c s (e ∷ h)

  grew : is_due every s h e ≡ true → 1 ≤ due_by every s (moment_of e)
  grew due = let up = ltb-true (due_by every s (now h)) (due_by every s (moment_of e)) (sym is ∙ due) in omega (arith, up)

  could_send : is_due every s h e ≡ true → is_ready claims (last_due every s (moment_of e)) ≡ true → CouldSend every c s h e
  could_send due ready = record {
    came = came_due every s some h (moment_of e) (sym is ∙ due);
    ready = λ other last. subst (λ (m : ℕ). is_ready claims m ≡ true) (sym (one_last every s some (moment_of e) other (grew due) last)) ready;
  }

  due_and_ready : CouldSend every c s h e → (is_due every s h e ≡ true) × (is_ready claims (last_due every s (moment_of e)) ≡ true)
  due_and_ready could =
      let due = is ∙ is_due_by every s some h (moment_of e) could.came in
      (due, could.ready (last_due every s (moment_of e)) (is_last every s some (moment_of e) (grew due)))

pub frames_are_ready : FramesAreReady
frames_are_ready every c s h e some event =
    let is = due_of_event every s h e event in
    let claims = claims_after c s (e ∷ h) in
    one_frame _ (is_due every s h e) (nat_le (claims.counted_from + claim_wait) (last_due every s (moment_of e))) claims.own (beats_before every c s h)
    (could_send every c s h e some is) (due_and_ready every c s h e some is)

-- ---- how many there are

pub hbt_keeps_to_grid : HbtKeepsToGrid
hbt_keeps_to_grid n c s [] h could = omega arith
hbt_keeps_to_grid n c s (e ∷ newer) h could =
    omega (
      arith,
      hbt_keeps_to_grid n c s newer h could.2,
      entry_more n.every_s s (newer ++ h) e (is_due n.every_s s (newer ++ h) e) (hbt_before n c s (newer ++ h)) could.1 (λ is. is),
    )

is_first : (a b : Bool) → (a && b) ≡ true → a ≡ true
is_first true b is = refl
is_first false b is = absurd cc

pub frames_keep_to_grid : FramesKeepToGrid
frames_keep_to_grid every c s [] h could = omega arith
frames_keep_to_grid every c s (e ∷ newer) h could =
    omega (
      arith,
      frames_keep_to_grid every c s newer h could.2,
      entry_more every s (newer ++ h) e (is_beat every c s (newer ++ h) e) (beats_before every c s (newer ++ h)) could.1
          (is_first (is_due every s (newer ++ h) e) (is_ready (claims_after c s (e ∷ newer ++ h)) (last_due every s (moment_of e)))),
    )
