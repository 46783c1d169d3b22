-- Where nothing is emitted at a tick, events that come after it give the same with it and without it.
use Rattle.std.proofs.Common.{◌≡◌, ℕ, ◌≤◌, Bool, true, false, List, [], ◌∷◌, ◌++◌, length, refl, sym, ap, ◌∙◌, nat_le, arith}
use Rattle.std.specs.Prelude.{Option, Some, None, option_map, if◌then◌else◌}
use Rattle.std.proofs.lemmas.Bool.{le-leb}
use Rattle.report_rules.specs.Rules as rules
use Rattle.gate_events.specs.Emit.{Emitted}
use Rattle.gate_events.specs.declared.emit.Detail.TheVariants as detail
use Rattle.history.specs.Emits.{at, broken}
use Rattle.history.specs.Entries.{Entry, History, moment_of, now, tick}
use Rattle.history.specs.Gate.{Stepped, command_in, with_command_by}
use Rattle.history.specs.Messages.{Message, done}
use Rattle.history.specs.Settings.{receiver_of}
use Rattle.gateway_commands.specs.Gate.{all_out, from_events}
use Rattle.gateway_commands.specs.BridgeSettings.{BridgeSettings}
use Rattle.recordings.specs.IdleLaws.{IdleTicks}
use Rattle.recordings.proofs.Places.{closed}
use Rattle.recordings.proofs.Noted.{message_as}
use Rattle.recordings.proofs.Messages.{done_without}
use Rattle.recordings.proofs.Gathered.{joined}
use Rattle.recordings.proofs.Overdue.{expired_later}
use Rattle.recordings.proofs.Out.{out_without}
use Rattle.recordings.proofs.All.{all_alike}
use Rattle.recordings.proofs.Quiet.{Follows}

module _ (p : BridgeSettings) (s : ℕ) where
  -- an event that is accepted or not, with the command that it completes, and the events after it
  abbrev stepped_if : Bool → Option Entry → History → Entry → Stepped p.gateway s
  stepped_if b ordered h e =
      if b then with_command_by p.gateway s (all_out p s) h e ordered
      else record { emits = at (now h) (broken rules.moment_back detail.Nothing ∷ []); after = h }

  abbrev run : Bool → Option Entry → History → Entry → List Entry → List Emitted
  run b ordered h e es = let x = stepped_if b ordered h e in x.emits ++ from_events p s x.after es

  abbrev ordered_at : History → Entry → Option Entry
  ordered_at h e = command_in p.gateway s (done (receiver_of p.gateway) s h e) (moment_of e)

  ordered_as : (f : ℕ → ℕ) (d : Option Message) (t : ℕ) → command_in p.gateway s (option_map (message_as f) d) t ≡ command_in p.gateway s d t
  ordered_as f None t = refl
  ordered_as f (Some d) t = refl

  module _ (m : ℕ) (h : History) (le : now h ≤ m) (none : all_out p s h (tick m) ≡ []) where
    ordered_without : (newer : History) (e : Entry) → ordered_at (newer ++ h) e ≡ ordered_at (newer ++ tick m ∷ h) e
    ordered_without newer e =
        ap (λ (d : Option Message). command_in p.gateway s d (moment_of e)) (done_without (receiver_of p.gateway) s m h newer e)
        ∙ ordered_as (closed (length h)) (done (receiver_of p.gateway) s (newer ++ tick m ∷ h) e) (moment_of e)

    -- an event that is accepted, by what the events after it give
    accepted : (newer : History) (e : Entry) (ordered : Option Entry) (es : List Entry) → Follows m newer e
        → ((e' : Entry) (newer' : History) → Follows m newer' e' → from_events p s (e' ∷ newer' ++ h) es ≡ from_events p s (e' ∷ newer' ++ tick m ∷ h) es)
        → run true ordered (newer ++ h) e es ≡ run true ordered (newer ++ tick m ∷ h) e es
    accepted newer e None es follow rest =
        joined (ap (at (moment_of e)) (all_alike p s m h le none newer e follow)) (rest e newer follow)
    accepted newer e (Some ordered) es follow rest =
        joined (ap (at (moment_of e))
        (joined (all_alike p s m h le none newer e follow) (out_without p.gateway s m h (e ∷ newer) ordered (expired_later p.gateway s m h e newer (moment_of ordered)))))
        (rest ordered (e ∷ newer) follow)

    -- one that comes after another
    next : (b : Bool) (last : Entry) (newer : History) (e : Entry) (es : List Entry) → Follows m newer last
        → ((e' : Entry) (newer' : History) → Follows m newer' e' → from_events p s (e' ∷ newer' ++ h) es ≡ from_events p s (e' ∷ newer' ++ tick m ∷ h) es)
        → run b (ordered_at (last ∷ newer ++ h) e) (last ∷ newer ++ h) e es ≡ run b (ordered_at (last ∷ newer ++ tick m ∷ h) e) (last ∷ newer ++ tick m ∷ h) e es
    next true last newer e es follow rest =
        ap (λ (ordered : Option Entry). run true ordered (last ∷ newer ++ h) e es) (ordered_without (last ∷ newer) e)
        ∙ accepted (last ∷ newer) e (ordered_at (last ∷ newer ++ tick m ∷ h) e) es follow rest
    next false last newer e es follow rest =
        ap (λ (given : List Emitted). at (moment_of last) (broken rules.moment_back detail.Nothing ∷ []) ++ given) (rest last newer follow)

    later : (es : List Entry) (last : Entry) (newer : History) → Follows m newer last → from_events p s (last ∷ newer ++ h) es ≡ from_events p s (last ∷ newer ++ tick m ∷ h) es
    later [] last newer follow = refl
    later (e ∷ es) last newer follow = next (nat_le (moment_of last) (moment_of e)) last newer e es follow (later es)

    -- the first one after the tick
    first : (e : Entry) (es : List Entry) → m ≤ moment_of e → from_events p s (tick m ∷ h) (e ∷ es) ≡ from_events p s h (e ∷ es)
    first e es from =
        ap (λ (b : Bool). run b (ordered_at (tick m ∷ h) e) (tick m ∷ h) e es) (le-leb m (moment_of e) from)
        ∙ sym (accepted [] e (ordered_at (tick m ∷ h) e) es from (later es))
        ∙ ap (λ (ordered : Option Entry). run true ordered h e es) (sym (ordered_without [] e))
        ∙ ap (λ (b : Bool). run b (ordered_at h e) h e es) (sym (le-leb (now h) (moment_of e) (omega arith)))

pub idle_ticks : IdleTicks
idle_ticks p s h m [] le none from = refl
idle_ticks p s h m (e ∷ es) le none from = first p s m h le none e es from
