use Rattle.std.proofs.Common.{◌≡◌, ◌<◌, ◌+◌, ◌-◌, min, length, take, get_or, sym, ◌∙◌, ap, subst, add-one, true, false, arith}
use Rattle.std.proofs.lemmas.Bool.{lt-ltb, le-ltb}
use Rattle.std.proofs.lemmas.List.{take_all}
use Rattle.slot_views.specs.declared.slot.Slot.{Slot}
use Rattle.slot_views.specs.Slots.{has_expired}
use Rattle.slot_views.specs.Shelf.{entry_of, quiet_of}
use Rattle.slot_views.proofs.Lists.{all_take_more, holds_read}
use Rattle.slot_views.proofs.Quiet.{quiet_none, quiet_more}
use Rattle.slot_views.proofs.slot.first_expired.Given.{Over}
use Rattle.slot_views.proofs.slot.first_expired.Goals.{After-loop-at}
use Rattle.slot_views.proofs.slot.first_expired.Goals as goal

pub loop-at-init : goal.loop-at-init
loop-at-init g c = record { none = tt; quiet = sym (quiet_none g.row.K.Denot) }

pub loop-at-preserved : goal.loop-at-preserved
loop-at-preserved g c =
    let items = c.args.slots.now.items in
    let in_range : c.loop-at.at < length c.args.slots.now.items = omega arith in
    let here : has_expired c.args.moment (entry_of c.slot-item.result) ≡ false = le-ltb c.slot-item.result.gap (c.args.moment - c.slot-item.result.last) (omega arith) in
    let read : c.slot-item.result ≡ get_or items c.loop-at.at c.slot-item.result = rw c.deref-slot-items.ensures.value at c.slot-item.is in
    rw add-one record {
      none = all_take_more (λ s. has_expired c.args.moment (entry_of s) ≡ false) items c.loop-at.at c.slot-item.result in_range c.loop-at.invariant.none (subst (λ (s : Slot g.row.K.Denot). has_expired c.args.moment (entry_of s) ≡ false) read here);
      quiet = c.still_quiet-quiet_until.ensures ∙ (ap (λ n. min n (c.slot-item.result.last + c.slot-item.result.gap)) c.loop-at.invariant.quiet
          ∙ (ap (λ (s : Slot g.row.K.Denot). min (quiet_of (take c.loop-at.at items)) (s.last + s.gap)) read ∙ sym (quiet_more items c.loop-at.at c.slot-item.result in_range)));
    }

pub returns-then-saturating_sub-from-clause-found : goal.returns-then-saturating_sub-from-clause-found
returns-then-saturating_sub-from-clause-found g c =
    let items = c.args.slots.now.items in
    let in_range : c.loop-at.at < length c.args.slots.now.items = omega arith in
    let here : has_expired c.args.moment (entry_of c.slot-item.result) ≡ true = lt-ltb c.slot-item.result.gap (c.args.moment - c.slot-item.result.last) (omega arith) in
    let read : c.slot-item.result ≡ get_or items c.loop-at.at c.slot-item.result = rw c.deref-slot-items.ensures.value at c.slot-item.is in
    record { in_range = in_range; before = c.loop-at.invariant.none; here = λ d. holds_read (λ s. has_expired c.args.moment (entry_of s) ≡ true) items c.loop-at.at c.slot-item.result d in_range read here }

-- no slot is left
all_seen : (g : Over) (c : After-loop-at g) → take c.loop-at.at c.args.slots.now.items ≡ c.args.slots.now.items
all_seen g c = take_all c.loop-at.at c.args.slots.now.items (omega arith)

pub returns-clause-absent : goal.returns-clause-absent
returns-clause-absent g c = rw (all_seen g c) at c.loop-at.invariant.none

pub returns-clause-quiet : goal.returns-clause-quiet
returns-clause-quiet g c = c.loop-at.invariant.quiet ∙ ap quiet_of (all_seen g c)
