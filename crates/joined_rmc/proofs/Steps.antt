-- What is kept for RMC stands for the history with one more entry, and gives what the definition over the whole history says.
use Rattle.std.proofs.Common.{◌≡◌, ℕ, ◌+◌, ◌%◌, Bool, true, false, List, ◌∷◌, refl, sym, ap, subst, ◌∙◌}
use Rattle.std.proofs.Math.Nat.{mod-add-mod}
use Rattle.std.specs.Prelude.{Option, Some, None, is_some, option_map, if◌then◌else◌}
use Rattle.n2k_id.specs.declared.name.Name.{Name}
use Rattle.readings.specs.declared.rows.Row.{Row}
use Rattle.readings.specs.declared.rows.Row.TheVariants as row
use Rattle.sentence_profile.specs.Rmc.{rmc_text}
use Rattle.tag_block.specs.Tag.{most_count}
use Rattle.datagram450.proofs.Counts.{counted_modulo}
use Rattle.history.specs.AddressLaws.{IsReceiver}
use Rattle.history.specs.Entries.{Entry, History, moment_of}
use Rattle.history.specs.Known.{known}
use Rattle.history.specs.Settings.{receiver_of, Settings}
use Rattle.history.proofs.Receivers.{gateways_receive}
use Rattle.gate_model.specs.AddressStands.{name_held}
use Rattle.gate_model.specs.Machine.{Machine}
use Rattle.gate_model.proofs.AddressTells.{standing_tells_alike}
use Rattle.gate_outbox.specs.Output.{Output}
use Rattle.parts.specs.SelectedMessage.{SelectedMessage}
use Rattle.parts.specs.Picked.{IsPicked, message_of}
use Rattle.parts.specs.Selected.{Selected, selected_at, last_of}
use Rattle.joined_rmc.specs.Lasting.{is_due, said_within, still_held}
use Rattle.joined_rmc.specs.JoinStands.{IsJoinStep, IsJoined, JoinStands, LastStands}
use Rattle.joined_rmc.specs.Kept.{Join, bytes_in, counted, in_last, is_due_message, join_after, join_says, message_within, minimum_in, rows_after}
use Rattle.joined_rmc.specs.RmcOut.{RmcRule, datagram_by, joined_in, lines_before, minimum, minimum_of, rmc_datagram, timeout_of}
use Rattle.joined_rmc.specs.declared.last_of_row.LastOfRow.{LastOfRow}
use Rattle.joined_rmc.proofs.Rows.{last_steps}

-- ---- what is kept of a row says what the history joins

pub within_same : (timeout m : ℕ) (x : Option Selected) → message_within timeout m (option_map message_of x) ≡ said_within timeout m x
within_same timeout m None = refl
within_same timeout m (Some x) = refl

pub last_says : (timeout : ℕ) (c : Settings) (s : ℕ) (row : Row) (h : History) (last : LastOfRow) (m : ℕ) → LastStands timeout c s row h last
    → in_last m last ≡ said_within timeout m (still_held (known (receiver_of c) s h).claims.holders (last_of c s row h))
last_says timeout c s row h last m stands =
    ap (λ t. message_within t m last.message) stands.timeout_is ∙ ap (message_within timeout m) stands.kept
    ∙ within_same timeout m (still_held (known (receiver_of c) s h).claims.holders (last_of c s row h))

pub says_minimum : (r : RmcRule) (c : Settings) (s : ℕ) (h : History) (j : Join) (m : ℕ) → JoinStands r c s h j → minimum_in m j ≡ minimum r c s h m
says_minimum r c s h j m stands =
    let t = last_says (timeout_of r.timeouts row.Time) c s row.Time h j.time m stands.time in
    let p = last_says (timeout_of r.timeouts row.Position) c s row.Position h j.position m stands.position in
    let v = last_says (timeout_of r.timeouts row.CourseSpeed) c s row.CourseSpeed h j.motion m stands.motion in
    let g = last_says (timeout_of r.timeouts row.HeadingMagnetic) c s row.HeadingMagnetic h j.heading m stands.heading in
    ap (λ o. minimum_of o (in_last m j.position) (in_last m j.motion) (in_last m j.heading)) t
    ∙ ap (λ o. minimum_of (joined_in r c s row.Time h m) o (in_last m j.motion) (in_last m j.heading)) p
    ∙ ap (λ o. minimum_of (joined_in r c s row.Time h m) (joined_in r c s row.Position h m) o (in_last m j.heading)) v
    ∙ ap (λ o. minimum_of (joined_in r c s row.Time h m) (joined_in r c s row.Position h m) (joined_in r c s row.CourseSpeed h m) o) g

-- ---- a step

due_same : (x : Option Selected) → is_due_message (option_map message_of x) ≡ is_due x
due_same None = refl
due_same (Some x) = refl

datagram_some : (b : Bool) (bytes : List ℕ) → is_some (if b then Some bytes else None) ≡ b
datagram_some true bytes = refl
datagram_some false bytes = refl

module _ (r : RmcRule) (c : Settings) (s : ℕ) (h : History) (e : Entry) (are : IsReceiver (receiver_of c)) (holder : ℕ → Option Name)
    (tells : (a : ℕ) → holder a ≡ name_held (known (receiver_of c) s (e ∷ h)).claims.holders a)
    (new : Option SelectedMessage) (picks : new ≡ option_map message_of (selected_at c s h e)) (j : Join) (stands : JoinStands r c s h j) where
  due : is_due_message new ≡ is_due (selected_at c s h e)
  due = ap is_due_message picks ∙ due_same (selected_at c s h e)

  -- but for the count
  with_count : (count : ℕ) → count ≡ lines_before r c s (e ∷ h) % most_count → JoinStands r c s (e ∷ h) (record (rows_after holder new j) { count = count })
  with_count count is = record {
    talker = stands.talker;
    sfi = stands.sfi;
    time = last_steps c s h e are holder tells row.Time (timeout_of r.timeouts row.Time) j.time new picks stands.time;
    position = last_steps c s h e are holder tells row.Position (timeout_of r.timeouts row.Position) j.position new picks stands.position;
    motion = last_steps c s h e are holder tells row.CourseSpeed (timeout_of r.timeouts row.CourseSpeed) j.motion new picks stands.motion;
    heading = last_steps c s h e are holder tells row.HeadingMagnetic (timeout_of r.timeouts row.HeadingMagnetic) j.heading new picks stands.heading;
    count = is;
  }

  lines_after : (b : Bool) → is_due (selected_at c s h e) ≡ b → lines_before r c s (e ∷ h) ≡ (if b then lines_before r c s h + 1 else lines_before r c s h)
  lines_after b is = ap (λ t. if t then lines_before r c s h + 1 else lines_before r c s h) is

  stands_after : JoinStands r c s (e ∷ h) (join_after holder new j)
  stands_after = by (is_due (selected_at c s h e)) refl
    where
      by : (b : Bool) → is_due (selected_at c s h e) ≡ b → JoinStands r c s (e ∷ h) (join_after holder new j)
      by true is =
          subst (λ t. JoinStands r c s (e ∷ h) (if t then counted (rows_after holder new j) else rows_after holder new j)) (sym (due ∙ is))
          (with_count ((j.count + 1) % most_count)
          (ap (λ n. (n + 1) % most_count) stands.count ∙ mod-add-mod (lines_before r c s h) most_count 1 ∙ ap (λ n. n % most_count) (sym (lines_after true is))))
      by false is =
          subst (λ t. JoinStands r c s (e ∷ h) (if t then counted (rows_after holder new j) else rows_after holder new j)) (sym (due ∙ is))
          (with_count j.count (stands.count ∙ ap (λ n. n % most_count) (sym (lines_after false is))))

  -- the rows say at the moment of the entry what is joined then
  minimum_is : minimum_in (moment_of e) (rows_after holder new j) ≡ minimum r c s (e ∷ h) (moment_of e)
  minimum_is =
      says_minimum r c s (e ∷ h) (record (rows_after holder new j) { count = lines_before r c s (e ∷ h) % most_count }) (moment_of e)
      (with_count (lines_before r c s (e ∷ h) % most_count) refl)

  says_so : join_says (moment_of e) holder new j ≡ rmc_datagram r c s h e
  says_so =
      let x = minimum_in (moment_of e) (rows_after holder new j) in
      let y = minimum r c s (e ∷ h) (moment_of e) in
      ap (λ t. if t then Some (datagram_by j.sfi j.talker j.count x) else None) due
      ∙ ap (λ (bytes : List ℕ). if is_due (selected_at c s h e) then Some bytes else None)
      (ap (λ v. datagram_by v j.talker j.count x) stands.sfi ∙ ap (λ v. datagram_by r.sfi v j.count x) stands.talker
      ∙ ap (λ n. datagram_by r.sfi r.talker n x) stands.count
      ∙ counted_modulo r.sfi (lines_before r c s h) (rmc_text r.talker x)
      ∙ ap (datagram_by r.sfi r.talker (lines_before r c s h)) minimum_is)

  joined_so : (after : Join) (said : Bool) (packet : List ℕ) → after ≡ join_after holder new j → said ≡ is_due_message new
      → packet ≡ bytes_in (join_says (moment_of e) holder new j) → IsJoined r c s h e after said packet
  joined_so after said packet after_is said_is packet_is = record {
    stands = subst (JoinStands r c s (e ∷ h)) (sym after_is) stands_after;
    said_is = said_is ∙ due ∙ sym (datagram_some (is_due (selected_at c s h e)) (datagram_by r.sfi r.talker (lines_before r c s h) (minimum r c s (e ∷ h) (moment_of e))));
    packet_is = packet_is ∙ ap bytes_in says_so;
  }

pub joins : (g : Machine) (left : Output) (new : Option SelectedMessage) (before after : Join) (said : Bool) (packet : List ℕ) → IsPicked g left new
    → after ≡ join_after (name_held g.addresses.claims.holders) new before → said ≡ is_due_message new
    → packet ≡ bytes_in (join_says g.moment (name_held g.addresses.claims.holders) new before) → IsJoinStep g left before after said packet
joins g left new before after said packet picked after_is said_is packet_is r c s h e settings taken stands =
    let at : g.moment ≡ moment_of e = taken.stands.moment in
    let holder = name_held g.addresses.claims.holders in
    let are = gateways_receive c settings in
    let tells = (standing_tells_alike (receiver_of c) s (e ∷ h) g.addresses taken.stands.addresses).names in
    joined_so r c s h e are holder tells new (picked c s h e taken) before stands after said packet after_is said_is
    (packet_is ∙ ap (λ m. bytes_in (join_says m holder new before)) at)
