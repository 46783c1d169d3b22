-- What is known of a message that an entry completes: it is by this entry, from an address that is held.
use Rattle.std.proofs.Common.{◌≡◌, ℕ, List, length, refl, subst}
use Rattle.std.specs.Prelude.{Option, Some, None}
use Rattle.n2k_id.specs.Identifier.{parts_of}
use Rattle.claim_table.specs.declared.answer.Holder.{Holder}
use Rattle.claim_table.specs.Claims.{holder_at}
use Rattle.history.specs.Entries.{Entry, History, frame, datagram, tick, command, moment_of}
use Rattle.history.specs.Known.{known}
use Rattle.history.specs.Messages.{Carried, Message, completed_by, done, said_by}
use Rattle.history.specs.Opens.{note_of, notes_of}
use Rattle.history.specs.Settings.{Receiver}

pub record IsDoneBy (holders : List (Option Holder)) (i m : ℕ) (d : Message) : Type 0 where
  pub index : d.index ≡ i
  pub moment : d.moment ≡ m
  pub holder : Holder
  pub held : holder_at holders d.source ≡ Some holder

done_from : (holders : List (Option Holder)) (i m source : ℕ) (x : Option Holder) (what : Option Carried) (d : Message)
    → holder_at holders source ≡ x → said_by i m source x what ≡ Some d → IsDoneBy holders i m d
done_from holders i m source None what d held is = cc
done_from holders i m source (Some y) None d held is = cc
done_from holders i m source (Some y) (Some w) d held is =
    let z : Message = record { index = i; moment = m; source = source; name = y.name.0; pgn = w.pgn; payload = w.payload } in
    let same : z ≡ d = cc in
    subst (IsDoneBy holders i m) same (record { index = refl; moment = refl; holder = y; held = held })

pub done_by : (r : Receiver) (s : ℕ) (h : History) (e : Entry) (d : Message) → done r s h e ≡ Some d
    → IsDoneBy (known r s h).claims.holders (length h) (moment_of e) d
done_by r s h (frame m f) d is =
    done_from (known r s h).claims.holders (length h) m (parts_of f.id).source (holder_at (known r s h).claims.holders (parts_of f.id).source)
    (completed_by r.kinds (known r s h) (note_of r (length h) (known r s h) (notes_of r s h) m f) (notes_of r s h)) d refl is
done_by r s h (datagram m bytes) d is = cc
done_by r s h (tick m) d is = cc
done_by r s h (command m source address) d is = cc
