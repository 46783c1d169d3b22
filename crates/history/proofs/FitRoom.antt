-- Room for 4095 emits is enough for every entry.
use Rattle.std.proofs.Common.{length-append, arith}
use Rattle.datagram450.specs.Datagram as datagrams
use Rattle.claim_table.specs.Claims.{is_ready}
use Rattle.history.specs.Entries.{frame, datagram, tick, command}
use Rattle.history.specs.Settings.{receiver_of}
use Rattle.history.specs.Known.{known}
use Rattle.history.specs.Gate.{datagram_at, expired, heard}
use Rattle.history.specs.FitLaws.{DatagramsFit, RoomSuffices}
use Rattle.history.proofs.Fits.{all_entries_fit}
use Rattle.history.proofs.FitHeld.{held_fits}
use Rattle.history.proofs.FitDatagrams.{datagram_few, read_few}

pub datagrams_fit : DatagramsFit
datagrams_fit c s h m bytes are is le =
    let k = known (receiver_of c) s h in
    let ended = (all_entries_fit c s h m are is le).by_time in
    let given = datagram_few c k.claims.own (heard c s h) m (is_ready k.claims m) (datagrams.read bytes) (read_few bytes) in
    let kept = held_fits c s h m is le in
    let both = length-append (expired c s h m) (datagram_at c s h m bytes) in
    omega (arith, ended, given, kept, both)

pub room_suffices : RoomSuffices
room_suffices c s h (frame m f) are limits is le =
    let fit = (all_entries_fit c s h m are is le).at_frame f in omega (arith, fit, limits.fast, limits.iso, limits.groups)
room_suffices c s h (datagram m bytes) are limits is le =
    let fit = datagrams_fit c s h m bytes are is le in omega (arith, fit, limits.fast, limits.iso, limits.groups)
room_suffices c s h (tick m) are limits is le =
    let fit = (all_entries_fit c s h m are is le).at_tick in omega (arith, fit, limits.fast, limits.iso, limits.groups)
room_suffices c s h (command m source address) are limits is le =
    let fit = (all_entries_fit c s h m are is le).at_command source address in omega (arith, fit, limits.fast, limits.iso, limits.groups)
