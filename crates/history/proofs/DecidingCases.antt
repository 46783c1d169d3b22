-- Computed: cases that one word of the definition decides.
use Rattle.std.proofs.Common.{refl}
use Rattle.history.specs.DecidingCases.{CommandForAnother, LongCommand, CommandBehindItsEvent, RequestToAnother, ClaimOfAll, NewHolder, CutOpener, ShortWhileOpen, UnsentUncounted, GivenUpBehind, SessionAgainAtTheLimit, FastPacketsEndFirst, LeftOnce, GroupAgainAtTheLimit}
use Rattle.history.proofs.Computed.{cases}

pub command_for_another : CommandForAnother
unfolding cases
command_for_another = refl

pub long_command : LongCommand
unfolding cases
long_command = refl

pub command_behind_its_event : CommandBehindItsEvent
unfolding cases
command_behind_its_event = refl

pub request_to_another : RequestToAnother
unfolding cases
request_to_another = refl

pub claim_of_all : ClaimOfAll
unfolding cases
claim_of_all = refl

pub new_holder : NewHolder
unfolding cases
new_holder = refl

pub cut_opener : CutOpener
unfolding cases
cut_opener = refl

pub short_while_open : ShortWhileOpen
unfolding cases
short_while_open = refl

pub unsent_uncounted : UnsentUncounted
unfolding cases
unsent_uncounted = refl

pub given_up_behind : GivenUpBehind
unfolding cases
given_up_behind = refl

pub session_again_at_the_limit : SessionAgainAtTheLimit
unfolding cases
session_again_at_the_limit = refl

pub fast_packets_end_first : FastPacketsEndFirst
unfolding cases
fast_packets_end_first = refl

pub left_once : LeftOnce
unfolding cases
left_once = refl

pub group_again_at_the_limit : GroupAgainAtTheLimit
unfolding cases
group_again_at_the_limit = refl
