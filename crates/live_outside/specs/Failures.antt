-- What the reasons of a call that failed mean.
use Rattle.std.specs.Prelude.{◌≡◌, ◌⊎◌}
use Rattle.std.specs.declared.io.ErrorKind.{ErrorKind}
use Rattle.std.specs.declared.io.ErrorKind.TheVariants.{WouldBlock, TimedOut, Interrupted}

-- nothing came while a receive waited, which is no failure
abbrev pub IsSilence : ErrorKind → Type 0
IsSilence kind = (kind ≡ WouldBlock) ⊎ ((kind ≡ TimedOut) ⊎ (kind ≡ Interrupted))
