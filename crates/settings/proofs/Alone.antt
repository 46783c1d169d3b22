-- Valid settings are a valid setup without any further key.
use Rattle.std.proofs.Common.{◌≡◌, ℕ, List, [], None, sym, subst, arith}
use Rattle.std.proofs.lemmas.List.Elements.{All-nil, All-replicate}
use Rattle.std.proofs.lemmas.Option.{none-some}
use Rattle.std.specs.Int.{IsInRange}
use Rattle.std.specs.Option.{ForSome}
use Rattle.n2k_id.specs.declared.pattern.Pattern.{Pattern}
use Rattle.readings.specs.Rows.{rows_count}
use Rattle.config_values.specs.Patterns.{IsPattern}
use Rattle.settings.specs.declared.settings.Settings.{Settings}
use Rattle.settings.specs.declared.setup.Setup.{Setup}
use Rattle.settings.specs.Settings.{IsSettings}
use Rattle.settings.specs.Setup.{IsAlertGroup, IsSetup, alone}
use Rattle.settings.specs.Watch.{IsWatch, no_watch}

none_watched : (is_own : List ℕ → Type 0) → IsWatch is_own no_watch
none_watched is_own = record {
  limits = All-replicate (λ limit. ForSome limit (IsInRange 1000 600000)) rows_count None (λ limit there. absurd (none-some limit there));
  alerts = λ a there. absurd (none-some a there);
}

alone_is_setup : (s : Settings) → IsSettings s → IsSetup (alone s)
alone_is_setup s are = record {
  settings = are;
  ignore = record { each = All-nil IsPattern; apart = λ i j d before within. absurd (omega (arith, within)) };
  quantities = λ q there. absurd (none-some q there);
  plain = λ group there. absurd (none-some group there);
  pace = (omega arith, omega arith);
  heading = λ j there. absurd (none-some j there);
  nav = λ n there. absurd (none-some n there);
  watch = none_watched (IsAlertGroup s None None None None);
  heartbeat = record { net = λ n there. absurd (none-some n there); bus = λ every there. absurd (none-some every there) };
  heartbeat_group = λ n there. absurd (none-some n there);
}

-- of a copy
abbrev alone_with : Settings → List Pattern → Setup
alone_with s ignored = record (alone s) { ignore = record { items = ignored } }

pub is_setup : (s copy : Settings) (ignored : List Pattern) → copy ≡ s → ignored ≡ [] → IsSettings s → IsSetup (alone_with copy ignored)
is_setup s copy ignored same none are =
    subst (λ (x : Settings). IsSetup (alone_with x ignored)) (sym same)
    (subst (λ (ps : List Pattern). IsSetup (alone_with s ps)) (sym none) (alone_is_setup s are))
