use Rattle.gate_config.proofs.Beside.{setup_beside}
use Rattle.gate_config.proofs.all.all_keys.Goals as goal

pub returns-clause-valid : goal.returns-clause-valid
returns-clause-valid c =
    setup_beside (record {
      settings = c.in_ok-settings.settings;
      ignore = c.in_ok-ignore.ignore;
      optional_sentences = c.in_ok-optional_sentences.optional_sentences;
      quantities = c.in_ok-quantities.quantities;
      sources = c.in_ok-sources.sources;
      address = c.in_ok-sources.address;
      plain = c.in_ok-plain.plain;
      plain_every_ms = c.in_ok-plain_every_ms.plain_every_ms;
      «record» = c.in_ok-recording.recording;
      heading = c.in_ok-heading.heading;
      nav = c.in_ok-nav.nav;
      watch = c.in_ok-watch.watch;
      heartbeat = c.in_ok-heartbeat.heartbeat;
    })
    c.in_ok-settings.ensures.valid c.in_ok-ignore.ensures.valid
    (rw (c.rmc_group.ensures, c.ais_group.ensures) at c.in_ok-quantities.ensures.valid)
    (rw (c.quantities_group.ensures, c.rmc_group.ensures, c.ais_group.ensures) at c.in_ok-plain.ensures.valid)
    c.in_ok-plain_every_ms.ensures.valid
    (rw c.groups_beside-groups.ensures at c.in_ok-heading.ensures.valid)
    (rw (c.groups_behind_heading-groups.ensures, c.groups_beside-groups.ensures) at c.in_ok-nav.ensures.valid)
    (rw (c.groups_behind_nav-groups.ensures, c.groups_behind_heading-groups.ensures, c.groups_beside-groups.ensures) at c.in_ok-watch.ensures.valid)
    c.in_ok-heartbeat.ensures.valid
    (rw (
      c.groups_behind_alerts-groups.ensures,
      c.groups_behind_nav-groups.ensures,
      c.groups_behind_heading-groups.ensures,
      c.groups_beside-groups.ensures,
    ) at c.in_ok-heartbeat.ensures.free)
