-- All that is emitted at an entry is the same with a tick before it and without it, where nothing is emitted at that tick.
use Rattle.std.proofs.Common.{◌≡◌, ℕ, ◌+◌, ◌*◌, ◌%◌, ◌≤◌, Bool, ◌&&◌, ◌==◌, List, [], ◌∷◌, ◌++◌, refl, sym, ap, ◌∙◌}
use Rattle.std.specs.Prelude.{Option, Some, None, option_map, if◌then◌else◌}
use Rattle.n2k_id.specs.Pgns.{asked_of}
use Rattle.bus_identity.specs.Answers.{Kept}
use Rattle.bus_identity.specs.PgnLists.{product_information, pgn_lists}
use Rattle.bus_identity.specs.Requests.{is_due}
use Rattle.claim_table.specs.Claims.{is_ready}
use Rattle.quantities.specs.Told.{kind_of}
use Rattle.history.specs.Entries.{Entry, History, frame, datagram, tick, moment_of, now}
use Rattle.history.specs.Entries as entry
use Rattle.readings.specs.declared.reading.Reading.{Reading}
use Rattle.history.specs.FromBus as of_gateway
use Rattle.history.specs.Gate.{expired, out}
use Rattle.history.specs.Known.{Known}
use Rattle.history.specs.Settings.{Settings, receiver_of}
use Rattle.pgn_profile.specs.declared.kinds.Kind.{Kind}
use Rattle.bus_listener.specs.Heard.{heard_expired}
use Rattle.ais_bridge.specs.AisOut.{report_gives, report_kinds}
use Rattle.further_bridge.specs.FurtherOut.{further_done, message_breaks, said_at, lines_said, said_gives}
use Rattle.bus_answers.specs.Answered.{answer_by, answered_before, answers, is_answered, own_after, ready_after, sent_before}
use Rattle.plain_out.specs.Pace.{Utterance, Voice}
use Rattle.plain_out.specs.Streams.{reading_stream}
use Rattle.plain_out.specs.declared.stream.Stream.TheVariants as stream
use Rattle.parts.specs.Utterances.{bytes_in, bytes_of}
use Rattle.gateway_commands.specs.Gate.{all_out, all_utter, given, own_uttered, own_utters, plain_at, plain_of, tagged_out, voice_after, voice_in}
use Rattle.ais_bridge.proofs.Form.{ships}
use Rattle.bus_answers.proofs.Form.{answering}
use Rattle.further_bridge.proofs.Form.{quantities}
use Rattle.joined_heading.proofs.Form.{joined_headings}
use Rattle.joined_heading.specs.HeadingOut as heading
use Rattle.joined_heading.specs.Variations as variations
use Rattle.joined_heading.specs.Variations.{variation_done}
use Rattle.joined_rmc.proofs.Form.{joined_rmc}
use Rattle.counted_lines.specs.CountedLines.{posted_of}
use Rattle.navigation.proofs.Form.{plotters}
use Rattle.navigation.specs.Legs as legs
use Rattle.navigation.specs.NavOut as nav
use Rattle.navigation.specs.NavOut.{nav_done}
use Rattle.own_address.proofs.Form.{own_address}
use Rattle.source_changes.proofs.Form.{sources}
use Rattle.supervision.proofs.Form.{supervision}
use Rattle.gateway_commands.specs.Beside.{beside}
use Rattle.gateway_commands.specs.BridgeSettings.{BridgeSettings}
use Rattle.recordings.proofs.Headings.{heading_without}
use Rattle.recordings.proofs.Known.{known_without}
use Rattle.recordings.proofs.Navigation.{nav_without}
use Rattle.recordings.proofs.Gathered.{ap₃, joined, none_left, none_right}
use Rattle.recordings.proofs.OwnAddress.{address_first, address_without}
use Rattle.recordings.proofs.Quiet.{AreQuiet, Follows, GivesQuietly, IsQuiet, before, in_stream, nothing_quiet}
use Rattle.recordings.proofs.Overdue.{expired_later, expired_first_later}
use Rattle.recordings.proofs.Out.{out_without}
use Rattle.recordings.proofs.Listened.{heard_later, heard_first_later}
use Rattle.recordings.proofs.Rmc.{rmc_without, source_without}
use Rattle.recordings.proofs.Supervised.{supervision_first, supervision_without}
use Rattle.recordings.proofs.Said.{said_without}
use Rattle.recordings.proofs.Ships.{ais_without, further_without, utters_without}

-- ---- answers to who asks who the gateway is

module _ (c : Settings) (s m : ℕ) (h : History) where
  own_without : (newer : History) (e : Entry) → own_after c s (newer ++ h) e ≡ own_after c s (newer ++ tick m ∷ h) e
  own_without newer e = ap (λ (k : Known). k.claims.own) (known_without (receiver_of c) s m h (e ∷ newer))

  ready_without : (newer : History) (e : Entry) → ready_after c s (newer ++ h) e ≡ ready_after c s (newer ++ tick m ∷ h) e
  ready_without newer e = ap (λ (k : Known). is_ready k.claims (moment_of e)) (known_without (receiver_of c) s m h (e ∷ newer))

  asked_without : (pgn : ℕ) (newer : History) (e : Entry) → is_answered c s pgn (newer ++ h) e ≡ is_answered c s pgn (newer ++ tick m ∷ h) e
  asked_without pgn newer (frame t f) =
      ap (λ (own : Option ℕ). is_due own f && (ready_after c s (newer ++ h) (frame t f) && (asked_of f.held == pgn))) (own_without newer (frame t f))
      ∙ ap (λ (b : Bool). is_due (own_after c s (newer ++ tick m ∷ h) (frame t f)) f && (b && (asked_of f.held == pgn))) (ready_without newer (frame t f))
  asked_without pgn newer (datagram t bytes) = refl
  asked_without pgn newer (tick t) = refl
  asked_without pgn newer (entry.command t source address) = refl

  count_without : (pgn : ℕ) (newer : History) → answered_before c s pgn (newer ++ h) ≡ answered_before c s pgn (newer ++ tick m ∷ h)
  count_without pgn [] = refl
  count_without pgn (e ∷ newer) =
      ap (λ (b : Bool). if b then answered_before c s pgn (newer ++ h) + 1 else answered_before c s pgn (newer ++ h)) (asked_without pgn newer e)
      ∙ ap (λ (before : ℕ). if is_answered c s pgn (newer ++ tick m ∷ h) e then before + 1 else before) (count_without pgn newer)

  kept_without : (information : List ℕ) (newer : History) → sent_before c s information (newer ++ h) ≡ sent_before c s information (newer ++ tick m ∷ h)
  kept_without information newer =
      ap (λ (count : ℕ). record { information = information; products = count % 8; lists = (2 * answered_before c s pgn_lists (newer ++ h)) % 8 })
      (count_without product_information newer)
      ∙ ap (λ (count : ℕ). record { information = information; products = answered_before c s product_information (newer ++ tick m ∷ h) % 8; lists = (2 * count) % 8 })
      (count_without pgn_lists newer)

  answers_without : (information : List ℕ) (newer : History) (e : Entry) → answers c s information (newer ++ h) e ≡ answers c s information (newer ++ tick m ∷ h) e
  answers_without information newer (frame t f) =
      ap₃ (λ (k : Kept) (own : Option ℕ) (ready : Bool). answer_by k own ready f)
      (kept_without information newer) (own_without newer (frame t f)) (ready_without newer (frame t f))
  answers_without information newer (datagram t bytes) = refl
  answers_without information newer (tick t) = refl
  answers_without information newer (entry.command t source address) = refl

-- ---- each part beside the gateway

-- what was overdue at a tick is told at it: since then it is the same
abbrev heard_since : (kinds : ℕ → Kind) (limit : ℕ) (c : Settings) (s m : ℕ) (h : History) → now h ≤ m → heard_expired kinds limit c s h m ≡ []
    → (newer : History) (t : ℕ) → heard_expired kinds limit c s (newer ++ h) t ≡ heard_expired kinds limit c s (newer ++ tick m ∷ h) t
heard_since kinds limit c s m h le none [] t = heard_first_later kinds limit c s m h le none t
heard_since kinds limit c s m h le none (e ∷ newer) t = heard_later kinds limit c s m h e newer t

answering_gives : GivesQuietly answering.give
answering_gives = record {
  first = λ information c s. refl;
  later = λ information c s m h le none newer e follow. answers_without c s m h information newer e;
}

rmc_gives : GivesQuietly joined_rmc.give
rmc_gives = record {
  first = λ r c s. refl;
  later = λ r c s m h le none newer e follow. rmc_without r c s m h newer e;
}

ships_gives : GivesQuietly ships.give
ships_gives = record {
  first = λ a c s. refl;
  later = λ a c s m h le none newer e follow.
      ais_without a c s m h newer e
      (heard_since report_kinds a.slots c s m h le (none_left (heard_expired report_kinds a.slots c s h m) (report_gives a c s h (tick m)) none) newer (moment_of e));
}

quantities_gives : GivesQuietly quantities.give
quantities_gives = record {
  first = λ x c s. refl;
  later = λ x c s m h le none newer e follow.
      further_without x c s m h newer e
      (heard_since kind_of x.slots c s m h le
      (none_left (heard_expired kind_of x.slots c s h m)
      (message_breaks (further_done x c s h (tick m)) ++ said_gives x c.sfi (lines_said x c s h) (said_at x c s h (tick m))) none) newer (moment_of e));
}

sources_gives : GivesQuietly sources.give
sources_gives = record {
  first = λ r c s. refl;
  later = λ r c s m h le none newer e follow. source_without c s m h newer e;
}

address_gives : GivesQuietly own_address.give
address_gives = record {
  first = λ r c s. address_first c s;
  later = λ r c s m h le none newer e follow. address_without c s m h none newer e;
}

headings_gives : GivesQuietly joined_headings.give
headings_gives = record {
  first = λ x c s. refl;
  later = λ x c s m h le none newer e follow.
      heading_without x c s m h newer e
      (heard_since variations.kind_of 0 c s m h le
      (none_left (heard_expired variations.kind_of 0 c s h m)
      (heading.message_breaks (variation_done x c s h (tick m)) ++ posted_of x.group c.sfi (heading.lines_said x c s h) (heading.texts_at x c s h (tick m))) none)
      newer (moment_of e));
}

plotters_gives : GivesQuietly plotters.give
plotters_gives = record {
  first = λ x c s. refl;
  later = λ x c s m h le none newer e follow.
      nav_without x c s m h newer e
      (heard_since legs.kind_of x.slots c s m h le
      (none_left (heard_expired legs.kind_of x.slots c s h m)
      (nav.message_breaks (nav_done x c s h (tick m)) ++ posted_of x.group c.sfi (nav.lines_said x c s h) (nav.texts_at x c s h (tick m))) none)
      newer (moment_of e));
}

supervision_gives : GivesQuietly supervision.give
supervision_gives = record {
  first = λ r c s. supervision_first r c s;
  later = λ r c s m h le none newer e follow. supervision_without r c s m h le none newer e follow;
}

answering_quiet : IsQuiet answering
answering_quiet = record { gives = answering_gives; says = in_stream None answering.give answering_gives }

rmc_quiet : IsQuiet joined_rmc
rmc_quiet = record { gives = rmc_gives; says = in_stream (Some stream.Rmc) joined_rmc.give rmc_gives }

ships_quiet : IsQuiet ships
ships_quiet = record { gives = ships_gives; says = in_stream None ships.give ships_gives }

sources_quiet : IsQuiet sources
sources_quiet = record { gives = sources_gives; says = in_stream None sources.give sources_gives }

address_quiet : IsQuiet own_address
address_quiet = record { gives = address_gives; says = in_stream None own_address.give address_gives }

headings_quiet : IsQuiet joined_headings
headings_quiet = record { gives = headings_gives; says = in_stream (Some stream.JoinedHeading) joined_headings.give headings_gives }

plotters_quiet : IsQuiet plotters
plotters_quiet = record { gives = plotters_gives; says = in_stream None plotters.give plotters_gives }

supervision_quiet : IsQuiet supervision
supervision_quiet = record { gives = supervision_gives; says = in_stream None supervision.give supervision_gives }

quantities_quiet : IsQuiet quantities
quantities_quiet = record {
  gives = quantities_gives;
  says = record { later = λ x c s m h le none newer e follow. utters_without x c s m h newer e };
}

-- all of them, in the order in which their emits go out
pub beside_quiet : AreQuiet beside
beside_quiet =
    before answering _ answering_quiet
    (before joined_rmc _ rmc_quiet
    (before ships _ ships_quiet
    (before quantities _ quantities_quiet
    (before sources _ sources_quiet
    (before own_address _ address_quiet
    (before joined_headings _ headings_quiet
    (before plotters _ plotters_quiet
    (before supervision _ supervision_quiet
    nothing_quiet))))))))

-- ---- where nothing is given nothing is said, and nothing else is kept of plain sentences

none_of_bytes : (us : List Utterance) → bytes_of us ≡ [] → us ≡ []
none_of_bytes [] none = refl
none_of_bytes (u ∷ us) none = absurd (cc)

pub nothing_given : (p : BridgeSettings) (s : ℕ) (h : History) (e : Entry) → given p s h e ≡ [] → beside.utter p.parts p.gateway s h e ≡ []
nothing_given p s h e none = none_of_bytes (beside.utter p.parts p.gateway s h e) (beside.datagrams p.parts p.gateway s h e ∙ ap bytes_in none)

voice_stays : (voice : Option Voice) (m : ℕ) → voice_after voice m [] ≡ voice
voice_stays None m = refl
voice_stays (Some v) m = refl

-- ---- all that is emitted, where nothing is at a tick

module _ (p : BridgeSettings) (s m : ℕ) (h : History) (le : now h ≤ m) (none : all_out p s h (tick m) ≡ []) where
  tagged_none : tagged_out p s h (tick m) ≡ []
  tagged_none = none_left (tagged_out p s h (tick m)) (plain_at p s h (tick m)) none

  -- what is overdue of the gateway itself is the same
  pub over : (newer : History) (t : ℕ) → expired p.gateway s (newer ++ h) t ≡ expired p.gateway s (newer ++ tick m ∷ h) t
  over [] t =
      expired_first_later p.gateway s m h le
      (none_left (expired p.gateway s h m) [] (none_left (out p.gateway s h (tick m)) (given p s h (tick m)) tagged_none)) t
  over (e ∷ newer) t = expired_later p.gateway s m h e newer t

  tagged_alike : (newer : History) (e : Entry) → Follows m newer e → tagged_out p s (newer ++ h) e ≡ tagged_out p s (newer ++ tick m ∷ h) e
  tagged_alike newer e follow =
      joined (out_without p.gateway s m h newer e (over newer (moment_of e)))
      (beside_quiet.gives.later p.parts p.gateway s m h le (none_right (out p.gateway s h (tick m)) (given p s h (tick m)) tagged_none) newer e follow)

  -- what is said, and what is kept of plain sentences
  own_alike : (newer : History) (e : Entry) → own_utters p s (newer ++ h) e ≡ own_utters p s (newer ++ tick m ∷ h) e
  own_alike newer e =
      ap (λ (r : Option Reading). own_uttered p.replaced (option_map reading_stream r) (out p.gateway s (newer ++ h) e)) (said_without p.gateway s m h newer e)
      ∙ ap (own_uttered p.replaced (option_map reading_stream (of_gateway.said_at p.gateway s (newer ++ tick m ∷ h) e))) (out_without p.gateway s m h newer e (over newer (moment_of e)))

  utter_alike : (newer : History) (e : Entry) → Follows m newer e → all_utter p s (newer ++ h) e ≡ all_utter p s (newer ++ tick m ∷ h) e
  utter_alike newer e follow =
      joined (own_alike newer e)
      (beside_quiet.says.later p.parts p.gateway s m h le (none_right (out p.gateway s h (tick m)) (given p s h (tick m)) tagged_none) newer e follow)

  tick_unsaid : all_utter p s h (tick m) ≡ []
  tick_unsaid =
      joined (ap (own_uttered p.replaced (option_map reading_stream (of_gateway.said_at p.gateway s h (tick m)))) (none_left (out p.gateway s h (tick m)) (given p s h (tick m)) tagged_none))
      (nothing_given p s h (tick m) (none_right (out p.gateway s h (tick m)) (given p s h (tick m)) tagged_none))

  voice_alike : (newer : History) (e : Entry) → Follows m newer e → voice_in p s (newer ++ h) ≡ voice_in p s (newer ++ tick m ∷ h)
  voice_alike [] e follow = sym (ap (voice_after (voice_in p s h) m) tick_unsaid ∙ voice_stays (voice_in p s h) m)
  voice_alike (frame t f ∷ newer) e follow =
      ap (λ (v : Option Voice). voice_after v t (all_utter p s (newer ++ h) (frame t f))) (voice_alike newer (frame t f) follow)
      ∙ ap (voice_after (voice_in p s (newer ++ tick m ∷ h)) t) (utter_alike newer (frame t f) follow)
  voice_alike (datagram t bytes ∷ newer) e follow =
      ap (λ (v : Option Voice). voice_after v t (all_utter p s (newer ++ h) (datagram t bytes))) (voice_alike newer (datagram t bytes) follow)
      ∙ ap (voice_after (voice_in p s (newer ++ tick m ∷ h)) t) (utter_alike newer (datagram t bytes) follow)
  voice_alike (tick t ∷ newer) e follow =
      ap (λ (v : Option Voice). voice_after v t (all_utter p s (newer ++ h) (tick t))) (voice_alike newer (tick t) follow)
      ∙ ap (voice_after (voice_in p s (newer ++ tick m ∷ h)) t) (utter_alike newer (tick t) follow)
  voice_alike (entry.command t source address ∷ newer) e follow = voice_alike newer (entry.command t source address) follow

  pub all_alike : (newer : History) (e : Entry) → Follows m newer e → all_out p s (newer ++ h) e ≡ all_out p s (newer ++ tick m ∷ h) e
  all_alike newer e follow =
      joined (tagged_alike newer e follow)
      (ap (λ (v : Option Voice). plain_of v (moment_of e) (all_utter p s (newer ++ h) e)) (voice_alike newer e follow)
      ∙ ap (plain_of (voice_in p s (newer ++ tick m ∷ h)) (moment_of e)) (utter_alike newer e follow))
