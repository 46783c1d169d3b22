-- What a frame is to the listener, by its parts, and that a message that is told here isn't too short for the gateway.
use Rattle.std.proofs.Common.{◌≡◌, ℕ, Bool, true, false, ◌&&◌, ◌||◌, not, ◌==◌, List, [], ◌∷◌, ◌++◌, Option, Some, None, option_map, is_some, refl, sym, ap, ◌∙◌, append-nil}
use Rattle.std.proofs.lemmas.Bool.{eqb-true}
use Rattle.n2k_id.specs.Identifier.{is_own, is_to}
use Rattle.n2k_id.specs.declared.identifier_parts.Parts.{Parts}
use Rattle.claim_table.specs.Claims.{holder_at}
use Rattle.claim_table.specs.declared.answer.Holder.{Holder}
use Rattle.pgn_profile.specs.Layout.{Message}
use Rattle.pgn_profile.specs.Profiled.{by_message, kind_by, message_in, messages, profiled}
use Rattle.pgn_profile.specs.declared.kinds.Kind.{Kind}
use Rattle.pgn_profile.specs.declared.kinds.Kind.TheVariants.{Single, Fast, Outside}
use Rattle.history.specs.BusRules.{is_short}
use Rattle.history.specs.Meanings.{by_kind, is_of_fast_packet, meaning_of}
use Rattle.history.specs.Messages.{carried}
use Rattle.history.specs.RuleLaws.{fast_refusal_breaks}
use Rattle.history.specs.Traces.{is_transport}
use Rattle.gate_model.specs.FastPackets.{FastAnswer, answer_reports, carried_by, restarted_reports, sender_of}
use Rattle.gate_model.specs.Said.{short_reports}
use Rattle.gate_model.proofs.FastOthers.{tested}
use Rattle.bus_messages.specs.Heard.{heard_reports}
use Rattle.bus_listener.specs.Heard.{is_heard}
use Rattle.bus_listener.specs.Kinds.{AreHeard, is_message, is_told}

-- ---- by its parts

-- what isn't heard is no fast packet
not_heard_by : (claims owned requests transports ours held : Bool) (kind : Kind) → (is_message kind && not owned) ≡ false
    → is_of_fast_packet (tested claims owned requests transports ours held kind) ≡ false
not_heard_by true owned requests transports ours held kind e = refl
not_heard_by false true requests transports ours held kind e = refl
not_heard_by false false true transports true held kind e = refl
not_heard_by false false true transports false held kind e = refl
not_heard_by false false false true true true kind e = refl
not_heard_by false false false true true false kind e = refl
not_heard_by false false false true false held kind e = refl
not_heard_by false false false false ours held Single e = cc
not_heard_by false false false false ours held Fast e = cc
not_heard_by false false false false ours held Outside e = refl

-- what is heard is of a message, by how it comes
heard_by : (claims owned requests transports ours held : Bool) (kind : Kind) → claims ≡ false → requests ≡ false → transports ≡ false
    → (is_message kind && not owned) ≡ true → tested claims owned requests transports ours held kind ≡ by_kind kind held
heard_by true owned requests transports ours held kind c r t e = cc
heard_by false owned true transports ours held kind c r t e = cc
heard_by false owned false true ours held kind c r t e = cc
heard_by false true false false ours held Single c r t e = cc
heard_by false true false false ours held Fast c r t e = cc
heard_by false true false false ours held Outside c r t e = cc
heard_by false false false false ours held kind c r t e = refl

either : (a b : Bool) → a ≡ false → b ≡ false → (a || b) ≡ false
either a b x y = rw (x, y) refl

module _ (kinds : ℕ → Kind) (own : Option ℕ) (holders : List (Option Holder)) (p : Parts) where
  pub not_heard : is_heard kinds own p ≡ false → is_of_fast_packet (meaning_of kinds own holders p) ≡ false
  not_heard e =
      not_heard_by (p.pgn == 60928) (is_own own p.source) (p.pgn == 59904) (is_transport p) (is_to own p.destination)
      (is_some (holder_at holders p.source)) (kinds p.pgn) e

  pub message_comes : is_heard kinds own p ≡ true → is_message (kinds p.pgn) ≡ true
  message_comes e = by (is_message (kinds p.pgn)) (not (is_own own p.source)) e
    where
      by : (b d : Bool) → (b && d) ≡ true → b ≡ true
      by true d e = refl
      by false d e = cc

  module _ (are : AreHeard kinds) where
    -- it is of no PGN that isn't heard
    other : (q : ℕ) → kinds q ≡ Outside → is_message (kinds p.pgn) ≡ true → (p.pgn == q) ≡ false
    other q outside comes = by (p.pgn == q) refl
      where
        by : (b : Bool) → (p.pgn == q) ≡ b → b ≡ false
        by false e = refl
        by true e = let none : kinds p.pgn ≡ Outside = ap kinds (eqb-true p.pgn q e) ∙ outside in let is : is_message Outside ≡ true = ap is_message (sym none) ∙ comes in cc

    pub no_claim : is_heard kinds own p ≡ true → (p.pgn == 60928) ≡ false
    no_claim e = other 60928 are.claims (message_comes e)

    pub heard_is : is_heard kinds own p ≡ true → meaning_of kinds own holders p ≡ by_kind (kinds p.pgn) (is_some (holder_at holders p.source))
    heard_is e =
        let comes = message_comes e in
        heard_by (p.pgn == 60928) (is_own own p.source) (p.pgn == 59904) (is_transport p) (is_to own p.destination)
        (is_some (holder_at holders p.source)) (kinds p.pgn) (other 60928 are.claims comes) (other 59904 are.requests comes)
        (either (p.pgn == 60416) (p.pgn == 60160) (other 60416 are.management comes) (other 60160 are.data_packets comes)) e

-- a claim isn't heard
pub claim_unheard : (kinds : ℕ → Kind) → AreHeard kinds → (own : Option ℕ) (p : Parts) → (p.pgn == 60928) ≡ true → is_heard kinds own p ≡ false
claim_unheard kinds are own p claims =
    let outside : kinds p.pgn ≡ Outside = ap kinds (eqb-true p.pgn 60928 claims) ∙ are.claims in
    rw outside refl

-- ---- what is told here is none of the messages of the gateway

abbrev comes_in : List Message → Bool
comes_in [] = true
comes_in (m ∷ list) = is_message m.kind && comes_in list

all_come : comes_in messages ≡ true
unfolding messages
all_come = refl

found_comes : (list : List Message) (pgn : ℕ) → comes_in list ≡ true → is_message (kind_by (message_in list pgn)) ≡ false → message_in list pgn ≡ None
found_comes [] pgn all none = refl
found_comes (m ∷ list) pgn all none = by (λ rest. found_comes list pgn rest) (m.pgn == pgn) (is_message m.kind) refl refl all
  where
    by : (comes_in list ≡ true → is_message (kind_by (message_in list pgn)) ≡ false → message_in list pgn ≡ None) → (b d : Bool) → (m.pgn == pgn) ≡ b
        → is_message m.kind ≡ d → (d && comes_in list) ≡ true → message_in (m ∷ list) pgn ≡ None
    by rest true true eb ed all = let no : is_message m.kind ≡ false = rw eb at none in cc
    by rest true false eb ed all = cc
    by rest false true eb ed all = let later : is_message (kind_by (message_in list pgn)) ≡ false = rw eb at none in rw eb (rest all later)
    by rest false false eb ed all = cc

negated : (b : Bool) → not b ≡ true → b ≡ false
negated true e = cc
negated false e = refl

not_short : (pgn : ℕ) → is_told pgn ≡ true → (payload : List ℕ) → is_short (profiled pgn payload) ≡ false
not_short pgn told payload = ap (λ o. is_short (by_message o payload)) (found_comes messages pgn all_come (negated _ told))

pub none_short : (source pgn : ℕ) → is_told pgn ≡ true → (payload : Option (List ℕ)) → short_reports source (option_map (λ p. carried pgn p) payload) ≡ []
none_short source pgn told None = refl
none_short source pgn told (Some p) = rw (not_short pgn told p) refl

pub reports_are : (parts : Parts) (answer : FastAnswer) → is_told parts.pgn ≡ true
    → answer_reports parts answer (carried_by parts.pgn answer) ≡ heard_reports parts answer
reports_are parts answer told =
    ap (λ more. restarted_reports parts answer.restarted ++ (fast_refusal_breaks (sender_of parts) answer.refused ++ more))
    (none_short parts.source parts.pgn told answer.payload)
    ∙ ap (λ reports. restarted_reports parts answer.restarted ++ reports) (append-nil (fast_refusal_breaks (sender_of parts) answer.refused))
