-- A connection management frame of a trace is to the session that is open what it is to the frames of its run: it opens one, or gives it up.
use Rattle.std.proofs.lemmas.Bool.{and_parts, cond-true, cond-false, leb-true, eqb-true, eq-eqb, ne_eqb, lt-ltb, le-ltb, or_cases}
use Rattle.std.proofs.Common.{◌≡◌, ℕ, ◌-◌, ◌%◌, ◌==◌, ◌&&◌, ◌||◌, ◌⊎◌, inl, inr, not, nat_lt, min, if◌then◌else◌, Bool, true, false, List, [], ◌∷◌, length, Option, Some, None, option_map, refl, sym, ◌∙◌, ap, subst, arith}
use Rattle.std.proofs.Math.Bool.{and-false, or-false}
use Rattle.slot_views.specs.RunLaws.{fed, finished}
use Rattle.slot_views.specs.Slots.{Entry}
use Rattle.iso_transport.specs.AbortReasons.{resources_needed}
use Rattle.iso_transport.specs.declared.connection.Cm.{Cm}
use Rattle.iso_transport.specs.declared.session.Session.{Session}
use Rattle.iso_transport.specs.declared.reply.Reply.{Reply}
use Rattle.iso_transport.specs.declared.reply.Reply.TheVariants as reply
use Rattle.iso_transport.specs.Connection.{control_at, packets_at, cm_by, cm_of}
use Rattle.iso_transport.specs.Sessions.{reply_after}
use Rattle.iso_transport.specs.IsoRuns.{packets_of, is_size, opens, announced, IsoPiece, session_of, need_of, is_opener, iso_rules, pgn_of}
use Rattle.iso_transport.specs.Answers.{reply_by}
use Rattle.iso_transport.specs.Verdicts.{bears, opener_verdict, sized_verdict, abort_verdict, kind_verdict}
use Rattle.iso_transport.specs.RunVerdicts.{message_of, left_by, completed_by, assembly_at}
use Rattle.iso_transport.specs.Replies.{reply_to_packet, reply_to_opener, is_request, reply_to}
use Rattle.iso_transport.proofs.Lawful.{no_next, no_repeat}
use Rattle.iso_transport.proofs.Sessions.{Opened, opened_from}

-- a frame that announces a message of so many packets, which opens a session where its size fits
pub record Announces (addressed : Bool) (cm : Option Cm) : Type 0 where
  pub packets : ℕ
  pub told : (crowded : Bool) (o : Option ℕ) → kind_verdict addressed crowded o cm ≡ sized_verdict addressed crowded o (announced cm) packets
  pub opens_by_size : opens addressed cm ≡ is_size (announced cm).size packets
  pub requests : is_request cm ≡ addressed

-- one that gives a message to this node up
pub record Aborts (addressed : Bool) (cm : Option Cm) : Type 0 where
  pub to_this_node : addressed ≡ true
  pub told : (crowded : Bool) (o : Option ℕ) → kind_verdict addressed crowded o cm ≡ abort_verdict o
  pub opens_none : opens addressed cm ≡ false
  pub requests_none : is_request cm ≡ false

abbrev pub Bears : Bool → Option Cm → Type 0
Bears addressed cm = Announces addressed cm ⊎ Aborts addressed cm

announces_to_all : (bytes : List ℕ) → Bears false (cm_by 32 bytes)
announces_to_all bytes = inl record { packets = packets_at bytes; told = λ crowded o. refl; opens_by_size = refl; requests = refl }

announces_to_one : (bytes : List ℕ) → Bears true (cm_by 16 bytes)
announces_to_one bytes = inl record { packets = packets_at bytes; told = λ crowded o. refl; opens_by_size = refl; requests = refl }

aborts : (bytes : List ℕ) → Bears true (cm_by 255 bytes)
aborts bytes = inr record { to_this_node = refl; told = λ crowded o. refl; opens_none = refl; requests_none = refl }

by_control : (addressed : Bool) (n : ℕ) (bytes : List ℕ) → ((not addressed && (n == 32)) || (addressed && ((n == 16) || (n == 255)))) ≡ true → Bears addressed (cm_by n bytes)
by_control false n bytes holds = subst (λ k. Bears false (cm_by k bytes)) (sym (eqb-true n 32 (sym (or-false (n == 32)) ∙ holds))) (announces_to_all bytes)
by_control true n bytes holds = elim (or_cases (n == 16) (n == 255) holds) [
  | inl is ↦ subst (λ k. Bears true (cm_by k bytes)) (sym (eqb-true n 16 is)) (announces_to_one bytes)
  | inr is ↦ subst (λ k. Bears true (cm_by k bytes)) (sym (eqb-true n 255 is)) (aborts bytes)
]

pub bears_by : (addressed packet : Bool) (bytes : List ℕ) → packet ≡ false → bears addressed packet bytes ≡ true → (nat_lt (length bytes) 8 ≡ false) × Bears addressed (cm_of bytes)
bears_by addressed true bytes none holds = cc
bears_by addressed false bytes none holds =
    let parts = and_parts _ _ holds in
    let long : nat_lt (length bytes) 8 ≡ false = le-ltb (length bytes) 8 (leb-true 8 (length bytes) parts.0) in
    let read : cm_of bytes ≡ cm_by (control_at bytes) bytes = rw long refl in
    (long, subst (Bears addressed) (sym read) (by_control addressed (control_at bytes) bytes parts.1))

-- ---- what it completes and tells by its size: nothing is completed, and nobody is told of a message to all
sized_none : (addressed crowded : Bool) (o : Option ℕ) (s : Session) (packets : ℕ) (x : IsoPiece) (e : Option Entry) (fits : Bool) → is_size s.size packets ≡ fits → completed_by addressed (sized_verdict addressed crowded o s packets) x e ≡ None
sized_none addressed crowded o s packets x e false fits = simp fits
sized_none addressed crowded (Some old) s packets x e true fits = simp fits
sized_none addressed true None s packets x e true fits = simp fits
sized_none addressed false None s packets x e true fits = simp fits

sized_quiet : (crowded : Bool) (o : Option ℕ) (s : Session) (packets : ℕ) (fits : Bool) → is_size s.size packets ≡ fits → reply_by false (sized_verdict false crowded o s packets) ≡ None
sized_quiet crowded o s packets false fits = simp fits
sized_quiet crowded (Some old) s packets true fits = simp fits
sized_quiet true None s packets true fits = simp fits
sized_quiet false None s packets true fits = simp fits

first_grant : (s : Session) → Opened s → reply_after true s 0 ≡ Some (reply.Cts (min s.window (packets_of s.size)) 1 s.pgn)
first_grant s opened =
    let least = opened.least in
    let some = opened.some in
    let multiple : (0 % s.window == 0) ≡ true = eq-eqb _ _ (omega arith) in
    let more : nat_lt 0 (packets_of s.size) ≡ true = lt-ltb _ _ (omega arith) in
    let all : packets_of s.size - 0 ≡ packets_of s.size = omega arith in
    simp (multiple, more, all)

opener_replied : (q : Option (List IsoPiece)) (admitted : Bool) (s : Session) → Opened s → (admitted ≡ false → q ≡ None) → reply_by true (opener_verdict true (not admitted) (option_map pgn_of q) s) ≡ Some (reply_to_opener s admitted)
opener_replied None true s opened admits = first_grant s opened
opener_replied None false s opened admits = refl
opener_replied (Some acc) true s opened admits = first_grant s opened
opener_replied (Some acc) false s opened admits = let none = admits refl in cc

-- ---- the frame itself
module _ (x : IsoPiece) (management : x.packet ≡ false) where
  module _ (addressed : Bool) where
    opener_is : is_opener addressed x ≡ opens addressed (cm_of x.bytes)
    opener_is = ap (λ p. not p && opens addressed (cm_of x.bytes)) management

    sized_left : (q : Option (List IsoPiece)) (packets : ℕ) (fits admitted whole : Bool) → is_size (announced (cm_of x.bytes)).size packets ≡ fits → is_opener addressed x ≡ fits → x.admitted ≡ admitted → (1 == need_of x) ≡ whole
        → left_by addressed (sized_verdict addressed (not x.admitted) (option_map pgn_of q) (announced (cm_of x.bytes)) packets) x (assembly_at addressed q) ≡ assembly_at addressed (fed (iso_rules addressed) q x)
    sized_left None packets false a w ef eo ea ew = simp (ef, eo)
    sized_left (Some acc) packets false a w ef eo ea ew = simp (ef, eo, no_next acc x management, no_repeat acc x management)
    sized_left None packets true false w ef eo ea ew = simp (ef, eo, ea)
    sized_left (Some acc) packets true false w ef eo ea ew = simp (ef, eo, ea)
    sized_left None packets true true true ef eo ea ew = simp (ef, eo, ea, ew)
    sized_left (Some acc) packets true true true ef eo ea ew = simp (ef, eo, ea, ew)
    sized_left None packets true true false ef eo ea ew = simp (ef, eo, ea, ew)
    sized_left (Some acc) packets true true false ef eo ea ew = simp (ef, eo, ea, ew)

    abort_left : (q : Option (List IsoPiece)) → is_opener addressed x ≡ false → left_by addressed (abort_verdict (option_map pgn_of q)) x (assembly_at addressed q) ≡ assembly_at addressed (fed (iso_rules addressed) q x)
    abort_left None other = simp other
    abort_left (Some acc) other = simp (other, no_next acc x management, no_repeat acc x management)

    abort_none : (o : Option ℕ) (e : Option Entry) → completed_by addressed (abort_verdict o) x e ≡ None
    abort_none None e = refl
    abort_none (Some pgn) e = refl

    none_finished : (q : Option (List IsoPiece)) (opener : Bool) → is_opener addressed x ≡ opener → message_of (finished (iso_rules addressed) q x) ≡ None
    none_finished q true eo =
        let opened = opened_from addressed x.bytes (and_parts _ _ eo).1 in
        let least = opened.least in
        let more : (1 == need_of x) ≡ false = ne_eqb _ _ (λ e. omega (arith, least, e)) in
        simp (eo, more, and-false)
    none_finished None false eo = simp eo
    none_finished (Some acc) false eo = simp (eo, no_next acc x management)

    pub kind_left : (q : Option (List IsoPiece)) → Bears addressed (cm_of x.bytes) → left_by addressed (kind_verdict addressed (not x.admitted) (option_map pgn_of q) (cm_of x.bytes)) x (assembly_at addressed q) ≡ assembly_at addressed (fed (iso_rules addressed) q x)
    kind_left q bearing = elim bearing [
      | inl a ↦ ap (λ v. left_by addressed v x (assembly_at addressed q)) (a.told (not x.admitted) (option_map pgn_of q)) ∙ sized_left q a.packets _ _ _ (sym a.opens_by_size ∙ sym opener_is) refl refl refl
      | inr a ↦ ap (λ v. left_by addressed v x (assembly_at addressed q)) (a.told (not x.admitted) (option_map pgn_of q)) ∙ abort_left q (opener_is ∙ a.opens_none)
    ]

    kind_none : (crowded : Bool) (o : Option ℕ) (e : Option Entry) → Bears addressed (cm_of x.bytes) → completed_by addressed (kind_verdict addressed crowded o (cm_of x.bytes)) x e ≡ None
    kind_none crowded o e bearing = elim bearing [
      | inl a ↦ ap (λ v. completed_by addressed v x e) (a.told crowded o) ∙ sized_none addressed crowded o (announced (cm_of x.bytes)) a.packets x e _ refl
      | inr a ↦ ap (λ v. completed_by addressed v x e) (a.told crowded o) ∙ abort_none o e
    ]

    pub kind_completed : (q : Option (List IsoPiece)) (e : Option Entry) → Bears addressed (cm_of x.bytes) → completed_by addressed (kind_verdict addressed (not x.admitted) (option_map pgn_of q) (cm_of x.bytes)) x e ≡ message_of (finished (iso_rules addressed) q x)
    kind_completed q e bearing = kind_none (not x.admitted) (option_map pgn_of q) e bearing ∙ sym (none_finished q _ refl)

  pub kind_quiet : (crowded : Bool) (o : Option ℕ) → Bears false (cm_of x.bytes) → reply_by false (kind_verdict false crowded o (cm_of x.bytes)) ≡ None
  kind_quiet crowded o bearing = elim bearing [
    | inl a ↦ ap (reply_by false) (a.told crowded o) ∙ sized_quiet crowded o (announced (cm_of x.bytes)) a.packets _ refl
    | inr a ↦ let none = a.to_this_node in cc
  ]

  sized_replied : (q : Option (List IsoPiece)) (packets : ℕ) (fits : Bool) → is_request (cm_of x.bytes) ≡ true → (x.admitted ≡ false → q ≡ None) → is_size (announced (cm_of x.bytes)).size packets ≡ fits → is_opener true x ≡ fits
      → reply_by true (sized_verdict true (not x.admitted) (option_map pgn_of q) (announced (cm_of x.bytes)) packets) ≡ reply_to true q x
  sized_replied q packets false request admits ef eo = let none : opens true (cm_of x.bytes) ≡ false = rw management at eo in simp (ef, management, none, request)
  sized_replied q packets true request admits ef eo =
      let opened = opened_from true x.bytes (and_parts _ _ eo).1 in
      let told : sized_verdict true (not x.admitted) (option_map pgn_of q) (announced (cm_of x.bytes)) packets ≡ opener_verdict true (not x.admitted) (option_map pgn_of q) (announced (cm_of x.bytes)) = rw ef refl in
      let rest : Option Reply = if is_request (cm_of x.bytes) then Some (reply.Abort resources_needed (pgn_of (x ∷ []))) else None in
      let opener : Option Reply = Some (reply_to_opener (session_of (x ∷ [])) x.admitted) in
      let right : reply_to true q x ≡ Some (reply_to_opener (announced (cm_of x.bytes)) x.admitted) =
      cond-false x.packet (reply_to_packet q x) (if is_opener true x then opener else rest) management ∙ cond-true (is_opener true x) opener rest eo in
      ap (reply_by true) told ∙ (opener_replied q x.admitted (announced (cm_of x.bytes)) opened admits ∙ sym right)

  abort_quiet : (o : Option ℕ) → reply_by true (abort_verdict o) ≡ None
  abort_quiet None = refl
  abort_quiet (Some pgn) = refl

  abort_replied : (q : Option (List IsoPiece)) → opens true (cm_of x.bytes) ≡ false → is_request (cm_of x.bytes) ≡ false → reply_to true q x ≡ None
  abort_replied q other request = simp (management, other, request)

  pub kind_replied : (q : Option (List IsoPiece)) → (x.admitted ≡ false → q ≡ None) → Bears true (cm_of x.bytes) → reply_by true (kind_verdict true (not x.admitted) (option_map pgn_of q) (cm_of x.bytes)) ≡ reply_to true q x
  kind_replied q admits bearing = elim bearing [
    | inl a ↦ ap (reply_by true) (a.told (not x.admitted) (option_map pgn_of q)) ∙ sized_replied q a.packets _ a.requests admits (sym a.opens_by_size ∙ sym (opener_is true)) refl
    | inr a ↦ ap (reply_by true) (a.told (not x.admitted) (option_map pgn_of q)) ∙ (abort_quiet (option_map pgn_of q) ∙ sym (abort_replied q a.opens_none a.requests_none))
  ]
