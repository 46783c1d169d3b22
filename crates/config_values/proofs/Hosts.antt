-- The text of a host, and where it ends.
use Rattle.std.proofs.Common.{◌≡◌, ℕ, zero, suc, ◌+◌, ◌^◌, ◌<◌, ◌==◌, Bool, true, false, IsTrue, List, [], ◌∷◌, ◌++◌, length, get_or, take, drop, Some, None, Result, Ok, Err, is_ok, All, refl, sym, ap, ◌∙◌, subst, arith, inl, inr, length-append, take-append-drop, ne_eqb, lt-ltb, eqb-true}
use Rattle.std.specs.List.{position, position_or_len}
use Rattle.std.specs.declared.net.ipv4_addr.Ipv4Addr.{Ipv4Addr}
use Rattle.std.specs.Net.Grammar.{IsIpv4Text, Parses}
use Rattle.std.specs.Net.Text.{dotted_text}
use Rattle.std.proofs.NetLemmas.Alphabet.{IsDigitOrDot, All-ipv4_text}
use Rattle.std.proofs.Math.Seq.{take-append_seam, drop-append-add, get_or-append_seam}
use Rattle.std.proofs.lemmas.Bool.{false≢true}
use Rattle.std.proofs.lemmas.List.{get_or_append_left, drop_more}
use Rattle.std.proofs.lemmas.List.Quantifiers.{position-Some}
use Rattle.std.proofs.lemmas.List.Sums.{position_or_len_is}
use Rattle.std.proofs.lemmas.Option.{none-some}
use Rattle.config_values.specs.Endpoints.{IsEndpoint, IsHost, IsPort}
use Rattle.config_values.proofs.Pairs.{rest, rest_is}
use Rattle.config_values.proofs.Failing.{never}

-- what is read as an IPv4 address is one
pub tells_host :
    {E : Type 0} → (text : List ℕ) (r : Result Ipv4Addr E) (b : Bool)
    → Parses IsIpv4Text text r → b ≡ is_ok r → (IsTrue b → IsHost text) × (IsHost text → IsTrue b)
tells_host text (Ok a) true spells e = (λ _. record { octets = a.octets; dotted = spells }, λ _. refl)
tells_host text (Ok a) false spells e = absurd (false≢true e)
tells_host text (Err x) true spells e = absurd (false≢true (sym e))
tells_host text (Err x) false spells e = never (λ host. spells (record { octets = host.octets }) host.dotted)

-- numbers of four octets
small : (a b c d : ℕ) → (a < 256) × (b < 256) × (c < 256) × (d < 256) → (k : ℕ) → get_or (a ∷ b ∷ c ∷ d ∷ []) k 0 < 2 ^ 8
small a b c d fit zero = fit.0
small a b c d fit (suc zero) = fit.1
small a b c d fit (suc (suc zero)) = fit.2
small a b c d fit (suc (suc (suc zero))) = fit.3
small a b c d fit (suc (suc (suc (suc k)))) = omega arith

-- no byte of a host is a colon
no_colon : (host : List ℕ) → IsHost host → (k : ℕ) → k < length host → (get_or host k 0 == 58) ≡ false
no_colon host h k within =
    let d = h.dotted in
    let all : All IsDigitOrDot (dotted_text d.a d.b d.c d.d) = All-ipv4_text (d.a ∷ d.b ∷ d.c ∷ d.d ∷ []) (small d.a d.b d.c d.d d.fit) in
    let here : IsDigitOrDot (get_or host k 0) = (subst (λ (t : List ℕ). All IsDigitOrDot t) (sym d.spelled) all) k 0 within in
    elim here [
      | inl digit ↦ ne_eqb (get_or host k 0) 58 (λ e. let no : ⊥ = omega (arith, digit) in no)
      | inr dot ↦ ne_eqb (get_or host k 0) 58 (λ e. let no : ⊥ = omega arith in no)
    ]

abbrev is_colon : ℕ → Bool
is_colon byte = byte == 58

-- the first colon of an endpoint stands behind its host
first_colon : (text : List ℕ) (e : IsEndpoint text) → position_or_len is_colon text ≡ length e.host
first_colon text e =
    let len : length text ≡ length e.host + suc (length e.port) = ap length e.spelled ∙ length-append e.host (58 ∷ e.port) in
    let before : (k : ℕ) → k < length e.host → is_colon (get_or text k 0) ≡ false = λ k within.
    ap (λ (t : List ℕ). is_colon (get_or t k 0)) e.spelled
    ∙ ap is_colon (get_or_append_left e.host (58 ∷ e.port) 0 k within) ∙ no_colon e.host e.at_host k within in
    let here : is_colon (get_or text (length e.host) 0) ≡ true =
    ap (λ (t : List ℕ). is_colon (get_or t (length e.host) 0)) e.spelled ∙ ap is_colon (get_or-append_seam e.host 58 e.port 0) in
    position_or_len_is is_colon text (length e.host) 0 (omega arith) before (λ _. here)

position_is : (text : List ℕ) (e : IsEndpoint text) → position is_colon text ≡ Some (length e.host)
position_is text e =
    let len : length text ≡ length e.host + suc (length e.port) = ap length e.spelled ∙ length-append e.host (58 ∷ e.port) in
    let within : length e.host < length text = omega arith in
    rw (first_colon text e, lt-ltb (length e.host) (length text) within)

-- a test that passes exactly where a fact holds
abbrev pub Tells : Bool → Type 0 → Type 0
Tells b P = (IsTrue b → P) × (P → IsTrue b)

no_endpoint : (text : List ℕ) → position is_colon text ≡ None → IsEndpoint text → ⊥
no_endpoint text none e = none-some (length e.host) (sym none ∙ position_is text e)

-- a text without a colon is no endpoint
pub never_endpoint : (text : List ℕ) → position is_colon text ≡ None → Tells false (IsEndpoint text)
never_endpoint text none = never (no_endpoint text none)

-- a text with a colon is an endpoint where a host stands before its first one and a port behind it
endpoint_to : (text : List ℕ) (i : ℕ) → position is_colon text ≡ Some i → IsEndpoint text → IsHost (take i text) × IsPort (rest text i)
endpoint_to text i at e =
    let some = position_is text e in
    let place : i ≡ length e.host = cc in
    let host : take i text ≡ e.host =
    ap (λ n. take n text) place ∙ ap (λ (t : List ℕ). take (length e.host) t) e.spelled ∙ take-append_seam e.host (58 ∷ e.port) in
    let port : rest text i ≡ e.port =
    rest_is text i ∙ ap (λ n. drop (n + 1) text) place
    ∙ ap (λ (t : List ℕ). drop (length e.host + 1) t) e.spelled ∙ drop-append-add e.host (58 ∷ e.port) 1 in
    (subst (λ (t : List ℕ). IsHost t) (sym host) e.at_host, subst (λ (t : List ℕ). IsPort t) (sym port) e.at_port)

endpoint_from : (text : List ℕ) (i : ℕ) → position is_colon text ≡ Some i → IsHost (take i text) → IsPort (rest text i) → IsEndpoint text
endpoint_from text i at host port =
    let (within, colon, before) = position-Some is_colon text i 0 at in
    let byte : get_or text i 0 ≡ 58 = eqb-true (get_or text i 0) 58 colon in
    let behind_host : drop i text ≡ 58 ∷ rest text i =
    drop_more text i 0 within ∙ ap (λ b. b ∷ drop (i + 1) text) byte ∙ ap (λ (t : List ℕ). 58 ∷ t) (sym (rest_is text i)) in record {
      host = take i text;
      port = rest text i;
      at_host = host;
      at_port = port;
      spelled = sym (take-append-drop i text) ∙ ap (λ (t : List ℕ). take i text ++ t) behind_host;
    }

-- where a host stands before the colon, what follows decides
pub with_host :
    (text : List ℕ) (i : ℕ) (a b : Bool) → position is_colon text ≡ Some i → Tells a (IsHost (take i text)) → a ≡ true
    → Tells b (IsPort (rest text i)) → Tells b (IsEndpoint text)
with_host text i a b at host is port =
    (λ holds. endpoint_from text i at (host.0 is) (port.0 holds), λ e. port.1 (endpoint_to text i at e).1)

-- where none does, the text is no endpoint
pub no_host : (text : List ℕ) (i : ℕ) (a : Bool) → position is_colon text ≡ Some i → Tells a (IsHost (take i text)) → a ≡ false → Tells a (IsEndpoint text)
no_host text i a at host is =
    (λ holds. absurd (false≢true (sym is ∙ holds)), λ e. host.1 (endpoint_to text i at e).0)
