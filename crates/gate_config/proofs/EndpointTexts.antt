-- The test of an endpoint tells what an endpoint is.
use Rattle.std.proofs.Common.{◌≡◌, ℕ, ◌^◌, ◌==◌, Bool, true, false, ◌&&◌, IsTrue, List, [], ◌∷◌, take, decimal, Option, Some, None, nat_eq, refl, sym, ap, ◌∙◌, subst, arith, inl, inr, eqb-true, eq-eqb, le-leb, lt-ltb, lit≤}
use Rattle.std.specs.Prelude.{◌↔◌, nat_le, nat_lt}
use Rattle.std.specs.List.{position}
use Rattle.std.specs.Str.Parse.{digits_value}
use Rattle.std.specs.Net.Reader.{read_ipv4}
use Rattle.std.proofs.lemmas.Bool.{leb-true, ltb-true}
use Rattle.std.proofs.NetLemmas.Ipv4.{read_ipv4_complete, read_ipv4_sound}
use Rattle.std.proofs.lemmas.Bool.{and_from, and_parts, cases_Bool, false≢true}
use Rattle.std.proofs.lemmas.Fmt.{decimal_is_IsNumeral}
use Rattle.std.proofs.lemmas.List.{append-nil}
use Rattle.config_values.specs.Endpoints.{IsEndpoint, IsHost, IsPort}
use Rattle.config_values.proofs.Hosts.{Tells, never_endpoint, no_host, with_host}
use Rattle.config_values.proofs.Pairs.{rest, rest_is}
use Rattle.gate_config.specs.Texts.{ends, divided, is_endpoint, is_host, is_port, same_text}

pub same_itself : (text : List ℕ) → same_text text text ≡ true
same_itself [] = refl
same_itself (c ∷ cs) = and_from (nat_eq c c) (same_text cs cs) (eq-eqb c c refl) (same_itself cs)

pub same_equal : (s t : List ℕ) → same_text s t ≡ true → s ≡ t
same_equal [] [] h = refl
same_equal [] (c ∷ cs) h = absurd (false≢true h)
same_equal (c ∷ cs) [] h = absurd (false≢true h)
same_equal (c ∷ cs) (d ∷ ds) h =
    let both = and_parts (nat_eq c d) (same_text cs ds) h in
    ap (λ (n : ℕ). n ∷ cs) (eqb-true c d both.0) ∙ ap (λ (t : List ℕ). d ∷ t) (same_equal cs ds both.1)

host_from : (text : List ℕ) (read : Option (List ℕ × List ℕ)) → read_ipv4 text ≡ read → ends read ≡ true → IsHost text
host_from text None e h = absurd (false≢true h)
host_from text (Some (octets, [])) e h =
    let sound = read_ipv4_sound text octets [] e in
    record { octets = octets; dotted = subst (λ (t : List ℕ). Rattle.std.specs.Net.Grammar.IsDotted t octets) (sym (append-nil sound.0) ∙ sym sound.1) sound.2 }
host_from text (Some (octets, byte ∷ more)) e h = absurd (false≢true h)

host_to : (text : List ℕ) → IsHost text → IsTrue (is_host text)
host_to text h = ap ends (ap read_ipv4 (sym (append-nil text)) ∙ read_ipv4_complete text h.octets [] h.dotted (lit≤ tt))

host_tells : (text : List ℕ) → Tells (is_host text) (IsHost text)
host_tells text = (host_from text (read_ipv4 text) refl, host_to text)

port_from : (text : List ℕ) → IsTrue (is_port text) → IsPort text
port_from text h =
    let port = digits_value 10 text in
    let outer = and_parts (same_text (decimal port) text) (nat_le 1 port && nat_lt port (2 ^ 16)) h in
    let inner = and_parts (nat_le 1 port) (nat_lt port (2 ^ 16)) outer.1 in
    record { port = port; least = leb-true 1 port inner.0; most = ltb-true port (2 ^ 16) inner.1; spelled = sym (same_equal (decimal port) text outer.0) }

port_to : (text : List ℕ) → IsPort text → IsTrue (is_port text)
port_to text p =
    let value : digits_value 10 text ≡ p.port = ap (digits_value 10) p.spelled ∙ (decimal_is_IsNumeral p.port (omega (arith, p.most))).1 in
    rw (value, le-leb 1 p.port p.least, lt-ltb p.port (2 ^ 16) p.most)
    (and_from (same_text (decimal p.port) text) true (subst (λ (t : List ℕ). same_text (decimal p.port) t ≡ true) (sym p.spelled) (same_itself (decimal p.port))) refl)

port_tells : (text : List ℕ) → Tells (is_port text) (IsPort text)
port_tells text = (port_from text, port_to text)

tells_at : (text : List ℕ) (colon : Option ℕ) → position (λ byte. byte == 58) text ≡ colon → Tells (divided text colon) (IsEndpoint text)
tells_at text None e = never_endpoint text e
tells_at text (Some i) e =
    elim (cases_Bool (is_host (take i text))) [
      | inl h ↦
          rw h
          (subst (λ (t : List ℕ). Tells (is_port t) (IsEndpoint text)) (rest_is text i)
          (with_host text i (is_host (take i text)) (is_port (rest text i)) e (host_tells (take i text)) h (port_tells (rest text i))))
      | inr h ↦ rw h (rw h at (no_host text i (is_host (take i text)) e (host_tells (take i text)) h))
    ]

tells : (text : List ℕ) → Tells (is_endpoint text) (IsEndpoint text)
unfolding is_endpoint
tells text = tells_at text (position (λ byte. byte == 58) text) refl

same_test : (P : Type 0) (a b : Bool) → Tells a P → Tells b P → a ≡ b
same_test P true true s t = refl
same_test P false false s t = refl
same_test P true false s t = absurd (false≢true (t.1 (s.0 refl)))
same_test P false true s t = absurd (false≢true (s.1 (t.0 refl)))

pub told : (text : List ℕ) (b : Bool) → (IsTrue b ↔ IsEndpoint text) → b ≡ is_endpoint text
told text b given = same_test (IsEndpoint text) b (is_endpoint text) (given.0, given.1) (tells text)
