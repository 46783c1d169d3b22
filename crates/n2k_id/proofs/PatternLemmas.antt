use Rattle.std.proofs.Common.{◌≡◌, ℕ, ◌^◌, ◌<◌, nat_eq, ◌&&◌, ◌↔◌, Bool, true, false, IsTrue, Option, None, Some, refl, sym, ap, ◌∙◌}
use Rattle.std.proofs.lemmas.Bool.{eqb-true, eq-eqb}
use Rattle.std.specs.Bool.{beq}
use Rattle.std.specs.Option.{ForSome}
use Rattle.n2k_id.specs.declared.name.NameFields.{NameFields}
use Rattle.n2k_id.specs.declared.pattern.Pattern.{Pattern}
use Rattle.n2k_id.specs.Name.{Matches, allows, matches_fields, stating, fields_of, values}
use Rattle.n2k_id.proofs.NameLemmas.{of_values, of_values-values, name_tells}

-- two tests tell two facts
both : {P Q : Type 0} (a b : Bool) → IsTrue a ↔ P → IsTrue b ↔ Q → IsTrue (a && b) ↔ (P × Q)
both true b p q = (λ h. (p.0 refl, q.0 h), λ h. q.1 h.1)
both false b p q = (λ h. cc, λ h. p.1 h.0)

-- what is allowed has the stated value
stated_number : (stated : Option ℕ) (x : ℕ) → IsTrue (allows nat_eq stated x) ↔ ForSome stated (λ v. x ≡ v)
stated_number None x = (λ h. λ v e. cc, λ h. refl)
stated_number (Some w) x =
    (λ h. λ v e. let same : w ≡ x = eqb-true w x h in cc, λ h. eq-eqb w x (sym (h w refl)))

beq_same : (a b : Bool) → IsTrue (beq a b) ↔ (b ≡ a)
beq_same true true = (λ h. refl, λ h. refl)
beq_same true false = (λ h. cc, λ h. cc)
beq_same false true = (λ h. cc, λ h. cc)
beq_same false false = (λ h. refl, λ h. refl)

stated_bit : (stated : Option Bool) (x : Bool) → IsTrue (allows beq stated x) ↔ ForSome stated (λ v. x ≡ v)
stated_bit None x = (λ h. λ v e. cc, λ h. refl)
stated_bit (Some w) x =
    (λ h. λ v e. let same : x ≡ w = (beq_same w x).0 h in cc, λ h. (beq_same w x).1 (h w refl))

-- the test is the fact
pub matches_tells : (p : Pattern) (f : NameFields) → IsTrue (matches_fields p f) ↔ Matches p f
unfolding matches_fields
matches_tells p f =
    let upto1 = stated_number p.unique f.unique in
    let upto2 = both (allows nat_eq p.unique f.unique) (allows nat_eq p.manufacturer f.manufacturer) upto1 (stated_number p.manufacturer f.manufacturer) in
    let upto3 = both (allows nat_eq p.unique f.unique && allows nat_eq p.manufacturer f.manufacturer) (allows nat_eq p.instance_lower f.instance_lower) upto2 (stated_number p.instance_lower f.instance_lower) in
    let upto4 = both (allows nat_eq p.unique f.unique && allows nat_eq p.manufacturer f.manufacturer && allows nat_eq p.instance_lower f.instance_lower) (allows nat_eq p.instance_upper f.instance_upper) upto3 (stated_number p.instance_upper f.instance_upper) in
    let upto5 = both (allows nat_eq p.unique f.unique && allows nat_eq p.manufacturer f.manufacturer && allows nat_eq p.instance_lower f.instance_lower && allows nat_eq p.instance_upper f.instance_upper) (allows nat_eq p.function f.function) upto4 (stated_number p.function f.function) in
    let upto6 = both (allows nat_eq p.unique f.unique && allows nat_eq p.manufacturer f.manufacturer && allows nat_eq p.instance_lower f.instance_lower && allows nat_eq p.instance_upper f.instance_upper && allows nat_eq p.function f.function) (allows nat_eq p.reserved f.reserved) upto5 (stated_number p.reserved f.reserved) in
    let upto7 = both (allows nat_eq p.unique f.unique && allows nat_eq p.manufacturer f.manufacturer && allows nat_eq p.instance_lower f.instance_lower && allows nat_eq p.instance_upper f.instance_upper && allows nat_eq p.function f.function && allows nat_eq p.reserved f.reserved) (allows nat_eq p.class f.class) upto6 (stated_number p.class f.class) in
    let upto8 = both (allows nat_eq p.unique f.unique && allows nat_eq p.manufacturer f.manufacturer && allows nat_eq p.instance_lower f.instance_lower && allows nat_eq p.instance_upper f.instance_upper && allows nat_eq p.function f.function && allows nat_eq p.reserved f.reserved && allows nat_eq p.class f.class) (allows nat_eq p.system_instance f.system_instance) upto7 (stated_number p.system_instance f.system_instance) in
    let upto9 = both (allows nat_eq p.unique f.unique && allows nat_eq p.manufacturer f.manufacturer && allows nat_eq p.instance_lower f.instance_lower && allows nat_eq p.instance_upper f.instance_upper && allows nat_eq p.function f.function && allows nat_eq p.reserved f.reserved && allows nat_eq p.class f.class && allows nat_eq p.system_instance f.system_instance) (allows nat_eq p.industry f.industry) upto8 (stated_number p.industry f.industry) in
    let upto10 = both (allows nat_eq p.unique f.unique && allows nat_eq p.manufacturer f.manufacturer && allows nat_eq p.instance_lower f.instance_lower && allows nat_eq p.instance_upper f.instance_upper && allows nat_eq p.function f.function && allows nat_eq p.reserved f.reserved && allows nat_eq p.class f.class && allows nat_eq p.system_instance f.system_instance && allows nat_eq p.industry f.industry) (allows beq p.arbitrary f.arbitrary) upto9 (stated_bit p.arbitrary f.arbitrary) in
    (λ h. let facts = upto10.0 h in record { unique = facts.0.0.0.0.0.0.0.0.0; manufacturer = facts.0.0.0.0.0.0.0.0.1; instance_lower = facts.0.0.0.0.0.0.0.1; instance_upper = facts.0.0.0.0.0.0.1; function = facts.0.0.0.0.0.1; reserved = facts.0.0.0.0.1; class = facts.0.0.0.1; system_instance = facts.0.0.1; industry = facts.0.1; arbitrary = facts.1 }, λ m. upto10.1 (((((((((m.unique, m.manufacturer), m.instance_lower), m.instance_upper), m.function), m.reserved), m.class), m.system_instance), m.industry), m.arbitrary))

-- fields that have the stated values of others are these
fields_tell : (f g : NameFields) → Matches (stating f) g → g ≡ f
unfolding stating values
fields_tell f g m =
    let same : values g ≡ values f = rw (m.unique f.unique refl, m.manufacturer f.manufacturer refl, m.instance_lower f.instance_lower refl, m.instance_upper f.instance_upper refl, m.function f.function refl, m.reserved f.reserved refl, m.class f.class refl, m.system_instance f.system_instance refl, m.industry f.industry refl, m.arbitrary f.arbitrary refl) in
    sym (of_values-values g) ∙ ap of_values same ∙ of_values-values f

states_itself : (f : NameFields) → Matches (stating f) f
unfolding stating
states_itself f = record { unique = λ v e. cc; manufacturer = λ v e. cc; instance_lower = λ v e. cc; instance_upper = λ v e. cc; function = λ v e. cc; reserved = λ v e. cc; class = λ v e. cc; system_instance = λ v e. cc; industry = λ v e. cc; arbitrary = λ v e. cc }

-- the pattern of a NAME's fields matches it alone
pub stating_alone : (name other : ℕ) → name < 2 ^ 64 → other < 2 ^ 64 → Matches (stating (fields_of name)) (fields_of other) ↔ (other ≡ name)
stating_alone name other h k = (
  λ m. name_tells other name k h (fields_tell (fields_of name) (fields_of other) m),
  λ e. rw e (states_itself (fields_of name)),
)
