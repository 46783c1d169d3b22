-- Each value of a sound table is said in one sentence.
use Rattle.std.proofs.Common.{◌≡◌, ℕ, ◌≤◌, ℤ, Bool, true, false, IsTrue, List, [], ◌∷◌, length, length-append, map, refl, ap, ◌∙◌, sym, subst, arith, inl, inr}
use Rattle.std.specs.Prelude.{Option, ◌&&◌, nat_lt}
use Rattle.std.specs.List.{AllByRecursion, list_all}
use Rattle.std.proofs.lemmas.Bool.{and_parts}
use Rattle.std.proofs.lemmas.Bool.Decides.{nat_tests}
use Rattle.std.proofs.lemmas.List.{length-map}
use Rattle.sentence_text.specs.Byte.{is_address_byte, is_capital}
use Rattle.sentence_text.specs.Sentence.{sentence}
use Rattle.sentence_text.proofs.Spelling.{read_back}
use Rattle.sentence_fields.specs.Field.{IsPrintable, body_width, sentence_by}
use Rattle.sentence_fields.proofs.Bodies.{capitals_are_address}
use Rattle.quantities.specs.declared.about.Quantity.{Quantity}
use Rattle.quantities.specs.declared.layout.Layout.{Layout as CodeLayout}
use Rattle.quantities.specs.declared.payloads.Entry.{Entry}
use Rattle.quantities.specs.declared.value.Value.{Value}
use Rattle.quantities.specs.Part.{AreIn}
use Rattle.quantities.specs.Layout.{Layout, field_by, layout_of, seen, seen_layout, text_in}
use Rattle.quantities.specs.Laws.{EachIsSaid, TheTablesAreSound}
use Rattle.quantities.specs.Saying.{AreSaid, parts_in, sentence_of}
use Rattle.quantities.specs.Sound.{are_apart, columns_width, is_entry_readable, is_entry_sound, is_layout_sound, is_sayable, is_writable}
use Rattle.quantities.specs.Told.{IsFrom, entries, most_told, parts_of}
use Rattle.quantities.proofs.Columns.{are_fields, body_fits, fields_printable, fields_width, same_body}

-- what a sound sentence says of its numbers
pub record Sound (layout : Layout) : Type 0 where
  pub three : length layout.formatter ≡ 3
  pub address : IsTrue (list_all is_address_byte layout.formatter)
  pub few : length layout.columns ≤ 10
  pub short : columns_width layout.columns ≤ 71

sound : (layout : Layout) → IsTrue (is_layout_sound layout) → Sound layout
sound layout h = record { three = grind (arith, nat_tests); address = grind arith; few = grind (arith, nat_tests); short = grind (arith, nat_tests) }

-- an entry whose values a sentence can say
pub record Sayable (layout : Layout) (values : List (Option ℤ)) : Type 0 where
  pub sound : Sound layout
  pub entry : Entry
  pub writable : IsTrue (list_all (is_writable (parts_of entry)) layout.columns)
  pub inside : AreIn (parts_of entry) values

of_entry : (layout : Layout) (e : Entry) (values : List (Option ℤ)) → IsTrue (is_sayable layout e) → AreIn (parts_of e) values → Sayable layout values
of_entry layout e values h inside =
    let both = and_parts (is_layout_sound layout) (list_all (is_writable (parts_of e)) layout.columns) h in
    record { sound = sound layout both.0; entry = e; writable = both.1; inside = inside }

of_table : (layouts : Quantity → Layout) (table : List Entry) (v : Value) → IsTrue (list_all (is_entry_sound layouts) table) → IsFrom table v → Sayable (layouts v.quantity) v.values
of_table layouts [] v h from = absurd from
of_table layouts (e ∷ table) v h (inl is) =
    let both = and_parts (is_entry_sound layouts e) (list_all (is_entry_sound layouts) table) h in
    let said = and_parts (is_entry_readable e && nat_lt e.place most_told) (is_sayable (layouts e.quantity) e) both.0 in
    subst (λ (q : Quantity). Sayable (layouts q) v.values) is.0 (of_entry (layouts e.quantity) e v.values said.1 is.1)
of_table layouts (e ∷ table) v h (inr is) =
    of_table layouts table v ((and_parts (is_entry_sound layouts e) (list_all (is_entry_sound layouts) table) h).1) is

are_said : (layout : Layout) (values : List (Option ℤ)) (talker : List ℕ) → length talker ≡ 2 → IsTrue (list_all is_capital talker) → Sayable layout values
    → AreSaid layout talker values
are_said layout values talker two capital s =
    let parts = parts_of s.entry in
    let body = body_fits parts values layout.columns s.writable s.inside in
    let fit : length (sentence (parts_in layout talker values)) ≤ 82 = simp length-append (omega (arith, body, s.sound.short, s.sound.three, two)) in
    record {
      short = fit;
      is_sentence = read_back (parts_in layout talker values) (record {
        starts = refl;
        two = two;
        three = s.sound.three;
        talker_bytes = capitals_are_address talker capital;
        formatter_bytes = s.sound.address;
        body = record { fields = map (text_in values) layout.columns; bytes = are_fields parts values layout.columns s.writable s.inside; spelled = refl };
        short = fit;
      });
    }

pub each_is_said : EachIsSaid
each_is_said layouts table h v from talker two capital =
    let both = and_parts (list_all (is_entry_sound layouts) table) (are_apart table) h in
    are_said (layouts v.quantity) v.values talker two capital (of_table layouts table v both.0 from)

-- ---- the tables as they are

pub tables_are_sound : TheTablesAreSound
unfolding entries
tables_are_sound false = refl
tables_are_sound true = refl

pub sayable : (twin : Bool) (v : Value) → IsFrom entries v → Sayable (layout_of twin v.quantity) v.values
sayable twin v from =
    of_table (layout_of twin) entries v ((and_parts (list_all (is_entry_sound (layout_of twin)) entries) (are_apart entries) (tables_are_sound twin)).0) from

-- the columns of a sentence as the code has it
module _ (twin : Bool) (v : Value) (l : CodeLayout) (is : seen_layout l ≡ layout_of twin v.quantity) where
  columns_are : map seen l.columns.now ≡ (layout_of twin v.quantity).columns
  columns_are = ap (λ (seen : Layout). seen.columns) is

  pub few_columns : IsFrom entries v → length l.columns.now ≤ 10
  few_columns from =
      let s = (sayable twin v from).sound.few in
      let len : length l.columns.now ≡ length (layout_of twin v.quantity).columns = sym (length-map l.columns.now seen) ∙ ap length columns_are in
      omega (arith, s, len)

  pub printable : IsFrom entries v → AllByRecursion IsPrintable (map (field_by v.values) l.columns.now)
  printable from =
      let s = sayable twin v from in
      fields_printable (parts_of s.entry) v.values l.columns.now (rw columns_are s.writable) s.inside

  pub short : IsFrom entries v → body_width (map (field_by v.values) l.columns.now) ≤ 71
  short from =
      let s = (sayable twin v from).sound.short in
      let w = fields_width v.values l.columns.now ∙ ap columns_width columns_are in
      omega (arith, s, w)

  pub address : IsFrom entries v → IsTrue (list_all is_address_byte l.formatter)
  address from = subst (λ (s : Layout). IsTrue (list_all is_address_byte s.formatter)) (sym is) (sayable twin v from).sound.address

  pub same_sentence : (talker : List ℕ) → sentence_by talker l.formatter (map (field_by v.values) l.columns.now) ≡ sentence_of twin talker v
  same_sentence talker =
      ap (λ (b : List ℕ). sentence (record { start = 36; talker = talker; formatter = l.formatter; body = b })) (same_body v.values l.columns.now)
      ∙ ap (λ (s : Layout). sentence (parts_in s talker v.values)) is

pub form : (twin : Bool) (v : Value) (talker : List ℕ) → length talker ≡ 2 → IsTrue (list_all is_capital talker) → IsFrom entries v
    → AreSaid (layout_of twin v.quantity) talker v.values
form twin v talker two capital from = each_is_said (layout_of twin) entries (tables_are_sound twin) v from talker two capital
