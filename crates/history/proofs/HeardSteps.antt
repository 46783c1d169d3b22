-- What a datagram gives, one item after another.
use Rattle.std.proofs.Common.{◌≡◌, ℕ, List, [], ◌∷◌, ◌++◌, append_assoc, refl, arith}
use Rattle.std.specs.Prelude.{Option, Result, Ok, Err}
use Rattle.sentence_profile.specs.declared.fault.FieldFault.{FieldFault}
use Rattle.history.specs.Settings.{Settings}
use Rattle.gate_events.specs.Emit.{Emit}
use Rattle.history.specs.Heard.{HeardItem, Taken, with_each}
use Rattle.history.specs.NetReadings.{NetReading, with_readings}
use Rattle.history.specs.FromNet.{items_give, said_gives}
use Rattle.history.specs.HeardLaws.{DatagramsGiveInOrder, ReadingsCountFast}

-- what the first one gives, before that of the others
behind : (first some more all : List Emit) → all ≡ some ++ more → first ++ all ≡ (first ++ some) ++ more
behind first some more all e = rw (e, append_assoc) refl

module _ (c : Settings) (own : Option ℕ) where
  items : (older items more : List HeardItem) → items_give c own older (items ++ more) ≡ items_give c own older items ++ items_give c own (with_each older items) more
  items older [] more = refl
  items older (x ∷ xs) more = grind (arith, items (x ∷ older) xs more, behind)

  said_in_order : (t : Taken) (older : List NetReading) (said more : List (Result NetReading FieldFault))
      → said_gives c own t older (said ++ more) ≡ said_gives c own t older said ++ said_gives c own t (with_readings older said) more
  said_in_order t older [] more = refl
  said_in_order t older (Ok n ∷ said) more = grind (arith, said_in_order t (n ∷ older) said more, behind)
  said_in_order t older (Err fault ∷ said) more = grind (arith, said_in_order t older said more, behind)

heard_in_order : (older : List NetReading) (said more : List (Result NetReading FieldFault))
    → with_readings older (said ++ more) ≡ with_readings (with_readings older said) more
heard_in_order older [] more = refl
heard_in_order older (Ok n ∷ said) more = heard_in_order (n ∷ older) said more
heard_in_order older (Err fault ∷ said) more = heard_in_order older said more

pub datagrams_give_in_order : DatagramsGiveInOrder
datagrams_give_in_order c own = record { items = items c own; said = said_in_order c own; readings = heard_in_order }

pub readings_count_fast : ReadingsCountFast
readings_count_fast c older n = grind arith
