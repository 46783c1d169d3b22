use Rattle.std.proofs.Common.{rules}
use Rattle.quantities.proofs.column.Column.field.Goals as goal

pub returns-in-Decimal : goal.returns-in-Decimal
returns-in-Decimal c = search rules

pub returns-in-Status : goal.returns-in-Status
returns-in-Status c = search rules
