-- Each call has one digit less.
use Rattle.sentence_fields.proofs.field.+append_digits.Given as goal

abbrev pub decreases-append_digits : goal.decreases-append_digits
decreases-append_digits l = l.width
