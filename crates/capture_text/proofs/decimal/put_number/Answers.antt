use Rattle.std.proofs.Common.{arith}
use Rattle.capture_text.proofs.Decimals.{last_one, last_two, one_fits, pair_written, two_fit}
use Rattle.capture_text.proofs.decimal.put_number.Goals as goal

pub overflow_sub-start : goal.overflow_sub-start
overflow_sub-start c = two_fit _ _ _ _ c.loop-rest.invariant (omega arith)

pub loop-rest-preserved : goal.loop-rest-preserved
loop-rest-preserved c = pair_written _ _ _ _ _ c.loop-rest.invariant c.loop-rest-test.true c.put_pair.auto.room c.put_pair.ensures

pub overflow_sub-start-then-rest-ge10 : goal.overflow_sub-start-then-rest-ge10
overflow_sub-start-then-rest-ge10 c = two_fit _ _ _ _ c.loop-rest.invariant c.if-rest-ge10.true

pub overflow_sub-result : goal.overflow_sub-result
overflow_sub-result c = two_fit _ _ _ _ c.loop-rest.invariant c.if-rest-ge10.true

pub returns-then-rest-ge10-clause-text : goal.returns-then-rest-ge10-clause-text
returns-then-rest-ge10-clause-text c = last_two _ _ _ _ _ c.loop-rest.invariant c.if-rest-ge10.true c.loop-rest-test.false c.put_pair-then-rest-ge10.ensures

pub overflow_sub-room : goal.overflow_sub-room
overflow_sub-room c = one_fits _ _ _ _ c.loop-rest.invariant

pub overflow_sub-result-2 : goal.overflow_sub-result-2
overflow_sub-result-2 c = one_fits _ _ _ _ c.loop-rest.invariant

pub returns-clause-text : goal.returns-clause-text
returns-clause-text c = last_one _ _ _ _ c.loop-rest.invariant c.if-rest-ge10.false
