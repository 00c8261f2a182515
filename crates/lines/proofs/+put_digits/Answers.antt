-- The digits of a number: those of its tenth, and one more behind them. The number falls. Assumes nothing.
use Rattle.std.proofs.Common.{arith}
use Rattle.lines.specs.Writing.{length_one, length_more, digits_one, digits_more}
use Rattle.lines.proofs.+put_digits.Goals as goal

pub bounds-out-at : goal.bounds-out-at
bounds-out-at t c = let l = length_one c.args.n c.if-n-lt10.true in let r = c.requires in omega arith

pub put_digits-end-requires : goal.put_digits-end-requires
put_digits-end-requires t c =
    let l = length_more c.args.n c.if-n-lt10.false in
    let r = c.requires in
    let d = c.decreases in
    (omega arith, omega arith)

pub bounds-out-end : goal.bounds-out-end
bounds-out-end t c =
    let l = length_more c.args.n c.if-n-lt10.false in
    let r = c.requires in
    let e = c.put_digits-end.ensures.end in
    let k = c.put_digits-end.auto.out in
    omega arith

pub overflow_add-result-else-n-lt10 : goal.overflow_add-result-else-n-lt10
overflow_add-result-else-n-lt10 t c =
    let l = length_more c.args.n c.if-n-lt10.false in
    let r = c.requires in
    let e = c.put_digits-end.ensures.end in
    let k = c.well_formed in
    record { fits = omega arith }

pub returns-then-n-lt10 : goal.returns-then-n-lt10
returns-then-n-lt10 t c = digits_one c.args.out.now c.args.at c.args.n c.digit.result c.if-n-lt10.true c.digit.ensures

pub returns-else-n-lt10 : goal.returns-else-n-lt10
returns-else-n-lt10 t c = digits_more c.args.n c.digit-else-n-lt10.result c.if-n-lt10.false c.put_digits-end.ensures c.digit-else-n-lt10.ensures
