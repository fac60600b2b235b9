use Rattle.std.proofs.Common.{rules, ap, not, arith, ◌≡◌, ◌≤◌, ◌+◌, ◌*◌, length}
use Rattle.ascii.proofs.DecimalReading.{upto-empty, upto-start, read-end, read-other, read-great, read_more}
use Rattle.ascii.proofs.decimal.Goals as goal

pub returns-then-is_empty : goal.returns-then-is_empty
returns-then-is_empty c = let h : length c.args.digits.now ≡ 0 = search rules in upto-empty _ _ h

pub loop-b-init : goal.loop-b-init
loop-b-init c = (search rules, search (upto-start, rules))

pub returns-then-not-is_digit : goal.returns-then-not-is_digit
returns-then-not-is_digit c = search read-other

pub returns-then-from-longer : goal.returns-then-from-longer
returns-then-from-longer c =
    read-great _ _ _ _ _ c.digit_value.result c.digit_value.ensures c.is_digit.result c.is_digit.ensures (ap not c.if-not-is_digit.false) c.loop-b-test.true c.loop-b.invariant.1
    (omega (arith, c.from-tens.ensures, c.from.ensures, c.from-in-loop-b.ensures, c.if-from-longer.true))

pub loop-b-preserved : goal.loop-b-preserved
loop-b-preserved c =
    let within : c.from-tens.result * 10 + c.from.result ≤ c.args.most = omega (arith, c.from-in-loop-b.ensures, c.if-from-longer.false) in (
      within,
      rw (c.from-tens.ensures, c.from.ensures) (read_more _ _ _ _ _ c.digit_value.result c.digit_value.ensures c.is_digit.result c.is_digit.ensures (ap not c.if-not-is_digit.false) c.loop-b-test.true c.loop-b.invariant.1
          (omega (arith, c.from-tens.ensures, c.from.ensures, within))),
    )

pub returns : goal.returns
returns c = read-end _ _ _ _ _ c.loop-b-test.false c.loop-b.invariant.1
