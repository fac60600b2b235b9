-- `put_decimal` is right: a number is one digit, or what is written of its tenth and its last digit. The tenth is less than the number.
use Rattle.writing.proofs.+put_decimal.Given as goal

abbrev pub decreases-put_decimal : goal.decreases-put_decimal
decreases-put_decimal l = l.n
