use Rattle.std.proofs.Common.{arith, drop, rules}
use Rattle.text.proofs.Numbers.{no_digit_at, too_large}
use Rattle.text.proofs.parse_number.Goals as goal
use Rattle.text.proofs.parse_number.Goals.{then-value-limit-via-else-value-limit+then-not-is_ascii_digit, then-value-limit-via-then-value-limit}

pub returns-then-value-limit-clause-value : goal.returns-then-value-limit-clause-value
returns-then-value-limit-clause-value c =
    elim c.then-value-limit.branch [
      | then-value-limit-via-then-value-limit w ↦
          let e = too_large c.args.max c.loop-byte.value (drop c.loop-byte.byte-index c.args.word.now) (omega (arith, w.if-value-limit.true)) in search rules
      | then-value-limit-via-else-value-limit+then-not-is_ascii_digit w ↦
          let e = no_digit_at c.args.max c.loop-byte.value c.loop-byte.byte-index c.args.word.now c.loop-byte-test.true (search rules) in search rules
    ]
