use Rattle.std.proofs.Common.{◌≡◌, false, rules}
use Rattle.mm_ask.specs.Line.{has_digits}
use Rattle.mm_ask.proofs.DigitLemmas.{none_spelled}
use Rattle.mm_ask.proofs.line.octets_in.Goals as goal

pub returns-then-not-has_digits-clause-octets : goal.returns-then-not-has_digits-clause-octets
returns-then-not-has_digits-clause-octets c =
    let bad : has_digits c.args.line.now ≡ false = search rules in
    λ other. none_spelled c.args.line.now bad
