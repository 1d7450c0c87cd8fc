use Rattle.std.proofs.Common.{arith}
use Rattle.std.proofs.lemmas.Bool.Decides.{nat_tests}
use Rattle.eu_name.proofs.Endings.{is_numbered_from, numbered_ends, not_numbered}
use Rattle.eu_name.proofs.reading.is_numbered.Goals as goal

pub returns-in-Some : goal.returns-in-Some
returns-in-Some c = (
  λ empty. is_numbered_from c.args.text.now c.in-Some.rest.now c.in-Some.field-0-0 c.in-Some.ensures (grind (arith, nat_tests)),
  λ is. let none = numbered_ends c.args.text.now c.in-Some.rest.now c.in-Some.field-0-0 c.in-Some.ensures is in grind (arith, nat_tests),
)

pub returns-in-None : goal.returns-in-None
returns-in-None c = (λ never. cc, λ is. absurd (not_numbered c.args.text.now c.in-None.ensures is))
