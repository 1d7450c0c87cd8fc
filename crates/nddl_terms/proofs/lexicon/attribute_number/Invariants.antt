use Rattle.std.proofs.Common.{◌≡◌, drop}
use Rattle.std.specs.List.{position_from}
use Rattle.std.specs.Str.{bytes_eq}
use Rattle.nddl_terms.specs.Lexicon.{attribute_number}
use Rattle.nddl_terms.proofs.lexicon.attribute_number.Given as goal

-- the first of those that are left is the first of all
abbrev pub invariant-loop-number : goal.invariant-loop-number
invariant-loop-number l =
    position_from (λ attribute. bytes_eq l.name attribute.name) l.number (drop l.number l.attributes) ≡ attribute_number l.name l.attributes
