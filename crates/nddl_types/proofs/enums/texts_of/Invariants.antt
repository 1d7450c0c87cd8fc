use Rattle.std.proofs.Common.{◌≡◌, ◌++◌, drop, map}
use Rattle.nddl_types.proofs.enums.texts_of.Given as goal

-- the texts so far and those of the names that are left are all
abbrev pub invariant-loop-name : goal.invariant-loop-name
invariant-loop-name l =
    l.texts ++ map (λ name. name.text) (drop l.name-index l.names) ≡ map (λ name. name.text) l.names
