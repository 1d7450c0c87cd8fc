use Rattle.std.proofs.Common.{◌≡◌, drop, map}
use Rattle.std.specs.List.{position_from}
use Rattle.nddl_constructors.specs.Objects.{first_close, is_close}
use Rattle.nddl_constructors.proofs.objects.first_close.Given as goal

-- the first of those that are left is the first of all
abbrev pub invariant-loop-number : goal.invariant-loop-number
invariant-loop-number l =
    position_from is_close l.number (map (λ decl. decl.now) (drop l.number l.decls))
    ≡ first_close (map (λ decl. decl.now) l.decls)
