-- A class that has no constructor has no formals of its own.
use Rattle.std.proofs.Common.{◌≡◌, ℕ, true, false, List, [], ◌∷◌, refl, ap}
use Rattle.std.specs.Prelude.{None}
use Rattle.std.specs.Option.{option_or}
use Rattle.nddl_ast.specs.declared.declaration.Decl.{Decl}
use Rattle.nddl_ast.specs.declared.declaration.Member.{Member}
use Rattle.nddl_ast.specs.declared.declaration.Member.TheVariants as members
use Rattle.nddl_symbols.specs.declared.declared.Declared.{Declared}
use Rattle.nddl_hierarchy.specs.Decls.{members_of}
use Rattle.nddl_hierarchy.specs.Shorter.{BuildTheSame, builds, has_constructor}
use Rattle.nddl_hierarchy.proofs.Keeping.{found_kept}
use Rattle.nddl_constructors.specs.Wants.{line_formals, own_formals}

no_formals : (some : List Member) → has_constructor some ≡ false → own_formals some ≡ None
no_formals [] is = refl
no_formals (members.Field typed ∷ more) is = no_formals more is
no_formals (members.Predicate at name parts ∷ more) is = no_formals more is
no_formals (members.Constructor name formals sets ∷ more) is = absurd (let e : true ≡ false = is in cc)

none_built : (names : List Declared) (program : List Decl) (entry : ℕ) → builds names program entry ≡ false
    → own_formals (members_of names program entry) ≡ None
unfolding builds
none_built names program entry is = no_formals (members_of names program entry) is

-- the same formals are found along lines of which the same classes have a constructor
pub formals_same : (names : List Declared) (program : List Decl) (one other : List ℕ) → BuildTheSame names program one other
    → line_formals names program one ≡ line_formals names program other
formals_same names program =
    found_kept (builds names program) (line_formals names program)
    (λ entry rest. option_or (own_formals (members_of names program entry)) rest) (λ entry line. refl)
    (λ entry is rest. ap (λ first. option_or first rest) (none_built names program entry is))
