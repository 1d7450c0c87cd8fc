-- Members without names repeat none.
use Rattle.std.proofs.Common.{◌≡◌, ℕ, true, false, List, [], ◌∷◌, refl, sym, ap}
use Rattle.std.specs.Prelude.{Option}
use Rattle.eu_index.specs.Index.{Noted}
use Rattle.nddl_ast.specs.declared.declaration.Member.{Member}
use Rattle.nddl_ast.specs.declared.declaration.Member.TheVariants as members
use Rattle.nddl_symbols.specs.declared.fault.Fault.{Fault}
use Rattle.nddl_symbols.specs.Finding.{earliest_fault}
use Rattle.nddl_symbols.specs.Repeats.{repeated_faults}
use Rattle.nddl_hierarchy.specs.Inherited.{member_names}
use Rattle.nddl_hierarchy.specs.Shorter.{has_named}

none_named : (some : List Member) → has_named some ≡ false → member_names some ≡ []
none_named [] is = refl
none_named (members.Field typed ∷ more) is = absurd (let e : true ≡ false = is in cc)
none_named (members.Predicate at name parts ∷ more) is = absurd (let e : true ≡ false = is in cc)
none_named (members.Constructor name formals sets ∷ more) is = none_named more is

pub none_repeated : (some : List Member) → has_named some ≡ false → (decl : ℕ) (noted : Noted) (first : Option Fault)
    → first ≡ earliest_fault first (repeated_faults decl noted (member_names some))
none_repeated some is decl noted first =
    sym (ap (λ names. earliest_fault first (repeated_faults decl noted names)) (none_named some is))
