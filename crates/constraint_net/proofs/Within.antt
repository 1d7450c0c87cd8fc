-- Domains of variables that lie within others, and those of arguments with them.
use Rattle.std.proofs.Common.{◌≡◌, ℕ, zero, suc, ◌<◌, ◌≤◌, pos, List, [], ◌∷◌, length, get_or, set, arith}
use Rattle.std.specs.Prelude.{All}
use Rattle.std.proofs.lemmas.List.Elements.{All-head, All-tail, All-cons, All-nil, AllZip-get_or, length_all_zip}
use Rattle.std.proofs.lemmas.Int.{ints}
use Rattle.domain_core.specs.Domain.{Domain, Range, IsDomain, IsWithin}
use Rattle.domain_core.proofs.Words.{IsWithin-refl, IsWithin-trans}
use Rattle.narrow_core.specs.Laws.{LieWithin}
use Rattle.narrow_core.proofs.Below.{within_refl}
use Rattle.constraint_net.specs.Arguments.{IsArgument, domain_of, domains_of}
use Rattle.constraint_net.specs.declared.constraint.NetArg.{NetArg}
use Rattle.constraint_net.specs.declared.constraint.NetArg.TheVariants.{Var, Lit}

pub within_trans : (inner middle outer : List Domain) → LieWithin inner middle → LieWithin middle outer → LieWithin inner outer
within_trans [] [] [] p q = tt
within_trans [] [] (o ∷ outer) p q = absurd q
within_trans [] (m ∷ middle) outer p q = absurd p
within_trans (i ∷ inner) [] outer p q = absurd p
within_trans (i ∷ inner) (m ∷ middle) [] p q = absurd q
within_trans (i ∷ inner) (m ∷ middle) (o ∷ outer) p q = (IsWithin-trans i m o p.0 q.0, within_trans inner middle outer p.1 q.1)

pub within_length : (inner outer : List Domain) → LieWithin inner outer → length inner ≡ length outer
within_length inner outer within = length_all_zip IsWithin inner outer within

pub within_at : (inner outer : List Domain) (place : ℕ) (d : Domain) → LieWithin inner outer → place < length outer → IsWithin (get_or inner place d) (get_or outer place d)
within_at inner outer place d within below = AllZip-get_or IsWithin inner outer place d d within (omega (arith, within_length inner outer within))

-- one domain made smaller
pub set_within : (domains : List Domain) (place : ℕ) (smaller d : Domain) → place < length domains → IsWithin smaller (get_or domains place d) → LieWithin (set domains place smaller) domains
set_within [] place smaller d below within = absurd (omega arith)
set_within (x ∷ domains) zero smaller d below within = (within, within_refl domains)
set_within (x ∷ domains) (suc place) smaller d below within = (IsWithin-refl x, set_within domains place smaller d (omega arith) within)

-- what lies in all domains, and at one place in a smaller one
pub within_set : (inner domains : List Domain) (place : ℕ) (smaller d : Domain) → LieWithin inner domains → place < length domains → IsWithin (get_or inner place d) smaller → LieWithin inner (set domains place smaller)
within_set [] [] place smaller d within below at = absurd (omega arith)
within_set [] (x ∷ domains) place smaller d within below at = absurd within
within_set (i ∷ inner) [] place smaller d within below at = absurd within
within_set (i ∷ inner) (x ∷ domains) zero smaller d within below at = (at, within.1)
within_set (i ∷ inner) (x ∷ domains) (suc place) smaller d within below at = (within.0, within_set inner domains place smaller d within.1 (omega arith) at)

-- ---- the domains of arguments

pub argument_along : (one other : ℕ) (arg : NetArg) → one ≤ other → IsArgument one arg → IsArgument other arg
argument_along one other (Var variable) le exists = omega (arith, exists)
argument_along one other (Lit value) le is_value = is_value

pub argument_within : (inner outer : List Domain) (arg : NetArg) → LieWithin inner outer → IsArgument (length outer) arg → IsWithin (domain_of inner arg) (domain_of outer arg)
argument_within inner outer (Var variable) within exists = within_at inner outer variable (Range (pos 0) (pos 0)) within exists
argument_within inner outer (Lit value) within is_value = IsWithin-refl (Range value value)

pub arguments_within : (inner outer : List Domain) (args : List NetArg) → LieWithin inner outer → All (IsArgument (length outer)) args → LieWithin (domains_of inner args) (domains_of outer args)
arguments_within inner outer [] within are = tt
arguments_within inner outer (arg ∷ args) within are =
    (argument_within inner outer arg within (All-head (IsArgument (length outer)) arg args are), arguments_within inner outer args within (All-tail (IsArgument (length outer)) arg args are))

pub argument_is : (domains : List Domain) (arg : NetArg) → All IsDomain domains → IsArgument (length domains) arg → IsDomain (domain_of domains arg)
argument_is domains (Var variable) all exists = all variable (Range (pos 0) (pos 0)) exists
argument_is domains (Lit value) all is_value = (is_value, is_value, omega (arith, ints))

pub arguments_are : (domains : List Domain) (args : List NetArg) → All IsDomain domains → All (IsArgument (length domains)) args → All IsDomain (domains_of domains args)
arguments_are domains [] all are = All-nil IsDomain
arguments_are domains (arg ∷ args) all are =
    All-cons IsDomain (domain_of domains arg) (domains_of domains args)
    (argument_is domains arg all (All-head (IsArgument (length domains)) arg args are))
    (arguments_are domains args all (All-tail (IsArgument (length domains)) arg args are))
