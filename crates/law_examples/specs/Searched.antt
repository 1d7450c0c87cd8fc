-- A problem that a search takes apart value by value: x is from 0 to a number, and that number is twice x. The ends of x alone
-- never show which values can't be.
use Rattle.std.specs.Prelude.{ℕ, pos, false, [], ◌∷◌, codes}
use Rattle.domain_core.specs.declared.kind.Kind.TheVariants.{AddEq}
use Rattle.model_core.specs.declared.item.Item.{Item}
use Rattle.model_core.specs.declared.item.Item.TheVariants.{Constraint}
use Rattle.model_core.specs.declared.item.Term.TheVariants as term
use Rattle.model_core.specs.declared.model.Model.{Model}
use Rattle.model_core.specs.declared.variable.Base.TheVariants.{Given}
use Rattle.model_core.specs.declared.variable.ValueKind.TheVariants.{Int}
use Rattle.model_core.specs.declared.variable.VarDecl.{VarDecl}
use Rattle.law_search.specs.Search.{SearchEnding, SearchOutcome, Searches}
use Rattle.law_examples.specs.Globals.{problem_of, up_to}

-- `int [0 number] x;`
abbrev pub declared_to : ℕ → VarDecl
declared_to number = record { name = codes "x"; kind = Int; base = Given (up_to number) }

-- `addEq(x, x, number);`
abbrev pub twice_is : ℕ → Item
twice_is number = Constraint AddEq (term.Global 0 ∷ term.Global 0 ∷ term.Lit (pos number) ∷ [])

abbrev pub halved : ℕ → Model
halved number = problem_of (declared_to number ∷ []) (twice_is number ∷ [])

-- so it ended, with so many units left, and no activation was left out
abbrev pub ended : SearchEnding → ℕ → SearchOutcome
ended ending units = record { ending = ending; left = units; left_out = false }

-- the search of it with so many units, which begins with no decision, has this outcome
abbrev pub ComesOut : ℕ → ℕ → SearchOutcome → Type 0
ComesOut number units outcome = Searches (halved number) 512 units [] outcome
