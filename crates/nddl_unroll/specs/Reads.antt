-- How many fields paths read of what isn't a known object.
use Rattle.std.specs.Prelude.{ℕ, ◌-◌, Bool, true, false, List, [], ◌∷◌, Option, Some, length}
use Rattle.model_core.specs.declared.item.Term.TheVariants as terms
use Rattle.nddl_ast.specs.declared.expression.Expr.{Expr}
use Rattle.nddl_ast.specs.declared.expression.Expr.TheVariants as exprs
use Rattle.nddl_ast.specs.declared.name.Path.{Path}
use Rattle.nddl_terms.specs.declared.tree.Meaning.{Meaning}
use Rattle.nddl_terms.specs.declared.tree.Meaning.TheVariants as meanings
use Rattle.nddl_terms.specs.declared.tree.ReadName.{ReadName}
use Rattle.nddl_terms.specs.declared.lexicon.Lexicon.{Lexicon}
use Rattle.nddl_terms.specs.declared.stands.Stand.{Stand}
use Rattle.nddl_terms.specs.declared.stands.Stand.TheVariants.{Value, Slot, Root, Class}
use Rattle.nddl_terms.specs.Names.{name_read_at}
use Rattle.nddl_terms.specs.Stands.{file_stand}
use Rattle.nddl_unroll.specs.Amounts.{plus}

-- Of so many names behind one of the files: behind a known object none is such a field, behind a variable each, and behind
-- a token each but the part.
abbrev pub file_reads : Option Stand → ℕ → ℕ
file_reads (Some (Value (terms.Lit value) kind class)) count = 0
file_reads (Some (Value term kind class)) count = count
file_reads (Some (Slot number pred)) count = count - 1
file_reads (Some (Root number pred)) count = count - 1
file_reads stand count = 0

-- the same behind what means this
abbrev pub meaning_reads : Lexicon → Option Meaning → ℕ → ℕ
meaning_reads lexicon (Some (meanings.Local number)) count = count
meaning_reads lexicon (Some (meanings.Here part)) count = count
meaning_reads lexicon (Some (meanings.Slot number)) count = count - 1
meaning_reads lexicon (Some (meanings.Scope place)) count = file_reads (file_stand lexicon place) count
meaning_reads lexicon meaning count = 0

-- how many fields the path reads, if so many of its names behind the first are parts or fields
abbrev pub front_reads : Lexicon → List ReadName → Path → ℕ → ℕ
front_reads lexicon names path count = meaning_reads lexicon (name_read_at path.first.at names) count

-- how many an argument reads
abbrev pub expr_reads : Lexicon → List ReadName → Expr → ℕ
expr_reads lexicon names (exprs.Path path) = front_reads lexicon names path (length path.rest)
expr_reads lexicon names (exprs.Literal literal) = 0

-- how many several read
abbrev pub all_reads : Lexicon → List ReadName → List Expr → ℕ → ℕ
all_reads lexicon names [] total = total
all_reads lexicon names (expr ∷ more) total = all_reads lexicon names more (plus total (expr_reads lexicon names expr))

-- ---- classes

abbrev pub is_class_stand : Option Stand → Bool
is_class_stand (Some (Class class)) = true
is_class_stand stand = false

abbrev pub is_class_meaning : Lexicon → Option Meaning → Bool
is_class_meaning lexicon (Some (meanings.Scope place)) = is_class_stand (file_stand lexicon place)
is_class_meaning lexicon (Some (meanings.BuiltIn class)) = true
is_class_meaning lexicon meaning = false

-- the path begins with a class
abbrev pub begins_with_class : Lexicon → List ReadName → Path → Bool
begins_with_class lexicon names path = is_class_meaning lexicon (name_read_at path.first.at names)
