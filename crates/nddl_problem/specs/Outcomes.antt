-- That there is one answer at most of files that are compiled.
use Rattle.std.specs.Prelude.{◌≡◌, List, Result, Err}
use Rattle.model_core.specs.declared.model.Model.{Model}
use Rattle.nddl_ast.specs.declared.declaration.FileDecls.{FileDecls}
use Rattle.nddl_ast.specs.declared.fault.TextFault.{TextFault}
use Rattle.nddl_ast.specs.declared.fault.TextFault.TheVariants.{Memory}
use Rattle.nddl_problem.specs.Told.{TellsModel}

-- two answers of the same files, neither for want of memory, are the same
abbrev pub CompileToOne : Type 0
CompileToOne =
    (files : List FileDecls) (one other : Result Model TextFault) → TellsModel files one → TellsModel files other
    → (one ≡ Err Memory → ⊥) → (other ≡ Err Memory → ⊥) → one ≡ other
