-- That a compiled model has what its files name.
use Rattle.std.specs.Prelude.{All}
use Rattle.model_core.specs.Lawful.{IsLawfulRoot, IsLawfulVariable}
use Rattle.nddl_problem.specs.Compiled.{compiled_model}
use Rattle.nddl_problem.specs.Known.{Known, lexicon_known, objects_known}
use Rattle.nddl_lowering_laws.specs.Fitting.{HasThings}
use Rattle.nddl_model_laws.specs.Faultless.{IsFaultless}

-- what names stand for, the objects of classes with what these have in their fields, and the parts of tokens, each of its kind
abbrev pub ModelsHaveThings : Type 0
ModelsHaveThings = (known : Known) → IsFaultless known → HasThings (compiled_model known) (lexicon_known known) (objects_known known)

-- and each root of it is lawful
abbrev pub RootsAreLawful : Type 0
RootsAreLawful = (known : Known) → IsFaultless known → All (IsLawfulRoot (compiled_model known)) (compiled_model known).problem.roots

-- and each of its globals
abbrev pub GlobalsAreLawful : Type 0
GlobalsAreLawful =
    (known : Known) → IsFaultless known → All (IsLawfulVariable (compiled_model known)) (compiled_model known).problem.globals
