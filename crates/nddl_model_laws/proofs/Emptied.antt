-- The table of a program as a model with nothing beside it.
use Rattle.std.proofs.Common.{[], pos, refl, arith}
use Rattle.std.proofs.lemmas.Int.{ints}
use Rattle.model_core.specs.declared.model.Model.{Model}
use Rattle.model_core.specs.Lawful.{IsHorizon, IsLawful}
use Rattle.nddl_laws.specs.Tables.{HasNothingElse}
use Rattle.nddl_laws.proofs.Bare.{bare_lawful}
use Rattle.nddl_problem.specs.Known.{Known}
use Rattle.nddl_model_laws.specs.Faultless.{IsFaultless}
use Rattle.nddl_model_laws.proofs.Grounds.{tabled}

abbrev pub emptied : Known → Model
emptied known = record {
  enums = known.table.enums;
  classes = known.table.classes;
  objects = [];
  preds = known.table.preds;
  rules = [];
  problem = record { start = pos 0; end = pos 1; steps = 1; roots = []; globals = []; items = []; decisions = [] };
}

-- it is lawful
pub emptied_lawful : (known : Known) → IsFaultless known → IsLawful (emptied known)
emptied_lawful known is =
    let nothing : HasNothingElse (emptied known) =
    record { rules = refl; objects = refl; roots = refl; globals = refl; items = refl; decisions = refl } in
    let horizon : IsHorizon (emptied known).problem = record {
      start = omega (arith, ints);
      order = omega (arith, ints);
      end = (omega (arith, ints), omega (arith, ints));
      some_steps = omega arith;
      few_steps = omega arith;
    } in
    bare_lawful known.files known.table (emptied known) (tabled known is (emptied known) refl refl refl) nothing horizon
