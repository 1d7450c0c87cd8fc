-- What the code keeps of what is known.
use Rattle.std.specs.Prelude.{◌≡◌}
use Rattle.nddl_hierarchy.specs.Facts.{facts_of}
use Rattle.nddl_objects.specs.Objects.{progress_of}
use Rattle.nddl_env.specs.Shapes.{world_of}
use Rattle.nddl_problem.specs.declared.outline.Outline.{Outline}
use Rattle.nddl_problem.specs.Known.{Known, known_by, lexicon_known, progress_known, scope_known, world_known}

abbrev pub known_of : Outline → Known
known_of outline =
    known_by outline.program.files.now (facts_of outline.premises.sources.basis) outline.table.now outline.trees.now

-- the code keeps all that follows from what is known
pub record IsOutlined (outline : Outline) : Type 0 where
  pub made : progress_of outline.made.now ≡ progress_known (known_of outline)
  pub world : world_of outline.premises ≡ world_known (known_of outline)
  pub lexicon : outline.lexicon.now ≡ lexicon_known (known_of outline)
  pub scope : outline.scope.now ≡ scope_known (known_of outline)
