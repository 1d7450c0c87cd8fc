-- What `gen` prints.
use Rattle.std.specs.Prelude.{◌≡◌, ℕ, List}
use Rattle.problem_gen.specs.Generated.{generated_text}
use Rattle.run_commands.specs.declared.status.RunEnd.{RunEnd}
use Rattle.run_commands.specs.declared.status.RunEnd.TheVariants.{Done}

-- the text of the generated problem of so many goals
abbrev pub GenerateOutput : ℕ → List ℕ → RunEnd → Type 0
GenerateOutput number out end = (out ≡ generated_text number) × (end ≡ Done)
