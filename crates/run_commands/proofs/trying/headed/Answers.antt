use Rattle.run_commands.proofs.trying.headed.Goals as goal

pub returns-in-Ok-clause-tried : goal.returns-in-Ok-clause-tried
returns-in-Ok-clause-tried c = (c.args.printed.text, (c.requires, rw c.as_slice.ensures at c.in-Ok.ensures))
