use Rattle.std.proofs.Common.{◌≡◌, drop}
use Rattle.eu_io.specs.Files.{file_named}
use Rattle.eu_io.proofs.calm.shelf.file_bytes.Given as goal

abbrev pub invariant-loop-entry : goal.invariant-loop-entry
invariant-loop-entry l = file_named l.name (drop l.entry-index l.entries) ≡ file_named l.name l.entries
