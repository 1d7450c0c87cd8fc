-- What a shelf that doesn't tell its files may answer.
use Rattle.std.proofs.Common.{ℕ, ◌+◌, ◌≤◌, List, length, replicate, None, IfOk, Result, Ok, Err, arith}
use Rattle.std.proofs.lemmas.List.{length-replicate}
use Rattle.eu_io.specs.Files.{Gets}
use Rattle.eu_io.specs.declared.shelf.ShelfFail.{ShelfFail}
use Rattle.eu_io.specs.declared.shelf.ShelfFail.TheVariants.{Absent, TooLong, Failed, Memory}

-- any failure, and any bytes that aren't too many
pub untold_gets : (name : List ℕ) (limit : ℕ) (answer : Result (List ℕ) ShelfFail) → IfOk answer (λ bytes. length bytes ≤ limit) → Gets None name limit answer
untold_gets name limit (Ok bytes) within = (tt, within)
untold_gets name limit (Err Absent) within = tt
untold_gets name limit (Err TooLong) within = (replicate (limit + 1) 0, tt, rw length-replicate (omega arith))
untold_gets name limit (Err Failed) within = tt
untold_gets name limit (Err Memory) within = tt
