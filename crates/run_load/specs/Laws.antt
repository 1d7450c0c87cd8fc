-- Laws of what files pose.
use Rattle.std.specs.Prelude.{◌≡◌, ℕ, List, Result}
use Rattle.eu_io.specs.declared.shelf.FileEntry.{FileEntry}
use Rattle.plan_db.specs.Database.{Database, IsSound}
use Rattle.run_load.specs.Posing.{PosedFault, IsPosed, Poses}

-- a file poses one database in the same files, or has one first fault, and not both
abbrev pub IsPosedOnce : Type 0
IsPosedOnce =
    (files : List FileEntry) (name : List ℕ) (one other : Result Database PosedFault)
    → Poses files name one → Poses files name other → one ≡ other

-- a database that is posed is sound
abbrev pub PosedIsSound : Type 0
PosedIsSound = (files : List FileEntry) (name : List ℕ) (database : Database) → IsPosed files name database → IsSound database
