-- Stores of which only the constraints change.
use Rattle.std.proofs.Common.{◌≡◌, ℕ, List, Ok, Err, sym, ap, ◌∙◌, subst}
use Rattle.std.specs.Prelude.{Result}
use Rattle.std.specs.declared.alloc.AllocError.{AllocError}
use Rattle.domain_core.specs.declared.kind.Kind.{Kind}
use Rattle.constraint_net.specs.Calls.{Posts}
use Rattle.constraint_net.specs.Networks.{Network}
use Rattle.constraint_net.specs.declared.constraint.Constraint.{Constraint}
use Rattle.constraint_net.specs.declared.constraint.NetArg.{NetArg}
use Rattle.narrow_core.specs.declared.field.Field.{Field}
use Rattle.db_store.specs.Puts.{ChangesNet}
use Rattle.db_store.specs.StoreMarks.{KeepStoreMarks}
use Rattle.db_store.specs.Stores.{Stored}
use Rattle.db_posting.specs.Posted.{OnlyPosts}
use Rattle.db_posting.specs.Tables.{OnlyTables}
use Rattle.db_posting.specs.Terms.{HasTimesAt}

-- the store with other constraints
abbrev pub with_constraints : Stored → List Constraint → Stored
with_constraints stored constraints = record stored { net = record stored.net { constraints = constraints } }

pub only_both : (old middle new : Stored) → OnlyPosts old middle → OnlyPosts middle new → OnlyPosts old new
only_both old middle new first second = second ∙ ap (λ stored. with_constraints stored new.net.constraints) first

posts_only : (old new : Network) (result : Result (Unit {0}) AllocError) (kind : Kind) (args : List NetArg) → Posts old kind args result new → new ≡ record old { constraints = new.constraints }
posts_only old new (Ok done) kind args posts = posts ∙ ap (λ list. record old { constraints = list }) (sym (ap (λ (net : Network). net.constraints) posts))
posts_only old new (Err none) kind args posts = posts ∙ ap (λ list. record old { constraints = list }) (sym (ap (λ (net : Network). net.constraints) posts))

-- a call of `post` changes nothing else
pub post_only : (old new : Stored) (result : Result (Unit {0}) AllocError) (kind : Kind) (args : List NetArg) → ChangesNet old new → Posts old.net kind args result new.net → OnlyPosts old new
post_only old new result kind args changes posts = changes ∙ ap (λ (net : Network). record old { net = net }) (posts_only old.net new.net result kind args posts)

pub marks_same : (stored : Stored) → KeepStoreMarks stored stored
marks_same stored = record { marks = λ mark snapshot is. is; stamps = λ former on. on }

pub marks_both : (old middle new : Stored) → KeepStoreMarks old middle → KeepStoreMarks middle new → KeepStoreMarks old new
marks_both old middle new first second = record {
  marks = λ mark snapshot is. second.marks mark snapshot (first.marks mark snapshot is);
  stamps = λ former on. second.stamps former (first.stamps former on);
}

-- what is there in a store is there still
pub times_stay : (old new : Stored) → OnlyPosts old new → (place : ℕ) → HasTimesAt old place → HasTimesAt new place
times_stay old new only place has = subst (λ (stored : Stored). HasTimesAt stored place) (sym only) has

-- stores of which only the tables change
abbrev pub with_tables : Stored → List Field → Stored
with_tables stored tables = record stored { net = record stored.net { tables = tables } }

pub only_tables_both : (old middle new : Stored) → OnlyTables old middle → OnlyTables middle new → OnlyTables old new
only_tables_both old middle new first second = second ∙ ap (λ stored. with_tables stored new.net.tables) first
