-- Readers of lists of symbols, and how they are put together.
use Rattle.std.specs.Prelude.{◌≡◌, ℕ, zero, suc, Bool, false, if◌then◌else◌}
use Rattle.std.specs.Prelude.{Option, Some, None, Result, Ok, Err, List, [], ◌∷◌, length}
use Rattle.nddl_grammar.specs.declared.sort.Sort.{Sort}
use Rattle.nddl_grammar.specs.declared.cursor.Stop.{Stop}
use Rattle.nddl_grammar.specs.declared.cursor.Stop.TheVariants.{Stuck, Deep, Memory}
use Rattle.nddl_grammar.specs.Sorts.{same}
use Rattle.nddl_grammar.specs.Symbols.{PlainSymbol}

-- what a reader finds at the front of a list: a value, no value, or a block that is nested too deep; and what it
-- didn't take
pub data Outcome (X : Type 0) : Type 0 where
  got : X → List PlainSymbol → Outcome X
  stuck : List PlainSymbol → Outcome X
  deep : List PlainSymbol → Outcome X

abbrev pub Reader : Type 0 → Type 0
Reader X = List PlainSymbol → Outcome X

-- goes on from what was found
abbrev pub and_then : {X Y : Type 0} → Outcome X → (X → List PlainSymbol → Outcome Y) → Outcome Y
and_then (got x rest) next = next x rest
and_then (stuck rest) next = stuck rest
and_then (deep rest) next = deep rest

-- whether there is a next symbol and its sort passes the test
abbrev pub begins : (Sort → Bool) → List PlainSymbol → Bool
begins test [] = false
begins test (symbol ∷ rest) = test symbol.sort

-- the sort of the next symbol
abbrev pub next_sort : List PlainSymbol → Option Sort
next_sort [] = None
next_sort (symbol ∷ rest) = Some symbol.sort

-- the place of the next symbol, or the end
abbrev pub next_place : ℕ → List PlainSymbol → ℕ
next_place end [] = end
next_place end (symbol ∷ rest) = symbol.at

abbrev pub is : Sort → Sort → Bool
is sort other = same other sort

-- one symbol of the sort
unfoldable pub symbol_of : Sort → Reader PlainSymbol
symbol_of sort [] = stuck []
symbol_of sort (symbol ∷ rest) = if same symbol.sort sort then got symbol rest else stuck (symbol ∷ rest)

abbrev pub nothing : {X : Type 0} → X → Reader X
nothing x symbols = got x symbols

abbrev pub mapped : {X Y : Type 0} → (X → Y) → Reader X → Reader Y
mapped f one symbols = and_then (one symbols) (λ x rest. got (f x) rest)

-- one symbol of the sort, of which nothing is kept, or the place alone
abbrev pub mark : Sort → Reader (Unit {0})
mark sort = mapped (λ symbol. tt) (symbol_of sort)

abbrev pub mark_place : Sort → Reader ℕ
mark_place sort = mapped (λ symbol. symbol.at) (symbol_of sort)

-- one after the other
abbrev pub sequence : {X Y : Type 0} → Reader X → Reader Y → Reader (X × Y)
sequence one other symbols = and_then (one symbols) (λ x rest. and_then (other rest) (λ y left. got (x, y) left))

-- the one where the next symbol passes the test, else the other
abbrev pub choice : {X : Type 0} → (Sort → Bool) → Reader X → Reader X → Reader X
choice test one other symbols = if begins test symbols then one symbols else other symbols

-- items as long as the next symbol passes the test, so many at the most
abbrev pub repeated : {X : Type 0} → ℕ → (Sort → Bool) → Reader X → Reader (List X)
repeated zero test item symbols = got [] symbols
repeated (suc n) test item symbols =
    if begins test symbols then mapped (λ both. both.0 ∷ both.1)
    (sequence item (repeated n test item)) symbols else got [] symbols

-- items as long as the next symbol passes the test
unfoldable pub many : {X : Type 0} → (Sort → Bool) → Reader X → Reader (List X)
many test item symbols = repeated (length symbols) test item symbols

-- what a call returned, and what it left unread, are what the reader finds; want of memory may come at any time
abbrev pub IsFound : {X : Type 0} → Result X Stop → List PlainSymbol → Outcome X → Type 0
IsFound (Ok x) rest outcome = outcome ≡ got x rest
IsFound (Err Stuck) rest outcome = outcome ≡ stuck rest
IsFound (Err Deep) rest outcome = outcome ≡ deep rest
IsFound (Err Memory) rest outcome = Unit {0}

-- the same, where what a reader finds is what is seen of what the call returned
abbrev pub IsFoundAs : {X Y : Type 0} → (X → Y) → Result X Stop → List PlainSymbol → Outcome Y → Type 0
IsFoundAs view (Ok x) rest outcome = outcome ≡ got (view x) rest
IsFoundAs view (Err Stuck) rest outcome = outcome ≡ stuck rest
IsFoundAs view (Err Deep) rest outcome = outcome ≡ deep rest
IsFoundAs view (Err Memory) rest outcome = Unit {0}

-- a mark, and then what is kept
abbrev pub after : {X : Type 0} → Sort → Reader X → Reader X
after sort one = mapped (λ both. both.1) (sequence (mark sort) one)

-- items, each behind a separator
abbrev pub following : {X : Type 0} → Sort → Reader X → Reader (List X)
following sort item = many (is sort) (after sort item)

-- an item, and any more behind separators
abbrev pub separated : {X : Type 0} → Sort → Reader X → Reader (List X)
separated sort item = mapped (λ both. both.0 ∷ both.1) (sequence item (following sort item))

-- a mark that can be left out
abbrev pub may_mark : Sort → Reader (Unit {0})
may_mark sort = choice (is sort) (mark sort) (nothing tt)

-- items with separators between them, if the next symbol passes the test, else none
abbrev pub listed : {X : Type 0} → (Sort → Bool) → Sort → Reader X → Reader (List X)
listed test sort item = choice test (separated sort item) (nothing [])
