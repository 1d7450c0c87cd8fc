-- When a reader finds exactly what a language has: the words of a language stand for values.
use Rattle.std.specs.Prelude.{◌≡◌, ℕ, Bool, true, false, ◌⊎◌, Option, Some, None, List, [], ◌∷◌, ◌++◌}
use Rattle.nddl_grammar.specs.declared.sort.Sort.{Sort}
use Rattle.nddl_grammar.specs.Symbols.{PlainSymbol}
use Rattle.nddl_grammar.specs.Readers.{Outcome, got, stuck, deep, begins}

-- the list is a front with the one property and a back with the other
infixr 5 ◌·◌
abbrev pub ◌·◌ : (List PlainSymbol → Type 0) → (List PlainSymbol → Type 0) → List PlainSymbol → Type 0
(P · Q) symbols = (front : List PlainSymbol) × (back : List PlainSymbol) × (symbols ≡ front ++ back) × P front × Q back

-- this symbol, of the sort
abbrev pub IsSymbol : Sort → PlainSymbol → List PlainSymbol → Type 0
IsSymbol sort symbol symbols = (symbols ≡ symbol ∷ []) × (symbol.sort ≡ sort)

-- one symbol of the sort, at the place
pub record IsPlaced (sort : Sort) (at : ℕ) (symbols : List PlainSymbol) : Type 0 where
  pub symbol : PlainSymbol
  pub only : symbols ≡ symbol ∷ []
  pub sorted : symbol.sort ≡ sort
  pub placed : symbol.at ≡ at

-- one symbol of the sort
pub record IsMark (sort : Sort) (symbols : List PlainSymbol) : Type 0 where
  pub symbol : PlainSymbol
  pub only : symbols ≡ symbol ∷ []
  pub sorted : symbol.sort ≡ sort

abbrev pub IsNothing : List PlainSymbol → Type 0
IsNothing symbols = symbols ≡ []

-- a word for each item, one after another
abbrev pub AreMany : {X : Type 0} → (X → List PlainSymbol → Type 0) → List X → List PlainSymbol → Type 0
AreMany IsItem [] symbols = symbols ≡ []
AreMany IsItem (x ∷ xs) symbols = (IsItem x · AreMany IsItem xs) symbols

-- items, each behind a separator
abbrev pub AreFollowing : {X : Type 0} → Sort → (X → List PlainSymbol → Type 0) → List X → List PlainSymbol → Type 0
AreFollowing sort IsItem = AreMany (λ x. IsMark sort · IsItem x)

-- items, one or more, with separators between them
abbrev pub AreSeparated : {X : Type 0} → Sort → (X → List PlainSymbol → Type 0) → List X → List PlainSymbol → Type 0
AreSeparated sort IsItem [] symbols = ⊥
AreSeparated sort IsItem (x ∷ xs) symbols = (IsItem x · AreFollowing sort IsItem xs) symbols

-- the same, or none
abbrev pub AreListed : {X : Type 0} → Sort → (X → List PlainSymbol → Type 0) → List X → List PlainSymbol → Type 0
AreListed sort IsItem [] symbols = symbols ≡ []
AreListed sort IsItem (x ∷ xs) symbols = (IsItem x · AreFollowing sort IsItem xs) symbols

-- a mark that can be left out
abbrev pub MayMark : Sort → List PlainSymbol → Type 0
MayMark sort symbols = IsMark sort symbols ⊎ (symbols ≡ [])

-- the first of two places that may be missing
abbrev pub earlier : Option ℕ → Option ℕ → Option ℕ
earlier None other = other
earlier (Some at) other = Some at

abbrev pub earliest : {X : Type 0} → (X → Option ℕ) → List X → Option ℕ
earliest deeps [] = None
earliest deeps (x ∷ xs) = earlier (deeps x) (earliest deeps xs)

-- the list goes on as the used symbols do, one symbol past them, or ends with them where nothing is left
abbrev pub Agrees : List PlainSymbol → List PlainSymbol → List PlainSymbol → Type 0
Agrees other used [] = other ≡ used
Agrees other used (symbol ∷ rest) = (after : List PlainSymbol) × (other ≡ used ++ symbol ∷ after)

-- the place, if any, is this one
abbrev pub IfAt : Option ℕ → ℕ → Type 0
IfAt None place = Unit {0}
IfAt (Some at) place = at ≡ place

-- the value has a word at the front, with no block in it too deep, and whatever goes on alike begins with that word
-- alone
pub record IsRead {X : Type 0} (Is : X → List PlainSymbol → Type 0) (deeps : X → Option ℕ) (more : Sort → Bool)
    (symbols : List PlainSymbol) (x : X) (rest : List PlainSymbol) : Type 0 where
  pub used : List PlainSymbol
  pub split : symbols ≡ used ++ rest
  pub derived : Is x used
  pub shallow : deeps x ≡ None
  pub only : (y : X) (word after : List PlainSymbol) → Is y word → begins more after ≡ false
      → Agrees (word ++ after) used rest → (y ≡ x) × (word ≡ used)

-- the used symbols begin a word, in which the first block that is too deep can be at any place behind them, and
-- nothing that goes on alike begins with a word
pub record IsStuck {X : Type 0} (Is : X → List PlainSymbol → Type 0) (deeps : X → Option ℕ) (more : Sort → Bool)
    (symbols rest : List PlainSymbol) : Type 0 where
  pub used : List PlainSymbol
  pub split : symbols ≡ used ++ rest
  pub begun : (place : ℕ) → (after : List PlainSymbol) × (y : X) × Is y (used ++ after) × IfAt (deeps y) place
  pub none : (y : X) (word after : List PlainSymbol) → Is y word → begins more after ≡ false
      → Agrees (word ++ after) used rest → ⊥

-- the next symbol begins a block that is too deep, the first in every word that goes on alike; there is one
pub record IsDeep {X : Type 0} (Is : X → List PlainSymbol → Type 0) (deeps : X → Option ℕ) (more : Sort → Bool)
    (symbols rest : List PlainSymbol) : Type 0 where
  pub used : List PlainSymbol
  pub symbol : PlainSymbol
  pub left : List PlainSymbol
  pub next : rest ≡ symbol ∷ left
  pub split : symbols ≡ used ++ rest
  pub begun : (after : List PlainSymbol) × (y : X) × Is y (used ++ symbol ∷ after) × (deeps y ≡ Some symbol.at)
  pub all : (y : X) (word after : List PlainSymbol) → Is y word → begins more after ≡ false
      → Agrees (word ++ after) used rest → deeps y ≡ Some symbol.at

abbrev pub FindsExactly : {X : Type 0} (Is : X → List PlainSymbol → Type 0) (deeps : X → Option ℕ)
    (more : Sort → Bool) (symbols : List PlainSymbol) → Outcome X → Type 0
FindsExactly Is deeps more symbols (got x rest) = IsRead Is deeps more symbols x rest
FindsExactly Is deeps more symbols (stuck rest) = IsStuck Is deeps more symbols rest
FindsExactly Is deeps more symbols (deep rest) = IsDeep Is deeps more symbols rest

-- there is a word, in which the first block that is too deep can be at any place
abbrev pub HasSample : {X : Type 0} (Is : X → List PlainSymbol → Type 0) (deeps : X → Option ℕ) → Type 0
HasSample {X = X} Is deeps = (place : ℕ) → (word : List PlainSymbol) × (y : X) × Is y word × IfAt (deeps y) place

-- each word begins with a symbol that passes the test
abbrev pub BeginsWith : {X : Type 0} (Is : X → List PlainSymbol → Type 0) (test : Sort → Bool) → Type 0
BeginsWith {X = X} Is test =
    (y : X) (word : List PlainSymbol) → Is y word → (symbol : PlainSymbol) × (after : List PlainSymbol)
    × (word ≡ symbol ∷ after) × (test symbol.sort ≡ true)

-- what the reader finds is exactly what the language has, and the language has a word
pub record IsExact {X : Type 0} (Is : X → List PlainSymbol → Type 0) (deeps : X → Option ℕ) (more : Sort → Bool)
    (reader : List PlainSymbol → Outcome X) : Type 0 where
  pub answers : (symbols : List PlainSymbol) → FindsExactly Is deeps more symbols (reader symbols)
  pub sample : HasSample Is deeps
