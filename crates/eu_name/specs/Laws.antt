-- Laws of names and their spelling.
use Rattle.std.specs.Prelude.{◌≡◌, ◌↔◌, ℕ, Bool, IsTrue, List, Result, Ok, Err}
use Rattle.eu_name.specs.declared.name_text.NameText.{NameText}
use Rattle.eu_name.specs.declared.name_text.NameFault.{NameFault}
use Rattle.eu_name.specs.declared.name_text.NameFault.TheVariants.{Memory}
use Rattle.eu_name.specs.Spelling.{IsWellFormed, name_spelling, Spells, Reads}

-- a text spells one name at most
abbrev pub SpellsOneName : Type 0
SpellsOneName = (text : List ℕ) (one other : NameText) → Spells text one → Spells text other → one ≡ other

-- so where memory suffices, what is read of a name's spelling is the name
abbrev pub IsNameReadBack : Type 0
IsNameReadBack = (name : NameText) (result : Result NameText NameFault) → IsWellFormed name
    → Reads (name_spelling name) result → (result ≡ Err Memory → ⊥) → result ≡ Ok name

-- and the spelling of what is read is the text that it was read from
abbrev pub IsWrittenBack : Type 0
IsWrittenBack = (text : List ℕ) (name : NameText) → Reads text (Ok name) → name_spelling name ≡ text

-- the test is true exactly where the two are equal
abbrev pub DecidesEquality : {A : Type 0} → (A → A → Bool) → Type 0
DecidesEquality {A = A} test = (one other : A) → IsTrue (test one other) ↔ (one ≡ other)
