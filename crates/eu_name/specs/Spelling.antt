-- How names are spelled.
use Rattle.std.specs.Prelude.{◌≡◌, ℕ, ◌<◌, ◌⊎◌, List, [], ◌++◌, All, codes, Result, Ok, Err, ⊤}
use Rattle.std.specs.Fmt.{decimal}
use Rattle.std.specs.List.{flat_map}
use Rattle.eu_name.specs.declared.name.Step.{Step}
use Rattle.eu_name.specs.declared.name_text.NameText.{NameText}
use Rattle.eu_name.specs.declared.name_text.Tail.{Tail}
use Rattle.eu_name.specs.declared.name_text.Tail.TheVariants.{None, Part, Local}
use Rattle.eu_name.specs.declared.name_text.NameFault.{NameFault}
use Rattle.eu_name.specs.declared.name_text.NameFault.TheVariants.{Syntax, Memory}
use Rattle.eu_name.specs.Word.{IsName}

-- `/rule:slot`, where `decimal` writes a number in decimal digits without leading zeros
abbrev pub step_text : Step → List ℕ
step_text step = codes "/" ++ (decimal step.rule ++ (codes ":" ++ decimal step.slot))

-- nothing, `.part` or `/rule!number`
abbrev pub tail_text : Tail → List ℕ
tail_text None = []
tail_text (Part part) = codes "." ++ part
tail_text (Local rule number) = codes "/" ++ (decimal rule ++ (codes "!" ++ decimal number))

-- the steps in turn, and the tail
abbrev pub ending_text : List Step → Tail → List ℕ
ending_text steps tail = flat_map step_text steps ++ tail_text tail

-- the label and all that follows it
abbrev pub name_spelling : NameText → List ℕ
name_spelling name = name.label ++ ending_text name.steps name.tail

-- a rule, a slot or a local has a number below 65,536
abbrev pub IsStep : Step → Type 0
IsStep step = (step.rule < 65536) × (step.slot < 65536)

-- a part is a name, and a local has such numbers
abbrev pub IsTail : Tail → Type 0
IsTail None = ⊤
IsTail (Part part) = IsName part
IsTail (Local rule number) = (rule < 65536) × (number < 65536)

-- `!` and a number
abbrev pub IsNumbered : List ℕ → Type 0
IsNumbered label = (number : ℕ) × (number < 65536) × (label ≡ codes "!" ++ decimal number)

-- the name has a spelling: its label is a name, with any steps and tail, or `!` and a number, with none
abbrev pub IsWellFormed : NameText → Type 0
IsWellFormed name =
    (IsName name.label × All IsStep name.steps × IsTail name.tail)
    ⊎ (IsNumbered name.label × (name.steps ≡ []) × (name.tail ≡ None))

-- the text spells the name
abbrev pub Spells : List ℕ → NameText → Type 0
Spells text name = IsWellFormed name × (text ≡ name_spelling name)

-- the answer to a text: the name that it spells, or that it spells none; memory can run out only for a text that
-- spells one
abbrev pub Reads : List ℕ → Result NameText NameFault → Type 0
Reads text (Ok name) = Spells text name
Reads text (Err Syntax) = (name : NameText) → Spells text name → ⊥
Reads text (Err Memory) = (name : NameText) × Spells text name
