-- What was written behind old bytes.
use Rattle.std.specs.Prelude.{◌≡◌, ℕ, ℤ, Option, List, ◌++◌, codes}
use Rattle.std.specs.List.{AllZip, flat_map}
use Rattle.domain_core.specs.declared.kind.Kind.{Kind}
use Rattle.model_core.specs.declared.decision.ConArg.{ConArg}
use Rattle.model_core.specs.declared.model.Model.{Model}
use Rattle.model_core.specs.declared.variable.ValueKind.{ValueKind}
use Rattle.plan_text.specs.Values.{IsValueText}
use Rattle.script_lang.specs.Compared.{kind_at, AllPlaced}
use Rattle.session_replies.specs.Lines.{with_line_feed, counted_lines, spaced, IsArgumentText}

-- a piece that is so was written behind the old bytes
abbrev pub Writes : (List ℕ → Type 0) → List ℕ → List ℕ → Type 0
Writes IsPiece old new = (piece : List ℕ) × (IsPiece piece × (new ≡ old ++ piece))

-- behind the gap
abbrev pub WritesBehind : List ℕ → (List ℕ → Type 0) → List ℕ → List ℕ → Type 0
WritesBehind gap IsPiece old new = (piece : List ℕ) × (IsPiece piece × (new ≡ old ++ (gap ++ piece)))

-- as a line
abbrev pub WritesLine : (List ℕ → Type 0) → List ℕ → List ℕ → Type 0
WritesLine IsLine old new = (line : List ℕ) × (IsLine line × (new ≡ old ++ with_line_feed line))

-- a line for each item
abbrev pub WritesLines : {X : Type 0} → (X → List ℕ → Type 0) → List X → List ℕ → List ℕ → Type 0
WritesLines IsLine items old new =
    (lines : List (List ℕ)) × (AllZip IsLine items lines × (new ≡ old ++ flat_map with_line_feed lines))

-- and their number before them
abbrev pub WritesCounted : {X : Type 0} → List ℕ → (X → List ℕ → Type 0) → List X → List ℕ → List ℕ → Type 0
WritesCounted word IsLine items old new =
    (lines : List (List ℕ)) × (AllZip IsLine items lines × (new ≡ old ++ counted_lines word lines))

-- the members of a set as values of the kind, with single spaces between them
abbrev pub WritesMembers : Model → ValueKind → List ℤ → List ℕ → List ℕ → Type 0
WritesMembers model kind members old new =
    (words : List (List ℕ)) × (AllZip (IsValueText model kind) members words × (new ≡ old ++ spaced words))

-- the arguments of a constraint, each in the kind in which it is read and behind a space
abbrev pub WritesArguments : Model → Kind → Option ValueKind → List ConArg → List ℕ → List ℕ → Type 0
WritesArguments model kind among arguments old new =
    (words : List (List ℕ)) × (AllPlaced (λ place. IsArgumentText model (kind_at kind among place)) 0 arguments words
    × (new ≡ old ++ flat_map (λ word. codes " " ++ word) words))
