-- Names that may hide one another.
use Rattle.std.specs.Prelude.{◌≡◌, ℕ, List, [], ◌∷◌, ◌++◌, Option, Some, None, map, ⊤, if◌then◌else◌}
use Rattle.std.specs.Coded.{Coded, coded×, coded_list, coded_ℕ}
use Rattle.std.specs.Map.{lookup}
use Rattle.std.specs.Option.{option_and_then, option_or}
use Rattle.std.specs.Str.{bytes_eq}
use Rattle.eu_index.specs.declared.innermost.SeenName.{SeenName}

-- names, each with what it means, the innermost last
abbrev pub Meant : Type 0 → Type 0
Meant T = List (List ℕ × T)

module _ {T : Type 0} where
  -- what is stored of them
  abbrev pub meant_code : Coded T → Coded (Meant T)
  meant_code code = coded_list (coded× (coded_list coded_ℕ) code)

  -- what it means, if it has the name
  abbrev pub meaning_if : List ℕ → List ℕ × T → Option T
  meaning_if name seen = if bytes_eq name seen.0 then Some seen.1 else None

  -- what the last of these means that have the name
  abbrev pub last_meaning : List ℕ → Meant T → Option T
  last_meaning name [] = None
  last_meaning name (seen ∷ more) = option_or (last_meaning name more) (meaning_if name seen)

  -- ---- how the code finds them

  abbrev pub seen_pair : SeenName T → List ℕ × T
  seen_pair seen = (seen.name, seen.meaning)

  abbrev pub seen_pairs : List (SeenName T) → Meant T
  seen_pairs seen = map seen_pair seen

  -- what an index has of the name
  abbrev pub indexed_meaning : List (List ℕ × Option T) → List ℕ → Option T
  indexed_meaning index name = option_and_then (λ meaning. meaning) (lookup (bytes_eq name) index)

  -- each of these, behind others, knows what its name means among those before it
  abbrev pub KnowHidden : Meant T → List (SeenName T) → Type 0
  KnowHidden before [] = ⊤
  KnowHidden before (seen ∷ more) =
      (seen.hidden ≡ last_meaning seen.name before) × KnowHidden (before ++ seen_pair seen ∷ []) more

  -- the index has what the last of each name means, and each name knows what the one means that it hides
  pub record AreIndexed (index : List (List ℕ × Option T)) (seen : List (SeenName T)) : Type 0 where
    pub last : (name : List ℕ) → indexed_meaning index name ≡ last_meaning name (seen_pairs seen)
    pub hidden : KnowHidden [] seen
