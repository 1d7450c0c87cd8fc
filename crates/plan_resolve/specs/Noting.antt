-- Words that are noted under other forms.
use Rattle.std.specs.Prelude.{ℕ, List, map}
use Rattle.eu_index.specs.Index.{Noted}

-- the numbers by the words that the keys stand for
abbrev pub noted_by : {K : Type 0} → (K → List ℕ) → List (K × ℕ) → Noted
noted_by word entries = map (λ entry. (word entry.0, entry.1)) entries
