-- Words that are noted under other forms.
use Rattle.std.proofs.Common.{◌≡◌, ℕ, Bool, true, false, cond, List, [], ◌∷◌, ◌++◌, Some, None, refl, sym, ap, ◌∙◌}
use Rattle.std.specs.Map.{lookup}
use Rattle.std.specs.Str.{bytes_eq}
use Rattle.indexmap.specs.IndexMap.{insert_entry}
use Rattle.eu_index.specs.Index.{noted_number}
use Rattle.plan_resolve.specs.Noting.{noted_by}

module _ {K : Type 0} (word : K → List ℕ) where
  -- a word is looked up as it would be among the words themselves
  pub found_by : (entries : List (K × ℕ)) (asked : List ℕ) → lookup (λ key. bytes_eq asked (word key)) entries ≡ noted_number (noted_by word entries) asked
  found_by [] asked = refl
  found_by (entry ∷ entries) asked = ap (λ rest. cond (bytes_eq asked (word entry.0)) (Some entry.1) rest) (found_by entries asked)

  -- a new word goes behind the others
  pub put_behind : (entries : List (K × ℕ)) (key : K) (number : ℕ) → noted_number (noted_by word entries) (word key) ≡ None
      → noted_by word (insert_entry (λ one other. bytes_eq (word one) (word other)) entries key number) ≡ noted_by word entries ++ (word key, number) ∷ []
  put_behind [] key number none = refl
  put_behind (entry ∷ entries) key number none = by (bytes_eq (word key) (word entry.0)) refl (put_behind entries key number)
    where
      by : (b : Bool) → bytes_eq (word key) (word entry.0) ≡ b
          → (noted_number (noted_by word entries) (word key) ≡ None
          → noted_by word (insert_entry (λ one other. bytes_eq (word one) (word other)) entries key number) ≡ noted_by word entries ++ (word key, number) ∷ [])
          → noted_by word (insert_entry (λ one other. bytes_eq (word one) (word other)) (entry ∷ entries) key number) ≡ noted_by word (entry ∷ entries) ++ (word key, number) ∷ []
      by true same rest = absurd (let e : Some entry.1 ≡ None = sym (ap (λ b. cond b (Some entry.1) (noted_number (noted_by word entries) (word key))) same) ∙ none in cc)
      by false differ rest =
          ap (λ b. noted_by word (cond b ((entry.0, number) ∷ entries) (entry ∷ insert_entry (λ one other. bytes_eq (word one) (word other)) entries key number))) differ
          ∙ ap (λ more. (word entry.0, entry.1) ∷ more) (rest (sym (ap (λ b. cond b (Some entry.1) (noted_number (noted_by word entries) (word key))) differ) ∙ none))
