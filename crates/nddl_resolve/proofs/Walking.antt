-- Names that are dealt with one after another.
use Rattle.std.proofs.Common.{◌≡◌, ℕ, ◌+◌, ◌<◌, List, [], ◌∷◌, ◌++◌, length, drop, get_or, refl, sym, ◌∙◌, ap}
use Rattle.std.specs.Prelude.{Result, Ok, Err, IfOk}
use Rattle.std.proofs.lemmas.List.{drop_more}
use Rattle.nddl_ast.specs.declared.name.Name.{Name}
use Rattle.nddl_hierarchy.specs.Facts.{Facts}
use Rattle.nddl_resolve.specs.declared.denoted.Denoted.{Denoted}
use Rattle.nddl_resolve.specs.declared.denoted.PathFault.{PathFault}
use Rattle.nddl_resolve.specs.Following.{Understood, asked_rest, found_next, next_denoted, rest_denoted, token_denoted}

-- the item that is read, and those behind it
dropped : {X : Type 0} (xs : List X) (i : ℕ) (x : X) → i < length xs → x ≡ get_or xs i x → x ∷ drop (i + 1) xs ≡ drop i xs
dropped xs i x within is = ap (λ y. y ∷ drop (i + 1) xs) is ∙ sym (drop_more xs i x within)

-- ---- paths

-- what the next name gives goes on with those behind it
goes_on : (facts : Facts) (first : ℕ) (here : Denoted) (names : List Name) (i : ℕ) (name : Name) (found whole : Understood)
    → i < length names → name ≡ get_or names i name → found ≡ next_denoted facts first here name
    → rest_denoted facts first here (drop i names) ≡ whole
    → found_next (λ next. rest_denoted facts first next (drop (i + 1) names)) found ≡ whole
goes_on facts first here names i name found whole within is gives so_far =
    ap (found_next (λ next. rest_denoted facts first next (drop (i + 1) names))) gives
    ∙ (ap (rest_denoted facts first here) (dropped names i name within is) ∙ so_far)

-- one name more means something
pub rest_on : (facts : Facts) (first : ℕ) (here next : Denoted) (names : List Name) (i : ℕ) (name : Name) (whole : Understood)
    → i < length names → name ≡ get_or names i name → Ok next ≡ next_denoted facts first here name
    → rest_denoted facts first here (drop i names) ≡ whole → rest_denoted facts first next (drop (i + 1) names) ≡ whole
rest_on facts first here next names i name whole within is gives so_far =
    goes_on facts first here names i name (Ok next) whole within is gives so_far

-- a name is at fault
pub rest_ends : (facts : Facts) (first : ℕ) (here : Denoted) (fault : PathFault) (names : List Name) (i : ℕ) (name : Name) (whole : Understood)
    → i < length names → name ≡ get_or names i name → Err fault ≡ next_denoted facts first here name
    → rest_denoted facts first here (drop i names) ≡ whole → Err fault ≡ whole
rest_ends facts first here fault names i name whole within is gives so_far =
    goes_on facts first here names i name (Err fault) whole within is gives so_far

-- ---- predicates behind paths

-- the names behind the next one ask for what they ask for, whatever it means
asks_on : (facts : Facts) (first : ℕ) (more : List Name) (last : Name) (found : Understood)
    → ((here : Denoted) → asked_rest facts first here (more ++ last ∷ [])
    ≡ found_next (λ further. token_denoted facts first further last) (rest_denoted facts first here more))
    → found_next (λ here. asked_rest facts first here (more ++ last ∷ [])) found
    ≡ found_next (λ further. token_denoted facts first further last) (found_next (λ here. rest_denoted facts first here more) found)
asks_on facts first more last (Ok here) behind = behind here
asks_on facts first more last (Err fault) behind = refl

-- the last of names is asked of what those before it mean
pub asks_last : (facts : Facts) (first : ℕ) (here : Denoted) (names : List Name) (last : Name)
    → asked_rest facts first here (names ++ last ∷ [])
    ≡ found_next (λ further. token_denoted facts first further last) (rest_denoted facts first here names)
asks_last facts first here [] last = refl
asks_last facts first here (name ∷ []) last =
    asks_on facts first [] last (next_denoted facts first here name) (λ further. refl)
asks_last facts first here (name ∷ (next ∷ more)) last =
    asks_on facts first (next ∷ more) last (next_denoted facts first here name)
    (λ further. asks_last facts first further (next ∷ more) last)

-- they mean something, of which the last is asked
pub asks_found : {E : Type 0} (facts : Facts) (first : ℕ) (owner here : Denoted) (names : List Name) (last : Name) (result : Result Understood E)
    → Ok here ≡ rest_denoted facts first owner names
    → IfOk result (λ found. found ≡ token_denoted facts first here last)
    → IfOk result (λ found. found ≡ asked_rest facts first owner (names ++ last ∷ []))
asks_found facts first owner here names last (Err e) means asked = tt
asks_found facts first owner here names last (Ok found) means asked =
    asked ∙ (ap (found_next (λ further. token_denoted facts first further last)) means ∙ sym (asks_last facts first owner names last))

-- one of them is at fault
pub asks_fault : (facts : Facts) (first : ℕ) (owner : Denoted) (fault : PathFault) (names : List Name) (last : Name)
    → Err fault ≡ rest_denoted facts first owner names → Err fault ≡ asked_rest facts first owner (names ++ last ∷ [])
asks_fault facts first owner fault names last means =
    ap (found_next (λ further. token_denoted facts first further last)) means ∙ sym (asks_last facts first owner names last)
