-- Names that stand in others with a point between them are told apart.
use Rattle.std.proofs.Common.{◌≡◌, ℕ, true, false, List, [], ◌∷◌, ◌++◌, append_assoc, refl, sym, ◌∙◌, subst}
use Rattle.std.specs.Prelude.{IsTrue, codes}
use Rattle.std.specs.List.{AllByRecursion}
use Rattle.std.proofs.lemmas.List.Elements.{All-weaker, recursion_from_All}
use Rattle.eu_name.specs.Word.{IsName, is_word_byte, is_word_start}
use Rattle.model_core.specs.Naming.{full_name}

-- it is no point
abbrev NoPoint : ℕ → Type 0
NoPoint byte = byte ≡ 46 → ⊥

no_start : (byte : ℕ) → is_word_start byte ≡ true → NoPoint byte
no_start byte is same =
    let here : is_word_start 46 ≡ true = subst (λ b. is_word_start b ≡ true) same is in
    let none : is_word_start 46 ≡ false = refl in
    let e : true ≡ false = sym here ∙ none in cc

no_byte : (byte : ℕ) → IsTrue (is_word_byte byte) → NoPoint byte
no_byte byte is same =
    let here : is_word_byte 46 ≡ true = subst (λ b. is_word_byte b ≡ true) same is in
    let none : is_word_byte 46 ≡ false = refl in
    let e : true ≡ false = sym here ∙ none in cc

-- no point stands in a name
name_pointless : (name : List ℕ) → IsName name → AllByRecursion NoPoint name
name_pointless [] is = absurd is.0
name_pointless (first ∷ rest) is = (
  no_start first is.0.0,
  recursion_from_All NoPoint rest (All-weaker (λ byte. IsTrue (is_word_byte byte)) NoPoint (λ byte one. no_byte byte one) rest is.0.1),
)

-- what stands before the first point is one thing, and so is what stands behind it
one_front : (one other rest more : List ℕ) → AllByRecursion NoPoint one → AllByRecursion NoPoint other → one ++ (46 ∷ rest) ≡ other ++ (46 ∷ more)
    → (one ≡ other) × (rest ≡ more)
one_front [] [] rest more all each same =
    let here : 46 ∷ rest ≡ 46 ∷ more = same in
    let e : rest ≡ more = cc in (refl, e)
one_front [] (byte ∷ other) rest more all each same =
    let here : 46 ∷ rest ≡ byte ∷ (other ++ (46 ∷ more)) = same in
    let e : 46 ≡ byte = cc in absurd (each.0 (sym e))
one_front (byte ∷ one) [] rest more all each same =
    let here : byte ∷ (one ++ (46 ∷ rest)) ≡ 46 ∷ more = same in
    let e : byte ≡ 46 = cc in absurd (all.0 e)
one_front (byte ∷ one) (word ∷ other) rest more all each same =
    let here : byte ∷ (one ++ (46 ∷ rest)) ≡ word ∷ (other ++ (46 ∷ more)) = same in
    let first : byte ≡ word = cc in
    let back : one ++ (46 ∷ rest) ≡ other ++ (46 ∷ more) = cc in
    let deep = one_front one other rest more all.1 each.1 back in
    ((λ i. first i ∷ deep.0 i), deep.1)

-- two full names are the same if both of their parts are
pub same_parts : (one other name word : List ℕ) → IsName one → IsName other → full_name one name ≡ full_name other word
    → (one ≡ other) × (name ≡ word)
same_parts one other name word is are same =
    one_front one other name word (name_pointless one is) (name_pointless other are)
    (sym (append_assoc one (codes ".") name) ∙ (same ∙ append_assoc other (codes ".") word))
