-- Sorts with one number are one.
use Rattle.std.proofs.Common.{◌≡◌, ℕ, Bool, true, false, ◌==◌, ◌&&◌, if◌then◌else◌, List, refl, sym, ap, subst, ◌∙◌, eq-eqb, eqb-true}
use Rattle.std.specs.Prelude.{Option, Some, None}
use Rattle.std.specs.Str.{bytes_eq}
use Rattle.std.proofs.lemmas.Bool.{and_parts}
use Rattle.std.proofs.lemmas.Slice.Eq.{bytes_eq-Decides}
use Rattle.eu_name.specs.declared.word.Reserved.{Reserved}
use Rattle.eu_name.specs.Word.{reserved_of}
use Rattle.eu_name.proofs.Reserved.{reserved_back}
use Rattle.nddl_grammar.specs.declared.sort.Sort.{Sort}
use Rattle.nddl_grammar.specs.declared.sort.Sort.TheVariants as sorts
use Rattle.nddl_grammar.specs.Sorts.{sort_number, word_spelling, same}

and_both : (one other : Bool) → one ≡ true → other ≡ true → (one && other) ≡ true
and_both true other p q = q
and_both false other p q = p

-- the sort of a reserved word, or a name's
abbrev word_sort : Option Reserved → Sort
word_sort None = sorts.Name
word_sort (Some word) = sorts.Word word

sort_at : ℕ → List ℕ → Sort
sort_at n word =
    if n == 0 then sorts.Name
    else (if n == 1 then word_sort (reserved_of word)
    else (if n == 2 then sorts.Number
    else (if n == 3 then sorts.Decimal
    else (if n == 4 then sorts.Quoted
    else (if n == 5 then sorts.Include
    else (if n == 6 then sorts.BraceOpen
    else (if n == 7 then sorts.BraceClose
    else (if n == 8 then sorts.ParenOpen
    else (if n == 9 then sorts.ParenClose
    else (if n == 10 then sorts.BracketOpen
    else (if n == 11 then sorts.BracketClose
    else (if n == 12 then sorts.Semicolon
    else (if n == 13 then sorts.Comma
    else (if n == 14 then sorts.Point
    else (if n == 15 then sorts.Assign
    else (if n == 16 then sorts.Equal
    else (if n == 17 then sorts.NotEqual
    else sorts.DoubleColon)))))))))))))))))

sort_back : (one : Sort) → sort_at (sort_number one) (word_spelling one) ≡ one
unfolding sort_at
sort_back sorts.Name = refl
sort_back (sorts.Word word) = ap word_sort (reserved_back word)
sort_back sorts.Number = refl
sort_back sorts.Decimal = refl
sort_back sorts.Quoted = refl
sort_back sorts.Include = refl
sort_back sorts.BraceOpen = refl
sort_back sorts.BraceClose = refl
sort_back sorts.ParenOpen = refl
sort_back sorts.ParenClose = refl
sort_back sorts.BracketOpen = refl
sort_back sorts.BracketClose = refl
sort_back sorts.Semicolon = refl
sort_back sorts.Comma = refl
sort_back sorts.Point = refl
sort_back sorts.Assign = refl
sort_back sorts.Equal = refl
sort_back sorts.NotEqual = refl
sort_back sorts.DoubleColon = refl

pub one_sort : (one other : Sort) → sort_number one ≡ sort_number other → word_spelling one ≡ word_spelling other → one ≡ other
one_sort one other numbers words = sym (sort_back one) ∙ ((λ i. sort_at (numbers i) (words i)) ∙ sort_back other)

pub same_is : (one other : Sort) → same one other ≡ true → one ≡ other
unfolding same
same_is one other test =
    let parts = and_parts (sort_number one == sort_number other) (bytes_eq (word_spelling one) (word_spelling other)) test in
    one_sort one other (eqb-true _ _ parts.0) ((bytes_eq-Decides (word_spelling one) (word_spelling other)).0 parts.1)

pub is_same : (one : Sort) → same one one ≡ true
unfolding same
is_same one = and_both (sort_number one == sort_number one) (bytes_eq (word_spelling one) (word_spelling one)) (eq-eqb (sort_number one) (sort_number one) refl) ((bytes_eq-Decides (word_spelling one) (word_spelling one)).1 refl)

pub not_true : (flag : Bool) → flag ≡ false → flag ≡ true → ⊥
not_true flag fails holds = cc

true_not_false : true ≡ false → ⊥
true_not_false e = cc

tells : (one other : Sort) (flag test : Bool) → same one other ≡ test → (flag ≡ true → one ≡ other) → (flag ≡ false → one ≡ other → ⊥) → flag ≡ test
tells one other true true is if_true if_false = refl
tells one other false false is if_true if_false = refl
tells one other true false is if_true if_false =
    let holds : same one other ≡ true = subst (λ (sort : Sort). same one sort ≡ true) (if_true refl) (is_same one) in
    absurd (true_not_false (sym holds ∙ is))
tells one other false true is if_true if_false = absurd (if_false refl (same_is one other is))

pub same_flag : (one other : Sort) (flag : Bool) → (flag ≡ true → one ≡ other) → (flag ≡ false → one ≡ other → ⊥) → flag ≡ same one other
same_flag one other flag if_true if_false = tells one other flag (same one other) refl if_true if_false
