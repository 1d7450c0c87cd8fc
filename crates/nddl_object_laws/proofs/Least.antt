-- The earliest of faults, in whatever order they come.
use Rattle.std.proofs.Common.{◌≡◌, ℕ, zero, suc, ◌<◌, ◌≤◌, List, [], ◌∷◌, ◌++◌, refl, sym, ◌∙◌, ap, subst, inl, inr, arith, rules}
use Rattle.std.specs.Prelude.{◌⊎◌, Option, Some, None, Contains, slice_get}
use Rattle.std.specs.Option.{option_map_or}
use Rattle.std.proofs.lemmas.Bool.{cases_lt}
use Rattle.std.proofs.lemmas.List.Elements.{Contains-append_left, Contains-append_right, Contains-append_cases}
use Rattle.std.proofs.lemmas.Option.{none-some, same_Some}
use Rattle.nddl_ast.specs.Kinds.{kind_rank}
use Rattle.nddl_ast.specs.declared.kind.TextKind.{TextKind}
use Rattle.nddl_ast.specs.declared.kind.TextKind.TheVariants as kinds
use Rattle.nddl_symbols.specs.declared.fault.Fault.{Fault}
use Rattle.nddl_symbols.specs.Finding.{Finds, HasNoLater, IsFaultBefore, earlier_fault, earliest_fault}
use Rattle.nddl_symbols.proofs.Earliest.{earliest_append, finds_earliest}

-- ---- faults of one place and kind

abbrev all_kinds : List TextKind
all_kinds =
    kinds.BadByte ∷ (kinds.OpenComment ∷ (kinds.OutOfRange ∷ (kinds.Syntax ∷ (kinds.Absent ∷ (kinds.LimitBytes
    ∷ (kinds.LimitFiles ∷ (kinds.LimitDepth ∷ (kinds.LimitNesting ∷ (kinds.Unknown ∷ (kinds.Twice
    ∷ (kinds.WrongType ∷ (kinds.WrongCount ∷ (kinds.NotInDomain ∷ (kinds.Closed ∷ (kinds.LimitRules ∷ (kinds.LimitGuards
    ∷ (kinds.LimitSlots ∷ (kinds.LimitLocals ∷ (kinds.LimitItems ∷ (kinds.LimitTurns ∷ (kinds.LimitParameters
    ∷ (kinds.LimitObjects ∷ (kinds.LimitRoots ∷ (kinds.LimitGlobals ∷ (kinds.LimitFacts ∷ (kinds.LimitMembers
    ∷ (kinds.LimitNew ∷ (kinds.NotAdmissible ∷ (kinds.AfterConflict ∷ [])))))))))))))))))))))))))))))

ranked : (kind : TextKind) → slice_get all_kinds (kind_rank kind) ≡ Some kind
ranked kinds.BadByte = refl
ranked kinds.OpenComment = refl
ranked kinds.OutOfRange = refl
ranked kinds.Syntax = refl
ranked kinds.Absent = refl
ranked kinds.LimitBytes = refl
ranked kinds.LimitFiles = refl
ranked kinds.LimitDepth = refl
ranked kinds.LimitNesting = refl
ranked kinds.Unknown = refl
ranked kinds.Twice = refl
ranked kinds.WrongType = refl
ranked kinds.WrongCount = refl
ranked kinds.NotInDomain = refl
ranked kinds.Closed = refl
ranked kinds.LimitRules = refl
ranked kinds.LimitGuards = refl
ranked kinds.LimitSlots = refl
ranked kinds.LimitLocals = refl
ranked kinds.LimitItems = refl
ranked kinds.LimitTurns = refl
ranked kinds.LimitParameters = refl
ranked kinds.LimitObjects = refl
ranked kinds.LimitRoots = refl
ranked kinds.LimitGlobals = refl
ranked kinds.LimitFacts = refl
ranked kinds.LimitMembers = refl
ranked kinds.LimitNew = refl
ranked kinds.NotAdmissible = refl
ranked kinds.AfterConflict = refl

same_kind : (one other : TextKind) → kind_rank one ≡ kind_rank other → one ≡ other
same_kind one other is = same_Some one other (sym (ranked one) ∙ (ap (slice_get all_kinds) is ∙ ranked other))

same_number : (a b : ℕ) → (a < b → ⊥) → (b < a → ⊥) → a ≡ b
same_number a b not_less not_more = by (cases_lt a b) (cases_lt b a)
  where
    by : (a < b) ⊎ (b ≤ a) → (b < a) ⊎ (a ≤ b) → a ≡ b
    by (inl less) other = absurd (not_less less)
    by (inr most) (inl less) = absurd (not_more less)
    by (inr most) (inr least) = omega arith

same_fault : (one other : Fault) → (IsFaultBefore one other → ⊥) → (IsFaultBefore other one → ⊥) → one ≡ other
same_fault one other not_one not_other =
    let decl : one.place.decl ≡ other.place.decl =
    same_number one.place.decl other.place.decl (λ less. not_one (inl less)) (λ less. not_other (inl less)) in
    let at : one.place.at ≡ other.place.at =
    same_number one.place.at other.place.at (λ less. not_one (inr (decl, inl less)))
    (λ less. not_other (inr (sym decl, inl less))) in
    let rank : kind_rank one.kind ≡ kind_rank other.kind =
    same_number (kind_rank one.kind) (kind_rank other.kind) (λ less. not_one (inr (decl, inr (at, less))))
    (λ less. not_other (inr (sym decl, inr (sym at, less)))) in
    λ i. record { place = record { decl = decl i; at = at i }; kind = same_kind one.kind other.kind rank i }

-- ---- the same faults

-- of the same faults the same is the earliest
same_found : (IsIt Other : Fault → Type 0) (first left right : Option Fault) → Finds IsIt first left → Finds Other first right
    → ((fault : Fault) → IsIt fault → Other fault) → ((fault : Fault) → Other fault → IsIt fault) → left ≡ right
same_found IsIt Other first left right ones others there back = by left right ones others
  where
    to_other : (fault : Fault) → (first ≡ Some fault) ⊎ IsIt fault → (first ≡ Some fault) ⊎ Other fault
    to_other fault (inl is) = inl is
    to_other fault (inr is) = inr (there fault is)

    to_one : (fault : Fault) → (first ≡ Some fault) ⊎ Other fault → (first ≡ Some fault) ⊎ IsIt fault
    to_one fault (inl is) = inl is
    to_one fault (inr is) = inr (back fault is)

    by : (left right : Option Fault) → Finds IsIt first left → Finds Other first right → left ≡ right
    by None None one other = refl
    by None (Some fault) one other =
        let known : HasNoLater None fault = one.first fault (to_one fault (other.found fault refl)) in
        absurd (none-some known.0 known.1)
    by (Some fault) None one other =
        let known : HasNoLater None fault = other.first fault (to_other fault (one.found fault refl)) in
        absurd (none-some known.0 known.1)
    by (Some fault) (Some later) one other =
        let known : HasNoLater (Some later) fault = other.first fault (to_other fault (one.found fault refl)) in
        let least : HasNoLater (Some fault) later = one.first later (to_one later (other.found later refl)) in
        let F : Fault → Type 0 = λ f. IsFaultBefore fault f → ⊥ in
        let L : Fault → Type 0 = λ f. IsFaultBefore later f → ⊥ in
        ap (λ f. Some f) (same_fault fault later (subst F (sym (same_Some later known.0 known.1)) known.2)
        (subst L (sym (same_Some fault least.0 least.1)) least.2))

turned : (one other : List Fault) (fault : Fault) → Contains (one ++ other) fault → Contains (other ++ one) fault
turned one other fault among = by (Contains-append_cases one other fault among)
  where
    by : Contains one fault ⊎ Contains other fault → Contains (other ++ one) fault
    by (inl is) = Contains-append_right other one fault is
    by (inr is) = Contains-append_left other one fault is

-- it doesn't matter which come first
pub earliest_swap : (first : Option Fault) (one other : List Fault)
    → earliest_fault (earliest_fault first one) other ≡ earliest_fault (earliest_fault first other) one
earliest_swap first one other =
    sym (earliest_append first one other)
    ∙ (same_found (Contains (one ++ other)) (Contains (other ++ one)) first (earliest_fault first (one ++ other))
    (earliest_fault first (other ++ one)) (finds_earliest first (one ++ other)) (finds_earliest first (other ++ one))
    (turned one other) (turned other one)
    ∙ earliest_append first other one)

-- ---- faults in several lists

three : (first : Option Fault) (a b c : List Fault)
    → earliest_fault first (a ++ (b ++ c)) ≡ earliest_fault (earliest_fault (earliest_fault first a) b) c
three first a b c = earliest_append first a (b ++ c) ∙ earliest_append (earliest_fault first a) b c

-- two lists, and then more for each of them
pub two_and_two : (first : Option Fault) (a b c d : List Fault)
    → earliest_fault (earliest_fault (earliest_fault first (a ++ b)) c) d ≡ earliest_fault first ((a ++ c) ++ (b ++ d))
two_and_two first a b c d =
    let E = earliest_fault in
    ap (λ f. E (E f c) d) (earliest_append first a b)
    ∙ (ap (λ f. E f d) (earliest_swap (E first a) b c)
    ∙ sym (earliest_append first (a ++ c) (b ++ d)
    ∙ (ap (λ f. E f (b ++ d)) (earliest_append first a c) ∙ earliest_append (E (E first a) c) b d)))

-- three lists, and then more for each of them
pub three_and_three : (first : Option Fault) (a b c d e f : List Fault)
    → earliest_fault (earliest_fault first (a ++ (b ++ c))) (d ++ (e ++ f))
    ≡ earliest_fault first ((a ++ d) ++ ((b ++ e) ++ (c ++ f)))
three_and_three first a b c d e f =
    let E = earliest_fault in
    ap (λ o. E o (d ++ (e ++ f))) (three first a b c)
    ∙ (three (E (E (E first a) b) c) d e f
    ∙ (ap (λ o. E (E o e) f) (earliest_swap (E (E first a) b) c d)
    ∙ (ap (λ o. E (E (E o c) e) f) (earliest_swap (E first a) b d)
    ∙ (ap (λ o. E o f) (earliest_swap (E (E (E first a) d) b) c e)
    ∙ sym (three first (a ++ d) (b ++ e) (c ++ f)
    ∙ (ap (λ o. E (E o (b ++ e)) (c ++ f)) (earliest_append first a d)
    ∙ (ap (λ o. E o (c ++ f)) (earliest_append (E (E first a) d) b e)
    ∙ earliest_append (E (E (E (E first a) d) b) e) c f)))))))

-- the last of these comes before the one before it, and belongs to the others
pub last_but_one : (first : Option Fault) (a b c d e : List Fault)
    → earliest_fault (earliest_fault (earliest_fault first a) (b ++ (c ++ d))) e
    ≡ earliest_fault first ((a ++ (b ++ (c ++ e))) ++ d)
last_but_one first a b c d e =
    let E = earliest_fault in
    ap (λ o. E o e) (three (E first a) b c d)
    ∙ (earliest_swap (E (E (E first a) b) c) d e
    ∙ sym (earliest_append first (a ++ (b ++ (c ++ e))) d
    ∙ ap (λ o. E o d) (earliest_append first a (b ++ (c ++ e)) ∙ three (E first a) b c e)))

-- ---- the earliest of two

-- the earlier of two faults, if there are any
abbrev pub earlier_of : Option Fault → Option Fault → Option Fault
earlier_of first found = option_map_or (λ fault. earlier_fault first fault) found first

-- the three numbers by which faults are put in order
abbrev Comes : ℕ → ℕ → ℕ → ℕ → ℕ → ℕ → Type 0
Comes a b c d e f = (a < d) ⊎ ((a ≡ d) × ((b < e) ⊎ ((b ≡ e) × (c < f))))

comes_between : (a b c d e f g h i : ℕ) → (Comes a b c d e f → ⊥) → (Comes d e f g h i → ⊥) → Comes a b c g h i → ⊥
comes_between a b c d e f g h i first second before = first_of (grind arith, search rules)

-- what comes before the third comes before the second, or that before the third
between : (one two three : Fault) → (IsFaultBefore one two → ⊥) → (IsFaultBefore two three → ⊥) → IsFaultBefore one three → ⊥
between one two three first second before =
    comes_between one.place.decl one.place.at (kind_rank one.kind) two.place.decl two.place.at (kind_rank two.kind)
    three.place.decl three.place.at (kind_rank three.kind) first second before

-- if there is none of the other faults
finds_left : (one other : List Fault) (left : Option Fault) → Finds (Contains one) None left → Finds (Contains other) None None
    → Finds (Contains (one ++ other)) None left
finds_left one other left ones others = record { found = found; first = first }
  where
    found : (fault : Fault) → left ≡ Some fault → (None ≡ Some fault) ⊎ Contains (one ++ other) fault
    found fault is = elim (ones.found fault is) [ inl never ↦ inl never | inr among ↦ inr (Contains-append_left one other fault among) ]

    by : (fault : Fault) → Contains one fault ⊎ Contains other fault → HasNoLater left fault
    by fault (inl among) = ones.first fault (inr among)
    by fault (inr among) = let known : HasNoLater None fault = others.first fault (inr among) in absurd (none-some known.0 known.1)

    first : (fault : Fault) → (None ≡ Some fault) ⊎ Contains (one ++ other) fault → HasNoLater left fault
    first fault (inl never) = absurd (none-some fault never)
    first fault (inr among) = by fault (Contains-append_cases one other fault among)

finds_right : (one other : List Fault) (right : Option Fault) → Finds (Contains one) None None → Finds (Contains other) None right
    → Finds (Contains (one ++ other)) None right
finds_right one other right ones others = record { found = found; first = first }
  where
    found : (fault : Fault) → right ≡ Some fault → (None ≡ Some fault) ⊎ Contains (one ++ other) fault
    found fault is = elim (others.found fault is) [ inl never ↦ inl never | inr among ↦ inr (Contains-append_right one other fault among) ]

    by : (fault : Fault) → Contains one fault ⊎ Contains other fault → HasNoLater right fault
    by fault (inl among) = let known : HasNoLater None fault = ones.first fault (inr among) in absurd (none-some known.0 known.1)
    by fault (inr among) = others.first fault (inr among)

    first : (fault : Fault) → (None ≡ Some fault) ⊎ Contains (one ++ other) fault → HasNoLater right fault
    first fault (inl never) = absurd (none-some fault never)
    first fault (inr among) = by fault (Contains-append_cases one other fault among)

finds_both : (one other : List Fault) (f g : Fault) → Finds (Contains one) None (Some f) → Finds (Contains other) None (Some g)
    → Finds (Contains (one ++ other)) None (earliest_fault (Some f) (g ∷ []))
finds_both one other f g ones others = record { found = found; first = first }
  where
    both : Finds (Contains (g ∷ [])) (Some f) (earliest_fault (Some f) (g ∷ []))
    both = finds_earliest (Some f) (g ∷ [])

    left : (fault : Fault) → (None ≡ Some fault) ⊎ Contains one fault → (None ≡ Some fault) ⊎ Contains (one ++ other) fault
    left fault (inl never) = inl never
    left fault (inr among) = inr (Contains-append_left one other fault among)

    right : (fault : Fault) → (None ≡ Some fault) ⊎ Contains other fault → (None ≡ Some fault) ⊎ Contains (one ++ other) fault
    right fault (inl never) = inl never
    right fault (inr among) = inr (Contains-append_right one other fault among)

    of : (fault : Fault) → (Some f ≡ Some fault) ⊎ Contains (g ∷ []) fault → (None ≡ Some fault) ⊎ Contains (one ++ other) fault
    of fault (inl same) = left fault (ones.found fault same)
    of fault (inr (zero, within, same)) = right fault (others.found fault (ap (λ h. Some h) same))
    of fault (inr (suc k, within, same)) = absurd (omega arith)

    found : (fault : Fault) → earliest_fault (Some f) (g ∷ []) ≡ Some fault → (None ≡ Some fault) ⊎ Contains (one ++ other) fault
    found fault is = of fault (both.found fault is)

    by : (fault : Fault) → Contains one fault ⊎ Contains other fault → HasNoLater (earliest_fault (Some f) (g ∷ [])) fault
    by fault (inl among) =
        let known : HasNoLater (Some f) fault = ones.first fault (inr among) in
        let next : HasNoLater (earliest_fault (Some f) (g ∷ [])) known.0 = both.first known.0 (inl known.1) in
        (next.0, next.1, λ before. between fault known.0 next.0 known.2 next.2 before)
    by fault (inr among) =
        let known : HasNoLater (Some g) fault = others.first fault (inr among) in
        let here : Contains (g ∷ []) known.0 = (0, omega arith, same_Some g known.0 known.1) in
        let next : HasNoLater (earliest_fault (Some f) (g ∷ [])) known.0 = both.first known.0 (inr here) in
        (next.0, next.1, λ before. between fault known.0 next.0 known.2 next.2 before)

    first : (fault : Fault) → (None ≡ Some fault) ⊎ Contains (one ++ other) fault → HasNoLater (earliest_fault (Some f) (g ∷ [])) fault
    first fault (inl never) = absurd (none-some fault never)
    first fault (inr among) = by fault (Contains-append_cases one other fault among)

-- the earlier of the earliest of two lists is the earliest of both
pub earlier_of_both : (one other : List Fault)
    → earlier_of (earliest_fault None one) (earliest_fault None other) ≡ earliest_fault None (one ++ other)
earlier_of_both one other =
    same_found (Contains (one ++ other)) (Contains (one ++ other)) None
    (earlier_of (earliest_fault None one) (earliest_fault None other)) (earliest_fault None (one ++ other))
    (by (earliest_fault None one) (earliest_fault None other) (finds_earliest None one) (finds_earliest None other))
    (finds_earliest None (one ++ other)) (λ fault is. is) (λ fault is. is)
  where
    by : (left right : Option Fault) → Finds (Contains one) None left → Finds (Contains other) None right
        → Finds (Contains (one ++ other)) None (earlier_of left right)
    by left None ones others = finds_left one other left ones others
    by None (Some g) ones others = finds_right one other (Some g) ones others
    by (Some f) (Some g) ones others = finds_both one other f g ones others
