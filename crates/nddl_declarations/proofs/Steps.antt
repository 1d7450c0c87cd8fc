-- Faults that are noted one after another.
use Rattle.std.proofs.Common.{◌≡◌, ℕ, ◌+◌, ◌<◌, List, [], ◌∷◌, ◌++◌, length, drop, get_or, map, Bor, sym, ◌∙◌, ap, false}
use Rattle.std.specs.Prelude.{Option, nat_lt}
use Rattle.std.specs.List.{flat_map}
use Rattle.std.proofs.lemmas.List.{drop_more, length-map}
use Rattle.model_core.specs.Naming.{token_part_words}
use Rattle.nddl_ast.specs.declared.declaration.Member.{Member}
use Rattle.nddl_ast.specs.declared.declaration.Typed.{Typed}
use Rattle.nddl_ast.specs.declared.kind.TextKind.{TextKind}
use Rattle.nddl_ast.specs.declared.kind.TextKind.TheVariants as kinds
use Rattle.nddl_ast.specs.declared.name.Name.{Name}
use Rattle.nddl_symbols.specs.declared.fault.Fault.{Fault}
use Rattle.nddl_symbols.specs.Finding.{earliest_fault, faults_here}
use Rattle.eu_index.specs.Index.{Noted}
use Rattle.nddl_symbols.specs.Repeats.{repeated_faults}
use Rattle.nddl_symbols.specs.Scope.{fault_if}
use Rattle.nddl_symbols.proofs.Earliest.{earliest_append}
use Rattle.nddl_hierarchy.specs.Facts.{Facts}
use Rattle.nddl_declarations.specs.Known.{all_type_faults}
use Rattle.nddl_declarations.specs.Classes.{class_faults, parent_faults}
use Rattle.nddl_hierarchy.specs.Inherited.{inherited_noted, member_names, words_noted}
use Rattle.nddl_declarations.specs.Members.{constructors_faults, member_faults, predicate_faults, typed_faults, typed_names}

-- the item that is read, and those behind it
dropped : {X : Type 0} (xs : List X) (i : ℕ) (x : X) → i < length xs → x ≡ get_or xs i x → x ∷ drop (i + 1) xs ≡ drop i xs
dropped xs i x within is = ap (λ y. y ∷ drop (i + 1) xs) is ∙ sym (drop_more xs i x within)

-- one item more has been dealt with
pub flat_step : {X : Type 0} (f : X → List Fault) (xs : List X) (i : ℕ) (x : X) (old new whole : Option Fault)
    → i < length xs → x ≡ get_or xs i x → new ≡ earliest_fault old (f x)
    → earliest_fault old (flat_map f (drop i xs)) ≡ whole → earliest_fault new (flat_map f (drop (i + 1) xs)) ≡ whole
flat_step f xs i x old new whole within is noted so_far =
    let rest = flat_map f (drop (i + 1) xs) in
    ap (λ o. earliest_fault o rest) noted
    ∙ (sym (earliest_append old (f x) rest)
    ∙ (ap (λ some. earliest_fault old (flat_map f some)) (dropped xs i x within is) ∙ so_far))

-- one type more
pub typed_step : (facts : Facts) (decl : ℕ) (some : List (Bor Typed)) (i : ℕ) (typed : Bor Typed) (old new whole : Option Fault)
    → i < length some → typed ≡ get_or some i typed → new ≡ earliest_fault old (all_type_faults facts decl typed.now.declared)
    → earliest_fault old (typed_faults facts decl (map (λ one. one.now) (drop i some))) ≡ whole
    → earliest_fault new (typed_faults facts decl (map (λ one. one.now) (drop (i + 1) some))) ≡ whole
typed_step facts decl some i typed old new whole within is noted so_far =
    let rest = typed_faults facts decl (map (λ (one : Bor Typed). one.now) (drop (i + 1) some)) in
    ap (λ o. earliest_fault o rest) noted
    ∙ (sym (earliest_append old (all_type_faults facts decl typed.now.declared) rest)
    ∙ (ap (λ left. earliest_fault old (typed_faults facts decl (map (λ (one : Bor Typed). one.now) left))) (dropped some i typed within is) ∙ so_far))

-- a predicate's types, names and number have been dealt with
pub predicate_step : (facts : Facts) (decl : ℕ) (name : Name) (some : List (Bor Typed)) (first one two three : Option Fault) (noted : Noted) (kind : Option TextKind)
    → one ≡ earliest_fault first (typed_faults facts decl (map (λ typed. typed.now) some))
    → noted ≡ words_noted [] token_part_words
    → two ≡ earliest_fault one (repeated_faults decl noted (typed_names (map (λ typed. typed.now) some)))
    → kind ≡ fault_if (nat_lt 32 (length some)) kinds.LimitParameters
    → three ≡ earliest_fault two (faults_here decl name.at kind)
    → three ≡ earliest_fault first (predicate_faults facts decl name (map (λ typed. typed.now) some))
predicate_step facts decl name some first one two three noted kind one_is noted_is two_is kind_is three_is =
    let parameters = map (λ (typed : Bor Typed). typed.now) some in
    let types = typed_faults facts decl parameters in
    let names = repeated_faults decl (words_noted [] token_part_words) (typed_names parameters) in
    let number = faults_here decl name.at (fault_if (nat_lt 32 (length parameters)) kinds.LimitParameters) in
    three_is
    ∙ (ap (λ k. earliest_fault two (faults_here decl name.at k))
    (kind_is ∙ ap (λ n. fault_if (nat_lt 32 n) kinds.LimitParameters) (sym (length-map some (λ (typed : Bor Typed). typed.now))))
    ∙ (ap (λ o. earliest_fault o number)
    (two_is ∙ (ap (λ n. earliest_fault one (repeated_faults decl n (typed_names parameters))) noted_is ∙ ap (λ o. earliest_fault o names) one_is))
    ∙ (sym (earliest_append (earliest_fault first types) names number) ∙ sym (earliest_append first types (names ++ number)))))

-- a class's parent, names, members and constructors have been dealt with
pub class_step : (facts : Facts) (decl : ℕ) (class : Name) (parent : Option Name) (members : List Member) (first one two three four : Option Fault)
    → one ≡ earliest_fault first (parent_faults facts.names decl parent)
    → two ≡ earliest_fault one (repeated_faults decl (inherited_noted facts parent) (member_names members))
    → three ≡ earliest_fault two (flat_map (member_faults facts decl) members)
    → four ≡ earliest_fault three (constructors_faults decl class false members)
    → four ≡ earliest_fault first (class_faults facts decl class parent members)
class_step facts decl class parent members first one two three four one_is two_is three_is four_is =
    let parents = parent_faults facts.names decl parent in
    let names = repeated_faults decl (inherited_noted facts parent) (member_names members) in
    let inside = flat_map (member_faults facts decl) members in
    let constructors = constructors_faults decl class false members in
    four_is
    ∙ (ap (λ o. earliest_fault o constructors)
    (three_is ∙ ap (λ o. earliest_fault o inside)
    (two_is ∙ ap (λ o. earliest_fault o names) one_is))
    ∙ (sym (earliest_append (earliest_fault (earliest_fault first parents) names) inside constructors)
    ∙ (sym (earliest_append (earliest_fault first parents) names (inside ++ constructors))
    ∙ sym (earliest_append first parents (names ++ (inside ++ constructors))))))
