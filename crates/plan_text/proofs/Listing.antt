-- The parameters and the lines that were written so far.
use Rattle.std.proofs.Common.{◌≡◌, ℕ, zero, suc, ◌+◌, ◌<◌, ◌≤◌, ℤ, List, [], ◌∷◌, ◌++◌, length, map, take, drop, get_or, Some, refl, sym, ◌∙◌, ap, subst, inl, inr, Contains, codes, arith, append_assoc, slice_index_or}
use Rattle.std.specs.Prelude.{AllPairs}
use Rattle.std.proofs.lemmas.List.{append-nil, take_more, length-take-le, get_or-take, get_or_default}
use Rattle.std.proofs.lemmas.List.Elements.{Contains-append_cases}
use Rattle.eu_name.specs.declared.name.VarName.{VarName}
use Rattle.eu_name.specs.declared.name.VarName.TheVariants as variables
use Rattle.eu_name.specs.NameOrder.{IsVarBefore, IsStrictTotalOrder}
use Rattle.model_core.specs.declared.model.Model.{Model}
use Rattle.model_core.specs.declared.variable.VarDecl.{VarDecl}
use Rattle.model_core.specs.Naming.{names_of}
use Rattle.plan_defs.specs.declared.plan.Line.{Line}
use Rattle.plan_defs.specs.declared.plan.Line.TheVariants as lines
use Rattle.plan_defs.specs.declared.plan.Plan.{Plan}
use Rattle.plan_defs.specs.Plans.{IsLineOf, IsLineBefore, order_name}
use Rattle.plan_text.specs.declared.statement.Statement.{Statement}
use Rattle.plan_text.specs.declared.statement.Statement.TheVariants.{Global, Of}
use Rattle.plan_text.specs.declared.statement.Keyword.TheVariants as keywords
use Rattle.eu_name.proofs.Ordered.{contains_cases}
use Rattle.plan_text.specs.Words.{IsUnbroken, IsPaused, HasNoWord}
use Rattle.plan_text.specs.Found.{Got}
use Rattle.plan_text.specs.Lines.{Parameters, LastParts, OneLine, OneKeyword, stated_name}
use Rattle.plan_text.specs.PlanTexts.{names_stated, HasLines, global_statements, IsPlanText}
use Rattle.plan_text.specs.Values.{OneValue}
use Rattle.plan_text.specs.Writing.{EndsLine, Adds, AddsLine, AddsLines}
use Rattle.plan_text.proofs.Adding.{ends_pauses}
use Rattle.plan_text.proofs.Gatherings.{map_contains, lines_more}

-- ---- parameters

-- these are written, and a reader goes on with the others
pub record PartsWritten (model : Model) (params : List VarDecl) (values : List ℤ) (count : ℕ) (old new : List ℕ) : Type 0 where
  pub piece : List ℕ
  pub is : new ≡ old ++ piece
  pub paused : (rest : List ℕ) → IsPaused rest → IsPaused (piece ++ rest)
  pub reads : (text rest : List ℕ) → IsPaused text → Parameters model (names_of params) (drop count params) text (Got (drop count values) rest)
      → Parameters model (names_of params) params (piece ++ text) (Got values rest)

pub no_parts : (model : Model) (params : List VarDecl) (values : List ℤ) (old : List ℕ) → PartsWritten model params values 0 old old
no_parts model params values old = record { piece = []; is = sym (append-nil old); paused = λ rest pauses. pauses; reads = λ text rest pauses got. got }

dropped : {X : Type 0} (xs : List X) (count : ℕ) (d : X) → count < length xs → drop count xs ≡ get_or xs count d ∷ drop (suc count) xs
dropped [] count d within = absurd (omega (arith, within))
dropped (x ∷ xs) zero d within = refl
dropped (x ∷ xs) (suc count) d within = dropped xs count d (omega (arith, within))

dropped_more : {X : Type 0} (xs : List X) (count : ℕ) (d : X) → count < length xs → drop count xs ≡ get_or xs count d ∷ drop (count + 1) xs
dropped_more xs count d within = let same : suc count ≡ count + 1 = omega arith in dropped xs count d within ∙ ap (λ (n : ℕ). get_or xs count d ∷ drop n xs) same

dropped_all : {X : Type 0} (xs : List X) (count : ℕ) → length xs ≤ count → drop count xs ≡ []
dropped_all [] zero past = refl
dropped_all [] (suc count) past = refl
dropped_all (x ∷ xs) zero past = absurd (omega (arith, past))
dropped_all (x ∷ xs) (suc count) past = dropped_all xs count (omega (arith, past))

pub one_more_part : (model : Model) (params : List VarDecl) (values : List ℤ) (count : ℕ) (variable : VarDecl) (value : ℤ) (old mid named new : List ℕ) → count < length params → count < length values
    → variable ≡ get_or params count variable → value ≡ get_or values count value → IsUnbroken variable.name → named ≡ mid ++ (codes " " ++ variable.name)
    → Adds IsPaused (OneValue model variable.kind) value named new → PartsWritten model params values count old mid → PartsWritten model params values (count + 1) old new
one_more_part model params values count variable value old mid named new in_params in_values is_variable is_value whole is adds parts = record {
  piece = parts.piece ++ ((32 ∷ variable.name) ++ adds.piece);
  is = adds.is ∙ (ap (λ l. l ++ adds.piece) (is ∙ ap (λ l. l ++ (32 ∷ variable.name)) parts.is)
      ∙ (append_assoc (old ++ parts.piece) (32 ∷ variable.name) adds.piece ∙ append_assoc old parts.piece ((32 ∷ variable.name) ++ adds.piece)));
  paused = λ rest pauses. subst IsPaused (sym (append_assoc parts.piece ((32 ∷ variable.name) ++ adds.piece) rest)) (parts.paused (((32 ∷ variable.name) ++ adds.piece) ++ rest) refl);
  reads = λ text rest pauses got.
      let here = adds.reads text pauses in
      let back : ((32 ∷ variable.name) ++ adds.piece) ++ text ≡ (32 ∷ variable.name) ++ (adds.piece ++ text) = append_assoc (32 ∷ variable.name) adds.piece text in
      let split = dropped_more params count variable in_params ∙ ap (λ v. v ∷ drop (count + 1) params) (sym is_variable) in
      let split' = dropped_more values count value in_values ∙ ap (λ v. v ∷ drop (count + 1) values) (sym is_value) in
      let first : Parameters model (names_of params) (variable ∷ drop (count + 1) params) ((32 ∷ variable.name) ++ (adds.piece ++ text)) (Got (value ∷ drop (count + 1) values) rest) = (
        value,
        (
          text,
          (
            (tt, (adds.piece ++ text, ((variable.name, (record { whole = refl; unbroken = whole; paused = adds.paused text pauses }, refl)), here))),
            (drop (count + 1) values, (rest, (got, (refl, refl)))),
          ),
        ),
      ) in
      let all : Parameters model (names_of params) (drop count params) (((32 ∷ variable.name) ++ adds.piece) ++ text) (Got (drop count values) rest) =
      subst (λ ps. Parameters model (names_of params) ps (((32 ∷ variable.name) ++ adds.piece) ++ text) (Got (drop count values) rest)) (sym split)
      (subst (λ vs. Parameters model (names_of params) (variable ∷ drop (count + 1) params) (((32 ∷ variable.name) ++ adds.piece) ++ text) (Got vs rest)) (sym split')
      (subst (λ t. Parameters model (names_of params) (variable ∷ drop (count + 1) params) t (Got (value ∷ drop (count + 1) values) rest)) (sym back) first)) in
      subst (λ t. Parameters model (names_of params) params t (Got values rest)) (sym (append_assoc parts.piece ((32 ∷ variable.name) ++ adds.piece) text))
      (parts.reads (((32 ∷ variable.name) ++ adds.piece) ++ text) rest refl all);
}

none_behind : (rest : List ℕ) → EndsLine rest → HasNoWord (codes " ") rest
none_behind rest (more, is) word left has = let both : 10 ∷ more ≡ 32 ∷ (word ++ left) = sym is ∙ has.whole in let bytes : 10 ≡ 32 = ap (λ l. get_or l 0 0) both in absurd (omega (arith, bytes))

pub all_parts : (model : Model) (params : List VarDecl) (values : List ℤ) (count : ℕ) (old new : List ℕ) → length params ≤ count → length values ≤ count → PartsWritten model params values count old new
    → Adds EndsLine (LastParts model params) values old new
all_parts model params values count old new past past' parts = record {
  piece = parts.piece;
  is = parts.is;
  paused = λ rest ends. parts.paused rest (ends_pauses rest ends);
  reads = λ rest ends.
      let none : Parameters model (names_of params) (drop count params) rest (Got (drop count values) rest) =
      subst (λ ps. Parameters model (names_of params) ps rest (Got (drop count values) rest)) (sym (dropped_all params count past)) (dropped_all values count past', refl) in
      (values, (rest, (parts.reads rest rest (ends_pauses rest ends) none, (tt, (rest, ((refl, none_behind rest ends), (refl, refl)))))));
}

-- ---- lines

pub no_lines : (model : Model) (before : List Statement) (old : List ℕ) → AddsLines model before [] old old
no_lines model before old = record { piece = []; is = sym (append-nil old); ends = λ rest ends. ends; lines = λ rest ends. refl }

pub one_more_line : (model : Model) (before said : List Statement) (next : Statement) (old mid new : List ℕ) → AddsLines model before said old mid → AddsLine model next mid new
    → (Contains (names_stated (before ++ said)) (stated_name next) → ⊥) → AddsLines model before (said ++ next ∷ []) old new
one_more_line model before said next old mid new lines line new_name =
    let adds = line (names_stated (before ++ said)) new_name in
    record {
      piece = lines.piece ++ adds.piece;
      is = adds.is ∙ (ap (λ l. l ++ adds.piece) lines.is ∙ append_assoc old lines.piece adds.piece);
      ends = λ rest ends. subst EndsLine (sym (append_assoc lines.piece adds.piece rest)) (lines.ends (adds.piece ++ rest) (begins adds rest ends));
      lines = λ rest ends. subst (λ t. HasLines model before t (said ++ next ∷ []) rest) (sym (append_assoc lines.piece adds.piece rest))
          (lines_more model before (lines.piece ++ (adds.piece ++ rest)) (adds.piece ++ rest) said next rest (lines.lines (adds.piece ++ rest) (begins adds rest ends)) (adds.reads rest ends));
    }
  where
    begins : {names : List VarName} (adds : Adds EndsLine (OneLine model names) (Some next) mid new) (rest : List ℕ) → EndsLine rest → EndsLine (adds.piece ++ rest)
    begins adds rest ends = let read = adds.reads rest ends in let first = read.1.1.0 in (first.0 ++ read.1.0, first.1.0.whole)

-- what was said of globals
globals_push : (next : ℕ) (values : List ℤ) (value : ℤ) → global_statements next (values ++ value ∷ []) ≡ global_statements next values ++ Global (next + length values) value ∷ []
globals_push next [] value = let same : next ≡ next + 0 = omega arith in ap (λ (n : ℕ). Global n value ∷ []) same
globals_push next (first ∷ values) value =
    let same : next + 1 + length values ≡ next + length (first ∷ values) = omega arith in
    ap (λ (l : List Statement). Global next first ∷ l) (globals_push (next + 1) values value ∙ ap (λ (n : ℕ). global_statements (next + 1) values ++ Global n value ∷ []) same)

pub globals_more : (values : List ℤ) (count : ℕ) (value : ℤ) → count < length values → value ≡ get_or values count value
    → global_statements 0 (take (count + 1) values) ≡ global_statements 0 (take count values) ++ Global count value ∷ []
globals_more values count value within is =
    let same : 0 + length (take count values) ≡ count = omega (arith, length-take-le count values (omega (arith, within))) in
    ap (global_statements 0) (take_more values count value within ∙ ap (λ (v : ℤ). take count values ++ v ∷ []) (sym is))
    ∙ (globals_push 0 (take count values) value ∙ ap (λ (n : ℕ). global_statements 0 (take count values) ++ Global n value ∷ []) same)

-- the numbers of these globals
globals_below : (next : ℕ) (values : List ℤ) (number : ℕ) → Contains (names_stated (global_statements next values)) (variables.Global number) → (next ≤ number) × (number < next + length values)
globals_below next [] number (k, within, is) = absurd (omega (arith, within))
globals_below next (value ∷ values) number has = elim (contains_cases (variables.Global next) (variables.Global number) (names_stated (global_statements (next + 1) values)) has) [
  | inl here ↦ let same : next ≡ number = number_of here in (omega (arith, same), omega (arith, same))
  | inr later ↦ let rest = globals_below (next + 1) values number later in (omega (arith, rest.0), omega (arith, rest.1))
]
  where
    number_of : {m n : ℕ} → variables.Global m ≡ variables.Global n → m ≡ n
    number_of same = cc

-- the next global is none of them
pub global_new : (values : List ℤ) (count : ℕ) → count ≤ length values → Contains (names_stated ([] ++ global_statements 0 (take count values))) (variables.Global count) → ⊥
global_new values count le has = let below = globals_below 0 (take count values) count has in omega (arith, below.1, length-take-le count values le)

-- a global isn't what a line is about
abbrev IsOfGlobal : VarName → Type 0
IsOfGlobal (variables.Global number) = Unit {0}
IsOfGlobal name = ⊥

of_globals : (next : ℕ) (values : List ℤ) (said : Statement) → Contains (global_statements next values) said → IsOfGlobal (stated_name said)
of_globals next [] said (k, within, is) = absurd (omega (arith, within))
of_globals next (value ∷ values) said has = elim (contains_cases (Global next value) said (global_statements (next + 1) values) has) [
  | inl here ↦ subst (λ s. IsOfGlobal (stated_name s)) here tt
  | inr later ↦ of_globals (next + 1) values said later
]

not_of_global : (model : Model) (line : Line) → IsLineOf model line → IsOfGlobal (order_name line) → ⊥
not_of_global model (lines.Token name fact values) is of = of
not_of_global model (lines.Merged name target) is of = of
not_of_global model (lines.Rejected name) is of = of
not_of_global model (lines.Local (variables.Global number) value) is of = is
not_of_global model (lines.Local (variables.Token token part) value) is of = is
not_of_global model (lines.Local (variables.Local token rule number) value) is of = of

abbrev pub as_statement : Line → Statement
as_statement line = Of line

-- nor is any of the lines before it
pub line_new : IsStrictTotalOrder IsVarBefore → (model : Model) (values : List ℤ) (all : List Line) (count : ℕ) (line : Line) → count < length all → line ≡ get_or all count line → IsLineOf model line
    → AllPairs IsLineBefore all → Contains (names_stated (global_statements 0 values ++ map as_statement (take count all))) (order_name line) → ⊥
line_new law model values all count line within is of order has =
    let found = map_contains stated_name (global_statements 0 values ++ map as_statement (take count all)) (order_name line) has in
    elim (Contains-append_cases (global_statements 0 values) (map as_statement (take count all)) found.0 found.1.0) [
      | inl globals ↦ not_of_global model line of (subst IsOfGlobal found.1.1 (of_globals 0 values found.0 globals))
      | inr among ↦ earlier among found.1.1
    ]
  where
    earlier : {said : Statement} → Contains (map as_statement (take count all)) said → stated_name said ≡ order_name line → ⊥
    earlier {said = said} among same =
        let one = map_contains as_statement (take count all) said among in
        let k = one.1.0.0 in
        let below : k < count = omega (arith, one.1.0.1, length-take-le count all (omega (arith, within))) in
        let at : slice_index_or all k line ≡ one.0 = sym (get_or-take count all k line below) ∙ (get_or_default (take count all) k line one.0 one.1.0.1 ∙ one.1.0.2) in
        let before : IsVarBefore (order_name (slice_index_or all k line)) (order_name (slice_index_or all count line)) = order k count line below within in
        let here : order_name (slice_index_or all k line) ≡ order_name line = ap order_name at ∙ (ap stated_name one.1.1 ∙ same) in
        law.irreflexive (order_name line) (subst (λ n. IsVarBefore n (order_name line)) here (subst (λ l. IsVarBefore (order_name (slice_index_or all k line)) (order_name l)) (sym is) before))

-- lines and then others
pub lines_behind : (model : Model) (before : List Statement) (text mid : List ℕ) (one other : List Statement) (rest : List ℕ) → HasLines model before text one mid → HasLines model (before ++ one) mid other rest
    → HasLines model before text (one ++ other) rest
lines_behind model before text mid [] other rest same more =
    subst (λ t. HasLines model before t other rest) same (subst (λ l. HasLines model l mid other rest) (append-nil before) more)
lines_behind model before text mid (first ∷ one) other rest (after, (line, lines)) more =
    (after, (line, lines_behind model (before ++ first ∷ []) after mid one other rest lines (subst (λ l. HasLines model l mid other rest) (sym (append_assoc before (first ∷ []) one)) more)))

-- the whole text
pub whole_written : (model : Model) (plan : Plan) (begun globals lines ended out : List ℕ) → begun ≡ codes "plan" → AddsLines model [] (global_statements 0 plan.globals) begun globals
    → AddsLines model (global_statements 0 plan.globals) (map as_statement plan.lines) globals lines → Adds IsPaused OneKeyword keywords.End lines ended → out ≡ ended ++ 10 ∷ [] → IsPlanText model plan out
whole_written model plan begun globals lines ended out begins first second ends is =
    let tail = ends.piece ++ codes "\n" in
    let text = first.piece ++ (second.piece ++ tail) in
    let read = ends.reads (codes "\n") refl in
    let stops : EndsLine tail = (read.0 ++ codes "\n", read.1.0.whole) in
    let all = lines_behind model [] text (second.piece ++ tail) (global_statements 0 plan.globals) (map as_statement plan.lines) tail (first.lines (second.piece ++ tail) (second.ends tail stops)) (second.lines tail stops) in
    let whole : out ≡ codes "plan" ++ text =
    is ∙ (ap (λ (l : List ℕ). l ++ 10 ∷ []) (ends.is ∙ ap (λ (l : List ℕ). l ++ ends.piece) (second.is ∙ ap (λ (l : List ℕ). l ++ second.piece) (first.is ∙ ap (λ (l : List ℕ). l ++ first.piece) begins)))
    ∙ regroup (codes "plan") first.piece second.piece ends.piece (codes "\n")) in
    (text, (whole, (tail, (all, (keywords.End, (codes "\n", (read, (refl, refl))))))))
  where
    regroup : (a b c d e : List ℕ) → ((((a ++ b) ++ c) ++ d) ++ e) ≡ a ++ (b ++ (c ++ (d ++ e)))
    regroup a b c d e = simp append_assoc
