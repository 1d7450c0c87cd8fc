-- Whole texts.
use Rattle.std.proofs.Common.{◌≡◌, ℕ, ◌+◌, ◌<◌, ◌≤◌, ◌^◌, true, false, List, [], ◌∷◌, ◌++◌, length, get_or, Option, Some, None, Result, Ok, Err, refl, sym, ◌∙◌, ap, subst, inl, inr, arith, Contains, codes}
use Rattle.std.specs.Prelude.{IfOk, OnOk, IsErr, MatchResult}
use Rattle.std.proofs.lemmas.List.{map-append, length-map}
use Rattle.std.proofs.lemmas.List.Elements.{All-append, All-cons, All-nil}
use Rattle.std.proofs.lemmas.List.Quantifiers.{all_pairs_push}
use Rattle.std.proofs.lemmas.List.Elements.{Contains-get_or}
use Rattle.eu_name.specs.declared.name.VarName.{VarName}
use Rattle.model_core.specs.declared.model.Model.{Model}
use Rattle.plan_defs.specs.declared.plan.Plan.{Plan}
use Rattle.plan_defs.specs.Plans.{IsPlanOf}
use Rattle.eu_name.proofs.Ordered.{contains_cases, contains_none}
use Rattle.plan_text.specs.declared.fault.PlanTextFault.{PlanTextFault}
use Rattle.plan_text.specs.declared.fault.PlanTextFault.TheVariants as faults
use Rattle.plan_text.specs.declared.fault.Wrong.{Wrong}
use Rattle.plan_text.specs.declared.fault.Wrong.TheVariants.{Syntax, Twice, Unknown, Memory}
use Rattle.plan_text.specs.declared.statement.Statement.{Statement}
use Rattle.plan_text.specs.Found.{Got, Stopped, FindsWords}
use Rattle.plan_text.specs.Lines.{OneLine, stated_name}
use Rattle.plan_text.specs.PlanTexts.{names_stated, Opening, TextEnding, HasLines, AllLines, WholeText, Gathers, ReadsPlan, plan_fault_at}
use Rattle.plan_text.specs.Words.{place_in}
use Rattle.plan_text.proofs.Gatherings.{lines_more, contains_map}
use Rattle.plan_core.specs.declared.gathering.Named.{Named}
use Rattle.plan_core.specs.Gathering.{said_of, AreNamed, AreNamesOnce, AreKept}
use Rattle.plan_core.proofs.Lining.{IsSaidOf, line_shrinks, line_is_new, line_is_of, word_shrinks}
use Rattle.plan_core.proofs.Making.{not_ok, plan_is_of}

-- ---- statements that are kept

none_kept : (known : List VarName) (said : List Named) → known ≡ [] → said ≡ [] → AreKept known said
none_kept known said none empty = record {
  known = none ∙ ap (λ s. names_stated (said_of s)) (sym empty);
  named = subst AreNamed (sym empty) (All-nil (λ (n : Named). n.name ≡ stated_name n.statement));
  once = subst AreNamesOnce (sym empty) (λ i j d less within. absurd (omega arith));
}

pub said_more : (old new : List Named) (name : VarName) (statement : Statement) → new ≡ old ++ record { name = name; statement = statement } ∷ [] → said_of new ≡ said_of old ++ statement ∷ []
said_more old new name statement is = ap said_of is ∙ map-append (λ (n : Named). n.statement) old (record { name = name; statement = statement } ∷ [])

pub kept_more : (known newer : List VarName) (old new : List Named) (name : VarName) (statement : Statement) → AreKept known old → (Contains known (stated_name statement) → ⊥)
    → newer ≡ known ++ stated_name statement ∷ [] → name ≡ stated_name statement → new ≡ old ++ record { name = name; statement = statement } ∷ [] → AreKept newer new
kept_more known newer old new name statement kept fresh more is pushed =
    let one : Named = record { name = name; statement = statement } in
    record {
      known = more ∙ (ap (λ l. l ++ stated_name statement ∷ []) kept.known ∙ (sym (map-append stated_name (said_of old) (statement ∷ [])) ∙ ap names_stated (sym (said_more old new name statement pushed))));
      named = subst AreNamed (sym pushed) (All-append (λ (n : Named). n.name ≡ stated_name n.statement) old (one ∷ []) kept.named (All-cons (λ (n : Named). n.name ≡ stated_name n.statement) one [] is (All-nil (λ (n : Named). n.name ≡ stated_name n.statement))));
      once = subst AreNamesOnce (sym pushed) (all_pairs_push (λ (a b : Named). a.name ≡ b.name → ⊥) old one kept.once (λ k d within same. fresh (
          subst (Contains known) (sym (kept.named k d within) ∙ (same ∙ is))
          (subst (λ l. Contains l (stated_name (get_or old k d).statement)) (sym kept.known) (contains_map stated_name (said_of old) (get_or old k d).statement (contains_map (λ (n : Named). n.statement) old (get_or old k d) (Contains-get_or old k d within))))
          )));
    }

-- ---- and where there was memory for a name

pub on_any : {T E : Type 0} {P : Type 0} (r : Result T E) → P → OnOk r P
on_any (Ok value) holds = holds
on_any (Err none) holds = tt

pub said_if : {E : Type 0} (old new : List Named) (name : Result VarName E) (r : Result (Unit {0}) E) (statement : Statement)
    → MatchResult name (λ name. OnOk r (new ≡ old ++ record { name = name; statement = statement } ∷ [])) (λ none. IsErr r) → OnOk r (said_of new ≡ said_of old ++ statement ∷ [])
said_if old new name (Err none) statement pushed = tt
said_if old new (Ok name) (Ok done) statement pushed = said_more old new name statement pushed
said_if {E = E} old new (Err none) (Ok done) statement pushed = absurd (not_ok E done pushed)

pub kept_if : {E : Type 0} (known newer : List VarName) (old new : List Named) (name : Result VarName E) (r : Result (Unit {0}) E) (statement : Statement) → AreKept known old
    → (Contains known (stated_name statement) → ⊥) → OnOk name (newer ≡ known ++ stated_name statement ∷ []) → IfOk name (λ name. name ≡ stated_name statement)
    → MatchResult name (λ name. OnOk r (new ≡ old ++ record { name = name; statement = statement } ∷ [])) (λ none. IsErr r) → OnOk r (AreKept newer new)
kept_if known newer old new name (Err none) statement kept fresh more is pushed = tt
kept_if known newer old new (Ok name) (Ok done) statement kept fresh more is pushed = kept_more known newer old new name statement kept fresh more is pushed
kept_if {E = E} known newer old new (Err none) (Ok done) statement kept fresh more is pushed = absurd (not_ok E done pushed)

-- ---- lines that were read

pub record LinesRead (model : Model) (text rest : List ℕ) (known : List VarName) (said : List Named) : Type 0 where
  pub lines : HasLines model [] text (said_of said) rest
  pub kept : AreKept known said

pub no_line : (model : Model) (text : List ℕ) (known : List VarName) (said : List Named) → known ≡ [] → said ≡ [] → LinesRead model text text known said
no_line model text known said none empty = record { lines = subst (λ s. HasLines model [] text (said_of s) text) (sym empty) refl; kept = none_kept known said none empty }

pub line_at : (model : Model) (known : List VarName) (rest next : List ℕ) (line said : Option Statement) → line ≡ said → OneLine model known rest (Got line next) → OneLine model known rest (Got said next)
line_at model known rest next line said is found = subst (λ s. OneLine model known rest (Got s next)) is found

pub kept_named : {E : Type 0} (r : Result (Unit {0}) E) (known : List VarName) (said : List Named) → OnOk r (AreKept known said) → OnOk r (AreNamed said)
kept_named (Ok done) known said kept = kept.named
kept_named (Err wrong) known said kept = tt

pub kept_once : {E : Type 0} (r : Result (Unit {0}) E) (known : List VarName) (said : List Named) → OnOk r (AreKept known said) → OnOk r (AreNamesOnce said)
kept_once (Ok done) known said kept = kept.once
kept_once (Err wrong) known said kept = tt

pub line_new : (model : Model) (rest next : List ℕ) (known : List VarName) (statement : Statement) → OneLine model known rest (Got (Some statement) next) → Contains known (stated_name statement) → ⊥
line_new model rest next known statement line = line_is_new model known rest next statement line

pub line_more : (model : Model) (text rest next : List ℕ) (known newer : List VarName) (said new : List Named) (statement : Statement) → LinesRead model text rest known said → OneLine model known rest (Got (Some statement) next)
    → AreKept newer new → said_of new ≡ said_of said ++ statement ∷ [] → LinesRead model text next newer new
line_more model text rest next known newer said new statement read line kept more = record {
  lines = subst (λ s. HasLines model [] text s next) (sym more) (lines_more model [] text rest (said_of said) statement next read.lines (subst (λ names. OneLine model names rest (Got (Some statement) next)) read.kept.known line));
  kept = kept;
}

pub lines_stop : (model : Model) (text rest at : List ℕ) (known : List VarName) (said : List Named) (wrong : Wrong) → LinesRead model text rest known said → OneLine model known rest (Stopped wrong at) → AllLines model text (Stopped wrong at)
lines_stop model text rest at known said wrong read line = (said_of said, (rest, (read.lines, subst (λ names. OneLine model names rest (Stopped wrong at)) read.kept.known line)))

-- memory may run out at any line
pub lines_memory : (model : Model) (text rest at : List ℕ) (known : List VarName) (said : List Named) (wrong : Wrong) → LinesRead model text rest known said → wrong ≡ Memory → AllLines model text (Stopped wrong at)
lines_memory model text rest at known said wrong read none = (said_of said, (rest, (read.lines, inl (inl none))))

pub lines_end : (model : Model) (text rest next : List ℕ) (known : List VarName) (said : List Named) → LinesRead model text rest known said → OneLine model known rest (Got None next) → AllLines model text (Got (said_of said) next)
lines_end model text rest next known said read line = (rest, (read.lines, subst (λ names. OneLine model names rest (Got None next)) read.kept.known line))

-- ---- whole texts

pub whole_found : (model : Model) (text begun rest : List ℕ) (said : List Statement) (opened : Unit {0}) (r : Result (Unit {0}) Wrong) → Opening text (Got opened begun) → AllLines model begun (Got said rest) → FindsWords (TextEnding rest) r rest
    → MatchResult r (λ ended. (left : List ℕ) × WholeText model text (Got said left)) (λ wrong. WholeText model text (Stopped wrong rest))
whole_found model text begun rest said opened (Ok ended) opening lines ending = (rest, (opened, (begun, (opening, (said, (rest, (lines, (ended, (rest, (ending, (refl, refl)))))))))))
whole_found model text begun rest said opened (Err wrong) opening lines ending = inr (opened, (begun, (opening, inr (said, (rest, (lines, inl ending))))))

pub whole_stops : (model : Model) (text begun at : List ℕ) (opened : Unit {0}) (wrong : Wrong) → Opening text (Got opened begun) → AllLines model begun (Stopped wrong at) → WholeText model text (Stopped wrong at)
whole_stops model text begun at opened wrong opening lines = inr (opened, (begun, (opening, inl lines)))

-- ---- what comes of a text

said_all : (model : Model) (before : List Statement) (text : List ℕ) (said : List Statement) (rest : List ℕ) → HasLines model before text said rest → (statement : Statement) → Contains said statement → IsSaidOf model statement
said_all model before text [] rest is statement has = absurd (contains_none statement has)
said_all model before text (first ∷ said) rest (mid, (line, lines)) statement has = elim (contains_cases first statement said has) [
  | inl here ↦ subst (IsSaidOf model) here (line_is_of model (names_stated before) text mid first line)
  | inr later ↦ said_all model (before ++ first ∷ []) mid said rest lines statement later
]

said_few : (model : Model) (before : List Statement) (text : List ℕ) (said : List Statement) (rest : List ℕ) → HasLines model before text said rest → length said + length rest ≤ length text
said_few model before text [] rest is = omega (arith, ap length is)
said_few model before text (first ∷ said) rest (mid, (line, lines)) = omega (arith, line_shrinks model (names_stated before) text mid (Some first) line, said_few model (before ++ first ∷ []) mid said rest lines)

opening_no_longer : (text rest : List ℕ) (opened : Unit {0}) → Opening text (Got opened rest) → length rest ≤ length text
opening_no_longer text rest opened (true, (mid, (found, (tt', (count, (counted, plan)))))) = omega (arith, word_shrinks [] text found.0 mid found.1.0, word_shrinks (codes " ") mid counted.0 count counted.1.0, word_shrinks (codes "\n") count plan.0 rest plan.1.0)
opening_no_longer text rest opened (false, (mid, (plan, (same, is)))) = omega (arith, word_shrinks [] text plan.0 mid plan.1.0, ap length is)

pub text_reads : (model : Model) (text rest : List ℕ) (read : Result (Unit {0}) Wrong) (said : List Named) (r : Result Plan PlanTextFault)
    → MatchResult read (λ ended. (left : List ℕ) × WholeText model text (Got (said_of said) left)) (λ wrong. WholeText model text (Stopped wrong rest))
    → MatchResult read (λ ended. MatchResult r (λ plan. Gathers (said_of said) plan × (length plan.lines ≤ length said)) (λ fault. fault ≡ faults.Memory)) (λ wrong. r ≡ Err (plan_fault_at wrong (place_in text rest)))
    → ReadsPlan model text r
text_reads model text rest (Ok ended) said (Ok plan) (left, whole) (gathers, few) = (said_of said, (left, (whole, gathers)))
text_reads model text rest (Ok ended) said (Err fault) whole none = subst (λ f. ReadsPlan model text (Err f)) (sym none) tt
text_reads model text rest (Err Syntax) said r whole is = subst (ReadsPlan model text) (sym is) (rest, (whole, refl))
text_reads model text rest (Err Twice) said r whole is = subst (ReadsPlan model text) (sym is) (rest, (whole, refl))
text_reads model text rest (Err Unknown) said r whole is = subst (ReadsPlan model text) (sym is) (rest, (whole, refl))
text_reads model text rest (Err Memory) said r whole is = subst (ReadsPlan model text) (sym is) tt

pub text_plan : (model : Model) (text rest : List ℕ) (read : Result (Unit {0}) Wrong) (said : List Named) (r : Result Plan PlanTextFault) → length text < 2 ^ 32
    → MatchResult read (λ ended. (left : List ℕ) × WholeText model text (Got (said_of said) left)) (λ wrong. WholeText model text (Stopped wrong rest))
    → MatchResult read (λ ended. MatchResult r (λ plan. Gathers (said_of said) plan × (length plan.lines ≤ length said)) (λ fault. fault ≡ faults.Memory)) (λ wrong. r ≡ Err (plan_fault_at wrong (place_in text rest)))
    → IfOk r (IsPlanOf model)
text_plan model text rest (Ok ended) said (Err fault) small whole none = tt
text_plan model text rest (Err wrong) said r small whole is = subst (λ r. IfOk r (IsPlanOf model)) (sym is) tt
text_plan model text rest (Ok ended) said (Ok plan) small (left, (opened, (begun, (opening, (lines, (behind, ((last, (has, line)), (ended', (end, (ending, (same, is))))))))))) (gathers, few) =
    let all : (statement : Statement) → Contains (said_of said) statement → IsSaidOf model statement = λ statement in_said. said_all model [] begun lines last has statement (subst (λ l. Contains l statement) same in_said) in
    plan_is_of model (said_of said) plan all gathers
    (omega (arith, small, few, opening_no_longer text begun opened opening, said_few model [] begun lines last has, ap length same, length-map said (λ (n : Named). n.statement)))
