-- Arguments, conditions and paths with which nothing is wrong mean something where a rule is unrolled.
use Rattle.std.proofs.Common.{◌≡◌, ℕ, ◌+◌, List, [], ◌∷◌, ◌++◌, ℤ, refl, sym, subst}
use Rattle.std.specs.Prelude.{Option, Some, None, Ok, Err}
use Rattle.std.specs.Option.{option_map_or}
use Rattle.nddl_ast.specs.declared.expression.Expr.{Expr}
use Rattle.nddl_ast.specs.declared.expression.Expr.TheVariants as exprs
use Rattle.nddl_ast.specs.declared.expression.Init.{Init}
use Rattle.nddl_ast.specs.declared.expression.Init.TheVariants as inits
use Rattle.nddl_ast.specs.declared.expression.Type as types
use Rattle.nddl_ast.specs.declared.declaration.FileDecls.{FileDecls}
use Rattle.nddl_ast.specs.declared.name.Name.{Name}
use Rattle.nddl_ast.specs.declared.name.Path.{Path}
use Rattle.nddl_ast.specs.declared.statement.Condition.{Condition}
use Rattle.nddl_ast.specs.declared.statement.Condition.TheVariants as conditions
use Rattle.nddl_ast.specs.Places.{expr_place}
use Rattle.nddl_symbols.specs.declared.scope.Meaning.{Meaning}
use Rattle.nddl_symbols.specs.Finding.{faults_here}
use Rattle.nddl_typeexpr.specs.declared.kind.TypeKind.{TypeKind}
use Rattle.nddl_typeexpr.specs.declared.kind.TypeKind.TheVariants as kinds
use Rattle.nddl_resolve.specs.declared.denoted.Denoted.{Denoted}
use Rattle.nddl_resolve.specs.declared.denoted.TokenSort.{TokenSort}
use Rattle.nddl_resolve.specs.Following.{Understood, asked_by, asked_rest, rest_denoted, understood_faults, unknown_at}
use Rattle.nddl_resolve.specs.Paths.{Surroundings, asked_token, expr_denoted, first_denoted, path_denoted}
use Rattle.nddl_rule_check.specs.declared.asked.Asked.{Asked}
use Rattle.nddl_rule_check.specs.declared.asked.Asked.TheVariants as asked
use Rattle.nddl_rule_check.specs.Arguments.{argument_faults, arguments_faults, asked_by_type, asked_of_both, compared_faults, condition_faults, init_faults, meant_by}
use Rattle.nddl_rule_check.specs.Values.{compared_with, unfit_fault}
use Rattle.nddl_terms.specs.declared.growth.Growth.{Growth}
use Rattle.nddl_terms.specs.declared.stands.Made.{Made}
use Rattle.nddl_terms.specs.declared.stands.Stand.{Stand}
use Rattle.nddl_terms.specs.Paths.{rest_stand}
use Rattle.nddl_terms.specs.Readings.{Readings}
use Rattle.nddl_terms.specs.Stands.{first_stand}
use Rattle.nddl_lower.specs.Arguments.{argument}
use Rattle.nddl_lower.specs.Slots.{asked_behind, asked_path}
use Rattle.nddl_terms.specs.declared.tree.ReadName.{ReadName}
use Rattle.nddl_terms.specs.Names.{name_read_at}
use Rattle.nddl_rules.specs.declared.sight.Tally.{Tally}
use Rattle.nddl_rules.specs.Reads.{condition_read, expr_read, exprs_read, front_read, init_read}
use Rattle.nddl_rules.specs.Sight.{Sight}
use Rattle.nddl_unroll.specs.Meant.{AreBothMeant, AreExprsMeant, IsConditionMeant, IsExprMeant, IsInitMeant}
use Rattle.nddl_unroll.proofs.ExactPaths.{something_led}
use Rattle.nddl_laws.specs.Scoping.{RuleGround, sources_in}
use Rattle.nddl_laws.proofs.Nothing.{none_first, none_second}
use Rattle.nddl_rule_laws.proofs.Fits.{TokenFits, asked_fits, fits_something, rest_fits}
use Rattle.nddl_rule_laws.proofs.Kept.{Once, SameMade, argument_made, keeps_same}
use Rattle.nddl_rule_laws.proofs.Placing.{within_itself}
use Rattle.nddl_rule_laws.proofs.Sights.{InNames, IsSetting, Sees, all_first, all_second, name_fits, sees_kept}

-- what is understood without a fault means something
pub understood : (decl : ℕ) (u : Understood) → understood_faults decl u ≡ [] → (meant : Denoted) × (u ≡ Ok meant)
understood decl (Ok meant) none = (meant, refl)
understood decl (Err fault) none = absurd (cc)

module _ (IsFor : Meaning → ℕ → Type 0) (IsPredFor : TokenSort → ℕ → Type 0) (IsThing : ℕ → ℤ → Type 0)
    (IsHeld : Stand → Type 0) (files : List FileDecls) (ground : RuleGround)
    (reading : Readings) (setting : IsSetting IsFor IsPredFor IsThing IsHeld files ground reading) (once_locals : Once reading.places.locals)
    (once_slots : Once reading.places.slots) where
  abbrev pub Seeing : Tally → List Made → Growth → Surroundings → Sight → Type 0
  Seeing = Sees IsFor IsPredFor IsThing IsHeld files ground reading setting

  -- what declares nothing leaves what is seen
  pub seeing_same : (tally : Tally) (turns : List Made) (old new : Growth) (around : Surroundings) (sight : Sight) → SameMade old new
      → Seeing tally turns old around sight → Seeing tally turns new around sight
  seeing_same tally turns old new around sight same sees =
      sees_kept IsFor IsPredFor IsThing IsHeld files ground reading setting once_locals once_slots tally tally turns old new around sight (within_itself tally)
      (keeps_same reading.places once_locals once_slots tally old new same) sees

  -- ---- paths

  path_meant : (tally : Tally) (turns : List Made) (growth : Growth) (around : Surroundings) (sight : Sight) (path : Path) (end : Denoted)
      → Seeing tally turns growth around sight → InNames reading.names (front_read (sources_in ground) sight path.first)
      → path_denoted ground.facts around path ≡ Ok end → IsExprMeant reading turns (exprs.Path path) growth
  path_meant tally turns growth around sight path end sees names is = by (first_denoted ground.facts around path.first.text) refl is
    where
      by : (o : Option Denoted) → first_denoted ground.facts around path.first.text ≡ o
          → option_map_or (λ begin. rest_denoted ground.facts path.first.at begin path.rest) o (unknown_at path.first.at) ≡ Ok end
          → IsExprMeant reading turns (exprs.Path path) growth
      by None first none = absurd (cc)
      by (Some begin) first rest =
          let stand = first_stand reading turns growth path.first.at in
          let fits = name_fits IsFor IsPredFor IsThing IsHeld files ground reading setting tally turns growth around sight sees path.first begin names first in
          let behind = rest_fits IsFor IsPredFor IsThing ground.facts reading setting.serves path.first.at begin stand path.rest growth end fits.0 rest in
          something_led stand (rest_stand reading stand path.rest growth).stand
          (fits_something IsFor IsPredFor IsThing end (rest_stand reading stand path.rest growth).stand behind)

  -- the token for which a path asks is of a predicate that there is
  pub token_meant : (tally : Tally) (turns : List Made) (growth : Growth) (around : Surroundings) (sight : Sight) (path : Path) (end : Denoted)
      → Seeing tally turns growth around sight → InNames reading.names (front_read (sources_in ground) sight path.first)
      → asked_token ground.facts around path ≡ Ok end
      → TokenFits IsFor IsPredFor IsThing ground.facts reading setting.serves end (asked_path reading turns path growth).wanted.pred
  token_meant tally turns growth around sight path end sees names is = by (first_denoted ground.facts around path.first.text) refl is
    where
      behind : (begin : Denoted) → first_denoted ground.facts around path.first.text ≡ Some begin → (rest : List Name) → path.rest ≡ rest
          → asked_rest ground.facts path.first.at begin rest ≡ Ok end
          → TokenFits IsFor IsPredFor IsThing ground.facts reading setting.serves end (asked_path reading turns path growth).wanted.pred
      behind begin first [] same none = absurd (cc)
      behind begin first (name ∷ more) same some =
          let stand = first_stand reading turns growth path.first.at in
          let fits = name_fits IsFor IsPredFor IsThing IsHeld files ground reading setting tally turns growth around sight sees path.first begin names first in
          subst (λ rest. TokenFits IsFor IsPredFor IsThing ground.facts reading setting.serves end (asked_behind reading stand rest growth).wanted.pred) (sym same)
          (asked_fits IsFor IsPredFor IsThing ground.facts reading setting.serves path.first.at begin stand name more growth end fits.0 some)

      by : (o : Option Denoted) → first_denoted ground.facts around path.first.text ≡ o
          → option_map_or (λ owner. asked_by ground.facts owner path) o (unknown_at path.first.at) ≡ Ok end
          → TokenFits IsFor IsPredFor IsThing ground.facts reading setting.serves end (asked_path reading turns path growth).wanted.pred
      by None first none = absurd (cc)
      by (Some begin) first some = behind begin first path.rest refl some

  -- ---- arguments

  expr_understood : (tally : Tally) (turns : List Made) (growth : Growth) (around : Surroundings) (sight : Sight) (decl : ℕ) (expr : Expr)
      → Seeing tally turns growth around sight → InNames reading.names (expr_read (sources_in ground) sight expr)
      → understood_faults decl (expr_denoted ground.facts around expr) ≡ [] → IsExprMeant reading turns expr growth
  expr_understood tally turns growth around sight decl (exprs.Path path) sees names none =
      let it = understood decl (path_denoted ground.facts around path) none in
      path_meant tally turns growth around sight path it.0 sees names it.1
  expr_understood tally turns growth around sight decl (exprs.Literal literal) sees names none = tt

  pub expr_meant : (tally : Tally) (turns : List Made) (growth : Growth) (around : Surroundings) (sight : Sight) (decl : ℕ) (asks : Asked)
      (compared : Option TypeKind) (expr : Expr) → Seeing tally turns growth around sight
      → InNames reading.names (expr_read (sources_in ground) sight expr) → argument_faults ground.facts around decl asks compared expr ≡ []
      → IsExprMeant reading turns expr growth
  expr_meant tally turns growth around sight decl asks compared expr sees names none =
      expr_understood tally turns growth around sight decl expr sees names
      (none_first (understood_faults decl (expr_denoted ground.facts around expr))
      (faults_here decl (expr_place expr) (unfit_fault asks compared expr (meant_by ground.facts around expr))) none)

  pub exprs_meant : (tally : Tally) (turns : List Made) (growth : Growth) (around : Surroundings) (sight : Sight) (decl : ℕ) (asks : ℕ → Asked) (place : ℕ)
      (compared : Option TypeKind) (some : List Expr) → Seeing tally turns growth around sight
      → InNames reading.names (exprs_read (sources_in ground) sight some) → arguments_faults ground.facts around decl asks place compared some ≡ []
      → AreExprsMeant reading turns some growth
  exprs_meant tally turns growth around sight decl asks place compared [] sees names none = tt
  exprs_meant tally turns growth around sight decl asks place compared (expr ∷ more) sees names none =
      let P : ReadName → Type 0 = λ read. name_read_at read.at reading.names ≡ Some read.meaning in
      let one = expr_read (sources_in ground) sight expr in
      let rest = exprs_read (sources_in ground) sight more in
      let first = argument_faults ground.facts around decl (asks place) compared expr in
      let next = compared_with (asks place) compared (meant_by ground.facts around expr) in
      let second = arguments_faults ground.facts around decl asks (place + 1) next more in
      let given = argument reading turns expr growth in (
        expr_meant tally turns growth around sight decl (asks place) compared expr sees (all_first P one rest names) (none_first first second none),
        exprs_meant tally turns given.growth around sight decl asks (place + 1) next more
            (seeing_same tally turns growth given.growth around sight (argument_made reading turns expr growth) sees) (all_second P one rest names)
            (none_second first second none),
      )

  -- ---- conditions and what a local begins as

  both_meant : (tally : Tally) (turns : List Made) (growth : Growth) (around : Surroundings) (sight : Sight) (decl : ℕ) (one other : Expr)
      → Seeing tally turns growth around sight
      → InNames reading.names (expr_read (sources_in ground) sight one ++ expr_read (sources_in ground) sight other)
      → compared_faults ground.facts around decl one other ≡ [] → AreBothMeant reading turns one other growth
  both_meant tally turns growth around sight decl one other sees names none =
      let P : ReadName → Type 0 = λ read. name_read_at read.at reading.names ≡ Some read.meaning in
      let left = expr_read (sources_in ground) sight one in
      let right = expr_read (sources_in ground) sight other in
      let asks = asked_of_both (meant_by ground.facts around one) (meant_by ground.facts around other) in
      let first = argument_faults ground.facts around decl asks None one in
      let next = compared_with asks None (meant_by ground.facts around one) in
      let second = argument_faults ground.facts around decl asks next other in
      let given = argument reading turns one growth in (
        expr_meant tally turns growth around sight decl asks None one sees (all_first P left right names) (none_first first second none),
        expr_meant tally turns given.growth around sight decl asks next other
            (seeing_same tally turns growth given.growth around sight (argument_made reading turns one growth) sees) (all_second P left right names)
            (none_second first second none),
      )

  pub condition_meant : (tally : Tally) (turns : List Made) (growth : Growth) (around : Surroundings) (sight : Sight) (decl : ℕ) (condition : Condition)
      → Seeing tally turns growth around sight → InNames reading.names (condition_read (sources_in ground) sight condition)
      → condition_faults ground.facts around decl condition ≡ [] → IsConditionMeant reading turns condition growth
  condition_meant tally turns growth around sight decl (conditions.Truth expr) sees names none =
      expr_meant tally turns growth around sight decl (asked.Of kinds.Bool) None expr sees names none
  condition_meant tally turns growth around sight decl (conditions.Equal one other) sees names none =
      both_meant tally turns growth around sight decl one other sees names none
  condition_meant tally turns growth around sight decl (conditions.NotEqual one other) sees names none =
      both_meant tally turns growth around sight decl one other sees names none

  pub init_meant : (tally : Tally) (turns : List Made) (growth : Growth) (around : Surroundings) (sight : Sight) (decl : ℕ) (type : types.Type) (init : Option Init)
      → Seeing tally turns growth around sight → InNames reading.names (init_read (sources_in ground) sight init)
      → init_faults ground.facts around decl type init ≡ [] → IsInitMeant reading turns init growth
  init_meant tally turns growth around sight decl type None sees names none = tt
  init_meant tally turns growth around sight decl type (Some (inits.New creation)) sees names none = tt
  init_meant tally turns growth around sight decl type (Some (inits.Expr expr)) sees names none =
      expr_meant tally turns growth around sight decl (asked_by_type ground.facts type) None expr sees names none
