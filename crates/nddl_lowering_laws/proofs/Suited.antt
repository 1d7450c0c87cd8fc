-- What stands for an argument is what it denotes, and its term is of the kind that is asked for.
use Rattle.std.proofs.Common.{◌≡◌, ℕ, ◌+◌, Bool, true, false, not, ◌||◌, List, [], ◌∷◌, map, ℤ, pos, ◌⊎◌, inl, inr, refl, sym, ◌∙◌, ap, subst}
use Rattle.std.specs.Prelude.{⊤, Option, Some, None, Ok, is_none, if◌then◌else◌}
use Rattle.std.specs.List.{AllByRecursion, AllZip}
use Rattle.std.specs.Option.{option_map_or}
use Rattle.std.specs.Ordering.{int_eq}
use Rattle.std.proofs.lemmas.Bool.Decides.{Decides-eqb}
use Rattle.std.proofs.lemmas.Option.{none-some, same_Some}
use Rattle.domain_core.specs.Domain.{IsValue}
use Rattle.model_core.specs.declared.item.Term.{Term}
use Rattle.model_core.specs.declared.item.Term.TheVariants as terms
use Rattle.model_core.specs.declared.model.Model.{Model}
use Rattle.model_core.specs.declared.rule.Rule.{Rule}
use Rattle.model_core.specs.declared.variable.ValueKind.{ValueKind}
use Rattle.model_core.specs.declared.variable.ValueKind.TheVariants as value_kinds
use Rattle.model_core.specs.Kinds.{IsOfKind, OfRule, Scope}
use Rattle.nddl_ast.specs.declared.declaration.FileDecls.{FileDecls}
use Rattle.nddl_ast.specs.declared.expression.Constant.{Constant}
use Rattle.nddl_ast.specs.declared.expression.Constant.TheVariants as constants
use Rattle.nddl_ast.specs.declared.expression.Expr.{Expr}
use Rattle.nddl_ast.specs.declared.expression.Expr.TheVariants as exprs
use Rattle.nddl_ast.specs.declared.kind.TextKind.TheVariants as faults
use Rattle.nddl_ast.specs.declared.name.Path.{Path}
use Rattle.nddl_ast.specs.Decimals.{decimal_for, written_number}
use Rattle.nddl_ast.specs.Places.{expr_place}
use Rattle.nddl_symbols.specs.declared.scope.Meaning.{Meaning}
use Rattle.nddl_symbols.specs.Finding.{faults_here}
use Rattle.nddl_symbols.specs.Scope.{fault_if}
use Rattle.nddl_typeexpr.specs.declared.kind.TypeKind.{TypeKind}
use Rattle.nddl_typeexpr.specs.declared.kind.TypeKind.TheVariants as kinds
use Rattle.nddl_typeexpr.specs.Kinds.{are_one_kind}
use Rattle.nddl_declarations.specs.Domains.{value_kind}
use Rattle.nddl_resolve.specs.declared.denoted.Denoted.{Denoted}
use Rattle.nddl_resolve.specs.declared.denoted.Denoted.TheVariants as denoted
use Rattle.nddl_resolve.specs.declared.denoted.TokenSort.{TokenSort}
use Rattle.nddl_resolve.specs.Following.{or_faulty, rest_denoted, understood_faults, unknown_at}
use Rattle.nddl_resolve.specs.Kinds.{kind_fault, number_fault, other_kind_fault}
use Rattle.nddl_resolve.specs.Paths.{Surroundings, expr_denoted, first_denoted, path_denoted}
use Rattle.nddl_rule_check.specs.declared.asked.Asked.{Asked}
use Rattle.nddl_rule_check.specs.declared.asked.Asked.TheVariants as asked
use Rattle.nddl_rule_check.specs.Arguments.{argument_faults, arguments_faults, meant_by}
use Rattle.nddl_rule_check.specs.Values.{compared_with, is_decimal, is_factor, unfit_fault, unfit_value_fault}
use Rattle.nddl_terms.specs.declared.growth.Growth.{Growth}
use Rattle.nddl_terms.specs.declared.stands.Made.{Made}
use Rattle.nddl_terms.specs.declared.stands.Stand.{Stand}
use Rattle.nddl_terms.specs.declared.stands.Stand.TheVariants as stands
use Rattle.nddl_terms.specs.declared.tree.ReadName.{ReadName}
use Rattle.nddl_terms.specs.Names.{name_read_at}
use Rattle.nddl_terms.specs.Readings.{Readings}
use Rattle.nddl_terms.specs.Stands.{first_stand}
use Rattle.nddl_lower.specs.Arguments.{argument, constant_stand, given_arguments}
use Rattle.nddl_lower.specs.Compared.{compared_term, decimal_number, decimal_term, has_decimal, is_decimal_stand, stand_term}
use Rattle.nddl_rules.specs.declared.sight.Tally.{Tally}
use Rattle.nddl_rules.specs.Reads.{expr_read, exprs_read, front_read}
use Rattle.nddl_rules.specs.Sight.{Sight}
use Rattle.nddl_laws.specs.Fine.{IsFineConstant, IsFineExpr}
use Rattle.nddl_laws.specs.Scoping.{RuleGround, sources_in}
use Rattle.nddl_laws.proofs.Decimals.{decimal_kept}
use Rattle.nddl_laws.proofs.Nothing.{none_first, none_second}
use Rattle.nddl_laws.proofs.Values.{no_fault}
use Rattle.nddl_rule_laws.proofs.Arguments.{seeing_same, understood}
use Rattle.nddl_rule_laws.proofs.Fits.{Fits, rest_fits}
use Rattle.nddl_rule_laws.proofs.Kept.{argument_made}
use Rattle.nddl_rule_laws.proofs.Rising.{AreOnce}
use Rattle.nddl_rule_laws.proofs.Sights.{InNames, IsSetting, Sees, Suits, all_first, all_second, name_fits}
use Rattle.nddl_lowering_laws.specs.Fitting.{HasThings}
use Rattle.nddl_lowering_laws.proofs.Growing.{exprs_kept}
use Rattle.nddl_lowering_laws.proofs.Held.{Grows, IsHeld, IsThingIn, LeadsTo, leads_back, reads_grow, rest_held}

-- ---- kinds

-- the kind is that of decimals
abbrev pub is_float : TypeKind → Bool
is_float kinds.Float = true
is_float kind = false

pub same_kinds : (one other : TypeKind) → are_one_kind one other ≡ true → value_kind one ≡ value_kind other
same_kinds kinds.Int kinds.Int is = refl
same_kinds kinds.Float kinds.Float is = refl
same_kinds kinds.Bool kinds.Bool is = refl
same_kinds (kinds.Enum one) (kinds.Enum other) is = ap value_kinds.Enum ((Decides-eqb one other).0 is)
same_kinds (kinds.Object one) (kinds.Object other) is = refl
same_kinds one other is = absurd (let never : false ≡ true = is in cc)

no_other_kind : (wanted kind : TypeKind) → other_kind_fault wanted kind ≡ None → are_one_kind wanted kind ≡ true
no_other_kind wanted kind none = by (are_one_kind wanted kind) none
  where
    by : (b : Bool) → fault_if (not b) faults.WrongType ≡ None → b ≡ true
    by true one = refl
    by false one = absurd (none-some faults.WrongType (sym one))

not_both : (wanted kind : TypeKind) (constant : Bool) → is_float wanted ≡ false → are_one_kind wanted kind ≡ true
    → is_decimal (denoted.Value kind constant) ≡ false
not_both kinds.Float kind constant plain is = absurd (let never : true ≡ false = plain in cc)
not_both kinds.Int kinds.Float constant plain is = absurd (let never : false ≡ true = is in cc)
not_both kinds.Bool kinds.Float constant plain is = absurd (let never : false ≡ true = is in cc)
not_both (kinds.Enum of) kinds.Float constant plain is = absurd (let never : false ≡ true = is in cc)
not_both (kinds.Object of) kinds.Float constant plain is = absurd (let never : false ≡ true = is in cc)
not_both wanted kind constant plain is = refl

-- where no decimal is wanted
plain_fault : (wanted : TypeKind) (expr : Expr) (kind : TypeKind) → is_float wanted ≡ false → kind_fault wanted expr
    kind ≡ other_kind_fault wanted kind
plain_fault kinds.Float expr kind plain = absurd (let never : true ≡ false = plain in cc)
plain_fault wanted expr kind plain = refl

-- no decimal fits there
plain_decimal : (wanted : TypeKind) (expr : Expr) (meant : Denoted) → is_float wanted ≡ false → unfit_value_fault (Some wanted)
    expr meant ≡ None → is_decimal meant ≡ false
plain_decimal wanted expr (denoted.Value kind constant) plain none =
    not_both wanted kind constant plain (no_other_kind wanted kind (sym (plain_fault wanted expr kind plain) ∙ none))
plain_decimal wanted expr (denoted.Token token) plain none = refl
plain_decimal wanted expr (denoted.Class of) plain none = refl
plain_decimal wanted expr denoted.Faulty plain none = refl

has_decimal_number : (number : ℤ) → number_fault number ≡ None → (decimal : ℤ) × (decimal_for number ≡ Some decimal)
has_decimal_number number none = by (decimal_for number) refl none
  where
    by : (o : Option ℤ) → decimal_for number ≡ o → fault_if (is_none o) faults.NotInDomain ≡ None → (decimal : ℤ)
        × (decimal_for number ≡ Some decimal)
    by None is one = absurd (none-some faults.NotInDomain (sym one))
    by (Some decimal) is one = (decimal, is)

-- a decimal is as it is where one is wanted
float_term : (term : Term) (class : ℕ) → decimal_term (stands.Value term value_kinds.Float class) ≡ term
float_term (terms.Lit value) class = refl
float_term (terms.Here part) class = refl
float_term (terms.Slot number part) class = refl
float_term (terms.Local number) class = refl
float_term (terms.Global number) class = refl
float_term (terms.Root number part) class = refl

-- a factor is written out, and isn't 0
pub record IsFactorOf (expr : Expr) : Type 0 where
  pub number : ℤ
  pub written : written_number expr ≡ Some number
  pub some : number ≡ pos 0 → ⊥

pub factor_written : (expr : Expr) → is_factor expr ≡ true → IsFactorOf expr
factor_written (exprs.Path path) is = absurd (let never : false ≡ true = is in cc)
factor_written (exprs.Literal literal) is = by literal.at literal.constant is
  where
    by : (at : ℕ) (constant : Constant) → is_factor (exprs.Literal (record { constant = constant; at = at })) ≡ true
        → IsFactorOf (exprs.Literal (record { constant = constant; at = at }))
    by at (constants.Number number) some = record {
      number = number;
      written = refl;
      some =
          λ zero. absurd (let never : not (int_eq (pos 0) (pos 0)) ≡ true = subst (λ n. not (int_eq n (pos 0)) ≡ true) zero
          some in cc);
    }
    by at (constants.Decimal thousandths) some = absurd (let never : false ≡ true = some in cc)
    by at (constants.Truth truth) some = absurd (let never : false ≡ true = some in cc)

module _ (IsFor : Meaning → ℕ → Type 0) (IsPredFor : TokenSort → ℕ → Type 0) (files : List FileDecls) (ground : RuleGround)
    (reading : Readings) (model : Model) (things : HasThings model reading.lexicon reading.objects) (rule : Rule)
    (setting : IsSetting IsFor IsPredFor (IsThingIn reading.lexicon) (IsHeld model reading.pred rule) files ground reading)
    (once : AreOnce reading.places) where
  abbrev pub Thing : ℕ → ℤ → Type 0
  Thing = IsThingIn reading.lexicon

  abbrev pub Held : Stand → Type 0
  Held = IsHeld model reading.pred rule

  abbrev pub Here : Scope
  Here = OfRule reading.pred rule

  abbrev pub Seeing : Tally → List Made → Growth → Surroundings → Sight → Type 0
  Seeing = Sees IsFor IsPredFor Thing Held files ground reading setting

  abbrev pub Fitting : Denoted → Stand → Type 0
  Fitting = Fits IsFor IsPredFor Thing

  -- what stands for the argument is what it denotes, and of its kind; a number is the one that is written
  pub record Suited (around : Surroundings) (expr : Expr) (stand : Stand) : Type 0 where
    pub meant : Denoted
    pub is : meant_by ground.facts around expr ≡ meant
    pub fits : Fitting meant stand
    pub held : Held stand
    pub written : (number : ℤ) → written_number expr ≡ Some number → (stand ≡ stands.Value (terms.Lit number) value_kinds.Int 0)
        × IsValue number

  -- ---- paths and literals

  path_suits : (tally : Tally) (turns : List Made) (growth : Growth) (around : Surroundings) (sight : Sight) (path : Path)
      (end : Denoted) → Seeing tally turns growth around sight → InNames reading.names (front_read (sources_in ground) sight
      path.first) → path_denoted ground.facts around path ≡ Ok end → LeadsTo rule (argument reading turns (exprs.Path path)
      growth).growth → Suits IsFor IsPredFor Thing Held end (argument reading turns (exprs.Path path) growth).stand
  path_suits tally turns growth around sight path end sees names is leads =
      by (first_denoted ground.facts around path.first.text) refl is
    where
      by : (o : Option Denoted) → first_denoted ground.facts around path.first.text ≡ o
          → option_map_or (λ begin. rest_denoted ground.facts path.first.at begin path.rest) o (unknown_at path.first.at) ≡ Ok end
          → Suits IsFor IsPredFor Thing Held end (argument reading turns (exprs.Path path) growth).stand
      by None first none = absurd (cc)
      by (Some begin) first rest =
          let stand = first_stand reading turns growth path.first.at in
          let suits = name_fits IsFor IsPredFor Thing Held files ground reading setting tally turns growth around sight sees
          path.first begin names first in (
            rest_fits IsFor IsPredFor Thing ground.facts reading setting.serves path.first.at begin stand path.rest growth end
                suits.0 rest,
            rest_held model reading things rule IsFor IsPredFor ground.facts setting.serves path.first.at begin stand path.rest
                growth end suits.0 suits.1 rest leads,
          )

  truth_kept : (truth : Bool) → ((if truth then pos 1 else pos 0) ≡ pos 0) ⊎ ((if truth then pos 1 else pos 0) ≡ pos 1)
  truth_kept true = inr refl
  truth_kept false = inl refl

  constant_suited : (around : Surroundings) (at : ℕ) (constant : Constant) → IsFineConstant constant
      → Suited around (exprs.Literal (record { constant = constant; at = at })) (constant_stand constant)
  constant_suited around at (constants.Number number) fine = record {
    meant = denoted.Value kinds.Int true;
    is = refl;
    fits = (refl, tt, tt);
    held = fine;
    written = λ other told.
        let same : number ≡ other = same_Some number other told in
        (ap (λ (n : ℤ). stands.Value (terms.Lit n) value_kinds.Int 0) same, subst IsValue same fine);
  }
  constant_suited around at (constants.Decimal thousandths) fine = record {
    meant = denoted.Value kinds.Float true;
    is = refl;
    fits = (refl, tt, tt);
    held = fine;
    written = λ other told. absurd (none-some other told);
  }
  constant_suited around at (constants.Truth truth) fine = record {
    meant = denoted.Value kinds.Bool true;
    is = refl;
    fits = (refl, tt, tt);
    held = truth_kept truth;
    written = λ other told. absurd (none-some other told);
  }

  pub expr_suited : (tally : Tally) (turns : List Made) (growth : Growth) (around : Surroundings) (sight : Sight) (decl : ℕ)
      (expr : Expr) → Seeing tally turns growth around sight → InNames reading.names (expr_read (sources_in ground) sight expr)
      → IsFineExpr expr → understood_faults decl (expr_denoted ground.facts around expr) ≡ []
      → LeadsTo rule (argument reading turns expr growth).growth → Suited around expr (argument reading turns expr growth).stand
  expr_suited tally turns growth around sight decl (exprs.Path path) sees names fine none leads =
      let it = understood decl (path_denoted ground.facts around path) none in
      let suits = path_suits tally turns growth around sight path it.0 sees names it.1 leads in
      record {
        meant = it.0;
        is = ap or_faulty it.1;
        fits = suits.0;
        held = suits.1;
        written = λ number told. absurd
            (none-some number told);
      }
  expr_suited tally turns growth around sight decl (exprs.Literal literal) sees names fine none leads =
      constant_suited around literal.at literal.constant fine

  -- ---- arguments one after another

  abbrev pub AllSuited : Surroundings → List Expr → List Stand → Type 0
  AllSuited around some given = AllZip (Suited around) some given

  abbrev pub AllUnderstood : Surroundings → ℕ → List Expr → Type 0
  AllUnderstood around decl some =
      AllByRecursion (λ (expr : Expr). understood_faults decl (expr_denoted ground.facts around expr) ≡ []) some

  pub exprs_suited : (tally : Tally) (turns : List Made) (growth : Growth) (around : Surroundings) (sight : Sight) (decl : ℕ)
      (some : List Expr) → Seeing tally turns growth around sight → InNames reading.names (exprs_read (sources_in ground) sight
      some) → AllByRecursion IsFineExpr some → AllUnderstood around decl some
      → LeadsTo rule (given_arguments reading turns some growth).growth → AllSuited around some
      (given_arguments reading turns some growth).stands
  exprs_suited tally turns growth around sight decl [] sees names fine none leads = tt
  exprs_suited tally turns growth around sight decl (expr ∷ more) sees names fine none leads =
      let P : ReadName → Type 0 = λ read. name_read_at read.at reading.names ≡ Some read.meaning in
      let one = expr_read (sources_in ground) sight expr in
      let rest = exprs_read (sources_in ground) sight more in
      let given = argument reading turns expr growth in
      let others = given_arguments reading turns more given.growth in
      let begins = leads_back rule given.growth others.growth (exprs_kept reading Grows (reads_grow reading.lexicon) turns more
      given.growth) leads in
      let further = seeing_same IsFor IsPredFor Thing Held files ground reading setting once.locals once.slots tally turns growth
      given.growth around sight (argument_made reading turns expr growth) sees in (
        expr_suited tally turns growth around sight decl expr sees (all_first P one rest names) fine.0 none.0 begins,
        exprs_suited tally turns given.growth around sight decl more further (all_second P one rest names) fine.1 none.1 leads,
      )

  -- nothing is wrong with arguments of which this is asked
  abbrev pub AreAnswered : Surroundings → (ℕ → Asked) → ℕ → Option TypeKind → List Expr → Type 0
  AreAnswered around asks place compared [] = ⊤
  AreAnswered around asks place compared (expr ∷ more) =
      (unfit_fault (asks place) compared expr (meant_by ground.facts around expr) ≡ None)
      × AreAnswered around asks (place + 1) (compared_with (asks place) compared (meant_by ground.facts around expr)) more

  pub one_answered : (around : Surroundings) (decl : ℕ) (asks : Asked) (compared : Option TypeKind) (expr : Expr)
      → argument_faults ground.facts around decl asks compared expr ≡ []
      → (understood_faults decl (expr_denoted ground.facts around expr) ≡ [])
      × (unfit_fault asks compared expr (meant_by ground.facts around expr) ≡ None)
  one_answered around decl asks compared expr none =
      let first = understood_faults decl (expr_denoted ground.facts around expr) in
      let fault = unfit_fault asks compared expr (meant_by ground.facts around expr) in
      let second = faults_here decl (expr_place expr) fault in
      (none_first first second none, no_fault decl (expr_place expr) fault (none_second first second none))

  pub all_answered : (around : Surroundings) (decl : ℕ) (asks : ℕ → Asked) (place : ℕ) (compared : Option TypeKind)
      (some : List Expr) → arguments_faults ground.facts around decl asks place compared some ≡ [] → AllUnderstood around decl
      some × AreAnswered around asks place compared some
  all_answered around decl asks place compared [] none = (tt, tt)
  all_answered around decl asks place compared (expr ∷ more) none =
      let next = compared_with (asks place) compared (meant_by ground.facts around expr) in
      let first = argument_faults ground.facts around decl (asks place) compared expr in
      let second = arguments_faults ground.facts around decl asks (place + 1) next more in
      let one = one_answered around decl (asks place) compared expr (none_first first second none) in
      let rest = all_answered around decl asks (place + 1) next more (none_second first second none) in
      ((one.0, rest.0), (one.1, rest.1))

  -- ---- the kind of a term

  faulty_none : (stand : Stand) → Fitting denoted.Faulty stand → ⊥
  faulty_none (stands.Value term own class) fits = fits
  faulty_none (stands.Slot number pred) fits = fits
  faulty_none (stands.Root number pred) fits = fits
  faulty_none (stands.Class class) fits = fits
  faulty_none stands.Nothing fits = fits

  -- what is denoted of a kind stands so
  pub kind_held : (kind : TypeKind) (constant : Bool) (stand : Stand) → Fitting (denoted.Value kind constant) stand → Held stand
      → IsOfKind model Here (value_kind kind) (stand_term stand)
  kind_held kind constant (stands.Value term own class) fits held =
      subst (λ (k : ValueKind). IsOfKind model Here k term) fits.0 held
  kind_held kind constant (stands.Slot number pred) fits held = absurd fits
  kind_held kind constant (stands.Root number pred) fits held = absurd fits
  kind_held kind constant (stands.Class class) fits held = absurd fits
  kind_held kind constant stands.Nothing fits held = absurd fits

  decimal_held : (kind : TypeKind) (constant : Bool) (stand : Stand) → value_kind kind ≡ value_kinds.Float
      → Fitting (denoted.Value kind constant) stand → Held stand → IsOfKind model Here value_kinds.Float (decimal_term stand)
  decimal_held kind constant (stands.Value term own class) same fits held =
      let P : ValueKind → Type 0 = λ k. IsOfKind model Here k term → IsOfKind model Here value_kinds.Float
      (decimal_term (stands.Value term k class)) in
      subst P (sym (fits.0 ∙ same)) (λ as_float. subst (IsOfKind model Here value_kinds.Float) (sym (float_term term class))
      as_float) held
  decimal_held kind constant (stands.Slot number pred) same fits held = absurd fits
  decimal_held kind constant (stands.Root number pred) same fits held = absurd fits
  decimal_held kind constant (stands.Class class) same fits held = absurd fits
  decimal_held kind constant stands.Nothing same fits held = absurd fits

  -- a value denotes a decimal if and only if a decimal stands for it
  pub decimal_same : (meant : Denoted) (stand : Stand) → Fitting meant stand → is_decimal meant ≡ is_decimal_stand stand
  decimal_same (denoted.Value kind constant) (stands.Value term own class) fits = by kind own fits.0
    where
      by : (kind : TypeKind) (own : ValueKind) → own ≡ value_kind kind
          → is_decimal (denoted.Value kind constant) ≡ is_decimal_stand (stands.Value term own class)
      by kind own same =
          subst (λ (k : ValueKind). is_decimal (denoted.Value kind constant) ≡ is_decimal_stand (stands.Value term k class))
          (sym same) (each kind)
        where
          each : (kind : TypeKind) → is_decimal (denoted.Value kind constant) ≡ is_decimal_stand
              (stands.Value term (value_kind kind) class)
          each kinds.Int = refl
          each kinds.Float = refl
          each kinds.Bool = refl
          each (kinds.Enum number) = refl
          each (kinds.Object of) = refl
  decimal_same (denoted.Value kind constant) (stands.Slot number pred) fits = absurd fits
  decimal_same (denoted.Value kind constant) (stands.Root number pred) fits = absurd fits
  decimal_same (denoted.Value kind constant) (stands.Class class) fits = absurd fits
  decimal_same (denoted.Value kind constant) stands.Nothing fits = absurd fits
  decimal_same (denoted.Token token) (stands.Value term own class) fits = absurd fits
  decimal_same (denoted.Token token) (stands.Slot number pred) fits = refl
  decimal_same (denoted.Token token) (stands.Root number pred) fits = refl
  decimal_same (denoted.Token token) (stands.Class class) fits = absurd fits
  decimal_same (denoted.Token token) stands.Nothing fits = absurd fits
  decimal_same (denoted.Class of) (stands.Value term own class) fits = absurd fits
  decimal_same (denoted.Class of) (stands.Slot number pred) fits = absurd fits
  decimal_same (denoted.Class of) (stands.Root number pred) fits = absurd fits
  decimal_same (denoted.Class of) (stands.Class class) fits = refl
  decimal_same (denoted.Class of) stands.Nothing fits = absurd fits
  decimal_same denoted.Faulty stand fits = absurd (faulty_none stand fits)

  -- ---- what is asked for

  -- the term where no decimal is wanted
  plain_kind : (wanted : TypeKind) (expr : Expr) (meant : Denoted) (stand : Stand) → is_float wanted ≡ false → unfit_value_fault
      (Some wanted) expr meant ≡ None → Fitting meant stand → Held stand → IsOfKind model Here (value_kind wanted)
      (stand_term stand)
  plain_kind wanted expr (denoted.Value kind constant) stand plain none fits held =
      let same = no_other_kind wanted kind (sym (plain_fault wanted expr kind plain) ∙ none) in
      subst (λ (k : ValueKind). IsOfKind model Here k (stand_term stand)) (sym (same_kinds wanted kind same))
      (kind_held kind constant stand fits held)
  plain_kind wanted expr (denoted.Token token) stand plain none fits held = absurd (none-some faults.WrongType (sym none))
  plain_kind wanted expr (denoted.Class of) stand plain none fits held = absurd (none-some faults.WrongType (sym none))
  plain_kind wanted expr denoted.Faulty stand plain none fits held = absurd (faulty_none stand fits)

  -- and where one is
  decimal_kind : (expr : Expr) (meant : Denoted) (stand : Stand) → unfit_value_fault (Some kinds.Float) expr meant ≡ None
      → Fitting meant stand → Held stand
      → ((number : ℤ) → written_number expr ≡ Some number → (stand ≡ stands.Value (terms.Lit number) value_kinds.Int 0)
      × IsValue number) → IsOfKind model Here value_kinds.Float (decimal_term stand)
  decimal_kind expr (denoted.Value kind constant) stand none fits held written = by (written_number expr) refl none
    where
      by : (o : Option ℤ) → written_number expr ≡ o → option_map_or number_fault o (other_kind_fault kinds.Float kind) ≡ None
          → IsOfKind model Here value_kinds.Float (decimal_term stand)
      by None told one =
          decimal_held kind constant stand (sym (same_kinds kinds.Float kind (no_other_kind kinds.Float kind one))) fits held
      by (Some number) told one =
          let it = written number told in
          let decimal = has_decimal_number number one in
          let number_is : decimal_number number ≡ decimal.0 = ap (λ (o : Option ℤ). option_map_or (λ (d : ℤ). d) o number)
          decimal.1 in
          subst (λ (s : Stand). IsOfKind model Here value_kinds.Float (decimal_term s)) (sym it.0)
          (subst IsValue (sym number_is) (decimal_kept number decimal.0 it.1 decimal.1))
  decimal_kind expr (denoted.Token token) stand none fits held written = absurd (none-some faults.WrongType (sym none))
  decimal_kind expr (denoted.Class of) stand none fits held written = absurd (none-some faults.WrongType (sym none))
  decimal_kind expr denoted.Faulty stand none fits held written = absurd (faulty_none stand fits)

  -- the term of an argument that is of the kind that is asked for
  pub wanted_kind : (wanted : TypeKind) (around : Surroundings) (expr : Expr) (stand : Stand) (suited : Suited around expr stand)
      → unfit_value_fault (Some wanted) expr (meant_by ground.facts around expr) ≡ None
      → IsOfKind model Here (value_kind wanted) (compared_term (is_float wanted) stand)
  wanted_kind kinds.Float around expr stand suited none =
      decimal_kind expr suited.meant stand (sym (ap (unfit_value_fault (Some kinds.Float) expr) suited.is) ∙ none) suited.fits
      suited.held suited.written
  wanted_kind wanted around expr stand suited none =
      plain_kind wanted expr suited.meant stand refl (sym (ap (unfit_value_fault (Some wanted) expr) suited.is) ∙ none)
      suited.fits suited.held

  -- no decimal stands where another kind is asked for
  pub wanted_decimal : (wanted : TypeKind) (around : Surroundings) (expr : Expr) (stand : Stand)
      (suited : Suited around expr stand) → unfit_value_fault (Some wanted) expr (meant_by ground.facts around expr) ≡ None
      → is_float wanted ≡ false → is_decimal_stand stand ≡ false
  wanted_decimal wanted around expr stand suited none plain =
      sym (decimal_same suited.meant stand suited.fits)
      ∙ plain_decimal wanted expr suited.meant plain (sym (ap (unfit_value_fault (Some wanted) expr) suited.is) ∙ none)

  -- this is asked of each from a place on
  abbrev pub AreAsked : (ℕ → Asked) → Asked → ℕ → List Expr → Type 0
  AreAsked asks one place [] = ⊤
  AreAsked asks one place (expr ∷ more) = (asks place ≡ one) × AreAsked asks one (place + 1) more

  pub all_asked : (asks : ℕ → Asked) (one : Asked) → ((place : ℕ) → asks place ≡ one) → (place : ℕ) (some : List Expr)
      → AreAsked asks one place some
  all_asked asks one each place [] = tt
  all_asked asks one each place (expr ∷ more) = (each place, all_asked asks one each (place + 1) more)

  -- all are of a kind that is asked for
  pub all_of_kind : (wanted : TypeKind) (around : Surroundings) (asks : ℕ → Asked) (place : ℕ) (compared : Option TypeKind)
      (some : List Expr) (given : List Stand) → AreAsked asks (asked.Of wanted) place some → AreAnswered around asks place
      compared some → AllSuited around some given → AllByRecursion (IsOfKind model Here (value_kind wanted))
      (map (compared_term (is_float wanted)) given)
  all_of_kind wanted around asks place compared [] [] are answered suited = tt
  all_of_kind wanted around asks place compared [] (stand ∷ given) are answered suited = absurd suited
  all_of_kind wanted around asks place compared (expr ∷ more) [] are answered suited = absurd suited
  all_of_kind wanted around asks place compared (expr ∷ more) (stand ∷ given) are answered suited = (
    wanted_kind wanted around expr stand suited.0
        (sym (ap (λ (a : Asked). unfit_fault a compared expr (meant_by ground.facts around expr)) are.0) ∙ answered.0),
    all_of_kind wanted around asks (place + 1) (compared_with (asks place) compared (meant_by ground.facts around expr)) more
        given are.1 answered.1 suited.1,
  )

  first_false : (one other : Bool) → (one || other) ≡ false → (one ≡ false) × (other ≡ false)
  first_false false other none = (refl, none)
  first_false true other none = absurd (let never : true ≡ false = none in cc)

  -- where none is a decimal they are of one kind: that of those before them
  same_as_before : (around : Surroundings) (asks : ℕ → Asked) (place : ℕ) (compared : Option TypeKind) (some : List Expr)
      (given : List Stand) (kind : TypeKind) → compared ≡ Some kind → is_float kind ≡ false → AreAsked asks asked.Compared place
      some → AreAnswered around asks place compared some → AllSuited around some given → AllByRecursion
      (IsOfKind model Here (value_kind kind)) (map (compared_term false) given)
  same_as_before around asks place compared [] [] kind before plain are answered suited = tt
  same_as_before around asks place compared [] (stand ∷ given) kind before plain are answered suited = absurd suited
  same_as_before around asks place compared (expr ∷ more) [] kind before plain are answered suited = absurd suited
  same_as_before around asks place compared (expr ∷ more) (stand ∷ given) kind before plain are answered suited =
      let meant = meant_by ground.facts around expr in
      let told : unfit_value_fault (Some kind) expr suited.0.meant ≡ None =
      sym (λ i. unfit_fault (are.0 i) (before i) expr (suited.0.is i)) ∙ answered.0 in
      let next : compared_with (asks place) compared meant ≡ Some kind = λ i. compared_with (are.0 i) (before i) meant in (
        plain_kind kind expr suited.0.meant stand plain told suited.0.fits suited.0.held,
        same_as_before around asks (place + 1) (compared_with (asks place) compared meant) more given kind next plain are.1
            answered.1 suited.1,
      )

  -- or that of the first
  pub all_same : (around : Surroundings) (asks : ℕ → Asked) (place : ℕ) (compared : Option TypeKind) (some : List Expr)
      (given : List Stand) → compared ≡ None → AreAsked asks asked.Compared place some → AreAnswered around asks place compared
      some → AllSuited around some given → has_decimal given ≡ false → (kind : ValueKind) × AllByRecursion
      (IsOfKind model Here kind) (map (compared_term false) given)
  all_same around asks place compared [] [] none are answered suited plain = (value_kinds.Int, tt)
  all_same around asks place compared [] (stand ∷ given) none are answered suited plain = absurd suited
  all_same around asks place compared (expr ∷ more) [] none are answered suited plain = absurd suited
  all_same around asks place compared (expr ∷ more) (stand ∷ given) none are answered suited plain =
      by suited.0.meant suited.0.is suited.0.fits (sym (λ i. unfit_fault (are.0 i) (none i) expr (suited.0.is i)) ∙ answered.0)
    where
      by : (found : Denoted) → meant_by ground.facts around expr ≡ found → Fitting found stand → unfit_value_fault None expr
          found ≡ None → (kind : ValueKind) × AllByRecursion (IsOfKind model Here kind)
          (map (compared_term false) (stand ∷ given))
      by (denoted.Value kind constant) is fits told =
          let both = first_false (is_decimal_stand stand) (has_decimal given) plain in
          let own : is_decimal (denoted.Value kind constant) ≡ false = decimal_same (denoted.Value kind constant) stand fits
          ∙ both.0 in
          let next : compared_with (asks place) compared (meant_by ground.facts around expr) ≡ Some kind =
          λ i. compared_with (are.0 i) (none i) (is i) in (
            value_kind kind,
            (
              kind_held kind constant stand fits suited.0.held,
              same_as_before around asks (place + 1) (compared_with (asks place) compared (meant_by ground.facts around expr))
                  more given kind next (not_float kind constant own) are.1 answered.1 suited.1,
            ),
          )
        where
          not_float : (kind : TypeKind) (constant : Bool) → is_decimal (denoted.Value kind constant) ≡ false
              → is_float kind ≡ false
          not_float kinds.Float constant never = absurd (let e : true ≡ false = never in cc)
          not_float kind constant is = refl
      by (denoted.Token token) is fits told = absurd (none-some faults.WrongType (sym told))
      by (denoted.Class of) is fits told = absurd (none-some faults.WrongType (sym told))
      by denoted.Faulty is fits told = absurd (faulty_none stand fits)
