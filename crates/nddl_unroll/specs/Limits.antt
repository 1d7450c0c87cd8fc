-- Which limits the rules of a predicate pass.
use Rattle.std.specs.Prelude.{ℕ, ◌==◌, ◌&&◌, nat_lt, nat_le, Bool, List, [], ◌∷◌, ◌++◌, if◌then◌else◌}
use Rattle.nddl_ast.specs.declared.kind.TextKind.{TextKind}
use Rattle.nddl_ast.specs.declared.kind.TextKind.TheVariants as faults
use Rattle.nddl_symbols.specs.declared.place.Place.{Place}
use Rattle.nddl_symbols.specs.declared.fault.Fault.{Fault}
use Rattle.nddl_symbols.specs.Finding.{faults_here}
use Rattle.nddl_symbols.specs.Scope.{fault_if}
use Rattle.nddl_unroll.specs.declared.amounts.Amounts.{Amounts}
use Rattle.nddl_unroll.specs.declared.limits.Tally.{Tally}
use Rattle.nddl_unroll.specs.declared.limits.Weighed.{Weighed}
use Rattle.nddl_unroll.specs.Amounts.{amounts_and, no_amounts, plus}

-- no rules
abbrev pub no_rules : Tally
no_rules = record { rules = 0; amounts = no_amounts }

-- a rule more
abbrev pub with_rule : Tally → Amounts → Tally
with_rule tally amounts = record { rules = plus tally.rules 1; amounts = amounts_and tally.amounts amounts }

-- the limit isn't passed before, and is passed then
abbrev pub passes : ℕ → ℕ → ℕ → Bool
passes limit before after = nat_le before limit && nat_lt limit after

-- the limit that a rule at this place passes
abbrev pub limit_faults : Place → TextKind → ℕ → ℕ → ℕ → List Fault
limit_faults place kind limit before after = faults_here place.decl place.at (fault_if (passes limit before after) kind)

-- the limits that a rule at this place passes, where the predicate has so much without it and so much with it
abbrev pub rule_limits : Place → Tally → Tally → List Fault
rule_limits place before after =
    limit_faults place faults.LimitRules 1024 before.rules after.rules
    ++ (limit_faults place faults.LimitGuards 1024 before.amounts.guards after.amounts.guards
    ++ (limit_faults place faults.LimitSlots 128 before.amounts.slots after.amounts.slots
    ++ (limit_faults place faults.LimitLocals 128 before.amounts.locals after.amounts.locals
    ++ (limit_faults place faults.LimitItems 1024 before.amounts.items after.amounts.items
    ++ limit_faults place faults.LimitTurns 65536 before.amounts.turns after.amounts.turns))))

-- what a predicate has so far, where the rules of this one have so much
abbrev pub tally_of : ℕ → ℕ → Tally → Tally
tally_of pred other tally = if pred == other then tally else no_rules

-- All limits that are passed by rules which go by predicate, where so much of this predicate comes before them. A limit is
-- passed once, by the first rule with which there is too much.
abbrev pub limits_passed : ℕ → Tally → List Weighed → List Fault
limits_passed pred tally [] = []
limits_passed pred tally (weighed ∷ more) =
    let before = tally_of weighed.pred pred tally in
    let after = with_rule before weighed.amounts in
    rule_limits weighed.place before after ++ limits_passed weighed.pred after more
