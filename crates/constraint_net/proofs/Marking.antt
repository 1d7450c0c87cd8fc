-- Marks stay while the network goes on.
use Rattle.std.proofs.Common.{◌≡◌, ℕ, ◌+◌, ◌-◌, ◌≤◌, List, [], ◌∷◌, ◌++◌, length, take, drop, append_assoc, length-append, sym, ap, ◌∙◌, subst, arith}
use Rattle.std.specs.Prelude.{Bool, Option, Some, None, Result, Ok, Err}
use Rattle.std.specs.declared.alloc.AllocError.{AllocError}
use Rattle.std.proofs.Math.Seq.{take-append-add}
use Rattle.domain_core.specs.Domain.{Domain}
use Rattle.domain_core.specs.declared.Change.{Change}
use Rattle.domain_core.specs.declared.kind.Kind.{Kind}
use Rattle.narrow_core.specs.declared.field.Field.{Field}
use Rattle.constraint_net.specs.Calls.{AddsVar, Posts, Limits, GoesDown, TakesChanged}
use Rattle.constraint_net.specs.Marks.{WereConsistent, IsMark, Returns}
use Rattle.constraint_net.specs.Networks.{Network, cells_of}
use Rattle.constraint_net.specs.Waiting.{WerePosted}
use Rattle.constraint_net.specs.declared.constraint.Constraint.{Constraint}
use Rattle.constraint_net.specs.declared.constraint.NetArg.{NetArg}
use Rattle.constraint_net.specs.declared.network.Mark.{Mark}
use Rattle.constraint_net.proofs.Enrolling.{posted_tables, all_tables}

-- of two ends of one list the longer ends with the other
end_in_end : {X : Type 0} (a b c d : List X) → a ++ b ≡ c ++ d → length d ≤ length b → (front : List X) × (b ≡ front ++ d)
end_in_end [] b c d same le = (c, same)
end_in_end (x ∷ a) b [] d same le = absurd (omega (arith, ap length same, length-append (x ∷ a) b, le))
end_in_end (x ∷ a) b (y ∷ c) d same le = end_in_end a b c d (ap (drop 1) same) le

-- what was consistent is so with more tables
idle_tabled : (idle : Bool) (tables more : List Field) (constraints : List Constraint) (domains : List Domain) → WerePosted tables (length domains) constraints
    → WereConsistent idle tables constraints domains → WereConsistent idle (tables ++ more) constraints domains
unfolding WereConsistent
idle_tabled idle tables more constraints domains posted were = λ is. all_tables tables more (length domains) constraints domains posted (were is)

module _ (mark : Mark) (domains : List Domain) (constraints : List Constraint) where
  abbrev Is : Network → Type 0
  Is net = IsMark net mark domains constraints

  pub stays_added : (old new : Network) (domain : Domain) (result : Result ℕ AllocError) → Is old → AddsVar domain old result new → Is new
  stays_added old new domain (Ok number) is adds = subst Is (sym adds.1) (record {
    place = ((old.domains ++ domain ∷ []) ∷ is.place.0, is.place.1, (ap (λ list. (old.domains ++ domain ∷ []) ∷ list) is.place.2.0, is.place.2.1));
    marked = is.marked;
    first = is.first;
    count = is.count;
    are = is.are;
    posted = is.posted;
    idle = is.idle;
  })
  stays_added old new domain (Err none) is same = subst Is (sym same) is

  pub stays_posted : (old new : Network) (kind : Kind) (args : List NetArg) (result : Result (Unit {0}) AllocError) → Is old → Posts old kind args result new → Is new
  stays_posted old new kind args (Ok done) is posts =
      let one : Constraint = record { kind = kind; args = args } in
      subst Is (sym posts) (record {
        place = is.place;
        marked = is.marked;
        first = (is.first.0 ++ one ∷ [], ap (λ list. list ++ one ∷ []) is.first.1 ∙ append_assoc constraints is.first.0 (one ∷ []));
        count = is.count;
        are = is.are;
        posted = is.posted;
        idle = is.idle;
      })
  stays_posted old new kind args (Err none) is same = subst Is (sym same) is

  pub stays_down : (old new : Network) → Is old → GoesDown old new → Is new
  stays_down old new is down =
      let past = down.past in
      let tail = end_in_end past.0 past.2 is.place.0 (domains ∷ is.place.1) (sym past.3.0 ∙ is.place.2.0) (omega (arith, past.3.1.1, is.place.2.1, is.marked)) in
      record {
        place = (
          past.1 ++ tail.0,
          is.place.1,
          (
            past.3.1.0 ∙ ap (λ list. past.1 ++ list) tail.1 ∙ sym (append_assoc past.1 tail.0 (domains ∷ is.place.1)),
            is.place.2.1,
          ),
        );
        marked = omega (arith, is.marked, down.marked);
        first = (is.first.0, down.constraints ∙ is.first.1);
        count = is.count;
        are = is.are;
        posted = subst (λ tables. WerePosted tables (length domains) constraints) (sym down.tables) is.posted;
        idle = subst (λ tables. WereConsistent mark.idle tables constraints domains) (sym down.tables) is.idle;
      }

  pub stays_limited : (old new : Network) (variable : ℕ) (to : Domain) (result : Result Change AllocError) → Is old → Limits old variable to result new → Is new
  stays_limited old new variable to (Ok change) is limits = stays_down old new is limits.1
  stays_limited old new variable to (Err none) is same = subst Is (sym same) is

  pub stays_tabled : (old new : Network) (table : Field) → Is old → new ≡ record old { tables = old.tables ++ table ∷ [] } → Is new
  stays_tabled old new table is more = subst Is (sym more) (record {
    place = is.place;
    marked = is.marked;
    first = is.first;
    count = is.count;
    are = is.are;
    posted = posted_tables old.tables (table ∷ []) (length domains) constraints is.posted;
    idle = idle_tabled mark.idle old.tables (table ∷ []) constraints domains is.posted is.idle;
  })

  pub stays_taken : (old new : Network) (result : Option ℕ) → Is old → TakesChanged old result new → Is new
  stays_taken old new (Some variable) is takes = subst Is (sym takes.1.1) (record {
    place = is.place;
    marked = is.marked;
    first = is.first;
    count = is.count;
    are = is.are;
    posted = is.posted;
    idle = is.idle;
  })
  stays_taken old new None is takes = subst Is (sym takes.1) is

  pub stays_returned : (old new : Network) (later : Mark) → Is old → mark.cells ≤ later.cells → mark.constraints ≤ later.constraints → Returns later old new → Is new
  stays_returned old new later is cells count back =
      let goes = back.cells in
      let tail = end_in_end goes.newer (cells_of new).past is.place.0 (domains ∷ is.place.1) (sym goes.past ∙ is.place.2.0) (omega (arith, goes.count, is.place.2.1)) in
      let more = later.constraints - length constraints in
      let long : later.constraints ≡ length constraints + more = omega (arith, count, is.count) in
      record {
        place = (tail.0, is.place.1, (tail.1, is.place.2.1));
        marked = omega (arith, cells, back.marked);
        first = (take more is.first.0, back.constraints ∙ (λ i. take (long i) (is.first.1 i)) ∙ take-append-add constraints is.first.0 more);
        count = is.count;
        are = is.are;
        posted = subst (λ tables. WerePosted tables (length domains) constraints) (sym back.tables) is.posted;
        idle = subst (λ tables. WereConsistent mark.idle tables constraints domains) (sym back.tables) is.idle;
      }
