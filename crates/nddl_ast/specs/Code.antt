-- The code of plain blocks, by which proofs tell them apart.
use Rattle.std.specs.Prelude.{◌≡◌, ℕ, refl}
use Rattle.std.proofs.Common.{sym, ap, ◌∙◌, arith}
use base.Stored.{Gv, gnil, gnum, gcons, num, Coded}
use Rattle.nddl_ast.specs.contracts.name.Name as a_name
use Rattle.nddl_ast.specs.contracts.statement.Variable as a_variable
use Rattle.nddl_ast.specs.contracts.statement.Call as a_call
use Rattle.nddl_ast.specs.contracts.statement.Ask as an_ask
use Rattle.nddl_ast.specs.contracts.statement.Condition as a_condition
use Rattle.nddl_ast.specs.Tree.{Statements, Nothing, Declares, Calls, Asks, Tests, Chooses, Repeats, Braces}

abbrev first : Gv → Gv
first gnil = gnil
first (gnum n) = gnil
first (gcons a b) = a

abbrev rest : Gv → Gv
rest gnil = gnil
rest (gnum n) = gnil
rest (gcons a b) = b

abbrev code_of : Statements → Gv
code_of Nothing = gnil
code_of (Declares v more) = gcons (gnum 1) (gcons (code_of more) (a_variable.the_row.coded.code v))
code_of (Calls c more) = gcons (gnum 2) (gcons (code_of more) (a_call.the_row.coded.code c))
code_of (Asks a more) = gcons (gnum 3) (gcons (code_of more) (an_ask.the_row.coded.code a))
code_of (Tests at condition then_at then more) =
    gcons (gnum 4)
    (gcons (code_of more)
    (gcons (code_of then) (gcons (gnum at) (gcons (gnum then_at) (a_condition.the_row.coded.code condition)))))
code_of (Chooses at condition then_at then else_at else more) =
    gcons (gnum 5)
    (gcons (code_of more)
    (gcons (code_of then)
    (gcons (gnum at)
    (gcons (gnum then_at) (gcons (code_of else) (gcons (gnum else_at) (a_condition.the_row.coded.code condition)))))))
code_of (Repeats at name class body_at body more) =
    gcons (gnum 6)
    (gcons (code_of more)
    (gcons (code_of body)
    (gcons (gnum at)
    (gcons (gnum body_at) (gcons (a_name.the_row.coded.code name) (a_name.the_row.coded.code class))))))

-- the sort of the first statement
abbrev sort_of : Statements → ℕ
sort_of Nothing = 0
sort_of (Declares v more) = 1
sort_of (Calls c more) = 2
sort_of (Asks a more) = 3
sort_of (Tests at condition then_at then more) = 4
sort_of (Chooses at condition then_at then else_at else more) = 5
sort_of (Repeats at name class body_at body more) = 6

coded_sort : (one : Statements) → num (first (code_of one)) ≡ sort_of one
coded_sort Nothing = refl
coded_sort (Declares v more) = refl
coded_sort (Calls c more) = refl
coded_sort (Asks a more) = refl
coded_sort (Tests at condition then_at then more) = refl
coded_sort (Chooses at condition then_at then else_at else more) = refl
coded_sort (Repeats at name class body_at body more) = refl

same_sort : (one other : Statements) → code_of one ≡ code_of other → sort_of one ≡ sort_of other
same_sort one other p = sym (coded_sort one) ∙ (ap (λ g. num (first g)) p ∙ coded_sort other)

pub code_once : (one other : Statements) → code_of one ≡ code_of other → one ≡ other
code_once Nothing Nothing p = refl
code_once (Declares v more) (Declares w others) p = λ i.
    Declares (a_variable.the_row.coded.inj v w (ap (λ g. rest (rest g)) p) i)
    (code_once more others (ap (λ g. first (rest g)) p) i)
code_once (Calls c more) (Calls d others) p = λ i.
    Calls (a_call.the_row.coded.inj c d (ap (λ g. rest (rest g)) p) i)
    (code_once more others (ap (λ g. first (rest g)) p) i)
code_once (Asks a more) (Asks b others) p = λ i.
    Asks (an_ask.the_row.coded.inj a b (ap (λ g. rest (rest g)) p) i)
    (code_once more others (ap (λ g. first (rest g)) p) i)
code_once (Tests at condition then_at then more) (Tests at' condition' then_at' then' others) p = λ i.
    Tests (ap (λ g. num (first (rest (rest (rest g))))) p i)
    (a_condition.the_row.coded.inj condition condition' (ap (λ g. rest (rest (rest (rest (rest g))))) p) i)
    (ap (λ g. num (first (rest (rest (rest (rest g)))))) p i)
    (code_once then then' (ap (λ g. first (rest (rest g))) p) i) (code_once more others (ap (λ g. first (rest g)) p) i)
code_once (Chooses at condition then_at then else_at else more) (Chooses at' condition' then_at' then' else_at' else' others) p = λ i.
    Chooses (ap (λ g. num (first (rest (rest (rest g))))) p i)
    (a_condition.the_row.coded.inj condition condition'
    (ap (λ g. rest (rest (rest (rest (rest (rest (rest g))))))) p) i)
    (ap (λ g. num (first (rest (rest (rest (rest g)))))) p i)
    (code_once then then' (ap (λ g. first (rest (rest g))) p) i)
    (ap (λ g. num (first (rest (rest (rest (rest (rest (rest g)))))))) p i)
    (code_once else else' (ap (λ g. first (rest (rest (rest (rest (rest g)))))) p) i)
    (code_once more others (ap (λ g. first (rest g)) p) i)
code_once (Repeats at name class body_at body more) (Repeats at' name' class' body_at' body' others) p = λ i.
    Repeats (ap (λ g. num (first (rest (rest (rest g))))) p i)
    (a_name.the_row.coded.inj name name' (ap (λ g. first (rest (rest (rest (rest (rest g)))))) p) i)
    (a_name.the_row.coded.inj class class' (ap (λ g. rest (rest (rest (rest (rest (rest g)))))) p) i)
    (ap (λ g. num (first (rest (rest (rest (rest g)))))) p i)
    (code_once body body' (ap (λ g. first (rest (rest g))) p) i) (code_once more others (ap (λ g. first (rest g)) p) i)
code_once one other p = absurd (omega (arith, same_sort one other p))

abbrev pub braces_code : Coded Braces
braces_code = record {
  code = λ block. gcons (gnum block.at) (code_of block.statements);
  inj = λ one other p i. record {
    at = num (ap first p i);
    statements = code_once one.statements other.statements
        (ap rest p) i;
  };
}
