-- The text of the generated problem.
use Rattle.std.specs.Prelude.{ℕ, zero, suc, ◌+◌, ◌-◌, ◌*◌, ◌%◌, List, [], ◌++◌, codes}
use Rattle.std.specs.Fmt.{decimal}

-- one tool, one line of jobs of two ticks that each use it, and a horizon in which so many jobs have just room
abbrev pub frame_text : ℕ → List ℕ
frame_text count =
    codes "class Tool extends Reusable { Tool(int c) { super(c); } }\nclass Line extends Timeline { predicate Job { int [0 9] kind; } }\n"
    ++ (codes "Line::Job { eq(duration, 2); equals(Tool.uses u); eq(u.quantity, 1); }\nPlannerConfig p = new PlannerConfig(0, "
    ++ (decimal (2 * count) ++ codes ", 100000);\nTool t = new Tool(1);\nLine l = new Line();\nclose();\n"))

-- the goal of this number among so many, with the time at which it starts and its kind: the first one starts last
abbrev pub goal_text : ℕ → ℕ → List ℕ
goal_text count number =
    codes "goal(l.Job g" ++ (decimal number ++ (codes ");\neq(g" ++ (decimal number ++ (codes ".start, "
    ++ (decimal (2 * (count - 1 - number)) ++ (codes ");\neq(g" ++ (decimal number ++ (codes ".kind, "
    ++ (decimal (number % 10) ++ codes ");\n")))))))))

-- those of the numbers below this one
abbrev pub goals_before : ℕ → ℕ → List ℕ
goals_before count zero = []
goals_before count (suc number) = goals_before count number ++ goal_text count number

abbrev pub generated_text : ℕ → List ℕ
generated_text count = frame_text count ++ goals_before count count
