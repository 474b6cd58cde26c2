-- What holds of every line of a sheet.
use Rattle.std.specs.Prelude.{◌≡◌, ℕ, ◌≤◌, List, ◌++◌, codes, decimal, Option}
use Rattle.sheet.specs.Calls.{Spells, Spelled}
use Rattle.sheet.specs.declared.call.Call.{Call}
use Rattle.sheet.specs.declared.call.Call.TheVariants.{New, Join, Cut, Shut, Open, OrderLexicographic, OrderCounting}

-- a call as a line: its verb, and its numbers in decimal digits, each after one blank
abbrev pub line_of : Call → List ℕ
line_of (New n) = codes "N " ++ decimal n
line_of (Join v w) = codes "J " ++ (decimal v.0 ++ (codes " " ++ decimal w.0))
line_of (Cut v w) = codes "C " ++ (decimal v.0 ++ (codes " " ++ decimal w.0))
line_of (Shut v) = codes "S " ++ decimal v.0
line_of (Open v) = codes "O " ++ decimal v.0
line_of OrderLexicographic = codes "L"
line_of OrderCounting = codes "K"

-- no number of the call is above 65,535
abbrev pub Fitting : Call → Type 0
Fitting (New n) = n ≤ 65535
Fitting (Join v w) = (v.0 ≤ 65535) × (w.0 ≤ 65535)
Fitting (Cut v w) = (v.0 ≤ 65535) × (w.0 ≤ 65535)
Fitting (Shut v) = v.0 ≤ 65535
Fitting (Open v) = v.0 ≤ 65535
Fitting OrderLexicographic = Unit {0}
Fitting OrderCounting = Unit {0}

-- a line spells at most one call, so what reading it answers is one; and a call has one line
pub record SpellingLaws : Type 0 where
  pub one_call : (line : List ℕ) (c d : Call) → Spells line c → Spells line d → c ≡ d
  pub one_answer : (line : List ℕ) (r s : Option Call) → Spelled line r → Spelled line s → r ≡ s
  pub one_line : (line : List ℕ) (c : Call) → Spells line c → line ≡ line_of c
  pub has_line : (c : Call) → Fitting c → Spells (line_of c) c
