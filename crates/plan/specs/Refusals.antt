-- What a caller hears of a call: carried out, or turned down by a stated number with its values.
use Rattle.std.specs.Prelude.{ℕ, Bool, cond, List, [], ◌∷◌, Ok, Err, Result}
use Rattle.plan.specs.declared.refusal.Refusal.{Refusal}
use Rattle.plan.specs.declared.refusal.Refusal.TheVariants.{Size, NoJunction, OneJunction, ImageLength, ImageHeader, ChainFault, NoCall, ShortMemory, NoOrder, OutOfService, JoinedAlready, NotJoined, NoSpare, ShutAlready, NotShut, NotNew, OtherSize, TooManyPipes}

-- the stated number of each refusal
abbrev pub number : Refusal → ℕ
number Size = 1
number NoJunction = 2
number OneJunction = 3
number ImageLength = 4
number ImageHeader = 5
number (ChainFault v) = 6
number NoCall = 7
number ShortMemory = 8
number NoOrder = 9
number OutOfService = 11
number JoinedAlready = 12
number NotJoined = 13
number NoSpare = 14
number ShutAlready = 15
number NotShut = 16
number NotNew = 17
number OtherSize = 18
number TooManyPipes = 19

-- the values that a refusal comes with: the junction of a chain fault
abbrev pub values : Refusal → List ℕ
values Size = []
values NoJunction = []
values OneJunction = []
values ImageLength = []
values ImageHeader = []
values (ChainFault v) = v.0 ∷ []
values NoCall = []
values ShortMemory = []
values NoOrder = []
values OutOfService = []
values JoinedAlready = []
values NotJoined = []
values NoSpare = []
values ShutAlready = []
values NotShut = []
values NotNew = []
values OtherSize = []
values TooManyPipes = []

pub data Verdict : Type 0 where
  carried : Verdict
  refused : ℕ → List ℕ → Verdict

-- an answer of the code as a verdict
abbrev pub heard : {A : Type 0} → Result A Refusal → Verdict
heard (Ok a) = carried
heard (Err e) = refused (number e) (values e)

-- the checks of a call in their order, each a condition and the number by which it turns the call down: the first condition that holds gives its number
abbrev pub checked : List (Bool × ℕ) → Verdict
checked [] = carried
checked (c ∷ cs) = cond c.0 (refused c.1 []) (checked cs)

-- what is there after a call: the first where it was carried out, the second where it was turned down
abbrev pub after : {A : Type 0} → Verdict → A → A → A
after carried new old = new
after (refused k vs) new old = old
