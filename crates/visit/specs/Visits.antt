-- A visit: what is heard of the lines of a sheet.
use Rattle.std.specs.Prelude.{◌≡◌, ℕ, ◌*◌, Bool, true, false, not, List, [], ◌∷◌, ◌++◌, length, Some, None, Ok, Err, Option, Result, nat_lt}
use Rattle.plan.specs.declared.turned_down.TurnedDown.{TurnedDown}
use Rattle.plan.specs.Memory.{KeptFrom}
use Rattle.plan.specs.Plans.{Plan, within, blank}
use Rattle.plan.specs.Refusals.{Verdict, carried, refused, number, values, checked, after}
use Rattle.label.specs.declared.either.Either.TheVariants as kind
use Rattle.set.specs.Ledgers.{Ledger, opened}
use Rattle.sheet.specs.Calls.{Spelled}
use Rattle.sheet.specs.Lines.{lines}
use Rattle.sheet.specs.declared.call.Call.{Call}
use Rattle.sheet.specs.declared.call.Call.TheVariants.{New, Join, Cut, Shut, Open, OrderLexicographic, OrderCounting}
use Rattle.calls.specs.Deeds.{Deed, joins, cuts, shuts, opens, orders, next}
use Rattle.calls.specs.Heard.{Heard, Lists, said, Told}
use Rattle.calls.specs.Runs.{Answered, ChangeHeard, last_lists}
use Rattle.visit.specs.Kinds.{SheetKind, empty_label, raised_label, compared_labels}

-- how far a visit is: it has no set yet, or one that keeps a ledger
pub data Stage : Type 0 where
  no_set : Stage
  with_set : Ledger → Stage

abbrev pub junctions : Stage → ℕ
junctions no_set = 0
junctions (with_set l) = l.base.size

-- the call on a set that a line spells; the line that makes a set is none. short says whether memory handed over is too short for an order
abbrev pub set_call : Bool → Option Call → Option (Deed SheetKind)
set_call short None = None
set_call short (Some (New n)) = None
set_call short (Some (Join v w)) = Some (joins v.0 w.0)
set_call short (Some (Cut v w)) = Some (cuts v.0 w.0)
set_call short (Some (Shut v)) = Some (shuts v.0)
set_call short (Some (Open v)) = Some (opens v.0)
set_call short (Some OrderLexicographic) = Some (orders short (kind.First (record {})))
set_call short (Some OrderCounting) = Some (orders short (kind.Second (record {})))

-- the n of the line that makes a set
abbrev pub new_size : Option Call → Option ℕ
new_size None = None
new_size (Some (New n)) = Some n
new_size (Some (Join v w)) = None
new_size (Some (Cut v w)) = None
new_size (Some (Shut v)) = None
new_size (Some (Open v)) = None
new_size (Some OrderLexicographic) = None
new_size (Some OrderCounting) = None

-- the checks of a new set of n junctions; full says whether there is no memory for it
abbrev pub new_verdict : Bool → ℕ → Verdict
new_verdict full n = checked ((not (within 512 n), 1) ∷ (full, 8) ∷ [])

-- a register made for n junctions has no pipe, every junction in service, and the spare stated for it; turned down, the maker is as it was. spare and full say of a maker which spare its registers have, and for which n it has no memory
abbrev pub Making : {M R : Type 0} → (R → Plan) → (R → ℕ) → (M → ℕ → ℕ) → (M → ℕ → Bool) → M → ℕ → Result R (TurnedDown M) → Type 0
Making meaning left spare full maker n (Ok r) = (carried ≡ new_verdict (full maker n) n) × (meaning r ≡ blank n) × (left r ≡ spare maker n)
Making meaning left spare full maker n (Err t) = (refused (number t.refusal) (values t.refusal) ≡ new_verdict (full maker n) n) × (t.memory ≡ maker)

-- a maker, told by what may come of its calls, makes each register as it is to be made
abbrev pub Makes : {M R : Type 0} → (M → ℕ → Result R (TurnedDown M) → Type 0) → (R → Plan) → (R → ℕ) → (M → ℕ → ℕ) → (M → ℕ → Bool) → Type 0
Makes {M} {R} makes meaning left spare full = (maker : M) (n : ℕ) (r : Result R (TurnedDown M)) → makes maker n r → Making meaning left spare full maker n r

-- a line that is no call is turned down by 7
pub record NoCallHeard (before : Lists) (h : Heard) : Type 0 where
  pub answers : said h.answer ≡ refused 7 []
  pub leaves : ChangeHeard before h.answer h.lists

-- the line that makes a set of n junctions
pub record NewHeard (spare : ℕ → ℕ) (full : ℕ → Bool) (before : Lists) (n : ℕ) (h : Heard) (m : Stage) : Type 0 where
  pub answers : said h.answer ≡ new_verdict (full n) n
  pub leaves : ChangeHeard before h.answer h.lists
  pub stage : m ≡ after (new_verdict (full n) n) (with_set (opened (blank n) (spare n))) no_set

-- for each n: whether memory handed over is too short for an order of n junctions, the spare of a new register, and whether there is no memory for it
module _ (tight : ℕ → Bool) (spare : ℕ → ℕ) (full : ℕ → Bool) where
  -- before a set exists only the line that makes one is a call
  abbrev pub FirstHeard : Lists → Option ℕ → Heard → Stage → Type 0
  FirstHeard before None h m = NoCallHeard before h × (m ≡ no_set)
  FirstHeard before (Some n) h m = NewHeard spare full before n h m

  -- afterwards a call is made on the set, and it is answered as its ledger says
  abbrev pub CallHeard : Ledger → Lists → Option (Deed SheetKind) → Heard → Stage → Type 0
  CallHeard l before None h m = NoCallHeard before h × (m ≡ with_set l)
  CallHeard l before (Some d) h m = Answered empty_label raised_label compared_labels l before d h × (m ≡ with_set (next l d))

  abbrev pub AtStage : Stage → Lists → Option Call → Heard → Stage → Type 0
  AtStage no_set before c h m = FirstHeard before (new_size c) h m
  AtStage (with_set l) before c h m = CallHeard l before (set_call (tight l.base.size) c) h m

  -- what is heard of a line, and how far the visit is after it
  pub record LineHeard (s : Stage) (before : Lists) (line : List ℕ) (h : Heard) (m : Stage) : Type 0 where
    pub call : Option Call
    pub spelled : Spelled line call
    pub at_stage : AtStage s before call h m

  -- what is heard of lines, one after the other
  abbrev pub Visited : Stage → Lists → List (List ℕ) → List Heard → Stage → Type 0
  Visited s before [] [] t = t ≡ s
  Visited s before [] (h ∷ hs) t = ⊥
  Visited s before (x ∷ xs) [] t = ⊥
  Visited s before (x ∷ xs) (h ∷ hs) t = (m : Stage) × LineHeard s before x h m × Visited m h.lists xs hs t

  -- what is heard of the lines of a sheet; where it is too long, only a refusal by 8
  abbrev pub SheetHeard : Bool → Lists → List (List ℕ) → List Heard → Stage → Type 0
  SheetHeard true before xs hs t = (h : Heard) × (hs ≡ h ∷ []) × (said h.answer ≡ refused 8 []) × ChangeHeard before h.answer h.lists × (t ≡ no_set)
  SheetHeard false before xs hs t = Visited no_set before xs hs t

  -- a visit: all lines were carried out or turned down, and the listener was told the answers; or it failed, and the lines behind that answer were passed over
  abbrev pub VisitHeard : {E : Type 0} → Lists → List ℕ → Lists → (List Heard → Type 0) → (List Heard → Type 0) → Stage → Result Unit E → Type 0
  VisitHeard before sheet now log log' t (Ok u) =
      (hs : List Heard) × SheetHeard (nat_lt 16384 (length sheet)) before (lines sheet) hs t × (now ≡ last_lists before hs) × Told log log' hs
  VisitHeard before sheet now log log' t (Err e) =
      (done : List (List ℕ)) × (more : List (List ℕ)) × (hs : List Heard) × (lines sheet ≡ done ++ more) × SheetHeard (nat_lt 16384 (length sheet)) before done hs t × (now ≡ last_lists before hs) × Told log log' hs

  -- a visit, and what it leaves of the memory handed over: labels and scratch are free up to n and 2 n entries
  pub record Visit {E L : Type 0} (before : Lists) (sheet : List ℕ) (now : Lists) (log log' : List Heard → Type 0) (labels labels' : List L) (scratch scratch' : List ℕ) (r : Result Unit E) : Type 0 where
    pub stage : Stage
    pub heard_lines : VisitHeard before sheet now log log' stage r
    pub labels_behind : KeptFrom (junctions stage) labels labels'
    pub scratch_behind : KeptFrom (2 * junctions stage) scratch scratch'
