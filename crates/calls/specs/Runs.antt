-- What is heard of a list of calls on a set that keeps a ledger.
use Rattle.std.specs.Prelude.{◌≡◌, ℕ, ◌+◌, ◌<◌, List, [], ◌∷◌, length, take, Ok, Err, Result}
use Rattle.std.specs.declared.cmp.Ordering.{Ordering}
use Rattle.order.specs.Reports as report
use Rattle.set.specs.Ledgers.{Ledger, seen}
use Rattle.calls.specs.Deeds.{Deed, loads, joins, cuts, shuts, opens, orders, verdict, next, fed}
use Rattle.calls.specs.Heard.{Heard, Lists, said, Told}
use Rattle.calls.specs.declared.answer.Outcome.{Outcome}
use Rattle.plan.specs.declared.refusal.Refusal.{Refusal}
use Rattle.calls.specs.declared.answer.Outcome.TheVariants.{Done, Ordered}

-- the answer lists after the last answer
abbrev pub last_lists : Lists → List Heard → Lists
last_lists before [] = before
last_lists before (h ∷ hs) = last_lists h.lists hs

-- a change writes no answer list
abbrev pub ChangeHeard : Lists → Result Outcome Refusal → Lists → Type 0
ChangeHeard before (Ok Done) now = now ≡ before
ChangeHeard before (Err e) now = now ≡ before
ChangeHeard before (Ok (Ordered n report)) now = ⊥

-- over the labels of each kind: the empty one, the raised one, and the comparison
module _ {K L : Type 0} (blank : K → L) (raised : K → L → ℕ → L) (compared : K → L → L → Ordering) where
  -- an order is that of the ledger's plan; turned down, it writes no answer list
  abbrev pub OrderHeard : Ledger → Lists → K → Result Outcome Refusal → Lists → Type 0
  OrderHeard l before k (Ok Done) now = ⊥
  OrderHeard l before k (Err e) now = now ≡ before
  OrderHeard l before k (Ok (Ordered n r)) now = (n ≡ l.base.size) × report.Ordered (blank k) (raised k) (compared k) (seen l) r before.places before.ring before.rows now.places now.ring now.rows

  abbrev pub Left : Ledger → Lists → Deed K → Result Outcome Refusal → Lists → Type 0
  Left l before (loads bytes) a now = ChangeHeard before a now
  Left l before (joins v w) a now = ChangeHeard before a now
  Left l before (cuts v w) a now = ChangeHeard before a now
  Left l before (shuts v) a now = ChangeHeard before a now
  Left l before (opens v) a now = ChangeHeard before a now
  Left l before (orders short k) a now = OrderHeard l before k a now

  -- what is heard of one call: the ledger's verdict, and the answer lists
  pub record Answered (l : Ledger) (before : Lists) (d : Deed K) (h : Heard) : Type 0 where
    pub answers : said h.answer ≡ verdict l d
    pub leaves : Left l before d h.answer h.lists

  -- each call of a list is answered by the ledger that was fed with the calls before it
  abbrev pub Run : Ledger → Lists → List (Deed K) → List Heard → Type 0
  Run l before [] [] = Unit {0}
  Run l before [] (h ∷ hs) = ⊥
  Run l before (d ∷ ds) [] = ⊥
  Run l before (d ∷ ds) (h ∷ hs) = Answered l before d h × Run (next l d) h.lists ds hs

  -- calls carried out or turned down one after the other: what was heard, and what the set and the answer lists are afterwards
  pub record Ran (l : Ledger) (before : Lists) (ds : List (Deed K)) (l' : Ledger) (now : Lists) (hs : List Heard) : Type 0 where
    pub run : Run l before ds hs
    pub ledger : l' ≡ fed l ds
    pub lists : now ≡ last_lists before hs

  -- a list of calls: all of them ran; or the listener failed at the answer of the call of index k, and the calls behind that one were not made. It was told the answers of those that ran
  abbrev pub RanOrFailed : {E : Type 0} → Ledger → Lists → List (Deed K) → Ledger → Lists → (List Heard → Type 0) → (List Heard → Type 0) → Result Unit E → Type 0
  RanOrFailed l before ds l' now log log' (Ok u) = (hs : List Heard) × Ran l before ds l' now hs × Told log log' hs
  RanOrFailed l before ds l' now log log' (Err e) = (k : ℕ) × (k < length ds) × (hs : List Heard) × Ran l before (take (k + 1) ds) l' now hs × Told log log' hs
