-- What holds of every run, told by its calls and their answers alone.
use Rattle.std.specs.Prelude.{◌≡◌, ℕ, ◌+◌, Bool, true, false, cond, ◌↔◌, List, [], ◌∷◌, ◌++◌, take, Some, None, Option, ◌==◌, Ok, Err, Result}
use Rattle.std.specs.declared.cmp.Ordering.{Ordering}
use Rattle.plan.specs.Orders.{numbers}
use Rattle.plan.specs.Refusals.{after}
use Rattle.plan.specs.Registers.{same_pair}
use Rattle.image.specs.Chains.{pipe}
use Rattle.image.specs.Images.{image_of}
use Rattle.set.specs.Ledgers.{Ledger}
use Rattle.calls.specs.Deeds.{Deed, loads, joins, cuts, shuts, opens, orders, fed}
use Rattle.calls.specs.Heard.{Heard, Lists, said}
use Rattle.calls.specs.Runs.{Answered, Run, last_lists}
use Rattle.calls.specs.declared.answer.Outcome.{Outcome}
use Rattle.plan.specs.declared.refusal.Refusal.{Refusal}
use Rattle.calls.specs.declared.answer.Outcome.TheVariants.{Done, Ordered}

-- what a call says of the pair v, w: that it has a pipe from now on, that it has none, or nothing
abbrev pub tells_pipe : {K : Type 0} → ℕ → ℕ → Deed K → Option Bool
tells_pipe v w (loads bytes) = cond (pipe (image_of bytes) v w) (Some true) None
tells_pipe v w (joins a b) = cond (same_pair a b v w) (Some true) None
tells_pipe v w (cuts a b) = cond (same_pair a b v w) (Some false) None
tells_pipe v w (shuts a) = None
tells_pipe v w (opens a) = None
tells_pipe v w (orders short k) = None

-- what a call says of junction v: that it is shut from now on, that it is not, or nothing
abbrev pub tells_shut : {K : Type 0} → ℕ → Deed K → Option Bool
tells_shut v (loads bytes) = None
tells_shut v (joins a b) = None
tells_shut v (cuts a b) = None
tells_shut v (shuts a) = cond (v == a) (Some true) None
tells_shut v (opens a) = cond (v == a) (Some false) None
tells_shut v (orders short k) = None

abbrev pub or_else : {A : Type 0} → Option A → A → A
or_else (Some a) b = a
or_else None b = b

abbrev pub later : {A : Type 0} → Option A → Option A → Option A
later (Some a) t = Some a
later None t = t

-- what the last call that was carried out and says something says
abbrev pub last_told : {K A : Type 0} → (Deed K → Option A) → List (Deed K) → List Heard → Option A
last_told tells [] hs = None
last_told tells (d ∷ ds) [] = None
last_told tells (d ∷ ds) (h ∷ hs) = later (last_told tells ds hs) (after (said h.answer) (tells d) None)

-- how many pipes a call lays, and how many it lifts
abbrev pub lays : {K : Type 0} → Deed K → ℕ
lays (loads bytes) = (image_of bytes).records
lays (joins a b) = 1
lays (cuts a b) = 0
lays (shuts a) = 0
lays (opens a) = 0
lays (orders short k) = 0

abbrev pub lifts : {K : Type 0} → Deed K → ℕ
lifts (loads bytes) = 0
lifts (joins a b) = 0
lifts (cuts a b) = 1
lifts (shuts a) = 0
lifts (opens a) = 0
lifts (orders short k) = 0

-- so many in all, by the calls that were carried out
abbrev pub total : {K : Type 0} → (Deed K → ℕ) → List (Deed K) → List Heard → ℕ
total amount [] hs = 0
total amount (d ∷ ds) [] = 0
total amount (d ∷ ds) (h ∷ hs) = after (said h.answer) (amount d) 0 + total amount ds hs

-- two orders are the same but for the ring: n, fill, cells, the first n places, and whether a ring is shown. (The rows hold the fill pairs of those places)
abbrev pub SameOrder : Result Outcome Refusal → Lists → Result Outcome Refusal → Lists → Type 0
SameOrder (Ok (Ordered n r)) now (Ok (Ordered n' r')) now' = (n ≡ n') × (r.fill ≡ r'.fill) × (r.cells ≡ r'.cells) × (take n (numbers now.places) ≡ take n (numbers now'.places)) × ((r.ring ≡ 0) ↔ (r'.ring ≡ 0))
SameOrder (Ok (Ordered n r)) now (Ok Done) now' = ⊥
SameOrder (Ok (Ordered n r)) now (Err e) now' = ⊥
SameOrder (Ok Done) now (Ok (Ordered n r)) now' = ⊥
SameOrder (Ok Done) now (Ok Done) now' = Unit {0}
SameOrder (Ok Done) now (Err e) now' = ⊥
SameOrder (Err e) now (Ok (Ordered n r)) now' = ⊥
SameOrder (Err e) now (Ok Done) now' = ⊥
SameOrder (Err e) now (Err e') now' = Unit {0}

pub record RunLaws {K L : Type 0} (blank : K → L) (raised : K → L → ℕ → L) (compared : K → L → L → Ordering) : Type 0 where
  -- v and w are joined exactly when the last call carried out on that pair was a join, or a load with that pipe; where there was none, as they were before
  pub pipes : (l : Ledger) (before : Lists) (ds : List (Deed K)) (hs : List Heard) → Run blank raised compared l before ds hs → (v w : ℕ) → (fed l ds).base.joins v w ≡ or_else (last_told (tells_pipe v w) ds hs) (l.base.joins v w)
  -- v is shut exactly when the last call carried out that shut or opened it shut it
  pub shut_junctions : (l : Ledger) (before : Lists) (ds : List (Deed K)) (hs : List Heard) → Run blank raised compared l before ds hs → (v : ℕ) → (fed l ds).shut v ≡ or_else (last_told (tells_shut v) ds hs) (l.shut v)
  -- the spare falls by the pipes laid and rises by the pipes lifted
  pub spare_moves : (l : Ledger) (before : Lists) (ds : List (Deed K)) (hs : List Heard) → Run blank raised compared l before ds hs → (fed l ds).spare + total lays ds hs ≡ l.spare + total lifts ds hs
  -- n and the service below never change
  pub below : (l : Ledger) (ds : List (Deed K)) → ((fed l ds).base.size ≡ l.base.size) × ((fed l ds).base.serves ≡ l.base.serves)
  -- of an answer nothing is left free but which ring is shown
  pub alike : (l : Ledger) (before before' : Lists) (d : Deed K) (h h' : Heard) → Answered blank raised compared l before d h → Answered blank raised compared l before' d h' → (said h.answer ≡ said h'.answer) × SameOrder h.answer h.lists h'.answer h'.lists
  -- a run after a run is one run over both lists of calls
  pub both : (l : Ledger) (before : Lists) (ds es : List (Deed K)) (hs gs : List Heard) → Run blank raised compared l before ds hs → Run blank raised compared (fed l ds) (last_lists before hs) es gs → Run blank raised compared l before (ds ++ es) (hs ++ gs)
