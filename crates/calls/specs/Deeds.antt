-- The ledger fed with calls: with their arguments, and never with their answers.
use Rattle.std.specs.Prelude.{ℕ, Bool, true, false, ◌&&◌, List, [], ◌∷◌}
use Rattle.plan.specs.Refusals.{Verdict, checked, after}
use Rattle.plan.specs.Registers.{join_verdict, cut_verdict}
use Rattle.set.specs.Ledgers.{Ledger, seen, load_checks, shut_checks, open_checks, with_loaded, with_joined, with_cut, with_shut}
use Rattle.calls.specs.declared.call.Call.{Call}
use Rattle.calls.specs.declared.call.Call.TheVariants.{Load, Join, Cut, Shut, Open, Order}

-- a call as a value: the bytes of an image, the numbers of junctions, or a kind of label and whether the memory handed over is too short
pub data Deed (K : Type 0) : Type 0 where
  loads : List ℕ → Deed K
  joins : ℕ → ℕ → Deed K
  cuts : ℕ → ℕ → Deed K
  shuts : ℕ → Deed K
  opens : ℕ → Deed K
  orders : Bool → K → Deed K

-- short says whether the memory handed over is too short for an order
abbrev pub deed : {K : Type 0} → Bool → Call K → Deed K
deed short (Load bytes) = loads bytes.now
deed short (Join v w) = joins v.0 w.0
deed short (Cut v w) = cuts v.0 w.0
deed short (Shut v) = shuts v.0
deed short (Open v) = opens v.0
deed short (Order k) = orders short k

-- the checks of a call against the ledger
abbrev pub verdict : {K : Type 0} → Ledger → Deed K → Verdict
verdict l (loads bytes) = load_checks l bytes
verdict l (joins v w) = join_verdict (seen l) l.spare v w
verdict l (cuts v w) = cut_verdict (seen l) v w
verdict l (shuts v) = shut_checks l v
verdict l (opens v) = open_checks l v
verdict l (orders short k) = checked ((short, 8) ∷ [])

-- what a call that is carried out writes into the ledger
abbrev pub written : {K : Type 0} → Ledger → Deed K → Ledger
written l (loads bytes) = with_loaded l bytes
written l (joins v w) = with_joined l v w
written l (cuts v w) = with_cut l v w
written l (shuts v) = with_shut l v true
written l (opens v) = with_shut l v false
written l (orders short k) = l

-- the ledger after a call, and after a list of calls
abbrev pub next : {K : Type 0} → Ledger → Deed K → Ledger
next l d = after (verdict l d) (written l d) l

abbrev pub fed : {K : Type 0} → Ledger → List (Deed K) → Ledger
fed l [] = l
fed l (d ∷ ds) = fed (next l d) ds

-- no order is carried out by this call, and by none of a list
abbrev pub idle : {K : Type 0} → Deed K → Bool
idle (loads bytes) = true
idle (joins v w) = true
idle (cuts v w) = true
idle (shuts v) = true
idle (opens v) = true
idle (orders short k) = short

abbrev pub all_idle : {K : Type 0} → List (Deed K) → Bool
all_idle [] = true
all_idle (d ∷ ds) = idle d && all_idle ds
