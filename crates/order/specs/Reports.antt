-- What an order call answers, and what it leaves in the memory that it was handed.
use Rattle.std.specs.Prelude.{◌≡◌, ℕ, ◌*◌, ◌<◌, ◌≤◌, Bool, true, false, ◌||◌, ◌↔◌, List, length, take, Ok, Err, Result, nat_lt, slice_index}
use Rattle.std.specs.declared.cmp.Ordering.{Ordering}
use Rattle.plan.specs.declared.number.Junction.{Junction}
use Rattle.plan.specs.declared.refusal.Refusal.{Refusal}
use Rattle.plan.specs.Orders.{numbers, ordered}
use Rattle.plan.specs.Plans.{Plan, pairs}
use Rattle.plan.specs.Memory.{KeptFrom}
use Rattle.search.specs.Rule.{Searched}
use Rattle.elimination.specs.Elimination.{fill, cells}
use Rattle.elimination.specs.Rows.{FillRows}
use Rattle.ring.specs.Calls.{Lists}
use Rattle.ring.specs.Rings.{NoRing}
use Rattle.order.specs.declared.report.Report.{Report}

-- no pair of junctions is a fill pair of the order
abbrev pub FreeOfFill : Plan → List ℕ → Type 0
FreeOfFill p us = (v w : ℕ) → fill p.joins us v w ≡ false

-- an order has no fill exactly when some order of the plan has none, and exactly when the plan has no ring
pub record Least (p : Plan) (us : List ℕ) : Type 0 where
  pub order : FreeOfFill p us ↔ ((ws : List ℕ) × (ordered p.size ws ≡ true) × FreeOfFill p ws)
  pub ring : FreeOfFill p us ↔ NoRing p

-- what is shown beside an order with so many fill pairs: without fill the plan has no ring, the length is 0 and the ring list stays; with fill the list begins with a ring of k junctions, listed from its lowest, and stays behind it
pub record RingShown (p : Plan) (fills : ℕ) (before after : List Junction) (k : ℕ) : Type 0 where
  pub none : fills ≡ 0 → (k ≡ 0) × NoRing p × (after ≡ before)
  pub some : 0 < fills → Lists p before k after

-- memory is short: fewer than n places, n entries for the ring, 8 n words of rows, n labels or 2 n entries of scratch
abbrev pub short : {L : Type 0} → ℕ → List Junction → List Junction → List ℕ → List L → List ℕ → Bool
short n places ring rows labels scratch = nat_lt (length places) n || nat_lt (length ring) n || nat_lt (length rows) (8 * n) || nat_lt (length labels) n || nat_lt (length scratch) (2 * n)

-- an order carried out, over a plan and by a kind of label
pub record Ordered {L : Type 0} (blank : L) (raised : L → ℕ → L) (compared : L → L → Ordering) (p : Plan) (report : Report) (places : List Junction) (ring : List Junction) (rows : List ℕ) (places' : List Junction) (ring' : List Junction) (rows' : List ℕ) : Type 0 where
  -- the first n places are the order that the search finds
  pub searched : Searched blank raised compared p (take p.size (numbers places'))
  -- rows, fill count and cells are that order's
  pub fill_rows : FillRows p.joins (take p.size (numbers places')) p.size rows'
  pub count : report.fill ≡ pairs (fill p.joins (take p.size (numbers places'))) p.size
  pub cells_are : report.cells ≡ cells p (take p.size (numbers places'))
  pub free : (report.fill ≡ 0) ↔ FreeOfFill p (take p.size (numbers places'))
  pub least : Least p (take p.size (numbers places'))
  pub shown : RingShown p report.fill ring ring' report.ring
  -- entries behind those named stay
  pub places_behind : KeptFrom p.size places places'
  pub rows_behind : (k : ℕ) → 8 * p.size ≤ k → slice_index rows' k ≡ slice_index rows k

-- an order call, carried out or turned down: labels and scratch are left free up to n and 2 n entries
abbrev pub OrderCall : {L : Type 0} → L → (L → ℕ → L) → (L → L → Ordering) → Plan → Result Report Refusal → List Junction → List Junction → List ℕ → List L → List ℕ → List Junction → List Junction → List ℕ → List L → List ℕ → Type 0
OrderCall blank raised compared p (Ok report) places ring rows labels scratch places' ring' rows' labels' scratch' =
    Ordered blank raised compared p report places ring rows places' ring' rows' × KeptFrom p.size labels labels' × KeptFrom (2 * p.size) scratch scratch'
OrderCall blank raised compared p (Err e) places ring rows labels scratch places' ring' rows' labels' scratch' =
    (places' ≡ places) × (ring' ≡ ring) × (rows' ≡ rows) × (labels' ≡ labels) × (scratch' ≡ scratch)
