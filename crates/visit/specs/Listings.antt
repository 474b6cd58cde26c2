-- The bytes that a listing shows for the answer to a line of a sheet.
use Rattle.std.specs.Prelude.{ℕ, zero, suc, List, [], ◌∷◌, ◌++◌, take, codes, decimal, Ok, Err, Result}
use Rattle.plan.specs.Refusals.{number}
use Rattle.plan.specs.declared.number.Junction.{Junction}
use Rattle.order.specs.declared.report.Report.{Report}
use Rattle.calls.specs.declared.answer.Outcome.{Outcome}
use Rattle.plan.specs.declared.refusal.Refusal.{Refusal}
use Rattle.calls.specs.declared.answer.Outcome.TheVariants.{Done, Ordered}

-- junctions by their numbers, each after a blank
abbrev pub spaced : List Junction → List ℕ
spaced [] = []
spaced (v ∷ vs) = (32 ∷ decimal v.0) ++ spaced vs

-- a word and junctions behind it, as a line
abbrev pub junction_line : List ℕ → List Junction → List ℕ
junction_line word vs = word ++ (spaced vs ++ 10 ∷ [])

-- the number of fill pairs and of cells, as a line
abbrev pub fill_line : Report → List ℕ
fill_line r = codes "fill " ++ (decimal r.fill ++ (codes " cells " ++ (decimal r.cells ++ 10 ∷ [])))

-- the first k junctions of a ring list, or none, as a line
abbrev pub ring_line : ℕ → List Junction → List ℕ
ring_line zero ring = codes "ring none" ++ 10 ∷ []
ring_line (suc k) ring = junction_line (codes "ring") (take (suc k) ring)

-- an answer with the places and the ring that an order wrote
abbrev pub listing : Result Outcome Refusal → List Junction → List Junction → List ℕ
listing (Ok Done) places ring = codes "ok" ++ 10 ∷ []
listing (Err e) places ring = codes "no " ++ (decimal (number e) ++ 10 ∷ [])
listing (Ok (Ordered n r)) places ring = junction_line (codes "order") (take n places) ++ (fill_line r ++ ring_line r.ring ring)
