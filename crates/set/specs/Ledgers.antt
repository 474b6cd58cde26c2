-- The ledger: what a set stands for, kept apart from how it is kept.
use Rattle.std.specs.Prelude.{◌≡◌, ℕ, zero, suc, ◌+◌, ◌-◌, Bool, false, cond, not, ◌&&◌, List, [], ◌∷◌, ◌==◌, nat_lt}
use Rattle.plan.specs.Plans.{Plan, within}
use Rattle.plan.specs.Refusals.{Verdict, carried, refused, checked}
use Rattle.plan.specs.Registers.{with_pipe, without_pipe}
use Rattle.isolation.specs.Layers.{through}
use Rattle.image.specs.Images.{Image, image_of}
use Rattle.image.specs.Ranges.{each, some}
use Rattle.image.specs.Reading.{read_verdict}

-- n, the junctions in service below and the pipes written in are the base; then the spare, and the junctions that are shut
pub record Ledger : Type 0 where
  pub base : Plan
  pub spare : ℕ
  pub shut : ℕ → Bool

-- the ledger's plan: in service are the junctions in service below and not shut, and its pipes are those written in with both ends in service
abbrev pub seen : Ledger → Plan
seen l = through l.base (λ v. not (l.shut v))

-- a pipe written in, and the spare lowered; a pipe struck out, and the spare raised; a junction marked shut, or not
abbrev pub with_joined : Ledger → ℕ → ℕ → Ledger
with_joined l v w = record { base = with_pipe l.base v w; spare = l.spare - 1; shut = l.shut }

abbrev pub with_cut : Ledger → ℕ → ℕ → Ledger
with_cut l v w = record { base = without_pipe l.base v w; spare = l.spare + 1; shut = l.shut }

abbrev pub with_shut : Ledger → ℕ → Bool → Ledger
with_shut l v b = record { base = l.base; spare = l.spare; shut = λ u. cond (u == v) b (l.shut u) }

-- the checks of a shut and of an open
abbrev pub shut_checks : Ledger → ℕ → Verdict
shut_checks l v = checked ((not (within l.base.size v), 2) ∷ (l.shut v, 15) ∷ [])

abbrev pub open_checks : Ledger → ℕ → Verdict
open_checks l v = checked ((not (within l.base.size v), 2) ∷ (not (l.shut v), 16) ∷ [])

-- the ledger of a set over a register of plan p and spare s, with every junction open
abbrev pub opened : Plan → ℕ → Ledger
opened p s = record { base = p; spare = s; shut = λ v. false }

-- a set is new while its register has no pipe and nothing is shut
pub record New (l : Ledger) : Type 0 where
  pub pipes : (v w : ℕ) → l.base.joins v w ≡ false
  pub open_all : (v : ℕ) → l.shut v ≡ false

-- the ledger with which a new set starts: n, the junctions in service below and the spare are the register's; no pipe is written in, and no junction is shut
abbrev pub started : ℕ → (ℕ → Bool) → ℕ → Ledger
started n serves s = opened (record { size = n; serves = serves; joins = λ v w. false }) s

-- a plan without a pipe, in which every junction is in service
abbrev pub clear : Plan → Bool
clear p = each p.serves p.size && not (some (λ v. some (p.joins v) p.size) p.size)

-- the second checks where the first let the call pass
abbrev pub then : Verdict → Verdict → Verdict
then carried b = b
then (refused k vs) b = refused k vs

-- the checks of a load: those of its image; then another n; then pipes, or a junction out of service; then a spare below the number of records
abbrev pub load_checks : Ledger → List ℕ → Verdict
load_checks l bytes = then (read_verdict bytes) (checked ((not ((image_of bytes).size == l.base.size), 18) ∷ (not (clear (seen l)), 17) ∷ (nat_lt l.spare (image_of bytes).records, 14) ∷ []))

-- the pairs of the records 1 to k written in, as a join writes each in
unfoldable pub with_records : Ledger → Image → ℕ → Ledger
with_records l m zero = l
with_records l m (suc k) = with_joined (with_records l m k) (m.near (suc k)) (m.far (suc k))

-- the pairs of all the records of an image written in
abbrev pub with_loaded : Ledger → List ℕ → Ledger
with_loaded l bytes = with_records l (image_of bytes) (image_of bytes).records
