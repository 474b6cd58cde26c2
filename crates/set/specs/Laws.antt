-- What a load does to a ledger, in terms of the pipes of its image.
use Rattle.std.specs.Prelude.{◌≡◌, ℕ, ◌-◌, ◌||◌, List}
use Rattle.plan.specs.Plans.{Sound, pairs}
use Rattle.plan.specs.Refusals.{carried}
use Rattle.image.specs.Chains.{pipe, plan_of}
use Rattle.image.specs.Images.{image_of}
use Rattle.set.specs.Ledgers.{Ledger, seen, load_checks, with_loaded}

-- the ledger after a load has the pipes written in before and those of the image; the spare is lower by the number of records; n, service and the junctions that are shut stay
pub record WritesPipes (l : Ledger) (bytes : List ℕ) : Type 0 where
  pub pipes : (v w : ℕ) → (with_loaded l bytes).base.joins v w ≡ (l.base.joins v w || pipe (image_of bytes) v w)
  pub spare : (with_loaded l bytes).spare ≡ l.spare - (image_of bytes).records
  pub size : (with_loaded l bytes).base.size ≡ l.base.size
  pub serves : (with_loaded l bytes).base.serves ≡ l.base.serves
  pub shut : (with_loaded l bytes).shut ≡ l.shut

-- a load writes the pipes of its image in. Where every check of a load passes, the ledger's plan is then the plan of the image, and the spare is lower by its number of pipes
pub record LoadLaws : Type 0 where
  pub writes : (l : Ledger) (bytes : List ℕ) → WritesPipes l bytes
  pub loaded : (l : Ledger) (bytes : List ℕ) → Sound l.base → load_checks l bytes ≡ carried → seen (with_loaded l bytes) ≡ plan_of (image_of bytes)
  pub spent : (l : Ledger) (bytes : List ℕ) → load_checks l bytes ≡ carried → (with_loaded l bytes).spare ≡ l.spare - pairs (pipe (image_of bytes)) l.base.size
