-- Making a checked image from bytes handed over, and what it means.
use Rattle.std.specs.Prelude.{◌≡◌, ℕ, ◌<◌, true, false, Some, None, Ok, Err, vec_items, Option, Result, Vec}
use Rattle.std.specs.declared.alloc.Global.{Global}
use Rattle.plan.specs.declared.number.Junction.{Junction}
use Rattle.plan.specs.declared.turned_down.TurnedDown.{TurnedDown}
use Rattle.plan.specs.Plans.{Plan}
use Rattle.plan.specs.Refusals.{carried, refused, number, values}
use Rattle.image.specs.declared.checked.CheckedImage.{CheckedImage}
use Rattle.image.specs.Chains.{plan_of}
use Rattle.image.specs.Images.{Image, image_of}
use Rattle.image.specs.Reading.{read_verdict}

-- the image that the bytes say, and the plan that it stands for
abbrev pub image_in : CheckedImage → Image
image_in c = image_of (vec_items c.bytes)

abbrev pub plan_in : CheckedImage → Plan
plan_in c = plan_of (image_in c)

-- a checked image holds the bytes handed over, which are sound; turned down, they are given back
abbrev pub Making : Vec ℕ Global → Result CheckedImage (TurnedDown (Vec ℕ Global)) → Type 0
Making memory (Ok c) = (carried ≡ read_verdict (vec_items memory)) × (c.bytes ≡ memory)
Making memory (Err t) = (refused (number t.refusal) (values t.refusal) ≡ read_verdict (vec_items memory)) × (t.memory ≡ memory)

-- the lowest neighbour of v above w and below v, or nothing where there is none
abbrev pub LowerNeighbour : Plan → ℕ → ℕ → Option Junction → Type 0
LowerNeighbour p v w None = (u : ℕ) → w < u → u < v → p.joins v u ≡ false
LowerNeighbour p v w (Some u) = (w < u.0) × (u.0 < v) × (p.joins v u.0 ≡ true) × ((x : ℕ) → w < x → x < u.0 → p.joins v x ≡ false)
