-- Images of four junctions: the ring with pipes 1 2, 2 3, 3 4 and 1 4; the same with one byte more; and with a fifth record that is in no chain.
use Rattle.std.specs.Prelude.{◌≡◌, ℕ, true, false, ◌||◌, List, [], ◌∷◌, ◌++◌, length}
use Rattle.plan.specs.Plans.{Plan, within}
use Rattle.plan.specs.Refusals.{carried, refused}
use Rattle.plan.specs.Registers.{same_pair}
use Rattle.image.specs.Chains.{pipe}
use Rattle.image.specs.Images.{bytes_of, image_of}
use Rattle.image.specs.Reading.{read_verdict}
use Rattle.image.specs.Writing.{written}

abbrev pub ring_of_four : List ℕ
ring_of_four = bytes_of (4 ∷ 4 ∷ 1 ∷ 0 ∷ 1 ∷ 3 ∷ 4 ∷ 0 ∷ 1 ∷ 2 ∷ 2 ∷ 1 ∷ 4 ∷ 0 ∷ 2 ∷ 3 ∷ 0 ∷ 3 ∷ 4 ∷ 0 ∷ [])

-- the plan with these pipes
abbrev pub ring_plan : Plan
ring_plan = record { size = 4; serves = within 4; joins = λ v w. same_pair 1 2 v w || (same_pair 2 3 v w || (same_pair 3 4 v w || same_pair 1 4 v w)) }

-- r is 5, and no head and no record leads to the fifth
abbrev pub lost_record : List ℕ
lost_record = bytes_of (4 ∷ 5 ∷ 1 ∷ 0 ∷ 1 ∷ 3 ∷ 4 ∷ 0 ∷ 1 ∷ 2 ∷ 2 ∷ 1 ∷ 4 ∷ 0 ∷ 2 ∷ 3 ∷ 0 ∷ 3 ∷ 4 ∷ 0 ∷ 2 ∷ 4 ∷ 0 ∷ [])

pub record WorkedImages : Type 0 where
  pub ring_long : length ring_of_four ≡ 40
  pub ring_heads : ((image_of ring_of_four).head 1 ≡ 1) × ((image_of ring_of_four).head 2 ≡ 3) × ((image_of ring_of_four).head 3 ≡ 4) × ((image_of ring_of_four).head 4 ≡ 0)
  pub ring_sound : read_verdict ring_of_four ≡ carried
  pub ring_joined : (pipe (image_of ring_of_four) 1 2 ≡ true) × (pipe (image_of ring_of_four) 3 2 ≡ true) × (pipe (image_of ring_of_four) 3 4 ≡ true) × (pipe (image_of ring_of_four) 4 1 ≡ true)
  pub ring_apart : (pipe (image_of ring_of_four) 1 3 ≡ false) × (pipe (image_of ring_of_four) 2 4 ≡ false)
  pub ring_written : written ring_plan ≡ ring_of_four
  pub byte_more : (b : ℕ) → read_verdict (ring_of_four ++ b ∷ []) ≡ refused 4 []
  pub lost_long : length lost_record ≡ 46
  pub lost_refused : read_verdict lost_record ≡ refused 6 (0 ∷ [])
