-- Small plans worked through to the end.
use Rattle.std.specs.Prelude.{◌≡◌, ℕ, zero, suc, ◌*◌, Bool, true, false, cond, List, [], ◌∷◌, ◌++◌, map, length}
use Rattle.plan.specs.Plans.{Plan, Sound, blank}
use Rattle.plan.specs.Refusals.{carried, refused}
use Rattle.plan.specs.Registers.{with_pipe, join_verdict}
use Rattle.search.specs.Worked.{Lexicographically, ByCounts, ring_of_four, ring_of_five}
use Rattle.elimination.specs.Elimination.{fill, cells}
use Rattle.elimination.specs.Rows.{fill_verdict}
use Rattle.image.specs.Chains.{reached}
use Rattle.image.specs.Images.{image_of}
use Rattle.image.specs.Reading.{read_verdict}
use Rattle.image.specs.Worked as image
use Rattle.image.specs.Writing.{written}

-- the pipes 1 2 and 2 3
abbrev pub path_of_three : Plan
path_of_three = with_pipe (with_pipe (blank 3) 1 2) 2 3

-- us is taken as an order handed in, with just the memory that it needs
abbrev pub HandedIn : Plan → List ℕ → Type 0
HandedIn p us = fill_verdict p.size us (8 * p.size) ≡ carried

-- the pairs v, w with v from 1 to k that pass a test, ahead of a list
abbrev pub column : (ℕ → ℕ → Bool) → ℕ → ℕ → List (ℕ × ℕ) → List (ℕ × ℕ)
column t w zero ps = ps
column t w (suc k) ps = column t w k (cond (t (suc k) w) ((suc k, w) ∷ ps) ps)

-- the pairs v, w of 1 to n with v below w that pass a test, ahead of a list
abbrev pub listed : (ℕ → ℕ → Bool) → ℕ → List (ℕ × ℕ) → List (ℕ × ℕ)
listed t zero ps = ps
listed t (suc n) ps = listed t n (column t (suc n) n ps)

-- by this rule us is the order of a plan, these are its fill pairs, each with the lower junction first, and no other, and it has so many cells
pub record Orders (rule : Plan → List ℕ → Type 0) (p : Plan) (us : List ℕ) (pairs : List (ℕ × ℕ)) (room : ℕ) : Type 0 where
  pub order : rule p us
  pub filled : listed (fill p.joins us) p.size [] ≡ pairs
  pub celled : cells p us ≡ room

pub record WorkedPlans : Type 0 where
  -- one junction
  pub one_lexicographic : Orders Lexicographically (blank 1) (1 ∷ []) [] 0
  pub one_counting : Orders ByCounts (blank 1) (1 ∷ []) [] 0
  -- the ring 1 2 3 4
  pub four_lexicographic : Orders Lexicographically ring_of_four (3 ∷ 4 ∷ 2 ∷ 1 ∷ []) ((2, 4) ∷ []) 5
  pub four_counting : Orders ByCounts ring_of_four (4 ∷ 3 ∷ 2 ∷ 1 ∷ []) ((1, 3) ∷ []) 5
  -- the ring 1 2 3 4 5: the fill pair 2 5 comes from 3 5, which is fill itself
  pub five_lexicographic : Orders Lexicographically ring_of_five (4 ∷ 3 ∷ 5 ∷ 2 ∷ 1 ∷ []) ((2, 5) ∷ (3, 5) ∷ []) 7
  -- the pipes 1 2 and 2 3: an order handed in, and a list that is none, whatever the memory
  pub path_handed_in : Orders HandedIn path_of_three (2 ∷ 1 ∷ 3 ∷ []) ((1, 3) ∷ []) 3
  pub path_refused : (words : ℕ) → fill_verdict path_of_three.size (1 ∷ 1 ∷ 3 ∷ []) words ≡ refused 9 []
  -- a join on a joined pair of any plan, without spare
  pub joined_already : (p : Plan) → Sound p → (v w : ℕ) → p.joins v w ≡ true → join_verdict p 0 v w ≡ refused 12 []
  -- the ring 1 2 3 4 as an image: its length and its heads; a byte more; and r = 5 with a fifth record that is in no chain
  pub image_written : written ring_of_four ≡ image.ring_of_four
  pub image_read : read_verdict image.ring_of_four ≡ carried
  pub image_long : length image.ring_of_four ≡ 40
  pub image_heads : map (image_of image.ring_of_four).head (1 ∷ 2 ∷ 3 ∷ 4 ∷ []) ≡ 1 ∷ 3 ∷ 4 ∷ 0 ∷ []
  pub byte_more : (b : ℕ) → read_verdict (image.ring_of_four ++ b ∷ []) ≡ refused 4 []
  pub lost_long : length image.lost_record ≡ 46
  pub lost_fifth : ((image_of image.lost_record).records ≡ 5) × (reached (image_of image.lost_record) 5 ≡ false)
  pub lost_refused : read_verdict image.lost_record ≡ refused 6 (0 ∷ [])

-- lists that a careless search would give: the junctions of the ring 1 2 3 4 by number, and by number but for the first that the search takes, are not orders by the rule
pub record NotSearched : Type 0 where
  pub by_number : (Lexicographically ring_of_four (1 ∷ 2 ∷ 3 ∷ 4 ∷ []) → ⊥) × (ByCounts ring_of_four (1 ∷ 2 ∷ 3 ∷ 4 ∷ []) → ⊥)
  pub by_number_but_one : (Lexicographically ring_of_four (2 ∷ 3 ∷ 4 ∷ 1 ∷ []) → ⊥) × (ByCounts ring_of_four (2 ∷ 3 ∷ 4 ∷ 1 ∷ []) → ⊥)
