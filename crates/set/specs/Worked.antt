-- The ring of four, with pipes 1 2, 2 3, 3 4 and 1 4, loaded into ledgers over registers of n junctions, all in service, with no pipe.
use Rattle.std.specs.Prelude.{◌≡◌, ℕ, true, false, [], ◌∷◌, ◌++◌}
use Rattle.plan.specs.Plans.{blank}
use Rattle.plan.specs.Refusals.{carried, refused}
use Rattle.image.specs.Worked.{ring_of_four, lost_record}
use Rattle.set.specs.Ledgers.{Ledger, opened, seen, with_shut, load_checks, with_loaded}

-- a new ledger of n junctions and spare s
abbrev pub fresh : ℕ → ℕ → Ledger
fresh n s = opened (blank n) s

pub record WorkedLoads : Type 0 where
  -- carried out on a new ledger, with a spare of 4 at the least
  pub carries : load_checks (fresh 4 6) ring_of_four ≡ carried
  pub enough : load_checks (fresh 4 4) ring_of_four ≡ carried
  pub joined : ((seen (with_loaded (fresh 4 6) ring_of_four)).joins 1 2 ≡ true) × ((seen (with_loaded (fresh 4 6) ring_of_four)).joins 3 2 ≡ true) × ((seen (with_loaded (fresh 4 6) ring_of_four)).joins 3 4 ≡ true) × ((seen (with_loaded (fresh 4 6) ring_of_four)).joins 4 1 ≡ true)
  pub apart : ((seen (with_loaded (fresh 4 6) ring_of_four)).joins 1 3 ≡ false) × ((seen (with_loaded (fresh 4 6) ring_of_four)).joins 2 4 ≡ false)
  pub spare : (with_loaded (fresh 4 6) ring_of_four).spare ≡ 2
  -- turned down, each by the first check that fails
  pub few : load_checks (fresh 4 3) ring_of_four ≡ refused 14 []
  pub twice : load_checks (with_loaded (fresh 4 6) ring_of_four) ring_of_four ≡ refused 17 []
  pub shut : load_checks (with_shut (fresh 4 3) 2 true) ring_of_four ≡ refused 17 []
  pub other : load_checks (with_shut (fresh 5 3) 2 true) ring_of_four ≡ refused 18 []
  pub longer : (b : ℕ) → load_checks (fresh 5 3) (ring_of_four ++ b ∷ []) ≡ refused 4 []
  pub lost : load_checks (fresh 5 3) lost_record ≡ refused 6 (0 ∷ [])
