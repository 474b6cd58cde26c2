-- Making a chained register of n junctions and c pipes from memory handed over.
use Rattle.std.specs.Prelude.{◌≡◌, ℕ, ◌+◌, ◌*◌, ◌≤◌, not, ◌||◌, [], ◌∷◌, Ok, Err, vec_items, vec_len, Result, Vec, nat_lt, slice_index}
use Rattle.std.specs.declared.alloc.Global.{Global}
use Rattle.plan.specs.declared.turned_down.TurnedDown.{TurnedDown}
use Rattle.plan.specs.Plans.{Plan, within, blank}
use Rattle.plan.specs.Refusals.{Verdict, carried, refused, checked, number, values}
use Rattle.chained.specs.declared.register.ChainedRegister.{ChainedRegister}
use Rattle.chained.specs.Nodes.{kept}

-- the checks in their order, at memory of a given length
abbrev pub new_verdict : ℕ → ℕ → ℕ → Verdict
new_verdict n c long = checked ((not (within 512 n) || nat_lt 8000 c, 1) ∷ (nat_lt long (n + 4 * c), 8) ∷ [])

-- what the register means
abbrev pub plan_of : ChainedRegister → Plan
plan_of r = kept r.n r.c (vec_items r.cells)

-- a register made: the blank plan, c pipes to spare, and the memory behind what it uses as it was
pub record Made (n c : ℕ) (memory : Vec ℕ Global) (r : ChainedRegister) : Type 0 where
  pub says : carried ≡ new_verdict n c (vec_len memory)
  pub plan : plan_of r ≡ blank n
  pub spare : r.spare ≡ c
  pub long : vec_len r.cells ≡ vec_len memory
  pub behind : (k : ℕ) → n + 4 * c ≤ k → slice_index (vec_items r.cells) k ≡ slice_index (vec_items memory) k

-- none made: the memory as it was
pub record GivenBack (n c : ℕ) (memory : Vec ℕ Global) (t : TurnedDown (Vec ℕ Global)) : Type 0 where
  pub says : refused (number t.refusal) (values t.refusal) ≡ new_verdict n c (vec_len memory)
  pub same : t.memory ≡ memory

abbrev pub Making : ℕ → ℕ → Vec ℕ Global → Result ChainedRegister (TurnedDown (Vec ℕ Global)) → Type 0
Making n c memory (Ok r) = Made n c memory r
Making n c memory (Err t) = GivenBack n c memory t
