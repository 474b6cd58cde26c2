-- Making a bit register of n junctions from memory handed over.
use Rattle.std.specs.Prelude.{◌≡◌, ℕ, ◌-◌, ◌*◌, ◌/◌, ◌≤◌, not, [], ◌∷◌, Ok, Err, vec_items, vec_len, Result, Vec, nat_lt, slice_index}
use Rattle.std.specs.declared.alloc.Global.{Global}
use Rattle.plan.specs.declared.turned_down.TurnedDown.{TurnedDown}
use Rattle.plan.specs.Plans.{Plan, within, blank}
use Rattle.plan.specs.Refusals.{Verdict, carried, refused, checked, number, values}
use Rattle.bits.specs.declared.register.BitRegister.{BitRegister}
use Rattle.bits.specs.Rows.{kept}

-- the checks in their order, at memory of a given number of words
abbrev pub new_verdict : ℕ → ℕ → Verdict
new_verdict n words = checked ((not (within 512 n), 1) ∷ (nat_lt words (8 * n), 8) ∷ [])

-- what the register means
abbrev pub plan_of : BitRegister → Plan
plan_of r = kept r.n (vec_items r.words)

-- a register made: the blank plan, a pipe to spare for each pair, and the memory behind its rows as it was
pub record Made (n : ℕ) (memory : Vec ℕ Global) (r : BitRegister) : Type 0 where
  pub says : carried ≡ new_verdict n (vec_len memory)
  pub plan : plan_of r ≡ blank n
  pub spare : r.spare ≡ n * (n - 1) / 2
  pub long : vec_len r.words ≡ vec_len memory
  pub behind : (k : ℕ) → 8 * n ≤ k → slice_index (vec_items r.words) k ≡ slice_index (vec_items memory) k

-- none made: the memory as it was
pub record GivenBack (n : ℕ) (memory : Vec ℕ Global) (t : TurnedDown (Vec ℕ Global)) : Type 0 where
  pub says : refused (number t.refusal) (values t.refusal) ≡ new_verdict n (vec_len memory)
  pub same : t.memory ≡ memory

abbrev pub Making : ℕ → Vec ℕ Global → Result BitRegister (TurnedDown (Vec ℕ Global)) → Type 0
Making n memory (Ok r) = Made n memory r
Making n memory (Err t) = GivenBack n memory t
