-- A register without pipes: every pair is to spare.
use Rattle.std.proofs.Common.{◌≡◌, ℕ, zero, suc, ◌+◌, ◌-◌, ◌*◌, ◌/◌, ◌<◌, ◌≤◌, false, List, length, get_or, vec_items, Vec, refl, ap, ◌∙◌, arith}
use Rattle.std.specs.declared.alloc.Global.{Global}
use Rattle.std.specs.Vec.{with_items}
use Rattle.std.proofs.lemmas.Bool.Decides.{nat_tests}
use Rattle.plan.specs.Plans.{pairs}
use Rattle.plan.specs.Refusals.{carried}
use Rattle.plan.proofs.Counts.{pairs-none}
use Rattle.plan.proofs.Memory.{items_refilled}
use Rattle.bits.specs.Making.{new_verdict}
use Rattle.bits.specs.Rows.{joined}
use Rattle.bits.proofs.Marks.{joined-blank}

-- n * n - n is even
triangle : (n : ℕ) → (k : ℕ) × (2 * k + n ≡ n * n)
triangle zero = (0, refl)
triangle (suc n) =
    let below : (k : ℕ) × (2 * k + n ≡ n * n) = triangle n in
    (below.0 + n, omega arith)

pub all_to_spare : (n : ℕ) → 2 * (n * (n - 1) / 2) + n ≡ n * n
all_to_spare zero = refl
all_to_spare (suc n) =
    let below : (k : ℕ) × (2 * k + n ≡ n * n) = triangle n in
    let e : suc n - 1 ≡ n = omega arith in
    rw e (omega arith)

pub counted-blank : (n : ℕ) (ws : List ℕ) → ((a b : ℕ) → joined n ws a b ≡ false) → 2 * (n * (n - 1) / 2 + pairs (joined n ws) n) + n ≡ n * n
counted-blank n ws none =
    let p : pairs (joined n ws) n ≡ 0 = pairs-none (joined n ws) n (λ v w a b c. none v w) in
    omega (arith, all_to_spare n)

-- memory after it was lent and its first 8n words were cleared
module _ (memory : Vec ℕ Global) (lent last : List ℕ) (n : ℕ) (Lent-is : lent ≡ vec_items memory) (long : length last ≡ length lent) where
  items_are : vec_items (with_items memory last) ≡ last
  items_are = items_refilled memory lent last Lent-is long

  pub lent_blank : n ≤ 512 → ((k : ℕ) → k < 8 * n → get_or last k 0 ≡ 0) → (a b : ℕ) → joined n (vec_items (with_items memory last)) a b ≡ false
  lent_blank few cleared a b = ap (λ ws. joined n ws a b) items_are ∙ joined-blank n few last cleared a b

  pub lent_behind : ((k : ℕ) → 8 * n ≤ k → get_or last k 0 ≡ get_or lent k 0) → (k : ℕ) → 8 * n ≤ k → get_or (vec_items (with_items memory last)) k 0 ≡ get_or (vec_items memory) k 0
  lent_behind behind k l = ap (λ ws. get_or ws k 0) items_are ∙ (behind k l ∙ ap (λ ws. get_or ws k 0) Lent-is)

pub new_passes : (n words : ℕ) → 1 ≤ n → n ≤ 512 → 8 * n ≤ words → carried ≡ new_verdict n words
new_passes n words some few room = grind (arith, nat_tests)
