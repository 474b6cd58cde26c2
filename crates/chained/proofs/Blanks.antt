-- A register without pipes: the memory as it is laid out.
use Rattle.std.proofs.Common.{◌≡◌, ℕ, ◌+◌, ◌-◌, ◌*◌, ◌<◌, ◌≤◌, true, false, ◌⊎◌, List, length, vec_items, Vec, sym, ◌∙◌, inl, inr, arith}
use Rattle.std.specs.declared.alloc.Global.{Global}
use Rattle.std.specs.Vec.{with_items}
use Rattle.std.proofs.lemmas.Bool.{cases_Bool, cases_lt}
use Rattle.std.proofs.lemmas.Bool.Decides.{nat_tests}
use Rattle.plan.specs.Refusals.{carried}
use Rattle.plan.proofs.Counts.{pairs-none}
use Rattle.plan.proofs.Memory.{items_refilled}
use Rattle.plan.proofs.PipeLaws.{within_parts}
use Rattle.chained.specs.Chains.{FreeAt}
use Rattle.chained.specs.Changes.{LaidOut}
use Rattle.chained.specs.Nodes.{next, far, owner, joined}
use Rattle.chained.specs.Making.{new_verdict}
use Rattle.chained.proofs.Chains.{Chains, FreeList}
use Rattle.chained.specs.NodesLemmas.{far_head, far_cell, owner_head, owner_first, owner_second, CellOf, cell_of_joined}
use Rattle.chained.proofs.States.{Kept}

module _ (n c : ℕ) (before ws : List ℕ) (laid : LaidOut n c before ws) where
  far_none : (k : ℕ) → k < n + 2 * c → far n c ws k ≡ 0
  far_none k l = go (cases_lt k n)
    where
      go : (k < n) ⊎ (n ≤ k) → far n c ws k ≡ 0
      go (inl h) = far_head n c ws k h
      go (inr h) = far_cell n c ws k h ∙ laid.ends (k + 2 * c) (omega arith) (omega arith)

  owner_none : (k : ℕ) → n ≤ k → k < n + 2 * c → owner n c ws k ≡ 0
  owner_none k low high = go (cases_lt k (n + c))
    where
      go : (k < n + c) ⊎ (n + c ≤ k) → owner n c ws k ≡ 0
      go (inl h) = owner_first n c ws k low h ∙ laid.ends (k + 3 * c) (omega arith) (omega arith)
      go (inr h) = owner_second n c ws k h ∙ laid.ends (k + c) (omega arith) (omega arith)

  -- only heads are in a chain
  head_since : (k : ℕ) → k < n + 2 * c → 1 ≤ owner n c ws k → k < n
  head_since k l o = go (cases_lt k n)
    where
      go : (k < n) ⊎ (n ≤ k) → k < n
      go (inl h) = h
      go (inr h) = absurd (omega (arith, o, owner_none k h l))

  pub joined_none : (a b : ℕ) → joined n c ws a b ≡ false
  joined_none a b = go (cases_Bool (joined n c ws a b))
    where
      go : (joined n c ws a b ≡ true) ⊎ (joined n c ws a b ≡ false) → joined n c ws a b ≡ false
      go (inl e) =
          let k : CellOf n c ws a b = cell_of_joined n c ws a b e in
          absurd (omega (arith, k.owned, owner_none k.node k.low k.high, within_parts n a k.left))
      go (inr e) = e

  chains_blank : Chains (n + 2 * c) (next ws) (far n c ws) (owner n c ws)
  chains_blank =
      record {
        ascends = λ s (l, o, m). absurd (omega (arith, m, laid.heads s (head_since s l o)));
        complete = λ s t (l, m, o, e, h). absurd (omega (arith, h, far_none t m));
        single = λ s t (l, m, o, e, h). omega (arith, e, owner_head n c ws s (head_since s l o), owner_head n c ws t (head_since t m (omega (arith, o, e))));
      }

  free_from : (k d : ℕ) → n ≤ k → k < n + c → n + c - k ≡ d → FreeAt n c (next ws) (far n c ws) k d
  free_from k d low high e = (low, high, far_none k (omega arith), laid.counts k low high ∙ e)

  frees_blank : FreeList n c c n (next ws) (far n c ws)
  frees_blank =
      record {
        counted = λ k (low, high, f). (omega (arith, laid.counts k low high), omega (arith, laid.counts k low high));
        distinct = λ j k (a, b, d, e, f, g, same). omega (arith, same, laid.counts j a b, laid.counts k d e);
        listed = λ k (low, high, f, m). rw (laid.links k low high, laid.counts k low high) (free_from (k + 1) (n + c - k - 1) (omega arith) (omega (arith, m, laid.counts k low high)) (omega arith));
        first = λ l. free_from n c (omega arith) (omega arith) (omega arith);
      }

  pub kept_blank : Kept n c c n ws
  kept_blank =
      record {
        bounded = λ k (low, high). omega (arith, far_none k high);
        paired = λ k (low, high, o). absurd (omega (arith, o, owner_none k low high));
        apart = λ k (low, high, o, e). omega (arith, o, owner_none k low high);
        chains = chains_blank;
        frees = frees_blank;
        filled = omega (arith, pairs-none (joined n c ws) n (λ v w a b d. joined_none v w));
      }

-- memory after it was lent and laid out
pub laid_refilled : (memory : Vec ℕ Global) (lent last : List ℕ) (n c : ℕ) → lent ≡ vec_items memory → length last ≡ length lent → LaidOut n c lent last → LaidOut n c (vec_items memory) (vec_items (with_items memory last))
laid_refilled memory lent last n c Lent-is long laid =
    rw (items_refilled memory lent last Lent-is long, sym Lent-is) laid

pub new_passes : (n c long : ℕ) → 1 ≤ n → n ≤ 512 → c ≤ 8000 → n + 4 * c ≤ long → carried ≡ new_verdict n c long
new_passes n c long some few most room = grind (arith, nat_tests)
