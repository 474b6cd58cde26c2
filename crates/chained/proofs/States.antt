-- What a register keeps in its memory, over plain values.
use Rattle.std.proofs.Common.{◌≡◌, ℕ, ◌+◌, ◌*◌, ◌<◌, ◌≤◌, ◌⊎◌, List, vec_items, ◌∙◌, inl, inr, arith}
use Rattle.std.proofs.lemmas.Bool.{cases_eq}
use Rattle.plan.specs.Plans.{pairs}
use Rattle.chained.specs.declared.register.ChainedRegister.{ChainedRegister}
use Rattle.chained.specs.Chains.{Bounded, Paired, Apart}
use Rattle.chained.specs.Nodes.{next, far, owner, joined}
use Rattle.chained.proofs.Chains.{Chains, FreeList}
use Rattle.chained.specs.NodesLemmas.{owner_twin}

pub record Kept (n c spare head : ℕ) (ws : List ℕ) : Type 0 where
  pub bounded : Bounded n (n + 2 * c) (far n c ws)
  pub paired : Paired n (n + 2 * c) (far n c ws) (owner n c ws)
  pub apart : Apart n (n + 2 * c) (far n c ws) (owner n c ws)
  pub chains : Chains (n + 2 * c) (next ws) (far n c ws) (owner n c ws)
  pub frees : FreeList n c spare head (next ws) (far n c ws)
  pub filled : spare + pairs (joined n c ws) n ≡ c

pub kept_in : (r : ChainedRegister) → Kept r.n r.c r.spare r.free (vec_items r.cells)
kept_in r =
    record {
      bounded = r.bounded;
      paired = r.paired;
      apart = r.apart;
      chains = record { ascends = r.ascends; complete = r.complete; single = r.single };
      frees = record { counted = r.counted; distinct = r.distinct; listed = r.listed; first = r.first };
      filled = r.filled;
    }

module _ (n c spare head : ℕ) (ws : List ℕ) (kept : Kept n c spare head ws) where
  -- a free pair is in no chain
  pub free_unowned : (k : ℕ) → n ≤ k → k < n + c → far n c ws k ≡ 0 → (owner n c ws k ≡ 0) × (owner n c ws (k + c) ≡ 0)
  free_unowned k low high f =
      (go (cases_eq (owner n c ws k) 0), owner_twin n c ws k low high ∙ f)
    where
      go : (owner n c ws k ≡ 0) ⊎ (owner n c ws k ≡ 0 → ⊥) → owner n c ws k ≡ 0
      go (inl e) = e
      go (inr ne) = absurd (omega (arith, f, kept.paired k (low, omega arith, omega arith)))
