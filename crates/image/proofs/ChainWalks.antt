-- A walk along a chain, step by step: how many records it has.
use Rattle.std.specs.Prelude.{◌≡◌, ℕ, ◌+◌, false, List, Some, None, Option}
use Rattle.std.proofs.Common.{ap, ◌∙◌}
use Rattle.std.proofs.lemmas.Bool.{both_ways}
use Rattle.plan.specs.declared.number.Junction.{Junction}
use Rattle.image.specs.declared.chains.Chain.{Chain}
use Rattle.image.specs.declared.layout.Layout.{Layout}
use Rattle.image.specs.Chains.{follows, sound_chain}
use Rattle.image.specs.Images.{image_of}
use Rattle.image.specs.Reading.{Walked}
use Rattle.image.specs.Records.{index_field, Passes, ChainSteps}
use Rattle.image.specs.Walks.{Walking, follows_member, member_follows, walk_goes_on, walk_fails, walk_ends}

-- s is a walk in the chain of v over the bytes
pub record Within (bytes : List ℕ) (v : Junction) (s : Chain) : Type 0 where
  pub bytes_are : s.image.bytes.now ≡ bytes
  pub of_is : s.of ≡ v

module _ (bytes : List ℕ) (v : Junction) (s t : Chain) where
  steps_within : (met : Option (Option Junction)) → ChainSteps s met t → Within bytes v s → Within bytes v t
  steps_within met p h = record { bytes_are = ap (λ (i : Layout). i.bytes.now) p.1 ∙ h.bytes_are; of_is = p.2 ∙ h.of_is }

  passes : (met : Option (Option Junction)) → ChainSteps s met t → Within bytes v s → Passes (image_of bytes) v.0 s.low.0 (index_field s.at) met t.low.0 (index_field t.at)
  passes met p h = rw (h.bytes_are, h.of_is) at p.0

-- it stands behind `passed` records
pub record Along (bytes : List ℕ) (v : Junction) (s : Chain) (passed : ℕ) : Type 0 where
  pub here : Within bytes v s
  pub walking : Walking (image_of bytes) v.0 (index_field s.at) s.low.0 passed

module _ (bytes : List ℕ) (v : Junction) (s t : Chain) (passed : ℕ) where
  pub along_goes_on : (met : Option Junction) (u : Junction) → met ≡ Some u → Along bytes v s passed → ChainSteps s (Some met) t → Along bytes v t (passed + 1)
  along_goes_on met u e a p =
      let q : Passes (image_of bytes) v.0 s.low.0 (index_field s.at) (Some (Some u)) t.low.0 (index_field t.at) = rw e at (passes bytes v s t (Some met) p a.here) in
      record {
        here = steps_within bytes v s t (Some met) p a.here;
        walking = walk_goes_on (image_of bytes) v.0 (index_field s.at) s.low.0 passed (index_field t.at) t.low.0 a.walking (follows_member (image_of bytes) v.0 s.low.0 (index_field s.at) q.0 q.1) q.4 q.3;
      }

  pub along_fails : (met : Option Junction) → met ≡ None → Along bytes v s passed → ChainSteps s (Some met) t → sound_chain (image_of bytes) v.0 ≡ false
  along_fails met e a p =
      let q : Passes (image_of bytes) v.0 s.low.0 (index_field s.at) (Some None) t.low.0 (index_field t.at) = rw e at (passes bytes v s t (Some met) p a.here) in
      walk_fails (image_of bytes) v.0 (index_field s.at) s.low.0 passed a.walking q.0
      (λ b. both_ways (follows (image_of bytes) v.0 s.low.0 (index_field s.at)) q.1 (member_follows (image_of bytes) v.0 s.low.0 (index_field s.at) b))

  pub along_ends : Along bytes v s passed → ChainSteps s None t → Walked (image_of bytes) v.0 (Some passed)
  along_ends a p = walk_ends (image_of bytes) v.0 (index_field s.at) s.low.0 passed a.walking (passes bytes v s t None p a.here).0
