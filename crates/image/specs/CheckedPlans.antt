-- The plan of a checked image.
use Rattle.std.specs.Prelude.{◌≡◌, ℕ, ◌<◌, true, false, ◌⊎◌, Some, None, vec_items, Option}
use Rattle.std.proofs.Common.{ap, ◌∙◌, inl, inr, arith}
use Rattle.std.proofs.lemmas.Bool.{cases_Bool, cases_order, both_ways}
use Rattle.plan.specs.declared.number.Junction.{Junction}
use Rattle.plan.specs.Plans.{Plan, Sound, NextNeighbour}
use Rattle.image.specs.declared.checked.CheckedImage.{CheckedImage}
use Rattle.image.specs.Checked.{plan_in, LowerNeighbour}
use Rattle.image.specs.Sounds.{image_sound, is_sound_carried}

pub checked_sound : (c : CheckedImage) → Sound (plan_in c)
checked_sound c = image_sound (vec_items c.bytes) (is_sound_carried (vec_items c.bytes) c.sound)

module _ (p : Plan) (s : Sound p) where
  pub outside_apart : (v w : ℕ) → p.serves v ≡ false → p.joins v w ≡ false
  outside_apart v w out = go (cases_Bool (p.joins v w))
    where
      go : (p.joins v w ≡ true) ⊎ (p.joins v w ≡ false) → p.joins v w ≡ false
      go (inl h) = absurd (both_ways (p.serves v) out (s.ends v w h).0)
      go (inr h) = h

  -- no neighbour of v stands between w and v, so the next is above v
  pub next_past : (v w : ℕ) (r : Option Junction) → w < v → LowerNeighbour p v w None → NextNeighbour p v v r → NextNeighbour p v w r
  next_past v w None l none h = λ u k. at u k (cases_order u v)
    where
      at : (u : ℕ) → w < u → (u ≡ v) ⊎ ((u < v) ⊎ (v < u)) → p.joins v u ≡ false
      at u k (inl e) = ap (p.joins v) e ∙ s.apart v
      at u k (inr (inl a)) = none u k a
      at u k (inr (inr a)) = h u a
  next_past v w (Some x) l none h = (omega (arith, h.0), h.1, λ u k m. at u k m (cases_order u v))
    where
      at : (u : ℕ) → w < u → u < x.0 → (u ≡ v) ⊎ ((u < v) ⊎ (v < u)) → p.joins v u ≡ false
      at u k m (inl e) = ap (p.joins v) e ∙ s.apart v
      at u k m (inr (inl a)) = none u k a
      at u k m (inr (inr a)) = h.2 u a m
