-- The image as a whole: its length, the verdict of a write, and its three stretches in place.
use Rattle.std.proofs.Common.{◌≡◌, ℕ, ◌+◌, ◌*◌, ◌<◌, ◌≤◌, List, [], ◌∷◌, ◌++◌, length, drop, sym, refl, ap, ◌∙◌, ap₂, arith}
use borrow.Rule.Slice.PartMut.{put_mid, post_of}
use Rattle.std.proofs.lemmas.List.{append_assoc, length-append, take_at, drop_at, drop-drop}
use Rattle.std.proofs.lemmas.Bool.{lt-ltb, le-ltb}
use Rattle.plan.specs.Plans.{Plan, pairs}
use Rattle.plan.specs.Refusals.{carried, refused}
use Rattle.image.specs.Images.{bytes_of, image_length}
use Rattle.image.specs.Writing.{pipes_to, heads, records_to, written, write_verdict}
use Rattle.image.proofs.Stretches.{length_bytes, length_heads, length_records}
use Rattle.image.proofs.Uppers.{pipes_pairs}

module _ (p : Plan) where
  pub length_written : length (written p) ≡ image_length p.size (pipes_to p p.size)
  unfolding written
  length_written =
      simp length-append
      (omega (arith, length_bytes (heads p p.size), length_heads p p.size, length_bytes (records_to p p.size), length_records p p.size))

  pub write_many : (long : ℕ) → 8000 < pipes_to p p.size → refused 19 [] ≡ write_verdict p long
  unfolding write_verdict
  write_many long h = rw (lt-ltb 8000 (pairs p.joins p.size) (omega (arith, pipes_pairs p))) refl

  pub write_short : (long : ℕ) → pipes_to p p.size ≤ 8000 → long < image_length p.size (pipes_to p p.size) → refused 8 [] ≡ write_verdict p long
  unfolding write_verdict
  write_short long few h = rw (le-ltb 8000 (pairs p.joins p.size) (omega (arith, pipes_pairs p)), lt-ltb long (length (written p)) (omega (arith, length_written))) refl

  pub write_passes : (long : ℕ) → pipes_to p p.size ≤ 8000 → image_length p.size (pipes_to p p.size) ≤ long → carried ≡ write_verdict p long
  unfolding write_verdict
  write_passes long few h = rw (le-ltb 8000 (pairs p.joins p.size) (omega (arith, pipes_pairs p)), le-ltb long (length (written p)) (omega (arith, length_written))) refl

-- the first part of a list replaced by as much, and then the part behind it
part_behind : (a k : ℕ) (front rest ys : List ℕ) → length front ≡ a → put_mid a k (front ++ rest) ys ≡ (front ++ ys) ++ drop k rest
part_behind a k front rest ys h =
    ap₂ (λ (s t : List ℕ). s ++ (ys ++ drop k t)) (take_at front rest a h) (drop_at front rest a h) ∙ sym (append_assoc front ys (drop k rest))

module _ (p : Plan) (out hs gs rs : List ℕ) (n r : ℕ) (n-is : n ≡ p.size) (r-is : r ≡ pipes_to p p.size) (hs-are : hs ≡ bytes_of (n ∷ r ∷ 1 ∷ 0 ∷ [])) (gs-are : gs ≡ bytes_of (heads p p.size)) (rs-are : rs ≡ bytes_of (records_to p p.size)) where
  length_gs : length gs ≡ 2 * n
  length_gs = ap length gs-are ∙ (length_bytes (heads p p.size) ∙ omega (arith, length_heads p p.size))

  all_three : (hs ++ gs) ++ rs ≡ written p
  unfolding written
  all_three =
      append_assoc hs gs rs ∙ ap₂ (λ (s t : List ℕ). s ++ t) (hs-are ∙ ap₂ (λ (a b : ℕ). bytes_of (a ∷ b ∷ 1 ∷ 0 ∷ [])) n-is r-is) (ap₂ (λ (s t : List ℕ). s ++ t) gs-are rs-are)

  pub stretches_placed : (k l e : ℕ) → k ≡ 2 * n → l ≡ 6 * r → e ≡ (8 + 2 * n) + 6 * r → put_mid (8 + 2 * n) l (put_mid 8 k (hs ++ post_of 0 8 out) gs) rs ≡ written p ++ drop e out
  stretches_placed k l e k-is l-is e-is =
      let first : put_mid 8 k (hs ++ drop 8 out) gs ≡ (hs ++ gs) ++ drop k (drop 8 out) = part_behind 8 k hs (drop 8 out) gs (ap length hs-are) in
      let second : put_mid (8 + 2 * n) l ((hs ++ gs) ++ drop k (drop 8 out)) rs ≡ ((hs ++ gs) ++ rs) ++ drop l (drop k (drop 8 out)) = part_behind (8 + 2 * n) l (hs ++ gs) (drop k (drop 8 out)) rs (length-append hs gs ∙ omega (arith, ap length hs-are, length_gs)) in
      let rest : drop l (drop k (drop 8 out)) ≡ drop e out = drop-drop l k (drop 8 out) ∙ (drop-drop (k + l) 8 out ∙ ap (λ i. drop i out) (omega arith)) in
      ap (λ xs. put_mid (8 + 2 * n) l xs rs) first ∙ (second ∙ ap₂ (λ (s t : List ℕ). s ++ t) all_three rest)
