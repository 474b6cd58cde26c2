-- The stretches of an image as they are written: what stands in front so far.
use Rattle.std.proofs.Common.{◌≡◌, ℕ, zero, suc, ◌+◌, ◌-◌, ◌*◌, ◌/◌, ◌%◌, ◌<◌, ◌≤◌, Bool, true, false, cond, ◌&&◌, ltb, ◌⊎◌, List, [], ◌∷◌, ◌++◌, length, take, get_or, Some, None, sym, refl, ap, ◌∙◌, ap₂, inl, inr, arith}
use borrow.Rule.Slice.PartMut.{put_mid}
use Rattle.std.proofs.lemmas.List.{append-nil, length-append, take_all, take_more}
use Rattle.std.proofs.lemmas.Slice.{take-put_mid}
use Rattle.std.proofs.lemmas.Bool.{and_from, and_left, lt-ltb, le-ltb}
use Rattle.plan.specs.declared.number.Junction.{Junction}
use Rattle.plan.specs.Plans.{Plan, Sound, NextNeighbour, count}
use Rattle.plan.proofs.Counts.{count_none}
use Rattle.image.specs.Images.{bytes_of}
use Rattle.image.specs.Writing.{upper, uppers, pipes_to, link, heads, chain_to, records_to}
use Rattle.image.proofs.Uppers.{uppers_none, uppers_next, uppers_mono, pipes_to_step, link_some, link_none}

pub bytes_append : (xs ys : List ℕ) → bytes_of (xs ++ ys) ≡ bytes_of xs ++ bytes_of ys
bytes_append [] ys = refl
bytes_append (x ∷ xs) ys = ap (λ zs. x % 256 ∷ x / 256 ∷ zs) (bytes_append xs ys)

pub length_bytes : (xs : List ℕ) → length (bytes_of xs) ≡ 2 * length xs
length_bytes [] = refl
length_bytes (x ∷ xs) = omega (arith, length_bytes xs)

-- ---- the next record

pub record More (p : Plan) (v last w : ℕ) : Type 0 where
  pub above : last < w
  pub below : w ≤ p.size
  pub one : uppers p v w ≡ uppers p v last + 1
  pub room : uppers p v w ≤ uppers p v p.size

module _ (p : Plan) (s : Sound p) where
  pub more : (v last : ℕ) (w : Junction) → v ≤ last → NextNeighbour p v last (Some w) → More p v last w.0
  more v last w l n =
      let e = s.ends v w.0 n.1 in
      let i = s.inside w.0 e.1 in
      record {
        above = n.0;
        below = i.1;
        one = uppers_next p v last w.0 l n.0 n.1 n.2;
        room = uppers_mono p v w.0 p.size i.1;
      }

  -- no neighbour between the last and w, so w's record comes next
  chain_level : (v a d : ℕ) → ((x : ℕ) → a < x → x ≤ d + a → upper p v x ≡ false) → chain_to p v (d + a) ≡ chain_to p v a
  unfolding chain_to
  chain_level v a zero h = let e : 0 + a ≡ a = omega arith in ap (chain_to p v) e
  chain_level v a (suc d) h =
      let e : suc d + a ≡ suc (d + a) = omega arith in
      let k : chain_to p v (d + a) ≡ chain_to p v a = chain_level v a d (λ x l m. h x l (omega arith)) in
      let f : upper p v (suc (d + a)) ≡ false = h (suc (d + a)) (omega arith) (omega arith) in
      ap (chain_to p v) e ∙ (ap (λ b. chain_to p v (d + a) ++ cond b (v ∷ suc (d + a) ∷ link p v (suc (d + a)) ∷ []) []) f ∙ (append-nil (chain_to p v (d + a)) ∙ k))

  chain_flat : (v a b : ℕ) → a ≤ b → ((x : ℕ) → a < x → x ≤ b → upper p v x ≡ false) → chain_to p v b ≡ chain_to p v a
  chain_flat v a b l h =
      let e : (b - a) + a ≡ b = omega arith in
      ap (chain_to p v) (sym e) ∙ chain_level v a (b - a) (λ x k m. h x k (omega arith))

  not_joined : (v x : ℕ) → p.joins v x ≡ false → upper p v x ≡ false
  not_joined v x e = go (ltb v x)
    where
      go : (b : Bool) → (b && p.joins v x) ≡ false
      go true = e
      go false = refl

  pub chain_more : (v last w : ℕ) → v ≤ last → last < w → p.joins v w ≡ true → ((x : ℕ) → last < x → x < w → p.joins v x ≡ false) → chain_to p v w ≡ chain_to p v last ++ v ∷ w ∷ link p v w ∷ []
  unfolding chain_to
  chain_more v last zero l k h none = absurd (omega arith)
  chain_more v last (suc w) l k h none =
      let f : upper p v (suc w) ≡ true = and_from (ltb v (suc w)) (p.joins v (suc w)) (lt-ltb v (suc w) (omega arith)) h in
      ap (λ b. chain_to p v w ++ cond b (v ∷ suc w ∷ link p v (suc w) ∷ []) []) f ∙ ap (λ xs. xs ++ v ∷ suc w ∷ link p v (suc w) ∷ []) (chain_flat v last w (omega arith) (λ x a b. not_joined v x (none x a (omega arith))))

  pub chain_end : (v last : ℕ) → last ≤ p.size → ((x : ℕ) → last < x → p.joins v x ≡ false) → chain_to p v p.size ≡ chain_to p v last
  chain_end v last l none = chain_flat v last p.size l (λ x a b. not_joined v x (none x a))

  pub chain_none : (v : ℕ) → chain_to p v v ≡ []
  unfolding chain_to
  chain_none v = chain_flat v 0 v (omega arith) (λ x a b. and_left (ltb v x) (p.joins v x) (le-ltb v x b))

-- ---- what stands in front

-- the records of 1 to v
pub record RecordsFront (p : Plan) (v before : ℕ) (part : List ℕ) : Type 0 where
  pub before_is : before ≡ pipes_to p v
  pub front : take (6 * before) part ≡ bytes_of (records_to p v)

-- the heads of 1 to v
pub record HeadsFront (p : Plan) (v before : ℕ) (part : List ℕ) : Type 0 where
  pub before_is : before ≡ pipes_to p v
  pub front : take (2 * v) part ≡ bytes_of (heads p v)

-- ---- lengths

module _ (p : Plan) where
  pub length_chain : (v w : ℕ) → length (chain_to p v w) ≡ 3 * uppers p v w
  unfolding chain_to uppers
  length_chain v zero = let z : count (upper p v) 1 ≡ 0 = count_none (upper p v) 1 (λ x l. and_left (ltb v x) (p.joins v x) (le-ltb v x (omega arith))) in omega arith
  length_chain v (suc w) = go (upper p v (suc w)) (length_chain v w)
    where
      go : (b : Bool) → length (chain_to p v w) ≡ 3 * count (upper p v) (suc w) → length (chain_to p v w ++ cond b (v ∷ suc w ∷ link p v (suc w) ∷ []) []) ≡ 3 * (cond b 1 0 + count (upper p v) (suc w))
      go true rest = simp length-append (omega arith)
      go false rest = simp length-append (omega arith)

  pub length_records : (v : ℕ) → length (records_to p v) ≡ 3 * pipes_to p v
  unfolding records_to pipes_to
  length_records zero = refl
  length_records (suc v) = simp length-append (omega (arith, length_records v, length_chain (suc v) p.size))

  pub length_heads : (v : ℕ) → length (heads p v) ≡ v
  unfolding heads
  length_heads zero = refl
  length_heads (suc v) = simp length-append (omega (arith, length_heads v))

-- ---- one more in front

-- what stood in front of a part, and then the part as it was written
front_more : (a k : ℕ) (xs ys fs gs : List ℕ) → take a xs ≡ bytes_of fs → ys ≡ bytes_of gs → a ≤ length xs → (n : ℕ) → n ≡ a + length ys → take n (put_mid a k xs ys) ≡ bytes_of (fs ++ gs)
front_more a k xs ys fs gs front ys-are l n e =
    take-put_mid a k xs ys n e l ∙ (ap₂ (λ (s t : List ℕ). s ++ t) front ys-are ∙ sym (bytes_append fs gs))

-- fields written one behind another, and then the field at index i
pub fields_go_on : (i k : ℕ) (xs ys fs : List ℕ) → i < length fs → length xs ≡ 2 * length fs → take (2 * i) xs ≡ bytes_of (take i fs) → ys ≡ bytes_of (get_or fs i 0 ∷ []) → take (2 * (i + 1)) (put_mid (2 * i) k xs ys) ≡ bytes_of (take (i + 1) fs)
fields_go_on i k xs ys fs l long front ys-are =
    front_more (2 * i) k xs ys (take i fs) (get_or fs i 0 ∷ []) front ys-are (omega arith) (2 * (i + 1)) (omega (arith, ap length ys-are)) ∙ ap bytes_of (sym (take_more fs i 0 l))

module _ (p : Plan) (s : Sound p) where
  -- k records of v, up to last, stand in front of its stretch: none at first
  pub chain_starts : (v : ℕ) (part : List ℕ) → take (6 * 0) part ≡ bytes_of (chain_to p v v)
  chain_starts v part = ap bytes_of (sym (chain_none p s v))

  -- the link of the record that comes next
  pub link_of : (v before last k w next long : ℕ) → k ≡ uppers p v last → More p v last w → before ≡ pipes_to p (v - 1) → long ≡ 6 * uppers p v p.size → ((6 * k + 6 < long) × (next ≡ (before + k) + 2)) ⊎ ((long ≤ 6 * k + 6) × (next ≡ 0)) → next ≡ link p v w
  link_of v before last k w next long k_is m before_is long-is (inl c) = c.1 ∙ sym (link_some p v w (omega (arith, m.one, c.0)) ∙ omega (arith, m.one))
  link_of v before last k w next long k_is m before_is long-is (inr c) = c.1 ∙ sym (link_none p v w (omega (arith, m.one, c.0)))

  pub chain_goes_on : (v last k j next : ℕ) (w : Junction) (part ys : List ℕ) → v ≤ last → take (6 * k) part ≡ bytes_of (chain_to p v last) → NextNeighbour p v last (Some w) → ys ≡ bytes_of (v ∷ w.0 ∷ next ∷ []) → next ≡ link p v w.0 → 6 * k + 6 ≤ length part → take (6 * (k + 1)) (put_mid (6 * k) j part ys) ≡ bytes_of (chain_to p v w.0)
  chain_goes_on v last k j next w part ys start front n ys-are next-is room =
      front_more (6 * k) j part ys (chain_to p v last) (v ∷ w.0 ∷ next ∷ []) front ys-are (omega arith) (6 * (k + 1)) (omega (arith, ap length ys-are))
      ∙ ap bytes_of (ap (λ x. chain_to p v last ++ v ∷ w.0 ∷ x ∷ []) next-is ∙ sym (chain_more p s v last w.0 start n.0 n.1 n.2))

  pub chain_ends : (v last k : ℕ) (part : List ℕ) → last ≤ p.size → k ≡ uppers p v p.size → take (6 * k) part ≡ bytes_of (chain_to p v last) → NextNeighbour p v last None → length part ≡ 6 * uppers p v p.size → part ≡ bytes_of (chain_to p v p.size)
  chain_ends v last k part few k_is front none long = sym (take_all (6 * k) part (omega arith)) ∙ (front ∙ ap bytes_of (sym (chain_end p s v last few none)))

module _ (p : Plan) where
  pub records_start : (part : List ℕ) → RecordsFront p 0 0 part
  unfolding pipes_to records_to
  records_start part = record { before_is = refl; front = refl }

  pub records_go_on : (v before k found : ℕ) (part ys : List ℕ) → 1 ≤ v → RecordsFront p (v - 1) before part → found ≡ uppers p v p.size → ys ≡ bytes_of (chain_to p v p.size) → 6 * (before + found) ≤ length part → RecordsFront p (v + 1 - 1) (before + found) (put_mid (6 * before) k part ys)
  unfolding records_to
  records_go_on zero before k found part ys a f found-is ys-are room = absurd (omega arith)
  records_go_on (suc v) before k found part ys a f found-is ys-are room =
      let e : suc v + 1 - 1 ≡ suc v = omega arith in
      let d : suc v - 1 ≡ v = omega arith in
      let f' : RecordsFront p v before part = rw d at f in
      let step : pipes_to p (suc v) ≡ pipes_to p v + uppers p (suc v) p.size = rw d at (pipes_to_step p (suc v) (omega arith)) in
      let long : length ys ≡ 6 * found = ap length ys-are ∙ (length_bytes (chain_to p (suc v) p.size) ∙ omega (arith, length_chain p (suc v) p.size)) in
      rw e (record {
        before_is = omega (arith, f'.before_is);
        front = front_more (6 * before) k part ys (records_to p v) (chain_to p (suc v) p.size) f'.front ys-are (omega arith) (6 * (before + found)) (omega arith);
      })

  pub heads_start : (part : List ℕ) → HeadsFront p 0 0 part
  unfolding pipes_to heads
  heads_start part = record { before_is = refl; front = refl }

  -- the head of v
  pub head_is : (v before found head : ℕ) → before ≡ pipes_to p (v - 1) → found ≡ uppers p v p.size → ((found ≡ 0) × (head ≡ 0)) ⊎ ((found ≡ 0 → ⊥) × (head ≡ before + 1)) → head ≡ link p v v
  head_is v before found head before_is found-is (inl c) = c.1 ∙ sym (link_none p v v (omega (arith, uppers_none p v, c.0)))
  head_is v before found head before_is found-is (inr c) = c.1 ∙ sym (link_some p v v (omega (arith, uppers_none p v, c.0)) ∙ omega (arith, uppers_none p v))

  pub heads_go_on : (v before k found head : ℕ) (part ys : List ℕ) → 1 ≤ v → HeadsFront p (v - 1) before part → found ≡ uppers p v p.size → head ≡ link p v v → ys ≡ bytes_of (head ∷ []) → 2 * v ≤ length part → HeadsFront p (v + 1 - 1) (before + found) (put_mid (2 * (v - 1)) k part ys)
  unfolding heads
  heads_go_on zero before k found head part ys a f found-is head_is ys-are room = absurd (omega arith)
  heads_go_on (suc v) before k found head part ys a f found-is head_is ys-are room =
      let e : suc v + 1 - 1 ≡ suc v = omega arith in
      let d : suc v - 1 ≡ v = omega arith in
      let f' : HeadsFront p v before part = rw d at f in
      let step : pipes_to p (suc v) ≡ pipes_to p v + uppers p (suc v) p.size = rw d at (pipes_to_step p (suc v) (omega arith)) in
      let long : length ys ≡ 2 = ap length ys-are in
      rw (e, d) (record {
        before_is = omega (arith, f'.before_is);
        front = front_more (2 * v) k part ys (heads p v) (head ∷ []) f'.front ys-are (omega arith) (2 * suc v) (omega arith) ∙ ap (λ x. bytes_of (heads p v ++ x ∷ [])) head_is;
      })
