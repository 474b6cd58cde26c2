-- What is written, field by field: the heads, and the record of each pipe at its index.
use Rattle.std.proofs.Common.{◌≡◌, ℕ, zero, suc, ◌+◌, ◌-◌, ◌*◌, ◌<◌, ◌≤◌, Bool, true, false, cond, ◌⊎◌, List, [], ◌∷◌, ◌++◌, get_or, sym, refl, ap, ◌∙◌, ap₂, inl, inr, arith}
use Rattle.std.proofs.lemmas.List.{get_or_append_left, get_or-append_right, get_or_push}
use Rattle.std.proofs.lemmas.Bool.{cases_eq, cases_lt, cases_Bool}
use Rattle.plan.specs.Plans.{Plan, count}
use Rattle.image.specs.Images.{field, bytes_of, image_of, head_at, record_at}
use Rattle.image.specs.Writing.{upper, uppers, pipes_to, link, heads, chain_to, records_to, written}
use Rattle.image.proofs.Stretches.{bytes_append, length_chain, length_records, length_heads}
use Rattle.image.proofs.Uppers.{count_one, count-nil, uppers_mono, pipes_to_step, pipes_to_le}

-- the fields of bytes made from fields
field_bytes : (xs : List ℕ) (k : ℕ) → field (bytes_of xs) (2 * k) ≡ get_or xs k 0
field_bytes [] k = refl
field_bytes (x ∷ xs) zero = omega arith
field_bytes (x ∷ xs) (suc k) =
    let e : 2 * suc k ≡ suc (suc (2 * k)) = omega arith in
    let d : 2 * suc k + 1 ≡ suc (suc (2 * k + 1)) = omega arith in
    ap₂ (λ (i j : ℕ). get_or (bytes_of (x ∷ xs)) i 0 + 256 * get_or (bytes_of (x ∷ xs)) j 0) e d ∙ field_bytes xs k

-- the index of the record of v and w: as many pipes stand up to it
abbrev pub rank : Plan → ℕ → ℕ → ℕ
rank p v w = pipes_to p (v - 1) + uppers p v w

module _ (p : Plan) where
  heads_at : (m k : ℕ) → k < m → get_or (heads p m) k 0 ≡ link p (suc k) (suc k)
  unfolding heads
  heads_at zero k l = absurd (omega arith)
  heads_at (suc m) k l = go (cases_eq k m) (heads_at m k)
    where
      go : (k ≡ m) ⊎ (k ≡ m → ⊥) → (k < m → get_or (heads p m) k 0 ≡ link p (suc k) (suc k)) → get_or (heads p m ++ link p (suc m) (suc m) ∷ []) k 0 ≡ link p (suc k) (suc k)
      go (inl e) rest = rw e (get_or_push (heads p m) (link p (suc m) (suc m)) 0 m (length_heads p m))
      go (inr ne) rest = get_or_append_left (heads p m) (link p (suc m) (suc m) ∷ []) 0 k (omega (arith, length_heads p m)) ∙ rest (omega arith)

  uppers_one : (v w : ℕ) → upper p v (suc w) ≡ true → uppers p v (suc w) ≡ uppers p v w + 1
  unfolding uppers
  uppers_one v w h = count_one (upper p v) (suc w) h

  pub uppers_some : (v w : ℕ) → upper p v w ≡ true → 1 ≤ w → 1 ≤ uppers p v w
  uppers_some v zero h a = absurd (omega arith)
  uppers_some v (suc w) h a = omega (arith, uppers_one v w h)

  -- field e of the record of v and w in the chain of v
  chain_at : (v w m e : ℕ) → upper p v w ≡ true → 1 ≤ w → w ≤ m → e < 3 → get_or (chain_to p v m) (3 * (uppers p v w - 1) + e) 0 ≡ get_or (v ∷ w ∷ link p v w ∷ []) e 0
  unfolding chain_to
  chain_at v w zero e h a l le = absurd (omega arith)
  chain_at v w (suc m) e h a l le = go (cases_eq w (suc m)) (chain_at v w m e h a)
    where
      tail : List ℕ
      tail = cond (upper p v (suc m)) (v ∷ suc m ∷ link p v (suc m) ∷ []) []

      go : (w ≡ suc m) ⊎ (w ≡ suc m → ⊥) → (w ≤ m → e < 3 → get_or (chain_to p v m) (3 * (uppers p v w - 1) + e) 0 ≡ get_or (v ∷ w ∷ link p v w ∷ []) e 0) → get_or (chain_to p v m ++ tail) (3 * (uppers p v w - 1) + e) 0 ≡ get_or (v ∷ w ∷ link p v w ∷ []) e 0
      go (inl d) rest =
          let h' : upper p v (suc m) ≡ true = rw d at h in
          let one : uppers p v (suc m) ≡ uppers p v m + 1 = uppers_one v m h' in
          let i : (3 * (uppers p v (suc m) - 1) + e) - 3 * uppers p v m ≡ e = omega arith in
          rw d
          (get_or-append_right (chain_to p v m) tail (3 * uppers p v m) (3 * (uppers p v (suc m) - 1) + e) 0 (length_chain p v m) (omega arith)
          ∙ (ap (λ k. get_or tail k 0) i ∙ ap (λ b. get_or (cond b (v ∷ suc m ∷ link p v (suc m) ∷ []) []) e 0) h'))
      go (inr ne) rest =
          get_or_append_left (chain_to p v m) tail 0 (3 * (uppers p v w - 1) + e) (omega (arith, length_chain p v m, uppers_mono p v w m (omega arith), uppers_some v w h a))
          ∙ rest (omega arith) le

  -- field e of the record of v and w among the records of 1 to m
  records_at : (v w m e : ℕ) → 1 ≤ v → v ≤ m → upper p v w ≡ true → 1 ≤ w → w ≤ p.size → e < 3 → get_or (records_to p m) (3 * (rank p v w - 1) + e) 0 ≡ get_or (v ∷ w ∷ link p v w ∷ []) e 0
  unfolding records_to
  records_at v w zero e a l h b k le = absurd (omega arith)
  records_at v w (suc m) e a l h b k le = go (cases_eq v (suc m)) (λ i. records_at v w m e a i h b k le)
    where
      go : (v ≡ suc m) ⊎ (v ≡ suc m → ⊥) → (v ≤ m → get_or (records_to p m) (3 * (rank p v w - 1) + e) 0 ≡ get_or (v ∷ w ∷ link p v w ∷ []) e 0) → get_or (records_to p m ++ chain_to p (suc m) p.size) (3 * (rank p v w - 1) + e) 0 ≡ get_or (v ∷ w ∷ link p v w ∷ []) e 0
      go (inl d) rest =
          let c : v - 1 ≡ m = omega arith in
          let c' : pipes_to p (v - 1) ≡ pipes_to p m = ap (pipes_to p) c in
          let i : (3 * (rank p v w - 1) + e) - 3 * pipes_to p m ≡ 3 * (uppers p v w - 1) + e = omega (arith, uppers_some v w h b) in
          get_or-append_right (records_to p m) (chain_to p (suc m) p.size) (3 * pipes_to p m) (3 * (rank p v w - 1) + e) 0 (length_records p m) (omega (arith, uppers_some v w h b))
          ∙ (ap₂ (λ (x j : ℕ). get_or (chain_to p x p.size) j 0) (sym d) i ∙ chain_at v w p.size e h b k le)
      go (inr ne) rest =
          get_or_append_left (records_to p m) (chain_to p (suc m) p.size) 0 (3 * (rank p v w - 1) + e)
          (omega (arith, length_records p m, uppers_some v w h b, pipes_to_step p v a, pipes_to_le p v m (omega arith), uppers_mono p v w p.size k))
          ∙ rest (omega arith)

  -- ---- every index up to the number of pipes is that of a pipe

  pub find_count : (t : ℕ → Bool) (n c : ℕ) → 1 ≤ c → c ≤ count t n → (w : ℕ) × (w < n) × (t w ≡ true) × (count t (suc w) ≡ c)
  find_count t zero c a l = absurd (omega arith)
  find_count t (suc n) c a l = go (cases_lt (count t n) c) (find_count t n c a)
    where
      go : (count t n < c) ⊎ (c ≤ count t n) → (c ≤ count t n → (w : ℕ) × (w < n) × (t w ≡ true) × (count t (suc w) ≡ c)) → (w : ℕ) × (w < suc n) × (t w ≡ true) × (count t (suc w) ≡ c)
      go (inr k) rest =
          let r : (w : ℕ) × (w < n) × (t w ≡ true) × (count t (suc w) ≡ c) = rest k in
          (r.0, omega (arith, r.1), r.2, r.3)
      go (inl k) rest = at (cases_Bool (t n))
        where
          at : (t n ≡ true) ⊎ (t n ≡ false) → (w : ℕ) × (w < suc n) × (t w ≡ true) × (count t (suc w) ≡ c)
          at (inl h) = (n, omega arith, h, omega (arith, l, k, count_one t n h))
          at (inr h) = absurd (omega (arith, l, k, count-nil t n h))

  pub find_record : (m i : ℕ) → 1 ≤ i → i ≤ pipes_to p m → (v : ℕ) × (w : ℕ) × (1 ≤ v) × (v ≤ m) × (upper p v w ≡ true) × (w ≤ p.size) × (i ≡ rank p v w)
  unfolding pipes_to uppers
  find_record zero i a l = absurd (omega arith)
  find_record (suc m) i a l = go (cases_lt (pipes_to p m) i) (find_record m i a)
    where
      go : (pipes_to p m < i) ⊎ (i ≤ pipes_to p m) → (i ≤ pipes_to p m → (v : ℕ) × (w : ℕ) × (1 ≤ v) × (v ≤ m) × (upper p v w ≡ true) × (w ≤ p.size) × (i ≡ rank p v w)) → (v : ℕ) × (w : ℕ) × (1 ≤ v) × (v ≤ suc m) × (upper p v w ≡ true) × (w ≤ p.size) × (i ≡ rank p v w)
      go (inr k) rest =
          let r : (v : ℕ) × (w : ℕ) × (1 ≤ v) × (v ≤ m) × (upper p v w ≡ true) × (w ≤ p.size) × (i ≡ rank p v w) = rest k in
          (r.0, r.1, r.2, omega (arith, r.3), r.4, r.5, r.6)
      go (inl k) rest =
          let r : (w : ℕ) × (w < suc p.size) × (upper p (suc m) w ≡ true) × (count (upper p (suc m)) (suc w) ≡ i - pipes_to p m) = find_count (upper p (suc m)) (suc p.size) (i - pipes_to p m) (omega arith) (omega (arith, l)) in
          let c : suc m - 1 ≡ m = omega arith in
          let c' : pipes_to p (suc m - 1) ≡ pipes_to p m = ap (pipes_to p) c in
          (suc m, r.0, omega arith, omega arith, r.2, omega (arith, r.1), omega (arith, r.3))

  -- ---- the image that is written

  all_fields : List ℕ
  all_fields = (p.size ∷ pipes_to p p.size ∷ 1 ∷ 0 ∷ []) ++ (heads p p.size ++ records_to p p.size)

  written_bytes : written p ≡ bytes_of all_fields
  unfolding written all_fields
  written_bytes =
      sym (bytes_append (p.size ∷ pipes_to p p.size ∷ 1 ∷ 0 ∷ []) (heads p p.size ++ records_to p p.size) ∙ ap (λ t. bytes_of (p.size ∷ pipes_to p p.size ∷ 1 ∷ 0 ∷ []) ++ t) (bytes_append (heads p p.size) (records_to p p.size)))

  field_written : (k j : ℕ) → j ≡ 2 * k → field (written p) j ≡ get_or all_fields k 0
  field_written k j e = ap₂ (λ (bs : List ℕ) (i : ℕ). field bs i) written_bytes e ∙ field_bytes all_fields k

  pub written-size : field (written p) 0 ≡ p.size
  unfolding all_fields
  written-size = field_written 0 0 refl

  pub written_records : field (written p) 2 ≡ pipes_to p p.size
  unfolding all_fields
  written_records = field_written 1 2 refl

  pub written_edition : field (written p) 4 ≡ 1
  unfolding all_fields
  written_edition = field_written 2 4 refl

  pub written_zero : field (written p) 6 ≡ 0
  unfolding all_fields
  written_zero = field_written 3 6 refl

  behind_header : (k : ℕ) → get_or all_fields (4 + k) 0 ≡ get_or (heads p p.size ++ records_to p p.size) k 0
  unfolding all_fields
  behind_header k =
      let e : (4 + k) - 4 ≡ k = omega arith in
      get_or-append_right (p.size ∷ pipes_to p p.size ∷ 1 ∷ 0 ∷ []) (heads p p.size ++ records_to p p.size) 4 (4 + k) 0 refl (omega arith)
      ∙ ap (λ i. get_or (heads p p.size ++ records_to p p.size) i 0) e

  behind_heads : (k : ℕ) → get_or all_fields (4 + (p.size + k)) 0 ≡ get_or (records_to p p.size) k 0
  behind_heads k =
      let e : (p.size + k) - p.size ≡ k = omega arith in
      behind_header (p.size + k)
      ∙ (get_or-append_right (heads p p.size) (records_to p p.size) p.size (p.size + k) 0 (length_heads p p.size) (omega arith) ∙ ap (λ i. get_or (records_to p p.size) i 0) e)

  written_head : (v : ℕ) → 1 ≤ v → v ≤ p.size → field (written p) (head_at v) ≡ link p v v
  written_head v a b =
      let e : suc (v - 1) ≡ v = omega arith in
      field_written (4 + (v - 1)) (head_at v) (omega arith)
      ∙ (behind_header (v - 1) ∙ (get_or_append_left (heads p p.size) (records_to p p.size) 0 (v - 1) (omega (arith, length_heads p p.size)) ∙ (heads_at p.size (v - 1) (omega arith) ∙ ap (λ x. link p x x) e)))

  -- field e of the record of v and w
  written_record : (v w e j : ℕ) → 1 ≤ v → v ≤ p.size → upper p v w ≡ true → 1 ≤ w → w ≤ p.size → e < 3 → j ≡ record_at p.size (rank p v w) + 2 * e → field (written p) j ≡ get_or (v ∷ w ∷ link p v w ∷ []) e 0
  written_record v w e j a b h c d le j-is =
      field_written (4 + (p.size + (3 * (rank p v w - 1) + e))) j (omega arith)
      ∙ (behind_heads (3 * (rank p v w - 1) + e) ∙ records_at v w p.size e a b h c d le)

  -- the record of v and w stands at its index
  pub record Recorded (v w : ℕ) : Type 0 where
    pub near : (image_of (written p)).near (rank p v w) ≡ v
    pub far : (image_of (written p)).far (rank p v w) ≡ w
    pub next : (image_of (written p)).next (rank p v w) ≡ link p v w

  pub recorded : (v w : ℕ) → 1 ≤ v → v ≤ p.size → upper p v w ≡ true → 1 ≤ w → w ≤ p.size → Recorded v w
  unfolding image_of
  recorded v w a b h c d =
      record {
        near = written_record v w 0 (record_at (field (written p) 0) (rank p v w)) a b h c d (omega arith) (omega (arith, written-size));
        far = written_record v w 1 (record_at (field (written p) 0) (rank p v w) + 2) a b h c d (omega arith) (omega (arith, written-size));
        next = written_record v w 2 (record_at (field (written p) 0) (rank p v w) + 4) a b h c d (omega arith) (omega (arith, written-size));
      }

  pub headed : (v : ℕ) → 1 ≤ v → v ≤ p.size → (image_of (written p)).head v ≡ link p v v
  unfolding image_of
  headed v a b = written_head v a b

  pub sized : (image_of (written p)).size ≡ p.size
  unfolding image_of
  sized = written-size

  pub counted : (image_of (written p)).records ≡ pipes_to p p.size
  unfolding image_of
  counted = written_records
