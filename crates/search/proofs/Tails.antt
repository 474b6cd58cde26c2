-- Lists that agree from an index on.
use Rattle.std.proofs.Common.{◌≡◌, ℕ, ◌+◌, ◌-◌, ◌<◌, ◌≤◌, List, length, get_or, drop, sym, ap, ◌∙◌, arith}
use Rattle.std.proofs.lemmas.List.{length-drop, get_or-drop, ext_get_or}

pub same_drop : (m : ℕ) (us ws : List ℕ) → length us ≡ length ws → ((i : ℕ) → m ≤ i → i < length us → get_or us i 0 ≡ get_or ws i 0) → drop m us ≡ drop m ws
same_drop m us ws long same = ext_get_or 0 (drop m us) (drop m ws) length_same entry
  where
    length_same : length (drop m us) ≡ length (drop m ws)
    length_same = length-drop m us ∙ (ap (λ k. k - m) long ∙ sym (length-drop m ws))

    entry : (i : ℕ) → i < length (drop m us) → get_or (drop m us) i 0 ≡ get_or (drop m ws) i 0
    entry i h = get_or-drop m us i 0 ∙ (same (m + i) (omega arith) (omega (arith, length-drop m us)) ∙ sym (get_or-drop m ws i 0))
