-- Counting keeps the laws.
use Rattle.std.specs.Prelude.{◌≡◌, ℕ, ◌+◌, ◌<◌, ◌≤◌, true, List, [], ◌∷◌, ◌++◌, length, refl}
use Rattle.std.specs.declared.cmp.Ordering.TheVariants.{Less}
use Rattle.std.proofs.Common.{arith}
use Rattle.std.proofs.lemmas.List.{length_push}
use Rattle.std.proofs.lemmas.Bool.Decides.{nat_tests}
use Rattle.label.specs.declared.counting.Count.{Count}
use Rattle.label.specs.Marks.{has, is_mark}
use Rattle.label.specs.Laws.{Laws}
use Rattle.label.specs.Counts.{by_number, no_count, counted, compared_counts, CountStands}
use Rattle.label.specs.Fallen.{falls-length, falls_push, fewer_length}

count_raises : (a : Count) (s : List ℕ) (m : ℕ) → is_mark m ≡ true → CountStands a s → ((x : ℕ) → has s x ≡ true → m < x) → CountStands (counted a m) (s ++ m ∷ [])
count_raises a s m k h above =
    let i : 1 ≤ m = grind (arith, nat_tests) in
    let j : m ≤ 512 = grind (arith, nat_tests) in
    let short : length s + m < 513 = falls-length 513 m s (omega arith) h.1 above in
    let one_more : length (s ++ m ∷ []) ≡ length s + 1 = length_push s m in
    (grind (arith, nat_tests), falls_push 513 m s i (omega arith) h.1 above)

by_number_less : (a b : ℕ) → a < b → by_number a b ≡ Less
by_number_less a b l = grind (arith, nat_tests)

pub counting_lawful : Laws no_count counted compared_counts CountStands
counting_lawful = record {
  empty = (refl, refl);
  raises = count_raises;
  turns = λ a b. grind (arith, nat_tests);
  less_less = λ a b c h k. grind (arith, nat_tests);
  less_equal = λ a b c h k. grind (arith, nat_tests);
  equal_less = λ a b c h k. grind (arith, nat_tests);
  equal_equal = λ a b c h k. grind (arith, nat_tests);
  fewer = λ a b s t m h k sub x y. by_number_less a.0 b.0 (omega (arith, fewer_length 513 s t m h.1 k.1 sub x y));
}
