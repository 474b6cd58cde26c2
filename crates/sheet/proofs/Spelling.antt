-- From the parts of a line to the call that it spells, and back.
use Rattle.std.proofs.Common.{◌≡◌, ℕ, true, false, ◌||◌, eqb, List, [], ◌∷◌, ◌++◌, get_or, Some, None, Option, sym, refl, ap, ◌∙◌, subst, append-nil, arith}
use Rattle.std.proofs.lemmas.Bool.{eqb-true, and_parts}
use Rattle.std.proofs.lemmas.Bool.Decides.{nat_tests}
use Rattle.std.specs.Option.{option_map}
use Rattle.sheet.specs.Arguments.{numbered, number_of, behind, OneArgument, TwoArguments}
use Rattle.sheet.specs.Calls.{Numeral, One, Two, Spells, Spelled}
use Rattle.sheet.specs.Fields.{Read, numeral, sort, sort_of, text_of, a_verb}
use Rattle.sheet.specs.Lines.{front}
use Rattle.sheet.specs.declared.call.Call.{Call}
use Rattle.sheet.specs.declared.call.Call.TheVariants.{New, Join, Cut, Shut, Open, OrderLexicographic, OrderCounting}
use Rattle.sheet.specs.declared.field.Field.{Field}
use Rattle.sheet.proofs.Cutting.{front-back, front_free, front_all}
use Rattle.sheet.proofs.Numerals.{numeral_free}

-- a number behind a blank, and what follows
pub numbered_splits : (rest : List ℕ) → numbered rest ≡ true → (a : List ℕ) × (rest ≡ 32 ∷ (a ++ behind rest)) × Numeral a (number_of rest)
numbered_splits [] h = cc
numbered_splits (b ∷ bs) h =
    let p = and_parts (eqb b 32) (numeral (front 32 bs)) h in
    (front 32 bs, ap (λ x. x ∷ bs) (eqb-true b 32 p.0) ∙ ap (λ xs. 32 ∷ xs) (sym (front-back 32 bs)), (p.1, refl))

pub spelled_one : (letter : ℕ) (rest : List ℕ) (n : ℕ) → numbered rest ≡ true → n ≡ number_of rest → behind rest ≡ [] → One letter (letter ∷ rest) n
spelled_one letter rest n h e last =
    let s = numbered_splits rest h in
    (s.0, ap (λ xs. letter ∷ xs) (s.1 ∙ ap (λ xs. 32 ∷ (s.0 ++ xs)) last ∙ ap (λ xs. 32 ∷ xs) (append-nil s.0)), (s.2.0, e ∙ s.2.1))

pub spelled_two : (letter : ℕ) (rest : List ℕ) (m n : ℕ) → numbered rest ≡ true → numbered (behind rest) ≡ true → m ≡ number_of rest → n ≡ number_of (behind rest) → behind (behind rest) ≡ [] → Two letter (letter ∷ rest) m n
spelled_two letter rest m n h k e f last =
    let s = numbered_splits rest h in
    let t = numbered_splits (behind rest) k in
    let tail : behind rest ≡ 32 ∷ t.0 = t.1 ∙ ap (λ xs. 32 ∷ (t.0 ++ xs)) last ∙ ap (λ xs. 32 ∷ xs) (append-nil t.0) in
    (s.0, t.0, ap (λ xs. letter ∷ xs) (s.1 ∙ ap (λ xs. 32 ∷ (s.0 ++ xs)) tail), (s.2.0, e ∙ s.2.1), (t.2.0, f ∙ t.2.1))

same_tail : (b c : ℕ) (xs ys : List ℕ) → b ∷ xs ≡ c ∷ ys → (b ≡ c) × (xs ≡ ys)
same_tail b c xs ys e = (cc, cc)

pub one_read : (letter b : ℕ) (rest : List ℕ) (n : ℕ) → One letter (b ∷ rest) n → (b ≡ letter) × (numbered rest ≡ true) × (behind rest ≡ [])
one_read letter b rest n h =
    let a = h.0 in
    let s = same_tail b letter rest (32 ∷ a) h.1 in
    let f = front_all 32 a (numeral_free a h.2.0) in
    let num : numeral (front 32 a) ≡ true = ap numeral f.0 ∙ h.2.0 in
    (s.0, ap numbered s.1 ∙ num, ap behind s.1 ∙ f.1)

pub two_read : (letter b : ℕ) (rest : List ℕ) (m n : ℕ) → Two letter (b ∷ rest) m n → (b ≡ letter) × (numbered rest ≡ true) × (numbered (behind rest) ≡ true) × (behind (behind rest) ≡ [])
two_read letter b rest m n h =
    let a = h.0 in
    let d = h.1 in
    let s = same_tail b letter rest (32 ∷ (a ++ 32 ∷ d)) h.2 in
    let f = front_free 32 a d (numeral_free a h.3.0) in
    let g = front_all 32 d (numeral_free d h.4.0) in
    let next : behind rest ≡ 32 ∷ d = ap behind s.1 ∙ f.1 in
    let num : numeral (front 32 (a ++ 32 ∷ d)) ≡ true = ap numeral f.0 ∙ h.3.0 in
    let num' : numeral (front 32 d) ≡ true = ap numeral g.0 ∙ h.4.0 in
    (s.0, ap numbered s.1 ∙ num, ap numbered next ∙ num', ap behind next ∙ g.1)

-- the verb of each call
abbrev pub letter_of : Call → ℕ
letter_of (New n) = 78
letter_of (Join v w) = 74
letter_of (Cut v w) = 67
letter_of (Shut v) = 83
letter_of (Open v) = 79
letter_of OrderLexicographic = 76
letter_of OrderCounting = 75

-- what a call has behind its verb
abbrev pub Follows : List ℕ → Call → Type 0
Follows rest (New n) = (numbered rest ≡ true) × (behind rest ≡ [])
Follows rest (Join v w) = (numbered rest ≡ true) × (numbered (behind rest) ≡ true) × (behind (behind rest) ≡ [])
Follows rest (Cut v w) = (numbered rest ≡ true) × (numbered (behind rest) ≡ true) × (behind (behind rest) ≡ [])
Follows rest (Shut v) = (numbered rest ≡ true) × (behind rest ≡ [])
Follows rest (Open v) = (numbered rest ≡ true) × (behind rest ≡ [])
Follows rest OrderLexicographic = rest ≡ []
Follows rest OrderCounting = rest ≡ []

pub spelled_read : (b : ℕ) (rest : List ℕ) (c : Call) → Spells (b ∷ rest) c → (b ≡ letter_of c) × Follows rest c
spelled_read b rest (New n) h = let r = one_read 78 b rest n h in (r.0, (r.1, r.2))
spelled_read b rest (Join v w) h = let r = two_read 74 b rest v.0 w.0 h in (r.0, (r.1, r.2, r.3))
spelled_read b rest (Cut v w) h = let r = two_read 67 b rest v.0 w.0 h in (r.0, (r.1, r.2, r.3))
spelled_read b rest (Shut v) h = let r = one_read 83 b rest v.0 h in (r.0, (r.1, r.2))
spelled_read b rest (Open v) h = let r = one_read 79 b rest v.0 h in (r.0, (r.1, r.2))
spelled_read b rest OrderLexicographic h = same_tail b 76 rest [] h
spelled_read b rest OrderCounting h = same_tail b 75 rest [] h

-- the call of a letter that takes one number, made of what was read behind the letter
pub with_one : (b : ℕ) (rest : List ℕ) (o : Option ℕ) (c : Option Call) (make : ℕ → Call) → (eqb b 74 || eqb b 67 || eqb b 76 || eqb b 75) ≡ false → ((n : ℕ) → One b (b ∷ rest) n → Spells (b ∷ rest) (make n)) → OneArgument rest o → c ≡ option_map make o → Spelled (b ∷ rest) c
with_one b rest (Some n) c make other spells h e = rw e (spells n (spelled_one b rest n h.0 h.1 h.2))
with_one b rest None c make other spells h e = rw e (λ call s. go call (spelled_read b rest call s))
  where
    go : (call : Call) → (b ≡ letter_of call) × Follows rest call → ⊥
    go (New n) r = h r.1.0 r.1.1
    go (Join v w) r = grind (arith, nat_tests)
    go (Cut v w) r = grind (arith, nat_tests)
    go (Shut v) r = h r.1.0 r.1.1
    go (Open v) r = h r.1.0 r.1.1
    go OrderLexicographic r = grind (arith, nat_tests)
    go OrderCounting r = grind (arith, nat_tests)

-- the same of a letter that takes two numbers
pub with_two : (b : ℕ) (rest : List ℕ) (o : Option (ℕ × ℕ)) (c : Option Call) (make : ℕ × ℕ → Call) → (eqb b 78 || eqb b 83 || eqb b 79 || eqb b 76 || eqb b 75) ≡ false → ((x : ℕ × ℕ) → Two b (b ∷ rest) x.0 x.1 → Spells (b ∷ rest) (make x)) → TwoArguments rest o → c ≡ option_map make o → Spelled (b ∷ rest) c
with_two b rest (Some x) c make other spells h e = rw e (spells x (spelled_two b rest x.0 x.1 h.0 h.1 h.2 h.3 h.4))
with_two b rest None c make other spells h e = rw e (λ call s. go call (spelled_read b rest call s))
  where
    go : (call : Call) → (b ≡ letter_of call) × Follows rest call → ⊥
    go (New n) r = grind (arith, nat_tests)
    go (Join v w) r = h r.1.0 r.1.1 r.1.2
    go (Cut v w) r = h r.1.0 r.1.1 r.1.2
    go (Shut v) r = grind (arith, nat_tests)
    go (Open v) r = grind (arith, nat_tests)
    go OrderLexicographic r = grind (arith, nat_tests)
    go OrderCounting r = grind (arith, nat_tests)

-- a verb is one letter
verb_alone : (xs : List ℕ) → a_verb ≡ sort xs → xs ≡ get_or xs 0 0 ∷ []
verb_alone [] h = cc
verb_alone (x ∷ []) h = refl
verb_alone (x ∷ y ∷ xs) h = grind (arith, nat_tests)

-- a line whose first field is a verb spells what the verb's letter and the rest spell
pub spelled_line : (line rest : List ℕ) (field : Field) (b : ℕ) (c : Option Call) → Read line 0 field rest → sort_of field ≡ a_verb → get_or (text_of field) 0 0 ≡ b → Spelled (b ∷ rest) c → Spelled line c
spelled_line line rest field b c read kind letter h =
    let text : text_of field ≡ front 32 line = read.text in
    let alone : text_of field ≡ b ∷ [] = verb_alone (text_of field) (sym kind ∙ read.kind ∙ ap sort (sym text)) ∙ ap (λ x. x ∷ []) letter in
    let whole : b ∷ rest ≡ line = ap (λ xs. xs ++ rest) (sym alone ∙ text) ∙ ap (λ xs. front 32 line ++ xs) read.left ∙ front-back 32 line in
    subst (λ xs. Spelled xs c) whole h
