-- A sound image loaded into a new set of its n, and then an order: the order is that of the image's plan.
use Rattle.std.proofs.Common.{◌≡◌, ℕ, ◌+◌, ◌≤◌, Bool, true, false, not, ◌&&◌, ◌||◌, ltb, List, [], ◌∷◌, Ok, Err, Result, sym, refl, ap, ◌∙◌, subst, true≢false, arith}
use Rattle.std.proofs.lemmas.Bool.{le-ltb, ltb-false}
use Rattle.std.specs.declared.convert.Infallible.{Infallible}
use Rattle.plan.specs.Plans.{Plan, Sound, within, blank}
use Rattle.plan.specs.Refusals.{Verdict, carried, checked, after}
use Rattle.plan.proofs.PipeLaws.{within_parts}
use Rattle.plan.proofs.Verdicts.{all_passed}
use Rattle.chained.specs.Making.{new_verdict}
use Rattle.label.specs.Sets.{no_marks, with_mark, compared_sets}
use Rattle.label.specs.declared.lexicographic.Lexicographic.{Lexicographic}
use Rattle.image.specs.Images.{image_of}
use Rattle.image.specs.Reading.{read_verdict, is_carried}
use Rattle.image.specs.Sounds.{within_from}
use Rattle.order.specs.Reports as report
use Rattle.set.specs.Ledgers.{Ledger, seen, clear, opened, load_checks, with_loaded, then}
use Rattle.set.proofs.Clears.{clear_all}
use Rattle.set.proofs.Loads.{load_passes, load_laws}
use Rattle.calls.specs.Deeds.{loads, orders, next}
use Rattle.calls.specs.Heard.{Heard, Lists, said}
use Rattle.calls.specs.Runs.{Answered, Ran, RanOrFailed, ChangeHeard, OrderHeard}
use Rattle.calls.specs.declared.answer.Outcome.{Outcome}
use Rattle.plan.specs.declared.refusal.Refusal.{Refusal}
use Rattle.calls.specs.declared.answer.Outcome.TheVariants.{Done, Ordered}
use Rattle.image_order.specs.Firsts.{or_told, first_told}
use Rattle.image_order.specs.ImageOrders.{verdict, Left, ImageOrdered}
use Rattle.image_order.proofs.FirstTold.{or_told_done}

-- a plan without pipes is a plan, and a new set of it has no pipe and every junction in service
pub blank_sound : (n : ℕ) → 1 ≤ n → n ≤ 512 → Sound (blank n)
blank_sound n some few = record {
  some = some;
  few = few;
  inside = λ v h. within_parts n v h;
  ends = λ v w h. absurd (true≢false (sym h));
  apart = λ v. refl;
  alike = λ v w. refl;
}

and-true : (b : Bool) → b ≡ true → (b && true) ≡ true
and-true true e = refl
and-true false e = e

opened-clear : (n s : ℕ) → clear (seen (opened (blank n) s)) ≡ true
opened-clear n s = clear_all (seen (opened (blank n) s)) (n + 1) (omega arith) (λ u a b. (and-true (within n u) (within_from n u a (omega arith)), λ w k. refl))

-- a register that was made had the memory that it needs
pub room_of : (n long : ℕ) → carried ≡ new_verdict n 8000 long → n + 32000 ≤ long
room_of n long h = ltb-false long (n + 32000) (all_passed ((not (within 512 n) || ltb 8000 8000, 1) ∷ (ltb long (n + 32000), 8) ∷ []) (sym h)).1.0

-- a change that was carried out says no more than that, and writes no answer list
change_done : (a : Result Outcome Refusal) (before now : Lists) → said a ≡ carried → ChangeHeard before a now → (a ≡ (Ok Done)) × (now ≡ before)
change_done (Ok Done) before now s h = (refl, h)
change_done (Err e) before now s h = absurd (true≢false (sym (ap is_carried s)))
change_done (Ok (Ordered n r)) before now s h = absurd h

module _ (bytes : List ℕ) (n : ℕ) (sound : read_verdict bytes ≡ carried) (size : n ≡ (image_of bytes).size) (some : 1 ≤ n) (few : n ≤ 512) (most : (image_of bytes).records ≤ 8000) where
  passes : load_checks (opened (blank n) 8000) bytes ≡ carried
  passes = load_passes (opened (blank n) 8000) bytes (record { sound = sound; size = sym size; new = opened-clear n 8000; room = most })

  module _ (tight : Bool) where
    loaded_next : next {K = Lexicographic} (opened (blank n) 8000) (loads bytes) ≡ with_loaded (opened (blank n) 8000) bytes
    loaded_next = ap (λ (v : Verdict). after v (with_loaded (opened (blank n) 8000) bytes) (opened (blank n) 8000)) passes

    -- an order of the loaded ledger is one of the image's plan
    of_image : (k : Lexicographic) (before now : Lists) (a : Result Outcome Refusal) → OrderHeard {K = Lexicographic} (λ k. no_marks) (λ k. with_mark) (λ k. compared_sets) (with_loaded (opened (blank n) 8000) bytes) before k a now → Left bytes before a now
    of_image k before now (Ok Done) h = h
    of_image k before now (Err e) h = h
    of_image k before now (Ok (Ordered m r)) h = (
      h.0 ∙ (load_laws.writes (opened (blank n) 8000) bytes).size ∙ size,
      subst (λ (p : Plan). report.Ordered no_marks with_mark compared_sets p r before.places before.ring before.rows now.places now.ring now.rows) (load_laws.loaded (opened (blank n) 8000) bytes (blank_sound n some few) passes) h.1,
    )

    two : (k : Lexicographic) (long : ℕ) → n + 32000 ≤ long → (before now : Lists) (h g : Heard) → Answered {K = Lexicographic} (λ k. no_marks) (λ k. with_mark) (λ k. compared_sets) (opened (blank n) 8000) before (loads bytes) h → Answered {K = Lexicographic} (λ k. no_marks) (λ k. with_mark) (λ k. compared_sets) (next {K = Lexicographic} (opened (blank n) 8000) (loads bytes)) h.lists (orders tight k) g → now ≡ g.lists → ImageOrdered bytes long tight before (first_told (h ∷ g ∷ [])) now
    two k long room before now h g a b e =
        let done : (h.answer ≡ (Ok Done)) × (h.lists ≡ before) = change_done h.answer before h.lists (a.answers ∙ passes) a.leaves in
        let told : first_told (h ∷ g ∷ []) ≡ g.answer = ap (λ (x : Result Outcome Refusal). or_told x (or_told g.answer (Ok Done))) done.0 ∙ or_told_done g.answer in
        let left : Left bytes before g.answer g.lists = of_image k before g.lists g.answer (subst (λ (l : Ledger). OrderHeard {K = Lexicographic} (λ k. no_marks) (λ k. with_mark) (λ k. compared_sets) l before k g.answer g.lists) loaded_next (subst (λ (x : Lists). OrderHeard {K = Lexicographic} (λ k. no_marks) (λ k. with_mark) (λ k. compared_sets) (next {K = Lexicographic} (opened (blank n) 8000) (loads bytes)) x k g.answer g.lists) done.1 b.leaves)) in
        let fits : ltb long ((image_of bytes).size + 32000) ≡ false = le-ltb long ((image_of bytes).size + 32000) (omega (arith, size, room)) in
        let says : verdict bytes long tight ≡ checked ((tight, 8) ∷ []) = ap (λ (v : Verdict). then v (checked ((ltb long ((image_of bytes).size + 32000), 8) ∷ (tight, 8) ∷ []))) sound ∙ ap (λ (x : Bool). checked ((x, 8) ∷ (tight, 8) ∷ [])) fits in
        record {
          answers = ap said told ∙ b.answers ∙ sym says;
          leaves = subst (λ (x : Lists). Left bytes before (first_told (h ∷ g ∷ [])) x) (sym e) (subst (λ (x : Result Outcome Refusal). Left bytes before x g.lists) (sym told) left);
        }

    load_and_order : (k : Lexicographic) (long : ℕ) → n + 32000 ≤ long → (before now : Lists) (l' : Ledger) (hs : List Heard) → Ran {K = Lexicographic} (λ k. no_marks) (λ k. with_mark) (λ k. compared_sets) (opened (blank n) 8000) before (loads bytes ∷ orders tight k ∷ []) l' now hs → ImageOrdered bytes long tight before (first_told hs) now
    load_and_order k long room before now l' [] r = absurd r.run
    load_and_order k long room before now l' (h ∷ []) r = absurd r.run.1
    load_and_order k long room before now l' (h ∷ g ∷ []) r = two k long room before now h g r.run.0 r.run.1.0 r.lists
    load_and_order k long room before now l' (h ∷ g ∷ x ∷ hs) r = absurd r.run.1.1

  -- what a run of the two calls keeps, where its listener has the first answer that says more; tight tells for each n whether memory for an order is too short
  pub kept_ordered : (tight : ℕ → Bool) (k : Lexicographic) (long : ℕ) → n + 32000 ≤ long → (l l' : Ledger) → l ≡ opened (blank n) 8000 → (before now : Lists) (a : Result Outcome Refusal) (r : Result Unit Infallible) → RanOrFailed {K = Lexicographic} (λ k. no_marks) (λ k. with_mark) (λ k. compared_sets) l before (loads bytes ∷ orders (tight l.base.size) k ∷ []) l' now (λ hs. (Ok Done) ≡ first_told hs) (λ hs. a ≡ first_told hs) r → ImageOrdered bytes long (tight (image_of bytes).size) before a now
  kept_ordered tight k long room l l' is before now a (Err e) h = elim e [ ]
  kept_ordered tight k long room l l' is before now a (Ok u) h =
      subst (λ (m : ℕ). ImageOrdered bytes long (tight m) before a now) size
      (subst (λ (x : Result Outcome Refusal). ImageOrdered bytes long (tight n) before x now) (sym (h.2 [] refl))
      (load_and_order (tight n) k long room before now l' h.0 (subst (λ (m : Ledger). Ran {K = Lexicographic} (λ k. no_marks) (λ k. with_mark) (λ k. compared_sets) m before (loads bytes ∷ orders (tight m.base.size) k ∷ []) l' now h.0) is h.1)))
