-- A list cut into parts, and a walk to where its first part ends. Assumes nothing.
use Rattle.std.specs.Prelude.{◌≡◌, Bool, true, false, length, get_or, take, drop}
use Rattle.std.proofs.Math.Path.{refl}
use Rattle.std.proofs.Common.{sym, ap, ◌∙◌, le_refl, length-drop, take-append-drop, take-suc, drop-drop, get_or-drop}
use Prim.Native.Nat.{ℕ, suc, ◌+◌, ◌-◌, ◌≤◌, ◌<◌, zero-le}
use native.Mathlib.Omega.{arith}
use mathlib.Core.List.{List, [], ◌∷◌, ◌++◌}
use Rattle.lists.specs.Every.{Every}
use Rattle.solomon_text.specs.Lines.{parts_of, cut_or, first_or, after_first}
use Rattle.lists.specs.Laws.Every.{every_append}

-- no element is cut
abbrev pub Uncut : (ℕ → Bool) → List ℕ → Type 0
Uncut cut xs = Every (λ (x : ℕ). cut x ≡ false) xs

module _ (cut : ℕ → Bool) where
  -- ---- the parts
  pub one_part : (xs : List ℕ) → Uncut cut xs → parts_of cut xs ≡ xs ∷ []
  unfolding parts_of
  one_part [] u = refl
  one_part (x ∷ xs) u = rw (u.0, one_part xs u.1) refl

  pub part_first : (part : List ℕ) (x : ℕ) (rest : List ℕ) → Uncut cut part → cut x ≡ true → parts_of cut (part ++ x ∷ rest) ≡ part ∷ parts_of cut rest
  unfolding parts_of
  part_first [] x rest u e = rw e refl
  part_first (y ∷ part) x rest u e = rw (u.0, part_first part x rest u.1 e) refl

  some_part : (b : ℕ) (t : Bool) (parts : List (List ℕ)) → cut_or t b parts ≡ first_or (cut_or t b parts) ∷ after_first (cut_or t b parts)
  some_part b true parts = refl
  some_part b false [] = refl
  some_part b false (part ∷ parts) = refl

  pub first_and_rest : (xs : List ℕ) → parts_of cut xs ≡ first_or (parts_of cut xs) ∷ after_first (parts_of cut xs)
  unfolding parts_of
  first_and_rest [] = refl
  first_and_rest (x ∷ xs) = some_part x (cut x) (parts_of cut xs)

  first_longer : (b : ℕ) (t : Bool) (parts : List (List ℕ)) → length (first_or (cut_or t b parts)) ≤ suc (length (first_or parts))
  first_longer b true parts = zero-le
  first_longer b false [] = le_refl 1
  first_longer b false (part ∷ parts) = le_refl (suc (length part))

  pub first_within : (xs : List ℕ) → length (first_or (parts_of cut xs)) ≤ length xs
  unfolding parts_of
  first_within [] = zero-le
  first_within (x ∷ xs) =
      let h = first_longer x (cut x) (parts_of cut xs) in
      let i = first_within xs in
      omega arith

-- ---- the walk: nothing is cut from `at` up to `end`
pub record Walked (cut : ℕ → Bool) (xs : List ℕ) (at end : ℕ) : Type 0 where
  pub from : at ≤ end
  pub within : end ≤ length xs
  pub uncut : Uncut cut (take (end - at) (drop at xs))

-- it ends where something is, or with the list
pub record FirstPart (cut : ℕ → Bool) (xs : List ℕ) (at end : ℕ) : Type 0 where
  pub walked : Walked cut xs at end
  pub stops : end < length xs → cut (get_or xs end 0) ≡ true

pub take_one_more : (xs : List ℕ) (at end : ℕ) → at ≤ end → end < length xs → take (end + 1 - at) (drop at xs) ≡ take (end - at) (drop at xs) ++ (get_or xs end 0 ∷ [])
take_one_more xs at end f w =
    let more : end + 1 - at ≡ suc (end - at) = omega arith in
    let place : at + (end - at) ≡ end = omega arith in
    ap (λ (n : ℕ). take n (drop at xs)) more
    ∙ take-suc (drop at xs) (end - at) 0 (rw length-drop (omega arith))
    ∙ ap (λ (x : ℕ). take (end - at) (drop at xs) ++ (x ∷ [])) (get_or-drop at xs (end - at) 0 ∙ ap (λ (n : ℕ). get_or xs n 0) place)

-- what is walked and what is left
pub walked_and_left : (xs : List ℕ) (at end : ℕ) → at ≤ end → drop at xs ≡ take (end - at) (drop at xs) ++ drop end xs
walked_and_left xs at end f =
    let place : at + (end - at) ≡ end = omega arith in
    sym (take-append-drop (end - at) (drop at xs)) ∙ ap (λ (ys : List ℕ). take (end - at) (drop at xs) ++ ys) (drop-drop (end - at) at xs ∙ ap (λ (n : ℕ). drop n xs) place)

module _ (cut : ℕ → Bool) (xs : List ℕ) (at : ℕ) where
  pub begins : at ≤ length xs → Walked cut xs at at
  begins h =
      let none : at - at ≡ 0 = omega arith in
      record { from = le_refl at; within = h; uncut = rw none tt }

  pub goes_on : (end : ℕ) → Walked cut xs at end → end < length xs → cut (get_or xs end 0) ≡ false → Walked cut xs at (end + 1)
  goes_on end w h e =
      let f = w.from in
      record {
        from = omega arith;
        within = omega arith;
        uncut = rw (take_one_more xs at end f h) (every_append (λ (x : ℕ). cut x ≡ false) (take (end - at) (drop at xs)) (get_or xs end 0 ∷ []) w.uncut (e, tt));
      }
