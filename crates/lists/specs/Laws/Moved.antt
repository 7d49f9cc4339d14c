-- A stop taken out of a list, and one put into a list. Assumes nothing.
use Rattle.std.specs.Prelude.{◌≡◌, ℕ, suc, ◌+◌, ◌<◌, List, ◌∷◌, eqb, length, get_or, take}
use Rattle.std.proofs.Common.{sym, ◌∙◌, add-one, length-append, take-append-drop}
use Rattle.std.proofs.Math.Path.{ap}
use native.Mathlib.Omega.{arith}
use Rattle.std.proofs.Math.ListN.{drop}
use Rattle.std.proofs.Math.Seq.{split_at}
use Rattle.lists.specs.Count.{one, count}
use Rattle.lists.specs.Laws.Once.{count_append}
use Rattle.lists.specs.Every.{Every}
use Rattle.lists.specs.Laws.Every.{every_append, every_take, every_drop}
use Rattle.lists.specs.Moved.{without, inserted}

-- ---- taken out
module _ (left : List ℕ) (j : ℕ) (h : j < length left) where
  pub without_count : (x : ℕ) → count x left ≡ one (eqb x (get_or left j 0)) + count x (without j left)
  unfolding count
  without_count x =
      let a = count_append x (take j left) (get_or left j 0 ∷ drop (suc j) left) in
      let b = count_append x (take j left) (drop (j + 1) left) in
      let d : count x (drop (suc j) left) ≡ count x (drop (j + 1) left) = ap (λ (n : ℕ). count x (drop n left)) (sym (add-one j)) in
      ap (count x) (split_at left j 0 h) ∙ omega arith

  pub without_length : suc (length (without j left)) ≡ length left
  without_length =
      let a = length-append (take j left) (get_or left j 0 ∷ drop (suc j) left) in
      let b = length-append (take j left) (drop (j + 1) left) in
      let d : length (drop (suc j) left) ≡ length (drop (j + 1) left) = ap (λ (n : ℕ). length (drop n left)) (sym (add-one j)) in
      let e = ap length (split_at left j 0 h) in
      omega (arith, a, b, d, e)

pub without_every : (P : ℕ → Type 0) (left : List ℕ) (j : ℕ) → Every P left → Every P (without j left)
without_every P left j e = every_append P (take j left) (drop (j + 1) left) (every_take P j left e) (every_drop P (j + 1) left e)

-- ---- put in
module _ (k row : ℕ) (route : List ℕ) where
  pub inserted_count : (x : ℕ) → count x (inserted k row route) ≡ one (eqb x row) + count x route
  unfolding count
  inserted_count x =
      let a = count_append x (take k route) (row ∷ drop k route) in
      let b = count_append x (take k route) (drop k route) in
      let e = ap (count x) (take-append-drop k route) in
      omega (arith, a, b, e)

  pub inserted_length : length (inserted k row route) ≡ suc (length route)
  inserted_length =
      let a = length-append (take k route) (row ∷ drop k route) in
      let b = length-append (take k route) (drop k route) in
      let e = ap length (take-append-drop k route) in
      omega (arith, a, b, e)

  pub inserted_every : (P : ℕ → Type 0) → P row → Every P route → Every P (inserted k row route)
  inserted_every P p e = every_append P (take k route) (row ∷ drop k route) (every_take P k route e) (p, every_drop P k route e)
