-- Rows that are all stops, in parts. Assumes nothing.
use Prim.Native.Nat.{ℕ, zero, suc, ◌≤◌, ◌<◌}
use Rattle.std.proofs.Common.{arith, leb→le, ltb→lt, le→leb, lt→ltb}
use mathlib.Core.List.{List, [], ◌∷◌, ◌++◌}
use Rattle.std.specs.Prelude.{T, leb, ltb, length, get_or}
use Rattle.std.specs.Float.Ieee.Fits.{and_i, and_l, and_r}
use Rattle.sheet.specs.Fields.{rows_of}
use Rattle.sheet.specs.Depots.{depots_of}
use Rattle.sheet.specs.Stops.{is_stop}
use Rattle.constructive.specs.Right.{links_right}

module _ (s : List ℕ) where
  pub stop_of_lem : (row : ℕ) → T (is_stop s row) → (depots_of s ≤ row) × (row < rows_of s)
  stop_of_lem row t = (leb→le (depots_of s) row (and_l (leb (depots_of s) row) (ltb row (rows_of s)) t), ltb→lt row (rows_of s) (and_r (leb (depots_of s) row) (ltb row (rows_of s)) t))

  pub links_one : (row : ℕ) → depots_of s ≤ row → row < rows_of s → T (links_right s (row ∷ []))
  unfolding links_right
  links_one row l h = and_i (is_stop s row) _ (and_i (leb (depots_of s) row) (ltb row (rows_of s)) (le→leb (depots_of s) row l) (lt→ltb row (rows_of s) h)) tt

  pub links_join : (xs ys : List ℕ) → T (links_right s xs) → T (links_right s ys) → T (links_right s (xs ++ ys))
  unfolding links_right
  links_join [] ys t u = u
  links_join (x ∷ xs) ys t u = and_i (is_stop s x) (links_right s (xs ++ ys)) (and_l (is_stop s x) (links_right s xs) t) (links_join xs ys (and_r (is_stop s x) (links_right s xs) t) u)

  pub links_front : (xs ys : List ℕ) → T (links_right s (xs ++ ys)) → T (links_right s xs)
  unfolding links_right
  links_front [] ys t = tt
  links_front (x ∷ xs) ys t = and_i (is_stop s x) (links_right s xs) (and_l (is_stop s x) (links_right s (xs ++ ys)) t) (links_front xs ys (and_r (is_stop s x) (links_right s (xs ++ ys)) t))

  pub links_back : (xs ys : List ℕ) → T (links_right s (xs ++ ys)) → T (links_right s ys)
  unfolding links_right
  links_back [] ys t = t
  links_back (x ∷ xs) ys t = links_back xs ys (and_r (is_stop s x) (links_right s (xs ++ ys)) t)

  pub links_at : (rows : List ℕ) (i : ℕ) → i < length rows → T (links_right s rows) → (depots_of s ≤ get_or rows i 0) × (get_or rows i 0 < rows_of s)
  unfolding links_right
  links_at [] i h t = absurd (omega arith)
  links_at (row ∷ rows) zero h t = stop_of_lem row (and_l (is_stop s row) (links_right s rows) t)
  links_at (row ∷ rows) (suc i) h t = links_at rows i (omega arith) (and_r (is_stop s row) (links_right s rows) t)

  -- the stop between two parts
  pub links_mid : (xs : List ℕ) (row : ℕ) (ys : List ℕ) → T (links_right s (xs ++ (row ∷ ys))) → (depots_of s ≤ row) × (row < rows_of s)
  unfolding links_right
  links_mid [] row ys t = stop_of_lem row (and_l (is_stop s row) (links_right s ys) t)
  links_mid (x ∷ xs) row ys t = links_mid xs row ys (and_r (is_stop s x) (links_right s (xs ++ (row ∷ ys))) t)
