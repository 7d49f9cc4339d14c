-- The stops of a sheet: its rows that are no depots. Assumes nothing.
use Rattle.std.specs.Prelude.{ℕ, zero, suc, ◌+◌, ◌-◌, ◌<◌, Bool, true, false, ◌&&◌, List, leb, ltb, ◌≡◌, refl}
use Rattle.std.proofs.Common.{◌∙◌, arith, ltb-true, ltb-false, leb-true, lt-ltb, le-ltb}
use Rattle.lists.specs.Count.{count, one}
use Rattle.lists.specs.Laws.Filter.{those_count}
use Rattle.sheet.specs.Fields.{rows_of}
use Rattle.sheet.specs.Depots.{depots_of, leading, at_least_one}
use Rattle.sheet.specs.Stops.{is_stop, stops_with, all_stops}

-- ---- row 0 is a depot in any case
depot_one : (n : ℕ) → 0 < at_least_one n
depot_one zero = omega arith
depot_one (suc n) = omega arith

pub depots_some : (s : List ℕ) → 0 < depots_of s
unfolding depots_of
depots_some s = depot_one (leading s (rows_of s) 0)

-- ---- each once
pub stops_count : (s : List ℕ) (p : ℕ → Bool) (x : ℕ) → count x (stops_with s p) ≡ one (is_stop s x && p x)
stops_count s p x = those_count p (rows_of s - depots_of s) (depots_of s) x ∙ go (leb (depots_of s) x) (ltb x (rows_of s)) refl refl
  where
    go : (b t : Bool) → leb (depots_of s) x ≡ b → ltb x (rows_of s) ≡ t → one (b && (ltb x (depots_of s + (rows_of s - depots_of s)) && p x)) ≡ one ((b && t) && p x)
    go true true e f = let l = leb-true (depots_of s) x e in let k = ltb-true x (rows_of s) f in rw (lt-ltb x (depots_of s + (rows_of s - depots_of s)) (omega arith))
    go true false e f = let l = leb-true (depots_of s) x e in let k = ltb-false x (rows_of s) f in rw (le-ltb x (depots_of s + (rows_of s - depots_of s)) (omega arith))
    go false t e f = refl

pub all_once : (s : List ℕ) (x : ℕ) → count x (all_stops s) ≡ one (is_stop s x)
all_once s x = stops_count s (λ c. true) x ∙ go (is_stop s x)
  where
    go : (b : Bool) → one (b && true) ≡ one b
    go true = refl
    go false = refl
