-- What refusal 10 asks of an outcome that is read off a plan: "unknown id, a link to no stop, or a stop not exactly once in all chains". Assumes nothing.
use Rattle.std.specs.Prelude.{ℕ, ◌≤◌, ◌<◌, Bool, true, false, ◌||◌, List, [], ◌∷◌, leb, ltb, eqb, T, ◌≡◌, refl}
use Rattle.std.proofs.Common.{leb→le, ltb→lt, eqb→eq, sym, subst, arith, eq-eqb}
use Rattle.std.specs.Float.Ieee.Fits.{and_l, and_r, and_i}
use Rattle.lists.specs.Count.{one, count}
use Rattle.lists.specs.Once.{Stops}
use Rattle.lists.specs.Laws.Once.{Distinct}
use Rattle.numbers.specs.Laws.All.{all_at}
use Rattle.sheet.specs.Fields.{rows_of}
use Rattle.sheet.specs.Depots.{depots_of}
use Rattle.sheet.specs.Stops.{is_stop}
use Rattle.sheet.specs.Laws.Stops.{depots_some}
use Rattle.constructive.specs.Right.{links_right, each_once}

-- ---- what they say
pub stops_right : (s rows : List ℕ) → T (links_right s rows) → Stops (rows_of s) rows
unfolding links_right
stops_right s [] t = tt
stops_right s (row ∷ rows) t =
    let a = and_l (is_stop s row) (links_right s rows) t in
    let l = leb→le (depots_of s) row (and_l (leb (depots_of s) row) (ltb row (rows_of s)) a) in
    let d = depots_some s in
    ((omega arith, ltb→lt row (rows_of s) (and_r (leb (depots_of s) row) (ltb row (rows_of s)) a)), stops_right s rows (and_r (is_stop s row) (links_right s rows) t))

once : (s rows : List ℕ) → ((x : ℕ) → depots_of s ≤ x → x < rows_of s → count x rows ≤ 1) → T (links_right s rows) → Distinct rows
unfolding links_right count
once s [] f t = tt
once s (row ∷ rows) f t =
    let a = and_l (is_stop s row) (links_right s rows) t in
    let h = f row (leb→le (depots_of s) row (and_l (leb (depots_of s) row) (ltb row (rows_of s)) a)) (ltb→lt row (rows_of s) (and_r (leb (depots_of s) row) (ltb row (rows_of s)) a)) in
    let e : one (eqb row row) ≡ 1 = rw (eq-eqb row row refl) in
    (omega arith, once s rows (λ x l u. let k = f x l u in omega arith) (and_r (is_stop s row) (links_right s rows) t))

pub distinct_right : (s rows : List ℕ) → T (links_right s rows) → T (each_once s rows) → Distinct rows
unfolding each_once
distinct_right s rows t u = once s rows (λ x l h. go x l (ltb x (depots_of s)) refl (all_at (λ i. ltb i (depots_of s) || eqb (count i rows) 1) (rows_of s) x h u)) t
  where
    go : (x : ℕ) → depots_of s ≤ x → (b : Bool) → ltb x (depots_of s) ≡ b → T (b || eqb (count x rows) 1) → count x rows ≤ 1
    go x l true e v = absurd (let k = ltb→lt x (depots_of s) (subst T (sym e) tt) in omega arith)
    go x l false e v = let k = eqb→eq (count x rows) 1 v in omega arith

pub links_of : (s xs : List ℕ) → ((x : ℕ) → 0 < count x xs → T (is_stop s x)) → T (links_right s xs)
unfolding links_right count
links_of s [] f = tt
links_of s (y ∷ ys) f =
    and_i (is_stop s y) (links_right s ys)
    (f y (let e : one (eqb y y) ≡ 1 = rw (eq-eqb y y refl) in omega arith))
    (links_of s ys (λ x h. f x (omega arith)))
