-- What the stops of a round ask of a vehicle. Assumes nothing.
use Rattle.std.specs.Prelude.{◌≡◌, ℕ, ◌+◌, List, [], ◌∷◌, ◌++◌, take, drop}
use Rattle.std.proofs.Common.{ap, arith, take-append-drop}
use Rattle.lists.specs.Moved.{inserted}
use Rattle.sheet.specs.Values.{demand_of}
use Rattle.constructive.specs.Load.{load_of}

pub load_append : (s xs ys : List ℕ) → load_of s (xs ++ ys) ≡ load_of s xs + load_of s ys
unfolding load_of
load_append s [] ys = omega arith
load_append s (i ∷ is) ys = let e = load_append s is ys in omega arith

pub inserted_load : (k row : ℕ) (route s : List ℕ) → load_of s (inserted k row route) ≡ load_of s route + demand_of s row
unfolding load_of
inserted_load k row route s =
    let a = load_append s (take k route) (row ∷ drop k route) in
    let b = load_append s (take k route) (drop k route) in
    let e = ap (load_of s) (take-append-drop k route) in
    omega (arith, a, b, e)
