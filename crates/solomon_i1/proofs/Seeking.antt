-- The farthest of the stops left, sought one by one. Assumes nothing.
use mathlib.Core.Path.{◌≡◌, sym, ap, ◌∙◌}
use Prim.Native.Nat.{ℕ, suc, ◌+◌, ◌≤◌, ◌<◌}
use native.Mathlib.Numerals.{add-one}
use native.Mathlib.Omega.{arith}
use mathlib.Core.Bool.{Bool, true, false, cond}
use mathlib.Core.List.{List}
use lib.Ieee.{Float, lt}
use lib.ListN.{length, get_or, drop}
use lib.Seq.{drop-cons, drop-length}
use Rattle.sheet.specs.Values.{distance_of}
use Rattle.solomon_i1.specs.Insertion.{Farthest, farthest_from, unseen, seed_of}

abbrev so : ℕ → Float → Farthest
so place most = record { place = place; distance = most }

pub record Seeking (s : List ℕ) (depot : ℕ) (left : List ℕ) (place : ℕ) (most : Float) (j end : ℕ) : Type 0 where
  pub last : end ≡ length left
  pub within : j ≤ end
  pub same : farthest_from s depot unseen 0 left ≡ farthest_from s depot (so place most) j (drop j left)

module _ (s : List ℕ) (depot : ℕ) (left : List ℕ) (place : ℕ) (most : Float) (j end : ℕ) (g : Seeking s depot left place most j end) where
  module _ (here : j < end) (distance : Float) (e : distance ≡ distance_of s depot (get_or left j 0)) where
    one_more : farthest_from s depot unseen 0 left ≡ farthest_from s depot (cond (lt most distance) (so j distance) (so place most)) (j + 1) (drop (j + 1) left)
    unfolding farthest_from
    one_more =
        g.same
        ∙ ap (farthest_from s depot (so place most) j) (drop-cons left j 0 (omega (arith, g.last)))
        ∙ ap (λ (d : Float). farthest_from s depot (cond (lt most d) (so j d) (so place most)) (j + 1) (drop (suc j) left)) (sym e)
        ∙ ap (λ (n : ℕ). farthest_from s depot (cond (lt most distance) (so j distance) (so place most)) (j + 1) (drop n left)) (sym (add-one j))

    pub is_farther : lt most distance ≡ true → Seeking s depot left j distance (j + 1) end
    is_farther t = record {
      last = g.last;
      within = omega arith;
      same = one_more ∙ ap (λ (b : Bool). farthest_from s depot (cond b (so j distance) (so place most)) (j + 1) (drop (j + 1) left)) t;
    }

    pub no_farther : lt most distance ≡ false → Seeking s depot left place most (j + 1) end
    no_farther t = record {
      last = g.last;
      within = omega arith;
      same = one_more ∙ ap (λ (b : Bool). farthest_from s depot (cond b (so j distance) (so place most)) (j + 1) (drop (j + 1) left)) t;
    }

  pub found : end ≤ j → place ≡ seed_of s depot left
  unfolding farthest_from
  found l =
      let e : j ≡ length left = omega (arith, g.last, g.within) in
      sym (ap (λ (f : Farthest). f.place) (g.same ∙ ap (farthest_from s depot (so place most) j) (ap (λ (n : ℕ). drop n left) e ∙ drop-length left)))
