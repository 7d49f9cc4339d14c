-- A round none of whose places wins changes nothing. Assumes nothing.
use mathlib.Core.Path.{◌≡◌, refl, sym, ap, ◌∙◌}
use Prim.Native.Nat.{ℕ, zero, suc, ◌+◌, ◌≤◌, ◌<◌}
use native.Mathlib.Omega.{arith}
use mathlib.Core.Bool.{Bool, true, false, cond, true≢false}
use mathlib.Core.List.{List}
use lib.ListN.{length, get_or}
use Rattle.std.specs.List.{list_any, range_with_len}
use Rattle.std.proofs.lemmas.List.Folds.{list_any_at}
use Rattle.std.proofs.lemmas.List.FromFn.{length-range_with_len, get_or-range_with_len}
use Rattle.lists.specs.Moved.{inserted}
use Rattle.constructive.specs.Rounds.{passes}
use Rattle.insertion.specs.Choice.{Choice}
use Rattle.insertion.specs.Place.{detour, better_place}
use Rattle.insertion.specs.Laws.Judging.{dear_skipped}
use Rattle.fleet.specs.Cheapest.{judge_at, places_from, takes, in_round}
use Rattle.fleet_cheapest.specs.Promises.{Unwon}

-- no number of a range passes a test that no number passes
pub none_passes : (p : ℕ → Bool) (n : ℕ) → list_any p (range_with_len 0 n) ≡ false → (k : ℕ) → k < n → p k ≡ false
none_passes p n u k h = go (p k) refl
  where
    go : (b : Bool) → p k ≡ b → p k ≡ false
    go true e =
        let at : get_or (range_with_len 0 n) k 0 ≡ k = omega (arith, get_or-range_with_len 0 n k 0 h) in
        absurd (true≢false (sym (list_any_at p (range_with_len 0 n) k 0 (omega (arith, h, length-range_with_len 0 n)) (ap p at ∙ e)) ∙ u))
    go false e = e

module _ (s route : List ℕ) (row : ℕ) (c : Choice) where
  module _ (soft : Bool) (hard : soft ≡ false) (v i : ℕ) (u : Unwon s route row c (length route + 1)) where
    places_unwon : (n k : ℕ) → k + n ≤ suc (length route) → places_from s soft v route row i c n k ≡ c
    unfolding places_from judge_at
    places_unwon zero k h = refl
    places_unwon (suc n) k h =
        let skip : better_place c i k (judge_at s soft v route row k) ≡ c = rw hard (dear_skipped c i k (passes s 0 v (inserted k row route)) (detour s 0 route row k) (u k (omega arith))) in
        rw skip (places_unwon n (k + 1) (omega arith))

    pub round_unwon : c ≡ in_round s soft row c i (record { vehicle = v; stops = route })
    unfolding in_round
    round_unwon = sym (go (takes s soft v route row))
      where
        go : (b : Bool) → cond b (places_from s soft v route row i c (suc (length route)) 0) c ≡ c
        go true = places_unwon (suc (length route)) 0 (omega arith)
        go false = refl
