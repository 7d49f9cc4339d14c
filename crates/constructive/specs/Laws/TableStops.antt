-- The stops of the tables are those of the outcome that stands in them. Assumes nothing.
use Rattle.std.specs.Prelude.{◌≡◌, List, ◌++◌, get_or, take, drop}
use Rattle.std.proofs.Math.Path.{refl}
use Rattle.std.proofs.Common.{sym, ap, ◌∙◌, add-one, take-add, drop-drop}
use Prim.Native.Nat.{ℕ, zero, suc, ◌+◌, ◌-◌, ◌≤◌}
use Rattle.std.proofs.Math.Nat.{sub-zero}
use native.Mathlib.Omega.{arith}
use Rattle.constructive.specs.Outcome.{rounds_in, start_in, outcome_in, chains, stops_of}
use Rattle.constructive.specs.Tables.{Tables}

-- two parts that meet are one
joined : (stops : List ℕ) (start end total : ℕ) → start ≤ end → end ≤ total → take (end - start) (drop start stops) ++ take (total - end) (drop end stops) ≡ take (total - start) (drop start stops)
joined stops start end total h k =
    let a : end - start + (total - end) ≡ total - start = omega arith in
    let b : start + (end - start) ≡ end = omega arith in
    sym (ap (λ (n : ℕ). take n (drop start stops)) (sym a) ∙ take-add (end - start) (total - end) (drop start stops) ∙ ap (λ (l : List ℕ). take (end - start) (drop start stops) ++ take (total - end) l) (drop-drop (end - start) start stops ∙ ap (λ (n : ℕ). drop n stops) b))

module _ (s stops ends vehicles : List ℕ) (n total : ℕ) (ok : Tables s stops ends vehicles n total) where
  abbrev aside : List ℕ
  aside = take (total - start_in ends n) (drop (start_in ends n) stops)

  chains_from : (m start k : ℕ) → start ≡ start_in ends k → k + m ≡ n → chains (rounds_in stops ends vehicles m start k) aside ≡ take (total - start) (drop start stops)
  unfolding rounds_in chains
  chains_from zero start k e f = let q : k ≡ n = omega arith in rw (e, q)
  chains_from (suc m) start k e f =
      let a = ok.ascending k (omega arith) in
      let w = ok.within k (omega arith) in
      rw (chains_from m (get_or ends k 0) (k + 1) (rw add-one) (omega arith)) (joined stops start (get_or ends k 0) total (omega arith) w)

  -- the outcome's stops are the tables'
  pub stops_in : stops_of (outcome_in stops ends vehicles n total) ≡ take total stops
  unfolding outcome_in
  stops_in = chains_from n 0 0 refl (omega arith) ∙ rw sub-zero
