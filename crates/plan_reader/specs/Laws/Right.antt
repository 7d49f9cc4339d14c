-- What is asked of a plan, in parts: refusal 10 is told where one fails. Assumes nothing.
use Rattle.std.specs.Prelude.{◌≡◌, refl, Bool, true, false, List, T, leb, ltb}
use Rattle.std.proofs.Math.Path.{subst}
use Prim.Native.Nat.{ℕ, zero, suc, ◌+◌, ◌≤◌, ◌<◌}
use Rattle.std.proofs.Common.{add-zero, zero-add, ltb→lt, le→leb, lt→ltb}
use native.Mathlib.Omega.{arith}
use Rattle.std.proofs.Math.Dec.{leb→le}
use Rattle.std.specs.Float.Ieee.Fits.{and_i, and_l, and_r}
use Rattle.sheet.specs.Fields.{rows_of, vehicles_of}
use Rattle.sheet.specs.Fleet.{index_of}
use Rattle.constructive.specs.Outcome.{stops_of}
use Rattle.constructive.specs.Right.{ids_known, links_right, each_once, outcome_right}
use Rattle.plan.specs.Read.{rounds_at, id_at, rounds_from, read_plan, plan_right}

pub record PlanRight (s plan : List ℕ) : Type 0 where
  pub few : rounds_at plan ≤ rows_of s
  pub known : (k : ℕ) → k < rounds_at plan → index_of s (id_at plan k) < vehicles_of s
  pub links : T (links_right s (stops_of (read_plan s plan)))
  pub once : T (each_once s (stops_of (read_plan s plan)))

module _ (s plan : List ℕ) where
  known_at : (n k : ℕ) → T (ids_known s (rounds_from s plan n k)) → (j : ℕ) → j < n → index_of s (id_at plan (k + j)) < vehicles_of s
  unfolding rounds_from ids_known
  known_at zero k t j h = absurd (omega arith)
  known_at (suc n) k t zero h = rw (add-zero k) (ltb→lt (index_of s (id_at plan k)) (vehicles_of s) (and_l (ltb (index_of s (id_at plan k)) (vehicles_of s)) (ids_known s (rounds_from s plan n (k + 1))) t))
  known_at (suc n) k t (suc j) h =
      let e : k + suc j ≡ k + 1 + j = omega arith in
      rw e (known_at n (k + 1) (and_r (ltb (index_of s (id_at plan k)) (vehicles_of s)) (ids_known s (rounds_from s plan n (k + 1))) t) j (omega arith))

  of_known : (n k : ℕ) → ((j : ℕ) → j < k + n → index_of s (id_at plan j) < vehicles_of s) → T (ids_known s (rounds_from s plan n k))
  unfolding rounds_from ids_known
  of_known zero k f = tt
  of_known (suc n) k f =
      and_i (ltb (index_of s (id_at plan k)) (vehicles_of s)) (ids_known s (rounds_from s plan n (k + 1)))
      (lt→ltb (index_of s (id_at plan k)) (vehicles_of s) (f k (omega arith)))
      (of_known n (k + 1) (λ j h. f j (omega arith)))

  pub parts : T (plan_right s plan) → PlanRight s plan
  unfolding plan_right outcome_right read_plan
  parts t =
      let o = and_r (leb (rounds_at plan) (rows_of s)) (outcome_right s (read_plan s plan)) t in
      let rs = rounds_from s plan (rounds_at plan) 0 in
      let l = and_r (ids_known s rs) _ o in
      record {
        few = leb→le (rounds_at plan) (rows_of s) (and_l (leb (rounds_at plan) (rows_of s)) (outcome_right s (read_plan s plan)) t);
        known = λ k h. subst (λ (j : ℕ). index_of s (id_at plan j) < vehicles_of s) (zero-add k) (known_at (rounds_at plan) 0 (and_l (ids_known s rs) _ o) k h);
        links = and_l (links_right s (stops_of (read_plan s plan))) (each_once s (stops_of (read_plan s plan))) l;
        once = and_r (links_right s (stops_of (read_plan s plan))) (each_once s (stops_of (read_plan s plan))) l;
      }

  whole : PlanRight s plan → T (plan_right s plan)
  unfolding plan_right outcome_right read_plan
  whole r =
      and_i (leb (rounds_at plan) (rows_of s)) (outcome_right s (read_plan s plan)) (le→leb (rounds_at plan) (rows_of s) r.few)
      (and_i (ids_known s (rounds_from s plan (rounds_at plan) 0)) _ (of_known (rounds_at plan) 0 (λ j h. r.known j (omega arith)))
      (and_i (links_right s (stops_of (read_plan s plan))) (each_once s (stops_of (read_plan s plan))) r.links r.once))

  pub right : PlanRight s plan → plan_right s plan ≡ true
  right r = go (plan_right s plan) (whole r)
    where
      go : (b : Bool) → T b → b ≡ true
      go true t = refl
      go false t = absurd t

  pub wrong : (PlanRight s plan → ⊥) → plan_right s plan ≡ false
  wrong n = go (plan_right s plan) refl
    where
      go : (b : Bool) → plan_right s plan ≡ b → b ≡ false
      go true e = absurd (n (parts (rw e tt)))
      go false e = refl
