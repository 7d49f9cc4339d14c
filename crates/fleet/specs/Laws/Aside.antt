-- Document 01, "The plan": "Stops set aside before stay so; the chain comes out ascending." Assumes nothing.
use Rattle.std.specs.Prelude.{◌≡◌, ℕ, ◌-◌, ◌≤◌, ◌<◌, Bool, true, false, ◌&&◌, List, T, length}
use Rattle.std.proofs.Common.{◌∙◌, arith, lt-ltb}
use Rattle.lists.specs.Count.{one, count, is_in}
use Rattle.lists.specs.Laws.Once.{count_append}
use Rattle.lists.specs.Laws.Ascending.{those_ascending}
use Rattle.lists.specs.Ascending.{Ascending}
use Rattle.sheet.specs.Fields.{rows_of}
use Rattle.sheet.specs.Depots.{depots_of}
use Rattle.sheet.specs.Stops.{is_stop}
use Rattle.sheet.specs.Laws.Stops.{stops_count}
use Rattle.constructive.specs.Outcome.{Outcome}
use Rattle.constructive.specs.Right.{outcome_right}
use Rattle.constructive.specs.Laws.Stored.{count_chains}
use Rattle.fleet.specs.Limit.{refit_on, dropped, drop_round, limit_on, soft_in, limit_routes}
use Rattle.fleet.specs.Laws.Steps.{limit_on_kept}
use Rattle.fleet.specs.Laws.Placed.{outcome_once}

drop_aside : (s : List ℕ) (soft : Bool) (o : Outcome) (x : ℕ) → count x o.aside ≤ count x (drop_round s soft o).aside
unfolding drop_round
drop_aside s soft o x =
    let y = dropped s o.rounds in
    omega (arith, count_append x (refit_on s soft (length y.pending) y).pending o.aside)

counted : (stop b : Bool) → 0 < one stop → b ≡ true → one (stop && b) ≡ 1
counted true b h e = rw e
counted false b h e = absurd (omega arith)

module _ (s : List ℕ) (greatest : ℕ) (o : Outcome) where
  pub aside_kept : T (outcome_right s o) → (x : ℕ) → 0 < count x o.aside → count x (limit_routes s greatest o).aside ≡ 1
  unfolding limit_routes
  aside_kept t x h =
      let l = limit_on s (soft_in s o) greatest (length o.rounds) o in
      let m = limit_on_kept s (soft_in s o) greatest (λ (q : Outcome). count x o.aside ≤ count x q.aside) (λ q f u. omega (arith, u, drop_aside s (soft_in s o) q x)) (length o.rounds) o (omega arith) in
      stops_count s (λ c. is_in c l.aside) x
      ∙ counted (is_stop s x) (is_in x l.aside) (omega (arith, outcome_once s o t x, count_chains x o.rounds o.aside)) (lt-ltb 0 (count x l.aside) (omega (arith, m, h)))

  pub aside_ascends : Ascending (limit_routes s greatest o).aside
  unfolding limit_routes
  aside_ascends = those_ascending (λ c. is_in c (limit_on s (soft_in s o) greatest (length o.rounds) o).aside) (rows_of s - depots_of s) (depots_of s)
