-- The loop over a round's stops: the plan so far, with the visits of the stops left, is that with all visits. Assumes nothing.
use mathlib.Core.Path.{◌≡◌, refl, sym, ap, ◌∙◌}
use Prim.Native.Nat.{ℕ, ◌+◌, ◌≤◌, ◌<◌}
use native.Mathlib.Numerals.{add-one}
use mathlib.Core.List.{List}
use lib.ListN.{length, drop, get_or, drop_of_length-le}
use lib.Seq.{drop-cons}
use Rattle.wire.specs.Bytes.{write}
use Rattle.sheet.specs.Fields.{rows_of}
use Rattle.evaluation.specs.Routed.{Routed}
use Rattle.evaluator.specs.declared.Progress.{Progress}
use Rattle.evaluator.specs.declared.Placed.{Placed}
use Rattle.evaluator.specs.Record.{begin_of, visited_of}
use Rattle.evaluator.proofs.Going as steps
use Rattle.evaluator.proofs.Going.{Going}
use Rattle.plan.specs.Plan.{first_of, row_record_at, visit_bytes, with_visits}
use Rattle.plan.specs.Writable.{VisitWritable, VisitsWritable}

-- ---- after i stops
pub record Visiting (s : List ℕ) (depot : ℕ) (t : Placed) (route before plan : List ℕ) (p : Progress) (i : ℕ) : Type 0 where
  pub going : Going s depot t route p i
  pub long : length plan ≡ length before
  pub writable : VisitsWritable s t p (drop i route)
  pub same : with_visits s t p (drop i route) plan ≡ with_visits s t (begin_of depot) route before

module _ (s : List ℕ) (depot : ℕ) (t : Placed) (route : List ℕ) (ok : Routed s depot route) (before : List ℕ) where
  pub begins : VisitsWritable s t (begin_of depot) route → Visiting s depot t route before before (begin_of depot) 0
  begins w = record { going = steps.begins s depot t route ok; long = refl; writable = w; same = refl }

  module _ (plan : List ℕ) (p : Progress) (i : ℕ) (g : Visiting s depot t route before plan p i) where
    writable_here : i < length route → VisitWritable (visited_of s t p (get_or route i 0)) × VisitsWritable s t (visited_of s t p (get_or route i 0)) (drop (i + 1) route)
    unfolding VisitsWritable
    writable_here h = rw (add-one i) (rw (drop-cons route i 0 h) at g.writable)

    pub writes : i < length route → VisitWritable (visited_of s t p (get_or route i 0))
    writes h = (writable_here h).0

    step : i < length route → with_visits s t p (drop i route) plan ≡ with_visits s t (visited_of s t p (get_or route i 0)) (drop (i + 1) route) (write plan (row_record_at (rows_of s) (get_or route i 0)) (visit_bytes (first_of (drop (i + 1) route)) (visited_of s t p (get_or route i 0))))
    unfolding with_visits
    step h = rw (add-one i, drop-cons route i 0 h)

    pub goes_on : (q : Progress) (next : ℕ) (after : List ℕ) → i < length route → q ≡ visited_of s t p (get_or route i 0) → next ≡ first_of (drop (i + 1) route) → length after ≡ length plan → after ≡ write plan (row_record_at (rows_of s) (get_or route i 0)) (visit_bytes next q) → Visiting s depot t route before after q (i + 1)
    goes_on q next after h e n l w = record {
      going = steps.goes_on s depot t route ok p q i g.going h e;
      long = l ∙ g.long;
      writable = rw e (writable_here h).1;
      same = rw (w, n, e) (sym (step h) ∙ g.same);
    }

    pub ends : length route ≤ i → plan ≡ with_visits s t (begin_of depot) route before
    unfolding with_visits
    ends h = sym (ap (λ (rows : List ℕ). with_visits s t p rows plan) (drop_of_length-le route h)) ∙ g.same
