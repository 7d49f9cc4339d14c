-- The two bytes after a row's link are zero in the plan of an outcome, whatever else stands in its record. Assumes nothing.
use Rattle.std.specs.Prelude.{◌≡◌, refl, ◌⊎◌, ℕ, ◌+◌, ◌≤◌, ◌<◌, Bool, true, false, List, [], ◌∷◌, ltb, length, Float}
use Rattle.std.proofs.Common.{◌∙◌, inl, inr, arith, ltb-true, ltb-false}
use Rattle.std.proofs.lemmas.List.{length-replicate, get_or-replicate}
use Rattle.lists.specs.Once.{Stops}
use Rattle.lists.specs.Laws.Once.{stops_split}
use Rattle.wire.specs.Bytes.{le, bytes, write}
use Rattle.wire.specs.Laws.Bytes.{length_bytes, length_write, le_in, le_before, le_after, le_past}
use Rattle.sheet.specs.Fields.{rows_of, plan_length}
use Rattle.sheet.specs.Values.{vehicle_of}
use Rattle.evaluation.specs.Limits.{limits_at}
use Rattle.evaluator.specs.Record.{placed_of, begin_of, visited_of, build_route}
use Rattle.evaluator.specs.declared.Progress.{Progress}
use Rattle.evaluator.specs.declared.Placed.{Placed}
use Rattle.constructive.specs.Outcome.{Round, Outcome, chains, stops_of}
use Rattle.plan.specs.Plan.{first_of, round_record_at, row_record_at, visit_bytes, aside_bytes, round_bytes, header_bytes, with_visits, with_round, with_rounds, with_aside, blank, plan_bytes}
use Rattle.plan.specs.Laws.Plan.{visit_long, aside_long, round_long, header_long}
use Rattle.plan.specs.Laws.Chained.{starts}

module _ (s : List ℕ) (row : ℕ) (in_rows : row < rows_of s) where
  abbrev pub spare_at : ℕ
  spare_at = row_record_at (rows_of s) row + 2

  pub record Spare (plan : List ℕ) : Type 0 where
    pub long : length plan ≡ plan_length s
    pub none : le 2 plan spare_at ≡ 0

  -- a record written elsewhere changes nothing
  elsewhere : (plan : List ℕ) (at : ℕ) (xs : List ℕ) → at + length xs ≤ length plan → (spare_at + 2 ≤ at) ⊎ (at + length xs ≤ spare_at) → Spare plan → Spare (write plan at xs)
  elsewhere plan at xs room apart g = record { long = length_write plan at xs room ∙ g.long; none = go apart }
    where
      go : (spare_at + 2 ≤ at) ⊎ (at + length xs ≤ spare_at) → le 2 (write plan at xs) spare_at ≡ 0
      go (inl h) = le_before plan at xs room 2 spare_at h ∙ g.none
      go (inr h) = le_after plan at xs room 2 spare_at h ∙ g.none

  in_visit : (next : ℕ) (p : Progress) → le 2 (visit_bytes next p) 2 ≡ 0
  unfolding visit_bytes
  in_visit next p = le_past 2 0 2 (bytes 2 next) _ (length_bytes 2 next) ∙ starts 2 0 _ (omega arith)

  visited : (next : ℕ) (p : Progress) (other : ℕ) → other < rows_of s → (plan : List ℕ) → Spare plan → Spare (write plan (row_record_at (rows_of s) other) (visit_bytes next p))
  visited next p other h plan g = go (ltb row other) refl (ltb other row) refl
    where
      at : ℕ
      at = row_record_at (rows_of s) other

      room : at + length (visit_bytes next p) ≤ length plan
      room = omega (arith, visit_long next p, g.long)

      go : (a : Bool) → ltb row other ≡ a → (b : Bool) → ltb other row ≡ b → Spare (write plan at (visit_bytes next p))
      go true e b f = elsewhere plan at (visit_bytes next p) room (inl (omega (arith, ltb-true row other e))) g
      go false e true f = elsewhere plan at (visit_bytes next p) room (inr (omega (arith, visit_long next p, ltb-true other row f))) g
      go false e false f =
          let same : row ≡ other = omega (arith, ltb-false row other e, ltb-false other row f) in
          record {
            long = length_write plan at (visit_bytes next p) room ∙ g.long;
            none = rw same (le_in plan at (visit_bytes next p) room 2 2 (omega (arith, visit_long next p)) ∙ in_visit next p);
          }

  visits_spare : (t : Placed) (p : Progress) (rows plan : List ℕ) → Stops (rows_of s) rows → Spare plan → Spare (with_visits s t p rows plan)
  unfolding with_visits
  visits_spare t p [] plan o g = g
  visits_spare t p (other ∷ rows) plan o g = visits_spare t (visited_of s t p other) rows _ o.1 (visited (first_of rows) (visited_of s t p other) other o.0.1 plan g)

  rounds_spare : (rs : List Round) (aside : List ℕ) (k : ℕ) (plan : List ℕ) → k + length rs ≤ rows_of s → Stops (rows_of s) (chains rs aside) → Spare plan → Spare (with_rounds s k rs plan)
  unfolding with_rounds with_round chains
  rounds_spare [] aside k plan h o g = g
  rounds_spare (r ∷ rs) aside k plan h o g =
      let v = vehicle_of s r.vehicle in
      let limits = limits_at s r.vehicle in
      let parts = stops_split (rows_of s) r.stops (chains rs aside) o in
      let t = placed_of s v.depot limits r.stops in
      let record_of = round_bytes v.id (first_of r.stops) (build_route s v.depot limits r.stops) in
      let long = round_long v.id (first_of r.stops) (build_route s v.depot limits r.stops) in
      let w = visits_spare t (begin_of v.depot) r.stops plan parts.0 g in
      rounds_spare rs aside (k + 1) _ (omega arith) parts.1
      (elsewhere _ (round_record_at k) record_of (omega (arith, long, w.long)) (inr (omega (arith, long))) w)

  aside_spare : (rows plan : List ℕ) → Stops (rows_of s) rows → Spare plan → Spare (with_aside s rows plan)
  unfolding with_aside
  aside_spare [] plan o g = g
  aside_spare (other ∷ rows) plan o g =
      let l = aside_long (first_of rows) in
      aside_spare rows _ o.1 (elsewhere plan (row_record_at (rows_of s) other) (aside_bytes (first_of rows)) (omega (arith, l, o.0.1, g.long)) (go (ltb row other) refl) g)
    where
      go : (a : Bool) → ltb row other ≡ a → (spare_at + 2 ≤ row_record_at (rows_of s) other) ⊎ (row_record_at (rows_of s) other + length (aside_bytes (first_of rows)) ≤ spare_at)
      go true e = inl (omega (arith, ltb-true row other e))
      go false e = inr (omega (arith, aside_long (first_of rows), ltb-false row other e))

  last_stops : (rs : List Round) (aside : List ℕ) → Stops (rows_of s) (chains rs aside) → Stops (rows_of s) aside
  unfolding chains
  last_stops [] aside o = o
  last_stops (r ∷ rs) aside o = last_stops rs aside (stops_split (rows_of s) r.stops (chains rs aside) o).1

  blank_spare : Spare (blank s)
  unfolding le
  blank_spare = record {
    long = length-replicate (plan_length s) 0;
    none = rw (get_or-replicate {A = ℕ} (plan_length s) spare_at 0 0 (omega (arith, in_rows)), get_or-replicate {A = ℕ} (plan_length s) (spare_at + 1) 0 0 (omega (arith, in_rows))) refl;
  }

  pub written_spare : (o : Outcome) (cost : Float) → length o.rounds ≤ rows_of s → Stops (rows_of s) (stops_of o) → le 2 (plan_bytes s o cost) spare_at ≡ 0
  unfolding plan_bytes
  written_spare o cost few stops =
      let h = header_long (length o.rounds) (first_of o.aside) (rows_of s) cost in
      let w = aside_spare o.aside _ (last_stops o.rounds o.aside stops) (rounds_spare o.rounds o.aside 0 (blank s) (omega (arith, few)) stops blank_spare) in
      (elsewhere _ 0 (header_bytes (length o.rounds) (first_of o.aside) (rows_of s) cost) (omega (arith, h, w.long)) (inr (omega (arith, h))) w).none
