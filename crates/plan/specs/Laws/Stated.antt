-- What the bytes of a round's record state is what `build_route` says. Assumes nothing.
use Rattle.std.specs.Prelude.{◌≡◌, ℕ, ◌+◌, ◌^◌, ◌≤◌, ◌<◌, List, T, Float}
use Rattle.std.proofs.Common.{ap, ◌∙◌, arith}
use Rattle.std.specs.Float.Ieee.{binary64, to_bits, of_bits, fits}
use Rattle.std.specs.Float.Ieee.Bits.{of_bits-to_bits, to_bits-lt}
use Rattle.wire.specs.Bytes.{le, bytes, f64_at}
use Rattle.wire.specs.Laws.Bytes.{length_bytes, le_bytes, le_past}
use Rattle.evaluation_clock.specs.Serve.{rest_place, rest_start}
use Rattle.evaluator.specs.declared.Record.{Record}
use Rattle.plan.specs.Plan.{round_record_at, round_counts, round_figures, round_bytes}
use Rattle.plan.specs.Stated.{Stated}
use Rattle.plan.specs.Laws.Plan.{counts_long}
use Rattle.plan.specs.Laws.Chained.{le_front, starts}

-- an f64 that is read back
float_back : (x : Float) (plan : List ℕ) (at : ℕ) → T (fits binary64 x) → le 8 plan at ≡ to_bits binary64 x → f64_at plan at ≡ x
unfolding f64_at
float_back x plan at f e = ap (of_bits binary64) e ∙ of_bits-to_bits binary64 x f

module _ (id first : ℕ) (r : Record) where
  counts_at : (m i : ℕ) → i + m ≤ 16 → le m (round_bytes id first r) i ≡ le m (round_counts id first r) i
  unfolding round_bytes
  counts_at m i h = let c = counts_long id first r in le_front m i (round_counts id first r) (round_figures r) (omega arith)

  load_at : r.load < 256 ^ 4 → le 4 (round_bytes id first r) 4 ≡ r.load
  unfolding round_counts
  load_at h = counts_at 4 4 (omega arith) ∙ le_past 4 0 4 (bytes 4 id) _ (length_bytes 4 id) ∙ starts 4 r.load _ h

  place_at : rest_place r.rest < 256 ^ 2 → le 2 (round_bytes id first r) 10 ≡ rest_place r.rest
  unfolding round_counts
  place_at h =
      counts_at 2 10 (omega arith)
      ∙ le_past 2 6 4 (bytes 4 id) _ (length_bytes 4 id)
      ∙ le_past 2 2 4 (bytes 4 r.load) _ (length_bytes 4 r.load)
      ∙ le_past 2 0 2 (bytes 2 first) _ (length_bytes 2 first)
      ∙ starts 2 (rest_place r.rest) _ h

  distance_at : T (fits binary64 r.distance) → le 8 (round_bytes id first r) 16 ≡ to_bits binary64 r.distance
  unfolding round_bytes round_figures
  distance_at f = le_past 8 0 16 (round_counts id first r) _ (counts_long id first r) ∙ starts 8 (to_bits binary64 r.distance) _ (to_bits-lt binary64 r.distance f)

  duration_at : T (fits binary64 r.duration) → le 8 (round_bytes id first r) 24 ≡ to_bits binary64 r.duration
  unfolding round_bytes round_figures
  duration_at f =
      le_past 8 8 16 (round_counts id first r) _ (counts_long id first r)
      ∙ le_past 8 0 8 (bytes 8 (to_bits binary64 r.distance)) _ (length_bytes 8 (to_bits binary64 r.distance))
      ∙ starts 8 (to_bits binary64 r.duration) _ (to_bits-lt binary64 r.duration f)

  -- the last field: four f64 stand before it, and none after
  start_at_lem : T (fits binary64 (rest_start r.rest)) → le 8 (round_bytes id first r) 48 ≡ to_bits binary64 (rest_start r.rest)
  unfolding round_bytes round_figures
  start_at_lem f =
      le_past 8 32 16 (round_counts id first r) _ (counts_long id first r)
      ∙ le_past 8 24 8 (bytes 8 (to_bits binary64 r.distance)) _ (length_bytes 8 (to_bits binary64 r.distance))
      ∙ le_past 8 16 8 (bytes 8 (to_bits binary64 r.duration)) _ (length_bytes 8 (to_bits binary64 r.duration))
      ∙ le_past 8 8 8 (bytes 8 (to_bits binary64 r.lateness)) _ (length_bytes 8 (to_bits binary64 r.lateness))
      ∙ le_past 8 0 8 (bytes 8 (to_bits binary64 r.lateness_cost)) _ (length_bytes 8 (to_bits binary64 r.lateness_cost))
      ∙ le_bytes 8 (to_bits binary64 (rest_start r.rest)) (to_bits-lt binary64 (rest_start r.rest) f)

  pub record_stated : (plan : List ℕ) (n : ℕ) → ((m i : ℕ) → i + m ≤ 56 → le m plan (round_record_at n + i) ≡ le m (round_bytes id first r) i)
      → r.load < 256 ^ 4 → rest_place r.rest < 256 ^ 2 → T (fits binary64 r.distance) → T (fits binary64 r.duration) → T (fits binary64 (rest_start r.rest)) → Stated plan n r
  record_stated plan n w l p f g h = record {
    load = w 4 4 (omega arith) ∙ load_at l;
    place = w 2 10 (omega arith) ∙ place_at p;
    distance = float_back r.distance plan (round_record_at n + 16) f (w 8 16 (omega arith) ∙ distance_at f);
    duration = float_back r.duration plan (round_record_at n + 24) g (w 8 24 (omega arith) ∙ duration_at g);
    start = float_back (rest_start r.rest) plan (round_record_at n + 48) h (w 8 48 (omega arith) ∙ start_at_lem h);
  }
