-- Plain nearest neighbour's own sums for a lone round, on a vehicle without a rest and a whole-number sheet: what they turn down has no lawful schedule, whose walk waits as well.
-- Assumes nothing.
use Rattle.std.specs.Prelude.{◌≡◌, refl, ℕ, ◌+◌, ◌*◌, ◌^◌, ◌≤◌, Bool, true, false, not, ◌&&◌, cond, List, [], ◌∷◌, T, ltb, is_none, Float}
use Rattle.std.proofs.Common.{sym, subst, le_trans, mul-le-mul_right, arith, true≢false, le→leb, leb→le, ltb-true}
use Rattle.std.specs.Float.{nan, inf, fin}
use Rattle.std.specs.Float.Ieee.{up, down}
use Rattle.std.specs.Float.Ieee.Fits.{and_l, and_r}
use Rattle.wire.specs.Bytes.{f64_at}
use Rattle.numbers.specs.Laws.Upto.{Upto}
use Rattle.sheet.specs.Fields.{vehicle_at, vehicle_marks, max_distance_at, max_duration_at, marked}
use Rattle.sheet.specs.Accepted.{Accepted}
use Rattle.sheet.specs.Laws.Finite.{vehicle_finite}
use Rattle.sheet.specs.Values.{nought, stop_of, distance_of, time_of, limit_of, limit_at, rest_of, rest_after, vehicle_of}
use Rattle.sheet.specs.declared.vehicle.VehicleBreak.{VehicleBreak}
use Rattle.evaluation_clock.specs.Sums.{◌⊕◌}
use Rattle.evaluation.specs.Limits.{limits_at, within_of}
use Rattle.lawful.specs.Whole.{Whole, Is}
use Rattle.lawful.specs.Lawful.{failed, left, later, home_of, rests, is_windowed, time_n, distance_n, ready_n, due_n, service_n, stop_n, home_n, walk_n, travel_n, not_over, within_maximum, home_in_time, keeps_maxima, duration_n, lawful}
use Rattle.lawful.specs.Laws.Whole.{add_whole, le_maximum}
use Rattle.lawful.specs.Laws.Windows.{nought_is}
use Rattle.lawful.specs.Laws.Amounts.{row_amounts, distance_amount, time_amount}
use Rattle.reason.specs.Asked.{Lone}
use Rattle.reason.specs.Reason.{over_distance, over_plain_duration}

-- ---- a maximum
less_over : (m n : ℕ) (end : Float) → m ≤ n → T (not_over n end) → T (not_over m end)
less_over m n nan h t = t
less_over m n (inf s) h t = t
less_over m n (fin true k e) h t = t
less_over m n (fin false k e) h t = le→leb (m * down e) (k * up e) (le_trans (mul-le-mul_right (down e) h) (leb→le (n * down e) (k * up e) t))

-- kept by a figure where it is kept by one that is no less
kept_below : (mark : Bool) (m n : ℕ) (x end : Float) → Is m x → Upto (10 ^ 12) end → m ≤ n → T (cond mark (not_over n end) true) → T (within_of (limit_of mark end) x)
kept_below true m n x end u e h t = subst T (sym (le_maximum (10 ^ 12) m x end u e)) (less_over m n end h t)
kept_below false m n x end u e h t = tt

no_later : (a b : ℕ) → a ≤ later a b
no_later a b = go (ltb a b) refl
  where
    go : (t : Bool) → ltb a b ≡ t → a ≤ cond t b a
    go true e = omega (arith, ltb-true a b e)
    go false e = omega arith

holds_not : (t : Bool) → T t → not t ≡ false
holds_not true t = refl
holds_not false t = absurd t

module _ (s : List ℕ) (v i : ℕ) (a : Accepted s) (whole : Whole s) (l : Lone s (home_of s v) v i) where
  abbrev out : ℕ
  out = 0 + time_n s (home_of s v) i

  abbrev back : ℕ
  back = time_n s i (home_of s v)

  -- whether its sums keep the maxima
  abbrev distance_kept : Bool
  distance_kept = within_of (vehicle_of s v).max_distance (nought ⊕ distance_of s (home_of s v) i ⊕ distance_of s i (home_of s v))

  abbrev duration_kept : Bool
  duration_kept = within_of (vehicle_of s v).max_duration (nought ⊕ time_of s (home_of s v) i ⊕ (stop_of s i).service ⊕ time_of s i (home_of s v))

  -- ---- the sums are exact
  driven_is : Is (0 + distance_n s (home_of s v) i + distance_n s i (home_of s v)) (nought ⊕ distance_of s (home_of s v) i ⊕ distance_of s i (home_of s v))
  driven_is =
      let p = distance_amount s a whole (home_of s v) i l.home l.stop in
      let q = distance_amount s a whole i (home_of s v) l.stop l.home in
      add_whole _ _ _ _ (add_whole 0 _ nought _ nought_is p.is (omega (arith, p.small))) q.is (omega (arith, p.small, q.small))

  timed_is : Is (out + service_n s i + back) (nought ⊕ time_of s (home_of s v) i ⊕ (stop_of s i).service ⊕ time_of s i (home_of s v))
  unfolding stop_of
  timed_is =
      let p = time_amount s a whole (home_of s v) i l.home l.stop in
      let q = time_amount s a whole i (home_of s v) l.stop l.home in
      let r = (row_amounts s a whole i l.stop).service in
      add_whole _ _ _ _ (add_whole _ _ _ _ (add_whole 0 _ nought _ nought_is p.is (omega (arith, p.small))) r.is (omega (arith, p.small, r.small))) q.is (omega (arith, p.small, q.small, r.small))

  -- ---- a lawful lone round keeps both maxima by them
  kept : is_none (vehicle_of s v).rest ≡ true → T (lawful s v (i ∷ [])) → T (keeps_maxima s v (i ∷ []) (duration_n s v 0 (i ∷ [])))
  unfolding lawful vehicle_of rest_after
  kept n t = go (rests s v) _ _ n t
    where
      go : (mark : Bool) (b : VehicleBreak) (x : Bool) → is_none (rest_of mark b) ≡ true → T (cond mark x (keeps_maxima s v (i ∷ []) (duration_n s v 0 (i ∷ [])))) → T (keeps_maxima s v (i ∷ []) (duration_n s v 0 (i ∷ [])))
      go true b x e t = absurd (true≢false (sym e))
      go false b x e t = t

  module _ (n : is_none (vehicle_of s v).rest ≡ true) (ok : T (lawful s v (i ∷ []))) where
    both : T distance_kept × T duration_kept
    unfolding walk_n stop_n travel_n vehicle_of limit_at
    both = go (is_windowed s i && ltb (due_n s i) out) (kept n ok)
      where
        go : (late : Bool) → T (keeps_maxima s v (i ∷ []) (home_n s v i (cond late failed (left (later out (ready_n s i) + service_n s i)))))
            → T distance_kept × T duration_kept
        go true t = absurd t
        go false t =
            let f = vehicle_finite s (vehicle_at s v) (a.vehicle v l.vehicle) in
            let far = distance_n s (home_of s v) i + distance_n s i (home_of s v) in
            let long = later out (ready_n s i) + service_n s i + back in
            let at = vehicle_at s v in
            let marks = vehicle_marks s at in
            let near = within_maximum 1 s v (max_distance_at at) far in
            let short = within_maximum 2 s v (max_duration_at at) long in
            let home = home_in_time s v long in (
              kept_below (marked 1 marks) (0 + distance_n s (home_of s v) i + distance_n s i (home_of s v)) far _ (f64_at s (max_distance_at at)) driven_is f.distance (omega arith) (and_l near (short && home) t),
              kept_below (marked 2 marks) (out + service_n s i + back) long _ (f64_at s (max_duration_at at)) timed_is f.duration (omega (arith, no_later out (ready_n s i))) (and_l short home (and_r near (short && home) t)),
            )

    pub distance_kept_lem : over_distance s (home_of s v) v i ≡ false
    unfolding over_distance limits_at
    distance_kept_lem = holds_not distance_kept both.0

    pub duration_kept_lem : over_plain_duration s (home_of s v) v i ≡ false
    unfolding over_plain_duration
    duration_kept_lem = holds_not duration_kept both.1
