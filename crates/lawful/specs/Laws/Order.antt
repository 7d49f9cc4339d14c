-- The order of walks: one that has failed is later than any other. A stop, the way home and the maxima respect it,
-- and a walk that rests before a stop departs no earlier than one that does not. Assumes nothing.
use Rattle.std.specs.Prelude.{◌≡◌, ℕ, ◌+◌, ◌-◌, ◌*◌, ◌≤◌, Bool, true, ◌&&◌, cond, T, ltb, leb, Float}
use Rattle.std.proofs.Math.Path.{refl}
use Rattle.std.proofs.Common.{le_refl, le_trans, le_of_lt, mul-le-mul_right, arith, ltb→lt, lt→ltb, leb→le, le→leb, ltb-true, ltb-false}
use Rattle.std.proofs.Math.Bool.{false}
use mathlib.Core.List.{List, [], ◌∷◌}
use Rattle.std.specs.Float.{nan, inf, fin}
use Rattle.std.specs.Float.Ieee.{up, down}
use Rattle.wire.specs.Bytes.{f64_at}
use Rattle.sheet.specs.Fields.{vehicle_at, vehicle_marks, max_distance_at, max_duration_at, marked}
use Rattle.lawful.specs.Lawful.{Walk, failed, left, time_n, is_windowed, due_n, ready_n, home_of, latest_n, earliest_n, rest_n, rest_begun, rested, arrives, departs, stop_n, home_n, walk_n, not_over, within_maximum, home_in_time, keeps_maxima, travel_n}

abbrev pub NoLater : Walk → Walk → Type 0
NoLater w failed = Unit
NoLater failed (left b) = ⊥
NoLater (left a) (left b) = a ≤ b

-- ---- the tests and times of a stop
-- a test that stops a later time where it stops an earlier one
tested : (p q : Bool) (a b : ℕ) → (T p → T q) → a ≤ b → NoLater (cond p failed (left a)) (cond q failed (left b))
tested p true a b f h = tt
tested true false a b f h = absurd (f tt)
tested false false a b f h = h

later_monotone : (a b e : ℕ) → a ≤ b → cond (ltb a e) e a ≤ cond (ltb b e) e b
later_monotone a b e h = go (ltb a e) (ltb b e) refl refl
  where
    go : (t u : Bool) → ltb a e ≡ t → ltb b e ≡ u → cond t e a ≤ cond u e b
    go true true p q = le_refl e
    go true false p q = ltb-false b e q
    go false true p q = omega (arith, ltb-true b e q, ltb-false a e p)
    go false false p q = h

later_least : (a e : ℕ) → a ≤ cond (ltb a e) e a
later_least a e = go (ltb a e) refl
  where
    go : (t : Bool) → ltb a e ≡ t → a ≤ cond t e a
    go true p = le_of_lt (ltb-true a e p)
    go false p = le_refl a

past : (mark : Bool) (end a b : ℕ) → a ≤ b → T (mark && ltb end a) → T (mark && ltb end b)
past true end a b h t = lt→ltb end b (omega (arith, ltb→lt end a t))
past false end a b h t = t

begun_monotone : (latest rest a b : ℕ) → a ≤ b → NoLater (rest_begun latest a rest) (rest_begun latest b rest)
begun_monotone latest rest a b h = tested (ltb latest a) (ltb latest b) (a + rest) (b + rest) (past true latest a b h) (omega arith)

begun_later : (latest rest a b : ℕ) → a ≤ b → NoLater (left a) (rest_begun latest b rest)
begun_later latest rest a b h = tested false (ltb latest b) a (b + rest) (λ t. absurd t) (omega arith)

-- ---- the maxima
not_over_lem : (a b : ℕ) (x : Float) → a ≤ b → T (not_over b x) → T (not_over a x)
not_over_lem a b nan h t = t
not_over_lem a b (inf n) h t = t
not_over_lem a b (fin true m e) h t = t
not_over_lem a b (fin false m e) h t =
    le→leb (a * down e) (m * up e) (omega (arith, mul-le-mul_right (down e) h, leb→le (b * down e) (m * up e) t))

within : (mark : Bool) (a b : ℕ) (x : Float) → a ≤ b → T (cond mark (not_over b x) true) → T (cond mark (not_over a x) true)
within true a b x h t = not_over_lem a b x h t
within false a b x h t = tt

each : (p q p' q' : Bool) → (T p → T p') → (T q → T q') → T (p && q) → T (p' && q')
each true q true q' f g t = g t
each true q false q' f g t = absurd (f tt)
each false q p' q' f g t = absurd t

in_time : (mark : Bool) (a b due : ℕ) → a ≤ b → T (cond mark (leb b due) true) → T (cond mark (leb a due) true)
in_time true a b due h t = le→leb a due (le_trans h (leb→le b due t))
in_time false a b due h t = tt

-- ---- a vehicle's walk
module _ (s : List ℕ) (v : ℕ) where
  arrives_monotone : (here : Bool) (a b : ℕ) → a ≤ b → NoLater (arrives here s v a) (arrives here s v b)
  arrives_monotone true a b h = begun_monotone (latest_n s v) (rest_n s v) _ _ (later_monotone a b (earliest_n s v) h)
  arrives_monotone false a b h = h

  departs_monotone : (i : ℕ) (w u : Walk) → NoLater w u → NoLater (departs s i w) (departs s i u)
  departs_monotone i w failed h = tt
  departs_monotone i failed (left b) h = absurd h
  departs_monotone i (left a) (left b) h =
      let r = later_monotone a b (ready_n s i) h in
      tested (is_windowed s i && ltb (due_n s i) a) (is_windowed s i && ltb (due_n s i) b) _ _ (past (is_windowed s i) (due_n s i) a b h) (omega arith)

  pub stop_monotone : (here : Bool) (prev i : ℕ) (w u : Walk) → NoLater w u → NoLater (stop_n here s v prev i w) (stop_n here s v prev i u)
  unfolding stop_n
  stop_monotone here prev i w failed h = tt
  stop_monotone here prev i failed (left b) h = absurd h
  stop_monotone here prev i (left a) (left b) h =
      let p = a + time_n s prev i in
      let q = b + time_n s prev i in
      departs_monotone i (arrives here s v p) (arrives here s v q) (arrives_monotone here p q (omega arith))

  -- "its end then counts as arrival": not before the arrival itself
  pub rest_later : (prev i : ℕ) (w : Walk) → NoLater (stop_n false s v prev i w) (stop_n true s v prev i w)
  unfolding stop_n
  rest_later prev i failed = tt
  rest_later prev i (left a) =
      let at = a + time_n s prev i in
      departs_monotone i (left at) (rested s v at) (begun_later (latest_n s v) (rest_n s v) at _ (later_least at (earliest_n s v)))

  home_monotone : (prev : ℕ) (w u : Walk) → NoLater w u → NoLater (home_n s v prev w) (home_n s v prev u)
  home_monotone prev w failed h = tt
  home_monotone prev failed (left b) h = absurd h
  home_monotone prev (left a) (left b) h = omega arith

  -- a walk with no rest to come
  pub walk_monotone : (w u : Walk) (prev : ℕ) (is : List ℕ) → NoLater w u → NoLater (walk_n s v 0 w prev is) (walk_n s v 0 u prev is)
  unfolding walk_n
  walk_monotone w u prev [] h = home_monotone prev w u h
  walk_monotone w u prev (i ∷ is) h = walk_monotone (stop_n false s v prev i w) (stop_n false s v prev i u) i is (stop_monotone false prev i w u h)

  pub walk_failed : (place prev : ℕ) (is : List ℕ) → walk_n s v place failed prev is ≡ failed
  unfolding walk_n stop_n
  walk_failed place prev [] = refl
  walk_failed place prev (i ∷ is) = walk_failed (place - 1) i is

  pub keeps_monotone : (is : List ℕ) (w u : Walk) → NoLater w u → T (keeps_maxima s v is u) → T (keeps_maxima s v is w)
  keeps_monotone is w failed h t = absurd t
  keeps_monotone is failed (left b) h t = absurd h
  keeps_monotone is (left a) (left b) h t =
      let far = within_maximum 1 s v (max_distance_at (vehicle_at s v)) (travel_n s v (home_of s v) is) in
      let long = within_maximum 2 s v (max_duration_at (vehicle_at s v)) in
      each far (long b && home_in_time s v b) far (long a && home_in_time s v a) (λ t. t)
      (each (long b) (home_in_time s v b) (long a) (home_in_time s v a) (within (marked 2 (vehicle_marks s (vehicle_at s v))) a b (f64_at s (max_duration_at (vehicle_at s v))) h) (in_time (is_windowed s (home_of s v)) a b (due_n s (home_of s v)) h))
      t
