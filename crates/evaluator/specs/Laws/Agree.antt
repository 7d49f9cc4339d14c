-- Where `route_eval` allows a round, its figures are those of `build_route`. Assumes nothing.
use Rattle.std.proofs.Math.Path.{◌≡◌, sym, ap, subst}
use Rattle.std.specs.Prelude.{refl, ℕ, ◌+◌, ◌≤◌, ◌<◌, Bool, true, false, cond, ◌⊎◌, List, [], ◌∷◌, length, Option, Some, None}
use Rattle.std.proofs.Common.{◌∙◌, inl, inr, eq-eqb, ne_eqb}
use native.Mathlib.Omega.{arith}
use Rattle.std.specs.Float.Ieee.{Float, lt, le}
use Rattle.sheet.specs.Values.{nought, stop_of, distance_of, time_of}
use Rattle.sheet.specs.declared.customer.Gate.{Gate}
use Rattle.sheet.specs.declared.customer.Gate.TheVariants.{Open, Hard, Soft}
use Rattle.sheet.specs.declared.vehicle.VehicleBreak.{VehicleBreak}
use Rattle.evaluation_clock.specs.Sums.{◌⊕◌}
use Rattle.evaluation_clock.specs.Window.{violated_of}
use Rattle.evaluation.specs.Verdict.{Verdict, allowed, over_limit, no_schedule, home_start, rested_home, verdict_on, eval_of, placed_rest}
use Rattle.evaluation.specs.Feasible.{route_eval}
use Rattle.evaluation.specs.declared.limits.RouteLimits.{RouteLimits}
use Rattle.evaluation_clock.specs.Serve.{pass, leaving_at, departure_of, later_of, rested_at, serve_of, serve_rested}
use Rattle.evaluation_clock.specs.Clock.{Clock, step_of, step_rested, wins_over, earlier_of, taken_of, moved_of, home_schedule, unrested, end_of, homeward, returned}
use Rattle.evaluation_clock.specs.declared.label.Label.{Label}
use Rattle.evaluation_clock.specs.RestAnswer.{RestAnswer}
use Rattle.evaluation_clock.specs.declared.clock.Schedule.{Schedule}
use Rattle.evaluation.specs.Walk.{Position, start_at, drive_to, walked_over, home_from, scheduled_of}
use Rattle.evaluation.specs.Laws.Walk.{walked_place, unrested_answer, plain_from, plain_walk}
use Rattle.evaluation.specs.Laws.Verdict.{Mended, allowed_figures}
use Rattle.evaluator.specs.declared.Progress.{Progress}
use Rattle.evaluator.specs.declared.Placed.{Placed}
use Rattle.evaluator.specs.declared.Record.{Record}
use Rattle.evaluator.specs.Record.{ready_for, departs_at, late_after, cost_after, visited_of, begin_of, progress_of, record_of, placed_by, placed_of, build_route}

-- ---- a label and a record that agree
pub record Agree (l : Label) (p : Progress) : Type 0 where
  pub time : p.departure ≡ l.time
  pub lateness : p.lateness ≡ l.lateness
  pub cost : p.lateness_cost ≡ l.lateness_cost

-- ---- a stop that is not refused
label_of : Label → Option Label → Label
label_of d (Some l) = l
label_of d None = d

pub not_done : (l : Label) → None ≡ Some l → ⊥
not_done l e = let z : ◌≡◌ {A = ℕ} 0 1 = cc in omega arith

pub record Passed (g : Gate) (ready service : Float) (l m : Label) : Type 0 where
  pub time : departs_at g ready service ≡ m.time
  pub lateness : late_after g ready l.lateness ≡ m.lateness
  pub cost : cost_after g ready l.lateness_cost ≡ m.lateness_cost
  pub rest : l.rest ≡ m.rest

pub passed : (g : Gate) (ready service : Float) (l m : Label) → pass l ready service g ≡ Some m → Passed g ready service l m
unfolding pass departs_at late_after cost_after label_of
passed Open ready service l m e =
    let x = ap (label_of l) e in
    record { time = ap (λ (k : Label). k.time) x; lateness = ap (λ (k : Label). k.lateness) x; cost = ap (λ (k : Label). k.lateness_cost) x; rest = ap (λ (k : Label). k.rest) x }
passed (Hard w) ready service l m e = go (violated_of w ready) e
  where
    go : (b : Bool) → cond b None (Some (leaving_at l (departure_of w ready service))) ≡ Some m → Passed (Hard w) ready service l m
    go true f = absurd (not_done m f)
    go false f =
        let x = ap (label_of l) f in
        record { time = ap (λ (k : Label). k.time) x; lateness = ap (λ (k : Label). k.lateness) x; cost = ap (λ (k : Label). k.lateness_cost) x; rest = ap (λ (k : Label). k.rest) x }
passed (Soft w penalty) ready service l m e = go (violated_of w ready) refl
  where
    go : (b : Bool) → violated_of w ready ≡ b → Passed (Soft w penalty) ready service l m
    go true v =
        let x = ap (label_of l) (rw v at e) in
        record { time = ap (λ (k : Label). k.time) x; lateness = rw v (ap (λ (k : Label). k.lateness) x); cost = rw v (ap (λ (k : Label). k.lateness_cost) x); rest = ap (λ (k : Label). k.rest) x }
    go false v =
        let x = ap (label_of l) (rw v at e) in
        record { time = ap (λ (k : Label). k.time) x; lateness = rw v (ap (λ (k : Label). k.lateness) x); cost = rw v (ap (λ (k : Label). k.lateness_cost) x); rest = ap (λ (k : Label). k.rest) x }

-- ---- one stop further
abbrev placed : Float → RestAnswer → Placed
placed duration r = record { answer = r; duration = duration }

visit : (s : List ℕ) (t : Placed) (p : Progress) (row : ℕ) (ready : Float) (l m : Label) → ready_for t.answer t.duration p.place (p.departure ⊕ time_of s p.prev row) ≡ ready
    → p.lateness ≡ l.lateness → p.lateness_cost ≡ l.lateness_cost
    → pass l ready (stop_of s row).service (stop_of s row).gate ≡ Some m → Agree m (visited_of s t p row)
unfolding visited_of
visit s t p row ready l m r a b e =
    let q = passed (stop_of s row).gate ready (stop_of s row).service l m e in
    record { time = rw r q.time; lateness = rw (r, a) q.lateness; cost = rw (r, b) q.cost }

-- a rest that stands elsewhere does not matter here
elsewhere : (s : List ℕ) (duration : Float) (p : Progress) (row at : ℕ) (start : Float) → (at ≡ p.place → ⊥) → visited_of s (placed duration (Some (at, start))) p row ≡ visited_of s (placed duration None) p row
unfolding visited_of ready_for
elsewhere s duration p row at start h = rw (ne_eqb at p.place h)

abbrev pub IfDone : (Label → Type 0) → Option Label → Type 0
IfDone P (Some l) = P l
IfDone P None = Unit

pub if_done : (P : Label → Type 0) (x : Option Label) → ((m : Label) → x ≡ Some m → P m) → IfDone P x
if_done P (Some m) h = h m refl
if_done P None h = tt

pub either : (P : Label → Type 0) (x y : Option Label) → IfDone P x → IfDone P y → IfDone P (earlier_of x y)
unfolding earlier_of
either P None y u v = v
either P (Some a) None u v = u
either P (Some a) (Some b) u v = go (wins_over b a)
  where
    go : (t : Bool) → IfDone P (cond t (Some b) (Some a))
    go true = v
    go false = u

-- ---- the walk, and the records of every rest at once: f gives the one of a rest that stands so
pub record Rested (place : ℕ) (f : RestAnswer → Progress) (l : Label) : Type 0 where
  pub at : ℕ
  pub start : Float
  pub rest : l.rest ≡ Some (at, start)
  pub past : at < place
  pub agree : Agree l (f (Some (at, start)))

-- how long a vehicle rests
abbrev lasts : Option VehicleBreak → Float
lasts None = nought
lasts (Some b) = b.duration

pub record Tracks (kept : Option VehicleBreak) (p : Position) (f : RestAnswer → Progress) : Type 0 where
  pub rest : p.clock.rest ≡ kept
  pub prev : (r : RestAnswer) → (f r).prev ≡ p.clock.prev
  pub place : (r : RestAnswer) → (f r).place ≡ p.clock.place
  pub travelled : (r : RestAnswer) → (f r).distance ≡ p.distance
  pub future : (at : ℕ) (start : Float) → p.clock.place ≤ at → f (Some (at, start)) ≡ f None
  pub before : IfDone (λ (l : Label). Agree l (f None)) p.clock.before
  pub after : IfDone (Rested p.clock.place f) p.clock.after

-- one stop further
abbrev next : List ℕ → ℕ → Float → (RestAnswer → Progress) → RestAnswer → Progress
next s row duration f r = visited_of s (placed duration r) (f r) row

module _ (s : List ℕ) (row : ℕ) (rest : Option VehicleBreak) (p : Position) (f : RestAnswer → Progress) (k : Tracks rest p f) where
  abbrev c : Clock
  c = p.clock

  abbrev travel : Float
  travel = time_of s c.prev row

  -- when the vehicle is there, by the record and by a label
  arrives : (r : RestAnswer) (l : Label) → Agree l (f r) → (f r).departure ⊕ time_of s (f r).prev row ≡ l.time ⊕ travel
  arrives r l a = rw (a.time, k.prev r)

  skipped : (duration : Float) → IfDone (λ (l : Label). Agree l (next s row duration f None)) (step_of c.before travel (stop_of s row))
  unfolding step_of serve_of ready_for
  skipped duration = go c.before k.before
    where
      go : (x : Option Label) → IfDone (λ (l : Label). Agree l (f None)) x → IfDone (λ (l : Label). Agree l (next s row duration f None)) (step_of x travel (stop_of s row))
      go None a = tt
      go (Some l) a =
          if_done (λ (m : Label). Agree m (next s row duration f None)) (pass l (l.time ⊕ travel) (stop_of s row).service (stop_of s row).gate)
          (λ m e. visit s (placed duration None) (f None) row (l.time ⊕ travel) l m (arrives None l a) a.lateness a.cost e)

  carried : (duration : Float) → IfDone (Rested (c.place + 1) (next s row duration f)) (step_of c.after travel (stop_of s row))
  unfolding step_of serve_of ready_for
  carried duration = go c.after k.after
    where
      go : (x : Option Label) → IfDone (Rested c.place f) x → IfDone (Rested (c.place + 1) (next s row duration f)) (step_of x travel (stop_of s row))
      go None a = tt
      go (Some l) a =
          if_done (Rested (c.place + 1) (next s row duration f)) (pass l (l.time ⊕ travel) (stop_of s row).service (stop_of s row).gate)
          (λ m e. record {
            at = a.at;
            start = a.start;
            rest = sym (passed (stop_of s row).gate (l.time ⊕ travel) (stop_of s row).service l m e).rest ∙ a.rest;
            past = omega (arith, a.past);
            agree = visit s (placed duration (Some (a.at, a.start))) (f (Some (a.at, a.start))) row (l.time ⊕ travel) l m
                (rw (ne_eqb a.at (f (Some (a.at, a.start))).place (λ q. omega (arith, a.past, q, k.place (Some (a.at, a.start))))) (arrives (Some (a.at, a.start)) l a.agree))
                a.agree.lateness a.agree.cost e;
          })

  -- the rest taken before this stop: until here it did not matter
  here : (b : VehicleBreak) → IfDone (Rested (c.place + 1) (next s row b.duration f)) (step_rested c.before travel (stop_of s row) c.place b)
  unfolding step_rested serve_rested ready_for
  here b = go c.before k.before
    where
      go : (x : Option Label) → IfDone (λ (l : Label). Agree l (f None)) x → IfDone (Rested (c.place + 1) (next s row b.duration f)) (step_rested x travel (stop_of s row) c.place b)
      go None a = tt
      go (Some l) a = begun (lt b.latest start) (λ m e. record {
        at = c.place;
        start = start;
        rest = sym (passed (stop_of s row).gate (start ⊕ b.duration) (stop_of s row).service (rested_at l c.place start) m e).rest;
        past = omega arith;
        agree = visit s (placed b.duration (Some (c.place, start))) (f (Some (c.place, start))) row (start ⊕ b.duration) (rested_at l c.place start) m
            (rw (eq-eqb c.place (f (Some (c.place, start))).place (sym (k.place (Some (c.place, start)))))) (ap (λ (q : Progress). q.lateness) same ∙ a.lateness) (ap (λ (q : Progress). q.lateness_cost) same ∙ a.cost) e;
      })
        where
          start : Float
          start = later_of (l.time ⊕ travel) b.earliest

          same : f (Some (c.place, start)) ≡ f None
          same = k.future c.place start (omega arith)

          begun : (t : Bool) → ((m : Label) → pass (rested_at l c.place start) (start ⊕ b.duration) (stop_of s row).service (stop_of s row).gate ≡ Some m → Rested (c.place + 1) (next s row b.duration f) m)
              → IfDone (Rested (c.place + 1) (next s row b.duration f)) (cond t None (pass (rested_at l c.place start) (start ⊕ b.duration) (stop_of s row).service (stop_of s row).gate))
          begun true h = tt
          begun false h = if_done (Rested (c.place + 1) (next s row b.duration f)) (pass (rested_at l c.place start) (start ⊕ b.duration) (stop_of s row).service (stop_of s row).gate) h

  taken : (r : Option VehicleBreak) → IfDone (Rested (c.place + 1) (next s row (lasts r) f)) (taken_of r c.before c.after travel (stop_of s row) c.place)
  unfolding taken_of
  taken None = tt
  taken (Some b) =
      either (Rested (c.place + 1) (next s row b.duration f)) (step_of c.after travel (stop_of s row)) (step_rested c.before travel (stop_of s row) c.place b) (carried b.duration) (here b)

  tracked : Tracks rest (drive_to s p row) (next s row (lasts rest) f)
  unfolding visited_of drive_to moved_of
  tracked = record {
    rest = k.rest;
    prev = λ r. refl;
    place = λ r. ap (λ (n : ℕ). n + 1) (k.place r);
    travelled = λ r. rw (k.travelled r, k.prev r);
    future = λ at start h. further at start h;
    before = skipped (lasts rest);
    after = rw k.rest (taken rest);
  }
    where
      further : (at : ℕ) (start : Float) → c.place + 1 ≤ at → next s row (lasts rest) f (Some (at, start)) ≡ next s row (lasts rest) f None
      further at start h =
          elsewhere s (lasts rest) (f (Some (at, start))) row at start (λ q. omega (arith, h, q, k.place (Some (at, start))))
          ∙ ap (λ (q : Progress). visited_of s (placed (lasts rest) None) q row) (k.future at start (omega arith))

-- ---- home
-- a record's figures, as a schedule says them
abbrev pub figures : Record → Schedule
figures r = record { distance = r.distance; duration = r.duration; lateness = r.lateness; lateness_cost = r.lateness_cost; rest = r.rest }

kept : Schedule → Option Schedule → Schedule
kept d (Some k) = k
kept d None = d

unlawful : (k : Schedule) → None ≡ Some k → ⊥
unlawful k e = let z : ◌≡◌ {A = ℕ} 0 1 = cc in omega arith

-- a rest that stands before `place`, or none
abbrev pub Behind : ℕ → RestAnswer → Type 0
Behind place None = Unit
Behind place (Some (at, start)) = at < place

-- does not matter there
pub ready_behind : (r : RestAnswer) (duration : Float) (place : ℕ) (x : Float) → Behind place r → ready_for r duration place x ≡ x
unfolding ready_for
ready_behind None duration place x h = refl
ready_behind (Some (at, start)) duration place x h = rw (ne_eqb at place (λ e. omega (arith, h, e)))

home : (s : List ℕ) (depot prev : ℕ) (distance : Float) (t : Placed) (l : Label) (p : Progress) → Agree l p → p.prev ≡ prev → p.distance ≡ distance → Behind p.place t.answer
    → figures (record_of s depot t p) ≡ home_schedule l (distance ⊕ distance_of s prev depot) (time_of s prev depot) t.answer
unfolding record_of
home s depot prev distance t l p a e d h = rw (ready_behind t.answer t.duration p.place (p.departure ⊕ time_of s p.prev depot) h, a.time, a.lateness, a.cost, e, d)

-- with the rest there
home_rested : (s : List ℕ) (depot prev place : ℕ) (distance start duration : Float) (l : Label) (p : Progress) → Agree l p → p.prev ≡ prev → p.distance ≡ distance → place ≡ p.place
    → figures (record_of s depot (placed duration (Some (place, start))) p) ≡ record { distance = distance ⊕ distance_of s prev depot; duration = start ⊕ duration; lateness = l.lateness; lateness_cost = l.lateness_cost; rest = Some (place, start) }
unfolding record_of ready_for
home_rested s depot prev place distance start duration l p a e d h = rw (eq-eqb place p.place h, a.lateness, a.cost, e, d)

abbrev Ends : List ℕ → ℕ → Float → (RestAnswer → Progress) → Schedule → Type 0
Ends s depot duration f k = figures (record_of s depot (placed duration k.rest) (f k.rest)) ≡ k

module _ (s : List ℕ) (depot : ℕ) (rest : Option VehicleBreak) (p : Position) (f : RestAnswer → Progress) (t : Tracks rest p f) where
  far : Float
  far = p.distance ⊕ distance_of s p.clock.prev depot

  back : Float
  back = time_of s p.clock.prev depot

  -- the schedule's rest stands on the way, and the record with it there is the schedule
  abbrev Comes : Schedule → Type 0
  Comes k = Behind p.clock.place k.rest × Ends s depot (lasts rest) f k

  finished : (k : Schedule) → home_from s depot p ≡ Some k → Comes k
  unfolding home_from returned unrested homeward end_of kept far back
  finished k e = by rest (rw t.rest at e)
    where
      early_home : (l : Label) → Agree l (f None) → Some (home_schedule l far back None) ≡ Some k → Comes k
      early_home l a q = subst Comes (ap (kept k) q) (tt, home s depot p.clock.prev p.distance (placed (lasts rest) None) l (f None) a (t.prev None) (t.travelled None) tt)

      ended : (x : Option Label) → IfDone (Rested p.clock.place f) x → end_of x far back ≡ Some k → Comes k
      ended None a q = absurd (unlawful k q)
      ended (Some l) a q =
          let r = Some (a.at, a.start) in
          subst Comes (ap (kept k) (sym (ap (λ (r : RestAnswer). Some (home_schedule l far back r)) a.rest) ∙ q))
          (a.past, home s depot p.clock.prev p.distance (placed (lasts rest) r) l (f r) a.agree (t.prev r) (t.travelled r) (omega (arith, a.past, t.place r)))

      plain : (x : Option Label) → IfDone (λ (l : Label). Agree l (f None)) x → unrested x far back ≡ Some k → Comes k
      plain None a q = absurd (unlawful k q)
      plain (Some l) a q = early_home l a q

      rested : (b : VehicleBreak) (x y : Option Label) → IfDone (λ (l : Label). Agree l (f None)) x → IfDone (Rested p.clock.place f) y → homeward b x y far back ≡ Some k → Comes k
      rested b None y u v q = ended y v q
      rested b (Some l) y u v q = early (le (l.time ⊕ back) b.earliest) q
        where
          early : (w : Bool) → cond w (Some (home_schedule l far back None)) (end_of y far back) ≡ Some k → Comes k
          early true r = early_home l u r
          early false r = ended y v r

      by : (r : Option VehicleBreak) → returned r p.clock.before p.clock.after far back ≡ Some k → Comes k
      by None q = plain p.clock.before t.before q
      by (Some b) q = rested b p.clock.before p.clock.after t.before t.after q

  -- the walk without a rest, with it at home: until there it did not matter
  finished_home : (b : VehicleBreak) (j : Schedule) → plain_from s depot p ≡ Some j → Ends s depot b.duration f (rested_home b p.clock.place j)
  unfolding unrested kept far back
  finished_home b j e = go p.clock.before t.before e
    where
      go : (x : Option Label) → IfDone (λ (l : Label). Agree l (f None)) x → unrested x far back ≡ Some j → Ends s depot b.duration f (rested_home b p.clock.place j)
      go None a q = absurd (unlawful j q)
      go (Some l) a q =
          let start = home_start b (l.time ⊕ back) in
          subst (λ (i : Schedule). Ends s depot b.duration f (rested_home b p.clock.place i)) (ap (kept j) q)
          (rw (t.future p.clock.place start (omega arith))
          (home_rested s depot p.clock.prev p.clock.place p.distance start b.duration l (f None) a (t.prev None) (t.travelled None) (sym (t.place None))))

-- ---- the whole round
-- the records of every rest, after the round's stops
abbrev driven : List ℕ → ℕ → Option VehicleBreak → List ℕ → RestAnswer → Progress
driven s depot rest route r = progress_of s (placed (lasts rest) r) (begin_of depot) route

tracked_over : (s : List ℕ) (rest : Option VehicleBreak) (p : Position) (f : RestAnswer → Progress) (rows : List ℕ) → Tracks rest p f → Tracks rest (walked_over s p rows) (λ (r : RestAnswer). progress_of s (placed (lasts rest) r) (f r) rows)
tracked_over s rest p f [] t = t
tracked_over s rest p f (row ∷ rows) t = tracked_over s rest (drive_to s p row) (next s row (lasts rest) f) rows (tracked s row rest p f t)

tracked_round : (s : List ℕ) (depot : ℕ) (rest : Option VehicleBreak) (route : List ℕ) → Tracks rest (walked_over s (start_at rest depot) route) (driven s depot rest route)
tracked_round s depot rest route =
    tracked_over s rest (start_at rest depot) (λ (r : RestAnswer). begin_of depot) route
    (record { rest = refl; prev = λ r. refl; place = λ r. refl; travelled = λ r. refl; future = λ at start h. refl; before = record { time = refl; lateness = refl; cost = refl }; after = tt })

-- a schedule's rest stands before one of its stops
pub schedule_behind : (s : List ℕ) (depot : ℕ) (rest : Option VehicleBreak) (route : List ℕ) (k : Schedule) → scheduled_of s depot rest route ≡ Some k → Behind (1 + length route) k.rest
unfolding scheduled_of
schedule_behind s depot rest route k e =
    subst (λ (n : ℕ). Behind n k.rest) (walked_place s (start_at rest depot) route)
    (finished s depot rest (walked_over s (start_at rest depot) route) (driven s depot rest route) (tracked_round s depot rest route) k e).0

-- the rest stands where the verdict has it
pub verdict_rest : (v : Verdict) (k : Schedule) → eval_of v ≡ Some k → placed_rest v ≡ k.rest
verdict_rest (allowed j) k e = let same : j ≡ k = cc in ap (λ (i : Schedule). i.rest) same
verdict_rest (over_limit j) k e = let z : ◌≡◌ {A = ℕ} 0 1 = cc in absurd (omega arith)
verdict_rest no_schedule k e = let z : ◌≡◌ {A = ℕ} 0 1 = cc in absurd (omega arith)

module _ (s : List ℕ) (depot : ℕ) (limits : RouteLimits) (route : List ℕ) (k : Schedule) (a : route_eval s depot limits route ≡ Some k) where
  placed_allowed : (limits.rest ≡ None → k.rest ≡ None) → placed_of s depot limits route ≡ placed (lasts limits.rest) k.rest
  unfolding placed_of route_eval
  placed_allowed none = by limits.rest none
    where
      by : (r : Option VehicleBreak) → (r ≡ None → k.rest ≡ None) → placed_by r (verdict_on s depot limits route) ≡ placed (lasts r) k.rest
      by None none = ap (placed nought) (sym (none refl))
      by (Some b) none = ap (placed b.duration) (verdict_rest (verdict_on s depot limits route) k a)

  scheduled_agree : scheduled_of s depot limits.rest route ≡ Some k → figures (build_route s depot limits route) ≡ k
  unfolding build_route scheduled_of
  scheduled_agree e =
      rw (placed_allowed (λ r. unrested_answer s depot route k (ap (λ (x : Option VehicleBreak). scheduled_of s depot x route) (sym r) ∙ e)))
      (finished s depot limits.rest (walked_over s (start_at limits.rest depot) route) (driven s depot limits.rest route) (tracked_round s depot limits.rest route) k e).1

  mended_agree : Mended limits limits.rest (1 + length route) (scheduled_of s depot None route) k → figures (build_route s depot limits route) ≡ k
  unfolding build_route
  mended_agree m =
      let b = m.b in
      let ends = finished_home s depot (Some b) (walked_over s (start_at (Some b) depot) route) (driven s depot (Some b) route) (tracked_round s depot (Some b) route) b m.j (plain_walk s depot (Some b) route ∙ m.walked) in
      rw (placed_allowed (λ r. absurd (resting b (sym r ∙ m.resting))), m.resting)
      (subst (Ends s depot b.duration (driven s depot (Some b) route)) (ap (λ (n : ℕ). rested_home b n m.j) (walked_place s (start_at (Some b) depot) route) ∙ m.is) ends)
    where
      resting : (b : VehicleBreak) → None ≡ Some b → ⊥
      resting b e = let z : ◌≡◌ {A = ℕ} 0 1 = cc in omega arith

pub eval_agree : (s : List ℕ) (depot : ℕ) (limits : RouteLimits) (route : List ℕ) (k : Schedule) → route_eval s depot limits route ≡ Some k → figures (build_route s depot limits route) ≡ k
eval_agree s depot limits route k a = go (allowed_figures s depot limits route k a)
  where
    go : (scheduled_of s depot limits.rest route ≡ Some k) ⊎ Mended limits limits.rest (1 + length route) (scheduled_of s depot None route) k → figures (build_route s depot limits route) ≡ k
    go (inl e) = scheduled_agree s depot limits route k a e
    go (inr m) = mended_agree s depot limits route k a m
