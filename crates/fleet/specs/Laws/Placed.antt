-- Document 01, "The plan": "That every pond stands once in the plan out too is proved." Assumes nothing.
use Rattle.std.specs.Prelude.{◌≡◌, refl, ℕ, zero, suc, ◌+◌, ◌≤◌, ◌<◌, Bool, true, false, ◌&&◌, ◌||◌, List, [], ◌∷◌, ◌++◌, T, leb, ltb, eqb, length, get_or, take, drop}
use Rattle.std.proofs.Common.{sym, ap, ◌∙◌, subst, add-one, arith, eqb→eq, ltb-true, ltb-false, leb-true, eqb-true, le-leb, lt-ltb}
use Rattle.std.specs.Float.Ieee.Fits.{and_i, and_l, and_r}
use Rattle.std.proofs.Math.Seq.{split_at}
use Rattle.lists.specs.Count.{one, count, is_in}
use Rattle.lists.specs.Laws.Count.{stop_counted}
use Rattle.lists.specs.Laws.Once.{count_append}
use Rattle.lists.specs.Every.{Every}
use Rattle.lists.specs.Moved.{inserted}
use Rattle.lists.specs.Laws.Moved.{without_count, inserted_count}
use Rattle.numbers.specs.Laws.All.{all_at, all_of}
use Rattle.sheet.specs.Fields.{rows_of, vehicles_of}
use Rattle.sheet.specs.Depots.{depots_of}
use Rattle.sheet.specs.Stops.{is_stop}
use Rattle.sheet.specs.Laws.Stops.{stops_count}
use Rattle.constructive.specs.Outcome.{Round, Outcome, chains, stops_of, round_at}
use Rattle.constructive.specs.Right.{ids_known, links_right, each_once, outcome_right}
use Rattle.constructive.specs.Laws.Right.{links_of}
use Rattle.constructive.specs.Laws.Stored.{chains_append, count_chains}
use Rattle.fleet.specs.Limit.{victim_of, without_round, put_in, Refit, refit_on, dropped, drop_round, limit_on, ascending, soft_in, limit_routes}
use Rattle.fleet.specs.Laws.Bounds.{victim_among}
use Rattle.fleet.specs.Laws.Steps.{refit_on_kept, limit_on_kept}
use Rattle.fleet.specs.Laws.Stood.{limit_every}

-- ---- a stop, counted over the rounds and those set aside
chains_count : (x : ℕ) (rs : List Round) (stops aside : List ℕ) → count x (chains rs (stops ++ aside)) ≡ count x stops + count x (chains rs aside)
chains_count x rs stops aside = omega (arith, count_chains x rs (stops ++ aside), count_append x stops aside, count_chains x rs aside)

put_count : (x i k row : ℕ) (rs : List Round) (aside : List ℕ) → i < length rs → count x (chains (put_in i k row rs) aside) ≡ one (eqb x row) + count x (chains rs aside)
unfolding chains put_in
put_count x i k row [] aside h = absurd (omega arith)
put_count x zero k row (r ∷ rs) aside h =
    omega (arith, count_append x (inserted k row r.stops) (chains rs aside), count_append x r.stops (chains rs aside), inserted_count k row r.stops x)
put_count x (suc i) k row (r ∷ rs) aside h =
    omega (arith, count_append x r.stops (chains (put_in i k row rs) aside), count_append x r.stops (chains rs aside), put_count x i k row rs aside (omega arith))

without_round_count : (x i : ℕ) (rs : List Round) (aside : List ℕ) → i < length rs → count x (chains rs aside) ≡ count x (round_at rs i).stops + count x (chains (without_round i rs) aside)
unfolding chains
without_round_count x i rs aside h =
    ap (λ (l : List Round). count x (chains l aside)) (split_at rs i (record { vehicle = 0; stops = [] }) h)
    ∙ ap (count x) (chains_append (take i rs) (round_at rs i ∷ drop (suc i) rs) aside)
    ∙ chains_count x (take i rs) (round_at rs i).stops (chains (drop (suc i) rs) aside)
    ∙ rw (chains_append (take i rs) (drop (i + 1) rs) aside, add-one i)

-- ---- rounds are dropped
module _ (s : List ℕ) (soft : Bool) (x : ℕ) where
  abbrev Holds : List ℕ → ℕ → Refit → Type 0
  Holds aside n y = count x y.pending + count x (chains y.rounds aside) ≡ n

  drop_count : (o : Outcome) → 0 < length o.rounds → count x (stops_of (drop_round s soft o)) ≡ count x (stops_of o)
  unfolding drop_round
  drop_count o h =
      let v = victim_of s o.rounds in
      let y = dropped s o.rounds in
      let z = refit_on s soft (length y.pending) y in
      let a = victim_among s o.rounds h in
      let e : Holds o.aside (count x (stops_of o)) y = rw a.stops (sym (without_round_count x v.round o.rounds o.aside a.round)) in
      chains_count x z.rounds z.pending o.aside
      ∙ refit_on_kept s soft (Holds o.aside (count x (stops_of o)))
      (λ w j i k l p u. omega (arith, u, without_count w.pending j l x, put_count x i k (get_or w.pending j 0) w.rounds o.aside p.round))
      (length y.pending) y e

  limit_on_count : (greatest n : ℕ) (o : Outcome) → count x (stops_of (limit_on s soft greatest n o)) ≡ count x (stops_of o)
  limit_on_count greatest n o =
      limit_on_kept s soft greatest (λ (q : Outcome). count x (stops_of q) ≡ count x (stops_of o)) (λ q h u. drop_count q h ∙ u) n o refl

-- ---- each stop once, and no other row
linked : (s : List ℕ) (x : ℕ) (rows : List ℕ) → T (links_right s rows) → is_stop s x ≡ false → count x rows ≡ 0
unfolding links_right count
linked s x [] t e = refl
linked s x (row ∷ rows) t e = go (eqb x row) refl (linked s x rows (and_r (is_stop s row) (links_right s rows) t) e)
  where
    go : (b : Bool) → eqb x row ≡ b → count x rows ≡ 0 → one b + count x rows ≡ 0
    go true f z = absurd (subst T (ap (is_stop s) (sym (eqb-true x row f)) ∙ e) (and_l (is_stop s row) (links_right s rows) t))
    go false f z = omega arith

right_once : (s rows : List ℕ) → T (links_right s rows) → T (each_once s rows) → (x : ℕ) → count x rows ≡ one (is_stop s x)
unfolding each_once
right_once s rows t u x = go (leb (depots_of s) x) (ltb x (rows_of s)) refl refl
  where
    found : (b : Bool) → ltb x (depots_of s) ≡ b → depots_of s ≤ x → T (b || eqb (count x rows) 1) → count x rows ≡ 1
    found true e l v = absurd (let k = ltb-true x (depots_of s) e in omega arith)
    found false e l v = eqb→eq (count x rows) 1 v

    go : (a b : Bool) → leb (depots_of s) x ≡ a → ltb x (rows_of s) ≡ b → count x rows ≡ one (a && b)
    go true true e f =
        found (ltb x (depots_of s)) refl (leb-true (depots_of s) x e) (all_at (λ i. ltb i (depots_of s) || eqb (count i rows) 1) (rows_of s) x (ltb-true x (rows_of s) f) u)
    go true false e f = linked s x rows t (rw (e, f))
    go false b e f = linked s x rows t (rw e)

pub outcome_once : (s : List ℕ) (o : Outcome) → T (outcome_right s o) → (x : ℕ) → count x (stops_of o) ≡ one (is_stop s x)
unfolding outcome_right
outcome_once s o t =
    let u = and_r (ids_known s o.rounds) (links_right s (stops_of o) && each_once s (stops_of o)) t in
    right_once s (stops_of o) (and_l (links_right s (stops_of o)) (each_once s (stops_of o)) u) (and_r (links_right s (stops_of o)) (each_once s (stops_of o)) u)

once_of : (s rows : List ℕ) → ((x : ℕ) → count x rows ≡ one (is_stop s x)) → T (each_once s rows)
unfolding each_once
once_of s rows f = all_of (λ i. ltb i (depots_of s) || eqb (count i rows) 1) (rows_of s) (λ i h. go i h (ltb i (depots_of s)) refl)
  where
    go : (i : ℕ) → i < rows_of s → (b : Bool) → ltb i (depots_of s) ≡ b → T (b || eqb (count i rows) 1)
    go i h true e = tt
    go i h false e =
        let c : count i rows ≡ 1 = f i ∙ rw (le-leb (depots_of s) i (ltb-false i (depots_of s) e), lt-ltb i (rows_of s) h) in
        rw c tt

-- set aside or not, it stands there once
settles : (stop : Bool) (routed aside : ℕ) → routed + aside ≡ one stop → routed + one (stop && ltb 0 aside) ≡ one stop
settles false routed aside e = omega arith
settles true routed aside e = go (ltb 0 aside) refl
  where
    go : (b : Bool) → ltb 0 aside ≡ b → routed + one b ≡ 1
    go true f = let h = ltb-true 0 aside f in omega arith
    go false f = let h = ltb-false 0 aside f in omega arith

limit_once : (s : List ℕ) (greatest : ℕ) (o : Outcome) → ((x : ℕ) → count x (stops_of o) ≡ one (is_stop s x)) → (x : ℕ) → count x (stops_of (limit_routes s greatest o)) ≡ one (is_stop s x)
unfolding limit_routes
limit_once s greatest o f x =
    let l = limit_on s (soft_in s o) greatest (length o.rounds) o in
    let e = limit_on_count s (soft_in s o) x greatest (length o.rounds) o in
    count_chains x l.rounds (ascending s l.aside)
    ∙ ap (λ (n : ℕ). count x (chains l.rounds []) + n) (stops_count s (λ c. is_in c l.aside) x)
    ∙ settles (is_stop s x) (count x (chains l.rounds [])) (count x l.aside) (sym (count_chains x l.rounds l.aside) ∙ e ∙ f x)

-- ---- every vehicle known
abbrev Known : List ℕ → Round → Type 0
Known s r = T (ltb r.vehicle (vehicles_of s))

known_every : (s : List ℕ) (rs : List Round) → T (ids_known s rs) → Every (Known s) rs
unfolding ids_known
known_every s [] t = tt
known_every s (r ∷ rs) t = (and_l (ltb r.vehicle (vehicles_of s)) (ids_known s rs) t, known_every s rs (and_r (ltb r.vehicle (vehicles_of s)) (ids_known s rs) t))

every_known : (s : List ℕ) (rs : List Round) → Every (Known s) rs → T (ids_known s rs)
unfolding ids_known
every_known s [] e = tt
every_known s (r ∷ rs) e = and_i (ltb r.vehicle (vehicles_of s)) (ids_known s rs) e.0 (every_known s rs e.1)

-- ---- the limiter
-- what refusal 10 asks of the plan in holds of the outcome again: every vehicle is known, every stop stands once, and no other row
pub limit_counts : (s : List ℕ) (greatest : ℕ) (o : Outcome) → T (outcome_right s o) → T (outcome_right s (limit_routes s greatest o))
unfolding outcome_right
limit_counts s greatest o t =
    let q = limit_routes s greatest o in
    let known = known_every s o.rounds (and_l (ids_known s o.rounds) (links_right s (stops_of o) && each_once s (stops_of o)) t) in
    let once = limit_once s greatest o (outcome_once s o t) in
    and_i (ids_known s q.rounds) (links_right s (stops_of q) && each_once s (stops_of q))
    (every_known s q.rounds (limit_every s greatest o (Known s) (λ r row k t h. h) known))
    (and_i (links_right s (stops_of q)) (each_once s (stops_of q)) (links_of s (stops_of q) (λ x h. stop_counted (is_stop s x) (omega (arith, h, once x)))) (once_of s (stops_of q) once))
