-- Without soft windows a round closes only when no later stop fits at any place of it. Assumes nothing.
use Rattle.std.specs.Prelude.{◌≡◌, ℕ, zero, suc, ◌+◌, ◌≤◌, ◌<◌, Bool, List, [], ◌∷◌, ◌++◌, Float, length, get_or, take, drop}
use Rattle.std.proofs.Math.Path.{refl}
use Rattle.std.proofs.Common.{sym, ap, ◌∙◌, subst, le_of_suc-le-suc, not-suc-le-zero, add-one, arith, true≢false, eqb-true}
use Rattle.std.proofs.Math.Bool.{true, false}
use Rattle.std.proofs.Math.Dec.{T, eqb}
use Rattle.lists.specs.Count.{one, count}
use Rattle.lists.specs.Laws.Once.{count_append}
use Rattle.lists.specs.Laws.Permutation.{every_counted}
use Rattle.lists.specs.Every.{Every}
use Rattle.lists.specs.Laws.Every.{every_of, every_append, every_take, every_drop}
use Rattle.lists.specs.Moved.{without, inserted}
use Rattle.lists.specs.Laws.Moved.{without_every}
use Rattle.lists.specs.Ascending.{Ascending}
use Rattle.sheet.specs.Laws.Finite.{distance_bounded}
use Rattle.evaluation.specs.Checks.{has_soft_windows}
use Rattle.evaluation.specs.Routed.{Routed}
use Rattle.constructive.specs.Outcome.{Round, Outcome, chains, round_at}
use Rattle.constructive.specs.declared.terms.Terms.{Terms}
use Rattle.constructive.specs.Terms.{terms_of}
use Rattle.constructive.specs.Laws.Terms.{Meant, terms_meant}
use Rattle.insertion.specs.Place.{feasible_in, carries, detour, unfit, judged}
use Rattle.insertion.specs.Laws.Judging.{hard_judge}
use Rattle.insertion.specs.Lawful.{ClosedTo}
use Rattle.insertion.specs.Laws.Lawful.{terms_place, both_not}
use Rattle.solomon_i1_judging.specs.Laws.Chosen.{Shut}
use Rattle.solomon_i1.specs.Insertion.{growing, route_in, left_in, seed_of, solomon_i1}
use Rattle.solomon_i1.specs.Laws.Grown.{grow_on_kept, grow_on_shut}
use Rattle.solomon_i1.specs.Laws.Planned.{seed_in, rest_in, round_in, Seeds, planned}
use Rattle.solomon_i1.specs.Laws.Permutation.{Same, seeds_same}
use Rattle.solomon_i1.specs.Later.{seeds_first, ClosedHigher, ClosedAside}
use Rattle.solomon_i1.specs.Laws.First.{Leg, seed_first_lem}

-- ---- what stands in an outcome
pub aside_in : (x : ℕ) (rounds : List Round) (aside : List ℕ) → count x aside ≤ count x (chains rounds aside)
unfolding chains
aside_in x [] aside = omega arith
aside_in x (r ∷ rs) aside =
    let e = count_append x r.stops (chains rs aside) in
    let l = aside_in x rs aside in
    omega (arith, e, l)

pub round_in_lem : (x : ℕ) (rounds : List Round) (aside : List ℕ) (i : ℕ) → count x (round_at rounds i).stops ≤ count x (chains rounds aside)
unfolding chains count
round_in_lem x [] aside i = omega arith
round_in_lem x (r ∷ rs) aside zero = let e = count_append x r.stops (chains rs aside) in omega (arith, e)
round_in_lem x (r ∷ rs) aside (suc i) =
    let e = count_append x r.stops (chains rs aside) in
    let l = round_in_lem x rs aside i in
    omega (arith, e, l)

-- ---- a round that closed
judged_unfit : (b : Bool) (cost : Float) → judged b cost ≡ unfit → T b → ⊥
judged_unfit true cost e h = let q : true ≡ false = cc in true≢false q
judged_unfit false cost e h = h

module _ (s : List ℕ) (t : Terms) (m : Meant s t) (hard : t.soft ≡ false) where
  shut_closed : (route : List ℕ) (row : ℕ) → Shut s t route row → ClosedTo s t.depot (record { vehicle = t.vehicle; stops = route }) row
  shut_closed route row shut k h =
      let passed = feasible_in s t (inserted k row route) in
      sym (terms_place s t m route row k)
      ∙ both_not (carries s t route row) passed (λ a b. judged_unfit passed (detour s t.depot route row k) (sym (hard_judge s t route row k hard) ∙ shut a k h) b)

  abbrev round_by : List ℕ → Round
  round_by left = record { vehicle = t.vehicle; stops = route_in (round_in s t left) }

  -- a round is closed to the stops that it leaves
  round_closed : (left : List ℕ) (row : ℕ) → 0 < count row (left_in (round_in s t left)) → ClosedTo s t.depot (round_by left) row
  round_closed left row h =
      let g = round_in s t left in
      shut_closed (route_in g) row
      (every_counted (Shut s t (route_in g)) row (left_in g) (grow_on_shut s t (length (rest_in s t left)) (seed_in s t left ∷ []) (rest_in s t left) (omega arith)) h)

  -- ---- stops on rounds counted higher
  higher_more : (r : Round) (rs : List Round) → ((j row : ℕ) → 0 < count row (round_at rs j).stops → ClosedTo s t.depot r row) → ClosedHigher s t.depot rs → ClosedHigher s t.depot (r ∷ rs)
  higher_more r rs f g i zero row h l c = absurd (not-suc-le-zero h)
  higher_more r rs f g zero (suc j) row h l c = f j row c
  higher_more r rs f g (suc i) (suc j) row h l c = g i j row (le_of_suc-le-suc h) (le_of_suc-le-suc l) c

  abbrev Counted : List ℕ → Outcome → Type 0
  Counted left o = (x : ℕ) → Same s t x left o

  abbrev Higher : List ℕ → Outcome → Type 0
  Higher left o = Counted left o × ClosedHigher s t.depot o.rounds

  seeds_higher : Seeds s t Higher
  seeds_higher = record {
    none = (λ x. (seeds_same s t x).none, λ i j row h l c. absurd (not-suc-le-zero l));
    aside = λ left h e o q. (λ x. (seeds_same s t x).aside left h e o (q.0 x), q.1);
    round = λ left h e o q. (
      λ x. (seeds_same s t x).round left h e o (q.0 x),
      higher_more (round_by left) o.rounds
          (λ j row c. let k = round_in_lem row o.rounds o.aside j in let n = q.0 row in round_closed left row (omega (arith, k, n, c)))
          q.1,
    );
  }

pub insertion_closed_higher : (s : List ℕ) (depot v : ℕ) (members : List ℕ) → has_soft_windows s depot members ≡ false → ClosedHigher s depot (solomon_i1 s depot v members).rounds
unfolding solomon_i1 terms_of
insertion_closed_higher s depot v members hard = let t = terms_of s depot v members in let m = terms_meant s depot v members in (planned s t (Higher s t m hard) (seeds_higher s t m hard) (length members) members (omega arith)).1

-- ---- the stops left stay ascending, with legs
apart : (j : ℕ) (left : List ℕ) → Ascending left → Ascending (take j left ++ drop (suc j) left)
apart zero [] a = tt
apart zero (row ∷ rows) a = a.1
apart (suc j) [] a = tt
apart (suc j) (row ∷ rows) a = (
  every_append (λ (x : ℕ). row < x) (take j rows) (drop (suc j) rows) (every_take (λ (x : ℕ). row < x) j rows a.0) (every_drop (λ (x : ℕ). row < x) (suc j) rows a.0),
  apart j rows a.1,
)

pub record Known (s : List ℕ) (depot : ℕ) (left : List ℕ) : Type 0 where
  pub rising : Ascending left
  pub legs : Every (Leg s depot) left

known_without : (s : List ℕ) (depot j : ℕ) (left : List ℕ) → Known s depot left → Known s depot (without j left)
known_without s depot j left k = record {
  rising = rw (add-one j) (apart j left k.rising);
  legs = without_every (Leg s depot) left j k.legs;
}

-- ---- stops set aside
module _ (s : List ℕ) (t : Terms) (m : Meant s t) (hard : t.soft ≡ false) where
  abbrev depot : ℕ
  depot = t.depot

  round_known : (left : List ℕ) → Known s depot left → Known s depot (left_in (round_in s t left))
  round_known left k =
      grow_on_kept s t (λ route rest. Known s depot rest) (λ route rest j p h q u. known_without s depot j rest u)
      (length (rest_in s t left)) (growing (seed_in s t left ∷ []) (rest_in s t left)) (known_without s depot (seed_of s depot left) left k)

  -- one more set aside: none of the stops on rounds comes before it
  aside_more : (rounds : List Round) (seed : ℕ) (aside : List ℕ) → ((i y : ℕ) → 0 < count y (round_at rounds i).stops → seeds_first s depot y seed ≡ false)
      → ClosedAside s depot rounds aside → ClosedAside s depot rounds (seed ∷ aside)
  unfolding count
  aside_more rounds seed aside f g i row y l a c h = go (eqb row seed) refl a
    where
      go : (b : Bool) → eqb row seed ≡ b → 0 < one b + count row aside → ClosedTo s depot (round_at rounds i) row
      go true e a = absurd (subst T (ap (seeds_first s depot y) (eqb-true row seed e) ∙ f i y c) h)
      go false e a = g i row y l (omega (arith, a)) c h

  -- one round more, closed to all set aside after it
  round_more : (r : Round) (rs : List Round) (aside : List ℕ) → ((row : ℕ) → 0 < count row aside → ClosedTo s depot r row) → ClosedAside s depot rs aside → ClosedAside s depot (r ∷ rs) aside
  round_more r rs aside f g zero row y l a c h = f row a
  round_more r rs aside f g (suc i) row y l a c h = g i row y (le_of_suc-le-suc l) a c h

  abbrev Spared : List ℕ → Outcome → Type 0
  Spared left o = Counted s t m hard left o × (Known s depot left → ClosedAside s depot o.rounds o.aside)

  seeds_spared : Seeds s t Spared
  seeds_spared = record {
    none = (λ x. (seeds_same s t x).none, λ k i row y l. absurd (not-suc-le-zero l));
    aside = λ left h e o q. (
      λ x. (seeds_same s t x).aside left h e o (q.0 x),
      λ k.
          aside_more o.rounds (seed_in s t left) o.aside
          (λ i y c.
          let l = round_in_lem y o.rounds o.aside i in
          let n = q.0 y in
          every_counted (λ (y : ℕ). seeds_first s depot y (seed_in s t left) ≡ false) y (rest_in s t left) (seed_first_lem s depot left h k.legs k.rising) (omega (arith, l, n, c)))
          (q.1 (known_without s depot (seed_of s depot left) left k)),
    );
    round = λ left h e o q. (
      λ x. (seeds_same s t x).round left h e o (q.0 x),
      λ k.
          round_more (round_by s t m hard left) o.rounds o.aside
          (λ row a. let l = aside_in row o.rounds o.aside in let n = q.0 row in round_closed s t m hard left row (omega (arith, l, n, a)))
          (q.1 (round_known left k)),
    );
  }

routed_legs : (s : List ℕ) (depot : ℕ) (members : List ℕ) → Routed s depot members → Every (Leg s depot) members
routed_legs s depot members r = every_of (Leg s depot) 0 members (λ k h. distance_bounded s r.sheet depot (get_or members k 0) r.home (r.row k h))

pub insertion_closed_aside : (s : List ℕ) (depot v : ℕ) (members : List ℕ) → Routed s depot members → Ascending members → has_soft_windows s depot members ≡ false
    → ClosedAside s depot (solomon_i1 s depot v members).rounds (solomon_i1 s depot v members).aside
unfolding solomon_i1 terms_of
insertion_closed_aside s depot v members r a hard =
    let t = terms_of s depot v members in
    let m = terms_meant s depot v members in
    (planned s t (Spared s t m hard) (seeds_spared s t m hard) (length members) members (omega arith)).1 (record { rising = a; legs = routed_legs s depot members r })
