-- The chain after the rounds, and the outcome that the tables then hold. Assumes nothing.
use Rattle.std.specs.Prelude.{Option, Some, None, ℕ}
use mathlib.Core.Path.{◌≡◌, refl, sym, ap, ◌∙◌, subst}
use Prim.Native.Nat.{ℕ, zero, suc, ◌+◌, ◌-◌, ◌≤◌, ◌<◌}
use native.Mathlib.Numerals.{add-one}
use native.Mathlib.Omega.{arith}
use mathlib.Core.Bool.{false}
use mathlib.Core.List.{List, [], ◌++◌, append-nil}
use lib.Dec.{T}
use lib.ListN.{length, get_or, take}
use lib.Seq.{length-take-le, get_or-take}
use Rattle.sheet.specs.Fields.{rows_of}
use Rattle.constructive.specs.Outcome.{rounds_in, start_in, outcome_in, chains, stops_of}
use Rattle.constructive.specs.Tables.{Tables}
use Rattle.constructive.specs.Right.{links_right, each_once}
use Rattle.plan.specs.Read.{rounds_at, aside_at, chain_of, rounds_from, read_plan, plan_right}
use Rattle.plan_reader.specs.Reading.{stop_count, ReaderTables, ReadRight}
use Rattle.plan_reader.specs.Chains.{FollowedAs, RoundsRead, ChainsRead, ChainsAs}
use Rattle.plan_reader.specs.Laws.Links.{links_at}
use Rattle.plan_reader.specs.Laws.Tally.{once_length}
use Rattle.plan_reader.specs.Laws.Right.{PlanRight, right, wrong}
use Rattle.plan_reader.proofs.Splitting.{reaches, keeps, lies}
use Rattle.plan_reader.proofs.Rounding.{breaks, round_kept}

pub too_many : (s plan : List ℕ) → rows_of s < rounds_at plan → plan_right s plan ≡ false
too_many s plan h = wrong s plan (λ r. let f = r.few in omega arith)

module _ {s plan stops ends vehicles : List ℕ} {at : ℕ} (g : RoundsRead s plan stops ends vehicles (rounds_at plan) at) (few : rounds_at plan ≤ rows_of s) (size : rows_of s ≤ length stops) where
  abbrev aside : List ℕ
  aside = chain_of s plan (aside_at plan)

  whole : stops_of (read_plan s plan) ≡ take at stops ++ aside
  unfolding rounds_from chains
  whole =
      let e : rounds_at plan - rounds_at plan ≡ 0 = omega arith in
      g.whole ∙ ap (λ (n : ℕ). take at stops ++ chains (rounds_from s plan n (rounds_at plan)) aside) e

  -- the chain of the stops set aside, by its answer
  pub chained : (after : List ℕ) (r : Option ℕ) → length after ≡ length stops → FollowedAs s (take at stops ++ aside) r after → ChainsAs s plan r after ends vehicles
  chained after (Some total) long f =
      let here : at ≤ length stops = omega (arith, g.room) in
      let there : total ≤ length after = omega (arith, f.room) in
      let e = reaches stops after aside at total here there f.same in
      let on : at ≤ total = omega arith in
      let far : at ≤ length after = omega arith in
      record {
        few = few;
        room = f.room;
        read = λ j h. round_kept s plan (g.read j h) refl refl refl on here far (keeps stops after aside at total here there f.same);
        aside = rw (← g.place) (lies stops after aside at total here there f.same);
        links = subst (λ (x : List ℕ). T (links_right s x)) f.same f.links;
        whole = whole ∙ f.same;
      }
  chained after None long f = breaks s plan (take at stops ++ aside) [] (whole ∙ sym (append-nil (take at stops ++ aside))) f

-- ---- every chain is read
module _ {s plan stops ends vehicles : List ℕ} (lent : ReaderTables s plan stops ends vehicles) {total : ℕ} (g : ChainsRead s plan stops ends vehicles total) where
  within : total ≤ length stops
  within = omega (arith, g.room, lent.rows)

  pub fails : each_once s (take total stops) ≡ false → plan_right s plan ≡ false
  fails e = wrong s plan (λ r. subst T (ap (each_once s) g.whole ∙ e) r.once)

  module _ (once : T (each_once s (take total stops))) where
    all : total ≡ stop_count s
    all = sym (length-take-le total stops within) ∙ once_length s (take total stops) g.links once

    plan_right_lem : PlanRight s plan
    plan_right_lem = record {
      few = g.few;
      known = λ k h. rw (← (g.read k h).index) (g.read k h).known;
      links = rw g.whole g.links;
      once = rw g.whole once;
    }

    rounds_same : (m start k : ℕ) → start ≡ start_in ends k → k + m ≡ rounds_at plan → rounds_in stops ends vehicles m start k ≡ rounds_from s plan m k
    unfolding rounds_in rounds_from
    rounds_same zero start k e f = refl
    rounds_same (suc m) start k e f =
        let r = g.read k (omega arith) in
        rw (e, r.index, r.chain, rounds_same m (get_or ends k 0) (k + 1) (rw add-one) (omega arith))

    outcome : outcome_in stops ends vehicles (rounds_at plan) total ≡ read_plan s plan
    unfolding outcome_in read_plan
    outcome = rw (rounds_same (rounds_at plan) 0 0 refl (omega arith), g.aside)

    tables : Tables s stops ends vehicles (rounds_at plan) total
    tables = record {
      sheet = lent.sheet;
      few = g.few;
      ended = omega (arith, g.few, lent.ended);
      fleet = omega (arith, g.few, lent.fleet);
      all = within;
      most = omega (arith, g.room, lent.sheet.sized.rows);
      ascending = λ k h. (g.read k h).from;
      within = λ k h. (g.read k h).to;
      row = λ i h. rw (← get_or-take total stops i 0 h) (links_at s (take total stops) i (rw (length-take-le total stops within) h) g.links).1;
      vehicle = λ k h. (g.read k h).known;
    }

    pub reads : (n : ℕ) → n ≡ rounds_at plan → ReadRight s plan stops ends vehicles n
    reads n e = record {
      right = right s plan plan_right_lem;
      rounds = e;
      outcome = rw (e, ← all) outcome;
      tables = rw (e, ← all) tables;
    }
