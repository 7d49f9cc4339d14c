-- The stops set aside in order: the tables have the limited outcome. Assumes nothing.
use mathlib.Core.Path.{◌≡◌, sym, ap, ◌∙◌, subst}
use Prim.Native.Nat.{ℕ, ◌+◌}
use native.Mathlib.Omega.{arith}
use mathlib.Core.List.{List, [], ◌++◌}
use lib.Dec.{T}
use lib.ListN.{length, take}
use lib.Seq.{length-take-le}
use Rattle.lists.specs.Laws.Permutation.{same_length}
use Rattle.wire.specs.Bytes.{write}
use Rattle.wire.specs.Laws.Bytes.{length_write, take_write}
use Rattle.constructive.specs.Outcome.{Outcome, start_in, outcome_in, chains, stops_of}
use Rattle.constructive.specs.Laws.Stored.{length_rounds, length_chains}
use Rattle.constructive.specs.Stored.{routed_in}
use Rattle.constructive.specs.Members.{part}
use Rattle.constructive.specs.Right.{outcome_right}
use Rattle.constructive.specs.Tables.{Tables}
use Rattle.constructive.specs.Laws.TableStops.{stops_in}
use Rattle.constructive.specs.Laws.TableContents.{held_outcome, held_tables}
use Rattle.fleet.specs.Limit.{limit_on, ascending, soft_in, limit_routes}
use Rattle.fleet.specs.Laws.Placed.{outcome_once, limit_counts}
use Rattle.fleet_tables.specs.Promises.{TablesOf, Aside}
use Rattle.fleet_tables.specs.Laws.Places.{tabled}
use Rattle.fleet_tables.specs.Laws.Standing.{tables_tabled}
use Rattle.fleet_limiter.specs.Limitable.{Limitable}
use Rattle.fleet_limiter.specs.Promises.{TablesHold}

module _ {s stops₀ ends₀ vehicles₀ : List ℕ} {rounds total : ℕ} (l : Limitable s stops₀ ends₀ vehicles₀ rounds total) (greatest : ℕ) where
  abbrev o : Outcome
  o = outcome_in stops₀ ends₀ vehicles₀ rounds total

  abbrev limited : Outcome
  limited = limit_on s (soft_in s o) greatest rounds o

  limits : limit_routes s greatest o ≡ record { rounds = limited.rounds; aside = ascending s limited.aside }
  unfolding limit_routes outcome_in
  limits = rw (length_rounds stops₀ ends₀ vehicles₀ rounds 0 0)

  right : T (outcome_right s (limit_routes s greatest o))
  right = limit_counts s greatest o l.right

  -- as many stops as before
  all_there : routed_in limited.rounds + length (ascending s limited.aside) ≡ total
  all_there =
      sym (length_chains limited.rounds (ascending s limited.aside))
      ∙ ap (λ (q : Outcome). length (stops_of q)) (sym limits)
      ∙ same_length (stops_of (limit_routes s greatest o)) (stops_of o) (λ x. outcome_once s (limit_routes s greatest o) right x ∙ sym (outcome_once s o l.right x))
      ∙ ap length (stops_in s stops₀ ends₀ vehicles₀ rounds total l.tables)
      ∙ length-take-le total stops₀ l.tables.all

  module _ {stops ends vehicles : List ℕ} {n : ℕ} (g : TablesHold s stops ends vehicles n total limited) {from : ℕ} (e : from ≡ start_in ends n) where
    held : TablesOf stops ends vehicles n total limited
    held = subst (TablesOf stops ends vehicles n total) g.outcome (tables_tabled s stops ends vehicles n total g.tables)

    aside_so : part stops from total ≡ limited.aside
    aside_so = rw e held.aside

    start_so : from ≡ routed_in limited.rounds
    start_so = e ∙ held.holds.routed

    -- what the call of `order_aside` asks
    pub aside : Aside s stops from total
    aside = record {
      sheet = g.tables.sheet;
      order = omega (arith, e, held.from);
      within = g.tables.all;
      row = λ k h u. g.tables.row k u;
      once = rw aside_so (omega (arith, start_so, all_there, g.tables.all));
    }

    -- what that call leaves
    module _ {stops' : List ℕ} (ordered : stops' ≡ write stops from (ascending s (part stops from total))) where
      written : stops' ≡ write stops from (ascending s limited.aside)
      written = rw aside_so at ordered

      fits : from + length (ascending s limited.aside) ≡ total
      fits = omega (arith, start_so, all_there)

      front : take from stops ≡ chains limited.rounds []
      front = rw e held.holds.stopped

      after : TablesOf stops' ends vehicles n total (limit_routes s greatest o)
      after = rw limits
          (tabled stops' ends vehicles n total (record { rounds = limited.rounds; aside = ascending s limited.aside }) held.holds.count held.holds.ended held.holds.driven
          (ap (take total) written
          ∙ ap (λ (k : ℕ). take k (write stops from (ascending s limited.aside))) (sym fits)
          ∙ take_write stops from (ascending s limited.aside) (omega (arith, fits, g.tables.all))
          ∙ ap (λ (t : List ℕ). t ++ ascending s limited.aside) front)
          (sym all_there)
          (omega (arith, ap length written, length_write stops from (ascending s limited.aside) (omega (arith, fits, g.tables.all)), g.tables.all)))

      pub limited_outcome : outcome_in stops' ends vehicles n total ≡ limit_routes s greatest o
      limited_outcome = held_outcome stops' ends vehicles (record { rounds = n; routed = start_in ends n }) total (limit_routes s greatest o) after

      pub limited_tables : Tables s stops' ends vehicles n total
      limited_tables = held_tables stops' ends vehicles (record { rounds = n; routed = start_in ends n }) total (limit_routes s greatest o) after s g.tables.sheet right (omega (arith, after.holds.count, g.tables.few))
