-- A depot laid down behind the rounds that the tables hold. Assumes nothing.
use mathlib.Core.Path.{◌≡◌, refl, ap, ◌∙◌}
use Prim.Native.Nat.{ℕ, ◌+◌, ◌-◌, ◌≤◌, ◌<◌}
use native.Mathlib.Omega.{arith}
use mathlib.Core.Bool.{Bool, true, false, ◌&&◌}
use mathlib.Core.List.{List, [], ◌∷◌, ◌++◌, append-nil}
use lib.Dec.{eqb}
use lib.ListN.{length, get_or, take, drop}
use lib.Seq.{length-take-le, drop_at, take-append_seam}
use Rattle.lists.specs.Count.{one}
use Rattle.lists.specs.Laws.Permutation.{same_length}
use Rattle.lists.specs.Laws.Filter.{those_at}
use Rattle.wire.specs.Bytes.{write}
use Rattle.wire.specs.Laws.Bytes.{length_write}
use Rattle.wire.specs.Laws.Overwrite.{part_write}
use Rattle.sheet.specs.Fields.{rows_of}
use Rattle.sheet.specs.Depots.{depots_of}
use Rattle.sheet.specs.Laws.Depots.{depots_few}
use Rattle.sheet.specs.Stops.{is_stop}
use Rattle.sheet.specs.Laws.Stops.{stops_count}
use Rattle.sheet.specs.Fleet.{fleet_of}
use Rattle.constructive.specs.declared.tables.Filled.{Filled}
use Rattle.constructive.specs.Outcome.{Round, Outcome, chains, stops_of}
use Rattle.constructive.specs.Members.{part, members_of}
use Rattle.constructive.specs.Stored.{routed_in, filled_by, ends_from, vehicles_from, Stored}
use Rattle.constructive.specs.Laws.Stored.{chains_aside, length_chains, length_routed, length_ends, length_vehicles}
use Rattle.constructive.specs.TableContents.{HoldsRounds}
use Rattle.constructive.specs.Laws.TableContents.{holds_behind, holds_more}
use Rattle.multi_depot_offers.specs.ByDepot.{construct_of, planned_of}
use Rattle.multi_depot_offers.specs.Laws.Once.{planned_keeps}
use Rattle.multi_depot_offers.specs.Laws.Rounds.{planned_routed}
use Rattle.multi_depot_offers.specs.Promises.{PlanningTables, Ready, Next, construct_at}
use Rattle.multi_depot_planning.specs.DepotLaid.{DepotLaid}

-- ---- what is written stands there
pub part_there : (s : List ℕ) (at : ℕ) (xs : List ℕ) → at + length xs ≤ length s → part (write s at xs) at (at + length xs) ≡ xs
unfolding write
part_there s at xs h =
    let e : at + length xs - at ≡ length xs = omega arith in
    rw e (ap (take (length xs)) (drop_at (take at s) (xs ++ drop (at + length xs) s) at (length-take-le at s (omega arith))) ∙ take-append_seam xs (drop (at + length xs) s))

-- ---- the members
pub length_planned : (s : List ℕ) (d : ℕ) (members : List ℕ) → length (stops_of (planned_of s d members)) ≡ length members
length_planned s d members = same_length (stops_of (planned_of s d members)) members (planned_keeps s d members)

plans : (s : List ℕ) (d : ℕ) (members : List ℕ) → (length members ≡ 0 → ⊥) → construct_of s d members (fleet_of s d) ≡ planned_of s d members
unfolding planned_of
plans s d [] h = absurd (h refl)
plans s d (c ∷ cs) h = refl

member_row : (s at : List ℕ) (depot k : ℕ) → k < length (members_of s at depot) → get_or (members_of s at depot) k 0 < rows_of s
unfolding members_of
member_row s at depot k h = let q = those_at (λ c. eqb (get_or at c 0) depot) (rows_of s - depots_of s) (depots_of s) k h in omega arith

one_most : (b : Bool) → one b ≤ 1
one_most true = omega arith
one_most false = omega arith

module _ {s at stops ends vehicles : List ℕ} {depot : ℕ} {f : Filled} (lent : PlanningTables s at stops ends vehicles) (next : Next s at depot f) where
  within : f.routed + length (members_of s at depot) ≤ length stops
  within = omega (arith, next.room, lent.stopped)

  module _ {stops₁ : List ℕ} {total : ℕ} (counted : total ≡ f.routed + length (members_of s at depot)) (written : stops₁ ≡ write stops f.routed (members_of s at depot)) where
    long : length stops₁ ≡ length stops
    long = ap length written ∙ length_write stops f.routed (members_of s at depot) within

    there : part stops₁ f.routed total ≡ members_of s at depot
    there = rw (written, counted) (part_there stops f.routed (members_of s at depot) within)

    still : (rounds : List Round) → HoldsRounds stops ends vehicles f rounds → HoldsRounds stops₁ ends vehicles f rounds
    still rounds h = rw written (holds_behind stops ends vehicles f rounds h (members_of s at depot) within)

    -- the outcome of a depot without members is empty
    unassigned : total ≡ f.routed → planned_of s depot (members_of s at depot) ≡ record { rounds = []; aside = [] }
    unfolding planned_of
    unassigned e = go (members_of s at depot) (omega arith)
      where
        go : (ms : List ℕ) → length ms ≡ 0 → planned_of s depot ms ≡ record { rounds = []; aside = [] }
        go [] h = refl
        go (m ∷ ms) h = absurd (omega arith)

    pub none_shared : total ≡ f.routed → DepotLaid stops ends vehicles f (planned_of s depot (members_of s at depot)) stops₁ ends vehicles f total
    unfolding chains
    none_shared e = rw (unassigned e) (record {
      holds = λ rounds h. rw (append-nil rounds) (still rounds h);
      count = omega arith;
      from = omega arith;
      within = omega (arith, long, within);
      aside = let z : total - f.routed ≡ 0 = omega arith in rw z;
      long = record { stopped = long; ended = refl; driven = refl };
    })

    module _ (some : total ≡ f.routed → ⊥) where
      row : 0 < rows_of s
      row = let h = member_row s at depot 0 (omega (arith, some)) in omega arith

      pub ready : Ready s depot stops₁ ends vehicles f total
      unfolding members_of
      ready = record {
        members = record {
          routed = rw there (record {
            sheet = lent.sheet;
            home = omega (arith, next.home, depots_few s row);
            few = omega (arith, next.room, lent.sheet.sized.rows);
            row = member_row s at depot;
          });
          from = omega arith;
          most = omega (arith, next.room, lent.sheet.sized.rows);
          within = omega (arith, long, within);
        };
        once = λ x. rw there (omega (arith, stops_count s (λ c. eqb (get_or at c 0) depot) x, one_most (is_stop s x && eqb (get_or at x 0) depot)));
        room = record { rounds = next.rounds; ended = omega (arith, next.room, lent.ended); driven = omega (arith, next.room, lent.driven) };
      }

      outcome : construct_at s depot (part stops₁ f.routed total) ≡ planned_of s depot (members_of s at depot)
      outcome = rw there (plans s depot (members_of s at depot) (λ e. some (omega arith)))

      module _ {done : Filled} {stops₂ ends₂ vehicles₂ : List ℕ}
          (filled : done ≡ filled_by f (construct_at s depot (part stops₁ f.routed total)).rounds)
          (laid : Stored stops₁ ends vehicles f (construct_at s depot (part stops₁ f.routed total)) stops₂ ends₂ vehicles₂) where
        abbrev o : Outcome
        o = planned_of s depot (members_of s at depot)

        laid_so : Stored stops₁ ends vehicles f o stops₂ ends₂ vehicles₂
        laid_so = rw outcome at laid

        filled_so : done ≡ filled_by f o.rounds
        filled_so = filled ∙ ap (λ (p : Outcome). filled_by f p.rounds) outcome

        all : length (stops_of o) ≡ length (members_of s at depot)
        all = length_planned s depot (members_of s at depot)

        parts : length (stops_of o) ≡ routed_in o.rounds + length o.aside
        parts = length_chains o.rounds o.aside

        fits : f.routed + length (stops_of o) ≤ length stops₁
        fits = omega (arith, all, long, within)

        aside_there : part stops₂ done.routed total ≡ o.aside
        aside_there =
            let m : total - (f.routed + routed_in o.rounds) ≡ length o.aside = omega (arith, all, parts) in
            rw (filled_so, m, laid_so.stopped, ← length_routed o.rounds, chains_aside o.rounds o.aside)
            (part_write stops₁ f.routed (chains o.rounds []) o.aside (rw (chains_aside o.rounds o.aside) at fits))

        ends_fit : f.rounds + length o.rounds ≤ length ends
        ends_fit = omega (arith, planned_routed s depot (members_of s at depot), all, parts, next.rounds, next.room, lent.ended)

        vehicles_fit : f.rounds + length o.rounds ≤ length vehicles
        vehicles_fit = omega (arith, planned_routed s depot (members_of s at depot), all, parts, next.rounds, next.room, lent.driven)

        pub shares : DepotLaid stops ends vehicles f o stops₂ ends₂ vehicles₂ done total
        shares = record {
          holds = λ rounds h. rw filled_so (holds_more stops₁ ends vehicles f rounds (still rounds h) o stops₂ ends₂ vehicles₂ laid_so fits ends_fit vehicles_fit);
          count = omega (arith, all);
          from = rw filled_so (omega (arith, all, parts));
          within = omega (arith, ap length laid_so.stopped, length_write stops₁ f.routed (stops_of o) fits, long, within);
          aside = aside_there;
          long = record {
            stopped = ap length laid_so.stopped ∙ length_write stops₁ f.routed (stops_of o) fits ∙ long;
            ended = ap length laid_so.ended ∙ length_write ends f.rounds (ends_from f.routed o.rounds) (rw (length_ends f.routed o.rounds) ends_fit);
            driven = ap length laid_so.driven ∙ length_write vehicles f.rounds (vehicles_from o.rounds) (rw (length_vehicles o.rounds) vehicles_fit);
          };
        }
