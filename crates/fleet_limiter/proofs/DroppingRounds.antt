-- The loop over the rounds that are too many: one is dropped, or no more are. Assumes nothing.
use mathlib.Core.Path.{◌≡◌, refl, sym, ap, ◌∙◌, subst}
use Prim.Native.Nat.{ℕ, zero, suc, ◌-◌, ◌≤◌, ◌<◌}
use native.Mathlib.Omega.{arith}
use mathlib.Core.Bool.{Bool}
use mathlib.Core.List.{List, ◌++◌}
use lib.ListN.{length, take, drop, length-drop, take-append-drop}
use lib.Seq.{length-take-le, take-take}
use borrow.Author.Tests.{lt-ltb, le-ltb}
use Rattle.constructive.specs.Outcome.{Outcome, start_in, outcome_in}
use Rattle.constructive.specs.Tables.{Tables}
use Rattle.constructive.specs.Laws.TableContents.{held_outcome}
use Rattle.fleet.specs.Limit.{Refit, refit_on, dropped, drop_round, limit_on}
use Rattle.fleet_tables.specs.Promises.{TablesOf}
use Rattle.fleet_tables.specs.Laws.Places.{stops_upto, total_long}
use Rattle.fleet_tables.specs.Laws.Places.{tabled as tabled_by}
use Rattle.fleet_tables.specs.Laws.Standing.{Sound, tables_tabled, tables_sound, sound_tables, aside_sound, joined_tabled, joined_sound}
use Rattle.fleet_limiter.specs.Promises.{TablesHold, set_down, refit_outcome}
use Rattle.fleet_limiter.proofs.Choosing.{whole, held, routed_within, alone_tables}

-- ---- the definition
limit_drops : (s : List ℕ) (soft : Bool) (greatest m : ℕ) (o : Outcome) → greatest < length o.rounds → limit_on s soft greatest (suc m) o ≡ limit_on s soft greatest m (drop_round s soft o)
unfolding limit_on
limit_drops s soft greatest m o h = rw (lt-ltb greatest (length o.rounds) h)

pub limit_rests : (s : List ℕ) (soft : Bool) (greatest m : ℕ) (o : Outcome) → length o.rounds ≤ greatest → limit_on s soft greatest m o ≡ o
unfolding limit_on
limit_rests s soft greatest zero o h = refl
limit_rests s soft greatest (suc m) o h = rw (le-ltb greatest (length o.rounds) h)

-- ---- the loop
pub record DroppingRounds (s : List ℕ) (soft : Bool) (greatest : ℕ) (stops₀ ends₀ vehicles₀ : List ℕ) (rounds total : ℕ) (stops ends vehicles : List ℕ) (n : ℕ) : Type 0 where
  pub tables : Tables s stops ends vehicles n total
  pub same : limit_on s soft greatest n (outcome_in stops ends vehicles n total) ≡ limit_on s soft greatest rounds (outcome_in stops₀ ends₀ vehicles₀ rounds total)

module _ {s : List ℕ} {soft : Bool} {greatest : ℕ} {stops₀ ends₀ vehicles₀ : List ℕ} {rounds total : ℕ} {stops ends vehicles : List ℕ} {n : ℕ}
    (g : DroppingRounds s soft greatest stops₀ ends₀ vehicles₀ rounds total stops ends vehicles n) where
  abbrev o : Outcome
  o = whole g.tables

  tabled : TablesOf stops ends vehicles n total o
  tabled = held g.tables

  pub ends_so : n ≤ greatest → TablesHold s stops ends vehicles n total (limit_on s soft greatest rounds (outcome_in stops₀ ends₀ vehicles₀ rounds total))
  ends_so h = record { tables = g.tables; outcome = sym (limit_rests s soft greatest n o (omega (arith, tabled.holds.count))) ∙ g.same }

  module _ (h : greatest < n) {routed : ℕ} (e : routed ≡ start_in ends n) where
    -- ---- what the call asks
    pub few : routed ≤ total
    few = routed_within g.tables e

    pub alone : Tables s stops ends vehicles n routed
    alone = alone_tables g.tables e

    -- ---- what it leaves
    module _ {stops' ends' vehicles' : List ℕ} (behind : drop routed stops' ≡ drop routed stops)
        (d : TablesHold s stops' ends' vehicles' (n - 1) routed (refit_outcome s soft (dropped s (outcome_in stops ends vehicles n routed).rounds))) where
      abbrev x : Refit
      x = refit_on s soft (length (dropped s o.rounds).pending) (dropped s o.rounds)

      abbrev part : List ℕ
      part = take routed stops'

      front_outcome : outcome_in stops' ends' vehicles' (n - 1) routed ≡ set_down x
      unfolding outcome_in
      front_outcome = d.outcome

      front_tabled : TablesOf stops' ends' vehicles' (n - 1) routed (set_down x)
      front_tabled = subst (TablesOf stops' ends' vehicles' (n - 1) routed) front_outcome (tables_tabled s stops' ends' vehicles' (n - 1) routed d.tables)

      part_long : length part ≡ routed
      part_long = length-take-le routed stops' front_tabled.within

      part_tabled : TablesOf part ends' vehicles' (n - 1) (length part) (set_down x)
      part_tabled = rw part_long
          (tabled_by part ends' vehicles' (n - 1) routed (set_down x) front_tabled.holds.count front_tabled.holds.ended front_tabled.holds.driven
          (take-take routed routed stops' (omega arith) ∙ stops_upto stops' ends' vehicles' (n - 1) routed (set_down x) front_tabled)
          (total_long stops' ends' vehicles' (n - 1) routed (set_down x) front_tabled)
          (omega (arith, part_long)))

      aside_long : length o.aside ≡ total - routed
      unfolding outcome_in
      aside_long = rw e (length-take-le (total - start_in ends n) (drop (start_in ends n) stops) (omega (arith, length-drop (start_in ends n) stops, g.tables.all)))

      behind_so : take (length o.aside) (drop routed stops') ≡ o.aside
      behind_so = ap (take (length o.aside)) behind ∙ ap (λ (k : ℕ). take k (drop routed stops)) aside_long ∙ rw e tabled.aside

      long : length (part ++ drop routed stops') ≡ length stops'
      long = ap length (take-append-drop routed stops')

      -- as many stops stand behind the rounds' as before
      within : total ≤ length stops'
      within = omega (arith, ap length behind, length-drop routed stops', length-drop routed stops, front_tabled.within, g.tables.all, few)

      joined : TablesOf (part ++ drop routed stops') ends' vehicles' (n - 1) total (drop_round s soft o)
      unfolding drop_round
      joined = joined_tabled part (drop routed stops') ends' vehicles' (n - 1) x.rounds x.pending o.aside part_tabled total (omega (arith, aside_long, part_long, few)) (omega (arith, long, within)) behind_so

      after : TablesOf stops' ends' vehicles' (n - 1) total (drop_round s soft o)
      after = rw (take-append-drop routed stops') at joined

      sound : Sound s (drop_round s soft o)
      unfolding drop_round
      sound = joined_sound s x.rounds x.pending o.aside (subst (Sound s) front_outcome (tables_sound s stops' ends' vehicles' (n - 1) routed d.tables)) (aside_sound s o (tables_sound s stops ends vehicles n total g.tables))

      after_outcome : outcome_in stops' ends' vehicles' (n - 1) total ≡ drop_round s soft o
      after_outcome = held_outcome stops' ends' vehicles' (record { rounds = n - 1; routed = start_in ends' (n - 1) }) total (drop_round s soft o) after

      pub goes_on : DroppingRounds s soft greatest stops₀ ends₀ vehicles₀ rounds total stops' ends' vehicles' (n - 1)
      goes_on =
          let m : suc (n - 1) ≡ n = omega arith in
          record {
            tables = sound_tables s stops' ends' vehicles' (n - 1) total (drop_round s soft o) after sound g.tables.sheet (omega (arith, g.tables.few)) g.tables.most;
            same =
                ap (limit_on s soft greatest (n - 1)) after_outcome
                ∙ sym (limit_drops s soft greatest (n - 1) o (omega (arith, tabled.holds.count)))
                ∙ ap (λ (c : ℕ). limit_on s soft greatest c o) m
                ∙ g.same;
          }
